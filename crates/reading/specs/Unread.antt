-- Which bytes of a message are not read: messageTypeSpecific, control, PDelayReq's reserved bytes, and all that lies behind a body.
use Rattle.std.specs.Prelude.{ℕ, ◌+◌, Bool, false, ◌&&◌, ◌||◌, List, [], ◌∷◌, leb, ltb}
use Rattle.wire.specs.declared.MessageType.TheVariants as M
use Rattle.wire.specs.declared.Kind.{Kind}
use Rattle.wire.specs.declared.Kind.TheVariants as K
use Rattle.octets.specs.Bytes.{Place}
use Rattle.wire.specs.Layout.{row, body, message_type_specific, control_field, reserved_bytes}

abbrev pub reserved_in : Kind → List Place
reserved_in (K.Table M.Sync) = []
reserved_in (K.Table M.DelayReq) = []
reserved_in (K.Table M.PDelayReq) = reserved_bytes ∷ []
reserved_in (K.Table M.PDelayResp) = []
reserved_in (K.Table M.FollowUp) = []
reserved_in (K.Table M.DelayResp) = []
reserved_in (K.Table M.PDelayRespFollowUp) = []
reserved_in K.Host = []
reserved_in K.Reserved = []

unfoldable pub unread : Kind → List Place
unread k = message_type_specific ∷ control_field ∷ reserved_in k

-- how many bytes are read at most: to the end of the body, and of a message that has none here to the end of the header
abbrev pub read_to : Kind → ℕ
read_to (K.Table t) = (row t).length
read_to K.Host = body
read_to K.Reserved = body

-- byte i lies in one of the places
abbrev pub lies : List Place → ℕ → Bool
lies [] i = false
lies (p ∷ ps) i = (leb p.at i && ltb i (p.at + p.width)) || lies ps i

-- byte i of a message of this kind is not read: it lies in such a place, or behind all that is read
unfoldable pub unread_at : Kind → ℕ → Bool
unread_at k i = leb (read_to k) i || lies (unread k) i
