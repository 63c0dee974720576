-- Clause 13 of IEEE 1588-2019 and 01's 'Wire form' as data: where each field stands, and which message has which body.
use Rattle.std.specs.Prelude.{ℕ, ◌+◌, ◌*◌, ◌/◌, ◌%◌, Bool, cond, List, [], ◌∷◌, ◌++◌, eqb}
use Rattle.time.specs.declared.WireTimestamp.{WireTimestamp}
use Rattle.wire.specs.declared.Identity.{Identity}
use Rattle.wire.specs.declared.Header.{Header}
use Rattle.wire.specs.declared.MessageType.{MessageType}
use Rattle.wire.specs.declared.MessageType.TheVariants as M
use Rattle.wire.specs.declared.Kind.{Kind}
use Rattle.wire.specs.declared.Kind.TheVariants as K
use Rattle.wire.specs.declared.Body.{Body}
use Rattle.wire.specs.declared.Body.TheVariants as B
use Rattle.wire.specs.declared.Rest.{Rest}
use Rattle.wire.specs.declared.Rest.TheVariants as Q
use Rattle.octets.specs.Bytes.{Place, Entry, ◌for◌, ◌≔◌, field_at, bytes_of}

-- ---- the header (13.3): each field's first byte and width

abbrev pub major_sdo_id_message_type : Place
major_sdo_id_message_type = 0 for 1

abbrev pub minor_version_ptp_version_ptp : Place
minor_version_ptp_version_ptp = 1 for 1

abbrev pub message_length : Place
message_length = 2 for 2

abbrev pub domain_number : Place
domain_number = 4 for 1

abbrev pub minor_sdo_id : Place
minor_sdo_id = 5 for 1

abbrev pub flag_field : Place
flag_field = 6 for 2

abbrev pub correction_field : Place
correction_field = 8 for 8

abbrev pub message_type_specific : Place
message_type_specific = 16 for 4

abbrev pub source_port_identity : Place
source_port_identity = 20 for 10

abbrev pub sequence_id : Place
sequence_id = 30 for 2

abbrev pub control_field : Place
control_field = 32 for 1

abbrev pub log_message_interval : Place
log_message_interval = 33 for 1

-- ---- the bodies: the timestamp is Sync's and Delay_Req's originTimestamp (13.6), Follow_Up's preciseOriginTimestamp (13.7), Delay_Resp's receiveTimestamp (13.8), Pdelay_Req's originTimestamp (13.9), Pdelay_Resp's requestReceiptTimestamp (13.10), Pdelay_Resp_Follow_Up's responseOriginTimestamp (13.11)

abbrev pub timestamp : Place
timestamp = 34 for 10

-- 13.8, 13.10, 13.11
abbrev pub requesting_port_identity : Place
requesting_port_identity = 44 for 10

-- 13.9
abbrev pub reserved_bytes : Place
reserved_bytes = 44 for 10

-- ---- parts of a field

-- a byte that two fields share, four bits each
abbrev pub high_half : ℕ → ℕ
high_half b = b / 16

abbrev pub low_half : ℕ → ℕ
low_half b = b % 16

abbrev pub halves : ℕ → ℕ → ℕ
halves h l = h * 16 + l

-- the sdo id: its high four bits stand in byte 0, its low eight in byte 5
unfoldable pub sdo_id : Header → ℕ
sdo_id h = h.major_sdo * 256 + h.minor_sdo

-- two-step is 0x02 in byte 6, the higher byte of the flags
abbrev pub two_step_flag : ℕ
two_step_flag = 0x02 * 256

unfoldable pub two_step : Header → Bool
two_step h = eqb (h.flags / two_step_flag % 2) 1

-- a Timestamp (5.3.3): six bytes of seconds, four of nanoseconds
unfoldable pub timestamp_entries : ℕ → WireTimestamp → List Entry
timestamp_entries at w = (at for 6 ≔ w.seconds) ∷ (at + 6 for 4 ≔ w.nanos) ∷ []

unfoldable pub timestamp_at : ℕ → List ℕ → WireTimestamp
timestamp_at at l = record { seconds = field_at (at for 6) l; nanos = field_at (at + 6 for 4) l }

-- a PortIdentity (5.3.5): eight bytes of clock, two of port
unfoldable pub identity_entries : ℕ → Identity → List Entry
identity_entries at i = (at for 8 ≔ i.clock) ∷ (at + 8 for 2 ≔ i.port) ∷ []

unfoldable pub identity_at : ℕ → List ℕ → Identity
identity_at at l = record { clock = field_at (at for 8) l; port = field_at (at + 8 for 2) l }

-- ---- the header, written with a control byte and read

unfoldable pub header_entries : Header → ℕ → List Entry
header_entries h control =
    (major_sdo_id_message_type ≔ halves h.major_sdo h.kind)
    ∷ (minor_version_ptp_version_ptp ≔ halves h.minor h.version)
    ∷ (message_length ≔ h.length)
    ∷ (domain_number ≔ h.domain)
    ∷ (minor_sdo_id ≔ h.minor_sdo)
    ∷ (flag_field ≔ h.flags)
    ∷ (correction_field ≔ h.correction)
    ∷ (message_type_specific ≔ 0)
    ∷ (identity_entries source_port_identity.at h.source
    ++ ((sequence_id ≔ h.id)
    ∷ (control_field ≔ control)
    ∷ (log_message_interval ≔ h.interval)
    ∷ []))

unfoldable pub header_of : List ℕ → Header
header_of l =
    record {
      major_sdo = high_half (field_at major_sdo_id_message_type l);
      kind = low_half (field_at major_sdo_id_message_type l);
      minor = high_half (field_at minor_version_ptp_version_ptp l);
      version = low_half (field_at minor_version_ptp_version_ptp l);
      length = field_at message_length l;
      domain = field_at domain_number l;
      minor_sdo = field_at minor_sdo_id l;
      flags = field_at flag_field l;
      correction = field_at correction_field l;
      source = identity_at source_port_identity.at l;
      id = field_at sequence_id l;
      interval = field_at log_message_interval l;
    }

-- ---- the messages: 01's table

pub record Row : Type 0 where
  pub number : ℕ
  pub control : ℕ
  pub length : ℕ

abbrev pub row : MessageType → Row
row M.Sync = record { number = 0; control = 0; length = 44 }
row M.DelayReq = record { number = 1; control = 1; length = 44 }
row M.PDelayReq = record { number = 2; control = 5; length = 54 }
row M.PDelayResp = record { number = 3; control = 5; length = 54 }
row M.FollowUp = record { number = 8; control = 2; length = 44 }
row M.DelayResp = record { number = 9; control = 3; length = 54 }
row M.PDelayRespFollowUp = record { number = 10; control = 5; length = 54 }

-- which of the table's messages has a number; 11 to 13 are the host's, and what is left is no type
abbrev pub named : List MessageType → ℕ → Kind → Kind
named [] k none = none
named (t ∷ ts) k none = cond (eqb k (row t).number) (K.Table t) (named ts k none)

unfoldable pub kind_of : ℕ → Kind
kind_of k =
    named (M.Sync ∷ M.DelayReq ∷ M.PDelayReq ∷ M.PDelayResp ∷ M.FollowUp ∷ M.DelayResp ∷ M.PDelayRespFollowUp ∷ []) k
    (cond (eqb k 11) K.Host (cond (eqb k 12) K.Host (cond (eqb k 13) K.Host K.Reserved)))

-- ---- a body, written from byte `at` on and read: 34 in a message, and 0 in the part behind its header by itself

abbrev pub body : ℕ
body = 34

-- each message has one timestamp, and it comes first
abbrev pub timestamp_of : Body → WireTimestamp
timestamp_of (B.Sync t) = t
timestamp_of (B.DelayReq t) = t
timestamp_of (B.PDelayReq t) = t
timestamp_of (B.PDelayResp t i) = t
timestamp_of (B.FollowUp t) = t
timestamp_of (B.DelayResp t i) = t
timestamp_of (B.PDelayRespFollowUp t i) = t

-- what lies behind the timestamp: nothing, ten reserved bytes, or the requester's identity
abbrev pub rest_entries : ℕ → Rest → List Entry
rest_entries at Q.Nothing = []
rest_entries at Q.Reserved = (at for 10 ≔ 0) ∷ []
rest_entries at (Q.Requester i) = identity_entries at i

abbrev pub rest_in : Body → Rest
rest_in (B.Sync t) = Q.Nothing
rest_in (B.DelayReq t) = Q.Nothing
rest_in (B.PDelayReq t) = Q.Reserved
rest_in (B.PDelayResp t i) = Q.Requester i
rest_in (B.FollowUp t) = Q.Nothing
rest_in (B.DelayResp t i) = Q.Requester i
rest_in (B.PDelayRespFollowUp t i) = Q.Requester i

unfoldable pub body_entries : ℕ → Body → List Entry
body_entries at b = timestamp_entries at (timestamp_of b) ++ rest_entries (at + 10) (rest_in b)

unfoldable pub body_of : MessageType → List ℕ → Body
body_of M.Sync l = B.Sync (timestamp_at timestamp.at l)
body_of M.DelayReq l = B.DelayReq (timestamp_at timestamp.at l)
body_of M.PDelayReq l = B.PDelayReq (timestamp_at timestamp.at l)
body_of M.PDelayResp l = B.PDelayResp (timestamp_at timestamp.at l) (identity_at requesting_port_identity.at l)
body_of M.FollowUp l = B.FollowUp (timestamp_at timestamp.at l)
body_of M.DelayResp l = B.DelayResp (timestamp_at timestamp.at l) (identity_at requesting_port_identity.at l)
body_of M.PDelayRespFollowUp l = B.PDelayRespFollowUp (timestamp_at timestamp.at l) (identity_at requesting_port_identity.at l)

abbrev pub type_of : Body → MessageType
type_of (B.Sync t) = M.Sync
type_of (B.DelayReq t) = M.DelayReq
type_of (B.PDelayReq t) = M.PDelayReq
type_of (B.PDelayResp t i) = M.PDelayResp
type_of (B.FollowUp t) = M.FollowUp
type_of (B.DelayResp t i) = M.DelayResp
type_of (B.PDelayRespFollowUp t i) = M.PDelayRespFollowUp

-- ---- the whole message: the header, with the control byte of its type, and the body behind it

unfoldable pub message_entries : Header → Body → List Entry
message_entries h b = header_entries h (row (type_of b)).control ++ body_entries body b

unfoldable pub message_bytes : Header → Body → List ℕ
message_bytes h b = bytes_of (message_entries h b)
