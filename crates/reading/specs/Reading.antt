-- Document 01, 'Numbers the port answers': rows 4 and 5 in its words, and what stands in the bytes where neither refuses them.
use Rattle.std.specs.Prelude.{ℕ, max, Bool, true, false, cond, ◌||◌, not, List, length, ltb, eqb, Result, Ok, Err}
use Rattle.time.specs.Units.{time_of_wire}
use Rattle.wire.specs.declared.MessageType.{MessageType}
use Rattle.wire.specs.declared.Kind.{Kind}
use Rattle.wire.specs.declared.Kind.TheVariants as K
use Rattle.wire.specs.declared.Header.{Header}
use Rattle.wire.specs.declared.Body.{Body}
use Rattle.octets.specs.Bytes.{field_at}
use Rattle.wire.specs.Layout.{row, kind_of, header_of, body_of, timestamp_at, body, low_half, minor_version_ptp_version_ptp, major_sdo_id_message_type, message_length}
use Rattle.time.specs.declared.Time.{Time}
use Rattle.time.specs.declared.TimeError.{TimeError}
use Rattle.reading.specs.declared.Received.{Received}
use Rattle.reading.specs.declared.ReadError.{ReadError}

-- what bytes are read as: a message or a header that is the host's, or what rows 4 and 5 refuse
abbrev pub Reading : Type 0
Reading = Result Received ReadError

-- row 4: fewer than two bytes, or another version
unfoldable pub row4 : List ℕ → Bool
row4 l = ltb (length l) 2 || not (eqb (low_half (field_at minor_version_ptp_version_ptp l)) 2)

-- what the type number of l stands for
abbrev pub kind_in : List ℕ → Kind
kind_in l = kind_of (low_half (field_at major_sdo_id_message_type l))

-- the last two conditions of row 5: a type that is none, and a stated length short of the table's
abbrev pub reserved : Kind → Bool
reserved (K.Table t) = false
reserved K.Host = false
reserved K.Reserved = true

abbrev pub short_for : Kind → ℕ → Bool
short_for (K.Table t) stated = ltb stated (row t).length
short_for K.Host stated = false
short_for K.Reserved stated = false

-- row 5, on what row 4 lets through
unfoldable pub row5 : List ℕ → Bool
row5 l =
    let stated : ℕ = field_at message_length l in
    ltb (length l) 34 || (ltb stated 34 || ltb (length l) stated) || reserved (kind_in l) || short_for (kind_in l) stated

-- every timestamp of a message is read as a time here, used or not; what is no time makes the message malformed. (`ReadingLaws`, `timestamp_read`: today each is a time.)
abbrev pub timed : Result Time TimeError → Header → Body → Reading
timed (Ok t) h b = Ok (Received.Message h b t)
timed (Err e) h b = Err ReadError.Malformed

unfoldable pub message_of : MessageType → List ℕ → Reading
message_of t l = timed (time_of_wire (timestamp_at body l)) (header_of l) (body_of t l)

abbrev pub decoded : Kind → List ℕ → Reading
decoded (K.Table t) l = message_of t l
decoded K.Host l = Ok (Received.Host (header_of l))
decoded K.Reserved l = Err ReadError.Malformed

unfoldable pub read_of : List ℕ → Reading
read_of l = cond (row4 l) (Err ReadError.Version) (cond (row5 l) (Err ReadError.Malformed) (decoded (kind_in l) l))

-- how far a message reaches: to its stated length, and never less than a header
abbrev pub stated_end : List ℕ → ℕ
stated_end l = max 34 (field_at message_length l)
