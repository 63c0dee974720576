-- Worked examples, each computed: every message as bytes, the other way round too, and the edges of rows 4 and 5. No two fields hold the same, but for what the table fixes.
use Rattle.std.specs.Prelude.{ℕ, ◌≡◌, refl, List, [], ◌∷◌, ◌++◌, take, Ok, Err}
use Rattle.time.specs.declared.Time.{Time}
use Rattle.time.specs.declared.WireTimestamp.{WireTimestamp}
use Rattle.time.specs.Units.{time_of_wire, wire}
use Rattle.wire.specs.declared.Identity.{Identity}
use Rattle.wire.specs.declared.Header.{Header}
use Rattle.wire.specs.declared.Body.{Body}
use Rattle.wire.specs.declared.Body.TheVariants as B
use Rattle.octets.specs.Bytes.{number, spell, bytes_of, roomy}
use Rattle.wire.specs.Layout.{header_entries, header_of, identity_entries, identity_at, timestamp_entries, timestamp_at, body_entries, body_of, kind_of, message_entries, message_bytes}
use Rattle.reading.specs.Reading.{row4, row5, message_of, read_of}
use Rattle.writing.specs.Writing.{together, fits_of, write_of}
use Rattle.reading.specs.declared.Received.{Received}
use Rattle.reading.specs.declared.ReadError.{ReadError}
use Rattle.writing.specs.declared.WriteError.{WriteError}

-- ---- the parts

-- a header's bytes: first byte, second byte, stated length, messageTypeSpecific's byte, control
abbrev head : ℕ → ℕ → ℕ → ℕ → ℕ → List ℕ
head type version stated specific control =
    type ∷ version ∷ 0x00 ∷ stated ∷ 0x21 ∷ 0x22 ∷ 0x23 ∷ 0x24
    ∷ 0x25 ∷ 0x26 ∷ 0x27 ∷ 0x28 ∷ 0x29 ∷ 0x2A ∷ 0x2B ∷ 0x2C
    ∷ specific ∷ specific ∷ specific ∷ specific
    ∷ 0x30 ∷ 0x31 ∷ 0x32 ∷ 0x33 ∷ 0x34 ∷ 0x35 ∷ 0x36 ∷ 0x37 ∷ 0x38 ∷ 0x39
    ∷ 0x3A ∷ 0x3B ∷ control ∷ 0x3C ∷ []

-- and what it says
abbrev says : ℕ → ℕ → Header
says type stated =
    record {
      major_sdo = 0xA;
      kind = type;
      minor = 0x7;
      version = 0x2;
      length = stated;
      domain = 0x21;
      minor_sdo = 0x22;
      flags = 0x2324;
      correction = 0x25262728292A2B2C;
      source = record { clock = 0x3031323334353637; port = 0x3839 };
      id = 0x3A3B;
      interval = 0x3C;
    }

abbrev pub stamp_bytes : List ℕ
stamp_bytes = 0x41 ∷ 0x42 ∷ 0x43 ∷ 0x44 ∷ 0x45 ∷ 0x46 ∷ 0x17 ∷ 0x48 ∷ 0x49 ∷ 0x4A ∷ []

abbrev stamp : WireTimestamp
stamp = record { seconds = 0x414243444546; nanos = 0x1748494A }

-- the stamp's time: (71752852194630 * 10 ^ 9 + 390613322) * 2 ^ 32 units
abbrev stamp_time : Time
stamp_time = record { hi = 0xF31BADB7C1C; lo = 0xC40D854A00000000 }

abbrev pub requester_bytes : List ℕ
requester_bytes = 0x51 ∷ 0x52 ∷ 0x53 ∷ 0x54 ∷ 0x55 ∷ 0x56 ∷ 0x57 ∷ 0x58 ∷ 0x59 ∷ 0x5A ∷ []

abbrev requester : Identity
requester = record { clock = 0x5152535455565758; port = 0x595A }

-- ten bytes, all the same
abbrev ten : ℕ → List ℕ
ten x = x ∷ x ∷ x ∷ x ∷ x ∷ x ∷ x ∷ x ∷ x ∷ x ∷ []

-- ---- each message, read and written

abbrev Are : List ℕ → Header → Body → Type 0
Are l h b = (read_of l ≡ Ok (Received.Message h b stamp_time)) × (message_bytes h b ≡ l)

sync : Are (head 0xA0 0x72 44 0x00 0x00 ++ stamp_bytes) (says 0 44) (B.Sync stamp)
unfolding read_of row4 row5 message_of number header_of identity_at timestamp_at body_of kind_of time_of_wire wire message_bytes message_entries header_entries identity_entries timestamp_entries body_entries bytes_of spell
sync = (refl, refl)

delay_req : Are (head 0xA1 0x72 44 0x00 0x01 ++ stamp_bytes) (says 1 44) (B.DelayReq stamp)
unfolding read_of row4 row5 message_of number header_of identity_at timestamp_at body_of kind_of time_of_wire wire message_bytes message_entries header_entries identity_entries timestamp_entries body_entries bytes_of spell
delay_req = (refl, refl)

pdelay_req : Are (head 0xA2 0x72 54 0x00 0x05 ++ stamp_bytes ++ ten 0x00) (says 2 54) (B.PDelayReq stamp)
unfolding read_of row4 row5 message_of number header_of identity_at timestamp_at body_of kind_of time_of_wire wire message_bytes message_entries header_entries identity_entries timestamp_entries body_entries bytes_of spell
pdelay_req = (refl, refl)

pdelay_resp : Are (head 0xA3 0x72 54 0x00 0x05 ++ stamp_bytes ++ requester_bytes) (says 3 54) (B.PDelayResp stamp requester)
unfolding read_of row4 row5 message_of number header_of identity_at timestamp_at body_of kind_of time_of_wire wire message_bytes message_entries header_entries identity_entries timestamp_entries body_entries bytes_of spell
pdelay_resp = (refl, refl)

follow_up : Are (head 0xA8 0x72 44 0x00 0x02 ++ stamp_bytes) (says 8 44) (B.FollowUp stamp)
unfolding read_of row4 row5 message_of number header_of identity_at timestamp_at body_of kind_of time_of_wire wire message_bytes message_entries header_entries identity_entries timestamp_entries body_entries bytes_of spell
follow_up = (refl, refl)

delay_resp : Are (head 0xA9 0x72 54 0x00 0x03 ++ stamp_bytes ++ requester_bytes) (says 9 54) (B.DelayResp stamp requester)
unfolding read_of row4 row5 message_of number header_of identity_at timestamp_at body_of kind_of time_of_wire wire message_bytes message_entries header_entries identity_entries timestamp_entries body_entries bytes_of spell
delay_resp = (refl, refl)

pdelay_resp_follow_up : Are (head 0xAA 0x72 54 0x00 0x05 ++ stamp_bytes ++ requester_bytes) (says 10 54) (B.PDelayRespFollowUp stamp requester)
unfolding read_of row4 row5 message_of number header_of identity_at timestamp_at body_of kind_of time_of_wire wire message_bytes message_entries header_entries identity_entries timestamp_entries body_entries bytes_of spell
pdelay_resp_follow_up = (refl, refl)

-- ---- what is not read: reserved bytes, control, and what lies behind

reserved_unread : read_of (head 0xA2 0x72 54 0xFE 0xFD ++ stamp_bytes ++ ten 0xFF) ≡ Ok (Received.Message (says 2 54) (B.PDelayReq stamp) stamp_time)
unfolding read_of row4 row5 message_of number header_of identity_at timestamp_at body_of kind_of time_of_wire wire
reserved_unread = refl

behind_unread : read_of (head 0xA0 0x72 44 0x00 0x00 ++ stamp_bytes ++ ten 0xFF) ≡ Ok (Received.Message (says 0 44) (B.Sync stamp) stamp_time)
unfolding read_of row4 row5 message_of number header_of identity_at timestamp_at body_of kind_of time_of_wire wire
behind_unread = refl

-- a stated length above the table's is read, and is not written
long_read : read_of (head 0xA0 0x72 54 0x00 0x00 ++ stamp_bytes ++ ten 0xFF) ≡ Ok (Received.Message (says 0 54) (B.Sync stamp) stamp_time)
unfolding read_of row4 row5 message_of number header_of identity_at timestamp_at body_of kind_of time_of_wire wire
long_read = refl

long_unfit : write_of (says 0 54) (B.Sync stamp) 54 ≡ Err WriteError.Unfit
unfolding write_of fits_of together
long_unfit = refl

-- ---- the host's: an Announce, of which the header is read

announce : read_of (head 0xAB 0x72 64 0x00 0x05 ++ stamp_bytes ++ ten 0x00 ++ ten 0xFF) ≡ Ok (Received.Host (says 11 64))
unfolding read_of row4 row5 message_of number header_of identity_at timestamp_at body_of kind_of time_of_wire wire
announce = refl

-- ---- row 4: the second byte must be there and end in 2

one_byte : read_of (0xA0 ∷ []) ≡ Err ReadError.Version
unfolding read_of row4 row5 message_of number header_of identity_at timestamp_at body_of kind_of time_of_wire wire
one_byte = refl

two_bytes : read_of (0xA0 ∷ 0x72 ∷ []) ≡ Err ReadError.Malformed
unfolding read_of row4 row5 message_of number header_of identity_at timestamp_at body_of kind_of time_of_wire wire
two_bytes = refl

version_1 : read_of (head 0xA0 0x21 44 0x00 0x00 ++ stamp_bytes) ≡ Err ReadError.Version
unfolding read_of row4 row5 message_of number header_of identity_at timestamp_at body_of kind_of time_of_wire wire
version_1 = refl

-- ---- row 5, each condition at its edge

cut_header : read_of (take 33 (head 0xAB 0x72 34 0x00 0x05)) ≡ Err ReadError.Malformed
unfolding read_of row4 row5 message_of number header_of identity_at timestamp_at body_of kind_of time_of_wire wire
cut_header = refl

just_a_header : read_of (head 0xAB 0x72 34 0x00 0x05) ≡ Ok (Received.Host (says 11 34))
unfolding read_of row4 row5 message_of number header_of identity_at timestamp_at body_of kind_of time_of_wire wire
just_a_header = refl

stated_33 : read_of (head 0xAB 0x72 33 0x00 0x05) ≡ Err ReadError.Malformed
unfolding read_of row4 row5 message_of number header_of identity_at timestamp_at body_of kind_of time_of_wire wire
stated_33 = refl

stated_above : read_of (head 0xA0 0x72 45 0x00 0x00 ++ stamp_bytes) ≡ Err ReadError.Malformed
unfolding read_of row4 row5 message_of number header_of identity_at timestamp_at body_of kind_of time_of_wire wire
stated_above = refl

type_14 : read_of (head 0xAE 0x72 44 0x00 0x00 ++ stamp_bytes) ≡ Err ReadError.Malformed
unfolding read_of row4 row5 message_of number header_of identity_at timestamp_at body_of kind_of time_of_wire wire
type_14 = refl

follow_up_43 : read_of (head 0xA8 0x72 43 0x00 0x02 ++ stamp_bytes) ≡ Err ReadError.Malformed
unfolding read_of row4 row5 message_of number header_of identity_at timestamp_at body_of kind_of time_of_wire wire
follow_up_43 = refl

-- ---- writing: the room, and a type that is not the body's

room_43 : write_of (says 8 44) (B.FollowUp stamp) 43 ≡ Err WriteError.Short
unfolding write_of fits_of together roomy message_entries header_entries identity_entries timestamp_entries body_entries time_of_wire wire
room_43 = refl

room_44 : write_of (says 8 44) (B.FollowUp stamp) 44 ≡ Ok 44
unfolding write_of fits_of together roomy message_entries header_entries identity_entries timestamp_entries body_entries time_of_wire wire
room_44 = refl

other_type : write_of (says 0 44) (B.FollowUp stamp) 44 ≡ Err WriteError.Unfit
unfolding write_of fits_of together
other_type = refl
