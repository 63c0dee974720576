-- What the laws of proofs/Examples.antt speak of.
use Rattle.std.specs.Prelude.{ℕ, ◌+◌, ◌-◌, ◌*◌, ◌^◌, ◌≡◌, List, [], ◌∷◌, ◌++◌, pos, Result, Ok, Err}
use Rattle.time.specs.declared.Time.{Time}
use Rattle.time.specs.Units.{time_words}
use Rattle.wire.specs.declared.Header.{Header}
use Rattle.wire.specs.Layout.{message_bytes}
use Rattle.sent.specs.declared.Sender.{Sender}
use Rattle.sent.specs.declared.Message.{Message}
use Rattle.sent.specs.Messages.{p_delay_resp_of, delay_resp_of}
use Rattle.writing.specs.Examples.{requester_bytes}
use Rattle.time.specs.declared.TimeError.{TimeError}

-- ---- the parts

abbrev pub us : Sender
us = record { sdo = 0xA22; domain = 0x21; minor = 0x1; identity = record { clock = 0x3031323334353637; port = 0x3839 } }

-- our id, and the log intervals of Sync and of DelayReq
abbrev pub our_id : ℕ
our_id = 0x3A3B

abbrev pub sync_interval : ℕ
sync_interval = 0x3C

abbrev pub delay_interval : ℕ
delay_interval = 0x3D

-- a request with this correction; an answer has its source and its id, and nothing else of it
abbrev pub asks : ℕ → Header
asks correction =
    record {
      major_sdo = 0xB;
      kind = 0xC;
      minor = 0xD;
      version = 0xE;
      length = 0xE1E2;
      domain = 0xE3;
      minor_sdo = 0xE4;
      flags = 0xE5E6;
      correction = correction;
      source = record { clock = 0x5152535455565758; port = 0x595A };
      id = 0x5B5C;
      interval = 0xE7;
    }

-- so many whole nanoseconds, and 2 ^ -32 ns
abbrev pub at : ℕ → ℕ → Time
at nanoseconds fraction = time_words (pos (nanoseconds * 2 ^ 32 + fraction))

-- a stamp, with this fraction of its last nanosecond
abbrev pub stamp : ℕ → Time
stamp fraction = at (0x414243444546 * 10 ^ 9 + 0x1748494A) fraction

abbrev pub zeros : List ℕ
zeros = 0x00 ∷ 0x00 ∷ 0x00 ∷ 0x00 ∷ 0x00 ∷ 0x00 ∷ 0x00 ∷ 0x00 ∷ 0x00 ∷ 0x00 ∷ []

-- a correction's bytes: six alike, and the last two
abbrev pub six : ℕ → ℕ → ℕ → List ℕ
six x y z = x ∷ x ∷ x ∷ x ∷ x ∷ x ∷ y ∷ z ∷ []

-- our header's bytes: type, length, the flags' first byte, correction, the id's two bytes, control, interval
abbrev pub head : ℕ → ℕ → ℕ → List ℕ → ℕ → ℕ → ℕ → ℕ → List ℕ
head type length flags correction id₁ id₂ control interval =
    type ∷ 0x12 ∷ 0x00 ∷ length ∷ 0x21 ∷ 0x22 ∷ flags ∷ 0x00
    ∷ (correction
    ++ (0x00 ∷ 0x00 ∷ 0x00 ∷ 0x00
    ∷ 0x30 ∷ 0x31 ∷ 0x32 ∷ 0x33 ∷ 0x34 ∷ 0x35 ∷ 0x36 ∷ 0x37 ∷ 0x38 ∷ 0x39
    ∷ id₁ ∷ id₂ ∷ control ∷ interval ∷ []))

abbrev pub bytes : Message → List ℕ
bytes m = message_bytes m.header m.body

abbrev pub bytes_in : Result Message TimeError → List ℕ
bytes_in (Ok m) = bytes m
bytes_in (Err TimeError.OutOfRange) = []

-- ---- the seven messages

-- both answers to a request with this correction that came at t: their own correction, and the timestamp
abbrev pub Answers : ℕ → Time → List ℕ → List ℕ → Type 0
Answers correction t own timestamp =
    (bytes_in (delay_resp_of us (asks correction) delay_interval t) ≡ head 0xA9 54 0x00 own 0x5B 0x5C 0x03 0x3D ++ timestamp ++ requester_bytes)
    × (bytes_in (p_delay_resp_of us (asks correction) t) ≡ head 0xA3 54 0x02 own 0x5B 0x5C 0x05 0x7F ++ timestamp ++ requester_bytes)

-- ---- an answer's correction: above zero, below it, and the lowest that 64 bits hold

-- neither of them is made
abbrev pub NoAnswers : ℕ → Time → Type 0
NoAnswers correction t =
    (delay_resp_of us (asks correction) delay_interval t ≡ Err TimeError.OutOfRange) × (p_delay_resp_of us (asks correction) t ≡ Err TimeError.OutOfRange)

-- ---- seconds: one unit below 2 ^ 48 of them, and as many

abbrev pub last : Time
last = at (2 ^ 48 * 10 ^ 9 - 1) 0xFFFFFFFF

abbrev pub last_bytes : List ℕ
last_bytes = 0xFF ∷ 0xFF ∷ 0xFF ∷ 0xFF ∷ 0xFF ∷ 0xFF ∷ 0x3B ∷ 0x9A ∷ 0xC9 ∷ 0xFF ∷ []
