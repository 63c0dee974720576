-- What the laws of proofs/SentLaws.antt speak of.
use Rattle.std.specs.Prelude.{ℕ, ◌≤◌, ◌<◌, ◌≡◌, length, Result, Ok}
use Rattle.std.proofs.Math.Bool.{true}
use Rattle.time.specs.declared.WireTimestamp.{WireTimestamp}
use Rattle.time.specs.Units.{time_words, wire}
use Rattle.wire.specs.Layout.{timestamp_of, message_bytes}
use Rattle.reading.specs.Reading.{read_of}
use Rattle.wire.specs.LayoutLaws.{InWidths}
use Rattle.writing.specs.Writing.{fits_of, write_of}
use Rattle.sent.specs.declared.Sender.{Sender}
use Rattle.sent.specs.declared.Message.{Message}
use Rattle.time.specs.declared.TimeError.{TimeError}
use Rattle.reading.specs.declared.Received.{Received}

-- ---- limits

pub record InLimits (s : Sender) : Type 0 where
  pub sdo : s.sdo < 4096
  pub minor : s.minor < 16
  pub domain : s.domain < 256
  pub identity : InWidths s.identity

-- ---- what is made can be sent

-- a message of n bytes: it is written to any buffer with room for it, and what was written reads as it was made
pub record Sendable (m : Message) (n : ℕ) : Type 0 where
  pub fits : fits_of m.header m.body ≡ true
  pub length_is : length (message_bytes m.header m.body) ≡ n
  pub writes : (room : ℕ) → n ≤ room → write_of m.header m.body room ≡ Ok n
  pub reads : read_of (message_bytes m.header m.body) ≡ Ok (Received.Message m.header m.body (time_words (wire (timestamp_of m.body))))

-- where a message that carries a stamp comes from
pub record Made (x : Result (WireTimestamp × ℕ) TimeError) (message : WireTimestamp → ℕ → Message) (m : Message) : Type 0 where
  pub timestamp : WireTimestamp
  pub correction : ℕ
  pub carried : x ≡ Ok (timestamp, correction)
  pub made : message timestamp correction ≡ m
