-- What the laws of proofs/ResponderLaws.antt speak of.
use Rattle.std.specs.Prelude.{ℕ, ◌≡◌, List, ℤ, pos, ◌-ℤ◌, Some, Ok, Result}
use Rattle.time.specs.declared.WireTimestamp.{WireTimestamp}
use Rattle.time.specs.Units.{time, duration, correction, half}
use Rattle.wire.specs.Layout.{message_bytes}
use Rattle.reading.specs.Reading.{read_of}
use Rattle.sent.specs.CarriedLaws.{units_of, cut_to16}
use Rattle.rules.specs.Names.{Time, Duration, Header, Body, Message, Port, Measurement, TimeError, Received}
use Rattle.rules.specs.Events.{Answered}

-- ---- the responder: a message that it sends, with the record kept

pub record Sends (q : Port) (a : Result Message TimeError) (r : Answered) : Type 0 where
  pub message : Message
  pub made : a ≡ Ok message
  pub sent : r.sent ≡ message_bytes message.header message.body
  pub port : r.port ≡ q

-- ---- what it sends reads as it was made, and means its stamps

-- bytes that carry a timestamp and a correction, and what these mean together
pub record Carries (bytes : List ℕ) (header : ℕ → Header) (body : WireTimestamp → Body) (Means : WireTimestamp → ℕ → Type 0) : Type 0 where
  pub timestamp : WireTimestamp
  pub correction_word : ℕ
  pub means : Means timestamp correction_word
  pub at : Time
  pub reads : read_of bytes ≡ Ok (Received.Message (header correction_word) (body timestamp) at)

-- ---- the requester, with a peer exchange of that id whose send stamp stands

-- half of the way there and back: t4 - t1 less the responder's t3 - t2, both cut, and less what the request's correction gathered
abbrev pub way_of : (t1 t2 t3 t4 : Time) → Header → ℤ
way_of t1 t2 t3 t4 request =
    (time t4 -ℤ time t1) -ℤ (pos (cut_to16 (units_of t3)) -ℤ pos (cut_to16 (units_of t2))) -ℤ correction request.correction

pub record MeasuresWay (way : ℤ) (r : Answered) : Type 0 where
  pub event_time : Time
  pub delay : Duration
  pub measurement : r.measurement ≡ Some (Measurement.Peer event_time delay)
  pub delay_is : duration delay ≡ half way
