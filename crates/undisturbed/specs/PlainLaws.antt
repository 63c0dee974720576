-- What the laws of proofs/PlainLaws.antt speak of.
use Rattle.std.specs.Prelude.{ℕ}
use Rattle.rules.specs.Names.{Port}
use Rattle.rules.specs.Events.{Event, Answered}
use Rattle.rules.specs.Step.{step}
use Rattle.rules.specs.WorkedOut.{Completed}
use Rattle.rules.specs.Formulas.{Says}
use Rattle.undisturbed.specs.Undisturbed.{Reply}

-- ---- a run of which only the buffer's room is known

-- what an event is answered, its packet taken straight from what is sent
abbrev pub plain_reply : Answered → Reply
plain_reply r =
    record { outcome = r.outcome; measurement = r.measurement; packet = r.sent; actions = r.actions; reset = r.reset }

abbrev pub plain : ℕ → Port → Event → Port × Reply
plain room p e =
    let r : Answered = step p room e in
    (r.port, plain_reply r)

abbrev pub PlainSays : Port → Completed → Reply → Port → Type 0
PlainSays p c a q = Says p c a.measurement q
