-- What a rule comes to, as the values that the code hands on: an answer, and perhaps a message that is yet to be written.
use Rattle.std.specs.Prelude.{Result, Ok, Err}
use Rattle.rules.specs.Names.{Outcome}
use Rattle.rules.specs.Worked.{Worked, worked, refused}
use Rattle.rules.specs.Events.{Done}
use Rattle.record.specs.Answers.{answer_of}
use Rattle.handling.specs.declared.Handled.{Handled}

-- an event that was taken; its packet has no length before it is written
unfoldable pub handed_on : Done → Handled
handed_on d =
    record { answer = answer_of Outcome.Taken d.port d.measurement 0 d.actions d.reset; message = d.message }

-- what a handler answers: an event that is taken hands this on, a refusal is its row
abbrev pub handled_of : Worked Done → Result Handled Outcome
handled_of (worked d) = Ok (handed_on d)
handled_of (refused o) = Err o
