-- Document 01, 'Numbers the port answers', its last paragraph: what an entry gives back for what `step` says, the answer as a value and the packet buffer as it is left.
use Rattle.std.specs.Prelude.{ℕ, List, length, ◌≡◌}
use Rattle.rules.specs.Names.{Port}
use Rattle.rules.specs.Events.{Event, Answered, buffer_after}
use Rattle.rules.specs.Step.{step}
use Rattle.record.specs.declared.Answer.{Answer}
use Rattle.record.specs.Answers.{answer_of}

-- an answer holds the record, perhaps a measurement, the packet's length, the actions in their order, and whether the filter is reset
unfoldable pub answer_for : Answered → Answer
answer_for r = answer_of r.outcome r.port r.measurement (length r.sent) r.actions r.reset

-- what an entry promises of an event e that finds the record p and the buffer l: its answer a, and what is left in the buffer
abbrev pub Answers : Port → Event → List ℕ → Answer → List ℕ → Type 0
Answers p e l a left = (a ≡ answer_for (step p (length l) e)) × (left ≡ buffer_after (step p (length l) e) l)
