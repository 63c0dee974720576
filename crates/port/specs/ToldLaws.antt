-- What an entry's promise gives its caller: `step`'s result part by part.
use Rattle.std.specs.Prelude.{ℕ, ◌≡◌, refl, length}
use Rattle.record.specs.declared.Answer.{Answer}
use Rattle.record.specs.Answers.{answer_of, first_actions}
use Rattle.record.proofs.AnswersLaws.{actions_back}
use Rattle.rules.specs.Names.{Port}
use Rattle.rules.specs.Events.{Event, Answered}
use Rattle.rules.specs.Step.{step}
use Rattle.rules.proofs.ActionLaws.{actions_orderly}
use Rattle.port.specs.Entries.{answer_for}

pub record TellsResult (r : Answered) (a : Answer) : Type 0 where
  pub outcome : a.outcome ≡ r.outcome
  pub port : a.port ≡ r.port
  pub measurement : a.measurement ≡ r.measurement
  pub length_is : a.length ≡ length r.sent
  pub count : a.count ≡ length r.actions
  pub actions : first_actions a.count a.actions ≡ r.actions
  pub reset : a.reset ≡ r.reset

pub answer_tells : (p : Port) (room : ℕ) (e : Event) → TellsResult (step p room e) (answer_for (step p room e))
unfolding answer_for answer_of
answer_tells p room e =
    record {
      outcome = refl;
      port = refl;
      measurement = refl;
      length_is = refl;
      count = refl;
      actions = actions_back (step p room e).actions (actions_orderly p room e).at_most_two;
      reset = refl;
    }
