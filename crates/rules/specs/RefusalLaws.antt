-- What the laws of proofs/RefusalLaws.antt speak of.
use Rattle.std.specs.Prelude.{◌≡◌, false, [], ℕ, None}
use Rattle.rules.specs.Names.{Port, Outcome}
use Rattle.fitness.specs.Fit.{unfit}
use Rattle.rules.specs.Worked.{worked}
use Rattle.rules.specs.Events.{Event, Done, Answered, answered}
use Rattle.rules.specs.Table.{row1, row3}
use Rattle.rules.specs.Step.{rule_of, step}

-- ---- no rule refuses with the number of what is taken

abbrev pub NotTaken : Outcome → Type 0
NotTaken o = o ≡ Outcome.Taken → ⊥

-- ---- a refusal changes nothing

-- the same, part by part
pub record Untouched (p : Port) (r : Answered) : Type 0 where
  pub port : r.port ≡ p
  pub measurement : r.measurement ≡ None
  pub sent : r.sent ≡ []
  pub actions : r.actions ≡ []
  pub reset : r.reset ≡ false

-- ---- what is taken

pub record IsTaken (p : Port) (room : ℕ) (e : Event) : Type 0 where
  pub enough : row1 p.config e room ≡ false
  pub fit : unfit p ≡ false
  pub limits : row3 e ≡ false
  pub done : Done
  pub rule : rule_of p e ≡ worked done
  pub result : step p room e ≡ answered p (worked done)
