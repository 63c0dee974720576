-- What the laws of proofs/ExactlyWhen.antt speak of.
use Rattle.std.specs.Prelude.{ℕ, ◌≡◌, Bool, true, false, ◌&&◌, not, List, [], ◌∷◌, ◌↔◌, eqb}
use Rattle.rules.specs.Names.{Port, Outcome}
use Rattle.fitness.specs.Fit.{unfit}
use Rattle.record.specs.Answers.{number_of}
use Rattle.rules.specs.Events.{Event}
use Rattle.rules.specs.Table.{row1, row3, row4, row5, row6, row8}
use Rattle.rules.specs.WorkedOut.{row7}
use Rattle.rules.specs.Step.{step}

-- none of these conditions holds
abbrev pub NoneOf : List Bool → Type 0
NoneOf [] = Unit {0}
NoneOf (t ∷ ts) = (t ≡ false) × NoneOf ts

pub record ExactlyWhen (p : Port) (room : ℕ) (e : Event) : Type 0 where
  pub answered_1 : ((step p room e).outcome ≡ Outcome.Buffer) ↔ (NoneOf [] × (row1 p.config e room ≡ true))
  pub answered_2 : ((step p room e).outcome ≡ Outcome.Unfit) ↔ (NoneOf (row1 p.config e room ∷ []) × (unfit p ≡ true))
  pub answered_3 : ((step p room e).outcome ≡ Outcome.Limits) ↔ (NoneOf (row1 p.config e room ∷ unfit p ∷ []) × (row3 e ≡ true))
  pub answered_4 : ((step p room e).outcome ≡ Outcome.Version) ↔ (NoneOf (row1 p.config e room ∷ unfit p ∷ row3 e ∷ []) × (row4 p.config e ≡ true))
  pub answered_5 : ((step p room e).outcome ≡ Outcome.Malformed) ↔ (NoneOf (row1 p.config e room ∷ unfit p ∷ row3 e ∷ row4 p.config e ∷ []) × (row5 p.config e ≡ true))
  pub answered_6 : ((step p room e).outcome ≡ Outcome.Foreign) ↔ (NoneOf (row1 p.config e room ∷ unfit p ∷ row3 e ∷ row4 p.config e ∷ row5 p.config e ∷ []) × (row6 p.config e ≡ true))
  pub answered_8 : ((step p room e).outcome ≡ Outcome.Host) ↔ (NoneOf (row1 p.config e room ∷ unfit p ∷ row3 e ∷ row4 p.config e ∷ row5 p.config e ∷ row6 p.config e ∷ []) × (row8 p.config e ≡ true))
  pub answered_7 : ((step p room e).outcome ≡ Outcome.Range) ↔ (NoneOf (row1 p.config e room ∷ unfit p ∷ row3 e ∷ row4 p.config e ∷ row5 p.config e ∷ row6 p.config e ∷ row8 p.config e ∷ []) × (row7 p e ≡ true))
  pub answered_0 : ((step p room e).outcome ≡ Outcome.Taken) ↔ NoneOf (row1 p.config e room ∷ unfit p ∷ row3 e ∷ row4 p.config e ∷ row5 p.config e ∷ row6 p.config e ∷ row8 p.config e ∷ row7 p e ∷ [])

-- ---- of any table whose rows have numbers of their own

abbrev pub conditions : List (Bool × Outcome) → List Bool
conditions [] = []
conditions ((t, o) ∷ rows) = t ∷ conditions rows

-- no row has this number
abbrev pub new : ℕ → List (Bool × Outcome) → Bool
new n [] = true
new n ((t, o) ∷ rows) = not (eqb (number_of o) n) && new n rows
