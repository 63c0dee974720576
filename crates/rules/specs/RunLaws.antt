-- What the laws of proofs/RunLaws.antt speak of.
use Rattle.std.specs.Prelude.{ℕ, ◌≡◌, false, ℤ}
use Rattle.time.specs.Units.{time}
use Rattle.fitness.specs.Fit.{unfit}
use Rattle.rules.specs.Names.{Time, Port, Outcome}
use Rattle.rules.specs.Worked.{Worked, worked}
use Rattle.rules.specs.Events.{Event, Done, Answered, answered}
use Rattle.rules.specs.Measuring.{settle}
use Rattle.rules.specs.Step.{step}
use Rattle.rules.specs.AllLaws.{All}

abbrev pub Taken : Answered → Type 0
Taken r = r.outcome ≡ Outcome.Taken

abbrev pub AfterTwo : Port → Event → Event → (Answered → Type 0) → Type 0
AfterTwo q e₁ e₂ Goal =
    (room₁ room₂ : ℕ) → Taken (step q room₁ e₁) → Taken (step (step q room₁ e₁).port room₂ e₂) → Goal (step (step q room₁ e₁).port room₂ e₂)

abbrev pub AfterThree : Port → Event → Event → Event → (Answered → Type 0) → Type 0
AfterThree q e₁ e₂ e₃ Goal =
    (room : ℕ) → Taken (step q room e₁) → AfterTwo (step q room e₁).port e₂ e₃ Goal

-- in both orders, and in all six
pub record BothOrders (q : Port) (a b : Event) (Goal : Answered → Type 0) : Type 0 where
  pub ab : AfterTwo q a b Goal
  pub ba : AfterTwo q b a Goal

pub record AllOrders (q : Port) (a b c : Event) (Goal : Answered → Type 0) : Type 0 where
  pub abc : AfterThree q a b c Goal
  pub acb : AfterThree q a c b Goal
  pub bac : AfterThree q b a c Goal
  pub bca : AfterThree q b c a Goal
  pub cab : AfterThree q c a b Goal
  pub cba : AfterThree q c b a Goal

-- ---- an exchange as a part of the record, and what is measured once it is stored in a fit one

pub record Part (X : Type 0) : Type 0 where
  pub store : X → Port
  pub measure : X → Worked Done
  pub settles : (x y : X) → unfit (store x) ≡ false → settle (store y) ≡ measure y

-- ---- an event turns an exchange into another, by a time that is worth so much: what all endings of the new one have, the answer has

pub record Turns {X : Type 0} (k : Part X) (x : X) (e : Event) (z : ℤ) (new : Time → X) : Type 1 where
  pub has : (Q : Answered → Type 0) → ((t : Time) → time t ≡ z → All (λ d. Q (answered (k.store x) (worked d))) (k.measure (new t))) → (room : ℕ) → Taken (step (k.store x) room e) → Q (step (k.store x) room e)
