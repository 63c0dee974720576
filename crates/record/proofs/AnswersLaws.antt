-- Laws of answers: the places hold the actions in their order, parts set one by one make the answer that `answer_of` spells, and the table's numbers tell outcomes apart.
use Rattle.std.specs.Prelude.{ℕ, ◌≤◌, ◌<◌, ◌≡◌, Bool, false, length, Option, Some, None}
use Rattle.std.proofs.Math.Path.{refl}
use Rattle.std.proofs.Common.{sym, ap, ◌∙◌, arith, le-ltb}
use mathlib.Core.List.{List, [], ◌∷◌, ◌++◌}
use Rattle.record.specs.declared.Port.{Port}
use Rattle.record.specs.declared.Outcome.{Outcome}
use Rattle.record.specs.declared.Measurement.{Measurement}
use Rattle.record.specs.declared.Action.{Action}
use Rattle.record.specs.Answers.{number_of, places, first_actions, answer_of, taken_with, with_measurement, with_reset, with_length, with_action}
use Rattle.record.specs.AnswersLaws.{outcome_of}

pub actions_back : (as' : List Action) → length as' ≤ 2 → first_actions (length as') (places as') ≡ as'
unfolding places
actions_back [] h = refl
actions_back (a ∷ []) h = refl
actions_back (a ∷ b ∷ []) h = refl
actions_back (a ∷ b ∷ c ∷ rest) h = absurd (omega (arith, h))

module _ (o : Outcome) (p : Port) (m : Option Measurement) (n : ℕ) (r : Bool) where
  -- an action goes behind those that are there, while there is a place
  pub action_behind : (as' : List Action) (x : Action) → length as' < 2 → with_action (answer_of o p m n as' r) x ≡ answer_of o p m n (as' ++ x ∷ []) r
  unfolding with_action answer_of places
  action_behind [] x h = refl
  action_behind (a ∷ []) x h = refl
  action_behind (a ∷ b ∷ rest) x h = absurd (omega arith)

  -- and a third is not kept
  pub action_left : (as' : List Action) (x : Action) → 2 ≤ length as' → with_action (answer_of o p m n as' r) x ≡ answer_of o p m n as' r
  unfolding with_action answer_of
  action_left as' x h = simp (le-ltb (length as') 2 h)

  module _ (as' : List Action) where
    pub measurement_set : (x : Measurement) → with_measurement (answer_of o p m n as' r) x ≡ answer_of o p (Some x) n as' r
    unfolding answer_of
    measurement_set x = refl

    pub length_set_to : (k : ℕ) → with_length (answer_of o p m n as' r) k ≡ answer_of o p m k as' r
    unfolding answer_of
    length_set_to k = refl

    pub reset_set : (x : Bool) → with_reset (answer_of o p m n as' r) x ≡ answer_of o p m n as' x
    unfolding answer_of
    reset_set x = refl

-- so one action stands in the first place
pub one_action : (p : Port) (x : Action) → with_action (taken_with p) x ≡ answer_of Outcome.Taken p None 0 (x ∷ []) false
unfolding with_action answer_of places
one_action p x = refl

-- and two actions, the timer's before the packet's, stand in the order in which they came
pub two_actions : (p : Port) (x y : Action) → with_action (with_action (taken_with p) x) y ≡ answer_of Outcome.Taken p None 0 (x ∷ y ∷ []) false
unfolding with_action answer_of places
two_actions p x y = refl

-- ---- numbers

outcome_back : (o : Outcome) → outcome_of (number_of o) ≡ o
outcome_back Outcome.Taken = refl
outcome_back Outcome.Buffer = refl
outcome_back Outcome.Unfit = refl
outcome_back Outcome.Limits = refl
outcome_back Outcome.Version = refl
outcome_back Outcome.Malformed = refl
outcome_back Outcome.Foreign = refl
outcome_back Outcome.Host = refl
outcome_back Outcome.Range = refl

-- no two outcomes share a number
pub number_unique : (a b : Outcome) → number_of a ≡ number_of b → a ≡ b
number_unique a b e = sym (outcome_back a) ∙ ap outcome_of e ∙ outcome_back b
