-- A rule beside the numbers that 01 has worked out for it: it refuses with 7 exactly where one of them leaves its range. One law for each kind of number; a rule is their chain.
use Rattle.std.specs.Prelude.{◌≡◌, refl, Bool, true, false, cond, not, ◌||◌, List, [], ◌∷◌, ℤ, ◌-ℤ◌, Option, Some, None, Result, Ok, Err}
use Rattle.std.proofs.Common.{sym, ◌∙◌, ap, subst}
use Rattle.rules.specs.Names.{Time, Duration, TimeError}
use Rattle.time.specs.Units.{time_of, in_time, duration, duration_of, in_duration, half, half_of}
use Rattle.time.specs.Laws.{IsTime, time_is, time_out_is, IsDuration, duration_is, duration_out_is, duration_back, half_is}
use Rattle.rules.specs.Worked.{Worked, worked, refused, ◌then◌, a_time, a_duration, less_duration}
use Rattle.rules.specs.Events.{Done}
use Rattle.rules.specs.Measuring.{less_mean, half_below}
use Rattle.rules.specs.WorkedOut.{Number, ◌∋◌, times, durations, outside, if_there}
use Rattle.rules.specs.Formulas.{GivenBy}
use Rattle.rules.specs.AllLaws.{All}
use Rattle.rules.specs.AgreeLaws.{Agrees}

-- what is worked out says it
pub agrees_all : (ns : List Number) (Says : Done → Type 0) (w : Worked Done) → Agrees ns Says w → All Says w
agrees_all ns Says (worked d) a = a.1
agrees_all ns Says (refused o) a = tt

-- a rule that goes by a test, beside something else that goes by the same one
pub by_test : {A : Type 0} (P : Bool → A → Type 0) (t : Bool) (a b : A) → P true a → P false b → P t (cond t a b)
by_test P true a b x y = x
by_test P false a b x y = y

-- the tests of the numbers are all that matters of them
agrees_same : (ns ms : List Number) (Says : Done → Type 0) (w : Worked Done) → outside ns ≡ outside ms → Agrees ns Says w → Agrees ms Says w
agrees_same ns ms Says (worked d) e a = (sym e ∙ a.0, a.1)
agrees_same ns ms Says (refused o) e a = (a.0, sym e ∙ a.1)

-- a test of one number, in front of those of others
pub passed : (b c : Bool) → b ≡ true → c ≡ (not b || c)
passed b c e = simp e

pub failed : (b c : Bool) → b ≡ false → (not b || c) ≡ true
failed b c e = simp e

-- ---- a duration

module _ (z : ℤ) (ns : List Number) (Says : Done → Type 0) (k : Duration → Worked Done) where
  answered_duration : (a : Result Duration TimeError) → duration_of z ≡ a → ((d : Duration) → IsDuration z d → Agrees ns Says (k d)) → Agrees ((durations ∋ z) ∷ ns) Says (a_duration a then k)
  answered_duration (Ok d) e next =
      let i : IsDuration z d = duration_is z d e in
      agrees_same ns ((durations ∋ z) ∷ ns) Says (k d) (passed (in_duration z) (outside ns) i.within) (next d i)
  answered_duration (Err TimeError.OutOfRange) e next = (refl, failed (in_duration z) (outside ns) (duration_out_is z e))

  pub agrees_duration : (y : ℤ) → y ≡ z → ((d : Duration) → IsDuration z d → Agrees ns Says (k d)) → Agrees ((durations ∋ z) ∷ ns) Says (a_duration (duration_of y) then k)
  agrees_duration y e next =
      subst (λ (x : ℤ). Agrees ((durations ∋ z) ∷ ns) Says (a_duration (duration_of x) then k)) (sym e) (answered_duration (duration_of z) refl next)

-- ---- a time

module _ (z : ℤ) (ns : List Number) (Says : Done → Type 0) (k : Time → Worked Done) where
  answered_time : (a : Result Time TimeError) → time_of z ≡ a → ((t : Time) → IsTime z t → Agrees ns Says (k t)) → Agrees ((times ∋ z) ∷ ns) Says (a_time a then k)
  answered_time (Ok t) e next =
      let i : IsTime z t = time_is z t e in
      agrees_same ns ((times ∋ z) ∷ ns) Says (k t) (passed (in_time z) (outside ns) i.within) (next t i)
  answered_time (Err TimeError.OutOfRange) e next = (refl, failed (in_time z) (outside ns) (time_out_is z e))

  pub agrees_time : ((t : Time) → IsTime z t → Agrees ns Says (k t)) → Agrees ((times ∋ z) ∷ ns) Says (a_time (time_of z) then k)
  agrees_time next = answered_time (time_of z) refl next

-- ---- what is there only with another duration

pub then_then : {A B C : Type 0} (w : Worked A) (f : A → Worked B) (g : B → Worked C) → (w then f) then g ≡ w then λ a. f a then g
then_then (worked a) f g = refl
then_then (refused o) f g = refl

-- half of a duration has half of its units
pub half_means : (z : ℤ) (d : Duration) → IsDuration z d → duration (half_of d) ≡ half z
half_means z d i =
    (duration_is (half (duration d)) (half_of d) (half_is (duration d) d (duration_back d i.hi i.lo))).value ∙ ap half i.value

pub agrees_mean : (m : Option Duration) (raw : Duration) (z : ℤ) → duration raw ≡ z → (Says : Done → Type 0) (k : Option Duration → Worked Done) → ((o : Option Duration) → GivenBy m (λ mean. z -ℤ mean) o → Agrees [] Says (k o)) → Agrees (if_there m (λ mean. z -ℤ mean)) Says (less_mean raw m then k)
unfolding less_duration
agrees_mean None raw z e Says k next = next None tt
agrees_mean (Some m) raw z e Says k next =
    subst (Agrees ((durations ∋ z -ℤ duration m) ∷ []) Says) (sym (then_then (less_duration raw m) (λ o. worked (Some o)) k))
    (agrees_duration (z -ℤ duration m) [] Says (λ d. k (Some d)) (duration raw -ℤ duration m) (ap (λ (x : ℤ). x -ℤ duration m) e)
    (λ d i. next (Some d) i.value))

pub agrees_half : (m : Option Duration) (raw : Duration) (z : ℤ) → duration raw ≡ z → (Says : Done → Type 0) (k : Option Duration → Worked Done) → ((o : Option Duration) → GivenBy m (λ last. half (last -ℤ z)) o → Agrees [] Says (k o)) → Agrees (if_there m (λ last. last -ℤ z)) Says (half_below m raw then k)
unfolding less_duration
agrees_half None raw z e Says k next = next None tt
agrees_half (Some m) raw z e Says k next =
    subst (Agrees ((durations ∋ duration m -ℤ z) ∷ []) Says) (sym (then_then (less_duration m raw) (λ d. worked (Some (half_of d))) k))
    (agrees_duration (duration m -ℤ z) [] Says (λ d. k (Some (half_of d))) (duration m -ℤ duration raw) (ap (λ (x : ℤ). duration m -ℤ x) e)
    (λ d i. next (Some (half_of d)) (half_means (duration m -ℤ z) d i)))
