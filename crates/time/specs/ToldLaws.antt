-- Each definition's answer in document 01's terms: 0 with its value exactly in its range, and otherwise the table's number alone.
use Rattle.std.specs.Prelude.{◌≡◌, refl, Bool, true, false, cond, [], ◌∷◌, ℕ, ◌/◌, ◌%◌, ◌^◌, ◌<◌, ltb, ℤ, pos, Some, None, Ok, Err}
use Rattle.std.proofs.Common.{ap, ◌∙◌, ltb-true}
use Rattle.time.specs.declared.WireTimestamp.{WireTimestamp}
use Rattle.time.specs.Units.{spelled, time, in_time, time_words, time_of, time_of_words, wire, time_of_wire, in_duration, duration_words, duration_of, wire_of}
use Rattle.time.specs.Numbers.{answered, refusal, told_time, told_duration, told_words, told_read, told_wire}
use Rattle.time.specs.WireLaws.{read_in, read_is}
use Rattle.time.specs.Laws.{time_in, time_is, duration_in, duration_is}
use Rattle.time.specs.declared.TimeError.{TimeError}

-- a function of what a test picks
pub of_cond : {A B : Type 0} (f : A → B) (b : Bool) (x y : A) → f (cond b x y) ≡ cond b (f x) (f y)
of_cond f true x y = refl
of_cond f false x y = refl

-- what is picked where the test is true may use that it is
where_true : {A : Type 0} (b : Bool) (x x' y : A) → (b ≡ true → x ≡ x') → cond b x y ≡ cond b x' y
where_true true x x' y e = e refl
where_true false x x' y e = refl

pub told_time_lem : (z : ℤ) → told_time (time_of z) ≡ cond (in_time z) (answered (z ∷ [])) (refusal 7)
unfolding time_of
told_time_lem z =
    of_cond told_time (in_time z) (Ok (time_words z)) (Err TimeError.OutOfRange)
    ∙ where_true (in_time z) (told_time (Ok (time_words z))) (answered (z ∷ [])) (refusal 7) (λ h. ap (λ (y : ℤ). answered (y ∷ [])) (time_is z (time_words z) (time_in z h)).value)

pub told_duration_lem : (z : ℤ) → told_duration (duration_of z) ≡ cond (in_duration z) (answered (z ∷ [])) (refusal 7)
unfolding duration_of
told_duration_lem z =
    of_cond told_duration (in_duration z) (Ok (duration_words z)) (Err TimeError.OutOfRange)
    ∙ where_true (in_duration z) (told_duration (Ok (duration_words z))) (answered (z ∷ [])) (refusal 7) (λ h. ap (λ (y : ℤ). answered (y ∷ [])) (duration_is z (duration_words z) (duration_in z h)).value)

pub told_words_lem : (row hi lo : ℕ) → told_words row (time_of_words hi lo) ≡ cond (in_time (pos (spelled hi lo))) (answered (pos (spelled hi lo) ∷ [])) (refusal row)
unfolding time_of_words time
told_words_lem row hi lo = of_cond (told_words row) (in_time (pos (spelled hi lo))) (Some (record { hi = hi; lo = lo })) None

pub told_read_lem : (w : WireTimestamp) → w.nanos < 2 ^ 32 → told_read (time_of_wire w) ≡ cond (ltb w.seconds (2 ^ 48)) (answered (wire w ∷ [])) (refusal 5)
unfolding time_of_wire
told_read_lem w q =
    of_cond told_read (ltb w.seconds (2 ^ 48)) (Ok (time_words (wire w))) (Err TimeError.OutOfRange)
    ∙ where_true (ltb w.seconds (2 ^ 48)) (told_read (Ok (time_words (wire w)))) (answered (wire w ∷ [])) (refusal 5)
    (λ h. ap (λ (y : ℤ). answered (y ∷ [])) (read_is w (time_words (wire w)) q (read_in w (ltb-true w.seconds (2 ^ 48) h))).value)

pub told_wire_lem : (n : ℕ) → told_wire (wire_of (pos n)) ≡ cond (ltb (n / 2 ^ 32 / 10 ^ 9) (2 ^ 48)) (answered (pos (n / 2 ^ 32 / 10 ^ 9) ∷ pos (n / 2 ^ 32 % 10 ^ 9) ∷ pos (n % 2 ^ 32 / 2 ^ 16) ∷ [])) (refusal 7)
unfolding wire_of
told_wire_lem n =
    of_cond told_wire (ltb (n / 2 ^ 32 / 10 ^ 9) (2 ^ 48))
    (Ok (record { seconds = n / 2 ^ 32 / 10 ^ 9; nanos = n / 2 ^ 32 % 10 ^ 9 }, (n % 2 ^ 32 / 2 ^ 16)))
    (Err TimeError.OutOfRange)
