-- Laws of times, durations and wire timestamps, for callers to cite, so that none opens a definition: a sum's value, its range, what `OutOfRange` means, and that equal meanings are equal words. `Timers` has its laws in `TimerLaws`.
use Rattle.std.specs.Prelude.{◌≡◌, refl, Bool, true, false, cond, leb, ltb, ℤ, pos, negsuc, neg_ℤ, ◌-ℤ◌, Result, Ok, Err}
use Rattle.std.proofs.Common.{sym, ◌∙◌, subst, arith, mod-lt, lt_trans, le_trans, lt_of_le_of_lt, le_of_suc-le-suc, le-add_right, mul-le-mul_right, lit<, shr_lt}
use Rattle.std.proofs.Math.Path.{ap}
use Rattle.std.proofs.lemmas.Bool.{false≢true}
use Rattle.std.proofs.Math.Bool.{and-true}
use Prim.Native.Nat.{ℕ, suc, ◌-◌, ◌*◌, ◌/◌, ◌%◌, ◌^◌, ◌<◌, ◌≤◌, zero, zero-le, suc-le-suc}
use Rattle.std.proofs.Math.Decide.{dec_lt}
use Rattle.std.proofs.Math.Arith.{digits_lt, comp_lt, comp_comp, comp_ge}
use Rattle.std.proofs.Math.Dec.{leb-zero, leb-suc-suc}
use Rattle.std.proofs.Math.Pow.{high, low, split, pow-sub-lt}
use Rattle.std.proofs.Math.IntN.{sub_ℕ}
use Rattle.std.specs.Int.Signed.{mag}
use borrow.Author.Tests.{lt-ltb, le-ltb, ltb-true}
use Rattle.time.specs.declared.Time.{Time}
use Rattle.time.specs.declared.Duration.{Duration}
use Rattle.time.specs.Units.{spelled, time, in_time, time_words, time_of, signed, duration, in_duration, spelling, duration_words, duration_of, half, half_of}
use Rattle.time.specs.Lemmas.Integers.{not_below, sub_ge, sub_lt, pos_minus}
use Rattle.time.specs.declared.TimeError.{TimeError}

-- An answer that a test picks, a value or a refusal: what was answered tells the test.
module _ {X A : Type 0} (value : X → A) (out : A) (same : (v w : X) → value v ≡ value w → v ≡ w) (differ : (v : X) → value v ≡ out → ⊥) where
  pub was_value : (b : Bool) (v w : X) → cond b (value v) out ≡ value w → (b ≡ true) × (v ≡ w)
  was_value true v w e = (refl, same v w e)
  was_value false v w e = absurd (differ w (sym e))

  pub was_refused : (b : Bool) (v : X) → cond b (value v) out ≡ out → b ≡ false
  was_refused true v e = absurd (differ v e)
  was_refused false v e = refl

-- ---- times

-- the range as one bound of ℕ
pub in_time_lem : (n : ℕ) → in_time (pos n) ≡ ltb n (2 ^ 127)
unfolding in_time
in_time_lem n = simp (leb-zero n) (sym (leb-suc-suc n (2 ^ 127 - 1)))

pub not_below_zero : (n : ℕ) → in_time (negsuc n) ≡ false
unfolding in_time
not_below_zero n = refl

-- in its range a sum is answered, and out of it it is not
pub time_in : (z : ℤ) → in_time z ≡ true → time_of z ≡ Ok (time_words z)
unfolding time_of
time_in z h = simp h

pub time_out : (z : ℤ) → in_time z ≡ false → time_of z ≡ Err TimeError.OutOfRange
unfolding time_of
time_out z h = simp h

time_words_lem : (z : ℤ) → in_time z ≡ true → time (time_words z) ≡ z
unfolding time
time_words_lem (pos n) h = ap pos (split n 64)
time_words_lem (negsuc n) h = absurd (false≢true (sym (not_below_zero n) ∙ h))

high_word : (z : ℤ) → in_time z ≡ true → (time_words z).hi < 2 ^ 63
high_word (pos n) h = shr_lt 63 64 (ltb-true n (2 ^ 127) (sym (in_time_lem n) ∙ h))
high_word (negsuc n) h = absurd (false≢true (sym (not_below_zero n) ∙ h))

-- what a time that was answered is: it has the value asked for, which is in range, and no top bit
pub record IsTime (z : ℤ) (t : Time) : Type 0 where
  pub value : time t ≡ z
  pub within : in_time z ≡ true
  pub hi : t.hi < 2 ^ 63
  pub lo : t.lo < 2 ^ 64

same_time : (a b : Time) → ◌≡◌ {A = Result Time TimeError} (Ok a) (Ok b) → a ≡ b
same_time a b e = cc

no_time : (t : Time) → Ok t ≡ Err TimeError.OutOfRange → ⊥
no_time t e =
    let y : ◌≡◌ {A = ℕ} 0 1 = cc in
    omega arith

pub time_is : (z : ℤ) (t : Time) → time_of z ≡ Ok t → IsTime z t
unfolding time_of
time_is z t e =
    let g : (in_time z ≡ true) × (time_words z ≡ t) = was_value Ok (Err TimeError.OutOfRange) same_time no_time (in_time z) (time_words z) t e in
    record {
      value = ap time (sym g.1) ∙ time_words_lem z g.0;
      within = g.0;
      hi = subst (λ (u : Time). u.hi < 2 ^ 63) g.1 (high_word z g.0);
      lo = subst (λ (u : Time). u.lo < 2 ^ 64) g.1 (mod-lt _ (lit< tt));
    }

-- `OutOfRange` is answered only out of the range
pub time_out_is : (z : ℤ) → time_of z ≡ Err TimeError.OutOfRange → in_time z ≡ false
unfolding time_of
time_out_is z e = was_refused Ok (Err TimeError.OutOfRange) same_time no_time (in_time z) (time_words z) e

-- two words with no top bit, or with one
pub below_half : (h l : ℕ) → h < 2 ^ 63 → l < 2 ^ 64 → spelled h l < 2 ^ 127
below_half h l p q = digits_lt {q = h} {m = 2 ^ 63} {r = l} {c = 2 ^ 64} p q

pub from_half : (h l : ℕ) → 2 ^ 63 ≤ h → 2 ^ 127 ≤ spelled h l
from_half h l p = le_trans (mul-le-mul_right (2 ^ 64) p) (le-add_right (h * 2 ^ 64) l)

pub below_whole : (h l : ℕ) → h < 2 ^ 64 → l < 2 ^ 64 → spelled h l < 2 ^ 128
below_whole h l p q = digits_lt {q = h} {m = 2 ^ 64} {r = l} {c = 2 ^ 64} p q

-- the words of a time's units are that time, so two times of as many units are one
pub time_words_back : (h l : ℕ) → l < 2 ^ 64 → time_words (pos (spelled h l)) ≡ record { hi = h; lo = l }
time_words_back h l q = λ i. record { hi = high h 64 q i; lo = low h 64 q i }

pub time_back : (t : Time) → t.lo < 2 ^ 64 → in_time (time t) ≡ true → time_of (time t) ≡ Ok t
unfolding time
time_back t q h = time_in (time t) h ∙ ap Ok (time_words_back t.hi t.lo q)

pub time_unique : (a b : Time) → a.lo < 2 ^ 64 → b.lo < 2 ^ 64 → time a ≡ time b → a ≡ b
unfolding time
time_unique a b p q e =
    sym (time_words_back a.hi a.lo p) ∙ ap time_words e ∙ time_words_back b.hi b.lo q

-- ---- durations

-- the range as one bound of ℕ: `mag z` is n both for n and for -(n + 1)
pub in_duration_lem : (z : ℤ) → in_duration z ≡ ltb (mag z) (2 ^ 127)
unfolding in_duration
in_duration_lem (pos n) = sym (leb-suc-suc n (2 ^ 127 - 1))
in_duration_lem (negsuc n) = and-true (leb n (2 ^ 127 - 1)) ∙ sym (leb-suc-suc n (2 ^ 127 - 1))

pub duration_in : (z : ℤ) → in_duration z ≡ true → duration_of z ≡ Ok (duration_words z)
unfolding duration_of
duration_in z h = simp h

pub duration_out : (z : ℤ) → in_duration z ≡ false → duration_of z ≡ Err TimeError.OutOfRange
unfolding duration_of
duration_out z h = simp h

-- two's complement below half of the power, and from it on
pub signed_low : (bits n : ℕ) → n < 2 ^ (bits - 1) → signed bits n ≡ pos n
unfolding signed
signed_low bits n h = simp (lt-ltb n (2 ^ (bits - 1)) h)

pub signed_high : (bits n : ℕ) → 2 ^ (bits - 1) ≤ n → signed bits n ≡ sub_ℕ n (2 ^ bits)
unfolding signed
signed_high bits n h = simp (le-ltb n (2 ^ (bits - 1)) h) (pos_minus n (2 ^ bits))

duration_words_lem : (z : ℤ) → in_duration z ≡ true → duration (duration_words z) ≡ z
unfolding duration
duration_words_lem (pos n) h =
    ap (signed 128) (split n 64) ∙ signed_low 128 n (ltb-true n (2 ^ 127) (sym (in_duration_lem (pos n)) ∙ h))
duration_words_lem (negsuc n) h =
    let small : n < 2 ^ 127 = ltb-true n (2 ^ 127) (sym (in_duration_lem (negsuc n)) ∙ h) in
    ap (signed 128) (split (2 ^ 128 - suc n) 64)
    ∙ signed_high 128 (2 ^ 128 - suc n) (comp_ge {n = n} {H = 2 ^ 127} small)
    ∙ sub_lt (2 ^ 128 - suc n) (2 ^ 128) (pow-sub-lt 128 (suc-le-suc zero-le))
    ∙ ap negsuc (comp_comp {n = n} {N = 2 ^ 128} (lt_trans small (lit< tt)))

spelling_lt : (z : ℤ) → in_duration z ≡ true → spelling z < 2 ^ 128
spelling_lt (pos n) h = lt_trans (ltb-true n (2 ^ 127) (sym (in_duration_lem (pos n)) ∙ h)) (lit< tt)
spelling_lt (negsuc n) h = pow-sub-lt 128 (suc-le-suc zero-le)

-- what a duration that was answered is
pub record IsDuration (z : ℤ) (d : Duration) : Type 0 where
  pub value : duration d ≡ z
  pub within : in_duration z ≡ true
  pub hi : d.hi < 2 ^ 64
  pub lo : d.lo < 2 ^ 64

same_duration : (a b : Duration) → ◌≡◌ {A = Result Duration TimeError} (Ok a) (Ok b) → a ≡ b
same_duration a b e = cc

no_duration : (d : Duration) → Ok d ≡ Err TimeError.OutOfRange → ⊥
no_duration d e =
    let y : ◌≡◌ {A = ℕ} 0 1 = cc in
    omega arith

pub duration_is : (z : ℤ) (d : Duration) → duration_of z ≡ Ok d → IsDuration z d
unfolding duration_of
duration_is z d e =
    let g : (in_duration z ≡ true) × (duration_words z ≡ d) = was_value Ok (Err TimeError.OutOfRange) same_duration no_duration (in_duration z) (duration_words z) d e in
    record {
      value = ap duration (sym g.1) ∙ duration_words_lem z g.0;
      within = g.0;
      hi = subst (λ (u : Duration). u.hi < 2 ^ 64) g.1 (shr_lt 64 64 (spelling_lt z g.0));
      lo = subst (λ (u : Duration). u.lo < 2 ^ 64) g.1 (mod-lt _ (lit< tt));
    }

pub duration_out_is : (z : ℤ) → duration_of z ≡ Err TimeError.OutOfRange → in_duration z ≡ false
unfolding duration_of
duration_out_is z e = was_refused Ok (Err TimeError.OutOfRange) same_duration no_duration (in_duration z) (duration_words z) e

-- any two words are a duration, which its units give back; so two durations of as many units are one
module _ (d : Duration) (p : d.hi < 2 ^ 64) (q : d.lo < 2 ^ 64) where
  abbrev n : ℕ
  n = spelled d.hi d.lo

  words_are : (m : ℕ) → m ≡ n → record { hi = m / 2 ^ 64; lo = m % 2 ^ 64 } ≡ d
  words_are m e =
      ap (λ (k : ℕ). record { hi = k / 2 ^ 64; lo = k % 2 ^ 64 }) e ∙ (λ i. record { hi = high d.hi 64 q i; lo = low d.hi 64 q i })

  pub duration_back : duration_of (duration d) ≡ Ok d
  unfolding duration
  duration_back = go (dec_lt n (2 ^ 127))
    where
      go : Dec (n < 2 ^ 127) → duration_of (signed 128 n) ≡ Ok d
      go (yes h) =
          ap duration_of (signed_low 128 n h) ∙ duration_in (pos n) (in_duration_lem (pos n) ∙ lt-ltb n (2 ^ 127) h) ∙ ap Ok (words_are n refl)
      go (no h) =
          let m : ℕ = 2 ^ 128 - suc n in
          let whole : n < 2 ^ 128 = below_whole d.hi d.lo p q in
          let large : 2 ^ 127 ≤ n = not_below n (2 ^ 127) h in
          ap duration_of (signed_high 128 n large ∙ sub_lt n (2 ^ 128) whole)
          ∙ duration_in (negsuc m) (in_duration_lem (negsuc m) ∙ lt-ltb m (2 ^ 127) (comp_lt {n = n} {H = 2 ^ 127} large whole))
          ∙ ap Ok (words_are (2 ^ 128 - suc m) (comp_comp {n = n} {N = 2 ^ 128} whole))

  pub duration_within : in_duration (duration d) ≡ true
  duration_within = (duration_is (duration d) d duration_back).within

pub duration_unique : (a b : Duration) → a.hi < 2 ^ 64 → a.lo < 2 ^ 64 → b.hi < 2 ^ 64 → b.lo < 2 ^ 64 → duration a ≡ duration b → a ≡ b
duration_unique a b p q r s e =
    let x : duration_of (duration a) ≡ Ok a = duration_back a p q in
    let y : duration_of (duration b) ≡ Ok b = duration_back b r s in
    cc

-- ---- what never leaves its range: the difference of two times, and a half

under : (a b h : ℕ) → a < h → a - b < h
under a b h p = omega arith

pub times_apart : (a b : ℤ) → in_time a ≡ true → in_time b ≡ true → in_duration (a -ℤ b) ≡ true
times_apart (pos n) (pos m) p q =
    ap in_duration (pos_minus n m) ∙ go (dec_lt n m)
  where
    n_in : n < 2 ^ 127
    n_in = ltb-true n (2 ^ 127) (sym (in_time_lem n) ∙ p)

    m_in : m < 2 ^ 127
    m_in = ltb-true m (2 ^ 127) (sym (in_time_lem m) ∙ q)

    go : Dec (n < m) → in_duration (sub_ℕ n m) ≡ true
    go (yes h) =
        ap in_duration (sub_lt n m h) ∙ in_duration_lem (negsuc (m - suc n)) ∙ lt-ltb (m - suc n) (2 ^ 127) (under m (suc n) (2 ^ 127) m_in)
    go (no h) =
        ap in_duration (sub_ge n m (not_below n m h)) ∙ in_duration_lem (pos (n - m)) ∙ lt-ltb (n - m) (2 ^ 127) (under n m (2 ^ 127) n_in)
times_apart (pos n) (negsuc m) p q = absurd (false≢true (sym (not_below_zero m) ∙ q))
times_apart (negsuc n) b p q = absurd (false≢true (sym (not_below_zero n) ∙ p))

neg_mag : (r n : ℕ) → r ≤ suc n → mag (neg_ℤ (pos r)) ≤ n
neg_mag zero n h = zero-le
neg_mag (suc r) n h = le_of_suc-le-suc h

half-mag : (z : ℤ) → mag (half z) ≤ mag z
unfolding half
half-mag (pos n) = omega arith
half-mag (negsuc n) = neg_mag (suc n / 2) n (omega arith)

pub half_within : (z : ℤ) → in_duration z ≡ true → in_duration (half z) ≡ true
half_within z h =
    in_duration_lem (half z)
    ∙ lt-ltb (mag (half z)) (2 ^ 127) (lt_of_le_of_lt (half-mag z) (ltb-true (mag z) (2 ^ 127) (sym (in_duration_lem z) ∙ h)))

-- so the half of what a sum answered is the half of its value
pub half_is : (z : ℤ) (d : Duration) → duration_of z ≡ Ok d → duration_of (half z) ≡ Ok (half_of d)
unfolding half_of
half_is z d e =
    let a : IsDuration z d = duration_is z d e in
    duration_in (half z) (half_within z a.within) ∙ ap (λ (y : ℤ). Ok (duration_words (half y))) (sym a.value)

-- and a duration is the half of another exactly where its units are
pub half_unique : (r d : Duration) → r.hi < 2 ^ 64 → r.lo < 2 ^ 64 → d.hi < 2 ^ 64 → d.lo < 2 ^ 64 → duration r ≡ half (duration d) → r ≡ half_of d
half_unique r d p q h l e =
    let x : duration_of (duration r) ≡ Ok r = duration_back r p q in
    let y : duration_of (half (duration d)) ≡ Ok (half_of d) = half_is (duration d) d (duration_back d h l) in
    cc
