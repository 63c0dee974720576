-- The words of specs/ beside those of Rust's 128-bit integers, which the sums go through.
use Rattle.std.specs.Prelude.{◌≡◌, ℕ, ◌*◌, ◌+◌, ◌^◌, ◌<◌, ◌≤◌, ℤ, pos, negsuc, ◌*ℤ◌, unsigned_abs, FitsSigned, ltb, Ok, Err}
use Rattle.std.specs.Int.{w64, w128, cast_signed, cast_unsigned, FitsUnsigned}
use Rattle.std.proofs.Common.{refl, sym, ap, ◌∙◌, lt-ltb, le-ltb, lt_trans, lit<, zero-le}
use lib.Dec.{le→leb, lt→ltb}
use Rattle.std.proofs.Math.Decide.{dec_lt}
use Rattle.time.specs.declared.Time.{Time}
use Rattle.time.specs.declared.Duration.{Duration}
use Rattle.time.specs.declared.TimeError.{TimeError}
use Rattle.time.specs.Units.{spelled, time, in_time, time_of, signed, correction, duration, spelling, duration_words, duration_of}
use Rattle.time.specs.Laws.{in_time_lem, not_below_zero, time_out, signed_low, signed_high, in_duration_lem, duration_in, duration_out, below_half, from_half, below_whole}
use Rattle.time.specs.Lemmas.Integers.{not_below, sub_lt}

-- two's complement of 64 and of 128 bits
pub signed_64 : (n : ℕ) → n < 2 ^ 64 → cast_signed w64 n ≡ signed 64 n
signed_64 n h = go (dec_lt n (2 ^ 63))
  where
    go : Dec (n < 2 ^ 63) → cast_signed w64 n ≡ signed 64 n
    go (yes p) = simp (lt-ltb n (2 ^ 63) p) (sym (signed_low 64 n p))
    go (no p) = simp (le-ltb n (2 ^ 63) (not_below n (2 ^ 63) p)) (sym (signed_high 64 n (not_below n (2 ^ 63) p) ∙ sub_lt n (2 ^ 64) h))

pub signed_128 : (n : ℕ) → n < 2 ^ 128 → cast_signed w128 n ≡ signed 128 n
signed_128 n h = go (dec_lt n (2 ^ 127))
  where
    go : Dec (n < 2 ^ 127) → cast_signed w128 n ≡ signed 128 n
    go (yes p) = simp (lt-ltb n (2 ^ 127) p) (sym (signed_low 128 n p))
    go (no p) = simp (le-ltb n (2 ^ 127) (not_below n (2 ^ 127) p)) (sym (signed_high 128 n (not_below n (2 ^ 127) p) ∙ sub_lt n (2 ^ 128) h))

pub duration_is_cast : (d : Duration) → d.hi < 2 ^ 64 → d.lo < 2 ^ 64 → duration d ≡ cast_signed w128 (d.hi * 2 ^ 64 + d.lo)
unfolding duration
duration_is_cast d p q = sym (signed_128 (spelled d.hi d.lo) (below_whole d.hi d.lo p q))

pub correction_is_cast : (c : ℕ) → c < 2 ^ 64 → correction c ≡ cast_signed w64 c *ℤ pos 65536
unfolding correction
correction_is_cast c h = ap (λ (z : ℤ). z *ℤ pos 65536) (sym (signed_64 c h))

pub spelling_is_cast : (z : ℤ) → spelling z ≡ cast_unsigned w128 z
spelling_is_cast (pos n) = refl
spelling_is_cast (negsuc n) = refl

-- a duration is exactly what fits an i128
pub duration_fits : (z : ℤ) → FitsSigned w128 z → duration_of z ≡ Ok (duration_words z)
duration_fits z h = duration_in z (in_duration_lem z ∙ lt-ltb _ (2 ^ 127) h.sfits)

pub duration_off : (z : ℤ) → (FitsSigned w128 z → ⊥) → duration_of z ≡ Err TimeError.OutOfRange
duration_off z h =
    duration_out z (in_duration_lem z ∙ le-ltb _ (2 ^ 127) (not_below _ _ (λ p. h (record { sfits = p }))))

-- and every time fits a u128
pub time_fits : (z : ℤ) → FitsUnsigned w128 z → time_of (pos (unsigned_abs z)) ≡ time_of z
time_fits (pos n) h = refl
time_fits (negsuc n) h = absurd (h.0.le)

pub time_off : (z : ℤ) → (FitsUnsigned w128 z → ⊥) → time_of z ≡ Err TimeError.OutOfRange
time_off (negsuc n) h = time_out (negsuc n) (not_below_zero n)
time_off (pos n) h = time_out (pos n) (in_time_lem n ∙ le-ltb n (2 ^ 127) (not_below n (2 ^ 127) (λ p. h (record { le = le→leb 0 n zero-le }, record { lt = lt→ltb n (2 ^ 128) (lt_trans p (lit< tt)) }))))

-- the top bit is all that 2 ^ 127 asks of two words
pub top_bit : (t : Time) → t.hi < 2 ^ 64 → t.lo < 2 ^ 64 → in_time (time t) ≡ ltb t.hi (2 ^ 63)
unfolding time
top_bit t hh hl = go (dec_lt t.hi (2 ^ 63))
  where
    go : Dec (t.hi < 2 ^ 63) → in_time (pos (spelled t.hi t.lo)) ≡ ltb t.hi (2 ^ 63)
    go (yes p) = in_time_lem (spelled t.hi t.lo) ∙ lt-ltb (spelled t.hi t.lo) (2 ^ 127) (below_half t.hi t.lo p hl) ∙ sym (lt-ltb t.hi (2 ^ 63) p)
    go (no p) =
        let q : 2 ^ 63 ≤ t.hi = not_below t.hi (2 ^ 63) p in
        in_time_lem (spelled t.hi t.lo) ∙ le-ltb (spelled t.hi t.lo) (2 ^ 127) (from_half t.hi t.lo q) ∙ sym (le-ltb t.hi (2 ^ 63) q)
