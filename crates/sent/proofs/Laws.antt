-- Laws of sent corrections, for callers to cite: which are sent, and that what is sent means what was asked for.
use Rattle.std.specs.Prelude.{ℕ, suc, ◌+◌, ◌-◌, ◌^◌, ◌<◌, ◌≤◌, ◌≡◌, true, false, leb, ltb, ℤ, pos, negsuc, ◌-ℤ◌, Result, Ok, Err, FitsSigned}
use Rattle.std.proofs.Common.{sym, ap, ◌∙◌, arith, lt-ltb, le-ltb, ltb-true}
use Rattle.std.specs.Int.{w64, cast_signed, cast_unsigned}
use Rattle.std.proofs.Math.Decide.{dec_lt}
use Rattle.std.proofs.Math.Bool.{and-true}
use Rattle.std.proofs.Math.Dec.{leb-suc-suc}
use Rattle.std.proofs.Math.IntN.{sub_ℕ}
use Rattle.std.specs.Int.Signed.{mag}
use Rattle.time.specs.Units.{signed}
use Rattle.time.specs.Laws.{was_value, was_refused, signed_low, signed_high}
use Rattle.time.specs.Lemmas.Integers.{not_below, sub_ge, sub_lt, pos_minus, pos_sub, difference_is}
use Rattle.sent.specs.Messages.{in_correction, word, correction_of}
use Rattle.octets.proofs.BytesLaws.{apart}
use Rattle.sent.specs.Laws.{IsCorrection}
use Rattle.time.specs.declared.TimeError.{TimeError}

-- as one bound of ℕ: `mag z` is n both for n and for -(n + 1)
in_correction_lem : (z : ℤ) → in_correction z ≡ ltb (mag z) (2 ^ 63)
in_correction_lem (pos n) = sym (leb-suc-suc n (2 ^ 63 - 1))
in_correction_lem (negsuc n) = and-true (leb n (2 ^ 63 - 1)) ∙ sym (leb-suc-suc n (2 ^ 63 - 1))

pub correction_in : (z : ℤ) → mag z < 2 ^ 63 → correction_of z ≡ Ok (word z)
unfolding correction_of
correction_in z h = simp (in_correction_lem z ∙ lt-ltb (mag z) (2 ^ 63) h)

pub correction_out_when : (z : ℤ) → in_correction z ≡ false → correction_of z ≡ Err TimeError.OutOfRange
unfolding correction_of
correction_out_when z h = simp h

pub correction_out : (z : ℤ) → 2 ^ 63 ≤ mag z → correction_of z ≡ Err TimeError.OutOfRange
correction_out z h = correction_out_when z (in_correction_lem z ∙ le-ltb (mag z) (2 ^ 63) h)

-- a correction is exactly what fits an i64
pub correction_fits : (z : ℤ) → FitsSigned w64 z → correction_of z ≡ Ok (cast_unsigned w64 z)
correction_fits (pos n) h = correction_in (pos n) h.sfits
correction_fits (negsuc n) h = correction_in (negsuc n) h.sfits

pub correction_off : (z : ℤ) → (FitsSigned w64 z → ⊥) → correction_of z ≡ Err TimeError.OutOfRange
correction_off z h = correction_out z (not_below _ _ (λ p. h (record { sfits = p })))

-- two's complement of 64 bits, as Rust casts it
pub signed_is_cast : (c : ℕ) → c < 2 ^ 64 → signed 64 c ≡ cast_signed w64 c
signed_is_cast c h = go (dec_lt c (2 ^ 63))
  where
    go : Dec (c < 2 ^ 63) → signed 64 c ≡ cast_signed w64 c
    go (yes p) = simp (lt-ltb c (2 ^ 63) p) (signed_low 64 c p)
    go (no p) = simp (le-ltb c (2 ^ 63) (not_below c (2 ^ 63) p)) (signed_high 64 c (not_below c (2 ^ 63) p) ∙ sub_lt c (2 ^ 64) h)

-- a - b in 64 bits: not negative, negative, and too far below zero
pub correction_up : (a b : ℕ) → b ≤ a → a < b + 2 ^ 63 → correction_of (sub_ℕ a b) ≡ Ok (a - b)
correction_up a b h k = ap correction_of (sub_ge a b h) ∙ correction_in (pos (a - b)) (omega arith)

pub correction_down : (a b v : ℕ) → a < b → b ≤ a + 2 ^ 63 → v + b ≡ a + 2 ^ 64 → correction_of (sub_ℕ a b) ≡ Ok v
correction_down a b v h k e =
    ap correction_of (sub_lt a b h) ∙ correction_in (negsuc (b - suc a)) (omega arith) ∙ ap Ok (omega arith)

pub correction_far : (a b : ℕ) → a + 2 ^ 63 < b → correction_of (sub_ℕ a b) ≡ Err TimeError.OutOfRange
correction_far a b h = ap correction_of (sub_lt a b (omega arith)) ∙ correction_out (negsuc (b - suc a)) (omega arith)

-- a correction word less f, below its sign's bit and from there on
pub less_low : (c f : ℕ) → c < 2 ^ 63 → signed 64 c -ℤ pos f ≡ sub_ℕ c f
less_low c f h = ap (λ (z : ℤ). z -ℤ pos f) (signed_low 64 c h) ∙ pos_minus c f

pub less_high : (c f : ℕ) → 2 ^ 63 ≤ c → signed 64 c -ℤ pos f ≡ sub_ℕ c (2 ^ 64 + f)
less_high c f h =
    ap (λ (z : ℤ). z -ℤ pos f) (signed_high 64 c h)
    ∙ ap (λ (z : ℤ). sub_ℕ c (2 ^ 64) -ℤ z) (pos_sub f)
    ∙ difference_is c (2 ^ 64) f 0 c (2 ^ 64 + f) (omega arith)

same_correction : (a b : ℕ) → ◌≡◌ {A = Result ℕ TimeError} (Ok a) (Ok b) → a ≡ b
same_correction a b e = cc

no_correction : (c : ℕ) → Ok c ≡ Err TimeError.OutOfRange → ⊥
no_correction c e = apart cc

word_means : (z : ℤ) → mag z < 2 ^ 63 → signed 64 (word z) ≡ z
word_means (pos n) h = signed_low 64 n h
word_means (negsuc n) h =
    signed_high 64 (2 ^ 64 - suc n) (omega arith) ∙ sub_lt (2 ^ 64 - suc n) (2 ^ 64) (omega arith) ∙ ap negsuc (omega arith)

word_small : (z : ℤ) → mag z < 2 ^ 63 → word z < 2 ^ 64
word_small (pos n) h = omega arith
word_small (negsuc n) h = omega arith

pub correction_is : (z : ℤ) (c : ℕ) → correction_of z ≡ Ok c → IsCorrection z c
unfolding correction_of
correction_is z c e =
    let g : (in_correction z ≡ true) × (word z ≡ c) = was_value Ok (Err TimeError.OutOfRange) same_correction no_correction (in_correction z) (word z) c e in
    let h : mag z < 2 ^ 63 = ltb-true (mag z) (2 ^ 63) (sym (in_correction_lem z) ∙ g.0) in
    let s : word z < 2 ^ 64 = word_small z h in
    record { value = ap (signed 64) (sym g.1) ∙ word_means z h; within = g.0; small = omega (arith, s, g.1) }

-- `OutOfRange` is answered only where 64 bits do not hold it
pub correction_out_is : (z : ℤ) → correction_of z ≡ Err TimeError.OutOfRange → in_correction z ≡ false
unfolding correction_of
correction_out_is z e = was_refused Ok (Err TimeError.OutOfRange) same_correction no_correction (in_correction z) (word z) e
