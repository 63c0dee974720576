-- Laws of the timers: what a log interval's byte stands for, that 2 ^ n seconds are whole nanoseconds, that no draw gives an exact half, and that the delay timer is the one whole number less than half a nanosecond away.
use Rattle.std.specs.Prelude.{◌≡◌, refl, true, false, ℕ, suc, ◌+◌, ◌-◌, ◌*◌, ◌/◌, ◌%◌, ◌^◌, ◌<◌, ◌≤◌, leb, ltb, ℤ, pos, negsuc, nat_abs, ◌-ℤ◌, Ok, Err}
use Rattle.std.specs.Int.{w8, cast_signed}
use native.Mathlib.Nat.{mul-div-mul_right}
use Rattle.std.proofs.Common.{mul_comm, lit<, sym, ap, ◌∙◌, arith, lt-ltb, le-ltb, mod-lt, div-add-mod', mul-div_cancel, mul_assoc, mul-le-mul_right, pow-add, pow_pos, leb-true}
use Rattle.std.proofs.Math.Bool.{and-true}
use Rattle.std.proofs.Math.Decide.{dec_lt}
use Rattle.std.proofs.Math.Dec.{leb-suc-suc}
use Rattle.timers.specs.Timers.{interval, in_interval, in_draw, sync_timer, to_nearest, odd_of, delay_timer, sync_timer_of, delay_timer_of}
use Rattle.time.specs.Laws.{signed_low, signed_high}
use Rattle.time.specs.Lemmas.Integers.{not_below, sub_ge, sub_lt, pos_minus}
use Rattle.timers.specs.TimerLaws.{Near}
use Rattle.timers.specs.declared.TimerError.{TimerError}

-- ---- a log interval's byte, and a draw

pub interval_low : (n : ℕ) → n < 128 → interval n ≡ pos n
unfolding interval
interval_low n h = signed_low 8 n h

pub interval_high : (n : ℕ) → 128 ≤ n → n < 256 → interval n ≡ negsuc (256 - suc n)
unfolding interval
interval_high n h k = signed_high 8 n h ∙ sub_lt n 256 k

pub in_low : (n : ℕ) → in_interval (pos n) ≡ leb n 16
unfolding in_interval
in_low n = refl

pub in_high : (m : ℕ) → in_interval (negsuc m) ≡ leb m 8
unfolding in_interval
in_high m = and-true (leb m 8)

-- so an interval that is taken is at most 16, and at least -9
pub low_end : (n : ℕ) → in_interval (pos n) ≡ true → n ≤ 16
low_end n h = leb-true n 16 (sym (in_low n) ∙ h)

pub high_end : (m : ℕ) → in_interval (negsuc m) ≡ true → m ≤ 8
high_end m h = leb-true m 8 (sym (in_high m) ∙ h)

pub in_draw_lem : (k : ℕ) → in_draw k ≡ ltb k (2 ^ 52)
unfolding in_draw
in_draw_lem k = sym (leb-suc-suc k (2 ^ 52 - 1))

-- 52 - n, for n not negative (for -(m + 1) it is 52 + (m + 1) by computing)
pub less_52 : (n : ℕ) → n ≤ 16 → nat_abs (pos 52 -ℤ pos n) ≡ 52 - n
less_52 n h = ap nat_abs (pos_minus 52 n ∙ sub_ge 52 n (omega arith))

-- as what is left of it above 36
above_36 : ℤ → ℕ
above_36 (pos n) = 16 - n
above_36 (negsuc m) = 16 + suc m

exponent : (n : ℤ) → in_interval n ≡ true → nat_abs (pos 52 -ℤ n) ≡ above_36 n + 36
unfolding above_36
exponent (pos n) h =
    let le : n ≤ 16 = low_end n h in
    less_52 n le ∙ omega arith
exponent (negsuc m) h = omega arith

-- ---- the sync timer

scaled : (e m : ℕ) → e + suc m ≡ 9 → 10 ^ 9 ≡ 2 ^ e * 1953125 * 2 ^ suc m
scaled e m h =
    let powers : 2 ^ e * 2 ^ suc m ≡ 512 = sym (pow-add 2 e (suc m)) ∙ ap (λ (x : ℕ). 2 ^ x) h in
    omega arith

pub shifted : (e m : ℕ) → e + suc m ≡ 9 → 10 ^ 9 / 2 ^ suc m ≡ 2 ^ e * 1953125
shifted e m h = ap (λ (x : ℕ). x / 2 ^ suc m) (scaled e m h) ∙ mul-div_cancel (2 ^ e * 1953125) (pow_pos (suc m))

-- 2 ^ n seconds below one second are whole nanoseconds: nothing is left over
pub sync_exact : (m : ℕ) → in_interval (negsuc m) ≡ true → sync_timer (negsuc m) * 2 ^ suc m ≡ 10 ^ 9
unfolding sync_timer
sync_exact m h =
    let le : m ≤ 8 = high_end m h in
    let product : 10 ^ 9 ≡ 2 ^ (8 - m) * 1953125 * 2 ^ suc m = scaled (8 - m) m (omega arith) in
    ap (λ (x : ℕ). x * 2 ^ suc m) (shifted (8 - m) m (omega arith)) ∙ sym product

-- ---- the delay timer

-- no draw gives an exact half: (2 k + 1) × 10 ^ 9 × 2 ^ (n - 52) is not m + 1/2
pub no_half : (n : ℤ) (k m : ℕ) → in_interval n ≡ true → 2 * (odd_of k * 10 ^ 9) ≡ (2 * m + 1) * 2 ^ nat_abs (pos 52 -ℤ n) → ⊥
no_half n k m h e = odd_even k ((2 * m + 1) * 2 ^ above_36 n) (e ∙ split)
  where
    odd_even : (k q : ℕ) → 2 * (odd_of k * 10 ^ 9) ≡ q * 2 ^ 36 → ⊥
    odd_even k q e = omega arith

    split : (2 * m + 1) * 2 ^ nat_abs (pos 52 -ℤ n) ≡ (2 * m + 1) * 2 ^ above_36 n * 2 ^ 36
    split =
        ap (λ (x : ℕ). (2 * m + 1) * 2 ^ x) (exponent n h) ∙ ap (λ (x : ℕ). (2 * m + 1) * x) (pow-add 2 (above_36 n) 36)
        ∙ sym (mul_assoc (2 * m + 1) (2 ^ above_36 n) (2 ^ 36))

-- one number at the most is so near
pub near_unique : (a d r s : ℕ) → Near a d r → Near a d s → r ≡ s
near_unique a d r s p q = go (dec_lt r s) (dec_lt s r)
  where
    apart : (r s : ℕ) → Near a d r → Near a d s → r < s → ⊥
    apart r s p q h = omega (arith, mul-le-mul_right d h)

    go : Dec (r < s) → Dec (s < r) → r ≡ s
    go (yes h) k = absurd (apart r s p q h)
    go (no h) (yes k) = absurd (apart s r q p k)
    go (no h) (no k) = omega arith

-- the quotient of 2 a + d by 2 d, with l left over, is that number, unless a / d is an exact half
quotient_near : (a d q l : ℕ) → 0 < d → q * (2 * d) + l ≡ 2 * a + d → l < 2 * d → ((m : ℕ) → 2 * a ≡ (2 * m + 1) * d → ⊥) → Near a d q
quotient_near a d q l h e k whole = record { above = over (dec_lt 0 l) (dec_lt 0 q); below = omega arith }
  where
    one_less : (m : ℕ) → q ≡ m + 1 → l ≡ 0 → 2 * a ≡ (2 * m + 1) * d
    one_less m p z = omega (arith, ap (λ (x : ℕ). x * (2 * d)) p)

    over : Dec (0 < l) → Dec (0 < q) → 2 * (q * d) < 2 * a + d
    over (yes p) r = omega arith
    over (no p) (yes r) = absurd (whole (q - 1) (one_less (q - 1) (omega arith) (omega arith)))
    over (no p) (no r) =
        let zero_q : q ≡ 0 = omega arith in
        absurd (omega (arith, ap (λ (x : ℕ). x * (2 * d)) zero_q))

-- `to_nearest` is that quotient
pub to_nearest_near : (a d : ℕ) → 0 < d → ((m : ℕ) → 2 * a ≡ (2 * m + 1) * d → ⊥) → Near a d (to_nearest a d)
to_nearest_near a d h whole =
    quotient_near a d (to_nearest a d) ((2 * a + d) % (2 * d)) h (div-add-mod' (2 * a + d) (2 * d)) (mod-lt (2 * a + d) (omega arith)) whole

-- and a delay timer is never an exact half, so it is the one whole number less than half a nanosecond away
pub delay_near : (n : ℤ) (k : ℕ) → in_interval n ≡ true → Near (odd_of k * 10 ^ 9) (2 ^ nat_abs (pos 52 -ℤ n)) (delay_timer n k)
unfolding delay_timer
delay_near n k h =
    to_nearest_near (odd_of k * 10 ^ 9) (2 ^ nat_abs (pos 52 -ℤ n)) (pow_pos (nat_abs (pos 52 -ℤ n))) (λ m. no_half n k m h)

-- ---- what each answer means

pub sync_in : (byte : ℕ) → in_interval (interval byte) ≡ true → sync_timer_of byte ≡ Ok (sync_timer (interval byte))
unfolding sync_timer_of
sync_in byte h = simp h

pub sync_out : (byte : ℕ) → in_interval (interval byte) ≡ false → sync_timer_of byte ≡ Err TimerError.Interval
unfolding sync_timer_of
sync_out byte h = simp h

pub delay_in : (byte k : ℕ) → in_interval (interval byte) ≡ true → in_draw k ≡ true → delay_timer_of byte k ≡ Ok (delay_timer (interval byte) k)
unfolding delay_timer_of
delay_in byte k h d = simp (h, d)

pub delay_out : (byte k : ℕ) → in_interval (interval byte) ≡ false → delay_timer_of byte k ≡ Err TimerError.Interval
unfolding delay_timer_of
delay_out byte k h = simp h

pub draw_out : (byte k : ℕ) → in_interval (interval byte) ≡ true → in_draw k ≡ false → delay_timer_of byte k ≡ Err TimerError.Draw
unfolding delay_timer_of
draw_out byte k h d = simp (h, d)

-- a byte in two's complement, as Rust casts it
pub interval_is_cast : (n : ℕ) → n < 2 ^ 8 → interval n ≡ cast_signed w8 n
interval_is_cast n h = go (dec_lt n 128)
  where
    go : Dec (n < 128) → interval n ≡ cast_signed w8 n
    go (yes p) = interval_low n p ∙ sym (simp (lt-ltb n 128 p))
    go (no p) = interval_high n (not_below n 128 p) h ∙ sym (simp (le-ltb n 128 (not_below n 128 p)))

-- half of an even divisor, added before it divides, is the whole number nearest
pub nearest_half : (a s : ℕ) → to_nearest a (2 ^ (s + 35)) ≡ (a + 2 ^ (s + 34)) / 2 ^ (s + 35)
nearest_half a s =
    let twice : 2 ^ (s + 35) ≡ 2 * 2 ^ (s + 34) = ap (λ (x : ℕ). 2 ^ x) {x = s + 35} {y = 1 + (s + 34)} (omega arith) ∙ pow-add 2 1 (s + 34) in
    ap (λ (d : ℕ). (2 * a + d) / (2 * 2 ^ (s + 35))) twice
    ∙ ap (λ (x : ℕ). x / (2 * 2 ^ (s + 35))) {x = 2 * a + 2 * 2 ^ (s + 34)} {y = (a + 2 ^ (s + 34)) * 2} (omega arith)
    ∙ ap (λ (x : ℕ). (a + 2 ^ (s + 34)) * 2 / x) (mul_comm 2 (2 ^ (s + 35)))
    ∙ mul-div-mul_right {m = 2} (a + 2 ^ (s + 34)) (2 ^ (s + 35)) (lit< tt)

pub product_small : (k : ℕ) → k < 2 ^ 52 → (2 * k + 1) * 1000000000 < 2 ^ 83
product_small k h = omega arith
