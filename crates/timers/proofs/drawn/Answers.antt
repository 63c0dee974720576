-- `timers::drawn`: the timer is far below 2 ^ 64, as the shift drops 36 bits at least.
use Rattle.std.proofs.Common.{ℕ, ◌+◌, ◌*◌, ◌/◌, ◌%◌, ◌^◌, ◌≤◌, ◌<◌, ◌≡◌, ap, ◌∙◌, arith, subst, sym, lt_of_lt_of_le, one-mul, lit<, pow_pos, pow-add, pow_mono, shl_exact}
use Rattle.std.proofs.Math.Nat.{div-lt_iff_lt-mul}
use Rattle.timers.proofs.drawn.Goals as goal

half_is : (s : ℕ) → s ≤ 26 → (1 * 2 ^ (s + 34)) % 2 ^ 128 ≡ 2 ^ (s + 34)
half_is s h = shl_exact {a = 1} 1 (s + 34) 128 (lit< tt) (omega arith) ∙ one-mul (2 ^ (s + 34))

small : (o s : ℕ) → o < 2 ^ 53 → s ≤ 26 → (o * 1000000000 + (1 * 2 ^ (s + 34)) % 2 ^ 128) / 2 ^ (s + 35) < 2 ^ 64
small o s h k =
    let m = half_is s k in
    let l : 2 ^ (s + 34) ≤ 2 ^ 60 = pow_mono {i = s + 34} {j = 60} (omega arith) in
    let d : 2 ^ 35 ≤ 2 ^ (s + 35) = pow_mono {i = 35} {j = s + 35} (omega arith) in
    (div-lt_iff_lt-mul {k = 2 ^ (s + 35)} {x = o * 1000000000 + (1 * 2 ^ (s + 34)) % 2 ^ 128} {y = 2 ^ 64} (pow_pos (s + 35))).1 (omega (arith, m, l, d))

pub overflow_cast-result : goal.overflow_cast-result
overflow_cast-result c = record { fits = small c.from-product.result c.args.shift (omega (arith, c.from-product.ensures, c.requires.0)) c.requires.2 }
