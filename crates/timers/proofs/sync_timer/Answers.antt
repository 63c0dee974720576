-- `timer::sync_timer`: 10 ^ 9 is 5 ^ 9 × 2 ^ 9, so 5 ^ 9 moved up by n + 9 bits is 2 ^ n seconds.
use Rattle.std.specs.Prelude.{Ok}
use Rattle.std.proofs.Common.{ℕ, suc, ◌+◌, ◌-◌, ◌*◌, ◌%◌, ◌^◌, ◌≤◌, ◌≡◌, sym, ap, ◌∙◌, true, arith, mul_comm, lit<, ℤ, pos, negsuc, nat_abs, ◌-ℤ◌, pow-add, shl_exact}
use Rattle.timers.specs.Timers.{interval, in_interval, sync_timer}
use Rattle.timers.proofs.TimerLaws.{sync_in, sync_out, low_end, high_end, less_52, shifted}
use Rattle.timers.proofs.sync_timer.Goals as goal

pub shift_of-up-requires : goal.shift_of-up-requires
shift_of-up-requires c = sym c.is_interval.ensures ∙ c.if-not-is_interval.false

-- 5 ^ 9 moved up by n + 9 bits
up_to : (s e : ℕ) → 26 - s ≡ e → e ≤ 25 → (1953125 * 2 ^ (26 - s)) % 2 ^ 64 ≡ 2 ^ e * 1953125
up_to s e h k =
    ap (λ (x : ℕ). (1953125 * 2 ^ x) % 2 ^ 64) h ∙ shl_exact {a = 1953125} 21 e 64 (lit< tt) (omega arith) ∙ mul_comm 1953125 (2 ^ e)

seconds : (n : ℤ) (s : ℕ) → in_interval n ≡ true → s ≤ 26 → s + 35 ≡ nat_abs (pos 52 -ℤ n) → (1953125 * 2 ^ (26 - s)) % 2 ^ 64 ≡ sync_timer n
unfolding sync_timer
seconds (pos n) s h k e =
    let le : n ≤ 16 = low_end n h in
    let is : s + 35 ≡ 52 - n = e ∙ less_52 n le in
    let powers : 2 ^ (n + 9) ≡ 2 ^ n * 512 = pow-add 2 n 9 in
    up_to s (n + 9) (omega arith) (omega arith) ∙ omega arith
seconds (negsuc m) s h k e =
    let le : m ≤ 8 = high_end m h in
    let is : s + 35 ≡ 52 + suc m = e in
    up_to s (8 - m) (omega arith) (omega arith) ∙ sym (shifted (8 - m) m (omega arith))

pub returns : goal.returns
returns c =
    let s = c.shift_of-up in
    let n = c.args.n in
    let h : in_interval (interval n) ≡ true = sym c.is_interval.ensures ∙ c.if-not-is_interval.false in
    ap Ok (seconds (interval n) s.result h s.ensures.2 s.ensures.0) ∙ sym (sync_in n h)

pub returns-then-not-is_interval : goal.returns-then-not-is_interval
returns-then-not-is_interval c = sym (sync_out _ (sym c.is_interval.ensures ∙ c.if-not-is_interval.true))
