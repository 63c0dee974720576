-- Document 01, 'Units', its last part: the timers, in nanoseconds. A log interval is a byte in two's complement, as on the wire.
use Rattle.std.specs.Prelude.{ℕ, suc, ◌+◌, ◌-◌, ◌*◌, ◌/◌, ◌^◌, Bool, cond, leb, ℤ, pos, negsuc, neg_ℤ, nat_abs, ◌-ℤ◌, Result, Ok, Err}
use Rattle.time.specs.Units.{signed, within}
use Rattle.timers.specs.declared.TimerError.{TimerError}

unfoldable pub interval : ℕ → ℤ
interval byte = signed 8 byte

-- log intervals run from -9 to 16
unfoldable pub in_interval : ℤ → Bool
in_interval n = within (neg_ℤ (pos 9)) (pos 16) n

-- draws run from 0 to 2 ^ 52 - 1
unfoldable pub in_draw : ℕ → Bool
in_draw k = leb k (2 ^ 52 - 1)

-- the sync timer: 2 ^ n seconds. (`TimerLaws`, `sync_exact`: the division leaves nothing over.)
unfoldable pub sync_timer : ℤ → ℕ
sync_timer (pos n) = 2 ^ n * 10 ^ 9
sync_timer (negsuc m) = 10 ^ 9 / 2 ^ suc m

-- the whole number nearest to a / d. (`TimerLaws`, `no_half`: no draw asks which way a half goes.)
abbrev pub to_nearest : ℕ → ℕ → ℕ
to_nearest a d = (2 * a + d) / (2 * d)

-- the draw k stands for (2 k + 1) / 2 ^ 53
abbrev pub odd_of : ℕ → ℕ
odd_of k = 2 * k + 1

-- the delay timer: (2 k + 1) × 10 ^ 9 × 2 ^ (n - 52), to the nearest. An interval is at most 16, so 52 - n is not negative.
unfoldable pub delay_timer : ℤ → ℕ → ℕ
delay_timer n k = to_nearest (odd_of k * 10 ^ 9) (2 ^ nat_abs (pos 52 -ℤ n))

-- what the two functions answer, by the interval's byte: the interval is looked at first
unfoldable pub sync_timer_of : ℕ → Result ℕ TimerError
sync_timer_of byte = cond (in_interval (interval byte)) (Ok (sync_timer (interval byte))) (Err TimerError.Interval)

unfoldable pub delay_timer_of : ℕ → ℕ → Result ℕ TimerError
delay_timer_of byte k =
    cond (in_interval (interval byte)) (cond (in_draw k) (Ok (delay_timer (interval byte) k)) (Err TimerError.Draw)) (Err TimerError.Interval)
