-- Timers, computed: 01's example J, and the ends of the limits.
use Rattle.std.specs.Prelude.{◌≡◌, refl, ◌-◌, ◌^◌, Ok, Err}
use Rattle.time.specs.Units.{signed}
use Rattle.timers.specs.Timers.{interval, in_interval, in_draw, sync_timer, delay_timer, sync_timer_of, delay_timer_of}
use Rattle.timers.specs.declared.TimerError.{TimerError}

-- rounded up, from 999,999,999.9999998
the_draw : delay_timer_of 0 (2 ^ 51 - 1) ≡ Ok 1000000000
unfolding delay_timer_of delay_timer in_interval in_draw interval signed
the_draw = refl

-- rounded down, from 0.0000002
lowest_draw : delay_timer_of 0 0 ≡ Ok 0
unfolding delay_timer_of delay_timer in_interval in_draw interval signed
lowest_draw = refl

longest_draw : delay_timer_of 16 (2 ^ 52 - 1) ≡ Ok 131072000000000
unfolding delay_timer_of delay_timer in_interval in_draw interval signed
longest_draw = refl

past_the_draws : delay_timer_of 16 (2 ^ 52) ≡ Err TimerError.Draw
unfolding delay_timer_of delay_timer in_interval in_draw interval signed
past_the_draws = refl

past_the_intervals : delay_timer_of 17 (2 ^ 52) ≡ Err TimerError.Interval
unfolding delay_timer_of delay_timer in_interval in_draw interval signed
past_the_intervals = refl

shortest_sync : sync_timer_of (256 - 9) ≡ Ok 1953125
unfolding sync_timer_of sync_timer in_interval interval signed
shortest_sync = refl

longest_sync : sync_timer_of 16 ≡ Ok 65536000000000
unfolding sync_timer_of sync_timer in_interval interval signed
longest_sync = refl

below_the_intervals : sync_timer_of (256 - 10) ≡ Err TimerError.Interval
unfolding sync_timer_of sync_timer in_interval interval signed
below_the_intervals = refl
