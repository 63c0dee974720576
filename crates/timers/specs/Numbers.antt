-- The number of the table that each refusal of a timer means, beside those of crate `time`.
use Rattle.std.specs.Prelude.{ℕ, [], ◌∷◌, pos, Result, Ok, Err}
use Rattle.time.specs.Numbers.{Told, answered, refusal}
use Rattle.timers.specs.declared.TimerError.{TimerError}

-- nanoseconds; 2 where the record's interval is out of limits, 3 where the event's draw is
abbrev pub told_timer : Result ℕ TimerError → Told
told_timer (Ok ns) = answered (pos ns ∷ [])
told_timer (Err TimerError.Interval) = refusal 2
told_timer (Err TimerError.Draw) = refusal 3
