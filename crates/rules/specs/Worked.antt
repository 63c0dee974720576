-- What a rule comes to: a value, or the row of 01's table that refuses the event. Each sum, timer and sent message is one of these.
use Rattle.std.specs.Prelude.{ℕ, ◌+ℤ◌, ◌-ℤ◌, Result, Ok, Err}
use Rattle.rules.specs.Names.{Time, Duration, Header, Message, Outcome, TimeError, TimerError}
use Rattle.time.specs.Units.{time, time_of, duration, duration_of, correction}

abbrev pub Worked : Type 0 → Type 0
Worked A = Result A Outcome

pattern abbrev pub worked : {A : Type 0} → A → Worked A
worked a = Ok a

pattern abbrev pub refused : {A : Type 0} → Outcome → Worked A
refused o = Err o

infixr 5 ◌then◌
-- what comes next, with what was worked out; the first refusal is the answer
abbrev pub ◌then◌ : {A B : Type 0} → Worked A → (A → Worked B) → Worked B
worked a then next = next a
refused o then next = refused o

-- ---- sums: 7 where one leaves its range

abbrev pub a_time : Result Time TimeError → Worked Time
a_time (Ok t) = worked t
a_time (Err e) = refused Outcome.Range

abbrev pub a_duration : Result Duration TimeError → Worked Duration
a_duration (Ok d) = worked d
a_duration (Err e) = refused Outcome.Range

-- a time less the message's correction, and plus it
unfoldable pub less_correction : Time → Header → Worked Time
less_correction t h = a_time (time_of (time t -ℤ correction h.correction))

unfoldable pub plus_correction : Time → Header → Worked Time
plus_correction t h = a_time (time_of (time t +ℤ correction h.correction))

-- from the second time to the first
unfoldable pub elapsed : Time → Time → Worked Duration
elapsed a b = a_duration (duration_of (time a -ℤ time b))

unfoldable pub less_duration : Duration → Duration → Worked Duration
less_duration a b = a_duration (duration_of (duration a -ℤ duration b))

-- ---- sent messages: 7 where a field leaves its range

abbrev pub a_message : Result Message TimeError → Worked Message
a_message (Ok m) = worked m
a_message (Err e) = refused Outcome.Range

-- ---- timers: rows 2 and 3 come before every rule, so these refuse nothing there

abbrev pub a_timer : Result ℕ TimerError → Worked ℕ
a_timer (Ok ns) = worked ns
a_timer (Err TimerError.Interval) = refused Outcome.Unfit
a_timer (Err TimerError.Draw) = refused Outcome.Limits
