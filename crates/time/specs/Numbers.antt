-- Each answer in document 01's terms: the number of its table ('Numbers the port answers') and the values that come with it.
use Rattle.std.specs.Prelude.{ℕ, List, [], ◌∷◌, ℤ, pos, Option, Some, None, Result, Ok, Err}
use Rattle.time.specs.Units.{time, duration}
use Rattle.time.specs.declared.Time.{Time}
use Rattle.time.specs.declared.Duration.{Duration}
use Rattle.time.specs.declared.WireTimestamp.{WireTimestamp}
use Rattle.time.specs.declared.TimeError.{TimeError}

pub record Told : Type 0 where
  pub number : ℕ
  pub values : List ℤ

abbrev pub answered : List ℤ → Told
answered vs = record { number = 0; values = vs }

abbrev pub refusal : ℕ → Told
refusal n = record { number = n; values = [] }

-- in units; 7 where a sum or a difference leaves its range
abbrev pub told_time : Result Time TimeError → Told
told_time (Ok t) = answered (time t ∷ [])
told_time (Err e) = refusal 7

abbrev pub told_duration : Result Duration TimeError → Told
told_duration (Ok d) = answered (duration d ∷ [])
told_duration (Err e) = refusal 7

-- the number is that of the row in whose place the words stand: 2 in the record, 3 in an event
abbrev pub told_words : ℕ → Option Time → Told
told_words row (Some t) = answered (time t ∷ [])
told_words row None = refusal row

-- 48 bits hold no such seconds, so no message is refused for them; one that were would be answered 5
abbrev pub told_read : Result Time TimeError → Told
told_read (Ok t) = answered (time t ∷ [])
told_read (Err e) = refusal 5

-- seconds, nanoseconds, and 2 ^ -16 nanoseconds; 7 where the sent seconds leave their range
abbrev pub told_wire : Result (WireTimestamp × ℕ) TimeError → Told
told_wire (Ok (w, f)) = answered (pos w.seconds ∷ pos w.nanos ∷ pos f ∷ [])
told_wire (Err e) = refusal 7
