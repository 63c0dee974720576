-- What the laws of proofs/IeeeDelayLaws.antt speak of.
use Rattle.std.specs.Prelude.{◌≡◌, ℤ, Option, Some}
use Rattle.time.specs.Units.{time}
use Rattle.rules.specs.Names.{Time, Duration, Measurement}
use Rattle.rules.specs.Events.{Answered}
use Rattle.rules.specs.Ieee.{WireFields, Syncs, mean_path_delay}
use Rattle.rules.specs.IeeeLaws.{IsWorth}

-- ---- what is measured

pub record MeasuresPathDelay (delay_asymmetry : ℤ) (m : Syncs) (delay_resp : WireFields) (t2 t3 : ℤ) (r : Answered) : Type 0 where
  pub event_time : Time
  pub raw : Duration
  pub delay : Option Duration
  pub measurement : r.measurement ≡ Some (Measurement.Delay event_time raw delay)
  pub event_time_is : time event_time ≡ t3
  pub delay_is : IsWorth delay (mean_path_delay delay_asymmetry m delay_resp t2 t3)
