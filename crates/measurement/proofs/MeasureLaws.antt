-- What a measurement comes to, by what its sums came to.
use Rattle.std.specs.Prelude.{Result, Option, Some}
use mathlib.Core.Path.{◌≡◌, ap, sym, ◌∙◌}
use mathlib.Core.Bool.{false}
use lib.IntN.{◌-ℤ◌}
use Rattle.time.specs.Units.{duration, duration_of, half_of}
use Rattle.rules.specs.Names.{Time, Duration, TimeError, Measurement, Outcome, Port, SlaveState}
use Rattle.rules.specs.Worked.{Worked, worked, refused, ◌then◌, a_duration, elapsed, less_duration}
use Rattle.rules.specs.Events.{Done}
use Rattle.rules.specs.Measuring.{measured, less_mean, sync_out, measure_sync, half_below, delay_out, measure_delay}
use Rattle.rules.proofs.AgreeLaws.{then_then}
use Rattle.measurement.specs.Taking.{raw_between}

-- ---- the parts that need what was kept

pub offset_is : (raw m : Duration) (a : Result Duration TimeError) → duration_of (duration raw -ℤ duration m) ≡ a → less_mean raw (Some m) ≡ (a_duration a then λ d. worked (Some d))
unfolding less_duration
offset_is raw m a e = ap (λ (x : Result Duration TimeError). a_duration x then λ d. worked (Some d)) e

pub half_is : (last raw : Duration) (a : Result Duration TimeError) → duration_of (duration last -ℤ duration raw) ≡ a → half_below (Some last) raw ≡ (a_duration a then λ d. worked (Some (half_of d)))
unfolding less_duration
half_is last raw a e = ap (λ (x : Result Duration TimeError). a_duration x then λ d. worked (Some (half_of d))) e

-- ---- Sync and Delay: a raw value, then a part that may be missing, then what is measured

pub record TwoParts (whole : Worked Done) (raw : Worked Duration) (part : Duration → Worked (Option Duration)) (done : Duration → Option Duration → Worked Done) : Type 0 where
  pub raw_out : refused Outcome.Range ≡ raw → whole ≡ refused Outcome.Range
  pub part_out : (r : Duration) (o : Outcome) → worked r ≡ raw → refused o ≡ part r → whole ≡ refused o
  pub both : (r : Duration) (d : Option Duration) → worked r ≡ raw → worked d ≡ part r → whole ≡ done r d

module _ (raw : Worked Duration) (part : Duration → Worked (Option Duration)) (done : Duration → Option Duration → Worked Done) where
  after_raw : (w : Worked Duration) → w ≡ raw → (raw then λ r. part r then done r) ≡ (w then λ r. part r then done r)
  after_raw w e = ap (λ (x : Worked Duration). x then λ r. part r then done r) (sym e)

  after_part : (r : Duration) (v : Worked (Option Duration)) → worked r ≡ raw → v ≡ part r → (raw then λ r. part r then done r) ≡ (v then done r)
  after_part r v e f = after_raw (worked r) e ∙ ap (λ (x : Worked (Option Duration)). x then done r) (sym f)

  two_parts : (whole : Worked Done) → whole ≡ (raw then λ r. part r then done r) → TwoParts whole raw part done
  two_parts whole is =
      record {
        raw_out = λ e. is ∙ after_raw (refused Outcome.Range) e;
        part_out = λ r o e f. is ∙ after_part r (refused o) e f;
        both = λ r d e f. is ∙ after_part r (worked d) e f;
      }

module _ (p : Port) (s : SlaveState) (send receive : Time) where
  abbrev sync_done : Duration → Option Duration → Worked Done
  sync_done raw offset = worked (measured (sync_out p s raw) (Measurement.Sync receive raw offset) false)

  abbrev delay_done : Duration → Option Duration → Worked Done
  delay_done raw delay = worked (measured (delay_out p s) (Measurement.Delay send raw delay) false)

  pub sync_measures : TwoParts (measure_sync p s send receive) (raw_between receive send p.config.asymmetry) (λ raw. less_mean raw p.mean) sync_done
  unfolding measure_sync raw_between
  sync_measures =
      two_parts _ (λ raw. less_mean raw p.mean) sync_done (measure_sync p s send receive)
      (sym (then_then (elapsed receive send) (λ apart. less_duration apart p.config.asymmetry) (λ raw. less_mean raw p.mean then sync_done raw)))

  pub delay_measures : TwoParts (measure_delay p s send receive) (raw_between send receive p.config.asymmetry) (half_below s.raw) delay_done
  unfolding measure_delay raw_between
  delay_measures =
      two_parts _ (half_below s.raw) delay_done (measure_delay p s send receive)
      (sym (then_then (elapsed send receive) (λ apart. less_duration apart p.config.asymmetry) (λ raw. half_below s.raw raw then delay_done raw)))
