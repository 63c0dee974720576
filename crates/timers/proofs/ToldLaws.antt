-- What each function answers, as 01 tells it.
use Rattle.std.specs.Prelude.{◌≡◌, [], ◌∷◌, ℕ, pos, Result, Ok, Err}
use Rattle.std.proofs.Math.Path.{ap}
use Rattle.std.proofs.Common.{◌∙◌}
use Rattle.std.proofs.Math.Bool.{cond}
use Rattle.time.specs.Numbers.{Told, answered, refusal}
use Rattle.time.specs.ToldLaws.{of_cond}
use Rattle.timers.specs.Timers.{interval, in_interval, in_draw, sync_timer, sync_timer_of, delay_timer, delay_timer_of}
use Rattle.timers.specs.Numbers.{told_timer}
use Rattle.timers.specs.declared.TimerError.{TimerError}

pub told_sync : (byte : ℕ) → told_timer (sync_timer_of byte) ≡ cond (in_interval (interval byte)) (answered (pos (sync_timer (interval byte)) ∷ [])) (refusal 2)
unfolding sync_timer_of
told_sync byte = of_cond told_timer (in_interval (interval byte)) (Ok (sync_timer (interval byte))) (Err TimerError.Interval)

module _ (byte k : ℕ) where
  abbrev drawn : Result ℕ TimerError
  drawn = cond (in_draw k) (Ok (delay_timer (interval byte) k)) (Err TimerError.Draw)

  pub told_delay : told_timer (delay_timer_of byte k) ≡ cond (in_interval (interval byte)) (cond (in_draw k) (answered (pos (delay_timer (interval byte) k) ∷ [])) (refusal 3)) (refusal 2)
  unfolding delay_timer_of
  told_delay =
      of_cond told_timer (in_interval (interval byte)) drawn (Err TimerError.Interval)
      ∙ ap (λ (x : Told). cond (in_interval (interval byte)) x (refusal 2)) (of_cond told_timer (in_draw k) (Ok (delay_timer (interval byte) k)) (Err TimerError.Draw))
