-- What the laws of proofs/TimerLaws.antt speak of.
use Rattle.std.specs.Prelude.{ℕ, ◌+◌, ◌*◌, ◌<◌}

-- ---- the delay timer

-- r is less than half of d away from a / d
pub record Near (a d r : ℕ) : Type 0 where
  pub above : 2 * (r * d) < 2 * a + d
  pub below : 2 * a < 2 * (r * d) + d
