-- What the laws of proofs/Laws.antt speak of.
use Rattle.std.specs.Prelude.{ℕ, ◌^◌, ◌<◌, ◌≡◌, true, ℤ}
use Rattle.time.specs.Units.{signed}
use Rattle.sent.specs.Messages.{in_correction}

-- what a correction that was answered is: its word means the number asked for, which 64 bits hold
pub record IsCorrection (z : ℤ) (c : ℕ) : Type 0 where
  pub value : signed 64 c ≡ z
  pub within : in_correction z ≡ true
  pub small : c < 2 ^ 64
