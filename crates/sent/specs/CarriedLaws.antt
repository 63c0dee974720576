-- What the laws of proofs/CarriedLaws.antt speak of.
use Prim.Native.Nat.{ℕ, ◌+◌, ◌*◌, ◌/◌, ◌%◌, ◌^◌, ◌<◌}
use Rattle.std.specs.Prelude.{◌≡◌, ℤ, ◌-ℤ◌, ◌*ℤ◌, Result, Ok}
use Rattle.std.proofs.Math.IntN.{pos}
use Rattle.time.specs.declared.Time.{Time}
use Rattle.time.specs.declared.WireTimestamp.{WireTimestamp}
use Rattle.time.specs.Units.{spelled, signed}
use Rattle.sent.specs.Messages.{correction_of}
use Rattle.time.specs.declared.TimeError.{TimeError}

-- ---- a stamp's numbers

abbrev pub units_of : Time → ℕ
units_of t = spelled t.hi t.lo

-- f: the fraction of a nanosecond in 2 ^ -16 ns
abbrev pub fraction_of : Time → ℕ
fraction_of t = units_of t % 2 ^ 32 / 2 ^ 16

-- what is left of n units without the fraction's low 16 bits
abbrev pub cut_to16 : ℕ → ℕ
cut_to16 n = n / 2 ^ 16 * 2 ^ 16

-- the units of 2 ^ 48 seconds, too many from there on
abbrev pub late_from : ℕ
late_from = 2 ^ 48 * 10 ^ 9 * 2 ^ 32

-- what an answer's correction has to be
abbrev pub less_of : ℕ → Time → ℤ
less_of asked t = signed 64 asked -ℤ pos (fraction_of t)

-- ---- what was carried

-- the room that a timestamp and a correction take
pub record HasRoom (w : WireTimestamp) (c : ℕ) : Type 0 where
  pub seconds : w.seconds < 2 ^ 48
  pub nanos : w.nanos < 10 ^ 9
  pub correction : c < 2 ^ 64

-- where an answer's two parts come from
pub record Parts (c : ℕ) (a : Result (WireTimestamp × ℕ) TimeError) (w : WireTimestamp) (r : ℕ) : Type 0 where
  pub f : ℕ
  pub stamp : a ≡ Ok (w, f)
  pub less : correction_of (signed 64 c -ℤ pos f) ≡ Ok r

-- x - (z - f) × 65,536 is x + f × 65,536 - z × 65,536: where z is a difference, and for each z
abbrev pub Scaled : ℕ → ℕ → ℤ → Type 0
Scaled x f z = pos x -ℤ (z -ℤ pos f) *ℤ pos 65536 ≡ pos (x + f * 65536) -ℤ z *ℤ pos 65536

-- ---- when something is carried, and when nothing

-- whole seconds, and the whole nanoseconds of the last
abbrev pub stamp_of : Time → WireTimestamp
stamp_of t = record { seconds = units_of t / 2 ^ 32 / 10 ^ 9; nanos = units_of t / 2 ^ 32 % 10 ^ 9 }
