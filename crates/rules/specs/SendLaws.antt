-- What the laws of proofs/SendLaws.antt speak of.
use Rattle.std.specs.Prelude.{ℕ, ◌≡◌, true, List, Result, Ok, Err}
use Rattle.std.proofs.Math.Bool.{false}
use Rattle.rules.specs.WorkedOut.{Number, outside}
use Rattle.time.specs.declared.WireTimestamp.{WireTimestamp}
use Rattle.time.specs.declared.TimeError.{TimeError}

-- ---- what is carried: nothing exactly where a field is out of range

abbrev pub Carries : List Number → Result (WireTimestamp × ℕ) TimeError → Type 0
Carries ns (Ok (w, c)) = outside ns ≡ false
Carries ns (Err TimeError.OutOfRange) = outside ns ≡ true
