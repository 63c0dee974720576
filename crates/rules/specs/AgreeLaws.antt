-- What the laws of proofs/AgreeLaws.antt speak of.
use Rattle.std.specs.Prelude.{◌≡◌, true, false, List}
use Rattle.rules.specs.Names.{Outcome}
use Rattle.rules.specs.Worked.{Worked, worked, refused}
use Rattle.rules.specs.Events.{Done}
use Rattle.rules.specs.WorkedOut.{Number, outside}

abbrev pub Agrees : List Number → (Done → Type 0) → Worked Done → Type 0
Agrees ns Says (worked d) = (outside ns ≡ false) × Says d
Agrees ns Says (refused o) = (o ≡ Outcome.Range) × (outside ns ≡ true)
