-- What the laws of proofs/TableLaws.antt speak of.
use Rattle.rules.specs.Names.{Outcome}
use Rattle.rules.specs.Worked.{Worked, worked, refused}
use Rattle.rules.specs.Events.{Done}

abbrev pub outcome_of : Worked Done → Outcome
outcome_of (worked d) = Outcome.Taken
outcome_of (refused o) = o
