-- What the laws of proofs/FitnessLaws.antt speak of.
use Rattle.fitness.specs.FitLaws.{IsFit}
use Rattle.rules.specs.Events.{Done}

-- ---- fit records

abbrev pub Fit : Done → Type 0
Fit d = IsFit d.port
