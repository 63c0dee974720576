-- What the laws of proofs/MeasureLaws.antt speak of.
use Rattle.std.specs.Prelude.{◌++◌}
use Rattle.rules.specs.Names.{Port}
use Rattle.rules.specs.Worked.{Worked}
use Rattle.rules.specs.Events.{Done}
use Rattle.rules.specs.WorkedOut.{Completed, Sums, numbers_of}
use Rattle.rules.specs.Formulas.{Says}
use Rattle.rules.specs.AgreeLaws.{Agrees}

-- what is done about an exchange is as 01 says it
abbrev pub Judged : Port → Completed → Worked Done → Type 0
Judged p c w = Agrees (numbers_of p c) (λ d. Says p c d.measurement d.port) w

-- what 01 has worked out, beside what the rule does
abbrev pub SumsJudged : Port → Sums → Worked Done → Type 0
SumsJudged p c w = Agrees (c.numbers ++ numbers_of p c.completes) (λ d. Says p c.completes d.measurement d.port) w
