-- What the laws of proofs/AnswersLaws.antt speak of.
use Rattle.std.specs.Prelude.{ℕ, cond, eqb}
use Rattle.record.specs.declared.Outcome.{Outcome}

-- ---- numbers

abbrev pub outcome_of : ℕ → Outcome
outcome_of n =
    cond (eqb n 0) Outcome.Taken
    (cond (eqb n 1) Outcome.Buffer
    (cond (eqb n 2) Outcome.Unfit
    (cond (eqb n 3) Outcome.Limits
    (cond (eqb n 4) Outcome.Version
    (cond (eqb n 5) Outcome.Malformed
    (cond (eqb n 6) Outcome.Foreign
    (cond (eqb n 8) Outcome.Host Outcome.Range)))))))
