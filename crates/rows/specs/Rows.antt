-- What the functions here answer, for the rows of the table.
use Rattle.std.specs.Prelude.{ℕ, Bool, cond, ltb, Ok, Err}
use Rattle.fitness.specs.Fit.{unfit}
use Rattle.rules.specs.Names.{Time, Header, Body, Config, Port, Outcome, Received, ReadError, Reading}
use Rattle.rules.specs.Worked.{Worked, ◌then◌}
use Rattle.rules.specs.Events.{Done}
use Rattle.rules.specs.Table.{ours}
use Rattle.rows.specs.declared.Heard.{Heard}

-- ---- rows 1, 2 and 3; `limits` is row 3's test of the event

-- a row that refuses
abbrev pub shut_by : {A : Type 0} → Bool → Outcome → Worked A → Worked A
shut_by row o rest = cond row (Err o) rest

-- no row does
abbrev pub opened : Worked (Unit {0})
opened = Ok tt

unfoldable pub gate_of : Port → ℕ → Bool → Worked (Unit {0})
gate_of p room limits =
    shut_by (ltb room 64) Outcome.Buffer (shut_by (unfit p) Outcome.Unfit (shut_by limits Outcome.Limits opened))

-- ---- rows 4, 5, 6 and 8

abbrev pub ours_or : Bool → Worked Heard → Worked Heard
ours_or test heard = cond test heard (Err Outcome.Foreign)

abbrev pub heard_of : Config → Reading → Worked Heard
heard_of c (Ok (Received.Message h b t)) = ours_or (ours c h) (Ok (record { header = h; body = b; time = t }))
heard_of c (Ok (Received.Host h)) = ours_or (ours c h) (Err Outcome.Host)
heard_of c (Err ReadError.Version) = Err Outcome.Version
heard_of c (Err ReadError.Malformed) = Err Outcome.Malformed

-- what was heard, handed to a rule
abbrev pub ruled : Worked Heard → (Header → Body → Time → Worked Done) → Worked Done
ruled heard rule = heard then λ m. rule m.header m.body m.time
