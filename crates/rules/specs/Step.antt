-- The port as one function: the table in its order, then the event's rule. The least buffer comes first; ℕ is the buffer's length.
use Rattle.std.specs.Prelude.{ℕ, Bool, cond, Ok, Err}
use Rattle.rules.specs.Names.{Time, Header, Body, Port, Config, Outcome, Received, ReadError, Reading}
use Rattle.fitness.specs.Fit.{unfit}
use Rattle.rules.specs.Worked.{Worked, refused}
use Rattle.rules.specs.Events.{Event, event, general, stamp, sync_timer, delay_timer, filter_answer, set_state, Done, Answered, answered, reading}
use Rattle.rules.specs.Table.{row1, row3, ours}
use Rattle.rules.specs.Rules.{on_event, on_general, stamped, sync_timer_ends, delay_timer_ends, filtered, state_set}

-- a row that refuses
abbrev pub unless : Bool → Outcome → Worked Done → Worked Done
unless row o rest = cond row (refused o) rest

-- a message as its rule sees it, after rows 4, 5, 6 and 8
abbrev pub viewed : Config → Reading → (Header → Body → Time → Worked Done) → Worked Done
viewed c (Ok (Received.Message h b t)) rule = cond (ours c h) (rule h b t) (refused Outcome.Foreign)
viewed c (Ok (Received.Host h)) rule = cond (ours c h) (refused Outcome.Host) (refused Outcome.Foreign)
viewed c (Err ReadError.Version) rule = refused Outcome.Version
viewed c (Err ReadError.Malformed) rule = refused Outcome.Malformed

unfoldable pub rule_of : Port → Event → Worked Done
rule_of p (event at message) = viewed p.config (reading p.config message) (on_event p at)
rule_of p (general message) = viewed p.config (reading p.config message) (on_general p)
rule_of p (stamp at context) = stamped p at context
rule_of p sync_timer = sync_timer_ends p
rule_of p (delay_timer draw) = delay_timer_ends p draw
rule_of p (filter_answer update) = filtered p update
rule_of p (set_state new) = state_set p new

-- the table, and behind it the rule
abbrev pub tabled : Port → ℕ → Event → Worked Done
tabled p room e =
    unless (row1 p.config e room) Outcome.Buffer (unless (unfit p) Outcome.Unfit (unless (row3 e) Outcome.Limits (rule_of p e)))

unfoldable pub step : Port → ℕ → Event → Answered
step p room e = answered p (tabled p room e)
