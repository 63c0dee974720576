-- What the laws of proofs/HeldSyncLaws.antt speak of.
use Rattle.std.specs.Prelude.{◌≡◌, Some, None}
use Rattle.time.specs.Units.{time}
use Rattle.rules.specs.Names.{Exchange, PortState, Port}
use Rattle.rules.specs.Events.{Done}
use Rattle.rules.specs.WorkedOut.{Completed, unfinished, sync}

-- ---- what is said of a rule: the peer exchange is this, and a Slave is that one

abbrev pub OnlySlave : PortState → PortState → Type 0
OnlySlave z PortState.Listening = Unit {0}
OnlySlave z PortState.Master = Unit {0}
OnlySlave z PortState.Passive = Unit {0}
OnlySlave z PortState.Faulty = Unit {0}
OnlySlave z (PortState.Slave s) = z ≡ PortState.Slave s

pub record EndsAs (r : Port) (d : Done) : Type 0 where
  pub state : OnlySlave r.state d.port.state
  pub peer : r.peer ≡ d.port.peer

-- ---- the sync exchange: x before the event, y stored by it

abbrev pub completed_by : Exchange → Completed
completed_by Exchange.Empty = unfinished
completed_by (Exchange.Measuring id None receive) = unfinished
completed_by (Exchange.Measuring id (Some a) None) = unfinished
completed_by (Exchange.Measuring id (Some a) (Some b)) = sync (time a) (time b)
