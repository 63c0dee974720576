-- What the laws of proofs/ChangeLaws.antt speak of.
use Rattle.std.specs.Prelude.{◌≡◌, [], None}
use Rattle.rules.specs.Names.{Identity, Exchange, SlaveState, PortState, Port, NewState}
use Rattle.rules.specs.Events.{Event, Answered}
use Rattle.rules.specs.Rules.{state_of}
use Rattle.rules.specs.WorkedOut.{sync_in, delay_in, last_raw}
use Rattle.rules.specs.Changes.{ids_after, mean_after}

-- ---- configuration, ids and mean delay

pub record Follows (p : Port) (e : Event) (q : Port) : Type 0 where
  pub config : q.config ≡ p.config
  pub ids : q.ids ≡ ids_after p e
  pub mean : q.mean ≡ mean_after p e

-- ---- a state that is set

-- nothing else changes, and nothing is to be done but perhaps a reset
pub record IsSet (p : Port) (new : NewState) (r : Answered) : Type 0 where
  pub state : r.port.state ≡ state_of new
  pub peer : r.port.peer ≡ p.peer
  pub mean : r.port.mean ≡ p.mean
  pub ids : r.port.ids ≡ p.ids
  pub config : r.port.config ≡ p.config
  pub measurement : r.measurement ≡ None
  pub sent : r.sent ≡ []
  pub actions : r.actions ≡ []

-- how a Slave begins: its master, and nothing heard yet
pub record BeginsAsSlave (master : Identity) (state : PortState) : Type 0 where
  pub slave : SlaveState
  pub state_is_slave : state ≡ PortState.Slave slave
  pub master_is : slave.master ≡ master
  pub no_sync : sync_in state ≡ Exchange.Empty
  pub no_delay : delay_in state ≡ Exchange.Empty
  pub no_raw : last_raw state ≡ None
