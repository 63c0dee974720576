-- What the laws of proofs/FitLaws.antt speak of.
use Rattle.std.specs.Prelude.{◌<◌, ◌≡◌, Bool, true, false, List, [], ◌∷◌, Option, Some, None}
use Rattle.time.specs.Units.{time, in_time}
use Rattle.timers.specs.Timers.{interval, in_interval}
use Rattle.record.specs.declared.Exchange.{Exchange}
use Rattle.record.specs.declared.PortState.{PortState}
use Rattle.record.specs.declared.PeerState.{PeerState}
use Rattle.record.specs.declared.Config.{Config}
use Rattle.record.specs.declared.Port.{Port}
use Rattle.fitness.specs.Fit.{peer_times, any_out, unanswered, peer_full, sync_timeless, slave_full, config_out}
use Rattle.time.specs.declared.Time.{Time}

-- ---- a fit record, part by part

-- a time that is held is one
abbrev pub FitTime : Option Time → Type 0
FitTime None = Unit {0}
FitTime (Some t) = in_time (time t) ≡ true

-- a sync exchange that is open has one time, and not the other
abbrev pub FitSync : Exchange → Type 0
FitSync Exchange.Empty = Unit {0}
FitSync (Exchange.Measuring id None None) = ⊥
FitSync (Exchange.Measuring id None (Some r)) = in_time (time r) ≡ true
FitSync (Exchange.Measuring id (Some s) None) = in_time (time s) ≡ true
FitSync (Exchange.Measuring id (Some s) (Some r)) = ⊥

-- a delay exchange that is open has at most one time
abbrev pub FitDelay : Exchange → Type 0
FitDelay Exchange.Empty = Unit {0}
FitDelay (Exchange.Measuring id None None) = Unit {0}
FitDelay (Exchange.Measuring id None (Some r)) = in_time (time r) ≡ true
FitDelay (Exchange.Measuring id (Some s) None) = in_time (time s) ≡ true
FitDelay (Exchange.Measuring id (Some s) (Some r)) = ⊥

abbrev pub FitState : PortState → Type 0
FitState PortState.Listening = Unit {0}
FitState PortState.Master = Unit {0}
FitState PortState.Passive = Unit {0}
FitState PortState.Faulty = Unit {0}
FitState (PortState.Slave s) = FitSync s.sync × FitDelay s.delay

pub record FitPeer (q : PeerState) : Type 0 where
  pub in_limits : any_out (peer_times q) ≡ false
  pub responder_known : unanswered q ≡ false
  pub not_full : peer_full q ≡ false

pub record IsFit (p : Port) : Type 0 where
  pub config : config_out p.config ≡ false
  pub state : FitState p.state
  pub peer : FitPeer p.peer

-- ---- the configuration

pub record FitConfig (c : Config) : Type 0 where
  pub delay : in_interval (interval c.delay_interval) ≡ true
  pub sync : in_interval (interval c.sync_interval) ≡ true
  pub sdo : c.sdo < 4096
  pub minor : c.minor < 2

-- ---- the record

-- row 2, with the times of a Slave's exchanges and of the peer exchange apart
abbrev pub row_clauses : Port → List Bool
row_clauses p =
    any_out (peer_times p.peer) ∷ config_out p.config ∷ sync_timeless p.state ∷ unanswered p.peer ∷ slave_full p.state ∷ peer_full p.peer ∷ []
