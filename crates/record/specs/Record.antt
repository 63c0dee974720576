-- The record with one part replaced, and what a port and a Slave begin with. (antt has no update of a record, so each is written out.)
use Rattle.std.specs.Prelude.{ℕ, Bool, eqb, Some, None}
use Rattle.wire.specs.declared.Identity.{Identity}
use Rattle.time.specs.declared.Duration.{Duration}
use Rattle.record.specs.declared.Exchange.{Exchange}
use Rattle.record.specs.declared.SlaveState.{SlaveState}
use Rattle.record.specs.declared.PortState.{PortState}
use Rattle.record.specs.declared.PeerState.{PeerState}
use Rattle.record.specs.declared.Config.{Config}
use Rattle.record.specs.declared.Ids.{Ids}
use Rattle.record.specs.declared.Port.{Port}
use Rattle.record.specs.Ids.{first_id}

-- ---- states

-- the numbers that the event log has for them
abbrev pub state_number : PortState → ℕ
state_number PortState.Listening = 0
state_number PortState.Master = 1
state_number PortState.Passive = 2
state_number PortState.Faulty = 3
state_number (PortState.Slave s) = 4

abbrev pub is_master : PortState → Bool
is_master state = eqb (state_number state) 1

abbrev pub is_faulty : PortState → Bool
is_faulty state = eqb (state_number state) 3

abbrev pub is_slave : PortState → Bool
is_slave state = eqb (state_number state) 4

-- what is made of a Slave's part, or else
abbrev pub as_slave : {A : Type 0} → PortState → A → (SlaveState → A) → A
as_slave PortState.Listening other f = other
as_slave PortState.Master other f = other
as_slave PortState.Passive other f = other
as_slave PortState.Faulty other f = other
as_slave (PortState.Slave s) other f = f s

-- ---- a Slave's part

abbrev pub with_sync : SlaveState → Exchange → SlaveState
with_sync s x = record { master = s.master; sync = x; delay = s.delay; raw = s.raw }

abbrev pub with_delay : SlaveState → Exchange → SlaveState
with_delay s x = record { master = s.master; sync = s.sync; delay = x; raw = s.raw }

abbrev pub with_raw : SlaveState → Duration → SlaveState
with_raw s d = record { master = s.master; sync = s.sync; delay = s.delay; raw = Some d }

-- what a Slave has at its beginning ('Set state'): neither exchange open, and no raw offset from before
abbrev pub slave_of : Identity → SlaveState
slave_of m = record { master = m; sync = Exchange.Empty; delay = Exchange.Empty; raw = None }

-- ---- the record

abbrev pub with_state : Port → PortState → Port
with_state p x = record { config = p.config; state = x; peer = p.peer; mean = p.mean; ids = p.ids }

abbrev pub with_peer : Port → PeerState → Port
with_peer p x = record { config = p.config; state = p.state; peer = x; mean = p.mean; ids = p.ids }

abbrev pub with_mean : Port → Duration → Port
with_mean p d = record { config = p.config; state = p.state; peer = p.peer; mean = Some d; ids = p.ids }

abbrev pub with_ids : Port → Ids → Port
with_ids p x = record { config = p.config; state = p.state; peer = p.peer; mean = p.mean; ids = x }

abbrev pub with_slave : Port → SlaveState → Port
with_slave p s = with_state p (PortState.Slave s)

-- a fresh port: Listening with nothing stored and first ids ('Event log')
abbrev pub port_of : Config → Port
port_of c =
    record {
      config = c;
      state = PortState.Listening;
      peer = PeerState.Empty;
      mean = None;
      ids = record { sync = first_id; delay = first_id; peer = first_id };
    }
