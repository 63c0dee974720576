-- What the laws of proofs/Examples.antt speak of.
use Rattle.std.specs.Prelude.{ℕ, ◌-◌, ◌^◌, ◌≡◌, true, false, Option, Some, None}
use Rattle.time.specs.declared.Time.{Time}
use Rattle.time.specs.declared.Duration.{Duration}
use Rattle.wire.specs.declared.Identity.{Identity}
use Rattle.record.specs.declared.Exchange.{Exchange}
use Rattle.record.specs.declared.PortState.{PortState}
use Rattle.record.specs.declared.PeerState.{PeerState}
use Rattle.record.specs.declared.Mechanism.{Mechanism}
use Rattle.record.specs.declared.Config.{Config}
use Rattle.record.specs.declared.Port.{Port}
use Rattle.fitness.specs.Fit.{unfit}

-- ---- the parts

-- 2 ^ 127 - 1 units, and one more, which no time has
abbrev pub last_time : Time
last_time = record { hi = 2 ^ 63 - 1; lo = 2 ^ 64 - 1 }

abbrev pub late_time : Time
late_time = record { hi = 2 ^ 63; lo = 0 }

-- a time far from both ends
abbrev pub a_time : Option Time
a_time = Some (record { hi = 5; lo = 6 })

abbrev pub someone : Identity
someone = record { clock = 0x0102030405060708; port = 9 }

-- a responder, and none
abbrev pub one_known : Option Identity
one_known = Some someone

abbrev pub none_known : Option Identity
none_known = None

-- -2 ^ 127 units
abbrev pub lowest_duration : Duration
lowest_duration = record { hi = 2 ^ 63; lo = 0 }

abbrev pub configured : Mechanism → ℕ → ℕ → ℕ → ℕ → Duration → Config
configured mechanism delay sync sdo minor asymmetry =
    record {
      identity = record { clock = 1; port = 2 };
      sdo = sdo;
      domain = 3;
      minor = minor;
      mechanism = mechanism;
      delay_interval = delay;
      sync_interval = sync;
      asymmetry = asymmetry;
    }

-- the base: within every limit
abbrev pub set_up : Config
set_up = configured Mechanism.EndToEnd 0 0 256 0 lowest_duration

abbrev pub ported : Config → PortState → PeerState → Port
ported config state peer =
    record { config = config; state = state; peer = peer; mean = Some lowest_duration; ids = record { sync = 1; delay = 2; peer = 65535 } }

-- a Slave with these two exchanges
abbrev pub slave_with : Exchange → Exchange → PortState
slave_with sync delay = PortState.Slave (record { master = someone; sync = sync; delay = delay; raw = Some lowest_duration })

-- the base with one part changed: an exchange open with these times, or the numbers of the configuration
abbrev pub sync_open : Option Time → Option Time → Port
sync_open send receive = ported set_up (slave_with (Exchange.Measuring 7 send receive) Exchange.Empty) PeerState.Empty

abbrev pub delay_open : Option Time → Option Time → Port
delay_open send receive = ported set_up (slave_with Exchange.Empty (Exchange.Measuring 7 send receive)) PeerState.Empty

abbrev pub peer_open : Option Identity → Option Time → Option Time → Option Time → Option Time → Port
peer_open responder a b c d = ported set_up PortState.Master (PeerState.Measuring 7 responder a b c d)

abbrev pub with_numbers : ℕ → ℕ → ℕ → ℕ → Port
with_numbers delay sync sdo minor = ported (configured Mechanism.Peer delay sync sdo minor lowest_duration) PortState.Listening PeerState.Empty

-- the first is unfit, and the second, its neighbour, is fit
abbrev pub Edge : Port → Port → Type 0
Edge p q = (unfit p ≡ true) × (unfit q ≡ false)
