-- Witnesses, each computed: the states, a fresh port, and the ids at both ends.
use Rattle.std.specs.Prelude.{◌≡◌, refl, true, false, None}
use Rattle.record.specs.declared.SlaveState.{SlaveState}
use Rattle.record.specs.declared.PortState.{PortState}
use Rattle.record.specs.declared.PeerState.{PeerState}
use Rattle.record.specs.declared.Config.{Config}
use Rattle.record.specs.Ids.{id_after}
use Rattle.record.specs.Record.{is_master, is_faulty, is_slave, port_of}

states_told_apart : (s : SlaveState) → (is_master PortState.Listening ≡ false) × (is_master PortState.Master ≡ true) × (is_master PortState.Passive ≡ false) × (is_master PortState.Faulty ≡ false) × (is_master (PortState.Slave s) ≡ false) × (is_faulty PortState.Faulty ≡ true) × (is_faulty PortState.Passive ≡ false) × (is_slave (PortState.Slave s) ≡ true) × (is_slave PortState.Faulty ≡ false)
states_told_apart s = (refl, refl, refl, refl, refl, refl, refl, refl, refl)

fresh_port : (c : Config) → port_of c ≡ record { config = c; state = PortState.Listening; peer = PeerState.Empty; mean = None; ids = record { sync = 0; delay = 0; peer = 0 } }
fresh_port c = refl

id_after_last : id_after 65535 ≡ 0
unfolding id_after
id_after_last = refl

id_after_first : id_after 0 ≡ 1
unfolding id_after
id_after_first = refl
