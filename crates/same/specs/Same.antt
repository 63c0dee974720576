-- When two values are the same, part by part. (`SameLaws`: exactly when they are equal. For identities it is `same_identity` of `record`.)
use Rattle.std.specs.Prelude.{Bool, true, false, ◌&&◌, eqb, Option, Some, None}
use Rattle.time.specs.declared.Time.{Time}
use Rattle.time.specs.declared.Duration.{Duration}
use Rattle.record.specs.declared.Exchange.{Exchange}
use Rattle.record.specs.declared.SlaveState.{SlaveState}
use Rattle.record.specs.declared.PortState.{PortState}
use Rattle.record.specs.declared.PeerState.{PeerState}
use Rattle.record.specs.declared.Mechanism.{Mechanism}
use Rattle.record.specs.declared.Config.{Config}
use Rattle.record.specs.declared.Ids.{Ids}
use Rattle.record.specs.declared.Port.{Port}
use Rattle.record.specs.Record.{state_number}
use Rattle.record.specs.Same.{same_identity}
use Rattle.wire.specs.declared.Identity.{Identity}

unfoldable pub same_time : Time → Time → Bool
same_time a b = eqb a.hi b.hi && eqb a.lo b.lo

unfoldable pub same_duration : Duration → Duration → Bool
same_duration a b = eqb a.hi b.hi && eqb a.lo b.lo

unfoldable pub same_maybe_time : Option Time → Option Time → Bool
same_maybe_time None None = true
same_maybe_time None (Some b) = false
same_maybe_time (Some a) None = false
same_maybe_time (Some a) (Some b) = same_time a b

unfoldable pub same_maybe_duration : Option Duration → Option Duration → Bool
same_maybe_duration None None = true
same_maybe_duration None (Some b) = false
same_maybe_duration (Some a) None = false
same_maybe_duration (Some a) (Some b) = same_duration a b

unfoldable pub same_maybe_identity : Option Identity → Option Identity → Bool
same_maybe_identity None None = true
same_maybe_identity None (Some b) = false
same_maybe_identity (Some a) None = false
same_maybe_identity (Some a) (Some b) = same_identity a b

unfoldable pub same_exchange : Exchange → Exchange → Bool
same_exchange Exchange.Empty Exchange.Empty = true
same_exchange Exchange.Empty (Exchange.Measuring i s r) = false
same_exchange (Exchange.Measuring i s r) Exchange.Empty = false
same_exchange (Exchange.Measuring i s r) (Exchange.Measuring j t u) = eqb i j && same_maybe_time s t && same_maybe_time r u

unfoldable pub same_slave : SlaveState → SlaveState → Bool
same_slave a b =
    same_identity a.master b.master
    && same_exchange a.sync b.sync
    && same_exchange a.delay b.delay
    && same_maybe_duration a.raw b.raw

abbrev pub slave_is : SlaveState → PortState → Bool
slave_is s PortState.Listening = false
slave_is s PortState.Master = false
slave_is s PortState.Passive = false
slave_is s PortState.Faulty = false
slave_is s (PortState.Slave t) = same_slave s t

unfoldable pub same_state : PortState → PortState → Bool
same_state PortState.Listening b = eqb (state_number b) 0
same_state PortState.Master b = eqb (state_number b) 1
same_state PortState.Passive b = eqb (state_number b) 2
same_state PortState.Faulty b = eqb (state_number b) 3
same_state (PortState.Slave s) b = slave_is s b

unfoldable pub same_peer : PeerState → PeerState → Bool
same_peer PeerState.Empty PeerState.Empty = true
same_peer PeerState.Empty (PeerState.Measuring j x e f g h) = false
same_peer PeerState.Empty (PeerState.Measured j x) = false
same_peer (PeerState.Measuring i w a b c d) PeerState.Empty = false
same_peer (PeerState.Measuring i w a b c d) (PeerState.Measuring j x e f g h) =
    eqb i j && same_maybe_identity w x && same_maybe_time a e && same_maybe_time b f && same_maybe_time c g && same_maybe_time d h
same_peer (PeerState.Measuring i w a b c d) (PeerState.Measured j x) = false
same_peer (PeerState.Measured i w) PeerState.Empty = false
same_peer (PeerState.Measured i w) (PeerState.Measuring j x e f g h) = false
same_peer (PeerState.Measured i w) (PeerState.Measured j x) = eqb i j && same_identity w x

unfoldable pub same_mechanism : Mechanism → Mechanism → Bool
same_mechanism Mechanism.EndToEnd Mechanism.EndToEnd = true
same_mechanism Mechanism.EndToEnd Mechanism.Peer = false
same_mechanism Mechanism.Peer Mechanism.EndToEnd = false
same_mechanism Mechanism.Peer Mechanism.Peer = true

unfoldable pub same_config : Config → Config → Bool
same_config a b =
    same_identity a.identity b.identity
    && eqb a.sdo b.sdo
    && eqb a.domain b.domain
    && eqb a.minor b.minor
    && same_mechanism a.mechanism b.mechanism
    && eqb a.delay_interval b.delay_interval
    && eqb a.sync_interval b.sync_interval
    && same_duration a.asymmetry b.asymmetry

unfoldable pub same_ids : Ids → Ids → Bool
same_ids a b = eqb a.sync b.sync && eqb a.delay b.delay && eqb a.peer b.peer

unfoldable pub same_port : Port → Port → Bool
same_port a b =
    same_config a.config b.config
    && same_state a.state b.state
    && same_peer a.peer b.peer
    && same_maybe_duration a.mean b.mean
    && same_ids a.ids b.ids
