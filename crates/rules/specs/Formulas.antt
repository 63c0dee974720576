-- Document 01, 'The measurement', as what a measurement says: its formula in ℤ over the times that the exchange held, its event time, and what becomes of the exchange. p is the record before the event, q the one after it.
use Rattle.std.specs.Prelude.{ℕ, ◌≡◌, true, ℤ, ◌-ℤ◌, Option, Some, None}
use Rattle.rules.specs.Names.{Time, Duration, Identity, Exchange, PeerState, Port, Measurement}
use Rattle.time.specs.Units.{time, duration, half}
use Rattle.rules.specs.WorkedOut.{Completed, unfinished, sync, delay, peer, raw_sync, raw_delay, peer_twice, last_raw, sync_in, delay_in, peer_opened}

-- a duration that is given exactly if another is there, by a formula over it
abbrev pub GivenBy : Option Duration → (ℤ → ℤ) → Option Duration → Type 0
GivenBy None f None = Unit {0}
GivenBy None f (Some d) = ⊥
GivenBy (Some m) f None = ⊥
GivenBy (Some m) f (Some d) = duration d ≡ f (duration m)

pub record SyncSays (p : Port) (send receive : ℤ) (event : Time) (raw : Duration) (offset : Option Duration) (q : Port) : Type 0 where
  pub event_time : time event ≡ receive
  pub raw_is : duration raw ≡ raw_sync p send receive
  pub offset_is : GivenBy p.mean (λ mean. raw_sync p send receive -ℤ mean) offset
  pub raw_kept : last_raw q.state ≡ Some raw
  pub taken_out : sync_in q.state ≡ Exchange.Empty

pub record DelaySays (p : Port) (send receive : ℤ) (event : Time) (raw : Duration) (delay : Option Duration) (q : Port) : Type 0 where
  pub event_time : time event ≡ send
  pub raw_is : duration raw ≡ raw_delay p send receive
  pub delay_is : GivenBy (last_raw p.state) (λ last. half (last -ℤ raw_delay p send receive)) delay
  pub raw_stays : last_raw q.state ≡ last_raw p.state
  pub taken_out : delay_in q.state ≡ Exchange.Empty

pub record PeerSays (p : Port) (request_send request_receive response_send response_receive : ℤ) (event : Time) (delay : Duration) (q : Port) : Type 0 where
  pub event_time : time event ≡ response_receive
  pub delay_is : duration delay ≡ half (peer_twice request_send request_receive response_send response_receive)
  pub id : ℕ
  pub responder : Identity
  pub opened : peer_opened id p.peer ≡ true
  pub measured : q.peer ≡ PeerState.Measured id responder

-- the measurement that an exchange calls for: one of its own kind where one is complete, and none where none is
abbrev pub Says : Port → Completed → Option Measurement → Port → Type 0
Says p unfinished None q = Unit {0}
Says p unfinished (Some m) q = ⊥
Says p (sync send receive) None q = ⊥
Says p (sync send receive) (Some (Measurement.Sync event raw offset)) q = SyncSays p send receive event raw offset q
Says p (sync send receive) (Some (Measurement.Delay event raw d)) q = ⊥
Says p (sync send receive) (Some (Measurement.Peer event d)) q = ⊥
Says p (delay send receive) None q = ⊥
Says p (delay send receive) (Some (Measurement.Sync event raw offset)) q = ⊥
Says p (delay send receive) (Some (Measurement.Delay event raw d)) q = DelaySays p send receive event raw d q
Says p (delay send receive) (Some (Measurement.Peer event d)) q = ⊥
Says p (peer a b c d) None q = ⊥
Says p (peer a b c d) (Some (Measurement.Sync event raw offset)) q = ⊥
Says p (peer a b c d) (Some (Measurement.Delay event raw x)) q = ⊥
Says p (peer a b c d) (Some (Measurement.Peer event x)) q = PeerSays p a b c d event x q
