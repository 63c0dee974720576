-- The rules go by cases of the record; the code goes by the answers of `Taking`. Both come to the same.
use Rattle.std.specs.Prelude.{ℕ, ◌≡◌, Option, Some, None}
use Rattle.std.proofs.Math.Path.{refl}
use Rattle.std.proofs.Common.{ap, ◌∙◌}
use Rattle.rules.specs.Names.{Time, Identity, Exchange, PeerState, PortState, SlaveState}
use Rattle.rules.specs.Measuring.{complete, peer_complete}
use Rattle.record.specs.Record.{as_slave}
use Rattle.measurement.specs.declared.PeerTimes.{PeerTimes}
use Rattle.measurement.specs.Taking.{pair_of, peer_times_of, slave_in}

module _ {A : Type 0} where
  -- ---- a Slave's part

  abbrev pub of_slave : Option SlaveState → A → (SlaveState → A) → A
  of_slave None other f = other
  of_slave (Some s) other f = f s

  slave_cases : (state : PortState) (other : A) (f : SlaveState → A) → as_slave state other f ≡ of_slave (slave_in state) other f
  unfolding slave_in
  slave_cases PortState.Listening other f = refl
  slave_cases PortState.Master other f = refl
  slave_cases PortState.Passive other f = refl
  slave_cases PortState.Faulty other f = refl
  slave_cases (PortState.Slave s) other f = refl

  pub slave_is : (state : PortState) (m : Option SlaveState) (other : A) (f : SlaveState → A) → slave_in state ≡ m → as_slave state other f ≡ of_slave m other f
  slave_is state m other f e = slave_cases state other f ∙ ap (λ (x : Option SlaveState). of_slave x other f) e

  -- ---- complete exchanges

  abbrev pub of_pair : Option (Time × Time) → A → (Time → Time → A) → A
  of_pair None missing k = missing
  of_pair (Some (a, b)) missing k = k a b

  pair_cases : (x : Exchange) (missing : A) (k : Time → Time → A) → complete x missing k ≡ of_pair (pair_of x) missing k
  unfolding pair_of
  pair_cases Exchange.Empty missing k = refl
  pair_cases (Exchange.Measuring id None receive) missing k = refl
  pair_cases (Exchange.Measuring id (Some a) None) missing k = refl
  pair_cases (Exchange.Measuring id (Some a) (Some b)) missing k = refl

  pub pair_is : (x : Exchange) (y : Option (Time × Time)) (missing : A) (k : Time → Time → A) → pair_of x ≡ y → complete x missing k ≡ of_pair y missing k
  pair_is x y missing k e = pair_cases x missing k ∙ ap (λ (z : Option (Time × Time)). of_pair z missing k) e

  abbrev pub of_peer_times : Option PeerTimes → A → (ℕ → Identity → Time → Time → Time → Time → A) → A
  of_peer_times None missing k = missing
  of_peer_times (Some t) missing k = k t.id t.responder t.request_send t.request_receive t.response_send t.response_receive

  peer_cases : (q : PeerState) (missing : A) (k : ℕ → Identity → Time → Time → Time → Time → A) → peer_complete q missing k ≡ of_peer_times (peer_times_of q) missing k
  unfolding peer_times_of
  peer_cases PeerState.Empty missing k = refl
  peer_cases (PeerState.Measuring id who None t2 t3 t4) missing k = refl
  peer_cases (PeerState.Measuring id who (Some t1) None t3 t4) missing k = refl
  peer_cases (PeerState.Measuring id who (Some t1) (Some t2) None t4) missing k = refl
  peer_cases (PeerState.Measuring id who (Some t1) (Some t2) (Some t3) None) missing k = refl
  peer_cases (PeerState.Measuring id None (Some t1) (Some t2) (Some t3) (Some t4)) missing k = refl
  peer_cases (PeerState.Measuring id (Some i) (Some t1) (Some t2) (Some t3) (Some t4)) missing k = refl
  peer_cases (PeerState.Measured id i) missing k = refl

  pub peer_times_are : (q : PeerState) (y : Option PeerTimes) (missing : A) (k : ℕ → Identity → Time → Time → Time → Time → A) → peer_times_of q ≡ y → peer_complete q missing k ≡ of_peer_times y missing k
  peer_times_are q y missing k e = peer_cases q missing k ∙ ap (λ (z : Option PeerTimes). of_peer_times z missing k) e
