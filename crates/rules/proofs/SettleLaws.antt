-- What is settled after an exchange was stored: that exchange alone, since a fit record has no other that is complete.
use Rattle.std.specs.Prelude.{ℕ, ◌≡◌, refl, false, ◌&&◌, Option, Some, None}
use Rattle.std.proofs.Common.{◌∙◌}
use Rattle.std.proofs.Math.Path.{ap}
use Rattle.rules.specs.Names.{Time, Identity, Exchange, SlaveState, PortState, PeerState, Port}
use Rattle.record.specs.Record.{as_slave, with_slave, with_sync, with_delay, with_peer}
use Rattle.fitness.specs.Fit.{full, slave_full, peer_full, there}
use Rattle.octets.proofs.BytesLaws.{neither, apart}
use Rattle.rules.specs.Worked.{Worked}
use Rattle.rules.specs.Events.{Done, nothing}
use Rattle.rules.specs.Measuring.{both, complete, peer_complete, measure_sync, measure_delay, measure_peer, settle}

-- ---- an exchange that is not complete

pub not_both : {A : Type 0} (a b : Option Time) (missing : A) (k : Time → Time → A) → there a && there b ≡ false → both a b missing k ≡ missing
not_both None b missing k e = refl
not_both (Some t) None missing k e = refl
not_both (Some t) (Some u) missing k e = absurd (apart cc)

pub not_complete : {A : Type 0} (x : Exchange) (missing : A) (k : Time → Time → A) → full x ≡ false → complete x missing k ≡ missing
not_complete Exchange.Empty missing k e = refl
not_complete (Exchange.Measuring id send receive) missing k e = not_both send receive missing k e

pub peer_not_complete : {A : Type 0} (q : PeerState) (missing : A) (k : ℕ → Identity → Time → Time → Time → Time → A) → peer_full q ≡ false → peer_complete q missing k ≡ missing
peer_not_complete PeerState.Empty missing k e = refl
peer_not_complete (PeerState.Measuring id w None b c d) missing k e = refl
peer_not_complete (PeerState.Measuring id w (Some a) None c d) missing k e = refl
peer_not_complete (PeerState.Measuring id w (Some a) (Some b) None d) missing k e = refl
peer_not_complete (PeerState.Measuring id w (Some a) (Some b) (Some c) None) missing k e = refl
peer_not_complete (PeerState.Measuring id w (Some a) (Some b) (Some c) (Some d)) missing k e = absurd (apart cc)
peer_not_complete (PeerState.Measured id w) missing k e = refl

-- ---- what is settled

module _ (p : Port) (s : SlaveState) (x : Exchange) (q : peer_full p.peer ≡ false) where
  pub settle_sync : full s.delay ≡ false → settle (with_slave p (with_sync s x)) ≡ complete x (nothing (with_slave p (with_sync s x))) (measure_sync (with_slave p (with_sync s x)) (with_sync s x))
  unfolding settle
  settle_sync e =
      let r : Port = with_slave p (with_sync s x) in
      peer_not_complete p.peer _ (measure_peer r) q
      ∙ ap (λ (w : Worked Done). complete x w (measure_sync r (with_sync s x))) (not_complete s.delay (nothing r) (measure_delay r (with_sync s x)) e)

  pub settle_delay : full s.sync ≡ false → settle (with_slave p (with_delay s x)) ≡ complete x (nothing (with_slave p (with_delay s x))) (measure_delay (with_slave p (with_delay s x)) (with_delay s x))
  unfolding settle
  settle_delay e =
      let r : Port = with_slave p (with_delay s x) in
      peer_not_complete p.peer _ (measure_peer r) q
      ∙ not_complete s.sync _ (measure_sync r (with_delay s x)) e

slave_not_complete : {A : Type 0} (state : PortState) (missing : A) (k j : SlaveState → Time → Time → A) → slave_full state ≡ false → as_slave state missing (λ s. complete s.sync (complete s.delay missing (j s)) (k s)) ≡ missing
slave_not_complete PortState.Listening missing k j e = refl
slave_not_complete PortState.Master missing k j e = refl
slave_not_complete PortState.Passive missing k j e = refl
slave_not_complete PortState.Faulty missing k j e = refl
slave_not_complete (PortState.Slave s) missing k j e =
    let (a, b) = neither (full s.sync) (full s.delay) e in
    not_complete s.sync _ (k s) a ∙ not_complete s.delay missing (j s) b

pub settle_peer : (p : Port) (x : PeerState) → slave_full p.state ≡ false → settle (with_peer p x) ≡ peer_complete x (nothing (with_peer p x)) (measure_peer (with_peer p x))
unfolding settle
settle_peer p x e =
    let r : Port = with_peer p x in
    ap (λ (w : Worked Done). peer_complete x w (measure_peer r)) (slave_not_complete p.state (nothing r) (measure_sync r) (measure_delay r) e)
