-- Which measurement `settle` comes to, by what `Taking` finds in the record.
use Rattle.std.specs.Prelude.{Some, None}
use Prim.Native.Nat.{ℕ}
use mathlib.Core.Path.{◌≡◌, ◌∙◌}
use Rattle.rules.specs.Names.{Time, Identity, SlaveState, Port}
use Rattle.rules.specs.Events.{nothing}
use Rattle.rules.specs.Measuring.{settle, measure_sync, measure_delay, measure_peer, complete}
use Rattle.measurement.specs.Taking.{pair_of, times_of, peer_times_of, slave_in}
use Rattle.measurement.specs.TakingLaws.{slave_is, pair_is, peer_times_are}

module _ (p : Port) where
  pub peer_settles : (id : ℕ) (i : Identity) (t1 t2 t3 t4 : Time) → peer_times_of p.peer ≡ Some (times_of id i t1 t2 t3 t4) → settle p ≡ measure_peer p id i t1 t2 t3 t4
  unfolding settle
  peer_settles id i t1 t2 t3 t4 e = peer_times_are p.peer (Some (times_of id i t1 t2 t3 t4)) _ (measure_peer p) e

  module _ (open' : peer_times_of p.peer ≡ None) where
    pub nobody_settles : slave_in p.state ≡ None → settle p ≡ nothing p
    unfolding settle
    nobody_settles e = peer_times_are p.peer None _ (measure_peer p) open' ∙ slave_is p.state None (nothing p) _ e

    module _ (s : SlaveState) (slave : slave_in p.state ≡ Some s) where
      slave_settles : settle p ≡ complete s.sync (complete s.delay (nothing p) (measure_delay p s)) (measure_sync p s)
      unfolding settle
      slave_settles = peer_times_are p.peer None _ (measure_peer p) open' ∙ slave_is p.state (Some s) (nothing p) _ slave

      pub sync_settles : (send receive : Time) → pair_of s.sync ≡ Some (send, receive) → settle p ≡ measure_sync p s send receive
      sync_settles send receive e = slave_settles ∙ pair_is s.sync (Some (send, receive)) _ (measure_sync p s) e

      others_settle : pair_of s.sync ≡ None → settle p ≡ complete s.delay (nothing p) (measure_delay p s)
      others_settle e = slave_settles ∙ pair_is s.sync None _ (measure_sync p s) e

      pub delay_settles : (send receive : Time) → pair_of s.sync ≡ None → pair_of s.delay ≡ Some (send, receive) → settle p ≡ measure_delay p s send receive
      delay_settles send receive e f = others_settle e ∙ pair_is s.delay (Some (send, receive)) _ (measure_delay p s) f

      pub open_settles : pair_of s.sync ≡ None → pair_of s.delay ≡ None → settle p ≡ nothing p
      open_settles e f = others_settle e ∙ pair_is s.delay None _ (measure_delay p s) f
