-- Laws of fitness: what a fit record holds, constructor by constructor, and that it is the same as not being unfit.
use Rattle.std.specs.Prelude.{ℕ, ◌<◌, ◌≡◌, refl, true, false, ◌||◌, not, List, [], ◌∷◌, ◌++◌, Option, Some, None}
use Rattle.std.proofs.Common.{sym, ◌∙◌, true≢false, arith, ltb-false, le-ltb}
use Rattle.std.proofs.Math.Bool.{or_assoc, or-false}
use Rattle.std.proofs.lemmas.Bool.{not-false}
use Rattle.octets.proofs.BytesLaws.{neither}
use Rattle.time.specs.declared.Time.{Time}
use Rattle.time.specs.Units.{time, in_time}
use Rattle.timers.specs.Timers.{interval, in_interval}
use Rattle.record.specs.declared.Exchange.{Exchange}
use Rattle.record.specs.declared.PortState.{PortState}
use Rattle.record.specs.declared.PeerState.{PeerState}
use Rattle.record.specs.declared.Config.{Config}
use Rattle.record.specs.declared.Port.{Port}
use Rattle.record.specs.Record.{port_of}
use Rattle.fitness.specs.Fit.{held_time, times_in, slave_times, peer_times, time_out, any_out, interval_out, sdo_out, minor_out, timeless, unanswered, full, peer_full, sync_timeless, slave_full, config_out, unfit}
use Rattle.record.specs.JoinedLaws.{all_false, none_true}
use Rattle.fitness.specs.FitLaws.{FitTime, FitSync, FitDelay, FitState, IsFit, FitConfig, row_clauses}
use Rattle.wire.specs.declared.Identity.{Identity}

-- ---- times

pub out_joined : (xs ys : List Time) → any_out (xs ++ ys) ≡ (any_out xs || any_out ys)
out_joined [] ys = refl
out_joined (t ∷ ts) ys = simp (out_joined ts ys, or_assoc)

-- neither list has a time out of limits
none_out : (xs ys : List Time) → any_out (xs ++ ys) ≡ false → (any_out xs ≡ false) × (any_out ys ≡ false)
none_out xs ys e = neither (any_out xs) (any_out ys) (sym (out_joined xs ys) ∙ e)

none_joined : (xs ys : List Time) → any_out xs ≡ false → any_out ys ≡ false → any_out (xs ++ ys) ≡ false
none_joined xs ys e f = out_joined xs ys ∙ simp (e, f)

pub held_is : (t : Option Time) → any_out (held_time t) ≡ false → FitTime t
unfolding time_out
held_is None e = tt
held_is (Some t) e = not-false (in_time (time t)) (sym (or-false (not (in_time (time t)))) ∙ e)

pub held_when : (t : Option Time) → FitTime t → any_out (held_time t) ≡ false
unfolding time_out
held_when None e = refl
held_when (Some t) e = simp e

-- ---- the exchanges of a Slave

sync_is : (x : Exchange) → any_out (times_in x) ≡ false → timeless x ≡ false → full x ≡ false → FitSync x
sync_is Exchange.Empty a b c = tt
sync_is (Exchange.Measuring id None None) a b c = true≢false b
sync_is (Exchange.Measuring id None (Some r)) a b c = held_is (Some r) a
sync_is (Exchange.Measuring id (Some s) None) a b c = held_is (Some s) a
sync_is (Exchange.Measuring id (Some s) (Some r)) a b c = true≢false c

sync_when : (x : Exchange) → FitSync x → (any_out (times_in x) ≡ false) × (timeless x ≡ false) × (full x ≡ false)
sync_when Exchange.Empty h = (refl, refl, refl)
sync_when (Exchange.Measuring id None None) h = absurd h
sync_when (Exchange.Measuring id None (Some r)) h = (held_when (Some r) h, refl, refl)
sync_when (Exchange.Measuring id (Some s) None) h = (held_when (Some s) h, refl, refl)
sync_when (Exchange.Measuring id (Some s) (Some r)) h = absurd h

delay_is : (x : Exchange) → any_out (times_in x) ≡ false → full x ≡ false → FitDelay x
delay_is Exchange.Empty a c = tt
delay_is (Exchange.Measuring id None None) a c = tt
delay_is (Exchange.Measuring id None (Some r)) a c = held_is (Some r) a
delay_is (Exchange.Measuring id (Some s) None) a c = held_is (Some s) a
delay_is (Exchange.Measuring id (Some s) (Some r)) a c = true≢false c

delay_when : (x : Exchange) → FitDelay x → (any_out (times_in x) ≡ false) × (full x ≡ false)
delay_when Exchange.Empty h = (refl, refl)
delay_when (Exchange.Measuring id None None) h = (refl, refl)
delay_when (Exchange.Measuring id None (Some r)) h = (held_when (Some r) h, refl)
delay_when (Exchange.Measuring id (Some s) None) h = (held_when (Some s) h, refl)
delay_when (Exchange.Measuring id (Some s) (Some r)) h = absurd h

-- what row 2 asks of the state: no time out of limits, no open sync without a time, no exchange with both
state_is : (st : PortState) → any_out (slave_times st) ≡ false → sync_timeless st ≡ false → slave_full st ≡ false → FitState st
state_is PortState.Listening a b c = tt
state_is PortState.Master a b c = tt
state_is PortState.Passive a b c = tt
state_is PortState.Faulty a b c = tt
state_is (PortState.Slave s) a b c =
    let (x, y) = none_out (times_in s.sync) (times_in s.delay) a in
    let (f, g) = neither (full s.sync) (full s.delay) c in
    (sync_is s.sync x b f, delay_is s.delay y g)

state_when : (st : PortState) → FitState st → (any_out (slave_times st) ≡ false) × (sync_timeless st ≡ false) × (slave_full st ≡ false)
state_when PortState.Listening h = (refl, refl, refl)
state_when PortState.Master h = (refl, refl, refl)
state_when PortState.Passive h = (refl, refl, refl)
state_when PortState.Faulty h = (refl, refl, refl)
state_when (PortState.Slave s) (h, k) =
    let (a, b, c) = sync_when s.sync h in
    let (d, e) = delay_when s.delay k in
    (none_joined (times_in s.sync) (times_in s.delay) a d, b, simp (c, e))

-- ---- the peer exchange while it is open: its four times

module _ (id : ℕ) (o : Option Identity) (a b c d : Option Time) where
  pub peer_times_is : any_out (peer_times (PeerState.Measuring id o a b c d)) ≡ false → FitTime a × FitTime b × FitTime c × FitTime d
  peer_times_is e =
      let (f, w) = none_out (held_time a ++ held_time b ++ held_time c) (held_time d) e in
      let (g, z) = none_out (held_time a ++ held_time b) (held_time c) f in
      let (x, y) = none_out (held_time a) (held_time b) g in
      (held_is a x, held_is b y, held_is c z, held_is d w)

  pub peer_times_when : FitTime a → FitTime b → FitTime c → FitTime d → any_out (peer_times (PeerState.Measuring id o a b c d)) ≡ false
  peer_times_when x y z w =
      none_joined (held_time a ++ held_time b ++ held_time c) (held_time d)
      (none_joined (held_time a ++ held_time b) (held_time c) (none_joined (held_time a) (held_time b) (held_when a x) (held_when b y)) (held_when c z))
      (held_when d w)

-- ---- the configuration

interval_in : (byte : ℕ) → interval_out byte ≡ false → in_interval (interval byte) ≡ true
unfolding interval_out
interval_in byte e = not-false (in_interval (interval byte)) e

sdo_in : (n : ℕ) → sdo_out n ≡ false → n < 4096
unfolding sdo_out
sdo_in n e = omega (arith, ltb-false _ n e)

minor_in : (n : ℕ) → minor_out n ≡ false → n < 2
unfolding minor_out
minor_in n e = omega (arith, ltb-false _ n e)

pub config_is : (c : Config) → config_out c ≡ false → FitConfig c
unfolding config_out
config_is c e =
    let (d, (s, (i, m))) = all_false (interval_out c.delay_interval) (interval_out c.sync_interval ∷ sdo_out c.sdo ∷ minor_out c.minor ∷ []) e in
    record {
      delay = interval_in c.delay_interval d;
      sync = interval_in c.sync_interval s;
      sdo = sdo_in c.sdo i;
      minor = minor_in c.minor m;
    }

pub config_when : (c : Config) → FitConfig c → config_out c ≡ false
unfolding config_out interval_out sdo_out minor_out
config_when c f =
    simp (f.delay, f.sync, le-ltb 4095 c.sdo (omega (arith, f.sdo)), le-ltb 1 c.minor (omega (arith, f.minor)))

-- ---- the record

pub unfit_parts : (p : Port) → unfit p ≡ (any_out (slave_times p.state) || any_out (peer_times p.peer) || config_out p.config || sync_timeless p.state || unanswered p.peer || slave_full p.state || peer_full p.peer)
unfolding unfit
unfit_parts p = simp (out_joined (slave_times p.state) (peer_times p.peer))

pub fit_is : (p : Port) → unfit p ≡ false → IsFit p
fit_is p e =
    let (t, (u, (c, (l, (o, (f, g)))))) = all_false (any_out (slave_times p.state)) (row_clauses p) (sym (unfit_parts p) ∙ e) in
    record {
      config = c;
      state = state_is p.state t l f;
      peer = record { in_limits = u; responder_known = o; not_full = g };
    }

pub fit_when : (p : Port) → IsFit p → unfit p ≡ false
fit_when p h =
    let (t, l, f) = state_when p.state h.state in
    unfit_parts p
    ∙ none_true (any_out (slave_times p.state)) (row_clauses p) (t, (h.peer.in_limits, (h.config, (l, (h.peer.responder_known, (f, h.peer.not_full))))))

-- a fresh port is as fit as its configuration
pub fresh_unfit : (c : Config) → unfit (port_of c) ≡ config_out c
unfolding unfit
fresh_unfit c = simp or-false
