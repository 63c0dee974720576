-- What the sync exchange holds after Sync and FollowUp, and the raw offset that is kept: each rule leaves what `Held` says.
use Rattle.std.specs.Prelude.{ℕ, ◌≡◌, true, false, ◌&&◌, eqb, ◌+ℤ◌, ◌-ℤ◌, Option, Some, None, Ok, Err}
use Rattle.std.proofs.Math.Path.{refl, subst}
use Rattle.std.proofs.Common.{sym, true≢false}
use Rattle.std.proofs.Math.Bool.{Bool, cond, not}
use Rattle.std.proofs.Math.IntN.{ℤ}
use Rattle.time.specs.Units.{time, in_time, time_words, time_of, duration, in_duration, duration_words, duration_of, correction}
use Rattle.time.specs.Laws.{time_is, time_in, duration_is, duration_in}
use Rattle.octets.proofs.BytesLaws.{neither}
use Rattle.wire.specs.Layout.{two_step}
use Rattle.record.specs.Record.{with_sync, with_state, with_slave}
use Rattle.fitness.specs.Fit.{there, full, peer_full}
use Rattle.record.specs.Same.{same_identity}
use Rattle.rules.specs.Names.{Time, Duration, Header, Measurement, Exchange, SlaveState, PortState, Port, TimeError}
use Rattle.rules.specs.Worked.{Worked, ◌then◌, a_time, a_duration, less_correction, plus_correction, elapsed, less_duration}
use Rattle.rules.specs.Events.{Done, nothing}
use Rattle.rules.specs.Exchanges.{stays, becomes, received, at_once, sent_at, two_step_sync, one_step_sync, synced, followed_up}
use Rattle.rules.specs.Measuring.{less_mean, complete, measure_sync, measured, sync_out}
use Rattle.rules.specs.Rules.{keeping, follow_up}
use Rattle.rules.specs.Rules as Rules
use Rattle.rules.specs.WorkedOut.{Completed, unfinished, sync, asymmetry, raw_sync, opened, send_in, receive_in, held, no_sums, corrected, sync_sums, follow_up_sums}
use Rattle.rules.specs.Held.{send_filled, receive_filled, begun, of_id, taken_out, sync_held, follow_up_held, new_sync}
use Rattle.rules.proofs.AgreeLaws.{by_test}
use Rattle.rules.proofs.SettleLaws.{settle_sync}
use Rattle.rules.specs.SumsLaws.{Open}
use Rattle.rules.specs.AllLaws.{All, Silent}
use Rattle.rules.proofs.AllLaws.{all_then, all_silent}
use Rattle.rules.specs.HeldSyncLaws.{OnlySlave, EndsAs, completed_by}

-- ---- what is said of a rule: the peer exchange is this, and a Slave is that one

-- in its own state a Slave is the one it was
pub own_state : (state : PortState) → OnlySlave state state
own_state PortState.Listening = tt
own_state PortState.Master = tt
own_state PortState.Passive = tt
own_state PortState.Faulty = tt
own_state (PortState.Slave s) = refl

-- ---- a sum that stays in its range

module _ (P : Done → Type 0) (z : ℤ) where
  by_range : (k : Time → Worked Done) (b : Bool) → in_time z ≡ b → (time (time_words z) ≡ z → All P (k (time_words z))) → All P (a_time (cond b (Ok (time_words z)) (Err TimeError.OutOfRange)) then k)
  by_range k true e f = f (time_is z (time_words z) (time_in z e)).value
  by_range k false e f = tt

  pub all_time : (k : Time → Worked Done) → (time (time_words z) ≡ z → All P (k (time_words z))) → All P (a_time (time_of z) then k)
  unfolding time_of
  all_time k f = by_range k (in_time z) refl f

  by_room : (k : Duration → Worked Done) (b : Bool) → in_duration z ≡ b → (duration (duration_words z) ≡ z → All P (k (duration_words z))) → All P (a_duration (cond b (Ok (duration_words z)) (Err TimeError.OutOfRange)) then k)
  by_room k true e f = f (duration_is z (duration_words z) (duration_in z e)).value
  by_room k false e f = tt

  all_duration : (k : Duration → Worked Done) → (duration (duration_words z) ≡ z → All P (k (duration_words z))) → All P (a_duration (duration_of z) then k)
  unfolding duration_of
  all_duration k f = by_room k (in_duration z) refl f

-- the raw offset that a measured sync leaves
all_raw : (P : Done → Type 0) (p : Port) (s : SlaveState) (send receive : Time) → ((m : Measurement) → P (measured (sync_out p s (duration_words (raw_sync p (time send) (time receive)))) m false)) → All P (measure_sync p s send receive)
unfolding measure_sync elapsed less_duration
all_raw P p s send receive f =
    let a : ℤ = time receive -ℤ time send in
    let raw : Duration = duration_words (duration (duration_words a) -ℤ asymmetry p) in
    all_duration P a _ (λ e.
    all_duration P (duration (duration_words a) -ℤ asymmetry p) _ (λ g.
    all_then P Silent (less_mean raw p.mean) _ (all_silent (less_mean raw p.mean)) (λ offset k.
    subst (λ (y : ℤ). P (measured (sync_out p s (duration_words (y -ℤ asymmetry p))) (Measurement.Sync receive raw offset) false)) (sym e) (f (Measurement.Sync receive raw offset)))))

-- ---- the sync exchange: x before the event, y stored by it

with_receive : (k : ℕ) (t : Time) (send : Option Time) → completed_by (Exchange.Measuring k send (Some t)) ≡ held send (λ z. sync z (time t))
with_receive k t None = refl
with_receive k t (Some u) = refl

with_send : (k : ℕ) (t : Time) (receive : Option Time) → completed_by (Exchange.Measuring k (Some t) receive) ≡ held receive (λ z. sync (time t) z)
with_send k t None = refl
with_send k t (Some u) = refl

module _ (p : Port) (s : SlaveState) (q : peer_full p.peer ≡ false) (e : full s.delay ≡ false) where
  abbrev port : Exchange → Port
  port x = with_slave p (with_sync s x)

  abbrev Syncs : Exchange → Completed → Exchange → Worked Done → Type 0
  Syncs x c y w = All (EndsAs (new_sync (port x) c y)) w

  settled : (x y : Exchange) → Syncs x (completed_by y) (taken_out y) (complete y (nothing (port y)) (measure_sync (port y) (with_sync s y)))
  settled x Exchange.Empty = record { state = refl; peer = refl }
  settled x (Exchange.Measuring id None receive) = record { state = refl; peer = refl }
  settled x (Exchange.Measuring id (Some a) None) = record { state = refl; peer = refl }
  settled x (Exchange.Measuring id (Some a) (Some b)) =
      let y : Exchange = Exchange.Measuring id (Some a) (Some b) in
      all_raw (EndsAs (new_sync (port x) (sync (time a) (time b)) Exchange.Empty)) (port y) (with_sync s y) a b (λ m. record { state = refl; peer = refl })

  stored : (x y : Exchange) → Syncs x (completed_by y) (taken_out y) (keeping (port x) port (becomes y))
  stored x y = subst (Syncs x (completed_by y) (taken_out y)) (sym (settle_sync p s y q e)) (settled x y)

  still : (x : Exchange) → Syncs x unfinished x (keeping (port x) port stays)
  still x = record { state = refl; peer = refl }

  module _ (id : ℕ) (t : Time) where
    two_step_lem : (x : Exchange) → full x ≡ false → Syncs x (cond (opened id x && not (there (receive_in x))) (held (send_in x) (λ send. sync send (time t))) unfinished) (taken_out (receive_filled t (of_id id x))) (keeping (port x) port (two_step_sync id t x))
    unfolding two_step_sync
    two_step_lem Exchange.Empty f = stored Exchange.Empty (received id t)
    two_step_lem (Exchange.Measuring k send None) f =
        let x : Exchange = Exchange.Measuring k send None in
        let y : Exchange = Exchange.Measuring k send (Some t) in
        by_test (λ b c. Syncs x (cond (b && true) (held send (λ z. sync z (time t))) unfinished) (taken_out (receive_filled t (cond b x (begun id)))) (keeping (port x) port c)) (eqb k id) (becomes y) (becomes (received id t))
        (subst (λ (c : Completed). Syncs x c (taken_out y) (keeping (port x) port (becomes y))) (with_receive k t send) (stored x y))
        (stored x (received id t))
    two_step_lem (Exchange.Measuring k None (Some u)) f =
        let x : Exchange = Exchange.Measuring k None (Some u) in
        by_test (λ b c. Syncs x (cond (b && false) unfinished unfinished) (taken_out (receive_filled t (cond b x (begun id)))) (keeping (port x) port c)) (eqb k id) stays (becomes (received id t))
        (still x)
        (stored x (received id t))
    two_step_lem (Exchange.Measuring k (Some v) (Some u)) f = absurd (true≢false f)

    one_step : (origin : Time) (x : Exchange) → Syncs x (cond (opened id x) unfinished (sync (time origin) (time t))) (cond (opened id x) x Exchange.Empty) (keeping (port x) port (one_step_sync id origin t x))
    unfolding one_step_sync
    one_step origin Exchange.Empty = stored Exchange.Empty (at_once id origin t)
    one_step origin (Exchange.Measuring k send receive) =
        let x : Exchange = Exchange.Measuring k send receive in
        by_test (λ b c. Syncs x (cond b unfinished (sync (time origin) (time t))) (cond b x Exchange.Empty) (keeping (port x) port c)) (eqb k id) stays (becomes (at_once id origin t))
        (still x)
        (stored x (at_once id origin t))

    follow : (x : Exchange) → full x ≡ false → Syncs x (cond (opened id x && not (there (send_in x))) (held (receive_in x) (λ receive. sync (time t) receive)) unfinished) (taken_out (send_filled t (of_id id x))) (keeping (port x) port (followed_up id t x))
    unfolding followed_up
    follow Exchange.Empty f = stored Exchange.Empty (sent_at id t)
    follow (Exchange.Measuring k None receive) f =
        let x : Exchange = Exchange.Measuring k None receive in
        let y : Exchange = Exchange.Measuring k (Some t) receive in
        by_test (λ b c. Syncs x (cond (b && true) (held receive (λ z. sync (time t) z)) unfinished) (taken_out (send_filled t (cond b x (begun id)))) (keeping (port x) port c)) (eqb k id) (becomes y) (becomes (sent_at id t))
        (subst (λ (c : Completed). Syncs x c (taken_out y) (keeping (port x) port (becomes y))) (with_send k t receive) (stored x y))
        (stored x (sent_at id t))
    follow (Exchange.Measuring k (Some u) None) f =
        let x : Exchange = Exchange.Measuring k (Some u) None in
        by_test (λ b c. Syncs x (cond (b && false) unfinished unfinished) (taken_out (send_filled t (cond b x (begun id)))) (keeping (port x) port c)) (eqb k id) stays (becomes (sent_at id t))
        (still x)
        (stored x (sent_at id t))
    follow (Exchange.Measuring k (Some u) (Some v)) f = absurd (true≢false f)

-- ---- Sync and FollowUp

module _ (p : Port) (s : SlaveState) (q : peer_full p.peer ≡ false) (f : full s.sync ≡ false) (e : full s.delay ≡ false) (h : Header) where
  abbrev slave : Port
  slave = with_slave p s

  abbrev x : Exchange
  x = s.sync

  pub sync_holds : (origin at : Time) → All (EndsAs (new_sync slave (sync_sums slave h (time origin) (time at -ℤ correction h.correction)).completes (sync_held slave h (time_words (time at -ℤ correction h.correction))))) (Rules.sync slave h origin at)
  unfolding Rules.sync less_correction
  sync_holds origin at =
      let z : ℤ = time at -ℤ correction h.correction in
      let t : Time = time_words z in
      let c : ℤ → Bool → Completed = λ y two. cond two (cond (opened h.id x && not (there (receive_in x))) (held (send_in x) (λ send. sync send y)) unfinished) (cond (opened h.id x) unfinished (sync (time origin) y)) in
      let y : Bool → Exchange = λ two. cond two (taken_out (receive_filled t (of_id h.id x))) (cond (opened h.id x) x Exchange.Empty) in
      by_test (λ b w. All (EndsAs (new_sync slave (cond b (corrected z (c z (two_step h))) no_sums).completes (cond b (y (two_step h)) x))) w) (same_identity s.master h.source) _ _
      (all_time (EndsAs (new_sync slave (c z (two_step h)) (y (two_step h)))) z _ (λ i.
      subst (λ (u : ℤ). All (EndsAs (new_sync slave (c u (two_step h)) (y (two_step h)))) (keeping slave (port p s q e) (synced h origin t x))) i
      (by_test (λ two k. All (EndsAs (new_sync slave (c (time t) two) (y two))) (keeping slave (port p s q e) k)) (two_step h) _ _
      (two_step_lem p s q e h.id t x f)
      (one_step p s q e h.id t origin x))))
      (still p s q e x)

  pub follow_up_holds : (timestamp : Time) → All (EndsAs (new_sync slave (follow_up_sums slave h (time timestamp +ℤ correction h.correction)).completes (follow_up_held slave h (time_words (time timestamp +ℤ correction h.correction))))) (follow_up slave h timestamp)
  unfolding follow_up plus_correction
  follow_up_holds timestamp =
      let z : ℤ = time timestamp +ℤ correction h.correction in
      let t : Time = time_words z in
      let c : ℤ → Completed = λ y. cond (opened h.id x && not (there (send_in x))) (held (receive_in x) (λ receive. sync y receive)) unfinished in
      let y : Exchange = taken_out (send_filled t (of_id h.id x)) in
      by_test (λ b w. All (EndsAs (new_sync slave (cond b (corrected z (c z)) no_sums).completes (cond b y x))) w) (same_identity s.master h.source) _ _
      (all_time (EndsAs (new_sync slave (c z) y)) z _ (λ i.
      subst (λ (u : ℤ). All (EndsAs (new_sync slave (c u) y)) (keeping slave (port p s q e) (followed_up h.id t x))) i
      (follow p s q e h.id t x f)))
      (still p s q e x)

-- ---- in every state

module _ (p : Port) where
  abbrev being : PortState → Port
  being state = with_state p state

  pub sync_by : (h : Header) (origin at : Time) (state : PortState) → Open (being state) → All (EndsAs (new_sync (being state) (sync_sums (being state) h (time origin) (time at -ℤ correction h.correction)).completes (sync_held (being state) h (time_words (time at -ℤ correction h.correction))))) (Rules.sync (being state) h origin at)
  unfolding Rules.sync
  sync_by h origin at PortState.Listening o = record { state = tt; peer = refl }
  sync_by h origin at PortState.Master o = record { state = tt; peer = refl }
  sync_by h origin at PortState.Passive o = record { state = tt; peer = refl }
  sync_by h origin at PortState.Faulty o = record { state = tt; peer = refl }
  sync_by h origin at (PortState.Slave s) o =
      let (f, g) = neither (full s.sync) (full s.delay) o.slave in
      sync_holds p s o.peer f g h origin at

  pub follow_up_by : (h : Header) (t : Time) (state : PortState) → Open (being state) → All (EndsAs (new_sync (being state) (follow_up_sums (being state) h (time t +ℤ correction h.correction)).completes (follow_up_held (being state) h (time_words (time t +ℤ correction h.correction))))) (follow_up (being state) h t)
  unfolding follow_up
  follow_up_by h t PortState.Listening o = record { state = tt; peer = refl }
  follow_up_by h t PortState.Master o = record { state = tt; peer = refl }
  follow_up_by h t PortState.Passive o = record { state = tt; peer = refl }
  follow_up_by h t PortState.Faulty o = record { state = tt; peer = refl }
  follow_up_by h t (PortState.Slave s) o =
      let (f, g) = neither (full s.sync) (full s.delay) o.slave in
      follow_up_holds p s o.peer f g h t
