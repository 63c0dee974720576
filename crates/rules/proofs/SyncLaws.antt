-- Sync and FollowUp beside the numbers of `WorkedOut`: a rule refuses with 7 exactly where one leaves its range, and measures exactly what it completes.
use Rattle.std.specs.Prelude.{ℕ, ◌≡◌, refl, Bool, false, ◌&&◌, eqb, ◌+ℤ◌, ◌-ℤ◌, Some, None}
use Rattle.std.proofs.Common.{sym}
use Rattle.std.proofs.Math.Path.{subst}
use Rattle.std.proofs.Math.Bool.{cond, not}
use Rattle.std.proofs.Math.IntN.{ℤ}
use Rattle.rules.specs.Names.{Time, Header, Exchange, SlaveState, Port}
use Rattle.time.specs.Units.{time, correction}
use Rattle.wire.specs.Layout.{two_step}
use Rattle.octets.proofs.BytesLaws.{apart}
use Rattle.record.specs.Record.{with_slave, with_sync}
use Rattle.fitness.specs.Fit.{there, full, timeless, peer_full}
use Rattle.record.specs.Same.{same_identity}
use Rattle.rules.specs.Worked.{less_correction, plus_correction}
use Rattle.rules.specs.Events.{nothing}
use Rattle.rules.specs.Measuring.{complete, measure_sync}
use Rattle.rules.specs.Exchanges.{stays, becomes, received, at_once, sent_at, two_step_sync, one_step_sync, synced, followed_up}
use Rattle.rules.specs.Rules.{keeping}
use Rattle.rules.specs.Rules as Rules
use Rattle.rules.specs.WorkedOut.{Completed, unfinished, sync, opened, receive_in, send_in, held, no_sums, corrected, numbers_of, sync_sums, follow_up_sums}
use Rattle.rules.proofs.AgreeLaws.{by_test, agrees_time}
use Rattle.rules.specs.MeasureLaws.{Judged, SumsJudged}
use Rattle.rules.proofs.MeasureLaws.{sync_judged}
use Rattle.rules.proofs.SettleLaws.{settle_sync}

module _ (p : Port) (s : SlaveState) (q : peer_full p.peer ≡ false) (e : full s.delay ≡ false) where
  abbrev before : Port
  before = with_slave p s

  abbrev store : Exchange → Port
  store x = with_slave p (with_sync s x)

  -- an exchange that is stored, and measured if it is complete
  stored : (x : Exchange) (c : Completed) → Judged before c (complete x (nothing (store x)) (measure_sync (store x) (with_sync s x))) → Judged before c (keeping before store (becomes x))
  stored x c j = subst (Judged before c) (sym (settle_sync p s x q e)) j

  still : Judged before unfinished (keeping before store stays)
  still = (refl, tt)

  module _ (id : ℕ) (t : Time) where
    -- what a two-step Sync completes, by whether its id is open
    abbrev second_time : Exchange → Bool → Completed
    second_time x is_open = cond (is_open && not (there (receive_in x))) (held (send_in x) (λ send. sync send (time t))) unfinished

    two_step_lem : (x : Exchange) → timeless x ≡ false → full x ≡ false → Judged before (second_time x (opened id x)) (keeping before store (two_step_sync id t x))
    unfolding two_step_sync
    two_step_lem Exchange.Empty f g = stored (received id t) unfinished (refl, tt)
    two_step_lem (Exchange.Measuring k None None) f g = absurd (apart cc)
    two_step_lem (Exchange.Measuring k None (Some u)) f g =
        by_test (λ b x. Judged before (second_time (Exchange.Measuring k None (Some u)) b) (keeping before store x)) (eqb k id) stays (becomes (received id t))
        still
        (stored (received id t) unfinished (refl, tt))
    two_step_lem (Exchange.Measuring k (Some u) None) f g =
        by_test (λ b x. Judged before (second_time (Exchange.Measuring k (Some u) None) b) (keeping before store x)) (eqb k id) (becomes (at_once k u t)) (becomes (received id t))
        (stored (at_once k u t) (sync (time u) (time t)) (sync_judged p s (at_once k u t) u t))
        (stored (received id t) unfinished (refl, tt))
    two_step_lem (Exchange.Measuring k (Some u) (Some v)) f g = absurd (apart cc)

    -- a one-step Sync is complete by itself
    one_step : (origin : Time) (x : Exchange) → Judged before (cond (opened id x) unfinished (sync (time origin) (time t))) (keeping before store (one_step_sync id origin t x))
    unfolding one_step_sync
    one_step origin Exchange.Empty = stored (at_once id origin t) (sync (time origin) (time t)) (sync_judged p s (at_once id origin t) origin t)
    one_step origin (Exchange.Measuring k send receive) =
        by_test (λ b x. Judged before (cond b unfinished (sync (time origin) (time t))) (keeping before store x)) (eqb k id) stays (becomes (at_once id origin t))
        still
        (stored (at_once id origin t) (sync (time origin) (time t)) (sync_judged p s (at_once id origin t) origin t))

    abbrev first_time : Exchange → Bool → Completed
    first_time x is_open = cond (is_open && not (there (send_in x))) (held (receive_in x) (λ receive. sync (time t) receive)) unfinished

    follow : (x : Exchange) → timeless x ≡ false → full x ≡ false → Judged before (first_time x (opened id x)) (keeping before store (followed_up id t x))
    unfolding followed_up
    follow Exchange.Empty f g = stored (sent_at id t) unfinished (refl, tt)
    follow (Exchange.Measuring k None None) f g = absurd (apart cc)
    follow (Exchange.Measuring k (Some u) None) f g =
        by_test (λ b x. Judged before (first_time (Exchange.Measuring k (Some u) None) b) (keeping before store x)) (eqb k id) stays (becomes (sent_at id t))
        still
        (stored (sent_at id t) unfinished (refl, tt))
    follow (Exchange.Measuring k None (Some u)) f g =
        by_test (λ b x. Judged before (first_time (Exchange.Measuring k None (Some u)) b) (keeping before store x)) (eqb k id) (becomes (at_once k t u)) (becomes (sent_at id t))
        (stored (at_once k t u) (sync (time t) (time u)) (sync_judged p s (at_once k t u) t u))
        (stored (sent_at id t) unfinished (refl, tt))
    follow (Exchange.Measuring k (Some u) (Some v)) f g = absurd (apart cc)

-- ---- the rules

module _ (p : Port) (s : SlaveState) (q : peer_full p.peer ≡ false) (f : timeless s.sync ≡ false) (g : full s.sync ≡ false) (e : full s.delay ≡ false) (h : Header) where
  abbrev slave : Port
  slave = with_slave p s

  abbrev x : Exchange
  x = s.sync

  -- what a Sync received at so many units completes, by whether it is two-step
  abbrev by_step : Time → ℤ → Bool → Completed
  by_step origin z two =
      cond two (cond (opened h.id x && not (there (receive_in x))) (held (send_in x) (λ send. sync send z)) unfinished)
      (cond (opened h.id x) unfinished (sync (time origin) z))

  pub sync_sums_lem : (origin at : Time) → SumsJudged slave (sync_sums slave h (time origin) (time at -ℤ correction h.correction)) (Rules.sync slave h origin at)
  unfolding Rules.sync less_correction
  sync_sums_lem origin at =
      let z : ℤ = time at -ℤ correction h.correction in
      by_test (λ b w. SumsJudged slave (cond b (corrected z (by_step origin z (two_step h))) no_sums) w) (same_identity s.master h.source) _ _
      (agrees_time z (numbers_of slave (by_step origin z (two_step h))) _ _ (λ t i.
      subst (λ (y : ℤ). Judged slave (by_step origin y (two_step h)) (keeping slave (store p s q e) (synced h origin t x))) i.value
      (by_test (λ two c. Judged slave (by_step origin (time t) two) (keeping slave (store p s q e) c)) (two_step h) _ _
      (two_step_lem p s q e h.id t x f g)
      (one_step p s q e h.id t origin x))))
      (refl, tt)

  pub follow_up_sums_lem : (timestamp : Time) → SumsJudged slave (follow_up_sums slave h (time timestamp +ℤ correction h.correction)) (Rules.follow_up slave h timestamp)
  unfolding Rules.follow_up plus_correction
  follow_up_sums_lem timestamp =
      let z : ℤ = time timestamp +ℤ correction h.correction in
      let c : ℤ → Completed = λ y. cond (opened h.id x && not (there (send_in x))) (held (receive_in x) (λ receive. sync y receive)) unfinished in
      by_test (λ b w. SumsJudged slave (cond b (corrected z (c z)) no_sums) w) (same_identity s.master h.source) _ _
      (agrees_time z (numbers_of slave (c z)) _ _ (λ t i.
      subst (λ (y : ℤ). Judged slave (c y) (keeping slave (store p s q e) (followed_up h.id t x))) i.value
      (follow p s q e h.id t x f g)))
      (refl, tt)
