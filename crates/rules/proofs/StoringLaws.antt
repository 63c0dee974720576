-- What an event stores in a fit record is all that can be complete (`SettleLaws`), so a property of its two endings holds: it is complete and taken out, or it stays stored.
use Rattle.std.specs.Prelude.{◌≡◌, refl, Bool, true, false, ◌||◌, ℕ, Some, None}
use Rattle.std.proofs.Common.{sym, ap, ◌∙◌, subst}
use Rattle.time.specs.Units.{half_of}
use Rattle.record.specs.Record.{is_faulty, with_sync, with_delay, with_slave, with_peer}
use Rattle.fitness.specs.Fit.{slave_full, full, peer_full}
use Rattle.fitness.specs.FitLaws.{FitSync, FitDelay, FitState}
use Rattle.rules.specs.Names.{Duration, Identity, Measurement, Exchange, SlaveState, PortState, PeerState, Port, Outcome}
use Rattle.rules.specs.Worked.{Worked}
use Rattle.rules.specs.Events.{Done, changed, nothing}
use Rattle.rules.specs.Measuring.{measure_sync, measure_delay, measure_peer, settle, measured, sync_out, delay_out, peer_out}
use Rattle.rules.proofs.SettleLaws.{settle_sync, settle_delay, settle_peer}
use Rattle.rules.specs.AllLaws.{Comes, peer_done}
use Rattle.rules.proofs.AllLaws.{all_complete, all_peer_complete}
use Rattle.rules.proofs.RuleLaws.{all_measure_sync, all_measure_delay, all_measure_peer}

-- ---- a fit exchange is not complete

pub sync_open : (x : Exchange) → FitSync x → full x ≡ false
sync_open Exchange.Empty h = refl
sync_open (Exchange.Measuring id None None) h = refl
sync_open (Exchange.Measuring id None (Some r)) h = refl
sync_open (Exchange.Measuring id (Some s) None) h = refl
sync_open (Exchange.Measuring id (Some s) (Some r)) h = absurd h

pub delay_open : (x : Exchange) → FitDelay x → full x ≡ false
delay_open Exchange.Empty h = refl
delay_open (Exchange.Measuring id None None) h = refl
delay_open (Exchange.Measuring id None (Some r)) h = refl
delay_open (Exchange.Measuring id (Some s) None) h = refl
delay_open (Exchange.Measuring id (Some s) (Some r)) h = absurd h

-- the parts of a fit Slave
pub slave_fit : (p : Port) (s : SlaveState) → FitState p.state → p.state ≡ PortState.Slave s → FitSync s.sync × FitDelay s.delay
slave_fit p s f e = subst (λ (x : PortState). FitState x) e f

pub state_open : (state : PortState) → FitState state → slave_full state ≡ false
state_open PortState.Listening f = refl
state_open PortState.Master f = refl
state_open PortState.Passive f = refl
state_open PortState.Faulty f = refl
state_open (PortState.Slave s) (f, g) =
    ap (λ (b : Bool). b || full s.delay) (sync_open s.sync f) ∙ delay_open s.delay g

-- ---- both endings

module _ (P : Done → Type 0) (R : Outcome → Type 0) (range : R Outcome.Range) (p : Port) where
  module _ (s : SlaveState) (x : Exchange) (open_peer : peer_full p.peer ≡ false) where
    pub all_settle_sync : full s.delay ≡ false → (full x ≡ false → P (changed (with_slave p (with_sync s x)) false)) → ((raw : Duration) (m : Measurement) → P (measured (sync_out p s raw) m false)) → Comes P R (settle (with_slave p (with_sync s x)))
    all_settle_sync e f g =
        let q : Port = with_slave p (with_sync s x) in
        subst (λ (w : Worked Done). Comes P R w) (sym (settle_sync p s x open_peer e))
        (all_complete P R x (nothing q) (measure_sync q (with_sync s x)) f (λ id send receive k.
        all_measure_sync P R range q (with_sync s x) send receive (λ raw offset. g raw (Measurement.Sync receive raw offset))))

    pub all_settle_delay : full s.sync ≡ false → (full x ≡ false → P (changed (with_slave p (with_delay s x)) false)) → ((m : Measurement) → P (measured (delay_out p s) m false)) → Comes P R (settle (with_slave p (with_delay s x)))
    all_settle_delay e f g =
        let q : Port = with_slave p (with_delay s x) in
        subst (λ (w : Worked Done). Comes P R w) (sym (settle_delay p s x open_peer e))
        (all_complete P R x (nothing q) (measure_delay q (with_delay s x)) f (λ id send receive k.
        all_measure_delay P R range q (with_delay s x) send receive (λ raw delay. g (Measurement.Delay send raw delay))))

  pub all_settle_peer : (x : PeerState) → FitState p.state → (peer_done x ≡ false → P (changed (with_peer p x) false)) → ((id : ℕ) (i : Identity) (m : Measurement) → peer_done x ≡ true → P (measured (peer_out p id i) m (is_faulty p.state))) → Comes P R (settle (with_peer p x))
  all_settle_peer x e f g =
      let q : Port = with_peer p x in
      subst (λ (w : Worked Done). Comes P R w) (sym (settle_peer p x (state_open p.state e)))
      (all_peer_complete P R x (nothing q) (measure_peer q) f (λ id i a b c d k.
      all_measure_peer P R range q id i a b c d (λ twice. g id i (Measurement.Peer d (half_of twice)) (ap peer_done k))))
