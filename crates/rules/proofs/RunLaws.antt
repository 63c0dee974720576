-- Runs of events that are all Taken, over one of a port's exchanges: each event turns it into another by a time that it brings, until one is complete and what that measures is answered.
use Rattle.std.specs.Prelude.{ℕ, ◌≡◌, ℤ, ◌+ℤ◌, ◌-ℤ◌}
use Rattle.std.proofs.Common.{sym, subst}
use Rattle.time.specs.Units.{time, correction}
use Rattle.time.specs.Laws.{IsTime}
use Rattle.octets.proofs.BytesLaws.{neither}
use Rattle.record.specs.Record.{with_slave, with_sync, with_delay, with_peer}
use Rattle.fitness.specs.Fit.{full}
use Rattle.rules.specs.Names.{Time, Header, Exchange, SlaveState, PeerState, Port}
use Rattle.rules.specs.Worked.{Worked, worked, ◌then◌, less_correction, plus_correction}
use Rattle.rules.specs.Events.{Event, Done, Answered, answered, nothing}
use Rattle.rules.specs.Measuring.{complete, peer_complete, measure_sync, measure_delay, measure_peer, settle}
use Rattle.rules.specs.Step.{rule_of, step}
use Rattle.rules.specs.AllLaws.{All, Silent}
use Rattle.rules.proofs.AllLaws.{all_is, all_map, all_then, all_silent}
use Rattle.rules.proofs.SettleLaws.{settle_sync, settle_delay, settle_peer}
use Rattle.rules.specs.SumsLaws.{Open}
use Rattle.rules.proofs.SumsLaws.{fit_open}
use Rattle.rules.proofs.StoredLaws.{less_is, plus_is}
use Rattle.rules.proofs.RefusalLaws.{taken_has}
use Rattle.rules.specs.RunLaws.{Taken, AfterTwo, AfterThree, Part, Turns}

-- ---- an exchange as a part of the record, and what is measured once it is stored in a fit one

-- one of a Slave's two
abbrev slave_part : (p : Port) (put : Exchange → SlaveState) (measure : Port → SlaveState → Time → Time → Worked Done) → ((x y : Exchange) → Open (with_slave p (put x)) → settle (with_slave p (put y)) ≡ complete y (nothing (with_slave p (put y))) (measure (with_slave p (put y)) (put y))) → Part Exchange
slave_part p put measure settles =
    record {
      store = λ x. with_slave p (put x);
      measure = λ x. complete x (nothing (with_slave p (put x))) (measure (with_slave p (put x)) (put x));
      settles = λ x y fit. settles x y (fit_open (with_slave p (put x)) fit);
    }

abbrev pub sync_part : Port → SlaveState → Part Exchange
sync_part p s = slave_part p (with_sync s) measure_sync (λ x y o. settle_sync p s y o.peer (neither (full x) (full s.delay) o.slave).1)

abbrev pub delay_part : Port → SlaveState → Part Exchange
delay_part p s = slave_part p (with_delay s) measure_delay (λ x y o. settle_delay p s y o.peer (neither (full s.sync) (full x) o.slave).0)

abbrev pub peer_part : Port → Part PeerState
peer_part p =
    record {
      store = with_peer p;
      measure = λ x. peer_complete x (nothing (with_peer p x)) (measure_peer (with_peer p x));
      settles = λ x y fit. settle_peer p y (fit_open (with_peer p x) fit).slave;
    }

-- ---- an event turns an exchange into another, by a time that is worth so much: what all endings of the new one have, the answer has

-- the rule works out a sum and stores the new exchange
pub turns : {X : Type 0} (k : Part X) {x : X} {e : Event} {z : ℤ} {new : Time → X} (sum : Worked Time) → All (λ t. time t ≡ z) sum → ((P : Done → Type 0) → All P (sum then λ t. settle (k.store (new t))) → All P (rule_of (k.store x) e)) → Turns k x e z new
turns k {x} {e} {z} {new} sum worth rule =
    record {
      has = λ Q f room.
          let P : Done → Type 0 = λ d. Q (answered (k.store x) (worked d)) in
          taken_has (k.store x) room e Q (λ fit limits.
          rule P (all_then P Silent sum (λ t. settle (k.store (new t))) (all_silent sum) (λ t g.
          subst (All P) (sym (k.settles x (new t) fit)) (f t (all_is (λ u. time u ≡ z) Silent sum t g worth)))));
    }

-- such sums
pub less_worth : (t : Time) (h : Header) → All (λ u. time u ≡ time t -ℤ correction h.correction) (less_correction t h)
less_worth t h = all_map (IsTime (time t -ℤ correction h.correction)) _ Silent (less_correction t h) (λ u i. i.value) (less_is t h)

pub plus_worth : (t : Time) (h : Header) → All (λ u. time u ≡ time t +ℤ correction h.correction) (plus_correction t h)
plus_worth t h = all_map (IsTime (time t +ℤ correction h.correction)) _ Silent (plus_correction t h) (λ u i. i.value) (plus_is t h)

-- ---- runs: all exchanges but the last are open, and what the last measures has the goal

module _ {X : Type 0} (k : Part X) where
  abbrev Opened : (Time → X) → Type 0
  Opened new = (t : Time) → k.measure (new t) ≡ nothing (k.store (new t))

  -- an open exchange is left as it is
  opens : {x : X} {e : Event} {z : ℤ} {new : Time → X} → Turns k x e z new → Opened new → (G : Port → Type 0) → ((t : Time) → time t ≡ z → G (k.store (new t))) → (room : ℕ) → Taken (step (k.store x) room e) → G (step (k.store x) room e).port
  opens first open₁ G g = first.has (λ r. G r.port) (λ t w. subst (All (λ d. G d.port)) (sym (open₁ t)) (g t w))

  module _ (Goal : Answered → Type 0) where
    abbrev Ends : X → Type 0
    Ends x = All (λ d. Goal (answered (k.store x) (worked d))) (k.measure x)

    pub after_two : {x : X} {e₁ e₂ : Event} {z₁ z₂ : ℤ} {new₁ : Time → X} {new₂ : Time → Time → X} → Turns k x e₁ z₁ new₁ → ((t : Time) → Turns k (new₁ t) e₂ z₂ (new₂ t)) → Opened new₁ → ((t u : Time) → time t ≡ z₁ → time u ≡ z₂ → Ends (new₂ t u)) → AfterTwo (k.store x) e₁ e₂ Goal
    after_two {e₂ = e₂} first second open₁ end room₁ room₂ =
        opens first open₁ (λ q. Taken (step q room₂ e₂) → Goal (step q room₂ e₂)) (λ t w. (second t).has Goal (λ u v. end t u w v) room₂) room₁

    pub after_three : {x : X} {e₁ e₂ e₃ : Event} {z₁ z₂ z₃ : ℤ} {new₁ : Time → X} {new₂ : Time → Time → X} {new₃ : Time → Time → Time → X} → Turns k x e₁ z₁ new₁ → ((t : Time) → Turns k (new₁ t) e₂ z₂ (new₂ t)) → ((t u : Time) → Turns k (new₂ t u) e₃ z₃ (new₃ t u)) → Opened new₁ → ((t : Time) → Opened (new₂ t)) → ((t u v : Time) → time t ≡ z₁ → time u ≡ z₂ → time v ≡ z₃ → Ends (new₃ t u v)) → AfterThree (k.store x) e₁ e₂ e₃ Goal
    after_three {e₂ = e₂} {e₃ = e₃} first second third open₁ open₂ end =
        opens first open₁ (λ q. AfterTwo q e₂ e₃ Goal) (λ t w. after_two (second t) (third t) (open₂ t) (λ u v. end t u v w))
