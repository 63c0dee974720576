-- IEEE 1588-2019, 11.3, over runs: where a Slave keeps the raw offset of a Sync, a delay request, its send stamp and its DelayResp, in either order, measure <meanPathDelay> of the fields of all these messages.
use Rattle.std.specs.Prelude.{ℕ, ◌≡◌, ℤ, pos, ◌-ℤ◌, Option, Some, None}
use Rattle.std.proofs.Math.Path.{refl, subst}
use Rattle.std.proofs.Common.{sym, ap, ◌∙◌, arith, eq-eqb}
use Rattle.std.proofs.Math.Bool.{cond}
use Rattle.time.specs.declared.WireTimestamp.{WireTimestamp}
use Rattle.time.specs.Units.{time, duration, wire, correction, half}
use Rattle.octets.proofs.BytesLaws.{apart}
use Rattle.record.specs.Record.{as_slave, with_slave, with_sync, with_delay, with_raw, with_ids}
use Rattle.record.proofs.SameLaws.{same_identity_lem, identity_self}
use Rattle.rules.specs.Names.{Time, Duration, Header, Body, Mechanism, Exchange, SlaveState, PortState, Port, Context}
use Rattle.rules.specs.Worked.{Worked, worked, ◌then◌, less_correction}
use Rattle.rules.specs.Events.{Event, stamp, delay_timer, Done, Answered, answered, nothing, Brings}
use Rattle.rules.specs.Measuring.{settle}
use Rattle.rules.specs.Exchanges.{Change, stays, becomes, at_once, requested, delay_answered, delay_stamped}
use Rattle.rules.specs.Rules.{keeping, delay_id_taken, delay_resp, stamped, on_event, on_general}
use Rattle.rules.specs.Step.{rule_of, step}
use Rattle.rules.specs.WorkedOut.{Completed, numbers_of}
use Rattle.rules.proofs.AgreeLaws.{agrees_all, then_then}
use Rattle.rules.specs.AllLaws.{All, Silent}
use Rattle.rules.proofs.RuleLaws.{all_delay_timer_ends}
use Rattle.rules.proofs.MeasureLaws.{delay_agrees}
use Rattle.rules.proofs.RefusalLaws.{taken_has}
use Rattle.rules.specs.LinearLaws.{num, ◌⊕◌, ◌⊖◌, over_zero, under_zero, equal_sums}
use Rattle.rules.specs.Ieee.{WireFields, Syncs, origin_timestamp, sync_message, follow_up_correction, offset_from_master, mean_path_delay}
use Rattle.rules.proofs.TakenLaws.{brought_rule, brought_time}
use Rattle.rules.specs.RunLaws.{Taken, BothOrders, Turns}
use Rattle.rules.proofs.RunLaws.{turns, delay_part, less_worth, after_two}
use Rattle.rules.specs.IeeeLaws.{IsWorth, MeasuresOffset, wire_fields}
use Rattle.rules.proofs.IeeeLaws.{given_worth}
use Rattle.rules.specs.IeeeDelayLaws.{MeasuresPathDelay}

-- ---- the events

module _ (p : Port) (s : SlaveState) (id : ℕ) where
  abbrev port_with_delay : Exchange → Port
  port_with_delay x = with_slave p (with_delay s x)

  -- the request's send stamp
  stamp_turns : (t3 : Time) (receive : Option Time) → Turns (delay_part p s) (Exchange.Measuring id None receive) (stamp t3 (Context.DelayReq id)) (time t3) (λ t. Exchange.Measuring id (Some t) receive)
  unfolding rule_of stamped delay_stamped
  stamp_turns t3 receive =
      let x : Exchange = Exchange.Measuring id None receive in
      turns (delay_part p s) (worked t3) refl (λ P k. subst (All P) (sym (λ i. keeping (port_with_delay x) port_with_delay (cond (eq-eqb id id refl i) (becomes (Exchange.Measuring id (Some t3) receive)) stays))) k)

  -- its DelayResp, by either entry
  response_turns : (h : Header) → h.id ≡ id → s.master ≡ h.source → (e : Event) (w : WireTimestamp) (t : Time) → Brings p.config e h (Body.DelayResp w p.config.identity) t → (send : Option Time) → Turns (delay_part p s) (Exchange.Measuring id send None) e (time t -ℤ correction h.correction) (λ u. Exchange.Measuring id send (Some u))
  unfolding on_event on_general delay_resp delay_answered
  response_turns h same_id from e w t brings send =
      let x : Exchange = Exchange.Measuring id send None in
      let new : Time → Exchange = λ u. Exchange.Measuring id send (Some u) in
      let stored : Time → Worked (Change Exchange) = λ u. worked (becomes (new u)) in
      let g : delay_resp (port_with_delay x) h p.config.identity t ≡ (less_correction t h then λ u. settle (port_with_delay (new u))) = (λ i. cond (identity_self p.config.identity i) (cond ((same_identity_lem s.master h.source).1 from i) (cond (eq-eqb id h.id (sym same_id) i) (less_correction t h then stored) (worked stays) then λ y. keeping (port_with_delay x) port_with_delay y) (nothing (port_with_delay x))) (nothing (port_with_delay x))) ∙ then_then (less_correction t h) stored (keeping (port_with_delay x) port_with_delay) in
      turns (delay_part p s) (less_correction t h) (less_worth t h) (λ P. brought_rule h (Body.DelayResp w p.config.identity) t P (port_with_delay x) _ (λ at. g) g e brings)

-- ---- what is measured

-- the standard's sum in the port's order; the two places of <delayAsymmetry> cancel
path_delay_of : (a : ℤ) (m : Syncs) (d : WireFields) (t2 t3 : ℤ) → half (offset_from_master a m t2 (pos 0) -ℤ ((t3 -ℤ (wire d.timestamp -ℤ correction d.correction_field)) -ℤ a)) ≡ mean_path_delay a m d t2 t3
unfolding offset_from_master mean_path_delay over_zero under_zero
path_delay_of a m d t2 t3 =
    let c : ℤ = correction (sync_message m).correction_field in
    let o : ℤ = origin_timestamp m in
    let f : ℤ = follow_up_correction m in
    let w : ℤ = wire d.timestamp in
    let g : ℤ = correction d.correction_field in
    ap half (equal_sums (num t2 ⊖ num o ⊖ num (pos 0) ⊖ (num c ⊕ num a) ⊖ num f ⊖ (num t3 ⊖ (num w ⊖ num g) ⊖ num a)) (num t2 ⊖ num t3 ⊕ (num w ⊖ num o) ⊖ (num c ⊕ num a) ⊖ num f ⊖ (num g ⊖ num a)) (omega arith))

-- ---- the orders, from the exchange that a request leaves, on a Slave that keeps the raw offset of these messages

module _ (p : Port) (s : SlaveState) (last : Duration) (keeps_raw : s.raw ≡ Some last) (m : Syncs) (t2 : ℤ) (raw_is : duration last ≡ offset_from_master (duration p.config.asymmetry) m t2 (pos 0)) (id : ℕ) (t3 : Time) (e : Event) (h : Header) (w : WireTimestamp) (t : Time) (brings : Brings p.config e h (Body.DelayResp w p.config.identity) t) (same_id : h.id ≡ id) (from : s.master ≡ h.source) where
  abbrev Goal : Answered → Type 0
  Goal r = MeasuresPathDelay (duration p.config.asymmetry) m (wire_fields h w) t2 (time t3) r

  -- a complete exchange measures it
  ends : (send receive : Time) → time send ≡ time t3 → time receive ≡ time t -ℤ correction h.correction → All (λ d. Goal (answered p (worked d))) ((delay_part p s).measure (at_once id send receive))
  ends send receive sent came =
      let a : ℤ = duration p.config.asymmetry in
      let S : Done → Type 0 = λ d. Goal (answered p (worked d)) in
      let came_at : time receive ≡ wire w -ℤ correction h.correction = came ∙ ap (λ (z : ℤ). z -ℤ correction h.correction) (brought_time h (Body.DelayResp w p.config.identity) t p.config e brings) in
      agrees_all (numbers_of (with_slave p s) (Completed.delay (time send) (time receive))) S ((delay_part p s).measure (at_once id send receive)) (delay_agrees p s (at_once id send receive) send receive S (λ raw delay i given.
      record {
        event_time = send;
        raw = raw;
        delay = delay;
        measurement = refl;
        event_time_is = sent;
        delay_is = subst (IsWorth delay) ((λ j. half (raw_is j -ℤ ((sent j -ℤ came_at j) -ℤ a))) ∙ path_delay_of a m (wire_fields h w) t2 (time t3)) (given_worth s.raw delay (λ y. half (y -ℤ ((time send -ℤ time receive) -ℤ a))) last keeps_raw given);
      }))

  both_orders : BothOrders (with_slave p (with_delay s (requested id))) (stamp t3 (Context.DelayReq id)) e Goal
  both_orders =
      let S = stamp_turns p s id t3 in
      let R = response_turns p s id h same_id from e w t brings in
      record {
        ab = after_two (delay_part p s) Goal (S None) (λ u. R (Some u)) (λ u. refl) (λ u v eu ev. ends u v eu ev);
        ba = after_two (delay_part p s) Goal (R None) (λ u. S (Some u)) (λ u. refl) (λ u v eu ev. ends v u ev eu);
      }

-- ---- the theorems: a delay timer on an end_to_end Slave takes the next id and opens its exchange; then these events

module _ (p : Port) (s : SlaveState) (slave : p.state ≡ PortState.Slave s) (end_to_end : p.config.mechanism ≡ Mechanism.EndToEnd) (raw : Duration) (keeps_raw : s.raw ≡ Some raw) (m : Syncs) (t2 : ℤ) (raw_is : duration raw ≡ offset_from_master (duration p.config.asymmetry) m t2 (pos 0)) (draw room : ℕ) (k : Taken (step p room (delay_timer draw))) (t3 : Time) (e : Event) (h : Header) (w : WireTimestamp) (t : Time) (brings : Brings p.config e h (Body.DelayResp w p.config.identity) t) (same_id : h.id ≡ p.ids.delay) (from : s.master ≡ h.source) where
  pub path_delay : BothOrders (step p room (delay_timer draw)).port (stamp t3 (Context.DelayReq p.ids.delay)) e (MeasuresPathDelay (duration p.config.asymmetry) m (wire_fields h w) t2 (time t3))
  unfolding rule_of
  path_delay =
      let q : Port = with_ids p (delay_id_taken p.ids) in
      let Q : Port → Type 0 = λ x. BothOrders x (stamp t3 (Context.DelayReq p.ids.delay)) e (MeasuresPathDelay (duration p.config.asymmetry) m (wire_fields h w) t2 (time t3)) in
      let asked : Q (with_slave q (with_delay s (requested p.ids.delay))) = both_orders q s raw keeps_raw m t2 raw_is p.ids.delay t3 e h w t brings same_id from in
      taken_has p room (delay_timer draw) (λ r. Q r.port) (λ fit limits.
      all_delay_timer_ends (λ d. Q d.port) Silent tt tt p draw
      (λ n f. absurd (apart cc))
      (λ r f g ns. subst (λ (x : PortState). Q (with_slave q (with_delay (as_slave x s (λ y. y)) (requested p.ids.delay)))) (sym slave ∙ f) asked)
      (λ f ns. absurd (apart cc))) k

-- after a Sync, one-step or two-step, that measured the offset of these messages (`IeeeLaws`)
module _ (p : Port) (s : SlaveState) (r : Answered) (m : Syncs) (t2 : ℤ) (synced : MeasuresOffset p s r m t2) (end_to_end : p.config.mechanism ≡ Mechanism.EndToEnd) (draw room : ℕ) (k : Taken (step r.port room (delay_timer draw))) (t3 : Time) (e : Event) (h : Header) (w : WireTimestamp) (t : Time) (brings : Brings p.config e h (Body.DelayResp w p.config.identity) t) (same_id : h.id ≡ p.ids.delay) (from : s.master ≡ h.source) where
  pub path_delay_after_sync : BothOrders (step r.port room (delay_timer draw)).port (stamp t3 (Context.DelayReq p.ids.delay)) e (MeasuresPathDelay (duration p.config.asymmetry) m (wire_fields h w) t2 (time t3))
  path_delay_after_sync =
      let kept_slave : SlaveState = with_raw (with_sync s Exchange.Empty) synced.raw in
      subst (λ (q : Port). Taken (step q room (delay_timer draw)) → BothOrders (step q room (delay_timer draw)).port (stamp t3 (Context.DelayReq p.ids.delay)) e (MeasuresPathDelay (duration p.config.asymmetry) m (wire_fields h w) t2 (time t3))) (sym synced.port)
      (λ j. path_delay (with_slave p kept_slave) kept_slave refl end_to_end synced.raw refl m t2 synced.raw_is draw room j t3 e h w t brings same_id from) k
