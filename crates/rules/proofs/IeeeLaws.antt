-- IEEE 1588-2019, 11.2, over runs from an empty sync exchange: Sync and FollowUp, whichever comes first, or a one-step Sync alone, measure <offsetFromMaster> of the fields on the wire.
use Rattle.std.specs.Prelude.{ℕ, ◌≡◌, refl, true, false, List, ℤ, pos, ◌+ℤ◌, ◌-ℤ◌, Option, Some, None, Ok}
use Rattle.std.proofs.Common.{sym, ◌∙◌, arith, eq-eqb}
use Rattle.std.proofs.Math.Path.{ap, subst}
use Rattle.std.proofs.Math.Bool.{cond}
use Rattle.time.specs.declared.WireTimestamp.{WireTimestamp}
use Rattle.time.specs.Units.{time, duration, wire, correction}
use Rattle.wire.specs.Layout as Layout
use Rattle.reading.specs.Reading.{read_of}
use Rattle.record.specs.Record.{with_slave, with_sync}
use Rattle.record.proofs.SameLaws.{same_identity_lem}
use Rattle.rules.specs.Names.{Time, Duration, Header, Body, Exchange, SlaveState, PortState, Port, Outcome, Received}
use Rattle.rules.specs.Worked.{worked, ◌then◌, less_correction, plus_correction}
use Rattle.rules.specs.Events.{Event, event, Done, Answered, answered, nothing, Brings}
use Rattle.rules.specs.Exchanges.{becomes, received, sent_at, at_once, synced, two_step_sync, one_step_sync, followed_up}
use Rattle.rules.specs.Rules.{sync, follow_up, keeping, on_event, on_general}
use Rattle.rules.specs.Step.{step}
use Rattle.rules.specs.WorkedOut.{Completed, numbers_of}
use Rattle.rules.specs.Formulas.{GivenBy}
use Rattle.rules.proofs.AgreeLaws.{agrees_all}
use Rattle.rules.specs.AllLaws.{All}
use Rattle.rules.proofs.MeasureLaws.{sync_agrees}
use Rattle.rules.specs.LinearLaws.{num, ◌⊕◌, ◌⊖◌, over_zero, under_zero, equal_sums}
use Rattle.rules.specs.Ieee.{Syncs, origin_timestamp, sync_message, follow_up_correction, offset_from_master}
use Rattle.rules.proofs.TakenLaws.{event_rule, brought_rule, wire-time, brought_time}
use Rattle.rules.specs.RunLaws.{BothOrders, Turns}
use Rattle.rules.proofs.RunLaws.{turns, sync_part, less_worth, plus_worth, after_two}
use Rattle.rules.specs.IeeeLaws.{IsWorth, MeasuresOffset, wire_fields}

-- ---- what is measured: the raw offset is <offsetFromMaster> with no mean delay, and the offset that with the one that is stored

-- what is given by a formula over another duration, where that is there and where it is not
pub given_worth : (stored d : Option Duration) (f : ℤ → ℤ) (m : Duration) → stored ≡ Some m → GivenBy stored f d → IsWorth d (f (duration m))
given_worth stored None f m e g = subst (λ (x : Option Duration). GivenBy x f None) e g
given_worth stored (Some d) f m e g = subst (λ (x : Option Duration). GivenBy x f (Some d)) e g

not_given : (stored d : Option Duration) (f : ℤ → ℤ) → stored ≡ None → GivenBy stored f d → d ≡ None
not_given stored None f e g = refl
not_given stored (Some d) f e g = absurd (subst (λ (x : Option Duration). GivenBy x f (Some d)) e g)

-- the standard's sum in the port's order: each time corrected by its own message
offset_of : (a : ℤ) (m : Syncs) (t2 mean : ℤ) → ((t2 -ℤ correction (sync_message m).correction_field) -ℤ (origin_timestamp m +ℤ follow_up_correction m)) -ℤ a -ℤ mean ≡ offset_from_master a m t2 mean
unfolding offset_from_master
offset_of a m t2 mean =
    let c : ℤ = correction (sync_message m).correction_field in
    let o : ℤ = origin_timestamp m in
    let f : ℤ = follow_up_correction m in
    equal_sums (num t2 ⊖ num c ⊖ (num o ⊕ num f) ⊖ num a ⊖ num mean) (num t2 ⊖ num o ⊖ num mean ⊖ (num c ⊕ num a) ⊖ num f) (omega arith)

plus_zero : (z : ℤ) → z ≡ z +ℤ pos 0
unfolding over_zero under_zero
plus_zero z = equal_sums (num z) (num z ⊕ num (pos 0)) (omega arith)

less_zero : (z : ℤ) → z ≡ z -ℤ pos 0
unfolding over_zero under_zero
less_zero z = equal_sums (num z) (num z ⊖ num (pos 0)) (omega arith)

-- a complete exchange measures it
module _ (p : Port) (s : SlaveState) (id : ℕ) (send receive : Time) (m : Syncs) (t2 : ℤ) (sends : time send ≡ origin_timestamp m +ℤ follow_up_correction m) (receives : time receive ≡ t2 -ℤ correction (sync_message m).correction_field) where
  measures : All (λ d. MeasuresOffset p s (answered p (worked d)) m t2) ((sync_part p s).measure (at_once id send receive))
  measures =
      let a : ℤ = duration p.config.asymmetry in
      let z : ℤ = (time receive -ℤ time send) -ℤ a in
      let sum : (mean : ℤ) → z -ℤ mean ≡ offset_from_master a m t2 mean = λ mean. (λ i. ((receives i -ℤ sends i) -ℤ a) -ℤ mean) ∙ offset_of a m t2 mean in
      let S : Done → Type 0 = λ d. MeasuresOffset p s (answered p (worked d)) m t2 in
      agrees_all (numbers_of (with_slave p s) (Completed.sync (time send) (time receive))) S ((sync_part p s).measure (at_once id send receive)) (sync_agrees p s (at_once id send receive) send receive S (λ raw offset raw_is given.
      record {
        event_time = receive;
        raw = raw;
        offset = offset;
        measurement = refl;
        event_time_is = receives;
        raw_is = raw_is ∙ less_zero z ∙ sum (pos 0);
        offset_is = λ mean e. subst (IsWorth offset) (sum (duration mean)) (given_worth p.mean offset (λ y. z -ℤ y) mean e given);
        no_offset = λ e. not_given p.mean offset (λ y. z -ℤ y) e given;
        port = refl;
      }))

-- ---- the events, from the master

module _ (p : Port) (s : SlaveState) (h : Header) (t : Time) (from : s.master ≡ h.source) (x : Exchange) (new : Time → Exchange) where
  abbrev port_with_sync : Exchange → Port
  port_with_sync y = with_slave p (with_sync s y)

  sync_turns : (at : Time) (message : List ℕ) (w : WireTimestamp) → read_of message ≡ Ok (Received.Message h (Body.Sync w) t) → ((u : Time) → synced h t u x ≡ becomes (new u)) → Turns (sync_part p s) x (event at message) (time at -ℤ correction h.correction) new
  unfolding on_event sync
  sync_turns at message w reads made =
      turns (sync_part p s) (less_correction at h) (less_worth at h) (λ P k.
      event_rule h (Body.Sync w) t P (port_with_sync x) at message reads
      (subst (All P) (sym (λ i. cond ((same_identity_lem s.master h.source).1 from i) (less_correction at h then λ u. keeping (port_with_sync x) port_with_sync (made u i)) (nothing (port_with_sync x)))) k))

  follow_up_turns : (e : Event) (w : WireTimestamp) → Brings p.config e h (Body.FollowUp w) t → ((u : Time) → followed_up h.id u x ≡ becomes (new u)) → Turns (sync_part p s) x e (time t +ℤ correction h.correction) new
  unfolding on_event on_general follow_up
  follow_up_turns e w brings made =
      let g : follow_up (port_with_sync x) h t ≡ (plus_correction t h then λ u. keeping (port_with_sync x) port_with_sync (becomes (new u))) = λ i. cond ((same_identity_lem s.master h.source).1 from i) (plus_correction t h then λ u. keeping (port_with_sync x) port_with_sync (made u i)) (nothing (port_with_sync x)) in
      turns (sync_part p s) (plus_correction t h) (plus_worth t h) (λ P. brought_rule h (Body.FollowUp w) t P (port_with_sync x) _ (λ at. g) g e brings)

-- ---- the theorems: a Slave whose sync exchange is empty. All events are answered Taken, which says too that the record is fit

module _ (p : Port) (s : SlaveState) (slave : p.state ≡ PortState.Slave s) (idle : s.sync ≡ Exchange.Empty) (t2 : Time) (message : List ℕ) (hs : Header) (ws : WireTimestamp) (ts : Time) (reads : read_of message ≡ Ok (Received.Message hs (Body.Sync ws) ts)) (from : s.master ≡ hs.source) where
  empty : with_slave p (with_sync s Exchange.Empty) ≡ p
  empty =
      let g : PortState.Slave (with_sync s Exchange.Empty) ≡ p.state = sym (slave ∙ ap (λ (x : Exchange). PortState.Slave (with_sync s x)) idle) in
      λ i. record { config = p.config; state = g i; peer = p.peer; mean = p.mean; ids = p.ids }

  -- a one-step Sync
  pub one_step_offset : Layout.two_step hs ≡ false → (room : ℕ) → (step p room (event t2 message)).outcome ≡ Outcome.Taken → MeasuresOffset p s (step p room (event t2 message)) (Syncs.one_step (wire_fields hs ws)) (time t2)
  unfolding one_step_sync
  one_step_offset one room =
      let m : Syncs = Syncs.one_step (wire_fields hs ws) in
      subst (λ (q : Port). (step q room (event t2 message)).outcome ≡ Outcome.Taken → MeasuresOffset p s (step q room (event t2 message)) m (time t2)) empty
      ((sync_turns p s hs ts from Exchange.Empty (at_once hs.id ts) t2 message ws reads (λ u i. cond (one i) (two_step_sync hs.id u Exchange.Empty) (becomes (at_once hs.id ts u)))).has
      (λ r. MeasuresOffset p s r m (time t2)) (λ u worth. measures p s hs.id ts u m (time t2) (wire-time hs (Body.Sync ws) ts message reads ∙ plus_zero (wire ws)) worth) room)

  -- a two-step Sync and its FollowUp, which comes by either entry
  module _ (two : Layout.two_step hs ≡ true) (e : Event) (hf : Header) (wf : WireTimestamp) (tf : Time) (brings : Brings p.config e hf (Body.FollowUp wf) tf) (from_f : s.master ≡ hf.source) (same_id : hf.id ≡ hs.id) (room₁ room₂ : ℕ) where
    abbrev Goal : Answered → Type 0
    Goal r = MeasuresOffset p s r (Syncs.two_step (wire_fields hs ws) (wire_fields hf wf)) (time t2)

    both_orders : BothOrders p (event t2 message) e Goal
    unfolding two_step_sync followed_up
    both_orders =
        let S : (x : Exchange) (new : Time → Exchange) → ((u : Time) → two_step_sync hs.id u x ≡ becomes (new u)) → Turns (sync_part p s) x (event t2 message) (time t2 -ℤ correction hs.correction) new = λ x new made. sync_turns p s hs ts from x new t2 message ws reads (λ u i. cond (two i) (made u i) (one_step_sync hs.id ts u x)) in
        let F : (x : Exchange) (new : Time → Exchange) → ((u : Time) → followed_up hf.id u x ≡ becomes (new u)) → Turns (sync_part p s) x e (time tf +ℤ correction hf.correction) new = λ x new made. follow_up_turns p s hf tf from_f x new e wf brings made in
        let end : (id : ℕ) (u v : Time) → time u ≡ time tf +ℤ correction hf.correction → time v ≡ time t2 -ℤ correction hs.correction → All (λ d. Goal (answered p (worked d))) ((sync_part p s).measure (at_once id u v)) = λ id u v eu ev. measures p s id u v (Syncs.two_step (wire_fields hs ws) (wire_fields hf wf)) (time t2) (eu ∙ ap (λ (z : ℤ). z +ℤ correction hf.correction) (brought_time hf (Body.FollowUp wf) tf p.config e brings)) ev in
        subst (λ (q : Port). BothOrders q (event t2 message) e Goal) empty
        record {
          ab = after_two (sync_part p s) Goal (S Exchange.Empty (received hs.id) (λ t. refl))
              (λ t. F (received hs.id t) (λ u. at_once hs.id u t) (λ u i. cond (eq-eqb hs.id hf.id (sym same_id) i) (becomes (at_once hs.id u t)) (becomes (sent_at hf.id u))))
              (λ t. refl) (λ t u et eu. end hs.id u t eu et);
          ba = after_two (sync_part p s) Goal (F Exchange.Empty (sent_at hf.id) (λ t. refl))
              (λ t. S (sent_at hf.id t) (at_once hf.id t) (λ u i. cond (eq-eqb hf.id hs.id same_id i) (becomes (at_once hf.id t u)) (becomes (received hs.id u))))
              (λ t. refl) (λ t u et eu. end hf.id t u et eu);
        }

    pub two_step_offset : (step p room₁ (event t2 message)).outcome ≡ Outcome.Taken → (step (step p room₁ (event t2 message)).port room₂ e).outcome ≡ Outcome.Taken → MeasuresOffset p s (step (step p room₁ (event t2 message)).port room₂ e) (Syncs.two_step (wire_fields hs ws) (wire_fields hf wf)) (time t2)
    two_step_offset = both_orders.ab room₁ room₂

    -- the FollowUp first
    pub two_step_offset_reversed : (step p room₁ e).outcome ≡ Outcome.Taken → (step (step p room₁ e).port room₂ (event t2 message)).outcome ≡ Outcome.Taken → MeasuresOffset p s (step (step p room₁ e).port room₂ (event t2 message)) (Syncs.two_step (wire_fields hs ws) (wire_fields hf wf)) (time t2)
    two_step_offset_reversed = both_orders.ba room₁ room₂
