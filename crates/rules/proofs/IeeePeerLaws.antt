-- IEEE 1588-2019, 11.4, over runs: after a peer delay request, its send stamp and the answers of one responder, in every order, measure <meanLinkDelay> of the fields on the wire.
use Rattle.std.specs.Prelude.{ℕ, ◌≡◌, refl, true, false, List, ℤ, ◌+ℤ◌, ◌-ℤ◌, Option, Some, None, Ok}
use Rattle.std.proofs.Common.{sym, ap, ◌∙◌, subst, arith}
use Rattle.time.specs.declared.WireTimestamp.{WireTimestamp}
use Rattle.time.specs.Units.{time, duration, wire, correction, half}
use Rattle.wire.specs.Layout as Layout
use Rattle.reading.specs.Reading.{read_of}
use Rattle.octets.proofs.BytesLaws.{apart}
use Rattle.record.specs.Record.{with_peer}
use Rattle.rules.specs.Names.{Time, Identity, Header, Body, Mechanism, PeerState, Port, Context, Received}
use Rattle.rules.specs.Worked.{worked}
use Rattle.rules.specs.Events.{Event, event, stamp, delay_timer, Answered, answered, Brings}
use Rattle.rules.specs.Measuring.{peer_out}
use Rattle.rules.specs.Exchanges.{peer_requested}
use Rattle.rules.specs.Step.{rule_of, step}
use Rattle.rules.specs.AllLaws.{All, Silent}
use Rattle.rules.proofs.RuleLaws.{all_delay_timer_ends}
use Rattle.rules.proofs.RefusalLaws.{taken_has}
use Rattle.rules.specs.LinearLaws.{num, ◌⊕◌, ◌⊖◌, equal_sums}
use Rattle.rules.specs.Ieee.{WireFields, Pdelays, mean_link_delay}
use Rattle.rules.proofs.TakenLaws.{wire-time, brought_time}
use Rattle.rules.specs.RunLaws.{Taken, BothOrders, AllOrders}
use Rattle.rules.proofs.RunLaws.{peer_part, after_two, after_three}
use Rattle.rules.specs.IeeeLaws.{wire_fields}
use Rattle.rules.proofs.PeerRunLaws.{stamp_turns, response_turns, follow_up_turns, complete_has}
use Rattle.rules.specs.IeeePeerLaws.{response, MeasuresLinkDelay, requesting}

-- ---- what is measured

-- the standard's sums in the port's order; the two places of <delayAsymmetry> cancel
two_step_link : (a : ℤ) (r f : WireFields) (t1 t4 : ℤ) → half (((t4 -ℤ correction r.correction_field) -ℤ t1) -ℤ ((wire f.timestamp +ℤ correction f.correction_field) -ℤ wire r.timestamp)) ≡ mean_link_delay a (Pdelays.two_step r f) t1 t4
unfolding mean_link_delay
two_step_link a r f t1 t4 =
    let c : ℤ = correction r.correction_field in
    let d : ℤ = correction f.correction_field in
    let x : ℤ = wire r.timestamp in
    let y : ℤ = wire f.timestamp in
    ap half (equal_sums (num t4 ⊖ num c ⊖ num t1 ⊖ (num y ⊕ num d ⊖ num x)) (num t4 ⊖ num t1 ⊖ (num y ⊖ num x) ⊖ (num c ⊕ num a) ⊖ (num d ⊖ num a)) (omega arith))

one_step_link : (a : ℤ) (r : WireFields) (t1 t4 : ℤ) → half (((t4 -ℤ correction r.correction_field) -ℤ t1) -ℤ (wire r.timestamp -ℤ wire r.timestamp)) ≡ mean_link_delay a (Pdelays.one_step r) t1 t4
unfolding mean_link_delay
one_step_link a r t1 t4 =
    let c : ℤ = correction r.correction_field in
    let x : ℤ = wire r.timestamp in
    ap half (equal_sums (num t4 ⊖ num c ⊖ num t1 ⊖ (num x ⊖ num x)) (num t4 ⊖ num t1 ⊖ (num c ⊕ num a ⊖ num a)) (omega arith))

-- a complete exchange measures it
module _ (p : Port) (id : ℕ) (responder : Identity) (m : Pdelays) (t1 t4 : ℤ) (z₂ z₃ : ℤ) (sum : half (((t4 -ℤ correction (response m).correction_field) -ℤ t1) -ℤ (z₃ -ℤ z₂)) ≡ mean_link_delay (duration p.config.asymmetry) m t1 t4) where
  ends : (i : Identity) (a b c d : Time) → i ≡ responder → time a ≡ t1 → time b ≡ z₂ → time c ≡ z₃ → time d ≡ t4 -ℤ correction (response m).correction_field → All (λ r. MeasuresLinkDelay p id responder m t1 t4 (answered p (worked r))) ((peer_part p).measure (PeerState.Measuring id (Some i) (Some a) (Some b) (Some c) (Some d)))
  ends i a b c d same ea eb ec ed =
      complete_has p id i a b c d (MeasuresLinkDelay p id responder m t1 t4) (λ delay g.
      record {
        event_time = d;
        delay = delay;
        measurement = refl;
        event_time_is = ed;
        delay_is = g ∙ (λ j. half ((ed j -ℤ ea j) -ℤ (ec j -ℤ eb j))) ∙ sum;
        port = ap (peer_out p id) same;
      })

-- ---- the orders, from the exchange that a request leaves

module _ (p : Port) (id : ℕ) (t1 t4 : Time) (message : List ℕ) (hr : Header) (wr : WireTimestamp) (requester : Identity) (tr : Time) (reads : read_of message ≡ Ok (Received.Message hr (Body.PDelayResp wr requester) tr)) (id_r : hr.id ≡ id) (ours : p.config.identity ≡ requester) where
  came : time tr ≡ wire wr
  came = wire-time hr (Body.PDelayResp wr requester) tr message reads

  abbrev none : Option Time
  none = None

  abbrev some : Time → Option Time
  some t = Some t

  abbrev nobody : Option Identity
  nobody = None

  abbrev by : Header → Option Identity
  by h = Some h.source

  abbrev OneGoal : Answered → Type 0
  OneGoal r = MeasuresLinkDelay p id hr.source (Pdelays.one_step (wire_fields hr wr)) (time t1) (time t4) r

  one_step_orders : Layout.two_step hr ≡ false → BothOrders (with_peer p (peer_requested id)) (stamp t1 (Context.PDelayReq id)) (event t4 message) OneGoal
  one_step_orders one =
      let S = stamp_turns p id t1 in
      let R = response_turns p id hr id_r requester ours false one t4 message wr tr reads in
      let end = ends p id hr.source (Pdelays.one_step (wire_fields hr wr)) (time t1) (time t4) (wire wr) (wire wr) (one_step_link (duration p.config.asymmetry) (wire_fields hr wr) (time t1) (time t4)) hr.source in
      record {
        ab = after_two (peer_part p) OneGoal (S nobody none none none) (λ t. R nobody (some t) none none tt) (λ t. refl)
            (λ t u et eu. end t tr tr u refl et came came eu);
        ba = after_two (peer_part p) OneGoal (R nobody none none none tt) (λ t. S (by hr) (some tr) (some tr) (some t)) (λ t. refl)
            (λ t u et eu. end u tr tr t refl eu came came et);
      }

  module _ (e : Event) (hf : Header) (wf : WireTimestamp) (tf : Time) (brings : Brings p.config e hf (Body.PDelayRespFollowUp wf requester) tf) (id_f : hf.id ≡ id) (one_source : hf.source ≡ hr.source) where
    abbrev TwoGoal : Answered → Type 0
    TwoGoal r = MeasuresLinkDelay p id hr.source (Pdelays.two_step (wire_fields hr wr) (wire_fields hf wf)) (time t1) (time t4) r

    left_at : (t : Time) → time t ≡ time tf +ℤ correction hf.correction → time t ≡ wire wf +ℤ correction hf.correction
    left_at t g = g ∙ ap (λ (z : ℤ). z +ℤ correction hf.correction) (brought_time hf (Body.PDelayRespFollowUp wf requester) tf p.config e brings)

    two_step_orders : Layout.two_step hr ≡ true → AllOrders (with_peer p (peer_requested id)) (stamp t1 (Context.PDelayReq id)) (event t4 message) e TwoGoal
    two_step_orders two =
        let S = stamp_turns p id t1 in
        let R = response_turns p id hr id_r requester ours true two t4 message wr tr reads in
        let F = follow_up_turns p id hf id_f requester ours e wf tf brings in
        let end = ends p id hr.source (Pdelays.two_step (wire_fields hr wr) (wire_fields hf wf)) (time t1) (time t4) (wire wr) (wire wf +ℤ correction hf.correction) (two_step_link (duration p.config.asymmetry) (wire_fields hr wr) (wire_fields hf wf) (time t1) (time t4)) in
        record {
          abc = after_three (peer_part p) TwoGoal (S nobody none none none) (λ t. R nobody (some t) none none tt) (λ t u. F (by hr) (some t) (some tr) (some u) (sym one_source)) (λ t. refl) (λ t u. refl)
              (λ t u v et eu ev. end hf.source t tr v u one_source et came (left_at v ev) eu);
          acb = after_three (peer_part p) TwoGoal (S nobody none none none) (λ t. F nobody (some t) none none tt) (λ t u. R (by hf) (some t) none (some u) one_source) (λ t. refl) (λ t u. refl)
              (λ t u v et eu ev. end hr.source t tr u v refl et came (left_at u eu) ev);
          bac = after_three (peer_part p) TwoGoal (R nobody none none none tt) (λ t. S (by hr) (some tr) none (some t)) (λ t u. F (by hr) (some u) (some tr) (some t) (sym one_source)) (λ t. refl) (λ t u. refl)
              (λ t u v et eu ev. end hf.source u tr v t one_source eu came (left_at v ev) et);
          bca = after_three (peer_part p) TwoGoal (R nobody none none none tt) (λ t. F (by hr) none (some tr) (some t) (sym one_source)) (λ t u. S (by hf) (some tr) (some u) (some t)) (λ t. refl) (λ t u. refl)
              (λ t u v et eu ev. end hf.source v tr u t one_source ev came (left_at u eu) et);
          cab = after_three (peer_part p) TwoGoal (F nobody none none none tt) (λ t. S (by hf) none (some t) none) (λ t u. R (by hf) (some u) none (some t) one_source) (λ t. refl) (λ t u. refl)
              (λ t u v et eu ev. end hr.source u tr t v refl eu came (left_at t et) ev);
          cba = after_three (peer_part p) TwoGoal (F nobody none none none tt) (λ t. R (by hf) none none (some t) one_source) (λ t u. S (by hr) (some tr) (some t) (some u)) (λ t. refl) (λ t u. refl)
              (λ t u v et eu ev. end hr.source v tr t u refl ev came (left_at t et) eu);
        }

-- ---- the request: a delay timer on a port with the peer mechanism takes the next id and opens its exchange

module _ (p : Port) (peers : p.config.mechanism ≡ Mechanism.Peer) (draw room : ℕ) (k : Taken (step p room (delay_timer draw))) where
  pub peer_requested_lem : (step p room (delay_timer draw)).port ≡ with_peer (requesting p) (peer_requested p.ids.peer)
  unfolding rule_of
  peer_requested_lem =
      let q : Port = with_peer (requesting p) (peer_requested p.ids.peer) in
      taken_has p room (delay_timer draw) (λ r. r.port ≡ q) (λ fit limits.
      all_delay_timer_ends (λ d. d.port ≡ q) Silent tt tt p draw (λ n e. absurd (apart cc)) (λ s e m ns. absurd (apart cc)) (λ m ns. refl)) k

  -- the theorems: after it, the stamp of its send and the answers of one responder, to us and with its id, each event Taken
  module _ (t1 t4 : Time) (message : List ℕ) (hr : Header) (wr : WireTimestamp) (tr : Time) (reads : read_of message ≡ Ok (Received.Message hr (Body.PDelayResp wr p.config.identity) tr)) (id_r : hr.id ≡ p.ids.peer) where
    pub one_step_link_delay : Layout.two_step hr ≡ false → BothOrders (step p room (delay_timer draw)).port (stamp t1 (Context.PDelayReq p.ids.peer)) (event t4 message) (MeasuresLinkDelay (requesting p) p.ids.peer hr.source (Pdelays.one_step (wire_fields hr wr)) (time t1) (time t4))
    one_step_link_delay one =
        subst (λ (q : Port). BothOrders q (stamp t1 (Context.PDelayReq p.ids.peer)) (event t4 message) (MeasuresLinkDelay (requesting p) p.ids.peer hr.source (Pdelays.one_step (wire_fields hr wr)) (time t1) (time t4))) (sym peer_requested_lem)
        (one_step_orders (requesting p) p.ids.peer t1 t4 message hr wr p.config.identity tr reads id_r refl one)

    pub two_step_link_delay : Layout.two_step hr ≡ true → (e : Event) (hf : Header) (wf : WireTimestamp) (tf : Time) → Brings p.config e hf (Body.PDelayRespFollowUp wf p.config.identity) tf → hf.id ≡ p.ids.peer → hf.source ≡ hr.source → AllOrders (step p room (delay_timer draw)).port (stamp t1 (Context.PDelayReq p.ids.peer)) (event t4 message) e (MeasuresLinkDelay (requesting p) p.ids.peer hr.source (Pdelays.two_step (wire_fields hr wr) (wire_fields hf wf)) (time t1) (time t4))
    two_step_link_delay two e hf wf tf brings id_f one_source =
        subst (λ (q : Port). AllOrders q (stamp t1 (Context.PDelayReq p.ids.peer)) (event t4 message) e (MeasuresLinkDelay (requesting p) p.ids.peer hr.source (Pdelays.two_step (wire_fields hr wr) (wire_fields hf wf)) (time t1) (time t4))) (sym peer_requested_lem)
        (two_step_orders (requesting p) p.ids.peer t1 t4 message hr wr p.config.identity tr reads id_r refl e hf wf tf brings id_f one_source two)
