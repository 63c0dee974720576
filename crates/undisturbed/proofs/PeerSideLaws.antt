-- The peer exchange as a part of what asks for delays: the request's send stamp, its PDelayResp and the follow-up of a two-step one, each for itself.
use Prim.Native.Nat.{ℕ}
use Rattle.std.specs.Prelude.{◌≡◌, Bool, true, false, ◌||◌, not, ◌+ℤ◌, ◌-ℤ◌, Option, Some, None, Ok}
use Rattle.std.proofs.Math.Path.{refl, sym, ap, subst}
use Rattle.std.proofs.Common.{◌∙◌, true≢false, eq-eqb, eqb-true}
use Rattle.std.proofs.Math.Bool.{cond}
use mathlib.Core.List.{List, [], ◌∷◌}
use Rattle.std.proofs.Math.IntN.{ℤ}
use Rattle.time.specs.declared.WireTimestamp.{WireTimestamp}
use Rattle.time.specs.Units.{time, wire, correction, half_of}
use Rattle.wire.specs.Layout.{two_step}
use Rattle.sent.specs.Messages.{p_delay_req_of}
use Rattle.fitness.specs.Fit.{there}
use Rattle.fitness.specs.FitLaws.{FitSync, FitPeer}
use Rattle.fitness.proofs.FitLaws.{fit_is}
use Rattle.record.specs.Ids.{id_after}
use Rattle.record.specs.Record.{with_peer}
use Rattle.rules.specs.Names.{Time, Duration, Identity, Header, Body, Exchange, PortState, PeerState, Mechanism, Config, Ids, Port, Outcome, Measurement, Context, Action, Received}
use Rattle.rules.specs.Worked.{Worked, worked, refused, ◌then◌, less_correction, plus_correction, elapsed, less_duration}
use Rattle.rules.specs.Events.{Event, event, stamp, delay_timer, Done, nothing, reading, Brings}
use Rattle.rules.specs.Exchanges.{stays, becomes, peer_stamped, responded, responded_later}
use Rattle.rules.specs.Measuring.{settle, peer_complete, both, known, measure_peer, measured}
use Rattle.rules.specs.Rules.{sender_of, p_delay_resp, p_delay_resp_follow_up, keeping, stamped, on_event, on_general, peer_id_taken, request, delay_timer_ends}
use Rattle.rules.specs.Table.{ours}
use Rattle.rules.specs.Step.{rule_of}
use Rattle.rules.specs.WorkedOut.{Completed}
use Rattle.undisturbed.specs.Runs.{requests, Item, joined}
use Rattle.undisturbed.specs.Times.{Times, times_in, times_of, responded_at, response_times, request_of}
use Rattle.undisturbed.specs.Whole.{Piece, the_sync, the_follow_up, the_stamp, the_delay_resp, the_p_delay_resp, the_p_delay_resp_follow_up, InAnyOrder, peer_pieces, FromResponder, OfPeer, a_peer_stamp, a_p_delay_resp, a_p_delay_resp_follow_up, PeerAnswers, asked, RequestAnswers, RequestExchanges}
use Rattle.undisturbed.specs.Undisturbed.{is_open}
use Rattle.rules.specs.AllLaws.{Comes, Anything, Silent}
use Rattle.rules.proofs.AllLaws.{all_map, all_less_correction, all_plus_correction, all_between, all_less}
use Rattle.rules.proofs.MeasureLaws.{peer_judged}
use Rattle.rules.proofs.SettleLaws.{settle_peer, peer_not_complete}
use Rattle.rules.proofs.StoringLaws.{state_open}
use Rattle.rules.specs.RefusalLaws.{NotTaken}
use Rattle.rules.proofs.RefusalLaws.{not_taken}
use Rattle.rules.proofs.TakenLaws.{wire-time, brought_time}
use Rattle.rules.proofs.RunLaws.{less_worth, plus_worth}
use Rattle.rules.specs.PeerRunLaws.{OnlyBy}
use Rattle.rules.proofs.PeerRunLaws.{answer_is}
use Rattle.undisturbed.specs.SideLaws.{Goes}
use Rattle.undisturbed.specs.StandingLaws.{Asking, Shared, slave_with, FitAsking, three_steps, three_steps_lem, three_come}
use Rattle.undisturbed.specs.TimesLaws.{overlap, finished, Bag, empty_bag, with_send, with_response_send, HoldsAll, FillsAll, FourThere}
use Rattle.undisturbed.proofs.TimesLaws.{lacks_receive, lacks_response_send, one_of_four_missing, four_there_lem}
use Rattle.undisturbed.proofs.ReadLaws.{event_rule_is, brought_rule_is, event_times_lem, brought_times}
use Rattle.undisturbed.specs.LaneLaws.{Rest}
use Rattle.undisturbed.proofs.LaneLaws.{Stores, Completes, rest_goes}
use Rattle.undisturbed.specs.OrderLaws.{Shape, shape_of, no_shape, four_there, OfAny}
use Rattle.undisturbed.proofs.OrderLaws.{peer_finished, every_order, as_rest}
use Rattle.undisturbed.proofs.RequestSideLaws.{asks, AskingExchange, AskingGoes, asking_gate, stamp_stores, request_part_lem, nothing_yet}
use Rattle.undisturbed.proofs.DelaySideLaws.{none_open}
use Rattle.undisturbed.specs.PeerSideLaws.{heard_of, known_by}

-- ---- the responder is known as soon as a time came from him

known_only : (source i : Identity) → i ≡ source → (b : Bool) → OnlyBy source (cond b (Some i) None)
known_only source i e true = e
known_only source i e false = tt

known_later : (i : Identity) (rr r : Option Time) (t : Time) → Some i ≡ known_by i (record { send = None; receive = r; request_receive = rr; response_send = Some t })
known_later i None r t = refl
known_later i (Some u) r t = refl

module _ (c : Config) (master : Identity) (room : ℕ) (peer_to_peer : c.mechanism ≡ Mechanism.Peer) where
  module _ (ids : Ids) where
    abbrev peer_side : PeerState → Asking
    peer_side q = record { delay = Exchange.Empty; peer = q; ids = ids }

    abbrev peer_with : ℕ → Identity → Bag → PeerState
    peer_with id i v = PeerState.Measuring id (known_by i v) v.send v.request_receive v.response_send v.receive

    abbrev holding_peer : ℕ → Identity → Bag → Asking
    holding_peer id i v = peer_side (peer_with id i v)

    module _ (id : ℕ) (i : Identity) where
      abbrev PeerStores : Event → Bag → Type 0
      PeerStores e v = Stores c master room requests (asks c master room) (FitAsking c master) FitSync id_after (holding_peer id i) e v

      module _ (es : List Event) (v : Bag) (held : HoldsAll (times_of c es) v) where
        stamped_stores : (t : Time) → overlap (times_of c es) (times_in c (stamp t (Context.PDelayReq id))) ≡ false → PeerStores (stamp t (Context.PDelayReq id)) v
        unfolding rule_of stamped peer_stamped times_in
        stamped_stores t missing =
            stamp_stores c master room (holding_peer id i) es v held (stamp t (Context.PDelayReq id)) t refl missing (λ no_send x z j.
            keeping (asks c master room (holding_peer id i v) x z) (λ q. asks c master room (peer_side q) x z) (cond (eq-eqb id id refl j) (cond (there (no_send j)) stays (becomes (peer_with id i (with_send v t)))) stays))

        -- a response brings two times, and one-step a third
        abbrev with_response : Bool → Time → Time → Bag
        with_response two body t =
            record { send = v.send; receive = Some t; request_receive = Some body; response_send = cond two v.response_send (Some body) }

        response_fills : (two : Bool) (body : Time) (z came : ℤ) (t : Time) → time body ≡ z → time t ≡ came → FillsAll (response_times two z came) v (with_response two body t)
        response_fills true body z came t e f = record { send = refl; receive = f; request_receive = e; response_send = refl }
        response_fills false body z came t e f = record { send = refl; receive = f; request_receive = e; response_send = e }

        response_stores : (two : Bool) (at : Time) (message : List ℕ) (h : Header) (w : WireTimestamp) (requester : Identity) (u : Time) → reading c message ≡ Ok (Received.Message h (Body.PDelayResp w requester) u) → FromResponder c.identity i id h requester → two_step h ≡ two → overlap (times_of c es) (times_in c (event at message)) ≡ false → PeerStores (event at message) v
        unfolding on_event p_delay_resp responded
        response_stores two at message h w requester u reads from steps missing =
            let came : ℤ = time at -ℤ correction h.correction in
            let brings : times_in c (event at message) ≡ response_times two (wire w) came = event_times_lem h (Body.PDelayResp w requester) u c at message reads ∙ (λ j. response_times (steps j) (wire w) came) in
            let no_receive : v.receive ≡ None = lacks_receive (times_of c es) (times_in c (event at message)) v held missing came (ap (λ (a : Times). a.receive) brings) in
            let sum : Worked Time = less_correction at h in
            let made : Time → PeerState = λ t. peer_with id i (with_response two u t) in
            record {
              guard = ours c h;
              sum = sum;
              range = all_less_correction NotTaken not_taken.range at h;
              next_bag = with_response two u;
              rule = λ x z fx.
                  let p : Port = asks c master room (holding_peer id i v) x z in
                  event_rule_is h (Body.PDelayResp w requester) u p at message reads
                  ∙ ap (λ (y : Worked Done). cond (ours c h) y (refused Outcome.Foreign))
                  (answer_is p id h from.same_id requester (sym from.to_us) (known_by i v) v.send v.request_receive v.response_send v.receive (known_only h.source i (sym from.source) (heard_of v)) _ sum made
                  (λ j. cond (eq-eqb id h.id (sym from.same_id) j) (cond (there (no_receive j)) (worked stays) (sum then λ t. worked (becomes (PeerState.Measuring id (Some (from.source j)) v.send (Some u) (cond (steps j) v.response_send (Some u)) (Some t))))) (worked stays)));
              fills = all_map (λ t. time t ≡ came) _ Silent sum (λ t worth. subst (λ (a : Times). FillsAll a v (with_response two u t)) (sym brings) (response_fills two u (wire w) came t (wire-time h (Body.PDelayResp w requester) u message reads) worth)) (less_worth at h);
            }

        follow_up_stores : (e : Event) (h : Header) (w : WireTimestamp) (requester : Identity) (u : Time) → Brings c e h (Body.PDelayRespFollowUp w requester) u → FromResponder c.identity i id h requester → overlap (times_of c es) (times_in c e) ≡ false → PeerStores e v
        unfolding on_event on_general p_delay_resp_follow_up responded_later
        follow_up_stores e h w requester u brought from missing =
            let left : ℤ = wire w +ℤ correction h.correction in
            let brings : times_in c e ≡ responded_at left = brought_times h (Body.PDelayRespFollowUp w requester) u c (λ at. refl) e brought in
            let no_send : v.response_send ≡ None = lacks_response_send (times_of c es) (times_in c e) v held missing left (ap (λ (a : Times). a.response_send) brings) in
            let sum : Worked Time = plus_correction u h in
            let made : Time → PeerState = λ t. peer_with id i (with_response_send v t) in
            record {
              guard = ours c h;
              sum = sum;
              range = all_plus_correction NotTaken not_taken.range u h;
              next_bag = with_response_send v;
              rule = λ x z fx.
                  let p : Port = asks c master room (holding_peer id i v) x z in
                  let g : p_delay_resp_follow_up p h requester u ≡ (sum then λ t. settle (with_peer p (made t))) = answer_is p id h from.same_id requester (sym from.to_us) (known_by i v) v.send v.request_receive v.response_send v.receive (known_only h.source i (sym from.source) (heard_of v)) _ sum made ((λ j. cond (eq-eqb id h.id (sym from.same_id) j) (cond (there (no_send j)) (worked stays) (sum then λ t. worked (becomes (PeerState.Measuring id (Some (from.source j)) v.send v.request_receive (Some t) v.receive)))) (worked stays)) ∙ (λ j. sum then λ t. worked (becomes (PeerState.Measuring id (known_later i v.request_receive v.receive t j) v.send v.request_receive (Some t) v.receive)))) in
                  brought_rule_is h (Body.PDelayRespFollowUp w requester) u p _ (λ at. g) g e brought;
              fills = all_map (λ t. time t ≡ time u +ℤ correction h.correction) _ Silent sum (λ t worth. subst (λ (a : Times). FillsAll a v (with_response_send v t)) (sym brings) (record { send = refl; receive = refl; request_receive = refl; response_send = worth ∙ ap (λ (x : ℤ). x +ℤ correction h.correction) (brought_time h (Body.PDelayRespFollowUp w requester) u c e brought) })) (plus_worth u h);
            }

      -- ---- what a full exchange measures

      module _ (z : Shared) (t1 t2 t3 t4 : Time) where
        abbrev packed : Duration → Shared × Measurement
        packed twice = (z, Measurement.Peer t4 (half_of twice))

        abbrev peer_sum : Worked (Shared × Measurement)
        peer_sum = three_steps (elapsed t4 t1) (λ turn. elapsed t3 t2) (λ turn stay. less_duration turn stay) (λ turn stay twice. packed twice)

        peer_comes : Comes Anything NotTaken peer_sum
        peer_comes =
            three_come (elapsed t4 t1) (λ turn. elapsed t3 t2) (λ turn stay. less_duration turn stay) (λ turn stay twice. packed twice) NotTaken
            (all_between NotTaken not_taken.range t4 t1) (λ turn. all_between NotTaken not_taken.range t3 t2) (λ turn stay. all_less NotTaken not_taken.range turn stay)

        peer_measures : (q : PeerState) (x : Exchange) → measure_peer (asks c master room (peer_side q) x z) id i t1 t2 t3 t4 ≡ (peer_sum then λ m. worked (measured (asks c master room (peer_side (PeerState.Measured id i)) x m.0) m.1 false))
        unfolding measure_peer
        peer_measures q x =
            sym (three_steps_lem (elapsed t4 t1) (λ turn. elapsed t3 t2) (λ turn stay. less_duration turn stay) (λ turn stay twice. packed twice) (λ m. worked (measured (asks c master room (peer_side (PeerState.Measured id i)) x m.0) m.1 false)))

      -- ---- the laws of the peer exchange

      settles : (v : Bag) (x : Exchange) (z : Shared) → FitSync x → settle (asks c master room (holding_peer id i v) x z) ≡ peer_complete (peer_with id i v) (nothing (asks c master room (holding_peer id i v) x z)) (measure_peer (asks c master room (holding_peer id i v) x z))
      settles v x z fx =
          settle_peer (asks c master room (peer_side PeerState.Empty) x z) (peer_with id i v) (state_open (PortState.Slave (slave_with c master x Exchange.Empty z.raw)) (fx, tt))

      finished_as : (a : Times) (b : Bool) → finished (request_of c.mechanism a) ≡ b → finished (request_of Mechanism.Peer a) ≡ b
      finished_as a b e = subst (λ (m : Mechanism). finished (request_of m a) ≡ b) peer_to_peer e

      peer_lacking : (a : Times) (v : Bag) → HoldsAll a v → finished (request_of c.mechanism a) ≡ false → (x : Exchange) (z : Shared) → FitSync x → settle (asks c master room (holding_peer id i v) x z) ≡ nothing (asks c master room (holding_peer id i v) x z)
      peer_lacking a v h unfinished x z fx =
          settles v x z fx ∙ peer_not_complete (peer_with id i v) (nothing (asks c master room (holding_peer id i v) x z)) (measure_peer (asks c master room (holding_peer id i v) x z)) (one_of_four_missing a v h (finished_as a false unfinished))

      abbrev PeerCompletes : Times → Bag → Shared → Type 0
      PeerCompletes a v z = Completes c master room requests (asks c master room) (FitAsking c master) FitSync id_after (holding_peer id i) (peer_side (PeerState.Measured id i)) a v z

      -- with all four there, the responder is known
      full_peer : {A : Type 0} (a : Times) (v : Bag) (b : FourThere a v) (missing : A) (k : ℕ → Identity → Time → Time → Time → Time → A) → peer_complete (peer_with id i v) missing k ≡ k id i b.t1 b.t2 b.t3 b.t4
      full_peer a v b missing k =
          λ j. both (b.t1_is j) (b.t2_is j) missing (λ r s. both (b.t3_is j) (b.t4_is j) missing (λ t u. known (cond (there (b.t2_is j) || there (b.t3_is j) || there (b.t4_is j)) (Some i) None) missing (λ n. k id n r s t u)))

      peer_completes : (a : Times) (v : Bag) → HoldsAll a v → finished (request_of c.mechanism a) ≡ true → (z : Shared) → PeerCompletes a v z
      peer_completes a v h full z =
          let b : FourThere a v = four_there_lem a v h (finished_as a true full) in
          let q : PeerState = peer_with id i v in
          record {
            exchange = Completed.peer (time b.t1) (time b.t2) (time b.t3) (time b.t4);
            worth = ap (λ (m : Mechanism). request_of m a) peer_to_peer ∙ b.worth;
            measure = λ x. measure_peer (asks c master room (peer_side q) x z) id i b.t1 b.t2 b.t3 b.t4;
            settled = λ x fx. settles v x z fx ∙ full_peer a v b (nothing (asks c master room (peer_side q) x z)) (measure_peer (asks c master room (peer_side q) x z));
            judged = λ w x. peer_judged (asks c master room (holding_peer id i w) x z) q id i b.t1 b.t2 b.t3 b.t4 (eq-eqb id id refl);
            sum = peer_sum z b.t1 b.t2 b.t3 b.t4;
            range = peer_comes z b.t1 b.t2 b.t3 b.t4;
            measures = λ x. peer_measures z b.t1 b.t2 b.t3 b.t4 q x;
          }

      peer_of : (two : Bool) (es : List Event) (e : Event) (v : Bag) → OfAny (OfPeer c master id i two) e → HoldsAll (times_of c es) v → overlap (times_of c es) (times_in c e) ≡ false → PeerStores e v
      peer_of two es e v (p, a_peer_stamp t) held missing = stamped_stores es v held t missing
      peer_of two es e v (p, a_p_delay_resp at message h w requester u reads from steps) held missing = response_stores es v held two at message h w requester u reads from steps missing
      peer_of two es e v (p, a_p_delay_resp_follow_up f h w requester u brought from) held missing = follow_up_stores es v held f h w requester u brought from missing

      peer_exchanging : (two : Bool) → AskingExchange c master room id (OfAny (OfPeer c master id i two)) (holding_peer id i) (peer_side (PeerState.Measured id i))
      peer_exchanging two =
          record {
            stores = peer_of two;
            lacking = peer_lacking;
            completes = peer_completes;
            fits = λ v x z fit.
                record {
                  delay = tt;
                  peer = (fit_is (asks c master room (holding_peer id i v) x z) fit).peer;
                  only_delay = λ j o. absurd (true≢false (sym o));
                  only_peer = λ j o. (peer_to_peer, sym (eqb-true id j o));
                };
            closed_fits = record {
              delay = tt;
              peer = record { in_limits = refl; responder_known = refl; not_full = refl };
              only_delay = λ j o. absurd (true≢false (sym o));
              only_peer = λ j o. absurd (true≢false (sym o));
            };
          }

  -- ---- its pieces in any order

  abbrev peer_shape : Bool → Piece → Shape
  peer_shape two the_sync = no_shape
  peer_shape two the_follow_up = no_shape
  peer_shape two the_stamp = record { send = true; receive = false; request_receive = false; response_send = false }
  peer_shape two the_delay_resp = no_shape
  peer_shape two the_p_delay_resp = record { send = false; receive = true; request_receive = true; response_send = not two }
  peer_shape two the_p_delay_resp_follow_up = record { send = false; receive = false; request_receive = false; response_send = true }

  response_brings : (two : Bool) (z came : ℤ) → shape_of (response_times two z came) ≡ peer_shape two the_p_delay_resp
  response_brings true z came = refl
  response_brings false z came = refl

  module _ (id : ℕ) (i : Identity) where
    peer_shape_lem : (two : Bool) (p : Piece) (e : Event) → OfPeer c master id i two p e → shape_of (times_in c e) ≡ peer_shape two p
    unfolding times_in
    peer_shape_lem two p e (a_peer_stamp t) = refl
    peer_shape_lem two p e (a_p_delay_resp at message h w requester u reads from t) =
        ap shape_of (event_times_lem h (Body.PDelayResp w requester) u c at message reads ∙ (λ j. response_times (t j) (wire w) (time at -ℤ correction h.correction))) ∙ response_brings two (wire w) (time at -ℤ correction h.correction)
    peer_shape_lem two p e (a_p_delay_resp_follow_up f h w requester u brought from) = ap shape_of (brought_times h (Body.PDelayRespFollowUp w requester) u c (λ at. refl) f brought)

    peer_orders : (two : Bool) → every_order c requests (OfPeer c master id i two) (peer_shape two) four_there 3 no_shape (peer_pieces two) ≡ true
    peer_orders true = refl
    peer_orders false = refl

    peer_rest : (two : Bool) (draw : ℕ) (x : List (Item Event)) → InAnyOrder requests (OfPeer c master id i two) (peer_pieces two) x → Rest c requests (OfAny (OfPeer c master id i two)) (delay_timer draw ∷ []) x
    unfolding times_of times_in
    peer_rest two draw x o =
        as_rest c requests (OfPeer c master id i two) (peer_shape two) four_there (peer_shape_lem two) (λ t. ap (λ (m : Mechanism). finished (request_of m t)) peer_to_peer ∙ peer_finished t) 3 no_shape (peer_pieces two) (delay_timer draw ∷ []) x refl (peer_orders two) o

  -- ---- one after another

  pub peer_goes : (xs : List (List (Item Event))) (q : PeerState) (ids : Ids) → FitPeer q → is_open q ≡ false → RequestExchanges c master ids.peer xs → AskingGoes c master room ids.peer [] (peer_side ids q) (joined xs)
  unfolding RequestExchanges joined Goes rule_of delay_timer_ends
  peer_goes [] q ids fq shut w = tt
  peer_goes (x ∷ xs) q ids fq shut (asked draw items answers, more) =
      let id : ℕ = ids.peer in
      let taken : Ids = peer_id_taken ids in
      let rest : PeerAnswers c master id items = subst (λ (m : Mechanism). RequestAnswers c master m id items) peer_to_peer answers in
      let i : Identity = rest.responder in
      let open_side : AskingExchange c master room id (OfAny (OfPeer c master id i rest.two)) (holding_peer taken id i) (peer_side taken (PeerState.Measured id i)) = peer_exchanging taken id i rest.two in
      request_part_lem c master room id draw (peer_side ids q) (holding_peer taken id i empty_bag) (p_delay_req_of (sender_of c) id) (Action.SendEvent (Context.PDelayReq id) true)
      (record { delay = tt; peer = fq; only_delay = λ j o. absurd (true≢false (sym o)); only_peer = λ j o. none_open q j shut o })
      (λ x z. ap (request (asks c master room (peer_side ids q) x z) draw) peer_to_peer)
      (λ x z fit. open_side.fits empty_bag x z fit) _
      (λ fit. rest_goes c master room requests (asks c master room) (FitAsking c master) FitSync id_after (asking_gate c master room) open_side items (joined xs) (delay_timer draw ∷ []) empty_bag (nothing_yet c master room draw) fit
      (peer_rest id i rest.two draw items rest.events)
      (peer_goes xs (PeerState.Measured id i) taken (record { in_limits = refl; responder_known = refl; not_full = refl }) refl more))
