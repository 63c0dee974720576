-- The delay exchange as a part of what asks for delays: the request's send stamp and its DelayResp, each for itself.
use Prim.Native.Nat.{ℕ}
use Rattle.std.specs.Prelude.{◌≡◌, Bool, true, false, ◌-ℤ◌, Option, Some, None}
use Rattle.std.proofs.Math.Path.{refl, sym, ap, subst}
use Rattle.std.proofs.Common.{◌∙◌, true≢false, eq-eqb, eqb-true}
use Rattle.std.proofs.Math.Bool.{cond}
use mathlib.Core.List.{List, [], ◌∷◌}
use Rattle.std.proofs.Math.IntN.{ℤ}
use Rattle.time.specs.declared.WireTimestamp.{WireTimestamp}
use Rattle.time.specs.Units.{time, wire, correction}
use Rattle.sent.specs.Messages.{delay_req_of}
use Rattle.fitness.specs.Fit.{there}
use Rattle.fitness.specs.FitLaws.{FitSync, FitPeer}
use Rattle.fitness.proofs.FitLaws.{fit_is}
use Rattle.record.proofs.SameLaws.{same_identity_lem}
use Rattle.record.specs.Ids.{id_after}
use Rattle.rules.specs.Names.{Time, Duration, Identity, Header, Body, Exchange, PeerState, Mechanism, Config, Ids, Port, Measurement, Context, Action}
use Rattle.rules.specs.Worked.{Worked, worked, ◌then◌, less_correction, elapsed, less_duration}
use Rattle.rules.specs.Events.{Event, stamp, delay_timer, Done, nothing, Brings}
use Rattle.rules.specs.Exchanges.{stays, becomes, delay_answered, delay_stamped}
use Rattle.rules.specs.Measuring.{settle, both, measure_delay, half_below, measured}
use Rattle.rules.specs.Rules.{sender_of, delay_resp, keeping, stamped, on_event, on_general, delay_id_taken, request, delay_timer_ends}
use Rattle.rules.specs.Table.{ours}
use Rattle.rules.specs.Step.{rule_of}
use Rattle.rules.specs.WorkedOut.{Completed, peer_opened}
use Rattle.undisturbed.specs.Runs.{requests, Item, joined}
use Rattle.undisturbed.specs.Times.{Times, times_in, times_of, received_at, request_of}
use Rattle.undisturbed.specs.Whole.{Piece, the_sync, the_follow_up, the_stamp, the_delay_resp, the_p_delay_resp, the_p_delay_resp_follow_up, InAnyOrder, delay_pieces, FromMaster, OfDelay, a_delay_stamp, a_delay_resp, asked, RequestAnswers, RequestExchanges}
use Rattle.undisturbed.specs.Undisturbed.{is_open}
use Rattle.rules.specs.AllLaws.{Comes, Anything, Silent}
use Rattle.rules.proofs.AllLaws.{all_map, all_then, all_less_correction, all_between, all_less}
use Rattle.rules.proofs.AgreeLaws.{then_then}
use Rattle.rules.proofs.MeasureLaws.{delay_judged}
use Rattle.rules.proofs.SettleLaws.{settle_delay, not_both}
use Rattle.rules.proofs.StoringLaws.{sync_open}
use Rattle.rules.specs.RefusalLaws.{NotTaken}
use Rattle.rules.proofs.RefusalLaws.{not_taken}
use Rattle.rules.proofs.TakenLaws.{brought_time}
use Rattle.rules.proofs.RunLaws.{less_worth}
use Rattle.undisturbed.specs.SideLaws.{Goes}
use Rattle.undisturbed.specs.StandingLaws.{Asking, Shared, slave_with, FitAsking, three_steps, three_steps_lem, three_come}
use Rattle.undisturbed.specs.TimesLaws.{overlap, finished, Bag, empty_bag, with_receive, HoldsAll, FillsAll}
use Rattle.undisturbed.proofs.TimesLaws.{lacks_receive, one_missing, BothThere, both_there}
use Rattle.undisturbed.proofs.ReadLaws.{brought_rule_is, brought_times}
use Rattle.undisturbed.specs.LaneLaws.{Rest}
use Rattle.undisturbed.proofs.LaneLaws.{Stores, Completes, rest_goes}
use Rattle.undisturbed.specs.OrderLaws.{Shape, shape_of, no_shape, two_there, OfAny}
use Rattle.undisturbed.proofs.OrderLaws.{delay_finished, as_rest}
use Rattle.undisturbed.proofs.RequestSideLaws.{asks, AskingExchange, AskingGoes, asking_gate, stamp_stores, request_part_lem, nothing_yet}

-- a peer exchange that is not open is open with no id
pub none_open : {A : Type 0} (q : PeerState) (j : ℕ) → is_open q ≡ false → peer_opened j q ≡ true → A
none_open PeerState.Empty j e f = absurd (true≢false (sym f))
none_open (PeerState.Measuring id o a b c d) j e f = absurd (true≢false e)
none_open (PeerState.Measured id o) j e f = absurd (true≢false (sym f))

module _ (c : Config) (master : Identity) (room : ℕ) (end_to_end : c.mechanism ≡ Mechanism.EndToEnd) where
  -- the side while a delay exchange is open, and when it is not; the peer exchange is not open
  module _ (q : PeerState) (ids : Ids) where
    abbrev delay_side : Exchange → Asking
    delay_side d = record { delay = d; peer = q; ids = ids }

    abbrev holding_delay : ℕ → Bag → Asking
    holding_delay id v = delay_side (Exchange.Measuring id v.send v.receive)

    module _ (id : ℕ) where
      abbrev DelayStores : Event → Bag → Type 0
      DelayStores e v = Stores c master room requests (asks c master room) (FitAsking c master) FitSync id_after (holding_delay id) e v

      module _ (es : List Event) (v : Bag) (held : HoldsAll (times_of c es) v) where
        stamped_stores : (t : Time) → overlap (times_of c es) (times_in c (stamp t (Context.DelayReq id))) ≡ false → DelayStores (stamp t (Context.DelayReq id)) v
        unfolding rule_of stamped delay_stamped times_in
        stamped_stores t missing =
            stamp_stores c master room (holding_delay id) es v held (stamp t (Context.DelayReq id)) t refl missing (λ no_send x z i.
            keeping (asks c master room (holding_delay id v) x z) (λ d. asks c master room (delay_side d) x z) (cond (eq-eqb id id refl i) (cond (there (no_send i)) stays (becomes (Exchange.Measuring id (Some t) v.receive))) stays))

        response_stores : (e : Event) (h : Header) (w : WireTimestamp) (requester : Identity) (u : Time) → Brings c e h (Body.DelayResp w requester) u → FromMaster master id h → requester ≡ c.identity → overlap (times_of c es) (times_in c e) ≡ false → DelayStores e v
        unfolding on_event on_general delay_resp delay_answered
        response_stores e h w requester u brought from to_us missing =
            let came : ℤ = wire w -ℤ correction h.correction in
            let brings : times_in c e ≡ received_at came = brought_times h (Body.DelayResp w requester) u c (λ at. refl) e brought in
            let no_receive : v.receive ≡ None = lacks_receive (times_of c es) (times_in c e) v held missing came (ap (λ (a : Times). a.receive) brings) in
            let new_one : Time → Exchange = λ t. Exchange.Measuring id v.send (Some t) in
            record {
              guard = ours c h;
              sum = less_correction u h;
              range = all_less_correction NotTaken not_taken.range u h;
              next_bag = with_receive v;
              rule = λ x z fx.
                  let p : Port = asks c master room (holding_delay id v) x z in
                  let store : Exchange → Port = λ d. asks c master room (delay_side d) x z in
                  let g : delay_resp p h requester u ≡ (less_correction u h then λ t. settle (store (new_one t))) = (λ i. cond ((same_identity_lem c.identity requester).1 (sym to_us) i) (cond ((same_identity_lem master h.source).1 (sym from.source) i) (cond (eq-eqb id h.id (sym from.same_id) i) (cond (there (no_receive i)) (worked stays) (less_correction u h then λ t. worked (becomes (new_one t)))) (worked stays) then λ y. keeping p store y) (nothing p)) (nothing p)) ∙ then_then (less_correction u h) (λ t. worked (becomes (new_one t))) (keeping p store) in
                  brought_rule_is h (Body.DelayResp w requester) u p _ (λ at. g) g e brought;
              fills = all_map (λ t. time t ≡ time u -ℤ correction h.correction) _ Silent (less_correction u h) (λ t worth. subst (λ (a : Times). FillsAll a v (with_receive v t)) (sym brings) (record { send = refl; receive = worth ∙ ap (λ (x : ℤ). x -ℤ correction h.correction) (brought_time h (Body.DelayResp w requester) u c e brought); request_receive = refl; response_send = refl })) (less_worth u h);
            }

    -- ---- what a full exchange measures

    module _ (z : Shared) (send receive : Time) where
      abbrev packed : Duration → Option Duration → Shared × Measurement
      packed raw delay = (z, Measurement.Delay send raw delay)

      abbrev delay_sum : Worked (Shared × Measurement)
      delay_sum =
          three_steps (elapsed send receive) (λ d. less_duration d c.asymmetry) (λ d raw. half_below z.raw raw) (λ d raw delay. packed raw delay)

      half_comes : (last : Option Duration) (raw : Duration) → Comes Anything NotTaken (half_below last raw)
      half_comes None raw = tt
      half_comes (Some last) raw =
          all_then Anything NotTaken (less_duration last raw) _ (all_less NotTaken not_taken.range last raw) (λ o e. tt)

      delay_comes : Comes Anything NotTaken delay_sum
      delay_comes =
          three_come (elapsed send receive) (λ d. less_duration d c.asymmetry) (λ d raw. half_below z.raw raw) (λ d raw delay. packed raw delay) NotTaken
          (all_between NotTaken not_taken.range send receive) (λ d. all_less NotTaken not_taken.range d c.asymmetry) (λ d raw. half_comes z.raw raw)

      delay_measures : (d x : Exchange) → measure_delay (asks c master room (delay_side d) x z) (slave_with c master x d z.raw) send receive ≡ (delay_sum then λ m. worked (measured (asks c master room (delay_side Exchange.Empty) x m.0) m.1 false))
      unfolding measure_delay
      delay_measures d x =
          sym (three_steps_lem (elapsed send receive) (λ d. less_duration d c.asymmetry) (λ d raw. half_below z.raw raw) (λ d raw delay. packed raw delay) (λ m. worked (measured (asks c master room (delay_side Exchange.Empty) x m.0) m.1 false)))

    -- ---- the laws of the delay exchange

    made_finishes : (x y : ℤ) → finished (Completed.delay x y) ≡ true
    made_finishes x y = refl

    module _ (id : ℕ) (fq : FitPeer q) (not_open : is_open q ≡ false) where
      settles : (v : Bag) (x : Exchange) (z : Shared) → FitSync x → settle (asks c master room (holding_delay id v) x z) ≡ both v.send v.receive (nothing (asks c master room (holding_delay id v) x z)) (measure_delay (asks c master room (holding_delay id v) x z) (slave_with c master x (holding_delay id v).delay z.raw))
      settles v x z fx =
          settle_delay (asks c master room (delay_side Exchange.Empty) x z) (slave_with c master x Exchange.Empty z.raw) (holding_delay id v).delay fq.not_full (sync_open x fx)

      finished_as : (a : Times) (b : Bool) → finished (request_of c.mechanism a) ≡ b → finished (request_of Mechanism.EndToEnd a) ≡ b
      finished_as a b e = subst (λ (m : Mechanism). finished (request_of m a) ≡ b) end_to_end e

      delay_lacking : (a : Times) (v : Bag) → HoldsAll a v → finished (request_of c.mechanism a) ≡ false → (x : Exchange) (z : Shared) → FitSync x → settle (asks c master room (holding_delay id v) x z) ≡ nothing (asks c master room (holding_delay id v) x z)
      delay_lacking a v h unfinished x z fx =
          settles v x z fx ∙ not_both v.send v.receive _ _ (one_missing Completed.delay made_finishes a.send a.receive v.send v.receive h.send h.receive (finished_as a false unfinished))

      abbrev DelayCompletes : Times → Bag → Shared → Type 0
      DelayCompletes a v z = Completes c master room requests (asks c master room) (FitAsking c master) FitSync id_after (holding_delay id) (delay_side Exchange.Empty) a v z

      delay_completes : (a : Times) (v : Bag) → HoldsAll a v → finished (request_of c.mechanism a) ≡ true → (z : Shared) → DelayCompletes a v z
      delay_completes a v h full z =
          let b : BothThere Completed.delay made_finishes a.send a.receive v.send v.receive = both_there Completed.delay made_finishes a.send a.receive v.send v.receive h.send h.receive (finished_as a true full) in
          let d : Exchange = (holding_delay id v).delay in
          let measure : (x : Exchange) → Time → Time → Worked Done = λ x. measure_delay (asks c master room (delay_side d) x z) (slave_with c master x d z.raw) in
          record {
            exchange = Completed.delay (time b.first) (time b.second);
            worth = ap (λ (m : Mechanism). request_of m a) end_to_end ∙ b.worth;
            measure = λ x. measure x b.first b.second;
            settled = λ x fx. settles v x z fx ∙ (λ i. both (b.first_is i) (b.second_is i) (nothing (asks c master room (delay_side d) x z)) (measure x));
            judged = λ w x. delay_judged (asks c master room (holding_delay id w) x z) (slave_with c master x (holding_delay id w).delay z.raw) d b.first b.second;
            sum = delay_sum z b.first b.second;
            range = delay_comes z b.first b.second;
            measures = λ x. delay_measures z b.first b.second d x;
          }

      closed_side : (i : ℕ) → FitAsking c master i (delay_side Exchange.Empty)
      closed_side i =
          record { delay = tt; peer = fq; only_delay = λ j o. absurd (true≢false (sym o)); only_peer = λ j o. none_open q j not_open o }

      delay_of : (es : List Event) (e : Event) (v : Bag) → OfAny (OfDelay c master id) e → HoldsAll (times_of c es) v → overlap (times_of c es) (times_in c e) ≡ false → DelayStores id e v
      delay_of es e v (p, a_delay_stamp t) held missing = stamped_stores id es v held t missing
      delay_of es e v (p, a_delay_resp f h w requester u brought from to_us) held missing = response_stores id es v held f h w requester u brought from to_us missing

      delay_exchanging : AskingExchange c master room id (OfAny (OfDelay c master id)) (holding_delay id) (delay_side Exchange.Empty)
      delay_exchanging =
          record {
            stores = delay_of;
            lacking = delay_lacking;
            completes = delay_completes;
            fits = λ v x z fit.
                record {
                  delay = (fit_is (asks c master room (holding_delay id v) x z) fit).state.1;
                  peer = fq;
                  only_delay = λ j o. (end_to_end, sym (eqb-true id j o));
                  only_peer = λ j o. none_open q j not_open o;
                };
            closed_fits = closed_side (id_after id);
          }

  -- ---- its pieces in any order

  abbrev delay_shape : Piece → Shape
  delay_shape the_sync = no_shape
  delay_shape the_follow_up = no_shape
  delay_shape the_stamp = record { send = true; receive = false; request_receive = false; response_send = false }
  delay_shape the_delay_resp = record { send = false; receive = true; request_receive = false; response_send = false }
  delay_shape the_p_delay_resp = no_shape
  delay_shape the_p_delay_resp_follow_up = no_shape

  module _ (id : ℕ) where
    delay_shape_lem : (p : Piece) (e : Event) → OfDelay c master id p e → shape_of (times_in c e) ≡ delay_shape p
    unfolding times_in
    delay_shape_lem p e (a_delay_stamp t) = refl
    delay_shape_lem p e (a_delay_resp f h w requester u brought from to_us) = ap shape_of (brought_times h (Body.DelayResp w requester) u c (λ at. refl) f brought)

    delay_rest : (draw : ℕ) (x : List (Item Event)) → InAnyOrder requests (OfDelay c master id) delay_pieces x → Rest c requests (OfAny (OfDelay c master id)) (delay_timer draw ∷ []) x
    unfolding times_of times_in
    delay_rest draw x o =
        as_rest c requests (OfDelay c master id) delay_shape two_there delay_shape_lem (λ t. ap (λ (m : Mechanism). finished (request_of m t)) end_to_end ∙ delay_finished t) 2 no_shape delay_pieces (delay_timer draw ∷ []) x refl refl o

  -- ---- one after another

  pub delay_goes : (xs : List (List (Item Event))) (q : PeerState) (ids : Ids) → FitPeer q → is_open q ≡ false → RequestExchanges c master ids.delay xs → AskingGoes c master room ids.delay [] (delay_side q ids Exchange.Empty) (joined xs)
  unfolding RequestExchanges joined Goes rule_of delay_timer_ends
  delay_goes [] q ids fq shut w = tt
  delay_goes (x ∷ xs) q ids fq shut (asked draw items answers, more) =
      let id : ℕ = ids.delay in
      let taken : Ids = delay_id_taken ids in
      let open_side : AskingExchange c master room id (OfAny (OfDelay c master id)) (holding_delay q taken id) (delay_side q taken Exchange.Empty) = delay_exchanging q taken id fq shut in
      request_part_lem c master room id draw (delay_side q ids Exchange.Empty) (holding_delay q taken id empty_bag) (delay_req_of (sender_of c) id) (Action.SendEvent (Context.DelayReq id) false)
      (closed_side q ids id fq shut id)
      (λ x z. ap (request (asks c master room (delay_side q ids Exchange.Empty) x z) draw) end_to_end)
      (λ x z fit. open_side.fits empty_bag x z fit) _
      (λ fit. rest_goes c master room requests (asks c master room) (FitAsking c master) FitSync id_after (asking_gate c master room) open_side items (joined xs) (delay_timer draw ∷ []) empty_bag (nothing_yet c master room draw) fit
      (delay_rest id draw items (subst (λ (m : Mechanism). RequestAnswers c master m id items) end_to_end answers))
      (delay_goes xs q taken fq shut more))
