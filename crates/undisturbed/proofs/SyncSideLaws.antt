-- The sync exchange as a side of the record: a Sync and its FollowUp, or a one-step Sync, each for itself.
use Rattle.std.specs.Prelude.{ℕ, ◌≡◌, Bool, true, not, ◌+ℤ◌, ◌-ℤ◌, Option, Some, None, Ok}
use Rattle.std.proofs.Math.Path.{refl, sym, ap, subst}
use Rattle.std.proofs.Common.{◌∙◌, eq-eqb}
use Rattle.std.proofs.Math.Bool.{false, cond}
use mathlib.Core.List.{List, [], ◌∷◌}
use Rattle.std.proofs.Math.IntN.{ℤ}
use Rattle.time.specs.declared.WireTimestamp.{WireTimestamp}
use Rattle.time.specs.Units.{time, wire, correction}
use Rattle.wire.specs.Layout.{two_step}
use Rattle.fitness.specs.Fit.{full}
use Rattle.fitness.specs.FitLaws.{FitSync}
use Rattle.fitness.proofs.FitLaws.{fit_is}
use Rattle.record.proofs.SameLaws.{same_identity_lem}
use Rattle.rules.specs.Names.{Time, Duration, Identity, Header, Body, Exchange, Config, Port, Outcome, Measurement, Received}
use Rattle.rules.specs.Worked.{Worked, worked, refused, ◌then◌, less_correction, plus_correction, elapsed, less_duration}
use Rattle.rules.specs.Events.{Event, event, Done, nothing, reading, Brings, answered}
use Rattle.rules.specs.Exchanges.{becomes, synced, two_step_sync, one_step_sync, followed_up}
use Rattle.rules.specs.Measuring.{settle, complete, both, measure_sync, less_mean, measured}
use Rattle.rules.specs.Rules.{sync, follow_up, keeping, on_event, on_general}
use Rattle.rules.specs.Table.{ours}
use Rattle.rules.specs.Step.{rule_of, step}
use Rattle.rules.specs.WorkedOut.{Completed}
use Rattle.undisturbed.specs.Runs.{syncs, Item, joined}
use Rattle.undisturbed.specs.Times.{Times, times_in, times_of, sent_at, sync_times, sync_of}
use Rattle.undisturbed.specs.Whole.{Piece, the_sync, the_follow_up, the_stamp, the_delay_resp, the_p_delay_resp, the_p_delay_resp_follow_up, InAnyOrder, sync_pieces, OfSync, a_sync, a_follow_up, FromMaster, SyncExchanges}
use Rattle.rules.specs.AllLaws.{Comes, Anything, Silent, All}
use Rattle.rules.proofs.AllLaws.{all_map, all_then, all_less_correction, all_plus_correction, all_between, all_less}
use Rattle.rules.proofs.MeasureLaws.{sync_judged}
use Rattle.rules.proofs.SettleLaws.{settle_sync, not_both}
use Rattle.rules.proofs.StoringLaws.{delay_open}
use Rattle.rules.specs.RefusalLaws.{NotTaken}
use Rattle.rules.proofs.RefusalLaws.{not_taken}
use Rattle.rules.proofs.TakenLaws.{wire-time, brought_time}
use Rattle.rules.proofs.RunLaws.{less_worth, plus_worth}
use Rattle.undisturbed.specs.SideLaws.{Goes}
use Rattle.undisturbed.specs.StandingLaws.{Asking, Shared, slave_with, stands, FitAsking, gated, step-stands, three_steps, three_steps_lem, three_come}
use Rattle.undisturbed.specs.TimesLaws.{overlap, finished, Bag, empty_bag, with_send, with_receive, HoldsAll, FillsAll}
use Rattle.undisturbed.proofs.TimesLaws.{none_held, lacks_send, lacks_receive, one_missing, BothThere, both_there}
use Rattle.undisturbed.proofs.ReadLaws.{event_rule_is, brought_rule_is, event_times_lem, brought_times}
use Rattle.undisturbed.specs.LaneLaws.{Rest}
use Rattle.undisturbed.proofs.LaneLaws.{Stores, Completes, Exchanging, SideGoes, rest_goes}
use Rattle.undisturbed.specs.OrderLaws.{Shape, shape_of, no_shape, two_there, OfAny}
use Rattle.undisturbed.proofs.OrderLaws.{sync_finished, every_order, as_rest}
use Rattle.undisturbed.specs.SyncSideLaws.{sync_with, holding_sync}

-- ---- an exchange by its times; without any it is none

two_step_fills : (id : ℕ) (s : Option Time) (t : Time) → two_step_sync id t (sync_with id s None) ≡ becomes (sync_with id s (Some t))
unfolding two_step_sync
two_step_fills id None t = refl
two_step_fills id (Some s) t =
    λ i. cond (eq-eqb id id refl i) (becomes (Exchange.Measuring id (Some s) (Some t))) (becomes (Exchange.Measuring id None (Some t)))

follow_up_fills : (id : ℕ) (r : Option Time) (t : Time) → followed_up id t (sync_with id None r) ≡ becomes (sync_with id (Some t) r)
unfolding followed_up
follow_up_fills id None t = refl
follow_up_fills id (Some r) t =
    λ i. cond (eq-eqb id id refl i) (becomes (Exchange.Measuring id (Some t) (Some r))) (becomes (Exchange.Measuring id (Some t) None))

complete_sync : {A : Type 0} (id : ℕ) (s r : Option Time) (missing : A) (k : Time → Time → A) → complete (sync_with id s r) missing k ≡ both s r missing k
complete_sync id None None missing k = refl
complete_sync id None (Some r) missing k = refl
complete_sync id (Some s) r missing k = refl

module _ (c : Config) (master : Identity) (room : ℕ) where
  abbrev pub FitOther : Asking → Type 0
  FitOther y = (id : ℕ) × FitAsking c master id y

  abbrev pub SyncStores : ℕ → Event → Bag → Type 0
  SyncStores id e v = Stores c master room syncs (stands c master) (λ (u : Unit {0}) x. FitSync x) FitOther (λ u. u) (holding_sync id) e v

  -- ---- what the events store

  module _ (id : ℕ) (h : Header) (from : FromMaster master id h) where
    -- a Sync: the exchange that it finds becomes another
    sync_stores : (at u : Time) (message : List ℕ) (w : WireTimestamp) → reading c message ≡ Ok (Received.Message h (Body.Sync w) u) → (v : Bag) (next_bag : Time → Bag) → ((t : Time) → synced h u t (holding_sync id v) ≡ becomes (holding_sync id (next_bag t))) → All (λ t. FillsAll (times_in c (event at message)) v (next_bag t)) (less_correction at h) → SyncStores id (event at message) v
    unfolding on_event sync
    sync_stores at u message w reads v next_bag made fills =
        record {
          guard = ours c h;
          sum = less_correction at h;
          range = all_less_correction NotTaken not_taken.range at h;
          next_bag = next_bag;
          rule = λ y z fy.
              let p : Port = stands c master (holding_sync id v) y z in
              event_rule_is h (Body.Sync w) u p at message reads
              ∙ (λ i. cond (ours c h) (cond ((same_identity_lem master h.source).1 (sym from.source) i) (less_correction at h then λ t. keeping p (λ x. stands c master x y z) (made t i)) (nothing p)) (refused Outcome.Foreign));
          fills = fills;
        }

    module _ (es : List Event) (v : Bag) (held : HoldsAll (times_of c es) v) where
      module _ (at u : Time) (message : List ℕ) (w : WireTimestamp) (reads : reading c message ≡ Ok (Received.Message h (Body.Sync w) u)) (missing : overlap (times_of c es) (times_in c (event at message)) ≡ false) where
        abbrev came : ℤ
        came = time at -ℤ correction h.correction

        brings : (two : Bool) → two_step h ≡ two → times_in c (event at message) ≡ sync_times two (wire w) came
        brings two t = event_times_lem h (Body.Sync w) u c at message reads ∙ (λ i. sync_times (t i) (wire w) came)

        no_receive : v.receive ≡ None
        no_receive =
            lacks_receive (times_of c es) (times_in c (event at message)) v held missing came (ap (λ (a : Times). a.receive) (brings (two_step h) refl))

        two_step_stores : two_step h ≡ true → SyncStores id (event at message) v
        two_step_stores two =
            sync_stores at u message w reads v (with_receive v)
            (λ t.
            (λ i. cond (two i) (two_step_sync (from.same_id i) t (sync_with id v.send (no_receive i))) (one_step_sync h.id u t (holding_sync id v)))
            ∙ two_step_fills id v.send t)
            (all_map (λ t. time t ≡ came) _ Silent (less_correction at h) (λ t worth. subst (λ (a : Times). FillsAll a v (with_receive v t)) (sym (brings true two)) (record { send = refl; receive = worth; request_receive = refl; response_send = refl })) (less_worth at h))

        one_step_stores : two_step h ≡ false → SyncStores id (event at message) v
        unfolding one_step_sync
        one_step_stores one =
            let no_send : v.send ≡ None = lacks_send (times_of c es) (times_in c (event at message)) v held missing (wire w) (ap (λ (a : Times). a.send) (brings false one)) in
            sync_stores at u message w reads v (λ t. with_send (with_receive v t) u)
            (λ t i. cond (one i) (two_step_sync h.id t (holding_sync id v)) (one_step_sync (from.same_id i) u t (sync_with id (no_send i) (no_receive i))))
            (all_map (λ t. time t ≡ came) _ Silent (less_correction at h) (λ t worth. subst (λ (a : Times). FillsAll a v (with_send (with_receive v t) u)) (sym (brings false one)) (record { send = wire-time h (Body.Sync w) u message reads; receive = worth; request_receive = refl; response_send = refl })) (less_worth at h))

      follow_up_stores : (e : Event) (u : Time) (w : WireTimestamp) → Brings c e h (Body.FollowUp w) u → overlap (times_of c es) (times_in c e) ≡ false → SyncStores id e v
      unfolding on_event on_general follow_up
      follow_up_stores e u w brought missing =
          let left : ℤ = wire w +ℤ correction h.correction in
          let brings : times_in c e ≡ sent_at left = brought_times h (Body.FollowUp w) u c (λ at. refl) e brought in
          let no_send : v.send ≡ None = lacks_send (times_of c es) (times_in c e) v held missing left (ap (λ (a : Times). a.send) brings) in
          let made : (t : Time) → followed_up h.id t (holding_sync id v) ≡ becomes (holding_sync id (with_send v t)) = λ t. (λ i. followed_up (from.same_id i) t (sync_with id (no_send i) v.receive)) ∙ follow_up_fills id v.receive t in
          record {
            guard = ours c h;
            sum = plus_correction u h;
            range = all_plus_correction NotTaken not_taken.range u h;
            next_bag = with_send v;
            rule = λ y z fy.
                let p : Port = stands c master (holding_sync id v) y z in
                let g : follow_up p h u ≡ (plus_correction u h then λ t. settle (stands c master (holding_sync id (with_send v t)) y z)) = λ i. cond ((same_identity_lem master h.source).1 (sym from.source) i) (plus_correction u h then λ t. keeping p (λ x. stands c master x y z) (made t i)) (nothing p) in
                brought_rule_is h (Body.FollowUp w) u p _ (λ at. g) g e brought;
            fills = all_map (λ t. time t ≡ time u +ℤ correction h.correction) _ Silent (plus_correction u h) (λ t worth. subst (λ (a : Times). FillsAll a v (with_send v t)) (sym brings) (record { send = worth ∙ ap (λ (x : ℤ). x +ℤ correction h.correction) (brought_time h (Body.FollowUp w) u c e brought); receive = refl; request_receive = refl; response_send = refl })) (plus_worth u h);
          }

  -- ---- what a full exchange measures

  module _ (z : Shared) (send receive : Time) where
    -- the raw offset, kept, and what is measured
    abbrev packed : Duration → Option Duration → Shared × Measurement
    packed raw offset = (record { raw = Some raw; mean = z.mean }, Measurement.Sync receive raw offset)

    abbrev sync_sum : Worked (Shared × Measurement)
    sync_sum =
        three_steps (elapsed receive send) (λ d. less_duration d c.asymmetry) (λ d raw. less_mean raw z.mean) (λ d raw offset. packed raw offset)

    mean_comes : (raw : Duration) (m : Option Duration) → Comes Anything NotTaken (less_mean raw m)
    mean_comes raw None = tt
    mean_comes raw (Some m) =
        all_then Anything NotTaken (less_duration raw m) _ (all_less NotTaken not_taken.range raw m) (λ o e. tt)

    sync_comes : Comes Anything NotTaken sync_sum
    sync_comes =
        three_come (elapsed receive send) (λ d. less_duration d c.asymmetry) (λ d raw. less_mean raw z.mean) (λ d raw offset. packed raw offset) NotTaken
        (all_between NotTaken not_taken.range receive send) (λ d. all_less NotTaken not_taken.range d c.asymmetry) (λ d raw. mean_comes raw z.mean)

    sync_measures : (x : Exchange) (y : Asking) → measure_sync (stands c master x y z) (slave_with c master x y.delay z.raw) send receive ≡ (sync_sum then λ m. worked (measured (stands c master Exchange.Empty y m.0) m.1 false))
    unfolding measure_sync
    sync_measures x y =
        sym (three_steps_lem (elapsed receive send) (λ d. less_duration d c.asymmetry) (λ d raw. less_mean raw z.mean) (λ d raw offset. packed raw offset) (λ m. worked (measured (stands c master Exchange.Empty y m.0) m.1 false)))

  -- ---- the laws of the sync exchange

  made_finishes : (x y : ℤ) → finished (Completed.sync x y) ≡ true
  made_finishes x y = refl

  module _ (id : ℕ) where
    settles : (v : Bag) (y : Asking) (z : Shared) → FitOther y → settle (stands c master (holding_sync id v) y z) ≡ both v.send v.receive (nothing (stands c master (holding_sync id v) y z)) (measure_sync (stands c master (holding_sync id v) y z) (slave_with c master (holding_sync id v) y.delay z.raw))
    settles v y z (i, fy) =
        settle_sync (stands c master Exchange.Empty y z) (slave_with c master Exchange.Empty y.delay z.raw) (holding_sync id v) fy.peer.not_full (delay_open y.delay fy.delay)
        ∙ complete_sync id v.send v.receive _ _

    sync_lacking : (a : Times) (v : Bag) → HoldsAll a v → finished (sync_of a) ≡ false → (y : Asking) (z : Shared) → FitOther y → settle (stands c master (holding_sync id v) y z) ≡ nothing (stands c master (holding_sync id v) y z)
    sync_lacking a v h unfinished y z fy =
        settles v y z fy ∙ not_both v.send v.receive _ _ (one_missing Completed.sync made_finishes a.send a.receive v.send v.receive h.send h.receive unfinished)

    abbrev SyncCompletes : Times → Bag → Shared → Type 0
    SyncCompletes a v z = Completes c master room syncs (stands c master) (λ (u : Unit {0}) x. FitSync x) FitOther (λ u. u) (holding_sync id) Exchange.Empty a v z

    sync_completes : (a : Times) (v : Bag) → HoldsAll a v → finished (sync_of a) ≡ true → (z : Shared) → SyncCompletes a v z
    sync_completes a v h full z =
        let b : BothThere Completed.sync made_finishes a.send a.receive v.send v.receive = both_there Completed.sync made_finishes a.send a.receive v.send v.receive h.send h.receive full in
        let measure : (y : Asking) → Time → Time → Worked Done = λ y. measure_sync (stands c master (holding_sync id v) y z) (slave_with c master (holding_sync id v) y.delay z.raw) in
        record {
          exchange = Completed.sync (time b.first) (time b.second);
          worth = b.worth;
          measure = λ y. measure y b.first b.second;
          settled = λ y fy. settles v y z fy ∙ (λ i. both (b.first_is i) (b.second_is i) (nothing (stands c master (holding_sync id v) y z)) (measure y));
          judged = λ w y. sync_judged (stands c master (holding_sync id w) y z) (slave_with c master (holding_sync id w) y.delay z.raw) (holding_sync id v) b.first b.second;
          sum = sync_sum z b.first b.second;
          range = sync_comes z b.first b.second;
          measures = λ y. sync_measures z b.first b.second (holding_sync id v) y;
        }

    sync_of_lem : (two : Bool) (es : List Event) (e : Event) (v : Bag) → OfAny (OfSync c master id two) e → HoldsAll (times_of c es) v → overlap (times_of c es) (times_in c e) ≡ false → SyncStores id e v
    sync_of_lem true es e v (p, a_sync at message h w u reads from two) held missing = two_step_stores id h from es v held at u message w reads missing two
    sync_of_lem false es e v (p, a_sync at message h w u reads from two) held missing = one_step_stores id h from es v held at u message w reads missing two
    sync_of_lem true es e v (p, a_follow_up f h w u brought from) held missing = follow_up_stores id h from es v held f u w brought missing
    sync_of_lem false es e v (p, a_follow_up f h w u brought from) held missing = follow_up_stores id h from es v held f u w brought missing

    sync_exchanging : (two : Bool) → Exchanging c master room syncs (stands c master) (λ (u : Unit {0}) x. FitSync x) FitOther (λ u. u) tt (OfAny (OfSync c master id two)) (holding_sync id) Exchange.Empty
    sync_exchanging two =
        record {
          stores = sync_of_lem two;
          lacking = sync_lacking;
          completes = sync_completes;
          fits = λ v y z fit. (fit_is (stands c master (holding_sync id v) y z) fit).state.0;
          closed_fits = tt;
        }

    -- ---- its pieces in any order

    abbrev sync_shape : Bool → Piece → Shape
    sync_shape two the_sync = record { send = not two; receive = true; request_receive = false; response_send = false }
    sync_shape two the_follow_up = record { send = true; receive = false; request_receive = false; response_send = false }
    sync_shape two the_stamp = no_shape
    sync_shape two the_delay_resp = no_shape
    sync_shape two the_p_delay_resp = no_shape
    sync_shape two the_p_delay_resp_follow_up = no_shape

    sync_brings : (two : Bool) (z came : ℤ) → shape_of (sync_times two z came) ≡ sync_shape two the_sync
    sync_brings true z came = refl
    sync_brings false z came = refl

    sync_shape_lem : (two : Bool) (p : Piece) (e : Event) → OfSync c master id two p e → shape_of (times_in c e) ≡ sync_shape two p
    sync_shape_lem two p e (a_sync at message h w u reads from t) =
        ap shape_of (event_times_lem h (Body.Sync w) u c at message reads ∙ (λ i. sync_times (t i) (wire w) (time at -ℤ correction h.correction))) ∙ sync_brings two (wire w) (time at -ℤ correction h.correction)
    sync_shape_lem two p e (a_follow_up f h w u brought from) = ap shape_of (brought_times h (Body.FollowUp w) u c (λ at. refl) f brought)

    sync_orders : (two : Bool) → every_order c syncs (OfSync c master id two) (sync_shape two) two_there 2 no_shape (sync_pieces two) ≡ true
    sync_orders true = refl
    sync_orders false = refl

    sync_rest : (two : Bool) (x : List (Item Event)) → InAnyOrder syncs (OfSync c master id two) (sync_pieces two) x → Rest c syncs (OfAny (OfSync c master id two)) [] x
    unfolding times_of
    sync_rest two x o =
        as_rest c syncs (OfSync c master id two) (sync_shape two) two_there (sync_shape_lem two) sync_finished 2 no_shape (sync_pieces two) [] x refl (sync_orders two) o

  -- ---- one after another

  sync_gate : (u : Unit {0}) (x : Exchange) (y : Asking) (z : Shared) (e : Event) → FitSync x → FitOther y → step (stands c master x y z) room e ≡ answered (stands c master x y z) (gated c master room e (rule_of (stands c master x y z) e))
  sync_gate u x y z e fx (id, fy) = step-stands c master room e x y z fx fy.delay fy.peer

  pub sync_goes : (xs : List (List (Item Event))) → SyncExchanges c master xs → SideGoes c master room syncs (stands c master) (λ (u : Unit {0}) x. FitSync x) FitOther (λ u. u) tt [] Exchange.Empty (joined xs)
  unfolding SyncExchanges joined Goes times_of
  sync_goes [] w = tt
  sync_goes (x ∷ xs) (w, more) =
      rest_goes c master room syncs (stands c master) (λ u x. FitSync x) FitOther (λ u. u) sync_gate (sync_exchanging w.id w.two) x (joined xs) [] empty_bag none_held tt (sync_rest w.id w.two x w.events) (sync_goes xs more)
