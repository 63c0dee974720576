-- Events that belong to no exchange: filter answers, foreign traffic, and what else is harmless. Each reads and writes what both sides share, and neither side.
use Rattle.std.specs.Prelude.{ℕ, ◌<◌, ◌≡◌, Bool, ◌||◌, [], ◌∷◌, Option, Some, None, Ok, Err, Result}
use Rattle.std.proofs.Math.Path.{refl, ap}
use Rattle.std.proofs.Common.{sym, ◌∙◌, true≢false, arith}
use Rattle.std.proofs.Math.Bool.{true, false, cond}
use Rattle.wire.specs.Layout.{row, type_of}
use Rattle.sent.specs.Messages.{p_delay_resp_of, p_delay_resp_follow_up_of}
use Rattle.record.specs.Ids.{id_after}
use Rattle.fitness.specs.Fit.{config_out, unfit}
use Rattle.fitness.specs.FitLaws.{FitSync}
use Rattle.record.specs.Same.{same_identity}
use Rattle.record.proofs.SameLaws.{same_identity_lem}
use Rattle.rules.specs.Names.{Time, Identity, Header, Body, Exchange, PeerState, Mechanism, Config, Port, Outcome, Context, Action, Duration, TimeError, Message}
use Rattle.rules.specs.Worked.{Worked, worked, refused, ◌then◌, a_message}
use Rattle.rules.specs.Events.{Event, event, general, stamp, sync_timer, Done, Answered, answered, refusal, nothing, sending, packet, Brings}
use Rattle.rules.specs.Exchanges.{stays, delay_stamped, peer_stamped}
use Rattle.rules.specs.Rules.{sender_of, sync, follow_up, delay_resp, peer_answer, p_delay_resp, p_delay_resp_follow_up, delay_req, p_delay_req, stamped, sync_timer_ends, filtered, update_given, mean_given, keeping, on_event, on_general}
use Rattle.rules.specs.Table.{ours, row1, row3, row4, row5, row6, row8}
use Rattle.rules.specs.Step.{unless, rule_of, step}
use Rattle.rules.specs.Given.{BytesIn}
use Rattle.rules.specs.WorkedOut.{row7, opened, peer_opened}
use Rattle.undisturbed.specs.Whole.{Not, Foreign, other_sync, other_follow_up, other_delay_resp, delay_resp_for_other, p_delay_resp_for_other, p_delay_resp_follow_up_for_other, a_p_delay_req, a_p_delay_resp_stamp, unheard, FilterAnswer, a_filter_answer}
use Rattle.undisturbed.specs.Undisturbed.{measured_in}
use Rattle.undisturbed.specs.Harmless.{Harmless, a_delay_req, on_wrong_entry, a_sync_timer, a_sync_stamp, stray_delay_stamp, stray_peer_stamp}
use Rattle.undisturbed.specs.PlainLaws.{plain, plain_reply}
use Rattle.undisturbed.specs.SideLaws.{FreeDone}
use Rattle.rules.proofs.AgreeLaws.{by_test}
use Rattle.rules.proofs.TableLaws.{first_row}
use Rattle.rules.specs.ExactlyWhen.{NoneOf}
use Rattle.rules.proofs.ExactlyWhen.{exactly_when}
use Rattle.rules.proofs.RefusalLaws.{refusal_changes_nothing}
use Rattle.rules.proofs.TakenLaws.{by_entry}
use Rattle.undisturbed.specs.StandingLaws.{Asking, Shared, stands, FitAsking, gated, step-stands, unfit-stands}
use Rattle.undisturbed.proofs.ReadLaws.{event_rule_is, brought_rule_is, general_rule_is}
use Rattle.undisturbed.specs.BesideLaws.{Said, silence}

-- another identity is not the same
not_same : (a b : Identity) → Not (b ≡ a) → same_identity a b ≡ false
not_same a b n = go (same_identity a b) refl
  where
    go : (t : Bool) → same_identity a b ≡ t → t ≡ false
    go true e = absurd (n (sym ((same_identity_lem a b).0 e)))
    go false e = refl

-- a test that fails
shut : {A : Type 0} {b : Bool} (a n : A) → b ≡ false → cond b a n ≡ n
shut {A} a n e = ap (λ (t : Bool). cond t a n) e

either_way : {A : Type 0} (b : Bool) (a : A) → cond b a a ≡ a
either_way true a = refl
either_way false a = refl

module _ (c : Config) (master : Identity) (room : ℕ) where
  abbrev pub FreeTo : ℕ → Event → Shared → Type 0
  FreeTo id e z = FreeDone (stands c master) (plain room) FitSync (FitAsking c master) id_after measured_in id e z

  abbrev quietly : Exchange → Asking → Said → Done
  quietly x y d =
      record { port = stands c master x y d.shared; measurement = None; message = d.message; actions = d.actions; reset = false }

  module _ (id : ℕ) (e : Event) (z : Shared) where
    -- ---- a rule that gives the same whatever the sides are

    by_value : (w : Worked Said) → ((x : Exchange) (y : Asking) → FitSync x → FitAsking c master id y → step (stands c master x y z) room e ≡ answered (stands c master x y z) (w then λ d. worked (quietly x y d))) → FreeTo id e z
    by_value (worked d) h =
        record {
          shared = d.shared;
          answer = record { outcome = Outcome.Taken; measurement = None; packet = packet d.message; actions = d.actions; reset = false };
          does = λ x y fx fy. ap (λ (q : Answered). (q.port, plain_reply q)) (h x y fx fy);
          silent = refl;
        }
    by_value (refused o) h =
        record {
          shared = z;
          answer = record { outcome = o; measurement = None; packet = []; actions = []; reset = false };
          does = λ x y fx fy. ap (λ (q : Answered). (q.port, plain_reply q)) (h x y fx fy);
          silent = refl;
        }

    rows_first : (a b d : Bool) (w : Worked Said) (k : Said → Worked Done) → unless a Outcome.Buffer (unless b Outcome.Unfit (unless d Outcome.Limits (w then k))) ≡ ((cond a (refused Outcome.Buffer) (cond b (refused Outcome.Unfit) (cond d (refused Outcome.Limits) w))) then k)
    rows_first true b d w k = refl
    rows_first false true d w k = refl
    rows_first false false true w k = refl
    rows_first false false false w k = refl

    free_by : (w : Worked Said) → ((x : Exchange) (y : Asking) → FitSync x → FitAsking c master id y → rule_of (stands c master x y z) e ≡ (w then λ d. worked (quietly x y d))) → FreeTo id e z
    free_by w h =
        by_value (cond (row1 c e room) (refused Outcome.Buffer) (cond (config_out c) (refused Outcome.Unfit) (cond (row3 e) (refused Outcome.Limits) w))) (λ x y fx fy.
        let p : Port = stands c master x y z in
        step-stands c master room e x y z fx fy.delay fy.peer
        ∙ ap (λ (v : Worked Done). answered p (gated c master room e v)) (h x y fx fy)
        ∙ ap (answered p) (rows_first (row1 c e room) (config_out c) (row3 e) w (λ d. worked (quietly x y d))))

    -- a message for us that has something said, and is row 6's for others
    heard_by : (h : Header) (w : Worked Said) → ((x : Exchange) (y : Asking) → FitSync x → FitAsking c master id y → rule_of (stands c master x y z) e ≡ cond (ours c h) (w then λ d. worked (quietly x y d)) (refused Outcome.Foreign)) → FreeTo id e z
    heard_by h w rule =
        free_by (cond (ours c h) w (refused Outcome.Foreign)) (λ x y fx fy.
        rule x y fx fy ∙ by_test (λ b v. cond b (w then λ d. worked (quietly x y d)) (refused Outcome.Foreign) ≡ (v then λ d. worked (quietly x y d))) (ours c h) w (refused Outcome.Foreign) refl refl)

    -- a message with which both entries do nothing
    unheeded : (h : Header) (b : Body) (u : Time) → Brings c e h b u → ((x : Exchange) (y : Asking) (at : Time) → on_event (stands c master x y z) at h b u ≡ nothing (stands c master x y z)) → ((x : Exchange) (y : Asking) → on_general (stands c master x y z) h b u ≡ nothing (stands c master x y z)) → FreeTo id e z
    unheeded h b u brought f g =
        heard_by h (worked (silence z)) (λ x y fx fy. brought_rule_is h b u (stands c master x y z) _ (f x y) (g x y) e brought)

    -- ---- messages that no rule hears: rows 4, 5, 6 and 8 look at nothing but the configuration and the bytes

    rows_of_bytes : (d f g h : Bool) (after : Outcome) → d || f || g || h ≡ true → cond d Outcome.Version (cond f Outcome.Malformed (cond g Outcome.Foreign (cond h Outcome.Host after))) ≡ cond d Outcome.Version (cond f Outcome.Malformed (cond g Outcome.Foreign Outcome.Host))
    rows_of_bytes true f g h after o = refl
    rows_of_bytes false true g h after o = refl
    rows_of_bytes false false true h after o = refl
    rows_of_bytes false false false true after o = refl
    rows_of_bytes false false false false after o = absurd (true≢false (sym o))

    abbrev refuses_with : Outcome
    refuses_with =
        cond (row1 c e room) Outcome.Buffer
        (cond (config_out c) Outcome.Unfit
        (cond (row3 e) Outcome.Limits
        (cond (row4 c e) Outcome.Version (cond (row5 c e) Outcome.Malformed (cond (row6 c e) Outcome.Foreign Outcome.Host)))))

    unheard_free : BytesIn e → row4 c e || row5 c e || row6 c e || row8 c e ≡ true → FreeTo id e z
    unheard_free bytes o =
        by_value (refused refuses_with) (λ x y fx fy.
        let p : Port = stands c master x y z in
        let number : (step p room e).outcome ≡ refuses_with = first_row p room e bytes ∙ (λ i. cond (row1 c e room) Outcome.Buffer (cond (unfit-stands c master x y z fx fy.delay fy.peer i) Outcome.Unfit (cond (row3 e) Outcome.Limits (rows_of_bytes (row4 c e) (row5 c e) (row6 c e) (row8 c e) (cond (row7 p e) Outcome.Range Outcome.Taken) o i)))) in
        let none_hit : NoneOf (row1 c e room ∷ unfit p ∷ row3 e ∷ row4 c e ∷ row5 c e ∷ row6 c e ∷ row8 c e ∷ row7 p e ∷ []) → ⊥ = λ (a, (b, (d, (f, (g, (h, (i, k))))))). true≢false (sym o ∙ (λ j. f j || g j || h j || i j)) in
        refusal_changes_nothing p room e (λ t. none_hit ((exactly_when p room e bytes).answered_0.0 t)) ∙ ap (λ (n : Outcome). refusal n p) number)

  -- ---- filter answers

  abbrev mean_kept : Shared → Option Duration → Shared
  mean_kept z None = z
  mean_kept z (Some mean) = record { raw = z.raw; mean = Some mean }

  mean_given_lem : (x : Exchange) (y : Asking) (z : Shared) (m : Option Duration) → mean_given (stands c master x y z) m ≡ stands c master x y (mean_kept z m)
  mean_given_lem x y z None = refl
  mean_given_lem x y z (Some mean) = refl

  pub filter_free : (id : ℕ) (e : Event) (z : Shared) → FilterAnswer e → FreeTo id e z
  unfolding rule_of filtered
  filter_free id e z (a_filter_answer u) =
      free_by id e z (worked (record { shared = mean_kept z u.mean_delay; message = None; actions = update_given u.next_update }))
      (λ x y fx fy. ap (λ (p : Port). worked (record { port = p; measurement = None; message = None; actions = update_given u.next_update; reset = false })) (mean_given_lem x y z u.mean_delay))

  -- ---- foreign traffic

  -- a message that is sent in answer, if its fields are in range
  abbrev sent_said : Shared → Result Message TimeError → Action → Worked Said
  sent_said z m a = a_message m then λ n. worked (record { shared = z; message = Some n; actions = a ∷ [] })

  sent_said_lem : (x : Exchange) (y : Asking) (z : Shared) (m : Result Message TimeError) (a : Action) → (a_message m then λ n. worked (sending (stands c master x y z) [] n a)) ≡ (sent_said z m a then λ d. worked (quietly x y d))
  sent_said_lem x y z (Ok n) a = refl
  sent_said_lem x y z (Err TimeError.OutOfRange) a = refl

  pub foreign_free : (id : ℕ) (e : Event) (z : Shared) → BytesIn e → Foreign c master e → FreeTo id e z
  unfolding rule_of on_event on_general sync follow_up delay_resp p_delay_resp p_delay_resp_follow_up peer_answer p_delay_req stamped
  foreign_free id e z bytes (other_sync f h w u brought other) =
      unheeded id f z h (Body.Sync w) u brought (λ x y at. shut _ _ (not_same master h.source other)) (λ x y. refl)
  foreign_free id e z bytes (other_follow_up f h w u brought other) =
      unheeded id f z h (Body.FollowUp w) u brought (λ x y at. shut _ _ (not_same master h.source other)) (λ x y. shut _ _ (not_same master h.source other))
  foreign_free id e z bytes (other_delay_resp f h w requester u brought other) =
      let g : (x : Exchange) (y : Asking) → delay_resp (stands c master x y z) h requester u ≡ nothing (stands c master x y z) = λ x y. ap (λ (v : Worked Done). cond (same_identity c.identity requester) v (nothing (stands c master x y z))) (shut _ _ (not_same master h.source other)) ∙ either_way (same_identity c.identity requester) (nothing (stands c master x y z)) in
      unheeded id f z h (Body.DelayResp w requester) u brought (λ x y at. g x y) g
  foreign_free id e z bytes (delay_resp_for_other f h w requester u brought other) =
      unheeded id f z h (Body.DelayResp w requester) u brought (λ x y at. shut _ _ (not_same c.identity requester other)) (λ x y. shut _ _ (not_same c.identity requester other))
  foreign_free id e z bytes (p_delay_resp_for_other f h w requester u brought other) =
      unheeded id f z h (Body.PDelayResp w requester) u brought (λ x y at. shut _ _ (not_same c.identity requester other)) (λ x y. refl)
  foreign_free id e z bytes (p_delay_resp_follow_up_for_other f h w requester u brought other) =
      unheeded id f z h (Body.PDelayRespFollowUp w requester) u brought (λ x y at. shut _ _ (not_same c.identity requester other)) (λ x y. shut _ _ (not_same c.identity requester other))
  foreign_free id e z bytes (a_p_delay_req f h w u brought) =
      by_entry h (Body.PDelayReq w) u (λ f. FreeTo id f z)
      (λ at message r.
      let m : Result Message TimeError = p_delay_resp_of (sender_of c) h at in
      let a : Action = Action.SendEvent (Context.PDelayResp h.id h.source) true in
      heard_by id (event at message) z h (sent_said z m a) (λ x y fx fy. event_rule_is h (Body.PDelayReq w) u (stands c master x y z) at message r ∙ ap (λ (v : Worked Done). cond (ours c h) v (refused Outcome.Foreign)) (sent_said_lem x y z m a)))
      (λ message r. heard_by id (general message) z h (worked (silence z)) (λ x y fx fy. general_rule_is h (Body.PDelayReq w) u (stands c master x y z) message r))
      c f brought
  foreign_free id e z bytes (a_p_delay_resp_stamp t j requester) =
      let m : Result Message TimeError = p_delay_resp_follow_up_of (sender_of c) j requester t in
      free_by id (stamp t (Context.PDelayResp j requester)) z (sent_said z m (Action.SendGeneral true)) (λ x y fx fy. sent_said_lem x y z m (Action.SendGeneral true))
  foreign_free id e z bytes (unheard f limits o) = unheard_free id f z bytes o

  -- ---- what else is harmless

  -- a stamp of no open request finds no place
  no_delay_stamp : (j : ℕ) (t : Time) (d : Exchange) → opened j d ≡ false → delay_stamped j t d ≡ stays
  unfolding delay_stamped
  no_delay_stamp j t Exchange.Empty n = refl
  no_delay_stamp j t (Exchange.Measuring id send receive) n = shut _ _ n

  no_peer_stamp : (j : ℕ) (t : Time) (q : PeerState) → peer_opened j q ≡ false → peer_stamped j t q ≡ stays
  unfolding peer_stamped
  no_peer_stamp j t PeerState.Empty n = refl
  no_peer_stamp j t (PeerState.Measuring id o a b d f) n = shut _ _ n
  no_peer_stamp j t (PeerState.Measured id o) n = refl

  -- what is open only with this id, under this mechanism, is not open with a stray one
  stray : (id j : ℕ) (m : Mechanism) (is_open : Bool) → (c.mechanism ≡ m → Not (j ≡ id)) → (is_open ≡ true → (c.mechanism ≡ m) × (j ≡ id)) → is_open ≡ false
  stray id j m true n only = absurd (n (only refl).0 (only refl).1)
  stray id j m false n only = refl

  wrong_entry : (x : Exchange) (y : Asking) (z : Shared) (h : Header) (b : Body) (u : Time) → (row (type_of b)).number < 4 → on_general (stands c master x y z) h b u ≡ nothing (stands c master x y z)
  unfolding on_general
  wrong_entry x y z h (Body.Sync w) u o = refl
  wrong_entry x y z h (Body.DelayReq w) u o = refl
  wrong_entry x y z h (Body.PDelayReq w) u o = refl
  wrong_entry x y z h (Body.PDelayResp w requester) u o = refl
  wrong_entry x y z h (Body.FollowUp w) u o = absurd (omega (arith, o))
  wrong_entry x y z h (Body.DelayResp w requester) u o = absurd (omega (arith, o))
  wrong_entry x y z h (Body.PDelayRespFollowUp w requester) u o = absurd (omega (arith, o))

  pub harmless_free : (id : ℕ) (e : Event) (z : Shared) → Harmless c id e → FreeTo id e z
  unfolding rule_of on_event on_general delay_req stamped sync_timer_ends
  harmless_free id e z (a_delay_req f h w u brought) = unheeded id f z h (Body.DelayReq w) u brought (λ x y at. refl) (λ x y. refl)
  harmless_free id e z (on_wrong_entry message h b u reads early) =
      heard_by id (general message) z h (worked (silence z)) (λ x y fx fy. general_rule_is h b u (stands c master x y z) message reads ∙ ap (λ (v : Worked Done). cond (ours c h) v (refused Outcome.Foreign)) (wrong_entry x y z h b u early))
  harmless_free id e z a_sync_timer = free_by id sync_timer z (worked (silence z)) (λ x y fx fy. refl)
  harmless_free id e z (a_sync_stamp t j) = free_by id (stamp t (Context.Sync j)) z (worked (silence z)) (λ x y fx fy. refl)
  harmless_free id e z (stray_delay_stamp t j n) =
      free_by id (stamp t (Context.DelayReq j)) z (worked (silence z)) (λ x y fx fy.
      ap (keeping (stands c master x y z) _) (no_delay_stamp j t y.delay (stray id j Mechanism.EndToEnd (opened j y.delay) n (fy.only_delay j))))
  harmless_free id e z (stray_peer_stamp t j n) =
      free_by id (stamp t (Context.PDelayReq j)) z (worked (silence z)) (λ x y fx fy.
      ap (keeping (stands c master x y z) _) (no_peer_stamp j t y.peer (stray id j Mechanism.Peer (peer_opened j y.peer) n (fy.only_peer j))))
