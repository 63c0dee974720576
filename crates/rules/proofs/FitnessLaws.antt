-- Fitness is kept: what a taken event leaves is fit again, so every event behind it finds a fit record.
use Rattle.std.specs.Prelude.{◌≡◌, false, List, ℕ, ◌^◌, ◌<◌, Option, Some, None, Ok}
use Rattle.std.proofs.Math.Path.{refl}
use Rattle.std.proofs.Common.{sym, ap, ◌∙◌, subst}
use Rattle.std.proofs.lemmas.Bool.{not-false}
use Rattle.time.specs.declared.WireTimestamp.{WireTimestamp}
use Rattle.time.specs.Units.{time, in_time, wire}
use Rattle.time.specs.Laws.{IsTime}
use Rattle.time.specs.WireLaws.{read_is}
use Rattle.octets.specs.Bytes.{Bytes}
use Rattle.octets.proofs.BytesLaws.{number_lt}
use Rattle.wire.specs.Layout.{type_of, timestamp_of, timestamp_at, body}
use Rattle.wire.proofs.LayoutLaws.{timestamp_body}
use Rattle.reading.specs.Reading.{read_of}
use Rattle.reading.specs.ReadingLaws.{IsMessage, message_is}
use Rattle.record.specs.Record.{with_sync, with_delay, with_slave, with_peer}
use Rattle.fitness.specs.Fit.{time_out, config_out, unfit}
use Rattle.fitness.specs.FitLaws.{FitSync, FitDelay, FitState, FitPeer, IsFit}
use Rattle.fitness.proofs.FitLaws.{fit_is, fit_when}
use Rattle.rules.specs.Names.{Time, Header, Body, Exchange, SlaveState, PortState, PeerState, Port, Context, NewState, Outcome, Duration, Received}
use Rattle.rules.specs.Worked.{less_correction, plus_correction}
use Rattle.rules.specs.Events.{Event, event, general, stamp, sync_timer, delay_timer, filter_answer, set_state}
use Rattle.rules.specs.Measuring.{recovered, settle}
use Rattle.rules.specs.Exchanges.{becomes, synced, followed_up, delay_answered, delay_stamped, peer_stamped, responded, responded_later}
use Rattle.rules.specs.Rules.{on_event, on_general, stamped, filtered, mean_given, state_set, state_of}
use Rattle.rules.specs.Table.{row3}
use Rattle.rules.specs.Step.{rule_of, step}
use Rattle.rules.specs.Given.{BytesIn}
use Rattle.rules.specs.AllLaws.{All, Silent}
use Rattle.rules.proofs.AllLaws.{all_is}
use Rattle.rules.proofs.RuleLaws.{all_sync, all_follow_up, all_delay_resp, all_p_delay_resp, all_p_delay_resp_follow_up, all_delay_req, all_p_delay_req, all_sync_stamped, all_delay_stamped, all_peer_stamped, all_response_stamped, all_sync_timer_ends, all_delay_timer_ends}
use Rattle.rules.proofs.EveryLaws.{silent, all_viewed}
use Rattle.rules.proofs.StoringLaws.{sync_open, delay_open, slave_fit, all_settle_sync, all_settle_delay, all_settle_peer}
use Rattle.rules.specs.StoredLaws.{InTime, Stores, SyncOrFull, DelayOrFull, PeerOrDone}
use Rattle.rules.proofs.StoredLaws.{stores_is, less_in_time, plus_in_time, synced_stores, followed_up_stores, delay_answered_stores, delay_stamped_stores, responded_stores, responded_later_stores, peer_stamped_stores}
use Rattle.rules.proofs.RefusalLaws.{taken_has, step_has}
use Rattle.rules.specs.FitnessLaws.{Fit}

-- ---- the times that come in

-- an event's time, behind row 3
pub not_out : (t : Time) → time_out t ≡ false → InTime t
unfolding time_out
not_out t e = not-false (in_time (time t)) e

-- a message's timestamp
nanos_width : (l : List ℕ) → Bytes l → (timestamp_at body l).nanos < 2 ^ 32
unfolding timestamp_at
nanos_width l b = number_lt 40 4 l b

pub message_in_time : (l : List ℕ) (h : Header) (b : Body) (t : Time) → Bytes l → read_of l ≡ Ok (Received.Message h b t) → InTime t
message_in_time l h b t bytes e =
    let k : IsMessage l h b t = message_is l h b t e in
    let at : timestamp_of b ≡ timestamp_at body l = ap timestamp_of k.body_is ∙ timestamp_body (type_of b) l in
    let i : IsTime (wire (timestamp_of b)) t = read_is (timestamp_of b) t (subst (λ (w : WireTimestamp). w.nanos < 2 ^ 32) (sym at) (nanos_width l bytes)) k.time in
    ap in_time i.value ∙ i.within

-- ---- fit records

fit_recovered : (state : PortState) → FitState state → FitState (recovered state)
fit_recovered PortState.Listening f = f
fit_recovered PortState.Master f = f
fit_recovered PortState.Passive f = f
fit_recovered PortState.Faulty f = tt
fit_recovered (PortState.Slave s) f = f

fit_set : (new : NewState) → FitState (state_of new)
fit_set NewState.Listening = tt
fit_set NewState.Master = tt
fit_set NewState.Passive = tt
fit_set NewState.Faulty = tt
fit_set (NewState.Slave m) = (tt, tt)

fit_given : (p : Port) → IsFit p → (mean : Option Duration) → IsFit (mean_given p mean)
fit_given p f None = f
fit_given p f (Some d) = record { config = f.config; state = f.state; peer = f.peer }

module _ (p : Port) (fit : IsFit p) where
  -- another state, and another peer exchange
  in_state : (q : Port) → q.config ≡ p.config → q.peer ≡ p.peer → FitState q.state → IsFit q
  in_state q e f k =
      record { config = ap config_out e ∙ fit.config; state = k; peer = subst (λ (x : PeerState). FitPeer x) (sym f) fit.peer }

  fit_sync : (s : SlaveState) (x : Exchange) → p.state ≡ PortState.Slave s → SyncOrFull x → All Fit (settle (with_slave p (with_sync s x)))
  fit_sync s x e k =
      let f : FitDelay s.delay = (slave_fit p s fit.state e).1 in
      all_settle_sync Fit Silent tt p s x fit.peer.not_full (delay_open s.delay f)
      (λ o. in_state _ refl refl (k o, f)) (λ raw m. in_state _ refl refl (tt, f))

  fit_delay : (s : SlaveState) (x : Exchange) → p.state ≡ PortState.Slave s → DelayOrFull x → All Fit (settle (with_slave p (with_delay s x)))
  fit_delay s x e k =
      let f : FitSync s.sync = (slave_fit p s fit.state e).0 in
      all_settle_delay Fit Silent tt p s x fit.peer.not_full (sync_open s.sync f)
      (λ o. in_state _ refl refl (f, k o)) (λ m. in_state _ refl refl (f, tt))

  fit_peer : (x : PeerState) → PeerOrDone x → All Fit (settle (with_peer p x))
  fit_peer x k =
      all_settle_peer Fit Silent tt p x fit.state
      (λ o. record { config = fit.config; state = fit.state; peer = k o })
      (λ id i m o. record { config = fit.config; state = fit_recovered p.state fit.state; peer = record { in_limits = refl; responder_known = refl; not_full = refl } })

  -- ---- messages and stamps
  fit_general : (h : Header) (b : Body) (t : Time) → All Fit (on_general p h b t)
  unfolding on_general
  fit_general h (Body.Sync w) t = fit
  fit_general h (Body.DelayReq w) t = fit
  fit_general h (Body.PDelayReq w) t = fit
  fit_general h (Body.PDelayResp w requester) t = fit
  fit_general h (Body.FollowUp w) t =
      all_follow_up Fit Silent tt p fit h t (λ s e u g x k.
      fit_sync s x e (stores_is SyncOrFull (followed_up h.id u s.sync) x k (followed_up_stores h.id u s.sync (all_is InTime Silent (plus_correction t h) u g (plus_in_time t h)))))
  fit_general h (Body.DelayResp w requester) t =
      all_delay_resp Fit Silent tt p fit h requester t (λ s e x k.
      fit_delay s x e (all_is (Stores DelayOrFull) Silent (delay_answered h.id (less_correction t h) s.delay) (becomes x) k (delay_answered_stores h.id (less_correction t h) s.delay (less_in_time t h))))
  fit_general h (Body.PDelayRespFollowUp w requester) t =
      all_p_delay_resp_follow_up Fit Silent tt p h requester t (record {
        other = λ us. fit;
        twice = λ us two. in_state _ refl refl tt;
        same = λ us one k. fit;
        new = λ us one x k. fit_peer x (all_is (Stores PeerOrDone) Silent (responded_later h (plus_correction t h) p.peer) (becomes x) k (responded_later_stores h (plus_correction t h) p.peer (plus_in_time t h) fit.peer));
      })

  fit_event : (at : Time) (h : Header) (b : Body) (t : Time) → InTime t → All Fit (on_event p at h b t)
  unfolding on_event on_general
  fit_event at h (Body.Sync w) t m =
      all_sync Fit Silent tt p fit h t at (λ s e u g x k.
      fit_sync s x e (stores_is SyncOrFull (synced h t u s.sync) x k (synced_stores h t u s.sync (all_is InTime Silent (less_correction at h) u g (less_in_time at h)))))
  fit_event at h (Body.DelayReq w) t m = all_delay_req Fit Silent tt p h at fit (λ a e. fit)
  fit_event at h (Body.PDelayReq w) t m = all_p_delay_req Fit Silent tt p h at (λ a e. fit)
  fit_event at h (Body.PDelayResp w requester) t m =
      all_p_delay_resp Fit Silent tt p h requester t at (record {
        other = λ us. fit;
        twice = λ us two. in_state _ refl refl tt;
        same = λ us one k. fit;
        new = λ us one x k. fit_peer x (all_is (Stores PeerOrDone) Silent (responded h t (less_correction at h) p.peer) (becomes x) k (responded_stores h t (less_correction at h) p.peer m (less_in_time at h) fit.peer));
      })
  fit_event at h (Body.FollowUp w) t m = fit_general h (Body.FollowUp w) t
  fit_event at h (Body.DelayResp w requester) t m = fit_general h (Body.DelayResp w requester) t
  fit_event at h (Body.PDelayRespFollowUp w requester) t m = fit_general h (Body.PDelayRespFollowUp w requester) t

  fit_stamp : (t : Time) (c : Context) → InTime t → All Fit (stamped p t c)
  fit_stamp t (Context.Sync id) k = all_sync_stamped Fit Silent tt p t id fit (λ a e. fit)
  fit_stamp t (Context.DelayReq id) k =
      all_delay_stamped Fit Silent tt p t id fit (λ s e x g. fit_delay s x e (stores_is DelayOrFull (delay_stamped id t s.delay) x g (delay_stamped_stores id t s.delay k)))
  fit_stamp t (Context.PDelayReq id) k =
      all_peer_stamped Fit Silent tt p t id (λ e. fit) (λ x g. fit_peer x (stores_is PeerOrDone (peer_stamped id t p.peer) x g (peer_stamped_stores id t p.peer k fit.peer)))
  fit_stamp t (Context.PDelayResp id requester) k = all_response_stamped Fit Silent tt p t id requester (λ a e. fit)

  -- ---- all events
  pub rule_fit : (e : Event) → BytesIn e → row3 e ≡ false → All (λ d. IsFit d.port) (rule_of p e)
  unfolding rule_of row3 filtered state_set
  rule_fit (event at l) bytes o =
      all_viewed Fit Silent silent p.config (read_of l) (on_event p at) (λ h b t e. fit_event at h b t (message_in_time l h b t bytes e))
  rule_fit (general l) bytes o =
      all_viewed Fit Silent silent p.config (read_of l) (on_general p) (λ h b t e. fit_general h b t)
  rule_fit (stamp t c) bytes o = fit_stamp t c (not_out t o)
  rule_fit sync_timer bytes o =
      all_sync_timer_ends Fit Silent tt tt p (λ e. fit) (λ e ns k. record { config = fit.config; state = fit.state; peer = fit.peer })
  rule_fit (delay_timer draw) bytes o =
      all_delay_timer_ends Fit Silent tt tt p draw (λ n e. fit) (λ s e m ns. in_state _ refl refl ((slave_fit p s fit.state e).0, tt))
      (λ m ns. record { config = fit.config; state = fit.state; peer = record { in_limits = refl; responder_known = refl; not_full = refl } })
  rule_fit (filter_answer u) bytes o = fit_given p fit u.mean_delay
  rule_fit (set_state new) bytes o = in_state _ refl refl (fit_set new)

pub fitness_kept : (p : Port) (room : ℕ) (e : Event) → BytesIn e → (step p room e).outcome ≡ Outcome.Taken → unfit (step p room e).port ≡ false
fitness_kept p room e bytes t =
    fit_when (step p room e).port (taken_has p room e (λ r. IsFit r.port) (λ f l. rule_fit p (fit_is p f) e bytes l) t)

-- and so does any answer: a refusal leaves the record
pub fitness_stays : (p : Port) (room : ℕ) (e : Event) → BytesIn e → unfit p ≡ false → unfit (step p room e).port ≡ false
fitness_stays p room e bytes f =
    fit_when (step p room e).port (step_has p room e (λ r. IsFit r.port) (λ o. fit_is p f) (λ g l. rule_fit p (fit_is p f) e bytes l))
