-- The state's number and the filter's reset after a taken event, as `Changes` says them. A taken event's record was fit, so what completes a peer exchange is what `WorkedOut` says completes it.
use Rattle.std.specs.Prelude.{◌≡◌, Bool, true, false, cond, ◌&&◌, ◌||◌, not, [], ℕ, ◌+ℤ◌, ◌-ℤ◌, Option, Some, None, Ok, Err}
use Rattle.std.proofs.Math.Path.{refl}
use Rattle.std.proofs.Common.{sym, ap, ◌∙◌}
use Rattle.std.proofs.Math.Bool.{and-true, or-true, or-false}
use Rattle.std.proofs.Math.IntN.{ℤ}
use Rattle.time.specs.Units.{time, correction}
use Rattle.reading.specs.Reading.{read_of}
use Rattle.record.specs.Record.{state_number, is_master, is_faulty, is_slave, with_sync, with_delay, with_slave, with_peer}
use Rattle.fitness.specs.Fit.{there}
use Rattle.record.specs.Same.{same_identity}
use Rattle.fitness.specs.FitLaws.{IsFit}
use Rattle.fitness.proofs.FitLaws.{fit_is}
use Rattle.rules.specs.Names.{Time, Header, Identity, Body, Exchange, SlaveState, PortState, PeerState, Port, Context, NewState, Outcome, Duration, Received, ReadError, Reading}
use Rattle.rules.specs.Worked.{Worked, worked, refused, less_correction, plus_correction}
use Rattle.rules.specs.Events.{Event, event, general, stamp, sync_timer, delay_timer, filter_answer, set_state, Done, answered, changed}
use Rattle.rules.specs.Measuring.{recovered, settle, measured, peer_out}
use Rattle.rules.specs.Exchanges.{Change, stays, becomes, second_responder, responded, responded_later, peer_stamped}
use Rattle.rules.specs.Rules.{sync, follow_up, delay_resp, delay_req, p_delay_req, peer_answer, p_delay_resp, p_delay_resp_follow_up, on_event, on_general, stamped, filtered, mean_given, state_set, state_of}
use Rattle.rules.specs.WorkedOut.{Completed, Sums, no_sums, corrected, differs, answered_by, second, peer_opened, request_send_in, response_receive_in, response_send_in, later_sums, event_sums, stamp_sums, of_reading, sums_of}
use Rattle.rules.specs.Changes.{second_by_follow_up, second_by_answer, second_heard, is_peer, recovers, new_number, state_after, reset_by_set, resets}
use Rattle.rules.specs.Table.{ours}
use Rattle.rules.specs.Step.{viewed, rule_of, step}
use Rattle.rules.specs.AllLaws.{All, Silent, peer_done}
use Rattle.rules.proofs.AllLaws.{all_is, all_map, all_cond, all_silent}
use Rattle.rules.proofs.RuleLaws.{all_sync, all_follow_up, all_delay_resp, all_peer_answer, all_delay_req, all_p_delay_req, all_sync_stamped, all_delay_stamped, all_peer_stamped, all_response_stamped, all_sync_timer_ends, all_delay_timer_ends}
use Rattle.rules.proofs.StoringLaws.{sync_open, delay_open, slave_fit, all_settle_sync, all_settle_delay, all_settle_peer}
use Rattle.rules.proofs.PeerLaws.{second_same}
use Rattle.rules.specs.CompletingLaws.{becoming, response_completes, follow_up_completes, stamp_completes}
use Rattle.rules.proofs.CompletingLaws.{response_completes_lem, follow_up_completes_lem, stamp_completes_lem, behind, gated, sync_not_peer, follow_up_not_peer, delay_resp_not_peer, delay_stamp_not_peer}
use Rattle.rules.proofs.RefusalLaws.{taken_has}
use Rattle.rules.specs.StateLaws.{Quiet, Turns, TurnsBy, AfterState}

-- ---- what a message or a stamp does to state and reset

as_turns : (p : Port) (two two' back back' : Bool) (d : Done) → two' ≡ two → back' ≡ back → Turns p two back d → Turns p two' back' d
as_turns p two two' back back' d e f k =
    record {
      state = k.state ∙ sym (ap (λ (x : Bool). cond x 3 (cond back 0 (state_number p.state))) e) ∙ sym (ap (λ (x : Bool). cond two' 3 (cond x 0 (state_number p.state))) f);
      reset = k.reset ∙ sym (ap (λ (x : Bool). x || back) e) ∙ sym (ap (λ (x : Bool). two' || x) f);
    }

no_peer : (f c : Bool) → c ≡ false → (f && c) ≡ false
no_peer true c e = e
no_peer false c e = refl

quiet_turns : (p : Port) (sums : Sums) (d : Done) → is_peer sums.completes ≡ false → Quiet p d → TurnsBy p false sums d
quiet_turns p sums d e k =
    as_turns p false false false (is_faulty p.state && is_peer sums.completes) d refl (no_peer (is_faulty p.state) (is_peer sums.completes) e)
    (record { state = k.state; reset = k.reset })

all_quiet : (p : Port) (sums : Sums) (w : Worked Done) → is_peer sums.completes ≡ false → All (Quiet p) w → All (TurnsBy p false sums) w
all_quiet p sums w e k = all_map (Quiet p) (TurnsBy p false sums) Silent w (λ d. quiet_turns p sums d e) k

refusing : (P : Done → Type 0) (b : Bool) (o w : Outcome) → All P (cond b (refused o) (refused w))
refusing P true o w = tt
refusing P false o w = tt

recovers_number : (state : PortState) → state_number (recovered state) ≡ cond (is_faulty state && true) 0 (state_number state)
recovers_number PortState.Listening = refl
recovers_number PortState.Master = refl
recovers_number PortState.Passive = refl
recovers_number PortState.Faulty = refl
recovers_number (PortState.Slave s) = refl

module _ (p : Port) (fit : IsFit p) where
  idle : Quiet p (changed p false)
  idle = record { state = refl; reset = refl }

  still_slave : (s t : SlaveState) (d : Done) → p.state ≡ PortState.Slave s → d.port.state ≡ PortState.Slave t → d.reset ≡ false → Quiet p d
  still_slave s t d e f g = record { state = ap state_number f ∙ sym (ap state_number e); reset = g }

  quiet_sync : (s : SlaveState) (x : Exchange) → p.state ≡ PortState.Slave s → All (Quiet p) (settle (with_slave p (with_sync s x)))
  quiet_sync s x e =
      all_settle_sync (Quiet p) Silent tt p s x fit.peer.not_full (delay_open s.delay (slave_fit p s fit.state e).1)
      (λ k. still_slave s _ _ e refl refl) (λ raw m. still_slave s _ _ e refl refl)

  quiet_delay : (s : SlaveState) (x : Exchange) → p.state ≡ PortState.Slave s → All (Quiet p) (settle (with_slave p (with_delay s x)))
  quiet_delay s x e =
      all_settle_delay (Quiet p) Silent tt p s x fit.peer.not_full (sync_open s.sync (slave_fit p s fit.state e).0)
      (λ k. still_slave s _ _ e refl refl) (λ m. still_slave s _ _ e refl refl)

  turn_peer : (x : PeerState) → All (Turns p false (is_faulty p.state && peer_done x)) (settle (with_peer p x))
  turn_peer x =
      all_settle_peer (Turns p false (is_faulty p.state && peer_done x)) Silent tt p x fit.state
      (λ open_still.
      as_turns p false false false (is_faulty p.state && peer_done x) (changed (with_peer p x) false) refl (no_peer (is_faulty p.state) (peer_done x) open_still) (record { state = refl; reset = refl }))
      (λ id i m done.
      as_turns p false false (is_faulty p.state && true) (is_faulty p.state && peer_done x) (measured (peer_out p id i) m (is_faulty p.state)) refl (ap (λ (b : Bool). is_faulty p.state && b) done)
      (record { state = recovers_number p.state; reset = sym (and-true (is_faulty p.state)) }))

  -- ---- peer answers: the response and its follow-up have the same form
  module _ (h : Header) (requester : Identity) (answer : Worked (Change PeerState)) (lacks : Bool) (z : ℤ) (c : Completed)
      (completes : All (λ x. becoming x ≡ (peer_opened h.id p.peer && lacks && is_peer c)) answer) where
    abbrev us : Bool
    us = same_identity p.config.identity requester

    abbrev gate : Bool
    gate = us && not (second p h requester) && peer_opened h.id p.peer && lacks

    abbrev sums : Sums
    sums = cond gate (corrected z c) no_sums

    abbrev back : Bool
    back = is_faulty p.state && is_peer sums.completes

    shut : us ≡ false → is_peer sums.completes ≡ false
    shut e = behind gate (corrected z c) ∙ ap (λ (b : Bool). b && not (second p h requester) && peer_opened h.id p.peer && lacks && is_peer c) e

    second_heard_lem : us ≡ true → second p h requester ≡ second_responder h p.peer
    second_heard_lem e = ap (λ (b : Bool). b && differs (answered_by h.id p.peer) h.source) e ∙ sym (second_same h p.peer)

    opens : us ≡ true → second p h requester ≡ false → is_peer sums.completes ≡ (peer_opened h.id p.peer && lacks && is_peer c)
    opens e f =
        behind gate (corrected z c)
        ∙ ap (λ (b : Bool). b && not (second p h requester) && peer_opened h.id p.peer && lacks && is_peer c) e
        ∙ ap (λ (b : Bool). not b && peer_opened h.id p.peer && lacks && is_peer c) f

    peer_turns : All (TurnsBy p (second p h requester) sums) (peer_answer p h requester answer)
    peer_turns =
        all_peer_answer (TurnsBy p (second p h requester) sums) Silent tt p h requester answer (all_silent answer) (record {
          other = λ e.
              as_turns p false (second p h requester) back back _ (ap (λ (b : Bool). b && differs (answered_by h.id p.peer) h.source) e) refl (quiet_turns p sums _ (shut e) idle);
          twice = λ e two. as_turns p true (second p h requester) back back _ (second_heard_lem e ∙ two) refl (record { state = refl; reset = refl });
          same = λ e one k.
              let none_second : second p h requester ≡ false = second_heard_lem e ∙ one in
              as_turns p false (second p h requester) back back _ none_second refl
              (quiet_turns p sums _ (opens e none_second ∙ sym (all_is _ Silent answer stays k completes)) idle);
          new = λ e one x k.
              let none_second : second p h requester ≡ false = second_heard_lem e ∙ one in
              all_map (Turns p false (is_faulty p.state && peer_done x)) (TurnsBy p (second p h requester) sums) Silent (settle (with_peer p x))
              (λ d.
              as_turns p false (second p h requester) (is_faulty p.state && peer_done x) back d none_second
              (ap (λ (b : Bool). is_faulty p.state && b) (opens e none_second ∙ sym (all_is _ Silent answer (becomes x) k completes))))
              (turn_peer x);
        })

  -- ---- messages and stamps
  general_turns : (h : Header) (b : Body) (t : Time) → All (TurnsBy p (second_by_follow_up p h b t) (later_sums p h b t)) (on_general p h b t)
  unfolding on_general p_delay_resp_follow_up
  general_turns h (Body.Sync w) t = quiet_turns p no_sums _ refl idle
  general_turns h (Body.DelayReq w) t = quiet_turns p no_sums _ refl idle
  general_turns h (Body.PDelayReq w) t = quiet_turns p no_sums _ refl idle
  general_turns h (Body.PDelayResp w requester) t = quiet_turns p no_sums _ refl idle
  general_turns h (Body.FollowUp w) t =
      all_quiet p (later_sums p h (Body.FollowUp w) t) (follow_up p h t) (follow_up_not_peer p h (time t +ℤ correction h.correction))
      (all_follow_up (Quiet p) Silent tt p idle h t (λ s e u f x g. quiet_sync s x e))
  general_turns h (Body.DelayResp w requester) t =
      all_quiet p (later_sums p h (Body.DelayResp w requester) t) (delay_resp p h requester t) (delay_resp_not_peer p h requester (time t -ℤ correction h.correction))
      (all_delay_resp (Quiet p) Silent tt p idle h requester t (λ s e x g. quiet_delay s x e))
  general_turns h (Body.PDelayRespFollowUp w requester) t =
      let z : ℤ = time t +ℤ correction h.correction in
      peer_turns h requester (responded_later h (plus_correction t h) p.peer) (not (there (response_send_in p.peer))) z (follow_up_completes p.peer z)
      (follow_up_completes_lem h (plus_correction t h) p.peer z)

  event_turns : (at : Time) (h : Header) (b : Body) (t : Time) → All (TurnsBy p (second_by_answer p h b t) (event_sums p at h b t)) (on_event p at h b t)
  unfolding on_event on_general p_delay_resp
  event_turns at h (Body.Sync w) t =
      all_quiet p (event_sums p at h (Body.Sync w) t) (sync p h t at) (sync_not_peer p h (time t) (time at -ℤ correction h.correction))
      (all_sync (Quiet p) Silent tt p idle h t at (λ s e u f x g. quiet_sync s x e))
  event_turns at h (Body.DelayReq w) t =
      all_quiet p (event_sums p at h (Body.DelayReq w) t) (delay_req p h at) (gated (is_master p.state) _ refl)
      (all_delay_req (Quiet p) Silent tt p h at idle (λ m e. record { state = refl; reset = refl }))
  event_turns at h (Body.PDelayReq w) t =
      all_quiet p (event_sums p at h (Body.PDelayReq w) t) (p_delay_req p h at) refl (all_p_delay_req (Quiet p) Silent tt p h at (λ m e. record { state = refl; reset = refl }))
  event_turns at h (Body.PDelayResp w requester) t =
      let z : ℤ = time at -ℤ correction h.correction in
      peer_turns h requester (responded h t (less_correction at h) p.peer) (not (there (response_receive_in p.peer))) z (response_completes h p.peer (time t) z)
      (response_completes_lem h t (less_correction at h) p.peer (time t) z)
  event_turns at h (Body.FollowUp w) t = general_turns h (Body.FollowUp w) t
  event_turns at h (Body.DelayResp w requester) t = general_turns h (Body.DelayResp w requester) t
  event_turns at h (Body.PDelayRespFollowUp w requester) t = general_turns h (Body.PDelayRespFollowUp w requester) t

  stamp_turns : (t : Time) (c : Context) → All (TurnsBy p false (stamp_sums p t c)) (stamped p t c)
  stamp_turns t (Context.Sync id) =
      all_quiet p (stamp_sums p t (Context.Sync id)) (stamped p t (Context.Sync id)) (gated (is_master p.state) _ refl)
      (all_sync_stamped (Quiet p) Silent tt p t id idle (λ m e. record { state = refl; reset = refl }))
  stamp_turns t (Context.DelayReq id) =
      all_quiet p (stamp_sums p t (Context.DelayReq id)) (stamped p t (Context.DelayReq id)) (delay_stamp_not_peer p id (time t))
      (all_delay_stamped (Quiet p) Silent tt p t id idle (λ s e x g. quiet_delay s x e))
  stamp_turns t (Context.PDelayReq id) =
      let now : Sums = stamp_sums p t (Context.PDelayReq id) in
      let whole : becoming (peer_stamped id t p.peer) ≡ is_peer now.completes = stamp_completes_lem id t p.peer (time t) fit.peer.responder_known ∙ sym (behind (peer_opened id p.peer && not (there (request_send_in p.peer))) (record { numbers = []; completes = stamp_completes p.peer (time t) })) in
      all_peer_stamped (TurnsBy p false now) Silent tt p t id
      (λ k. quiet_turns p now _ (sym whole ∙ ap becoming k) idle)
      (λ x k.
      all_map (Turns p false (is_faulty p.state && peer_done x)) (TurnsBy p false now) Silent (settle (with_peer p x))
      (λ d. as_turns p false false (is_faulty p.state && peer_done x) (is_faulty p.state && is_peer now.completes) d refl (ap (λ (b : Bool). is_faulty p.state && b) (sym whole ∙ ap becoming k)))
      (turn_peer x))
  stamp_turns t (Context.PDelayResp id requester) =
      all_quiet p (stamp_sums p t (Context.PDelayResp id requester)) (stamped p t (Context.PDelayResp id requester)) refl
      (all_response_stamped (Quiet p) Silent tt p t id requester (λ m e. record { state = refl; reset = refl }))

  event_read : (at : Time) (r : Reading) → All (TurnsBy p (of_reading false (second_by_answer p) r) (of_reading no_sums (event_sums p at) r)) (viewed p.config r (on_event p at))
  event_read at (Ok (Received.Message h b t)) =
      all_cond _ Silent (ours p.config h) (on_event p at h b t) (refused Outcome.Foreign) (λ e. event_turns at h b t) (λ e. tt)
  event_read at (Ok (Received.Host h)) = refusing _ (ours p.config h) Outcome.Host Outcome.Foreign
  event_read at (Err ReadError.Version) = tt
  event_read at (Err ReadError.Malformed) = tt

  general_read : (r : Reading) → All (TurnsBy p (of_reading false (second_by_follow_up p) r) (of_reading no_sums (later_sums p) r)) (viewed p.config r (on_general p))
  general_read (Ok (Received.Message h b t)) =
      all_cond _ Silent (ours p.config h) (on_general p h b t) (refused Outcome.Foreign) (λ e. general_turns h b t) (λ e. tt)
  general_read (Ok (Received.Host h)) = refusing _ (ours p.config h) Outcome.Host Outcome.Foreign
  general_read (Err ReadError.Version) = tt
  general_read (Err ReadError.Malformed) = tt

-- ---- all events

set_number : (new : NewState) → state_number (state_of new) ≡ new_number new
set_number NewState.Listening = refl
set_number NewState.Master = refl
set_number NewState.Passive = refl
set_number NewState.Faulty = refl
set_number (NewState.Slave m) = refl

set_resets : (p : Port) (new : NewState) → (is_slave p.state || is_faulty p.state || is_faulty (state_of new)) ≡ reset_by_set p new
set_resets p NewState.Listening = or-false (is_slave p.state || is_faulty p.state)
set_resets p NewState.Master = or-false (is_slave p.state || is_faulty p.state)
set_resets p NewState.Passive = or-false (is_slave p.state || is_faulty p.state)
set_resets p NewState.Faulty = or-true (is_slave p.state || is_faulty p.state)
set_resets p (NewState.Slave m) = or-false (is_slave p.state || is_faulty p.state)

given_state : (p : Port) (mean : Option Duration) → (mean_given p mean).state ≡ p.state
given_state p None = refl
given_state p (Some d) = refl

rule_turns : (p : Port) (e : Event) → IsFit p → All (λ d. AfterState p e (answered p (worked d))) (rule_of p e)
unfolding rule_of state_after resets second_heard recovers sums_of filtered state_set
rule_turns p (event at l) fit =
    all_map (TurnsBy p (of_reading false (second_by_answer p) (read_of l)) (of_reading no_sums (event_sums p at) (read_of l))) _ Silent (viewed p.config (read_of l) (on_event p at))
    (λ d k. record { state = k.state; reset = k.reset }) (event_read p fit at (read_of l))
rule_turns p (general l) fit =
    all_map (TurnsBy p (of_reading false (second_by_follow_up p) (read_of l)) (of_reading no_sums (later_sums p) (read_of l))) _ Silent (viewed p.config (read_of l) (on_general p))
    (λ d k. record { state = k.state; reset = k.reset }) (general_read p fit (read_of l))
rule_turns p (stamp t c) fit =
    all_map (TurnsBy p false (stamp_sums p t c)) _ Silent (stamped p t c) (λ d k. record { state = k.state; reset = k.reset }) (stamp_turns p fit t c)
rule_turns p sync_timer fit =
    all_sync_timer_ends (λ d. AfterState p sync_timer (answered p (worked d))) Silent tt tt p (λ e. record { state = refl; reset = refl }) (λ e ns f. record { state = refl; reset = refl })
rule_turns p (delay_timer draw) fit =
    all_delay_timer_ends (λ d. AfterState p (delay_timer draw) (answered p (worked d))) Silent tt tt p draw
    (λ n e. record { state = refl; reset = refl })
    (λ s e m ns. record { state = sym (ap state_number e); reset = refl })
    (λ m ns. record { state = refl; reset = refl })
rule_turns p (filter_answer u) fit = record { state = ap state_number (given_state p u.mean_delay); reset = refl }
rule_turns p (set_state new) fit = record { state = set_number new; reset = set_resets p new }

module _ (p : Port) (room : ℕ) (e : Event) (t : (step p room e).outcome ≡ Outcome.Taken) where
  after : AfterState p e (step p room e)
  after = taken_has p room e (AfterState p e) (λ f l. rule_turns p e (fit_is p f)) t

  pub state_after_lem : state_number (step p room e).port.state ≡ state_after p e
  state_after_lem = after.state

  pub reset_after : (step p room e).reset ≡ resets p e
  reset_after = after.reset
