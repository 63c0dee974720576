-- What a taken event has sent, and the timers that it sets, are what `Sending` says. With `ActionLaws` that is the whole list of actions.
use Rattle.std.specs.Prelude.{◌≡◌, Bool, true, false, cond, ◌&&◌, not, List, [], ◌∷◌, ◌++◌, ◌↔◌, ℕ, eqb, length, Option, Some, None, Ok, Err, Result}
use Rattle.std.proofs.Math.Path.{refl}
use Rattle.std.proofs.Common.{sym, ap, ◌∙◌, subst}
use Rattle.std.proofs.lemmas.Bool.{not-false}
use Rattle.timers.specs.Timers as Timers
use Rattle.timers.proofs.TimerLaws.{sync_in, delay_in}
use Rattle.wire.specs.declared.MessageType.TheVariants as M
use Rattle.octets.proofs.BytesLaws.{apart}
use Rattle.wire.specs.Layout.{row, type_of}
use Rattle.reading.specs.Reading.{read_of}
use Rattle.wire.proofs.LayoutLaws.{length_message}
use Rattle.sent.specs.Messages.{follow_up_of, delay_resp_of}
use Rattle.record.specs.Record.{is_master, is_slave, as_slave, with_sync, with_delay, with_slave, with_peer}
use Rattle.fitness.specs.Fit.{draw_out}
use Rattle.fitness.specs.FitLaws.{FitConfig}
use Rattle.fitness.proofs.FitLaws.{fit_is, config_is}
use Rattle.rules.specs.Names.{Body, Time, Header, Message, Mechanism, Config, SlaveState, PortState, Port, Context, Action, Outcome, TimerError, Received, ReadError, Reading}
use Rattle.rules.specs.Worked.{Worked, refused, ◌then◌, a_timer}
use Rattle.rules.specs.Events.{Event, event, general, stamp, sync_timer, delay_timer, filter_answer, set_state, Done, Answered, packet, nothing, changed}
use Rattle.rules.specs.Measuring.{settle}
use Rattle.rules.specs.Rules.{sender_of, delay_req, on_event, on_general, stamped, request, delay_timer_ends, sync_timer_ends, filtered, update_given, state_set}
use Rattle.rules.specs.WorkedOut.{of_reading}
use Rattle.rules.specs.Table.{ours, row3}
use Rattle.rules.specs.Step.{viewed, rule_of, step}
use Rattle.rules.specs.Sending.{no_time, left, came, Due, own_due, answer_due, stamp_due, request_due, heard_due, due, timers_in, if_due, update_due, timers_due, Sends}
use Rattle.rules.specs.AllLaws.{All, Silent}
use Rattle.rules.proofs.AllLaws.{all_is, all_cond, all_sent}
use Rattle.rules.proofs.RuleLaws.{all_settle, all_sync, all_follow_up, all_delay_resp, all_p_delay_resp, all_p_delay_resp_follow_up, all_p_delay_req, all_delay_stamped, all_peer_stamped, all_response_stamped}
use Rattle.rules.proofs.EveryLaws.{silent, all_viewed}
use Rattle.rules.specs.RefusalLaws.{IsTaken}
use Rattle.rules.proofs.RefusalLaws.{taken_is}
use Rattle.rules.specs.Actions.{is_timer, is_empty, one_is, timers_first, packets_in, packet_for}
use Rattle.rules.specs.ActionLaws.{Orderly}
use Rattle.rules.proofs.ActionLaws.{actions_orderly, packet_says}
use Rattle.rules.proofs.DueLaws.{sync_tells, delay_req_tells, pdelay_req_tells, delay_resp_tells, pdelay_resp_tells, follow_up_tells, pdelay_resp_follow_up_tells, sent_once}
use Rattle.rules.specs.SendingLaws.{Does, IsSent}

-- ---- by rule: its message, and the timers among its actions

refusing : (P : Done → Type 0) (b : Bool) (o w : Outcome) → All P (cond b (refused o) (refused w))
refusing P true o w = tt
refusing P false o w = tt

-- a test decides whether anything is due
by_test : (P : Option Due → Done → Type 0) (b : Bool) (x : Option Due) (w v : Worked Done) → All (P x) w → All (P None) v → All (P (cond b x None)) (cond b w v)
by_test P true x w v f g = f
by_test P false x w v f g = g

as_slave_lem : (P : Option Due → Done → Type 0) (state : PortState) (x : Option Due) (other : Worked Done) (f : SlaveState → Worked Done) → ((s : SlaveState) → All (P x) (f s)) → All (P None) other → All (P (cond (is_slave state) x None)) (as_slave state other f)
as_slave_lem P PortState.Listening x other f g h = h
as_slave_lem P PortState.Master x other f g h = h
as_slave_lem P PortState.Passive x other f g h = h
as_slave_lem P PortState.Faulty x other f g h = h
as_slave_lem P (PortState.Slave s) x other f g h = g s

-- a timer that is known
known_timer : (P : Done → Type 0) (a : Result ℕ TimerError) (ns : ℕ) (next : ℕ → Worked Done) → a ≡ Ok ns → All P (next ns) → All P (a_timer a then next)
known_timer P a ns next e f = subst (λ (y : Result ℕ TimerError). All P (a_timer y then next)) (sym e) f

module _ (p : Port) where
  -- for messages and stamps: no timer
  abbrev pub Only : Option Due → Done → Type 0
  Only x d = Does p.config x [] d

  idle : Only None (changed p false)
  idle = record { message = tt; set = refl }

  settled : (q : Port) → All (Only None) (settle q)
  settled q =
      all_settle (Only None) Silent tt q (record { message = tt; set = refl }) (λ s raw m. record { message = tt; set = refl })
      (λ s m. record { message = tt; set = refl }) (λ id i m. record { message = tt; set = refl })

  pub on_general_lem : (h : Header) (b : Body) (t : Time) → All (Only None) (on_general p h b t)
  unfolding on_general
  on_general_lem h (Body.Sync w) t = idle
  on_general_lem h (Body.DelayReq w) t = idle
  on_general_lem h (Body.PDelayReq w) t = idle
  on_general_lem h (Body.PDelayResp w requester) t = idle
  on_general_lem h (Body.FollowUp w) t = all_follow_up (Only None) Silent tt p idle h t (λ s e u f x g. settled (with_slave p (with_sync s x)))
  on_general_lem h (Body.DelayResp w requester) t =
      all_delay_resp (Only None) Silent tt p idle h requester t (λ s e x g. settled (with_slave p (with_delay s x)))
  on_general_lem h (Body.PDelayRespFollowUp w requester) t =
      all_p_delay_resp_follow_up (Only None) Silent tt p h requester t
      (record { other = λ us. idle; twice = λ us two. record { message = tt; set = refl }; same = λ us one e. idle; new = λ us one x e. settled (with_peer p x) })

  pub on_event_lem : (at : Time) (h : Header) (b : Body) (t : Time) → All (Only (heard_due p at h b t)) (on_event p at h b t)
  unfolding on_event on_general delay_req
  on_event_lem at h (Body.Sync w) t = all_sync (Only None) Silent tt p idle h t at (λ s e u f x g. settled (with_slave p (with_sync s x)))
  on_event_lem at h (Body.DelayReq w) t =
      let x : Option Due = answer_due M.DelayResp h.id h.source (came at h.correction) in
      by_test Only (is_master p.state) x _ (nothing p)
      (all_sent (Only x) Silent tt (delay_resp_of (sender_of p.config) h p.config.delay_interval at) _ (λ m e.
      record { message = delay_resp_tells p.config at m h e; set = refl }))
      idle
  on_event_lem at h (Body.PDelayReq w) t =
      all_p_delay_req (Only (heard_due p at h (Body.PDelayReq w) t)) Silent tt p h at (λ m e. record { message = pdelay_resp_tells p.config at m h e; set = refl })
  on_event_lem at h (Body.PDelayResp w requester) t =
      all_p_delay_resp (Only None) Silent tt p h requester t at
      (record { other = λ us. idle; twice = λ us two. record { message = tt; set = refl }; same = λ us one e. idle; new = λ us one x e. settled (with_peer p x) })
  on_event_lem at h (Body.FollowUp w) t = on_general_lem h (Body.FollowUp w) t
  on_event_lem at h (Body.DelayResp w requester) t = on_general_lem h (Body.DelayResp w requester) t
  on_event_lem at h (Body.PDelayRespFollowUp w requester) t = on_general_lem h (Body.PDelayRespFollowUp w requester) t

  pub on_stamp : (t : Time) (c : Context) → All (Only (stamp_due p t c)) (stamped p t c)
  unfolding stamped
  on_stamp t (Context.Sync id) =
      let x : Option Due = own_due M.FollowUp id (left t) in
      by_test Only (is_master p.state) x _ (nothing p)
      (all_sent (Only x) Silent tt (follow_up_of (sender_of p.config) id p.config.sync_interval t) _ (λ m e.
      record { message = follow_up_tells p.config t m id e; set = refl }))
      idle
  on_stamp t (Context.DelayReq id) = all_delay_stamped (Only None) Silent tt p t id idle (λ s e x g. settled (with_slave p (with_delay s x)))
  on_stamp t (Context.PDelayReq id) = all_peer_stamped (Only None) Silent tt p t id (λ e. idle) (λ x e. settled (with_peer p x))
  on_stamp t (Context.PDelayResp id i) =
      all_response_stamped (Only (stamp_due p t (Context.PDelayResp id i))) Silent tt p t id i (λ m e. record { message = pdelay_resp_follow_up_tells p.config t m id i e; set = refl })

  heard : (at : Time) (r : Reading) → All (Only (of_reading None (heard_due p at) r)) (viewed p.config r (on_event p at))
  heard at (Ok (Received.Message h b t)) =
      all_cond _ Silent (ours p.config h) (on_event p at h b t) (refused Outcome.Foreign) (λ e. on_event_lem at h b t) (λ e. tt)
  heard at (Ok (Received.Host h)) = refusing _ (ours p.config h) Outcome.Host Outcome.Foreign
  heard at (Err ReadError.Version) = tt
  heard at (Err ReadError.Malformed) = tt

  -- for timers that ran out
  module _ (fit : FitConfig p.config) where
    abbrev sync_set : Action
    sync_set = Action.ResetSyncTimer (Timers.sync_timer (Timers.interval p.config.sync_interval))

    on_sync_timer : All (λ d. Does p.config (cond (is_master p.state) (own_due M.Sync p.ids.sync no_time) None) (if_due (cond (is_master p.state) (own_due M.Sync p.ids.sync no_time) None) sync_set) d) (sync_timer_ends p)
    unfolding sync_timer_ends
    on_sync_timer =
        by_test (λ x d. Does p.config x (if_due x sync_set) d) (is_master p.state) (own_due M.Sync p.ids.sync no_time) _ (nothing p)
        (known_timer _ (Timers.sync_timer_of p.config.sync_interval) _ _ (sync_in p.config.sync_interval fit.sync)
        (record { message = sync_tells p.config p.ids.sync; set = refl }))
        (record { message = tt; set = refl })

    module _ (draw : ℕ) (drawn : Timers.in_draw draw ≡ true) where
      abbrev delay_set : Action
      delay_set = Action.ResetDelayRequestTimer (Timers.delay_timer (Timers.interval p.config.delay_interval) draw)

      on_request : (m : Mechanism) → All (λ d. Does p.config (request_due p m) (if_due (request_due p m) delay_set) d) (request p draw m)
      on_request Mechanism.EndToEnd =
          as_slave_lem (λ x d. Does p.config x (if_due x delay_set) d) p.state (own_due M.DelayReq p.ids.delay no_time) (nothing p) _
          (λ s.
          known_timer _ (Timers.delay_timer_of p.config.delay_interval draw) _ _ (delay_in p.config.delay_interval draw fit.delay drawn)
          (record { message = delay_req_tells p.config p.ids.delay; set = refl }))
          (record { message = tt; set = refl })
      on_request Mechanism.Peer =
          known_timer _ (Timers.delay_timer_of p.config.delay_interval draw) _ _ (delay_in p.config.delay_interval draw fit.delay drawn)
          (record { message = pdelay_req_tells p.config p.ids.peer; set = refl })

update_timers : (next : Option ℕ) → timers_in (update_given next) ≡ update_due next
update_timers None = refl
update_timers (Some ns) = refl

rule_does : (p : Port) (e : Event) → FitConfig p.config → row3 e ≡ false → All (Does p.config (due p e) (timers_due p e)) (rule_of p e)
unfolding rule_of due timers_due row3 draw_out delay_timer_ends filtered state_set
rule_does p (event at l) fit r = heard p at (read_of l)
rule_does p (general l) fit r = all_viewed (Only p None) Silent silent p.config (read_of l) (on_general p) (λ h b t e. on_general_lem p h b t)
rule_does p (stamp t c) fit r = on_stamp p t c
rule_does p sync_timer fit r = on_sync_timer p fit
rule_does p (delay_timer draw) fit r = on_request p fit draw (not-false (Timers.in_draw draw) r) p.config.mechanism
rule_does p (filter_answer u) fit r = record { message = tt; set = update_timers u.next_update }
rule_does p (set_state new) fit r = record { message = tt; set = refl }

-- ---- nothing is due, and nothing is sent

-- a message of any type has bytes
not_empty : (m : Message) → packet (Some m) ≡ [] → ⊥
not_empty m e = go m.body (sym (length_message m.header m.body) ∙ ap length e)
  where
    go : (b : Body) → (row (type_of b)).length ≡ 0 → ⊥
    go (Body.Sync w) f = apart (ap (λ (n : ℕ). cond (eqb n 0) 1 0) f)
    go (Body.DelayReq w) f = apart (ap (λ (n : ℕ). cond (eqb n 0) 1 0) f)
    go (Body.PDelayReq w) f = apart (ap (λ (n : ℕ). cond (eqb n 0) 1 0) f)
    go (Body.PDelayResp w i) f = apart (ap (λ (n : ℕ). cond (eqb n 0) 1 0) f)
    go (Body.FollowUp w) f = apart (ap (λ (n : ℕ). cond (eqb n 0) 1 0) f)
    go (Body.DelayResp w i) f = apart (ap (λ (n : ℕ). cond (eqb n 0) 1 0) f)
    go (Body.PDelayRespFollowUp w i) f = apart (ap (λ (n : ℕ). cond (eqb n 0) 1 0) f)

sends_none : (c : Config) (x : Option Due) (m : Option Message) → Sends c x m → packet m ≡ [] → x ≡ None
sends_none c None m k e = refl
sends_none c (Some d) None k e = absurd k
sends_none c (Some d) (Some m) k e = absurd (not_empty m e)

none_sends : (c : Config) (x : Option Due) (m : Option Message) → Sends c x m → x ≡ None → packet m ≡ []
none_sends c None None k e = refl
none_sends c None (Some m) k e = absurd k
none_sends c (Some d) m k e = absurd (apart cc)

-- ---- actions of which none is empty, and none a timer behind a packet: the timers and then the packets

no_timers : (xs : List Action) → one_is is_timer xs ≡ false → timers_in xs ≡ []
no_timers [] e = refl
no_timers (Action.None ∷ xs) e = no_timers xs e
no_timers (Action.ResetSyncTimer ns ∷ xs) e = absurd (apart cc)
no_timers (Action.ResetDelayRequestTimer ns ∷ xs) e = absurd (apart cc)
no_timers (Action.ResetFilterUpdateTimer ns ∷ xs) e = absurd (apart cc)
no_timers (Action.SendEvent c l ∷ xs) e = no_timers xs e
no_timers (Action.SendGeneral l ∷ xs) e = no_timers xs e

both_hold : (b c : Bool) → (not b && c) ≡ true → (b ≡ false) × (c ≡ true)
both_hold true c e = absurd (apart cc)
both_hold false c e = (refl, e)

packet_behind : (a : Action) (xs : List Action) → timers_in xs ≡ [] → xs ≡ timers_in xs ++ packets_in xs → ◌≡◌ {A = List Action} (a ∷ xs) (timers_in xs ++ (a ∷ packets_in xs))
packet_behind a xs n e =
    ap (λ (ys : List Action). a ∷ ys) e ∙ ap (λ (ys : List Action). a ∷ (ys ++ packets_in xs)) n ∙ sym (ap (λ (ys : List Action). ys ++ (a ∷ packets_in xs)) n)

in_order : (xs : List Action) → one_is is_empty xs ≡ false → timers_first xs ≡ true → xs ≡ timers_in xs ++ packets_in xs
in_order [] e f = refl
in_order (Action.None ∷ xs) e f = absurd (apart cc)
in_order (Action.ResetSyncTimer ns ∷ xs) e f = ap (λ (ys : List Action). Action.ResetSyncTimer ns ∷ ys) (in_order xs e f)
in_order (Action.ResetDelayRequestTimer ns ∷ xs) e f = ap (λ (ys : List Action). Action.ResetDelayRequestTimer ns ∷ ys) (in_order xs e f)
in_order (Action.ResetFilterUpdateTimer ns ∷ xs) e f = ap (λ (ys : List Action). Action.ResetFilterUpdateTimer ns ∷ ys) (in_order xs e f)
in_order (Action.SendEvent c l ∷ xs) e f =
    let (n, g) = both_hold (one_is is_timer xs) (timers_first xs) f in
    packet_behind (Action.SendEvent c l) xs (no_timers xs n) (in_order xs e g)
in_order (Action.SendGeneral l ∷ xs) e f =
    let (n, g) = both_hold (one_is is_timer xs) (timers_first xs) f in
    packet_behind (Action.SendGeneral l) xs (no_timers xs n) (in_order xs e g)

-- ---- a taken event

module _ (p : Port) (room : ℕ) (e : Event) where
  taken_does : (k : IsTaken p room e) → Does p.config (due p e) (timers_due p e) k.done
  taken_does k =
      all_is (Does p.config (due p e) (timers_due p e)) Silent (rule_of p e) k.done k.rule (rule_does p e (config_is p.config (fit_is p k.fit).config) k.limits)

  pub message_is : (k : IsTaken p room e) → Sends p.config (due p e) k.done.message
  message_is k = (taken_does k).message

  pub actions_are : (k : IsTaken p room e) → (step p room e).actions ≡ timers_due p e ++ packet_for k.done.message
  actions_are k =
      let same : (step p room e).actions ≡ k.done.actions = ap (λ (r : Answered). r.actions) k.result in
      let o : Orderly (step p room e) = actions_orderly p room e in
      in_order (step p room e).actions o.none_empty o.has_timers_first
      ∙ ap (λ (xs : List Action). timers_in xs ++ packets_in xs) same
      ∙ ap (λ (xs : List Action). xs ++ packets_in k.done.actions) (taken_does k).set
      ∙ ap (λ (xs : List Action). timers_due p e ++ xs) (packet_says p room e k)

  module _ (t : (step p room e).outcome ≡ Outcome.Taken) where
    pub sent_is : IsSent p e (step p room e)
    sent_is =
        let k : IsTaken p room e = taken_is p room e t in
        record { message = k.done.message; as_due = message_is k; bytes = ap (λ (r : Answered). r.sent) k.result; actions = actions_are k }

    -- an empty packet exactly where nothing is due
    pub unsent_when : ((step p room e).sent ≡ []) ↔ (due p e ≡ None)
    unsent_when =
        let k : IsSent p e (step p room e) = sent_is in
        (λ f. sends_none p.config (due p e) k.message k.as_due (sym k.bytes ∙ f), λ f. k.bytes ∙ none_sends p.config (due p e) k.message k.as_due f)

    pub timers_are : timers_in (step p room e).actions ≡ timers_due p e
    timers_are =
        let k : IsTaken p room e = taken_is p room e t in
        ap (λ (r : Answered). timers_in r.actions) k.result ∙ (taken_does k).set

    -- so packet and actions are those of any message that tells what is due: there is no choice
    pub sent_only : (m : Option Message) → Sends p.config (due p e) m → ((step p room e).sent ≡ packet m) × ((step p room e).actions ≡ timers_due p e ++ packet_for m)
    sent_only m f =
        let k : IsSent p e (step p room e) = sent_is in
        let same : k.message ≡ m = sent_once p.config (due p e) k.message m k.as_due f in
        (k.bytes ∙ ap packet same, k.actions ∙ ap (λ (n : Option Message). timers_due p e ++ packet_for n) same)
