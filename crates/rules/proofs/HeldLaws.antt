-- The whole record after a taken event, determined without the rules: `Held` for its exchanges, `Changes` for the rest of it. And which exchanges an event leaves alone.
use Rattle.std.specs.Prelude.{ℕ, ◌≡◌, Bool, true, cond, ◌&&◌, List, eqb, Option, Some, None, Ok, Err}
use Rattle.std.proofs.Math.Path.{refl, sym}
use Rattle.std.proofs.Common.{ap, ◌∙◌, subst}
use Rattle.std.proofs.Math.Bool.{false}
use Rattle.reading.specs.Reading.{read_of}
use Rattle.record.specs.Record.{state_number, is_faulty, as_slave}
use Rattle.rules.specs.Names.{Time, Header, Body, SlaveState, PortState, Mechanism, Port, Context, NewState, Outcome, Duration, Received, ReadError, Reading}
use Rattle.rules.specs.Worked.{Worked, worked, refused}
use Rattle.rules.specs.Events.{Event, event, general, stamp, sync_timer, delay_timer, filter_answer, set_state, Done, Answered, answered, changed}
use Rattle.rules.specs.Rules.{stamped, delay_timer_ends, on_event, on_general, filtered, mean_given, state_set, state_of}
use Rattle.rules.specs.WorkedOut.{of_reading, sums_of}
use Rattle.rules.specs.Changes.{second_heard, recovers, new_number, state_after, ids_after, mean_after}
use Rattle.rules.specs.Held.{later_held, event_held, stamp_held, request_held, state_given, exchanges_after, state_held, peer_after, Concern, nobody, of_slave, of_peer, message_concern, stamp_concern, request_concern, concerned}
use Rattle.rules.specs.Table.{ours}
use Rattle.rules.specs.Step.{viewed, rule_of, step}
use Rattle.rules.specs.SumsLaws.{Open}
use Rattle.rules.proofs.SumsLaws.{fit_open}
use Rattle.rules.proofs.AgreeLaws.{by_test}
use Rattle.rules.specs.AllLaws.{All, Silent}
use Rattle.rules.proofs.AllLaws.{all_map}
use Rattle.rules.proofs.RuleLaws.{all_delay_req, all_p_delay_req, all_sync_stamped, all_response_stamped, all_sync_timer_ends}
use Rattle.rules.proofs.RefusalLaws.{taken_has}
use Rattle.rules.proofs.ChangeLaws.{config_after, ids_after_lem, mean_after_lem}
use Rattle.rules.proofs.StateLaws.{state_after_lem}
use Rattle.rules.specs.HeldSyncLaws.{OnlySlave, EndsAs}
use Rattle.rules.proofs.HeldSyncLaws.{own_state, sync_by, follow_up_by}
use Rattle.rules.proofs.HeldRequestLaws.{delay_stamp_by, delay_resp_by, request_by, peer_stamp_holds, pdelay_resp_holds, pdelay_resp_follow_up_holds}

-- ---- every rule

module _ (p : Port) (o : Open p) where
  idle : EndsAs p (changed p false)
  idle = record { state = own_state p.state; peer = refl }

  later_holds : (h : Header) (b : Body) (t : Time) → All (EndsAs (later_held p h b t)) (on_general p h b t)
  unfolding on_general
  later_holds h (Body.Sync w) t = idle
  later_holds h (Body.DelayReq w) t = idle
  later_holds h (Body.PDelayReq w) t = idle
  later_holds h (Body.PDelayResp w requester) t = idle
  later_holds h (Body.FollowUp w) t = follow_up_by p h t p.state o
  later_holds h (Body.DelayResp w requester) t = delay_resp_by p h requester t p.state o
  later_holds h (Body.PDelayRespFollowUp w requester) t = pdelay_resp_follow_up_holds p o.slave h requester p.peer t

  event_holds : (at : Time) (h : Header) (b : Body) (t : Time) → All (EndsAs (event_held p at h b t)) (on_event p at h b t)
  unfolding on_event on_general
  event_holds at h (Body.Sync w) t = sync_by p h t at p.state o
  event_holds at h (Body.DelayReq w) t =
      all_delay_req (EndsAs p) Silent tt p h at (idle) (λ m e. record { state = own_state p.state; peer = refl })
  event_holds at h (Body.PDelayReq w) t =
      all_p_delay_req (EndsAs p) Silent tt p h at (λ m e. record { state = own_state p.state; peer = refl })
  event_holds at h (Body.PDelayResp w requester) t = pdelay_resp_holds p o.slave h requester p.peer t at
  event_holds at h (Body.FollowUp w) t = follow_up_by p h t p.state o
  event_holds at h (Body.DelayResp w requester) t = delay_resp_by p h requester t p.state o
  event_holds at h (Body.PDelayRespFollowUp w requester) t = pdelay_resp_follow_up_holds p o.slave h requester p.peer t

  stamp_holds : (t : Time) (c : Context) → All (EndsAs (stamp_held p t c)) (stamped p t c)
  stamp_holds t (Context.Sync id) =
      all_sync_stamped (EndsAs p) Silent tt p t id (idle) (λ m e. record { state = own_state p.state; peer = refl })
  stamp_holds t (Context.DelayReq id) = delay_stamp_by p id t p.state o
  stamp_holds t (Context.PDelayReq id) = peer_stamp_holds p o.slave p.peer id t
  stamp_holds t (Context.PDelayResp id requester) =
      all_response_stamped (EndsAs p) Silent tt p t id requester (λ m e. record { state = own_state p.state; peer = refl })

  read_holds : (held : Header → Body → Time → Port) (rule : Header → Body → Time → Worked Done) → ((h : Header) (b : Body) (t : Time) → All (EndsAs (held h b t)) (rule h b t)) → (r : Reading) → All (EndsAs (of_reading p held r)) (viewed p.config r rule)
  read_holds held rule each (Ok (Received.Message h b t)) =
      by_test (λ own w. All (EndsAs (held h b t)) w) (ours p.config h) (rule h b t) (refused Outcome.Foreign) (each h b t) tt
  read_holds held rule each (Ok (Received.Host h)) =
      by_test (λ own w. All (EndsAs p) w) (ours p.config h) (refused Outcome.Host) (refused Outcome.Foreign) tt tt
  read_holds held rule each (Err ReadError.Version) = tt
  read_holds held rule each (Err ReadError.Malformed) = tt

  filter_holds : (mean : Option Duration) → OnlySlave p.state (mean_given p mean).state × (p.peer ≡ (mean_given p mean).peer)
  filter_holds None = (own_state p.state, refl)
  filter_holds (Some d) = (own_state p.state, refl)

  set_holds : (new : NewState) → OnlySlave (state_given new) (state_of new)
  set_holds NewState.Listening = tt
  set_holds NewState.Master = tt
  set_holds NewState.Passive = tt
  set_holds NewState.Faulty = tt
  set_holds (NewState.Slave m) = refl

  rule_holds : (e : Event) → All (EndsAs (exchanges_after p e)) (rule_of p e)
  unfolding rule_of exchanges_after delay_timer_ends filtered state_set
  rule_holds (event at message) = read_holds (event_held p at) (on_event p at) (event_holds at) (read_of message)
  rule_holds (general message) = read_holds (later_held p) (on_general p) later_holds (read_of message)
  rule_holds (stamp at context) = stamp_holds at context
  rule_holds sync_timer =
      all_sync_timer_ends (EndsAs p) Silent tt tt p (λ n. idle) (λ m ns k. record { state = own_state p.state; peer = refl })
  rule_holds (delay_timer draw) = request_by p draw p.config.mechanism p.state
  rule_holds (filter_answer u) = record { state = (filter_holds u.mean_delay).0; peer = (filter_holds u.mean_delay).1 }
  rule_holds (set_state new) = record { state = set_holds new; peer = refl }

-- ---- a state is its number, and a Slave's its part

rebuilt : ℕ → PortState → PortState
rebuilt n z =
    cond (eqb n 0) PortState.Listening (cond (eqb n 1) PortState.Master (cond (eqb n 2) PortState.Passive (cond (eqb n 3) PortState.Faulty z)))

is_rebuilt : (z a : PortState) → OnlySlave z a → rebuilt (state_number a) z ≡ a
unfolding rebuilt
is_rebuilt z PortState.Listening k = refl
is_rebuilt z PortState.Master k = refl
is_rebuilt z PortState.Passive k = refl
is_rebuilt z PortState.Faulty k = refl
is_rebuilt z (PortState.Slave s) k = k

same_state : (z a b : PortState) → OnlySlave z a → OnlySlave z b → state_number a ≡ state_number b → a ≡ b
same_state z a b k l e = sym (is_rebuilt z a k) ∙ ap (λ (n : ℕ). rebuilt n z) e ∙ is_rebuilt z b l

left_or_slave : (b c : Bool) (z : PortState) → OnlySlave z (cond b PortState.Faulty (cond c PortState.Listening z))
left_or_slave true c z = tt
left_or_slave false true z = tt
left_or_slave false false z = own_state z

-- ---- the number of the state that `Held` says is the one that `Changes` says

number_left : (b c : Bool) (z : PortState) (n : ℕ) → state_number z ≡ n → state_number (cond b PortState.Faulty (cond c PortState.Listening z)) ≡ cond b 3 (cond c 0 n)
number_left true c z n e = refl
number_left false true z n e = refl
number_left false false z n e = e

not_recovered : (b : Bool) (z : PortState) → state_number (cond (b && false) PortState.Listening z) ≡ state_number z
not_recovered true z = refl
not_recovered false z = refl

slave_number : (state : PortState) (f : SlaveState → SlaveState) → state_number (as_slave state state (λ s. PortState.Slave (f s))) ≡ state_number state
slave_number PortState.Listening f = refl
slave_number PortState.Master f = refl
slave_number PortState.Passive f = refl
slave_number PortState.Faulty f = refl
slave_number (PortState.Slave s) f = refl

given_number : (new : NewState) → state_number (state_given new) ≡ new_number new
given_number NewState.Listening = refl
given_number NewState.Master = refl
given_number NewState.Passive = refl
given_number NewState.Faulty = refl
given_number (NewState.Slave m) = refl

-- what is left alone, by whom the event can concern; only set state begins another state
module _ (p : Port) where
  abbrev Leaves : Concern → Port → Type 0
  Leaves nobody q = q ≡ p
  Leaves of_slave q = (state_number q.state ≡ state_number p.state) × (q.peer ≡ p.peer)
  Leaves of_peer q = q.state ≡ p.state

  later_leaves : (h : Header) (b : Body) (t : Time) → Leaves (message_concern false b) (later_held p h b t)
  later_leaves h (Body.Sync w) t = refl
  later_leaves h (Body.DelayReq w) t = refl
  later_leaves h (Body.PDelayReq w) t = refl
  later_leaves h (Body.PDelayResp w requester) t = refl
  later_leaves h (Body.FollowUp w) t = (slave_number p.state _, refl)
  later_leaves h (Body.DelayResp w requester) t = (slave_number p.state _, refl)
  later_leaves h (Body.PDelayRespFollowUp w requester) t = refl

  event_leaves : (at : Time) (h : Header) (b : Body) (t : Time) → Leaves (message_concern true b) (event_held p at h b t)
  event_leaves at h (Body.Sync w) t = (slave_number p.state _, refl)
  event_leaves at h (Body.DelayReq w) t = refl
  event_leaves at h (Body.PDelayReq w) t = refl
  event_leaves at h (Body.PDelayResp w requester) t = refl
  event_leaves at h (Body.FollowUp w) t = (slave_number p.state _, refl)
  event_leaves at h (Body.DelayResp w requester) t = (slave_number p.state _, refl)
  event_leaves at h (Body.PDelayRespFollowUp w requester) t = refl

  stamp_leaves : (t : Time) (c : Context) → Leaves (stamp_concern c) (stamp_held p t c)
  stamp_leaves t (Context.Sync id) = refl
  stamp_leaves t (Context.DelayReq id) = (slave_number p.state _, refl)
  stamp_leaves t (Context.PDelayReq id) = refl
  stamp_leaves t (Context.PDelayResp id requester) = refl

  request_leaves : (m : Mechanism) → Leaves (request_concern m) (request_held p m)
  request_leaves Mechanism.EndToEnd = (slave_number p.state _, refl)
  request_leaves Mechanism.Peer = refl

  read_leaves : (concern : Body → Concern) (held : Header → Body → Time → Port) → ((h : Header) (b : Body) (t : Time) → Leaves (concern b) (held h b t)) → (r : Reading) → Leaves (of_reading nobody (λ h b t. concern b) r) (of_reading p held r)
  read_leaves concern held each (Ok (Received.Message h b t)) = each h b t
  read_leaves concern held each (Ok (Received.Host h)) = refl
  read_leaves concern held each (Err ReadError.Version) = refl
  read_leaves concern held each (Err ReadError.Malformed) = refl

  number_stays : (c : Concern) (q : Port) → Leaves c q → state_number q.state ≡ state_number p.state
  number_stays nobody q k = ap (λ (r : Port). state_number r.state) k
  number_stays of_slave q k = k.0
  number_stays of_peer q k = ap state_number k

  peer_stays : (c : Concern) (q : Port) → (c ≡ of_peer → ⊥) → Leaves c q → q.peer ≡ p.peer
  peer_stays nobody q n k = ap (λ (r : Port). r.peer) k
  peer_stays of_slave q n k = k.1
  peer_stays of_peer q n k = absurd (n refl)

  state_stays : (c : Concern) (q : Port) → (c ≡ of_slave → ⊥) → Leaves c q → q.state ≡ p.state
  state_stays nobody q n k = ap (λ (r : Port). r.state) k
  state_stays of_slave q n k = absurd (n refl)
  state_stays of_peer q n k = k

  event_left : (at : Time) (l : List ℕ) → Leaves (concerned p (event at l)) (exchanges_after p (event at l))
  unfolding concerned exchanges_after
  event_left at l = read_leaves (message_concern true) (event_held p at) (event_leaves at) (read_of l)

  general_left : (l : List ℕ) → Leaves (concerned p (general l)) (exchanges_after p (general l))
  unfolding concerned exchanges_after
  general_left l = read_leaves (message_concern false) (later_held p) later_leaves (read_of l)

  peer_left : (e : Event) → (concerned p e ≡ of_peer → ⊥) → (exchanges_after p e).peer ≡ p.peer
  unfolding concerned exchanges_after
  peer_left (event at l) n = peer_stays _ (exchanges_after p (event at l)) n (event_left at l)
  peer_left (general l) n = peer_stays _ (exchanges_after p (general l)) n (general_left l)
  peer_left (stamp at c) n = peer_stays (stamp_concern c) (stamp_held p at c) n (stamp_leaves at c)
  peer_left sync_timer n = refl
  peer_left (delay_timer draw) n = peer_stays _ (request_held p p.config.mechanism) n (request_leaves p.config.mechanism)
  peer_left (filter_answer u) n = refl
  peer_left (set_state new) n = refl

  state_left : (e : Event) → (concerned p e ≡ of_slave → ⊥) → (exchanges_after p e).state ≡ p.state
  unfolding concerned exchanges_after
  state_left (event at l) n = state_stays _ (exchanges_after p (event at l)) n (event_left at l)
  state_left (general l) n = state_stays _ (exchanges_after p (general l)) n (general_left l)
  state_left (stamp at c) n = state_stays (stamp_concern c) (stamp_held p at c) n (stamp_leaves at c)
  state_left sync_timer n = refl
  state_left (delay_timer draw) n = state_stays _ (request_held p p.config.mechanism) n (request_leaves p.config.mechanism)
  state_left (filter_answer u) n = refl
  state_left (set_state new) n = absurd (n refl)

  held_number : (e : Event) → state_number (state_held p e) ≡ state_after p e
  unfolding state_held exchanges_after state_after second_heard recovers sums_of
  held_number (event at l) =
      number_left (second_heard p (event at l)) (recovers p (event at l)) (exchanges_after p (event at l)).state (state_number p.state) (number_stays (concerned p (event at l)) (exchanges_after p (event at l)) (event_left at l))
  held_number (general l) =
      number_left (second_heard p (general l)) (recovers p (general l)) (exchanges_after p (general l)).state (state_number p.state) (number_stays (concerned p (general l)) (exchanges_after p (general l)) (general_left l))
  held_number (stamp at c) =
      number_left false (recovers p (stamp at c)) (stamp_held p at c).state (state_number p.state) (number_stays (stamp_concern c) (stamp_held p at c) (stamp_leaves at c))
  held_number sync_timer = not_recovered (is_faulty p.state) p.state
  held_number (delay_timer draw) =
      not_recovered (is_faulty p.state) (request_held p p.config.mechanism).state ∙ number_stays (request_concern p.config.mechanism) (request_held p p.config.mechanism) (request_leaves p.config.mechanism)
  held_number (filter_answer u) = not_recovered (is_faulty p.state) p.state
  held_number (set_state new) = not_recovered (is_faulty p.state) (state_given new) ∙ given_number new

  held_slave : (e : Event) → OnlySlave (exchanges_after p e).state (state_held p e)
  unfolding state_held
  held_slave e = left_or_slave (second_heard p e) (recovers p e) (exchanges_after p e).state

-- ---- the theorems

module _ (p : Port) (room : ℕ) (e : Event) (t : (step p room e).outcome ≡ Outcome.Taken) where
  record Kept (r : Answered) : Type 0 where
    state : OnlySlave (exchanges_after p e).state r.port.state
    peer : (exchanges_after p e).peer ≡ r.port.peer

  holds : Kept (step p room e)
  holds =
      taken_has p room e Kept (λ f l.
      all_map (EndsAs (exchanges_after p e)) (λ d. Kept (answered p (worked d))) Silent (rule_of p e) (λ d k. record { state = k.state; peer = k.peer }) (rule_holds p (fit_open p f) e)) t

  pub state_held_lem : (step p room e).port.state ≡ state_held p e
  state_held_lem =
      same_state (exchanges_after p e).state (step p room e).port.state (state_held p e) holds.state (held_slave p e) (state_after_lem p room e t ∙ sym (held_number p e))

  pub peer_after_lem : (step p room e).port.peer ≡ peer_after p e
  unfolding peer_after
  peer_after_lem = sym holds.peer

  -- nothing of the record is left open
  pub record_after : (step p room e).port ≡ record { config = p.config; state = state_held p e; peer = peer_after p e; mean = mean_after p e; ids = ids_after p e }
  record_after =
      λ k.
      record { config = config_after p room e t k; state = state_held_lem k; peer = peer_after_lem k; mean = mean_after_lem p room e t k; ids = ids_after_lem p room e t k }

  -- ---- what an event leaves alone: the peer exchange where it does not concern that, and a Slave where it does not concern one
  pub peer_left_alone : (concerned p e ≡ of_peer → ⊥) → (step p room e).port.peer ≡ p.peer
  peer_left_alone n = sym holds.peer ∙ peer_left p e n

  pub slave_left_alone : (concerned p e ≡ of_slave → ⊥) → (s : SlaveState) → (step p room e).port.state ≡ PortState.Slave s → p.state ≡ PortState.Slave s
  slave_left_alone n s k = sym (state_left p e n) ∙ subst (λ (x : PortState). OnlySlave (exchanges_after p e).state x) k holds.state
