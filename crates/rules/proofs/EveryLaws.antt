-- A property of every ending of every rule holds of what any event comes to. `Heard` is for messages and stamps, `Every` for all events.
use Rattle.std.specs.Prelude.{◌≡◌, refl, Bool, true, false, cond, List, ℕ, Ok, Err}
use Rattle.rules.specs.Names.{Time, Header, Body, Port, Config, Context, Outcome, Received, ReadError, Reading}
use Rattle.reading.specs.Reading.{read_of}
use Rattle.rules.specs.Worked.{Worked, refused}
use Rattle.rules.specs.Events.{Event, event, general, stamp, sync_timer, delay_timer, filter_answer, set_state, Done}
use Rattle.rules.specs.Rules.{on_event, on_general, stamped}
use Rattle.rules.specs.Table.{ours}
use Rattle.rules.specs.Step.{viewed, rule_of}
use Rattle.rules.specs.AllLaws.{Comes, Silent}
use Rattle.rules.proofs.AllLaws.{all_cond}
use Rattle.rules.proofs.RuleLaws.{all_sync, all_follow_up, all_delay_resp, all_p_delay_resp, all_p_delay_resp_follow_up, all_delay_req, all_p_delay_req, all_sync_stamped, all_delay_stamped, all_peer_stamped, all_response_stamped, all_sync_timer_ends, all_delay_timer_ends}
use Rattle.rules.specs.EveryLaws.{Rows, Heard, Every}

-- ---- what refuses an event behind row 3

-- where nothing is said of refusals
pub silent : Rows Silent
silent = record { unfit = tt; limits = tt; version = tt; malformed = tt; foreign = tt; host = tt; range = tt }

-- where a test decides between two refusals
either_row : (P : Done → Type 0) (R : Outcome → Type 0) (b : Bool) (o w : Outcome) → R o → R w → Comes P R (cond b (refused o) (refused w))
either_row P R true o w f g = f
either_row P R false o w f g = g

pub all_viewed : (P : Done → Type 0) (R : Outcome → Type 0) → Rows R → (c : Config) (r : Reading) (rule : Header → Body → Time → Worked Done) → ((h : Header) (b : Body) (t : Time) → r ≡ Ok (Received.Message h b t) → Comes P R (rule h b t)) → Comes P R (viewed c r rule)
all_viewed P R rows c (Ok (Received.Message h b t)) rule f =
    all_cond P R (ours c h) (rule h b t) (refused Outcome.Foreign) (λ e. f h b t refl) (λ e. rows.foreign)
all_viewed P R rows c (Ok (Received.Host h)) rule f = either_row P R (ours c h) Outcome.Host Outcome.Foreign rows.host rows.foreign
all_viewed P R rows c (Err ReadError.Version) rule f = rows.version
all_viewed P R rows c (Err ReadError.Malformed) rule f = rows.malformed

-- ---- messages and stamps

module _ (P : Done → Type 0) (R : Outcome → Type 0) (p : Port) (k : Heard P R p) where
  pub heard_general : (h : Header) (b : Body) (t : Time) → Comes P R (on_general p h b t)
  unfolding on_general
  heard_general h (Body.Sync w) t = k.idle
  heard_general h (Body.DelayReq w) t = k.idle
  heard_general h (Body.PDelayReq w) t = k.idle
  heard_general h (Body.PDelayResp w requester) t = k.idle
  heard_general h (Body.FollowUp w) t =
      all_follow_up P R k.rows.range p k.idle h t (λ s e u f x g. k.new_sync s x e)
  heard_general h (Body.DelayResp w requester) t =
      all_delay_resp P R k.rows.range p k.idle h requester t (λ s e x g. k.new_delay s x e)
  heard_general h (Body.PDelayRespFollowUp w requester) t =
      all_p_delay_resp_follow_up P R k.rows.range p h requester t (record { other = λ us. k.idle; twice = λ us two. k.faulty; same = λ us one e. k.idle; new = λ us one x e. k.new_peer x })

  pub heard_event : (at : Time) (h : Header) (b : Body) (t : Time) → Comes P R (on_event p at h b t)
  unfolding on_event on_general
  heard_event at h (Body.Sync w) t =
      all_sync P R k.rows.range p k.idle h t at (λ s e u f x g. k.new_sync s x e)
  heard_event at h (Body.DelayReq w) t = all_delay_req P R k.rows.range p h at k.idle (k.delay_resp h at)
  heard_event at h (Body.PDelayReq w) t = all_p_delay_req P R k.rows.range p h at (k.pdelay_resp h at)
  heard_event at h (Body.PDelayResp w requester) t =
      all_p_delay_resp P R k.rows.range p h requester t at (record { other = λ us. k.idle; twice = λ us two. k.faulty; same = λ us one e. k.idle; new = λ us one x e. k.new_peer x })
  heard_event at h (Body.FollowUp w) t = heard_general h (Body.FollowUp w) t
  heard_event at h (Body.DelayResp w requester) t = heard_general h (Body.DelayResp w requester) t
  heard_event at h (Body.PDelayRespFollowUp w requester) t = heard_general h (Body.PDelayRespFollowUp w requester) t

  pub heard_stamp : (t : Time) (c : Context) → Comes P R (stamped p t c)
  heard_stamp t (Context.Sync id) = all_sync_stamped P R k.rows.range p t id k.idle (k.follow_up id t)
  heard_stamp t (Context.DelayReq id) = all_delay_stamped P R k.rows.range p t id k.idle (λ s e x g. k.new_delay s x e)
  heard_stamp t (Context.PDelayReq id) = all_peer_stamped P R k.rows.range p t id (λ e. k.idle) (λ x e. k.new_peer x)
  heard_stamp t (Context.PDelayResp id requester) =
      all_response_stamped P R k.rows.range p t id requester (k.pdelay_resp_follow_up id requester t)

  pub heard_event_rule : (at : Time) (l : List ℕ) → Comes P R (rule_of p (event at l))
  unfolding rule_of
  heard_event_rule at l = all_viewed P R k.rows p.config (read_of l) (on_event p at) (λ h b t e. heard_event at h b t)

  pub heard_general_rule : (l : List ℕ) → Comes P R (rule_of p (general l))
  unfolding rule_of
  heard_general_rule l = all_viewed P R k.rows p.config (read_of l) (on_general p) (λ h b t e. heard_general h b t)

  pub heard_stamp_rule : (t : Time) (c : Context) → Comes P R (rule_of p (stamp t c))
  unfolding rule_of
  heard_stamp_rule t c = heard_stamp t c

-- ---- all events

pub every_rule : (P : Done → Type 0) (R : Outcome → Type 0) (p : Port) → Every P R p → (e : Event) → Comes P R (rule_of p e)
unfolding rule_of
every_rule P R p k (event at l) = heard_event_rule P R p k.heard at l
every_rule P R p k (general l) = heard_general_rule P R p k.heard l
every_rule P R p k (stamp t c) = heard_stamp_rule P R p k.heard t c
every_rule P R p k sync_timer =
    all_sync_timer_ends P R k.heard.rows.unfit k.heard.rows.limits p (λ e. k.heard.idle) (λ e ns f. k.at_sync_sent ns)
every_rule P R p k (delay_timer draw) =
    all_delay_timer_ends P R k.heard.rows.unfit k.heard.rows.limits p draw (λ n e. k.heard.idle) (λ s e m ns. k.at_delay_sent s ns) (λ m ns. k.at_peer_sent ns)
every_rule P R p k (filter_answer u) = k.filter u
every_rule P R p k (set_state new) = k.set new
