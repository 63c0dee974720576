-- Document 01, 'What each event does', in its order, on decoded messages: a header, a body's parts, and the time that its timestamp means.
use Rattle.std.specs.Prelude.{ℕ, true, false, cond, ◌||◌, List, [], ◌∷◌, Option, Some, None}
use Rattle.rules.specs.Names.{Body, Time, Identity, Header, Sender, SlaveState, PortState, PeerState, Mechanism, Config, Ids, Port, Context, NewState, FilterUpdate, Action, Duration}
use Rattle.timers.specs.Timers.{sync_timer_of, delay_timer_of}
use Rattle.sent.specs.Messages.{sync_of, follow_up_of, delay_req_of, delay_resp_of, p_delay_req_of, p_delay_resp_of, p_delay_resp_follow_up_of}
use Rattle.record.specs.Ids.{id_after}
use Rattle.record.specs.Record.{is_master, is_faulty, is_slave, as_slave, with_sync, with_delay, with_state, with_slave, with_peer, with_mean, with_ids, slave_of}
use Rattle.record.specs.Same.{same_identity}
use Rattle.rules.specs.Worked.{Worked, worked, ◌then◌, less_correction, plus_correction, a_message, a_timer}
use Rattle.rules.specs.Events.{Done, nothing, changed, timed, sending}
use Rattle.rules.specs.Measuring.{settle}
use Rattle.rules.specs.Exchanges.{Change, stays, becomes, synced, followed_up, delay_answered, delay_stamped, requested, peer_requested, peer_stamped, second_responder, responded, responded_later}

-- ---- who we are

-- what a sent message has of us ('Sent messages')
abbrev pub sender_of : Config → Sender
sender_of c = record { sdo = c.sdo; domain = c.domain; minor = c.minor; identity = c.identity }

-- a Slave hears its master, and no one else is heard
abbrev pub from_master : Port → Header → (SlaveState → Worked Done) → Worked Done
from_master p h rule = as_slave p.state (nothing p) (λ s. cond (same_identity s.master h.source) (rule s) (nothing p))

-- an answer counts for the port that asked
abbrev pub to_us : Port → Identity → Worked Done → Worked Done
to_us p requester rule = cond (same_identity p.config.identity requester) rule (nothing p)

-- where the exchange stays nothing is done; a new one is stored, and measured if that completes it
abbrev pub keeping : {A : Type 0} → Port → (A → Port) → Change A → Worked Done
keeping p store stays = nothing p
keeping p store (becomes x) = settle (store x)

-- ---- received messages

unfoldable pub sync : Port → Header → Time → Time → Worked Done
sync p h origin at =
    from_master p h (λ s.
    less_correction at h then λ receive.
    keeping p (λ x. with_slave p (with_sync s x)) (synced h origin receive s.sync))

unfoldable pub follow_up : Port → Header → Time → Worked Done
follow_up p h timestamp =
    from_master p h (λ s.
    plus_correction timestamp h then λ send.
    keeping p (λ x. with_slave p (with_sync s x)) (followed_up h.id send s.sync))

unfoldable pub delay_resp : Port → Header → Identity → Time → Worked Done
delay_resp p h requester timestamp =
    to_us p requester (from_master p h (λ s.
    delay_answered h.id (less_correction timestamp h) s.delay then λ x.
    keeping p (λ y. with_slave p (with_delay s y)) x))

-- the answers to a PDelayReq count in each state. Two responders on one link are a fault, which is looked for first
abbrev pub becomes_faulty : Port → Done
becomes_faulty p = changed (with_state p PortState.Faulty) true

unfoldable pub peer_answer : Port → Header → Identity → Worked (Change PeerState) → Worked Done
peer_answer p h requester answer =
    to_us p requester
    (cond (second_responder h p.peer) (worked (becomes_faulty p)) (answer then λ x. keeping p (with_peer p) x))

unfoldable pub p_delay_resp : Port → Header → Identity → Time → Time → Worked Done
p_delay_resp p h requester body at = peer_answer p h requester (responded h body (less_correction at h) p.peer)

unfoldable pub p_delay_resp_follow_up : Port → Header → Identity → Time → Worked Done
p_delay_resp_follow_up p h requester timestamp = peer_answer p h requester (responded_later h (plus_correction timestamp h) p.peer)

-- requests of others: a Master answers both kinds, any other state the peer's. What is said between peers does not leave the link
unfoldable pub delay_req : Port → Header → Time → Worked Done
delay_req p h at =
    cond (is_master p.state)
    (a_message (delay_resp_of (sender_of p.config) h p.config.delay_interval at) then λ m.
    worked (sending p [] m (Action.SendGeneral false)))
    (nothing p)

unfoldable pub p_delay_req : Port → Header → Time → Worked Done
p_delay_req p h at =
    a_message (p_delay_resp_of (sender_of p.config) h at) then λ m.
    worked (sending p [] m (Action.SendEvent (Context.PDelayResp h.id h.source) true))

-- ---- send stamps

unfoldable pub stamped : Port → Time → Context → Worked Done
stamped p t (Context.Sync id) =
    cond (is_master p.state)
    (a_message (follow_up_of (sender_of p.config) id p.config.sync_interval t) then λ m.
    worked (sending p [] m (Action.SendGeneral false)))
    (nothing p)
stamped p t (Context.DelayReq id) =
    as_slave p.state (nothing p) (λ s. keeping p (λ x. with_slave p (with_delay s x)) (delay_stamped id t s.delay))
stamped p t (Context.PDelayReq id) = keeping p (with_peer p) (peer_stamped id t p.peer)
stamped p t (Context.PDelayResp id requester) =
    a_message (p_delay_resp_follow_up_of (sender_of p.config) id requester t) then λ m.
    worked (sending p [] m (Action.SendGeneral true))

-- ---- our own requests, when the delay timer has run out: the next id, an exchange begun with it, the timer set anew, the message

abbrev pub sync_id_taken : Ids → Ids
sync_id_taken i = record { sync = id_after i.sync; delay = i.delay; peer = i.peer }

abbrev pub delay_id_taken : Ids → Ids
delay_id_taken i = record { sync = i.sync; delay = id_after i.delay; peer = i.peer }

abbrev pub peer_id_taken : Ids → Ids
peer_id_taken i = record { sync = i.sync; delay = i.delay; peer = id_after i.peer }

abbrev pub delay_sent : Port → SlaveState → ℕ → Done
delay_sent p s ns =
    sending (with_ids (with_slave p (with_delay s (requested p.ids.delay))) (delay_id_taken p.ids)) (Action.ResetDelayRequestTimer ns ∷ [])
    (delay_req_of (sender_of p.config) p.ids.delay) (Action.SendEvent (Context.DelayReq p.ids.delay) false)

abbrev pub peer_sent : Port → ℕ → Done
peer_sent p ns =
    sending (with_ids (with_peer p (peer_requested p.ids.peer)) (peer_id_taken p.ids)) (Action.ResetDelayRequestTimer ns ∷ [])
    (p_delay_req_of (sender_of p.config) p.ids.peer) (Action.SendEvent (Context.PDelayReq p.ids.peer) true)

abbrev pub request : Port → ℕ → Mechanism → Worked Done
request p draw Mechanism.EndToEnd =
    as_slave p.state (nothing p) (λ s.
    a_timer (delay_timer_of p.config.delay_interval draw) then λ ns.
    worked (delay_sent p s ns))
request p draw Mechanism.Peer =
    a_timer (delay_timer_of p.config.delay_interval draw) then λ ns.
    worked (peer_sent p ns)

unfoldable pub delay_timer_ends : Port → ℕ → Worked Done
delay_timer_ends p draw = request p draw p.config.mechanism

-- ---- a Master's Sync, when its timer has run out

abbrev pub sync_sent : Port → ℕ → Done
sync_sent p ns =
    sending (with_ids p (sync_id_taken p.ids)) (Action.ResetSyncTimer ns ∷ [])
    (sync_of (sender_of p.config) p.ids.sync p.config.sync_interval) (Action.SendEvent (Context.Sync p.ids.sync) false)

unfoldable pub sync_timer_ends : Port → Worked Done
sync_timer_ends p =
    cond (is_master p.state)
    (a_timer (sync_timer_of p.config.sync_interval) then λ ns.
    worked (sync_sent p ns))
    (nothing p)

-- ---- which rule a message goes to: all seven types have one on the event entry, and types 8 to 10 the same on the general one

unfoldable pub on_event : Port → Time → Header → Body → Time → Worked Done
on_event p at h (Body.Sync w) timestamp = sync p h timestamp at
on_event p at h (Body.DelayReq w) timestamp = delay_req p h at
on_event p at h (Body.PDelayReq w) timestamp = p_delay_req p h at
on_event p at h (Body.PDelayResp w requester) timestamp = p_delay_resp p h requester timestamp at
on_event p at h (Body.FollowUp w) timestamp = follow_up p h timestamp
on_event p at h (Body.DelayResp w requester) timestamp = delay_resp p h requester timestamp
on_event p at h (Body.PDelayRespFollowUp w requester) timestamp = p_delay_resp_follow_up p h requester timestamp

unfoldable pub on_general : Port → Header → Body → Time → Worked Done
on_general p h (Body.Sync w) timestamp = nothing p
on_general p h (Body.DelayReq w) timestamp = nothing p
on_general p h (Body.PDelayReq w) timestamp = nothing p
on_general p h (Body.PDelayResp w requester) timestamp = nothing p
on_general p h (Body.FollowUp w) timestamp = follow_up p h timestamp
on_general p h (Body.DelayResp w requester) timestamp = delay_resp p h requester timestamp
on_general p h (Body.PDelayRespFollowUp w requester) timestamp = p_delay_resp_follow_up p h requester timestamp

-- ---- the filter's answer: what it gives is stored, or set as a timer

abbrev pub mean_given : Port → Option Duration → Port
mean_given p None = p
mean_given p (Some mean) = with_mean p mean

abbrev pub update_given : Option ℕ → List Action
update_given None = []
update_given (Some ns) = Action.ResetFilterUpdateTimer ns ∷ []

unfoldable pub filtered : Port → FilterUpdate → Worked Done
filtered p u =
    worked (timed (mean_given p u.mean_delay) (update_given u.next_update))

-- ---- set state: even the same state is begun anew. The filter is reset on leaving Slave or Faulty, and on entering Faulty

abbrev pub state_of : NewState → PortState
state_of NewState.Listening = PortState.Listening
state_of NewState.Master = PortState.Master
state_of NewState.Passive = PortState.Passive
state_of NewState.Faulty = PortState.Faulty
state_of (NewState.Slave master) = PortState.Slave (slave_of master)

unfoldable pub state_set : Port → NewState → Worked Done
state_set p new =
    worked (changed (with_state p (state_of new)) (is_slave p.state || is_faulty p.state || is_faulty (state_of new)))
