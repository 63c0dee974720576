-- What a record's exchanges hold after an event, said without the rules: of a Slave its sync, its delay and the raw offset it keeps, and the peer exchange. It holds of events that are taken, so each corrected time is one.
use Rattle.std.specs.Prelude.{ℕ, Bool, true, false, cond, ◌&&◌, not, ◌+ℤ◌, ◌-ℤ◌, Option, Some, None}
use Rattle.time.specs.Units.{time, time_words, duration_words, correction}
use Rattle.wire.specs.Layout.{two_step}
use Rattle.record.specs.Record.{as_slave, with_delay, with_state, with_peer, slave_of}
use Rattle.fitness.specs.Fit.{there, full}
use Rattle.record.specs.Same.{same_identity}
use Rattle.rules.specs.Names.{Body, Time, Header, Identity, Exchange, PortState, PeerState, Mechanism, Port, Context, NewState, Duration}
use Rattle.rules.specs.Events.{Event, event, general, stamp, sync_timer, delay_timer, filter_answer, set_state, reading}
use Rattle.rules.specs.WorkedOut.{Completed, unfinished, sync, delay, peer, raw_sync, last_raw, hears, sync_in, delay_in, opened, peer_opened, request_send_in, request_receive_in, response_send_in, response_receive_in, answered_by, second, later_sums, event_sums, of_reading}
use Rattle.rules.specs.Changes.{second_heard, recovers}

-- ---- a time that comes in: one that stands is not replaced

abbrev pub filled : Option Time → Time → Option Time
filled None t = Some t
filled (Some u) t = Some u

abbrev pub send_filled : Time → Exchange → Exchange
send_filled t Exchange.Empty = Exchange.Empty
send_filled t (Exchange.Measuring id send receive) = Exchange.Measuring id (filled send t) receive

abbrev pub receive_filled : Time → Exchange → Exchange
receive_filled t Exchange.Empty = Exchange.Empty
receive_filled t (Exchange.Measuring id send receive) = Exchange.Measuring id send (filled receive t)

-- an exchange as it begins; and the one of an id, which is the open one, or such a one in its place
abbrev pub begun : ℕ → Exchange
begun id = Exchange.Measuring id None None

abbrev pub of_id : ℕ → Exchange → Exchange
of_id id x = cond (opened id x) x (begun id)

-- an exchange that lacks no time goes; of a peer exchange, id and responder stay known. (A fit record that holds a responder's times knows who he is.)
abbrev pub taken_out : Exchange → Exchange
taken_out x = cond (full x) Exchange.Empty x

abbrev pub peer_taken_out : ℕ → Option Identity → Option Time → Option Time → Option Time → Option Time → PeerState
peer_taken_out id None a b c d = PeerState.Measuring id None a b c d
peer_taken_out id (Some i) a b c d =
    cond (there a && there b && there c && there d) (PeerState.Measured id i) (PeerState.Measuring id (Some i) a b c d)

-- ---- each exchange by what concerns it, with the time that this brings

-- a one-step Sync is complete at once, so it leaves no exchange; one that is open with its id keeps it out
abbrev pub sync_held : Port → Header → Time → Exchange
sync_held p h t =
    let x : Exchange = sync_in p.state in
    cond (hears p.state h)
    (cond (two_step h) (taken_out (receive_filled t (of_id h.id x))) (cond (opened h.id x) x Exchange.Empty))
    x

abbrev pub follow_up_held : Port → Header → Time → Exchange
follow_up_held p h t =
    let x : Exchange = sync_in p.state in
    cond (hears p.state h) (taken_out (send_filled t (of_id h.id x))) x

abbrev pub delay_resp_held : Port → Header → Identity → Time → Exchange
delay_resp_held p h requester t =
    let x : Exchange = delay_in p.state in
    cond (same_identity p.config.identity requester && hears p.state h && opened h.id x) (taken_out (receive_filled t x)) x

abbrev pub delay_stamp_held : Port → ℕ → Time → Exchange
delay_stamp_held p id t =
    let x : Exchange = delay_in p.state in
    cond (opened id x) (taken_out (send_filled t x)) x

abbrev pub peer_stamp_held : Port → ℕ → Time → PeerState
peer_stamp_held p id t =
    let q : PeerState = p.peer in
    cond (peer_opened id q && not (there (request_send_in q)))
    (peer_taken_out id (answered_by id q) (Some t) (request_receive_in q) (response_send_in q) (response_receive_in q))
    q

-- a response counts if it is for us, from no second responder, and the first; it brings the request's receive time, and one-step has the response's send time from it
abbrev pub p_delay_resp_held : Port → Header → Identity → Time → Time → PeerState
p_delay_resp_held p h requester body t =
    let q : PeerState = p.peer in
    cond (same_identity p.config.identity requester && not (second p h requester) && peer_opened h.id q && not (there (response_receive_in q)))
    (peer_taken_out h.id (Some h.source) (request_send_in q) (Some body) (cond (two_step h) (response_send_in q) (Some body)) (Some t))
    q

abbrev pub p_delay_resp_follow_up_held : Port → Header → Identity → Time → PeerState
p_delay_resp_follow_up_held p h requester t =
    let q : PeerState = p.peer in
    cond (same_identity p.config.identity requester && not (second p h requester) && peer_opened h.id q && not (there (response_send_in q)))
    (peer_taken_out h.id (Some h.source) (request_send_in q) (request_receive_in q) (Some t) (response_receive_in q))
    q

-- ---- the record with that exchange; only a Slave has a sync or a delay, and its master stays

-- the raw offset of a sync that is completed is kept
abbrev pub raw_kept : Port → Completed → Option Duration
raw_kept p unfinished = last_raw p.state
raw_kept p (sync send receive) = Some (duration_words (raw_sync p send receive))
raw_kept p (delay send receive) = last_raw p.state
raw_kept p (peer a b c d) = last_raw p.state

abbrev pub new_sync : Port → Completed → Exchange → Port
new_sync p c x =
    with_state p (as_slave p.state p.state (λ s. PortState.Slave (record { master = s.master; sync = x; delay = s.delay; raw = raw_kept p c })))

abbrev pub new_delay : Port → Exchange → Port
new_delay p x = with_state p (as_slave p.state p.state (λ s. PortState.Slave (with_delay s x)))

-- ---- by event

abbrev pub later_held : Port → Header → Body → Time → Port
later_held p h (Body.Sync w) t = p
later_held p h (Body.DelayReq w) t = p
later_held p h (Body.PDelayReq w) t = p
later_held p h (Body.PDelayResp w requester) t = p
later_held p h (Body.FollowUp w) t =
    new_sync p (later_sums p h (Body.FollowUp w) t).completes (follow_up_held p h (time_words (time t +ℤ correction h.correction)))
later_held p h (Body.DelayResp w requester) t = new_delay p (delay_resp_held p h requester (time_words (time t -ℤ correction h.correction)))
later_held p h (Body.PDelayRespFollowUp w requester) t =
    with_peer p (p_delay_resp_follow_up_held p h requester (time_words (time t +ℤ correction h.correction)))

abbrev pub event_held : Port → Time → Header → Body → Time → Port
event_held p at h (Body.Sync w) t =
    new_sync p (event_sums p at h (Body.Sync w) t).completes (sync_held p h (time_words (time at -ℤ correction h.correction)))
event_held p at h (Body.DelayReq w) t = p
event_held p at h (Body.PDelayReq w) t = p
event_held p at h (Body.PDelayResp w requester) t =
    with_peer p (p_delay_resp_held p h requester t (time_words (time at -ℤ correction h.correction)))
event_held p at h (Body.FollowUp w) t = later_held p h (Body.FollowUp w) t
event_held p at h (Body.DelayResp w requester) t = later_held p h (Body.DelayResp w requester) t
event_held p at h (Body.PDelayRespFollowUp w requester) t = later_held p h (Body.PDelayRespFollowUp w requester) t

abbrev pub stamp_held : Port → Time → Context → Port
stamp_held p t (Context.Sync id) = p
stamp_held p t (Context.DelayReq id) = new_delay p (delay_stamp_held p id t)
stamp_held p t (Context.PDelayReq id) = with_peer p (peer_stamp_held p id t)
stamp_held p t (Context.PDelayResp id requester) = p

-- our own request begins its exchange with the next id, in place of what is open
abbrev pub request_held : Port → Mechanism → Port
request_held p Mechanism.EndToEnd = new_delay p (begun p.ids.delay)
request_held p Mechanism.Peer =
    with_peer p (PeerState.Measuring p.ids.peer None None None None None)

abbrev pub state_given : NewState → PortState
state_given NewState.Listening = PortState.Listening
state_given NewState.Master = PortState.Master
state_given NewState.Passive = PortState.Passive
state_given NewState.Faulty = PortState.Faulty
state_given (NewState.Slave master) = PortState.Slave (slave_of master)

unfoldable pub exchanges_after : Port → Event → Port
exchanges_after p (event at message) = of_reading p (event_held p at) (reading p.config message)
exchanges_after p (general message) = of_reading p (later_held p) (reading p.config message)
exchanges_after p (stamp at context) = stamp_held p at context
exchanges_after p sync_timer = p
exchanges_after p (delay_timer draw) = request_held p p.config.mechanism
exchanges_after p (filter_answer update) = p
exchanges_after p (set_state new) = with_state p (state_given new)

-- ---- state and peer exchange: a second responder and a recovery leave a state that holds nothing

unfoldable pub state_held : Port → Event → PortState
state_held p e = cond (second_heard p e) PortState.Faulty (cond (recovers p e) PortState.Listening (exchanges_after p e).state)

unfoldable pub peer_after : Port → Event → PeerState
peer_after p e = (exchanges_after p e).peer

-- ---- which exchange an event can concern: a Slave's, the peer's, or none

pub data Concern : Type 0 where
  nobody of_slave of_peer : Concern

-- a message, by its entry: the event one or not
abbrev pub message_concern : Bool → Body → Concern
message_concern on_event (Body.Sync w) = cond on_event of_slave nobody
message_concern on_event (Body.DelayReq w) = nobody
message_concern on_event (Body.PDelayReq w) = nobody
message_concern on_event (Body.PDelayResp w requester) = cond on_event of_peer nobody
message_concern on_event (Body.FollowUp w) = of_slave
message_concern on_event (Body.DelayResp w requester) = of_slave
message_concern on_event (Body.PDelayRespFollowUp w requester) = of_peer

abbrev pub stamp_concern : Context → Concern
stamp_concern (Context.Sync id) = nobody
stamp_concern (Context.DelayReq id) = of_slave
stamp_concern (Context.PDelayReq id) = of_peer
stamp_concern (Context.PDelayResp id requester) = nobody

abbrev pub request_concern : Mechanism → Concern
request_concern Mechanism.EndToEnd = of_slave
request_concern Mechanism.Peer = of_peer

unfoldable pub concerned : Port → Event → Concern
concerned p (event at message) = of_reading nobody (λ h b t. message_concern true b) (reading p.config message)
concerned p (general message) = of_reading nobody (λ h b t. message_concern false b) (reading p.config message)
concerned p (stamp at context) = stamp_concern context
concerned p sync_timer = nobody
concerned p (delay_timer draw) = request_concern p.config.mechanism
concerned p (filter_answer update) = nobody
concerned p (set_state new) = of_slave
