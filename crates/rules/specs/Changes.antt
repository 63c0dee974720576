-- What an event changes besides, said without the rules: the state, the filter's reset, the ids and the mean delay. It holds of events that are taken.
use Rattle.std.specs.Prelude.{ℕ, ◌+◌, ◌%◌, Bool, true, false, cond, ◌&&◌, ◌||◌, Option, Some, None}
use Rattle.rules.specs.Names.{Time, Header, Body, Mechanism, Ids, Port, NewState, Duration}
use Rattle.record.specs.Record.{state_number, is_master, is_faulty, is_slave}
use Rattle.rules.specs.Events.{Event, event, general, stamp, sync_timer, delay_timer, filter_answer, set_state, reading}
use Rattle.rules.specs.WorkedOut.{Completed, unfinished, sync, delay, peer, second, of_reading, sums_of}

-- ---- a second responder is heard: by a PDelayResp on the event entry, or its follow-up on either

abbrev pub second_by_follow_up : Port → Header → Body → Time → Bool
second_by_follow_up p h (Body.Sync w) t = false
second_by_follow_up p h (Body.DelayReq w) t = false
second_by_follow_up p h (Body.PDelayReq w) t = false
second_by_follow_up p h (Body.PDelayResp w requester) t = false
second_by_follow_up p h (Body.FollowUp w) t = false
second_by_follow_up p h (Body.DelayResp w requester) t = false
second_by_follow_up p h (Body.PDelayRespFollowUp w requester) t = second p h requester

abbrev pub second_by_answer : Port → Header → Body → Time → Bool
second_by_answer p h (Body.Sync w) t = false
second_by_answer p h (Body.DelayReq w) t = false
second_by_answer p h (Body.PDelayReq w) t = false
second_by_answer p h (Body.PDelayResp w requester) t = second p h requester
second_by_answer p h (Body.FollowUp w) t = false
second_by_answer p h (Body.DelayResp w requester) t = false
second_by_answer p h (Body.PDelayRespFollowUp w requester) t = second p h requester

unfoldable pub second_heard : Port → Event → Bool
second_heard p (event at message) = of_reading false (second_by_answer p) (reading p.config message)
second_heard p (general message) = of_reading false (second_by_follow_up p) (reading p.config message)
second_heard p (stamp at context) = false
second_heard p sync_timer = false
second_heard p (delay_timer draw) = false
second_heard p (filter_answer update) = false
second_heard p (set_state new) = false

-- ---- a Faulty port recovers: by a peer measurement

abbrev pub is_peer : Completed → Bool
is_peer unfinished = false
is_peer (sync send receive) = false
is_peer (delay send receive) = false
is_peer (peer a b c d) = true

unfoldable pub recovers : Port → Event → Bool
recovers p e = is_faulty p.state && is_peer (sums_of p e).completes

-- ---- the state, by its number

abbrev pub new_number : NewState → ℕ
new_number NewState.Listening = 0
new_number NewState.Master = 1
new_number NewState.Passive = 2
new_number NewState.Faulty = 3
new_number (NewState.Slave master) = 4

-- what an event other than set state leaves
abbrev pub heard_state : Port → Event → ℕ
heard_state p e = cond (second_heard p e) 3 (cond (recovers p e) 0 (state_number p.state))

unfoldable pub state_after : Port → Event → ℕ
state_after p (event at message) = heard_state p (event at message)
state_after p (general message) = heard_state p (general message)
state_after p (stamp at context) = heard_state p (stamp at context)
state_after p sync_timer = state_number p.state
state_after p (delay_timer draw) = state_number p.state
state_after p (filter_answer update) = state_number p.state
state_after p (set_state new) = new_number new

-- ---- the reset: set state from Slave or Faulty, or to Faulty; a second responder; a recovery

abbrev pub reset_by_set : Port → NewState → Bool
reset_by_set p NewState.Listening = is_slave p.state || is_faulty p.state
reset_by_set p NewState.Master = is_slave p.state || is_faulty p.state
reset_by_set p NewState.Passive = is_slave p.state || is_faulty p.state
reset_by_set p NewState.Faulty = true
reset_by_set p (NewState.Slave master) = is_slave p.state || is_faulty p.state

unfoldable pub resets : Port → Event → Bool
resets p (event at message) = second_heard p (event at message) || recovers p (event at message)
resets p (general message) = second_heard p (general message) || recovers p (general message)
resets p (stamp at context) = recovers p (stamp at context)
resets p sync_timer = false
resets p (delay_timer draw) = false
resets p (filter_answer update) = false
resets p (set_state new) = reset_by_set p new

-- ---- ids: up by one, 0 behind 65535, each by the message that takes it

abbrev pub up_by_one : ℕ → ℕ
up_by_one id = (id + 1) % 65536

abbrev pub request_ids : Mechanism → Port → Ids
request_ids Mechanism.EndToEnd p =
    cond (is_slave p.state) (record { sync = p.ids.sync; delay = up_by_one p.ids.delay; peer = p.ids.peer }) p.ids
request_ids Mechanism.Peer p = record { sync = p.ids.sync; delay = p.ids.delay; peer = up_by_one p.ids.peer }

unfoldable pub ids_after : Port → Event → Ids
ids_after p (event at message) = p.ids
ids_after p (general message) = p.ids
ids_after p (stamp at context) = p.ids
ids_after p sync_timer =
    cond (is_master p.state) (record { sync = up_by_one p.ids.sync; delay = p.ids.delay; peer = p.ids.peer }) p.ids
ids_after p (delay_timer draw) = request_ids p.config.mechanism p
ids_after p (filter_answer update) = p.ids
ids_after p (set_state new) = p.ids

-- ---- the mean delay: what the filter gave last

abbrev pub last_given : Option Duration → Option Duration → Option Duration
last_given None before = before
last_given (Some mean) before = Some mean

unfoldable pub mean_after : Port → Event → Option Duration
mean_after p (event at message) = p.mean
mean_after p (general message) = p.mean
mean_after p (stamp at context) = p.mean
mean_after p sync_timer = p.mean
mean_after p (delay_timer draw) = p.mean
mean_after p (filter_answer update) = last_given update.mean_delay p.mean
mean_after p (set_state new) = p.mean
