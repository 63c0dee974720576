-- What an exchange comes to by its own events: the times that each brings, in units, as the wire fields and the stamps have them; and, when none is missing, the exchange as the formulas of 01 take it (`Formulas`). Nothing of the record is looked at.
use Rattle.std.specs.Prelude.{Bool, cond, List, [], ◌∷◌, ℤ, ◌+ℤ◌, ◌-ℤ◌, Option, Some, None}
use Rattle.time.specs.Units.{time, wire, correction}
use Rattle.wire.specs.Layout.{two_step}
use Rattle.rules.specs.Names.{Time, Header, Body, Mechanism, Config, Context}
use Rattle.rules.specs.Events.{Event, event, general, stamp, sync_timer, delay_timer, filter_answer, set_state, reading}
use Rattle.rules.specs.WorkedOut.{Completed, unfinished, sync, delay, peer, of_reading}
use Rattle.undisturbed.specs.Runs.{Lane, syncs, requests}

-- ---- the times that an event brings to its exchange, in units: send stamps as they are, all else as 01 corrects it

-- of a Sync or a DelayReq, when it was sent and received. Of a peer exchange: `send` and `request_receive` are the request's, `response_send` and `receive` the response's
pub record Times : Type 0 where
  pub send : Option ℤ
  pub receive : Option ℤ
  pub request_receive : Option ℤ
  pub response_send : Option ℤ

abbrev pub no_times : Times
no_times = record { send = None; receive = None; request_receive = None; response_send = None }

abbrev pub sent_at : ℤ → Times
sent_at z = record { send = Some z; receive = None; request_receive = None; response_send = None }

abbrev pub received_at : ℤ → Times
received_at z = record { send = None; receive = Some z; request_receive = None; response_send = None }

abbrev pub responded_at : ℤ → Times
responded_at z = record { send = None; receive = None; request_receive = None; response_send = Some z }

-- on either entry: FollowUp's timestamp plus correction, DelayResp's less correction, PDelayRespFollowUp's plus correction
abbrev pub later_times : Header → Body → Times
later_times h (Body.Sync w) = no_times
later_times h (Body.DelayReq w) = no_times
later_times h (Body.PDelayReq w) = no_times
later_times h (Body.PDelayResp w requester) = no_times
later_times h (Body.FollowUp w) = sent_at (wire w +ℤ correction h.correction)
later_times h (Body.DelayResp w requester) = received_at (wire w -ℤ correction h.correction)
later_times h (Body.PDelayRespFollowUp w requester) = responded_at (wire w +ℤ correction h.correction)

-- on the event entry besides: the receive time less correction of Sync and PDelayResp. A one-step Sync says when it was sent; a PDelayResp when the request was received, and one-step that it left then
abbrev pub sync_times : Bool → ℤ → ℤ → Times
sync_times two origin came =
    record { send = cond two None (Some origin); receive = Some came; request_receive = None; response_send = None }

abbrev pub response_times : Bool → ℤ → ℤ → Times
response_times two body came =
    record { send = None; receive = Some came; request_receive = Some body; response_send = cond two None (Some body) }

abbrev pub event_times : Time → Header → Body → Times
event_times t h (Body.Sync w) = sync_times (two_step h) (wire w) (time t -ℤ correction h.correction)
event_times t h (Body.DelayReq w) = no_times
event_times t h (Body.PDelayReq w) = no_times
event_times t h (Body.PDelayResp w requester) = response_times (two_step h) (wire w) (time t -ℤ correction h.correction)
event_times t h (Body.FollowUp w) = later_times h (Body.FollowUp w)
event_times t h (Body.DelayResp w requester) = later_times h (Body.DelayResp w requester)
event_times t h (Body.PDelayRespFollowUp w requester) = later_times h (Body.PDelayRespFollowUp w requester)

abbrev pub stamp_times : Time → Context → Times
stamp_times t (Context.Sync id) = no_times
stamp_times t (Context.DelayReq id) = sent_at (time t)
stamp_times t (Context.PDelayReq id) = sent_at (time t)
stamp_times t (Context.PDelayResp id requester) = no_times

unfoldable pub times_in : Config → Event → Times
times_in c (event t message) = of_reading no_times (λ h b u. event_times t h b) (reading c message)
times_in c (general message) = of_reading no_times (λ h b u. later_times h b) (reading c message)
times_in c (stamp t context) = stamp_times t context
times_in c sync_timer = no_times
times_in c (delay_timer draw) = no_times
times_in c (filter_answer update) = no_times
times_in c (set_state state) = no_times

-- of several events, each time from the first that brings it
abbrev pub earlier_of : {A : Type 0} → Option A → Option A → Option A
earlier_of None b = b
earlier_of (Some a) b = Some a

abbrev pub and_then : Times → Times → Times
and_then a b =
    record { send = earlier_of a.send b.send; receive = earlier_of a.receive b.receive; request_receive = earlier_of a.request_receive b.request_receive; response_send = earlier_of a.response_send b.response_send }

unfoldable pub times_of : Config → List Event → Times
times_of c [] = no_times
times_of c (e ∷ es) = and_then (times_in c e) (times_of c es)

-- ---- what the times of an exchange come to: unfinished while one is missing

abbrev pub if_given : Option ℤ → (ℤ → Completed) → Completed
if_given None k = unfinished
if_given (Some z) k = k z

abbrev pub sync_of : Times → Completed
sync_of t = if_given t.send (λ send. if_given t.receive (λ receive. sync send receive))

abbrev pub request_of : Mechanism → Times → Completed
request_of Mechanism.EndToEnd t = if_given t.send (λ send. if_given t.receive (λ receive. delay send receive))
request_of Mechanism.Peer t =
    if_given t.send (λ a. if_given t.request_receive (λ b. if_given t.response_send (λ d. if_given t.receive (λ e. peer a b d e))))

abbrev pub complete_of : Config → Lane → Times → Completed
complete_of c syncs t = sync_of t
complete_of c requests t = request_of c.mechanism t

unfoldable pub comes_to : Config → Lane → List Event → Completed
comes_to c l es = complete_of c l (times_of c es)
