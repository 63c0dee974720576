-- Document 01, 'Numbers the port answers', on actions: words for lists of them, and the action that goes with a sent message.
use Rattle.std.specs.Prelude.{ℕ, Bool, true, false, cond, ◌&&◌, ◌||◌, not, List, [], ◌∷◌, eqb, Option, Some, None}
use Rattle.rules.specs.Names.{Header, Body, Message, Context, Action}

abbrev pub is_timer : Action → Bool
is_timer Action.None = false
is_timer (Action.ResetSyncTimer ns) = true
is_timer (Action.ResetDelayRequestTimer ns) = true
is_timer (Action.ResetFilterUpdateTimer ns) = true
is_timer (Action.SendEvent context link_local) = false
is_timer (Action.SendGeneral link_local) = false

abbrev pub is_packet : Action → Bool
is_packet Action.None = false
is_packet (Action.ResetSyncTimer ns) = false
is_packet (Action.ResetDelayRequestTimer ns) = false
is_packet (Action.ResetFilterUpdateTimer ns) = false
is_packet (Action.SendEvent context link_local) = true
is_packet (Action.SendGeneral link_local) = true

abbrev pub is_empty : Action → Bool
is_empty a = not (is_timer a || is_packet a)

-- one of them is so
abbrev pub one_is : (Action → Bool) → List Action → Bool
one_is test [] = false
one_is test (a ∷ rest) = test a || one_is test rest

-- no timer stands behind a packet
abbrev pub timers_first : List Action → Bool
timers_first [] = true
timers_first (a ∷ rest) = not (is_packet a && one_is is_timer rest) && timers_first rest

abbrev pub packets_in : List Action → List Action
packets_in [] = []
packets_in (a ∷ rest) = cond (is_packet a) (a ∷ packets_in rest) (packets_in rest)

abbrev pub is_one_of : List ℕ → ℕ → Bool
is_one_of [] n = false
is_one_of (m ∷ ms) n = eqb n m || is_one_of ms n

-- ---- what the host is told to do with a message: types 0 to 3 go out as events, with a context that names them when their stamp comes back; peer messages are link-local, others not

abbrev pub sending_of : Header → Body → Action
sending_of h (Body.Sync w) = Action.SendEvent (Context.Sync h.id) false
sending_of h (Body.DelayReq w) = Action.SendEvent (Context.DelayReq h.id) false
sending_of h (Body.PDelayReq w) = Action.SendEvent (Context.PDelayReq h.id) true
sending_of h (Body.PDelayResp w requester) = Action.SendEvent (Context.PDelayResp h.id requester) true
sending_of h (Body.FollowUp w) = Action.SendGeneral false
sending_of h (Body.DelayResp w requester) = Action.SendGeneral false
sending_of h (Body.PDelayRespFollowUp w requester) = Action.SendGeneral true

abbrev pub packet_for : Option Message → List Action
packet_for None = []
packet_for (Some m) = sending_of m.header m.body ∷ []
