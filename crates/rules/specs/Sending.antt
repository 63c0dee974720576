-- Document 01, 'What each event does' and 'Sent messages', for what leaves the port: which message an event has sent, and which timers it sets, said without the rules. It holds of events that are taken.
use Rattle.std.specs.Prelude.{◌≡◌, Bool, true, false, cond, List, [], ◌∷◌, ℕ, ◌/◌, ◌%◌, ◌^◌, ◌<◌, ℤ, pos, nat_abs, ◌-ℤ◌, Option, Some, None}
use Rattle.time.specs.Units.{time, signed}
use Rattle.timers.specs.Timers as Timers
use Rattle.wire.specs.declared.MessageType.{MessageType}
use Rattle.wire.specs.declared.MessageType.TheVariants as M
use Rattle.wire.specs.Layout.{row, type_of, timestamp_of, rest_in, sdo_id, two_step, two_step_flag}
use Rattle.wire.specs.declared.Rest.{Rest}
use Rattle.wire.specs.declared.Rest.TheVariants as Q
use Rattle.record.specs.Record.{is_master, is_slave}
use Rattle.rules.specs.Names.{Body, Time, Header, Identity, Message, Mechanism, Config, Port, Context, Action}
use Rattle.rules.specs.Events.{Event, event, general, stamp, sync_timer, delay_timer, filter_answer, set_state, reading}
use Rattle.rules.specs.WorkedOut.{of_reading}
use Rattle.rules.specs.Actions.{is_timer}

-- ---- a message that is due: its type, its sequence id, the requester that an answer names, and the time that it carries

pub data Carries : Type 0 where
  no_time : Carries  -- the origin time of Sync and requests
  left : Time → Carries  -- a stamp
  came : Time → ℕ → Carries  -- a request's receive time, and the request's correction field

pub record Due : Type 0 where
  pub message : MessageType
  pub id : ℕ
  pub requester : Option Identity
  pub carries : Carries

-- of our own accord, and to someone's request
abbrev pub own_due : MessageType → ℕ → Carries → Option Due
own_due t id x = Some (record { message = t; id = id; requester = None; carries = x })

abbrev pub answer_due : MessageType → ℕ → Identity → Carries → Option Due
answer_due t id i x = Some (record { message = t; id = id; requester = Some i; carries = x })

-- 'Send stamp': the stamp of a Sync has a Master say when it left, for whatever id (reading 16); that of a response has every port do so, to whom the context names
abbrev pub stamp_due : Port → Time → Context → Option Due
stamp_due p at (Context.Sync id) = cond (is_master p.state) (own_due M.FollowUp id (left at)) None
stamp_due p at (Context.DelayReq id) = None
stamp_due p at (Context.PDelayReq id) = None
stamp_due p at (Context.PDelayResp id requester) = answer_due M.PDelayRespFollowUp id requester (left at)

-- 'Requests', our own: the configured one, with the next id of its kind
abbrev pub request_due : Port → Mechanism → Option Due
request_due p Mechanism.EndToEnd = cond (is_slave p.state) (own_due M.DelayReq p.ids.delay no_time) None
request_due p Mechanism.Peer = own_due M.PDelayReq p.ids.peer no_time

-- 'Requests', those of others on the event entry: an answer has the request's id and is for its source
abbrev pub heard_due : Port → Time → Header → Body → Time → Option Due
heard_due p at h (Body.Sync w) t = None
heard_due p at h (Body.DelayReq w) t = cond (is_master p.state) (answer_due M.DelayResp h.id h.source (came at h.correction)) None
heard_due p at h (Body.PDelayReq w) t = answer_due M.PDelayResp h.id h.source (came at h.correction)
heard_due p at h (Body.PDelayResp w requester) t = None
heard_due p at h (Body.FollowUp w) t = None
heard_due p at h (Body.DelayResp w requester) t = None
heard_due p at h (Body.PDelayRespFollowUp w requester) t = None

-- 'Sync timer': a Master's Sync, with the next id. The general entry, the filter and a new state have nothing sent
unfoldable pub due : Port → Event → Option Due
due p (event at message) = of_reading None (heard_due p at) (reading p.config message)
due p (general message) = None
due p (stamp at context) = stamp_due p at context
due p sync_timer = cond (is_master p.state) (own_due M.Sync p.ids.sync no_time) None
due p (delay_timer draw) = request_due p p.config.mechanism
due p (filter_answer update) = None
due p (set_state new) = None

-- ---- 'Sent messages': what a message says besides, by its type

-- a time follows in a message of its own: two-step
abbrev pub is_followed : MessageType → Bool
is_followed M.Sync = true
is_followed M.DelayReq = false
is_followed M.PDelayReq = false
is_followed M.PDelayResp = true
is_followed M.FollowUp = false
is_followed M.DelayResp = false
is_followed M.PDelayRespFollowUp = false

-- that flag and no other
abbrev pub flags_in : MessageType → ℕ
flags_in t = cond (is_followed t) two_step_flag 0

abbrev pub interval_in : Config → MessageType → ℕ
interval_in c M.Sync = c.sync_interval
interval_in c M.DelayReq = 0x7f
interval_in c M.PDelayReq = 0x7f
interval_in c M.PDelayResp = 0x7f
interval_in c M.FollowUp = c.sync_interval
interval_in c M.DelayResp = c.delay_interval
interval_in c M.PDelayRespFollowUp = 0x7f

-- the timestamp has whole nanoseconds, in seconds and what is left; the correction field has f, the first 16 bits behind them, and an answer's the request's own less f (reading 13)
abbrev pub whole_ns : Time → ℕ
whole_ns t = nat_abs (time t) / 2 ^ 32

abbrev pub first_bits : Time → ℕ
first_bits t = nat_abs (time t) % 2 ^ 32 / 2 ^ 16

abbrev pub ns_in : Carries → ℕ
ns_in no_time = 0
ns_in (left t) = whole_ns t
ns_in (came t c) = whole_ns t

abbrev pub correction_in : Carries → ℤ
correction_in no_time = pos 0
correction_in (left t) = pos (first_bits t)
correction_in (came t c) = signed 64 c -ℤ pos (first_bits t)

-- whom a body names behind its timestamp
abbrev pub requester_in : Rest → Option Identity
requester_in Q.Nothing = None
requester_in Q.Reserved = None
requester_in (Q.Requester i) = Some i

-- ---- a message that tells what is due. (`DueLaws`, `told_once`: there is no second one.)

pub record Fulfils (c : Config) (d : Due) (m : Message) : Type 0 where
  pub kind : m.header.kind ≡ (row d.message).number
  pub stated : m.header.length ≡ (row d.message).length
  pub body : type_of m.body ≡ d.message
  pub id : m.header.id ≡ d.id
  pub requester : requester_in (rest_in m.body) ≡ d.requester
  pub source : m.header.source ≡ c.identity
  pub domain : m.header.domain ≡ c.domain
  pub sdo : sdo_id m.header ≡ c.sdo
  pub sdo_low : m.header.minor_sdo < 256
  pub version : m.header.version ≡ 2
  pub minor : m.header.minor ≡ c.minor
  pub two_step_when_followed : two_step m.header ≡ is_followed d.message
  pub flags : m.header.flags ≡ flags_in d.message
  pub interval : m.header.interval ≡ interval_in c d.message
  pub seconds : (timestamp_of m.body).seconds ≡ ns_in d.carries / 10 ^ 9
  pub nanos : (timestamp_of m.body).nanos ≡ ns_in d.carries % 10 ^ 9
  pub correction : signed 64 m.header.correction ≡ correction_in d.carries
  pub correction_fits : m.header.correction < 2 ^ 64

-- nothing where nothing is due, and else that message
abbrev pub Sends : Config → Option Due → Option Message → Type 0
Sends c None None = Unit {0}
Sends c None (Some m) = ⊥
Sends c (Some d) None = ⊥
Sends c (Some d) (Some m) = Fulfils c d m

-- ---- timers: a Sync that is sent sets its own anew, a request its own ('Timers'), and the filter's is set when it asks for that ('Filter answer')

abbrev pub timers_in : List Action → List Action
timers_in [] = []
timers_in (a ∷ rest) = cond (is_timer a) (a ∷ timers_in rest) (timers_in rest)

abbrev pub if_due : Option Due → Action → List Action
if_due None a = []
if_due (Some d) a = a ∷ []

abbrev pub update_due : Option ℕ → List Action
update_due None = []
update_due (Some ns) = Action.ResetFilterUpdateTimer ns ∷ []

unfoldable pub timers_due : Port → Event → List Action
timers_due p (event at message) = []
timers_due p (general message) = []
timers_due p (stamp at context) = []
timers_due p sync_timer =
    if_due (due p sync_timer) (Action.ResetSyncTimer (Timers.sync_timer (Timers.interval p.config.sync_interval)))
timers_due p (delay_timer draw) =
    if_due (due p (delay_timer draw)) (Action.ResetDelayRequestTimer (Timers.delay_timer (Timers.interval p.config.delay_interval) draw))
timers_due p (filter_answer update) = update_due update.next_update
timers_due p (set_state new) = []
