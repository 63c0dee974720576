-- Row 7, and what is measured, said without the rules: the numbers that document 01 has worked out for an event, each in its own range, and the exchange that the event completes. Times are numbers of units in ℤ, so nothing here can refuse.
use Rattle.std.specs.Prelude.{ℕ, ◌-◌, ◌/◌, ◌%◌, ◌^◌, Bool, false, cond, ◌&&◌, ◌||◌, not, List, [], ◌∷◌, ◌++◌, eqb, ℤ, pos, nat_abs, ◌+ℤ◌, ◌-ℤ◌, Option, Some, None, Ok, Err}
use Rattle.rules.specs.Names.{Body, Time, Identity, Header, Exchange, PortState, PeerState, Port, Context, Duration, Received, ReadError, Reading}
use Rattle.time.specs.Units.{within, time, in_time, duration, in_duration, signed, correction}
use Rattle.wire.specs.Layout.{two_step}
use Rattle.sent.specs.Messages.{in_correction}
use Rattle.record.specs.Record.{is_master, as_slave}
use Rattle.fitness.specs.Fit.{there}
use Rattle.record.specs.Same.{same_identity}
use Rattle.rules.specs.Events.{Event, event, general, stamp, sync_timer, delay_timer, filter_answer, set_state, reading}

-- ---- a number and its range: a time, a duration, 48-bit seconds, a 64-bit correction

pub data Range : Type 0 where
  times durations seconds corrections : Range

abbrev pub in_range : Range → ℤ → Bool
in_range times z = in_time z
in_range durations z = in_duration z
in_range seconds z = within (pos 0) (pos (2 ^ 48 - 1)) z
in_range corrections z = in_correction z

infix 5 ◌∋◌
pub data Number : Type 0 where
  ◌∋◌ : Range → ℤ → Number

abbrev pub outside : List Number → Bool
outside [] = false
outside ((r ∋ z) ∷ ns) = not (in_range r z) || outside ns

-- ---- what is measured ('The measurement'), in ℤ

-- the exchange that an event completes, with its times
pub data Completed : Type 0 where
  unfinished : Completed
  sync : ℤ → ℤ → Completed  -- send, receive
  delay : ℤ → ℤ → Completed  -- send, receive
  peer : ℤ → ℤ → ℤ → ℤ → Completed  -- of the request: send, receive; of the response: send, receive

abbrev pub asymmetry : Port → ℤ
asymmetry p = duration p.config.asymmetry

abbrev pub raw_sync : Port → ℤ → ℤ → ℤ
raw_sync p send receive = receive -ℤ send -ℤ asymmetry p

abbrev pub raw_delay : Port → ℤ → ℤ → ℤ
raw_delay p send receive = send -ℤ receive -ℤ asymmetry p

-- twice the peer delay
abbrev pub peer_twice : ℤ → ℤ → ℤ → ℤ → ℤ
peer_twice request_send request_receive response_send response_receive =
    (response_receive -ℤ request_send) -ℤ (response_send -ℤ request_receive)

-- the last raw sync offset, which only a Slave keeps
abbrev pub last_raw : PortState → Option Duration
last_raw state = as_slave state None (λ s. s.raw)

-- one number more, where a duration is there
abbrev pub if_there : Option Duration → (ℤ → ℤ) → List Number
if_there None f = []
if_there (Some d) f = (durations ∋ f (duration d)) ∷ []

-- each difference by itself: reading 12
abbrev pub numbers_of : Port → Completed → List Number
numbers_of p unfinished = []
numbers_of p (sync send receive) =
    (durations ∋ receive -ℤ send)
    ∷ (durations ∋ raw_sync p send receive)
    ∷ if_there p.mean (λ mean. raw_sync p send receive -ℤ mean)
numbers_of p (delay send receive) =
    (durations ∋ send -ℤ receive)
    ∷ (durations ∋ raw_delay p send receive)
    ∷ if_there (last_raw p.state) (λ last. last -ℤ raw_delay p send receive)
numbers_of p (peer request_send request_receive response_send response_receive) =
    (durations ∋ response_receive -ℤ request_send)
    ∷ (durations ∋ response_send -ℤ request_receive)
    ∷ (durations ∋ peer_twice request_send request_receive response_send response_receive)
    ∷ []

-- ---- what stands in the record

-- as Slave, and from its master
abbrev pub hears : PortState → Header → Bool
hears state h = as_slave state false (λ s. same_identity s.master h.source)

abbrev pub sync_in : PortState → Exchange
sync_in state = as_slave state Exchange.Empty (λ s. s.sync)

abbrev pub delay_in : PortState → Exchange
delay_in state = as_slave state Exchange.Empty (λ s. s.delay)

abbrev pub send_in : Exchange → Option Time
send_in Exchange.Empty = None
send_in (Exchange.Measuring id send receive) = send

abbrev pub receive_in : Exchange → Option Time
receive_in Exchange.Empty = None
receive_in (Exchange.Measuring id send receive) = receive

-- open with this id
abbrev pub opened : ℕ → Exchange → Bool
opened id Exchange.Empty = false
opened id (Exchange.Measuring held send receive) = eqb held id

abbrev pub peer_opened : ℕ → PeerState → Bool
peer_opened id PeerState.Empty = false
peer_opened id (PeerState.Measuring held responder a b c d) = eqb held id
peer_opened id (PeerState.Measured held responder) = false

abbrev pub peer_in : PeerState → (Option Time → Option Time → Option Time → Option Time → Option Time) → Option Time
peer_in PeerState.Empty f = None
peer_in (PeerState.Measuring held responder request_send request_receive response_send response_receive) f =
    f request_send request_receive response_send response_receive
peer_in (PeerState.Measured held responder) f = None

abbrev pub request_send_in : PeerState → Option Time
request_send_in q = peer_in q (λ a b c d. a)

abbrev pub request_receive_in : PeerState → Option Time
request_receive_in q = peer_in q (λ a b c d. b)

abbrev pub response_send_in : PeerState → Option Time
response_send_in q = peer_in q (λ a b c d. c)

abbrev pub response_receive_in : PeerState → Option Time
response_receive_in q = peer_in q (λ a b c d. d)

-- the responder that is known for the request with this id, measuring or measured, is another than the source
abbrev pub differs : Option Identity → Identity → Bool
differs None source = false
differs (Some i) source = not (same_identity i source)

abbrev pub answered_by : ℕ → PeerState → Option Identity
answered_by id PeerState.Empty = None
answered_by id (PeerState.Measuring held responder a b c d) = cond (eqb held id) responder None
answered_by id (PeerState.Measured held responder) = cond (eqb held id) (Some responder) None

-- a second responder to our request
abbrev pub second : Port → Header → Identity → Bool
second p h requester =
    same_identity p.config.identity requester && differs (answered_by h.id p.peer) h.source

-- ---- what an event has worked out: corrected times and sent fields, and the exchange that it completes

pub record Sums : Type 0 where
  pub numbers : List Number
  pub completes : Completed

abbrev pub no_sums : Sums
no_sums = record { numbers = []; completes = unfinished }

abbrev pub held : Option Time → (ℤ → Completed) → Completed
held None k = unfinished
held (Some t) k = k (time t)

-- a corrected time, and what the exchange then is
abbrev pub corrected : ℤ → Completed → Sums
corrected z c = record { numbers = (times ∋ z) ∷ []; completes = c }

-- Sync: receive time less correction. A two-step one completes the exchange of its id that has only a send time; a one-step one is complete by itself, unless its id is open
abbrev pub sync_sums : Port → Header → ℤ → ℤ → Sums
sync_sums p h origin receive =
    let x : Exchange = sync_in p.state in
    cond (hears p.state h)
    (corrected receive
    (cond (two_step h)
    (cond (opened h.id x && not (there (receive_in x))) (held (send_in x) (λ send. sync send receive)) unfinished)
    (cond (opened h.id x) unfinished (sync origin receive))))
    no_sums

-- FollowUp: timestamp plus correction
abbrev pub follow_up_sums : Port → Header → ℤ → Sums
follow_up_sums p h send =
    let x : Exchange = sync_in p.state in
    cond (hears p.state h)
    (corrected send (cond (opened h.id x && not (there (send_in x))) (held (receive_in x) (λ receive. sync send receive)) unfinished))
    no_sums

-- DelayResp: timestamp less correction, only where it is stored
abbrev pub delay_resp_sums : Port → Header → Identity → ℤ → Sums
delay_resp_sums p h requester receive =
    let x : Exchange = delay_in p.state in
    cond (same_identity p.config.identity requester && hears p.state h && opened h.id x && not (there (receive_in x)))
    (corrected receive (held (send_in x) (λ send. delay send receive)))
    no_sums

abbrev pub delay_stamp_sums : Port → ℕ → ℤ → Sums
delay_stamp_sums p id send =
    let x : Exchange = delay_in p.state in
    cond (opened id x && not (there (send_in x)))
    (record { numbers = []; completes = held (receive_in x) (λ receive. delay send receive) })
    no_sums

-- PDelayResp: receive time less correction; one-step, the response's send time is the request's receive time
abbrev pub p_delay_resp_sums : Port → Header → Identity → ℤ → ℤ → Sums
p_delay_resp_sums p h requester body receive =
    let q : PeerState = p.peer in
    cond (same_identity p.config.identity requester && not (second p h requester) && peer_opened h.id q && not (there (response_receive_in q)))
    (corrected receive (held (request_send_in q) (λ asked.
    cond (two_step h) (held (response_send_in q) (λ send. peer asked body send receive)) (peer asked body body receive))))
    no_sums

-- its follow-up: timestamp plus correction
abbrev pub p_delay_resp_follow_up_sums : Port → Header → Identity → ℤ → Sums
p_delay_resp_follow_up_sums p h requester send =
    let q : PeerState = p.peer in
    cond (same_identity p.config.identity requester && not (second p h requester) && peer_opened h.id q && not (there (response_send_in q)))
    (corrected send
    (held (request_send_in q) (λ asked. held (request_receive_in q) (λ came. held (response_receive_in q) (λ receive. peer asked came send receive)))))
    no_sums

abbrev pub peer_stamp_sums : Port → ℕ → ℤ → Sums
peer_stamp_sums p id asked =
    let q : PeerState = p.peer in
    cond (peer_opened id q && not (there (request_send_in q)))
    (record {
      numbers = [];
      completes = held (request_receive_in q) (λ came. held (response_send_in q) (λ send. held (response_receive_in q) (λ receive. peer asked came send receive)));
    })
    no_sums

-- sent fields: the seconds of a stamp, and what an answer's correction becomes when f is taken off the request's (f: the first 16 bits behind the nanoseconds)
abbrev pub seconds_of : Time → Number
seconds_of t = seconds ∋ pos (nat_abs (time t) / 2 ^ 32 / 10 ^ 9)

abbrev pub less_f : Header → Time → Number
less_f h t = corrections ∋ signed 64 h.correction -ℤ pos (nat_abs (time t) % 2 ^ 32 / 2 ^ 16)

abbrev pub sent_fields : List Number → Sums
sent_fields ns = record { numbers = ns; completes = unfinished }

-- ---- by event

abbrev pub later_sums : Port → Header → Body → Time → Sums
later_sums p h (Body.Sync w) t = no_sums
later_sums p h (Body.DelayReq w) t = no_sums
later_sums p h (Body.PDelayReq w) t = no_sums
later_sums p h (Body.PDelayResp w requester) t = no_sums
later_sums p h (Body.FollowUp w) t = follow_up_sums p h (time t +ℤ correction h.correction)
later_sums p h (Body.DelayResp w requester) t = delay_resp_sums p h requester (time t -ℤ correction h.correction)
later_sums p h (Body.PDelayRespFollowUp w requester) t = p_delay_resp_follow_up_sums p h requester (time t +ℤ correction h.correction)

abbrev pub event_sums : Port → Time → Header → Body → Time → Sums
event_sums p at h (Body.Sync w) t = sync_sums p h (time t) (time at -ℤ correction h.correction)
event_sums p at h (Body.DelayReq w) t = cond (is_master p.state) (sent_fields (seconds_of at ∷ less_f h at ∷ [])) no_sums
event_sums p at h (Body.PDelayReq w) t = sent_fields (seconds_of at ∷ less_f h at ∷ [])
event_sums p at h (Body.PDelayResp w requester) t = p_delay_resp_sums p h requester (time t) (time at -ℤ correction h.correction)
event_sums p at h (Body.FollowUp w) t = later_sums p h (Body.FollowUp w) t
event_sums p at h (Body.DelayResp w requester) t = later_sums p h (Body.DelayResp w requester) t
event_sums p at h (Body.PDelayRespFollowUp w requester) t = later_sums p h (Body.PDelayRespFollowUp w requester) t

abbrev pub of_reading : {A : Type 0} → A → (Header → Body → Time → A) → Reading → A
of_reading other f (Ok (Received.Message h b t)) = f h b t
of_reading other f (Ok (Received.Host h)) = other
of_reading other f (Err ReadError.Version) = other
of_reading other f (Err ReadError.Malformed) = other

abbrev pub stamp_sums : Port → Time → Context → Sums
stamp_sums p t (Context.Sync id) = cond (is_master p.state) (sent_fields (seconds_of t ∷ [])) no_sums
stamp_sums p t (Context.DelayReq id) = delay_stamp_sums p id (time t)
stamp_sums p t (Context.PDelayReq id) = peer_stamp_sums p id (time t)
stamp_sums p t (Context.PDelayResp id requester) = sent_fields (seconds_of t ∷ [])

unfoldable pub sums_of : Port → Event → Sums
sums_of p (event at message) = of_reading no_sums (event_sums p at) (reading p.config message)
sums_of p (general message) = of_reading no_sums (later_sums p) (reading p.config message)
sums_of p (stamp at context) = stamp_sums p at context
sums_of p sync_timer = no_sums
sums_of p (delay_timer draw) = no_sums
sums_of p (filter_answer update) = no_sums
sums_of p (set_state new) = no_sums

-- ---- row 7

unfoldable pub worked_out : Port → Event → List Number
worked_out p e = (sums_of p e).numbers ++ numbers_of p (sums_of p e).completes

unfoldable pub row7 : Port → Event → Bool
row7 p e = outside (worked_out p e)
