-- What the laws of proofs/OutsideExamples.antt speak of.
use Rattle.std.specs.Prelude.{ℕ, ◌^◌, List, [], ◌∷◌, take, None}
use Rattle.sent.specs.Messages.{no_flag}
use Rattle.record.specs.Record.{state_number, with_slave, slave_of}
use Rattle.rules.specs.Names.{Identity, Body, Mechanism, Port, Context, NewState, Measurement}
use Rattle.rules.specs.Events.{Event, event, general, stamp, delay_timer, set_state}
use Rattle.undisturbed.specs.Runs.{other, free, Item, placed, log_of, end_of, found}
use Rattle.undisturbed.specs.Undisturbed.{happens, measured_in, Woven}
use Rattle.undisturbed.specs.Harmless.{Harmless}
use Rattle.rules.specs.Running.{us, master, stranger, ns, lasting, set_up, slave, message, wire_ns}
use Rattle.undisturbed.specs.WovenExamples.{sync_part, sync_last, request_part, request_last, of_others, buffer, sync7, follow_up7, follow_up8, sync8, sync9, strangers_p_delay_req}

abbrev pub besides : Event → Item Event
besides e = placed (free other) e

abbrev pub measured_by : Port → List (Item Event) → List Measurement
measured_by p run = found measured_in (log_of happens (p, buffer) run)

-- the number of the state that a run leaves: 0 Listening, 3 Faulty, 4 Slave
abbrev pub leaves : Port → List (Item Event) → ℕ
leaves p run = state_number (end_of happens (p, buffer) run).0.state

abbrev pub NotWoven : Port → List (Item Event) → Type 0
NotWoven p run = Woven (Harmless p.config) p (slave_of master) buffer run → ⊥

abbrev pub sync7_is : Measurement
sync7_is = Measurement.Sync (ns 1000) (lasting 90) None

abbrev pub sync8_is : Measurement
sync8_is = Measurement.Sync (ns 2100) (lasting 190) None

abbrev pub sync9_is : Measurement
sync9_is = Measurement.Sync (ns 3000) (lasting 90) None

-- ---- two exchanges of one kind that overlap. A port has one sync exchange at a time: each message here replaces what the one before it opened, and none is measured. One after another both are. (A place does not say which of two exchanges of its kind an event is of, so they stand together by hand: `gather` moves nothing here.)

abbrev pub overlapping : List (Item Event)
overlapping = sync_part sync7 ∷ sync_part sync8 ∷ sync_last follow_up7 ∷ sync_last follow_up8 ∷ []

abbrev pub one_after_another : List (Item Event)
one_after_another = sync_part sync7 ∷ sync_last follow_up7 ∷ sync_part sync8 ∷ sync_last follow_up8 ∷ []

-- ---- the state set within an exchange, even to the same one: the Slave begins anew, with nothing open. Gathered, the exchange stands behind it

abbrev pub slave_again : List (Item Event)
slave_again = sync_part sync7 ∷ besides (set_state (NewState.Slave master)) ∷ sync_last follow_up7 ∷ []

-- ---- an answer that comes after the next request: that request has replaced the exchange, and the first one's DelayResp does nothing

abbrev pub stamp_of : ℕ → ℕ → Event
stamp_of id n = stamp (ns n) (Context.DelayReq id)

abbrev pub response_to : ℕ → ℕ → Event
response_to id n = general (message master no_flag 0 id (Body.DelayResp (wire_ns n) us))

abbrev pub delay0_is : Measurement
delay0_is = Measurement.Delay (ns 2000) (lasting 30) None

abbrev pub delay1_is : Measurement
delay1_is = Measurement.Delay (ns 3000) (lasting 40) None

abbrev pub late_response : List (Item Event)
late_response =
    request_part (delay_timer 0) ∷ request_part (stamp_of 0 2000) ∷ request_part (delay_timer 1) ∷ request_last (response_to 0 1960) ∷ request_part (stamp_of 1 3000) ∷ request_last (response_to 1 2950) ∷ []

abbrev pub response_in_time : List (Item Event)
response_in_time =
    request_part (delay_timer 0) ∷ request_part (stamp_of 0 2000) ∷ request_last (response_to 0 1960) ∷ request_part (delay_timer 1) ∷ request_part (stamp_of 1 3000) ∷ request_last (response_to 1 2950) ∷ []

-- nor may a request stand by itself, unanswered, within an exchange: it replaces the exchange; and gathered, the exchange stands behind it and has the next id, so that its stamp and DelayResp are not those of its request any more. Before it, the exchange is measured
abbrev pub unanswered : List (Item Event)
unanswered =
    request_part (delay_timer 0) ∷ request_part (stamp_of 0 2000) ∷ besides (delay_timer 1) ∷ request_last (response_to 0 1960) ∷ []

abbrev pub unanswered_first : List (Item Event)
unanswered_first = besides (delay_timer 1) ∷ request_part (delay_timer 0) ∷ request_part (stamp_of 0 2000) ∷ request_last (response_to 0 1960) ∷ []

abbrev pub unanswered_last : List (Item Event)
unanswered_last = request_part (delay_timer 0) ∷ request_part (stamp_of 0 2000) ∷ request_last (response_to 0 1960) ∷ besides (delay_timer 1) ∷ []

-- ---- peer-to-peer: an answer of a second responder, after the exchange is measured, makes the port Faulty, 3, and the Sync that follows is not heard

abbrev pub peer_slave : Port
peer_slave = with_slave (set_up Mechanism.Peer 10) (slave_of master)

abbrev pub peer_stamp_of : ℕ → ℕ → Event
peer_stamp_of id n = stamp (ns n) (Context.PDelayReq id)

-- one-step, so the delay is half of what lies between its coming and the stamp
abbrev pub peer_answer : Identity → ℕ → ℕ → Event
peer_answer source id n = event (ns n) (message source no_flag 0 id (Body.PDelayResp (wire_ns 6000) us))

abbrev pub measured0 : List (Item Event) → List (Item Event)
measured0 es = request_part (delay_timer 0) ∷ request_part (peer_stamp_of 0 1000) ∷ request_last (peer_answer master 0 1080) ∷ es

abbrev pub peer0_is : Measurement
peer0_is = Measurement.Peer (ns 1080) (lasting 40)

abbrev pub peer1_is : Measurement
peer1_is = Measurement.Peer (ns 2080) (lasting 40)

abbrev pub late_answer : Item Event
late_answer = besides (peer_answer stranger 0 1090)

-- and where the next request came before it, it does nothing; but gathered that request stands behind it. So the two runs differ in the end: a Slave that measures its Sync, and a port that was Faulty and is Listening
abbrev pub after_next : List (Item Event)
after_next =
    measured0 (request_part (delay_timer 1) ∷ late_answer ∷ request_part (peer_stamp_of 1 2000) ∷ request_last (peer_answer master 1 2080) ∷ sync_last sync9 ∷ [])

-- ---- what is left in the buffer: it is that of the packet written last, which the gathered run may write earlier. Here the answer to a PDelayReq, 0xA3 in its first byte, and the request, 0xA1. (Each event's own packet is the same in both.)

abbrev pub asked_within : List (Item Event)
asked_within =
    request_part (delay_timer 0) ∷ of_others strangers_p_delay_req ∷ request_part (stamp_of 0 2000) ∷ request_last (response_to 0 1960) ∷ []

abbrev pub first_byte : List (Item Event) → List ℕ
first_byte run = take 1 (end_of happens (slave 10, buffer) run).1

-- ---- foreign traffic that is answered 4, 5, 6 or 8, and not 3: one byte, with a time that is none

abbrev pub too_late : Event
too_late = event (record { hi = 2 ^ 63; lo = 0 }) (0xA0 ∷ [])
