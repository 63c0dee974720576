-- Runs of the port, and the parts that its worked examples share: who speaks, what is said, and what is told of an answer.
use Rattle.std.specs.Prelude.{ℕ, ◌-◌, ◌*◌, ◌/◌, ◌%◌, ◌^◌, Bool, List, [], ◌∷◌, ℤ, pos, Option, Some, None}
use Rattle.time.specs.declared.WireTimestamp.{WireTimestamp}
use Rattle.time.specs.Units.{time, in_time, time_words, time_of, signed, duration, in_duration, duration_words, duration_of, wire, time_of_wire, wire_of, correction, half, half_of}
use Rattle.timers.specs.Timers as Timers
use Rattle.octets.specs.Bytes.{number, field_at, spell, bytes_of}
use Rattle.wire.specs.Layout.{sdo_id, two_step, two_step_flag, timestamp_entries, timestamp_at, identity_entries, identity_at, header_entries, header_of, kind_of, body_entries, body_of, type_of, message_entries, message_bytes, sequence_id}
use Rattle.reading.specs.Reading.{row4, row5, message_of, read_of}
use Rattle.sent.specs.Messages.{header_for, no_flag, no_interval, zero_timestamp, correction_of, answer_stamp, follow_stamp, sync_of, delay_req_of, follow_up_of, p_delay_req_of, p_delay_resp_of, delay_resp_of, p_delay_resp_follow_up_of}
use Rattle.record.specs.Record.{with_slave, slave_of, port_of}
use Rattle.record.specs.Ids.{id_after}
use Rattle.fitness.specs.Fit.{time_out, interval_out, draw_out, sdo_out, minor_out, config_out, unfit}
use Rattle.record.specs.Same.{same_identity}
use Rattle.rules.specs.Names.{Time, Duration, Identity, Sender, Body, Mechanism, Port, Action, Outcome, Measurement}
use Rattle.rules.specs.Worked.{less_correction, plus_correction, elapsed, less_duration}
use Rattle.rules.specs.Events.{Event, Answered}
use Rattle.rules.specs.Measuring.{measure_sync, measure_delay, measure_peer, settle}
use Rattle.rules.specs.Exchanges.{two_step_sync, one_step_sync, followed_up, delay_answered, delay_stamped, peer_stamped, second_responder, responded, responded_later}
use Rattle.rules.specs.Rules as Rules
use Rattle.rules.specs.Table.{row1, row3}
use Rattle.rules.specs.Step.{rule_of, step}

-- ---- a run: each event on the record that the one before it left_by, with a buffer of 64 bytes. Whoever opens it opens all that a port computes with

unfoldable pub run_of : Port → List Event → List Answered
unfolding step rule_of row1 row3 unfit time_out interval_out draw_out sdo_out minor_out config_out same_identity id_after read_of row4 row5 message_of number header_of identity_at timestamp_at body_of kind_of sdo_id two_step time_of_wire wire message_bytes message_entries header_entries identity_entries timestamp_entries body_entries bytes_of spell header_for zero_timestamp time in_time time_of signed duration in_duration duration_of wire_of correction half half_of Timers.interval Timers.in_interval Timers.in_draw Timers.sync_timer Timers.delay_timer Timers.sync_timer_of Timers.delay_timer_of correction_of answer_stamp follow_stamp sync_of delay_req_of follow_up_of p_delay_req_of p_delay_resp_of delay_resp_of p_delay_resp_follow_up_of less_correction plus_correction elapsed less_duration measure_sync measure_delay measure_peer settle two_step_sync one_step_sync followed_up delay_answered delay_stamped peer_stamped second_responder responded responded_later Rules.sync Rules.follow_up Rules.delay_resp Rules.peer_answer Rules.p_delay_resp Rules.p_delay_resp_follow_up Rules.delay_req Rules.p_delay_req Rules.stamped Rules.delay_timer_ends Rules.sync_timer_ends Rules.on_event Rules.on_general Rules.filtered Rules.state_set
run_of p [] = []
run_of p (e ∷ es) =
    let r : Answered = step p 64 e in
    r ∷ run_of r.port es

-- ---- what is told of a run: of each event its outcome and its measurement, and the last answer

pub record Line : Type 0 where
  pub outcome : Outcome
  pub measured : Option Measurement

abbrev pub lines : List Answered → List Line
lines [] = []
lines (r ∷ rs) = record { outcome = r.outcome; measured = r.measurement } ∷ lines rs

-- taken with nothing measured, taken with a measurement, and refused
abbrev pub quiet : Line
quiet = record { outcome = Outcome.Taken; measured = None }

abbrev pub measures : Measurement → Line
measures m = record { outcome = Outcome.Taken; measured = Some m }

abbrev pub refuses : Outcome → Line
refuses o = record { outcome = o; measured = None }

-- the record that a run leaves, and what each event has the host do
abbrev pub left_by : Port → List Answered → Port
left_by p [] = p
left_by p (r ∷ rs) = left_by r.port rs

abbrev pub todos : List Answered → List (List Action)
todos [] = []
todos (r ∷ rs) = r.actions ∷ todos rs

-- which of them reset the filter
abbrev pub resets_in : List Answered → List Bool
resets_in [] = []
resets_in (r ∷ rs) = r.reset ∷ resets_in rs

-- the ids of the messages that they send
abbrev pub ids_sent : List Answered → List ℕ
ids_sent [] = []
ids_sent (r ∷ rs) = field_at sequence_id r.sent ∷ ids_sent rs

-- ---- who speaks

abbrev pub us : Identity
us = record { clock = 0x3031323334353637; port = 0x3839 }

abbrev pub master : Identity
master = record { clock = 0x5152535455565758; port = 0x595A }

-- another port of the same clock
abbrev pub stranger : Identity
stranger = record { clock = 0x5152535455565758; port = 0x595B }

-- ---- units: so many nanoseconds, as a time and as a duration; so many units

abbrev pub ns : ℕ → Time
ns n = time_words (pos (n * 2 ^ 32))

abbrev pub in_units : ℤ → Duration
in_units z = duration_words z

abbrev pub lasting : ℕ → Duration
lasting n = in_units (pos (n * 2 ^ 32))

-- ---- ports: a mechanism, intervals of 1 s, and an asymmetry in nanoseconds

abbrev pub set_up : Mechanism → ℕ → Port
set_up mechanism asymmetry =
    port_of record {
      identity = us;
      sdo = 0xA22;
      domain = 0x21;
      minor = 0x1;
      mechanism = mechanism;
      delay_interval = 0x00;
      sync_interval = 0x00;
      asymmetry = lasting asymmetry;
    }

-- a Slave that has heard nothing yet
abbrev pub slave : ℕ → Port
slave asymmetry = with_slave (set_up Mechanism.EndToEnd asymmetry) (slave_of master)

-- ---- messages of our domain: a source, flags, a correction in 2 ^ -16 ns, an id, a body

abbrev pub speaker : Identity → Sender
speaker i = record { sdo = 0xA22; domain = 0x21; minor = 0x1; identity = i }

abbrev pub message : Identity → ℕ → ℕ → ℕ → Body → List ℕ
message source flags correction id b = message_bytes (header_for (speaker source) (type_of b) flags correction id no_interval) b

-- a timestamp of so many nanoseconds
abbrev pub wire_ns : ℕ → WireTimestamp
wire_ns n = record { seconds = n / 10 ^ 9; nanos = n % 10 ^ 9 }

-- from the master, two-step or one-step
abbrev pub two_step_sync_of : ℕ → List ℕ
two_step_sync_of id = message master two_step_flag 0 id (Body.Sync (wire_ns 0))

abbrev pub one_step_sync_of : ℕ → ℕ → List ℕ
one_step_sync_of id origin = message master no_flag 0 id (Body.Sync (wire_ns origin))

abbrev pub follow_up_at : ℕ → ℕ → List ℕ
follow_up_at id n = message master no_flag 0 id (Body.FollowUp (wire_ns n))

-- the correction that takes a time below 0: less one 2 ^ -16 ns
abbrev pub minus_one : ℕ
minus_one = 2 ^ 64 - 1
