-- What the laws of proofs/Examples.antt speak of.
use Rattle.std.specs.Prelude.{ℕ, ◌^◌, ◌≡◌, false, List, [], ◌∷◌, pos, Some, None}
use Rattle.time.specs.Units.{time_words}
use Rattle.wire.specs.Layout.{header_entries}
use Rattle.octets.specs.Bytes.{bytes_of}
use Rattle.sent.specs.Messages.{no_flag}
use Rattle.record.specs.Record.{with_ids, with_slave, with_sync, slave_of}
use Rattle.rules.specs.Names.{Time, Duration, Body, Identity, Exchange, Ids, Port, Context, NewState, Action, Outcome, Measurement}
use Rattle.rules.specs.Events.{Event, event, general, stamp, delay_timer, set_state}
use Rattle.rules.specs.Exchanges.{received}
use Rattle.rules.specs.Step.{step}
use Rattle.rules.specs.Running.{run_of, lines, quiet, measures, refuses, left_by, todos, ids_sent, us, master, ns, lasting, slave, message, wire_ns, two_step_sync_of, one_step_sync_of, minus_one}

-- ---- the marked ones

-- A, and B: the FollowUp first
abbrev pub MeasuresSync : List Event → Type 0
MeasuresSync es = lines (run_of (slave 0) es) ≡ quiet ∷ measures (Measurement.Sync (ns 1000) (lasting 100) None) ∷ []

-- two events that measure nothing, and the sync exchange that they leave open
abbrev pub LeavesOpen : List Event → Exchange → Type 0
LeavesOpen es x =
    (lines (run_of (slave 0) es) ≡ quiet ∷ quiet ∷ []) × (left_by (slave 0) (run_of (slave 0) es) ≡ with_slave (slave 0) (with_sync (slave_of master) x))

-- G: asymmetry 10 ns; the delay is half of what the last raw offset, 90 ns, is above the raw 0
abbrev pub delay_resp_from : Identity → Identity → ℕ → List ℕ
delay_resp_from source requester n = message source no_flag 0 0 (Body.DelayResp (wire_ns n) requester)

abbrev pub request_stamped : List Event → List Event
request_stamped es = delay_timer 0 ∷ stamp (ns 2000) (Context.DelayReq 0) ∷ es

abbrev pub Asymmetric : ℕ → Duration → Duration → Duration → Type 0
Asymmetric asymmetry raw₁ raw₂ delay =
    lines (run_of (slave asymmetry) (event (ns 1100) (one_step_sync_of 7 1000) ∷ request_stamped (general (delay_resp_from master us 1990) ∷ []))) ≡ measures (Measurement.Sync (ns 1100) raw₁ None) ∷ quiet ∷ quiet ∷ measures (Measurement.Delay (ns 2000) raw₂ (Some delay)) ∷ []

-- I: the last id is sent, and 0 follows it; each of the three by itself
abbrev pub ids_at : ℕ → ℕ → ℕ → Ids
ids_at s d p = record { sync = s; delay = d; peer = p }

abbrev pub last_ids : Port → Port
last_ids p = with_ids p (ids_at 65535 65535 65535)

abbrev pub TakesLast : Port → Event → Ids → Type 0
TakesLast p e after =
    (ids_sent (run_of (last_ids p) (e ∷ [])) ≡ 65535 ∷ []) × ((left_by (last_ids p) (run_of (last_ids p) (e ∷ []))).ids ≡ after)

-- J: the middle draw, and the timer before the packet
abbrev pub TimerIs : ℕ → ℕ → Type 0
TimerIs draw timer =
    todos (run_of (slave 0) (delay_timer draw ∷ [])) ≡ (Action.ResetDelayRequestTimer timer ∷ Action.SendEvent (Context.DelayReq 0) false ∷ []) ∷ []

-- ---- what is kept: the mean delay, which the offset is less; the last raw offset, which no mean delay changes

-- Slave set again, with the same master, is emptied, with a reset: neither the open exchange nor the raw offset is left
abbrev pub set_again : List Event
set_again = event (ns 1000) (one_step_sync_of 7 900) ∷ event (ns 2000) (two_step_sync_of 8) ∷ set_state (NewState.Slave master) ∷ []

-- ---- refusals

-- 7 comes before the duplicate test, and leaves the exchange as it was: here the second Sync and the second FollowUp of an id, and a FollowUp that its exchange waits for
abbrev pub late : Body → List ℕ
late b = message master no_flag minus_one 7 b

abbrev pub Refused : Event → Event → Exchange → Type 0
Refused first then x =
    (lines (run_of (slave 0) (first ∷ then ∷ [])) ≡ quiet ∷ refuses Outcome.Range ∷ []) × (left_by (slave 0) (run_of (slave 0) (first ∷ then ∷ [])) ≡ with_slave (slave 0) (with_sync (slave_of master) x))

-- an Announce, type 11, is the host's, 8, where it is ours; of another domain, or another sdo id, it is foreign, 6
abbrev pub announce : ℕ → ℕ → List ℕ
announce sdo domain =
    bytes_of (header_entries (record { major_sdo = 0xA; kind = 11; minor = 0x1; version = 2; length = 34; domain = domain; minor_sdo = sdo; flags = 0; correction = 0; source = master; id = 0; interval = 0 }) 5)

-- rows 1 to 4 in their order: a buffer of 63 bytes is too short even for an event that sends nothing, and 64 are enough; an unfit record is found before a time out of limits, that before a message without a version; the largest time and draw are taken
abbrev pub too_late : Time
too_late = time_words (pos (2 ^ 127))

abbrev pub unfit_port : Port
unfit_port = with_slave (slave 0) (with_sync (slave_of master) (received 7 too_late))

abbrev pub outcome_in : ℕ → Port → Event → Outcome
outcome_in room p e = (step p room e).outcome
