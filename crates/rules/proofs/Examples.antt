-- Worked examples on the whole port, each computed from the bytes of its messages: document 01's marked ones for Sync, Delay, ids and the timer, and what tells a rule from its slips. `ExamplesPeer` has the peer exchange, and the statement over the marked set.
use Rattle.std.specs.Prelude.{◌-◌, ◌^◌, ◌≡◌, refl, true, false, [], ◌∷◌, pos, Some, None}
use Rattle.time.specs.Units.{time_words}
use Rattle.record.specs.Record.{with_state}
use Rattle.rules.specs.Names.{Body, Mechanism, PortState, Context, NewState, Action, Outcome, Measurement}
use Rattle.rules.specs.Events.{event, general, stamp, sync_timer, delay_timer, filter_answer, set_state}
use Rattle.rules.specs.Exchanges.{received, sent_at}
use Rattle.rules.specs.Actions.{timers_first}
use Rattle.rules.specs.Running.{run_of, lines, quiet, measures, refuses, left_by, resets_in, us, master, stranger, ns, lasting, set_up, slave, wire_ns, two_step_sync_of, one_step_sync_of, follow_up_at}
use Rattle.rules.specs.Examples.{MeasuresSync, LeavesOpen, delay_resp_from, request_stamped, Asymmetric, ids_at, TakesLast, TimerIs, set_again, late, Refused, announce, too_late, unfit_port, outcome_in}

-- ---- the marked ones

pub sync_first : MeasuresSync (event (ns 1000) (two_step_sync_of 7) ∷ general (follow_up_at 7 900) ∷ [])
unfolding run_of
sync_first = refl

pub follow_up_first : MeasuresSync (general (follow_up_at 7 900) ∷ event (ns 1000) (two_step_sync_of 7) ∷ [])
unfolding run_of
follow_up_first = refl

-- C: a one-step Sync does not complete what a FollowUp opened. D: a FollowUp of another id replaces the exchange
pub one_step_after : LeavesOpen (general (follow_up_at 7 900) ∷ event (ns 1000) (one_step_sync_of 7 950) ∷ []) (sent_at 7 (ns 900))
unfolding run_of
one_step_after = (refl, refl)

pub other_id : LeavesOpen (event (ns 1000) (two_step_sync_of 7) ∷ general (follow_up_at 8 900) ∷ []) (sent_at 8 (ns 900))
unfolding run_of
other_id = (refl, refl)

pub asymmetric : Asymmetric 10 (lasting 90) (lasting 0) (lasting 45)
unfolding run_of
asymmetric = refl

pub last_delay_id : TakesLast (slave 0) (delay_timer 0) (ids_at 65535 0 65535)
unfolding run_of
last_delay_id = (refl, refl)

pub last_peer_id : TakesLast (set_up Mechanism.Peer 0) (delay_timer 0) (ids_at 65535 65535 0)
unfolding run_of
last_peer_id = (refl, refl)

pub last_sync_id : TakesLast (with_state (slave 0) PortState.Master) sync_timer (ids_at 0 65535 65535)
unfolding run_of
last_sync_id = (refl, refl)

pub middle_draw : TimerIs (2 ^ 51 - 1) 1000000000
unfolding run_of
middle_draw = refl

-- ---- what is kept: the mean delay, which the offset is less; the last raw offset, which no mean delay changes

-- raw 100, less a mean of 30
pub less_mean_lem : lines (run_of (slave 0) (filter_answer (record { mean_delay = Some (lasting 30); next_update = None }) ∷ event (ns 1000) (one_step_sync_of 7 900) ∷ request_stamped (general (delay_resp_from master us 1960) ∷ []))) ≡ quiet ∷ measures (Measurement.Sync (ns 1000) (lasting 100) (Some (lasting 70))) ∷ quiet ∷ quiet ∷ measures (Measurement.Delay (ns 2000) (lasting 40) (Some (lasting 30))) ∷ []
unfolding run_of
less_mean_lem = refl

-- the newer of two raw offsets, 100 and 300
pub newer_raw : lines (run_of (slave 0) (event (ns 1000) (one_step_sync_of 7 900) ∷ event (ns 1500) (one_step_sync_of 8 1200) ∷ request_stamped (general (delay_resp_from master us 1960) ∷ []))) ≡ measures (Measurement.Sync (ns 1000) (lasting 100) None) ∷ measures (Measurement.Sync (ns 1500) (lasting 300) None) ∷ quiet ∷ quiet ∷ measures (Measurement.Delay (ns 2000) (lasting 40) (Some (lasting 130))) ∷ []
unfolding run_of
newer_raw = refl

-- the response before its stamp; and with no raw offset there is no delay
pub response_first : lines (run_of (slave 0) (delay_timer 0 ∷ general (delay_resp_from master us 1960) ∷ stamp (ns 2000) (Context.DelayReq 0) ∷ [])) ≡ quiet ∷ quiet ∷ measures (Measurement.Delay (ns 2000) (lasting 40) None) ∷ []
unfolding run_of
response_first = refl

-- a DelayResp that a stranger sends, or that is a stranger's, does nothing: the one that counts still completes
pub not_ours : lines (run_of (slave 0) (request_stamped (general (delay_resp_from stranger us 1000) ∷ general (delay_resp_from master stranger 1100) ∷ general (delay_resp_from master us 1960) ∷ []))) ≡ quiet ∷ quiet ∷ quiet ∷ quiet ∷ measures (Measurement.Delay (ns 2000) (lasting 40) None) ∷ []
unfolding run_of
not_ours = refl

pub emptied : (left_by (slave 0) (run_of (slave 0) set_again) ≡ slave 0) × (resets_in (run_of (slave 0) set_again) ≡ false ∷ false ∷ true ∷ [])
unfolding run_of
emptied = (refl, refl)

-- ---- refusals

pub duplicate_follow_up : Refused (general (follow_up_at 7 900)) (general (late (Body.FollowUp (wire_ns 0)))) (sent_at 7 (ns 900))
unfolding run_of
duplicate_follow_up = (refl, refl)

pub duplicate_sync : Refused (event (ns 1000) (two_step_sync_of 7)) (event (time_words (pos (2 ^ 127 - 1))) (late (Body.Sync (wire_ns 0)))) (received 7 (ns 1000))
unfolding run_of
duplicate_sync = (refl, refl)

pub open_stays : Refused (event (ns 1000) (two_step_sync_of 7)) (general (late (Body.FollowUp (wire_ns 0)))) (received 7 (ns 1000))
unfolding run_of
open_stays = (refl, refl)

pub hosts_or_foreign : lines (run_of (slave 0) (general (announce 0x22 0x21) ∷ event (ns 1000) (announce 0x22 0x20) ∷ general (announce 0x23 0x21) ∷ [])) ≡ refuses Outcome.Host ∷ refuses Outcome.Foreign ∷ refuses Outcome.Foreign ∷ []
unfolding run_of
hosts_or_foreign = refl

pub rows_in_order : (outcome_in 63 unfit_port (event too_late []) ≡ Outcome.Buffer) × (outcome_in 64 unfit_port (event too_late []) ≡ Outcome.Unfit) × (outcome_in 64 (slave 0) (event too_late []) ≡ Outcome.Limits) × (outcome_in 64 (slave 0) (event (ns 0) []) ≡ Outcome.Version) × (outcome_in 63 (slave 0) (set_state NewState.Passive) ≡ Outcome.Buffer)
unfolding run_of
rows_in_order = (refl, refl, refl, refl, refl)

pub limits_on_events : lines (run_of (slave 0) (stamp too_late (Context.Sync 0) ∷ delay_timer (2 ^ 52) ∷ stamp (time_words (pos (2 ^ 127 - 1))) (Context.Sync 0) ∷ delay_timer (2 ^ 52 - 1) ∷ [])) ≡ refuses Outcome.Limits ∷ refuses Outcome.Limits ∷ quiet ∷ quiet ∷ []
unfolding run_of
limits_on_events = refl

-- row 5; and a Sync on the general entry is taken and does nothing
pub header_cut_short : lines (run_of (slave 0) (general (0 ∷ 2 ∷ []) ∷ general (two_step_sync_of 7) ∷ [])) ≡ refuses Outcome.Malformed ∷ quiet ∷ []
unfolding run_of
header_cut_short = refl

-- words for actions: a timer behind a packet is out of order
pub out_of_order : (timers_first (Action.SendGeneral false ∷ Action.ResetSyncTimer 1 ∷ []) ≡ false) × (timers_first (Action.ResetSyncTimer 1 ∷ Action.SendGeneral false ∷ []) ≡ true)
out_of_order = (refl, refl)
