-- Worked examples of the formulas of clause 11, and of the theorems over runs: the marked examples' numbers come out of the standard's definitions too, and runs of real bytes meet what the theorems ask.
use Rattle.std.specs.Prelude.{ℕ, zero, suc, ◌*◌, ◌^◌, ◌≡◌, refl, true, List, [], ◌∷◌, ltb, pos}
use Rattle.std.proofs.Common.{lit<, ltb-true}
use Rattle.time.specs.Units.{time, signed, wire, correction, half}
use Rattle.wire.specs.declared.MessageType.TheVariants as M
use Rattle.octets.specs.Bytes.{Bytes}
use Rattle.octets.proofs.BytesLaws.{both}
use Rattle.wire.specs.Layout.{two_step_flag}
use Rattle.sent.specs.Messages.{no_flag}
use Rattle.record.specs.Record.{slave_of}
use Rattle.rules.specs.Names.{Header, Context}
use Rattle.rules.specs.Events.{event, general, stamp, delay_timer}
use Rattle.rules.specs.Step.{step}
use Rattle.rules.specs.Ieee.{Syncs, Pdelays, offset_from_master, mean_path_delay, mean_link_delay}
use Rattle.rules.specs.IeeeLaws.{MeasuresOffset, wire_fields}
use Rattle.rules.proofs.IeeeLaws.{two_step_offset}
use Rattle.rules.specs.IeeePeerLaws.{MeasuresLinkDelay, requesting}
use Rattle.rules.proofs.IeeePeerLaws.{two_step_link_delay}
use Rattle.rules.specs.IeeeDelayLaws.{MeasuresPathDelay}
use Rattle.rules.proofs.IeeeDelayLaws.{path_delay_after_sync}
use Rattle.rules.specs.ResponderLaws.{MeasuresWay, way_of}
use Rattle.rules.proofs.ResponderLaws.{link_measured}
use Rattle.rules.specs.Running.{run_of, us, master, ns, slave, wire_ns, two_step_sync_of, follow_up_at}
use Rattle.rules.specs.IeeeExamples.{fields, nano, said, synced, delay_resp, answer, answer_follow_up, asker, small, responder, request, response, response_follow_up, asked_at}

-- ---- the formulas: timestamps and corrections in nanoseconds

-- A, and with an asymmetry of 10, a mean delay of 30, corrections of 3 and 5
offset_a : offset_from_master (nano 0) (Syncs.two_step (fields 0 0) (fields 900 0)) (nano 1000) (nano 0) ≡ nano 100
unfolding offset_from_master wire correction signed
offset_a = refl

offset_all : offset_from_master (nano 10) (Syncs.two_step (fields 0 3) (fields 900 5)) (nano 1000) (nano 30) ≡ nano 52
unfolding offset_from_master wire correction signed
offset_all = refl

-- G: with either asymmetry the same
path_delay_g : (mean_path_delay (nano 10) (Syncs.one_step (fields 1000 0)) (fields 1990 0) (nano 1100) (nano 2000) ≡ nano 45) × (mean_path_delay (nano 0) (Syncs.one_step (fields 1000 0)) (fields 1990 0) (nano 1100) (nano 2000) ≡ nano 45)
unfolding mean_path_delay wire correction signed half
path_delay_g = (refl, refl)

-- E and F: 30.5 ns, whatever the asymmetry
link_delay_e : mean_link_delay (nano 7) (Pdelays.two_step (fields 5000 0) (fields 5040 0)) (nano 1000) (nano 1101) ≡ pos (61 * 2 ^ 31)
unfolding mean_link_delay wire correction signed half
link_delay_e = refl

link_delay_f : mean_link_delay (nano 7) (Pdelays.one_step (fields 5000 40)) (nano 1000) (nano 1101) ≡ pos (61 * 2 ^ 31)
unfolding mean_link_delay wire correction signed half
link_delay_f = refl

-- ---- the theorems, met by runs: what each event brings, and that it is Taken, computes

sync_header : Header
sync_header = said master M.Sync two_step_flag 0 7

follow_up_header_lem : Header
follow_up_header_lem = said master M.FollowUp no_flag 0 7

offset_met : MeasuresOffset (slave 10) (slave_of master) (step (step (slave 10) 64 (event (ns 1000) (two_step_sync_of 7))).port 64 (general (follow_up_at 7 900))) (Syncs.two_step (wire_fields sync_header (wire_ns 0)) (wire_fields follow_up_header_lem (wire_ns 900))) (time (ns 1000))
unfolding run_of sync_header follow_up_header_lem
offset_met =
    two_step_offset (slave 10) (slave_of master) refl refl (ns 1000) (two_step_sync_of 7) sync_header (wire_ns 0) (ns 0) refl refl
    refl (general (follow_up_at 7 900)) follow_up_header_lem (wire_ns 900) (ns 900) refl refl refl 64 64 refl refl

-- then a delay request, with the DelayResp before its stamp
delay_header : Header
delay_header = said master M.DelayResp no_flag 0 0

path_delay_met : MeasuresPathDelay (nano 10) (Syncs.two_step (wire_fields sync_header (wire_ns 0)) (wire_fields follow_up_header_lem (wire_ns 900))) (wire_fields delay_header (wire_ns 1990)) (nano 1000) (nano 2000) (step (step (step synced.port 64 (delay_timer 0)).port 64 (general delay_resp)).port 64 (stamp (ns 2000) (Context.DelayReq 0)))
unfolding run_of sync_header follow_up_header_lem delay_header
path_delay_met =
    (path_delay_after_sync (slave 10) (slave_of master) synced (Syncs.two_step (wire_fields sync_header (wire_ns 0)) (wire_fields follow_up_header_lem (wire_ns 900))) (nano 1000) offset_met refl 0 64 refl
    (ns 2000) (general delay_resp) delay_header (wire_ns 1990) (ns 1990) refl refl refl).ba 64 64 refl refl

-- a peer exchange with its follow-up first and its stamp last
answer_header_lem : Header
answer_header_lem = said master M.PDelayResp two_step_flag 0 0

answer_follow_up_header : Header
answer_follow_up_header = said master M.PDelayRespFollowUp no_flag 0 0

link_delay_met : MeasuresLinkDelay (requesting asker) 0 master (Pdelays.two_step (wire_fields answer_header_lem (wire_ns 5000)) (wire_fields answer_follow_up_header (wire_ns 5040))) (nano 1000) (nano 1101) (step (step (step (step asker 64 (delay_timer 0)).port 64 (general answer_follow_up)).port 64 (event (ns 1101) answer)).port 64 (stamp (ns 1000) (Context.PDelayReq 0)))
unfolding run_of answer_header_lem answer_follow_up_header
link_delay_met =
    (two_step_link_delay asker refl 0 64 refl (ns 1000) (ns 1101) answer answer_header_lem (wire_ns 5000) (ns 5000) refl refl refl
    (general answer_follow_up) answer_follow_up_header (wire_ns 5040) (ns 5040) refl refl refl).cba 64 refl 64 64 refl refl

-- ---- both ends of a link: the request that one port sends at 1,000 ns comes to the other, whose answer is measured

pub small_bytes : (l : List ℕ) → small l ≡ true → Bytes l
unfolding small
small_bytes [] e i = lit< tt
small_bytes (x ∷ xs) e zero = ltb-true x 256 (both (ltb x 256) (small xs) e).0
small_bytes (x ∷ xs) e (suc i) = small_bytes xs (both (ltb x 256) (small xs) e).1 i

request_header : Header
request_header = said us M.PDelayReq no_flag 0 0

link_met : MeasuresWay (way_of (ns 1000) (ns 5000) (ns 5040) (ns 1101) request_header) (step (step asked_at 64 (event (ns 1101) response.sent)).port 64 (general response_follow_up.sent))
unfolding run_of request_header small
link_met =
    (link_measured responder (lit< tt) (record { clock = lit< tt; port = lit< tt }) (ns 5000) request.sent (small_bytes request.sent refl) request_header (wire_ns 0) (ns 0) refl (ns 5040) 64 64 refl refl
    asked_at refl (ns 1000) (ns 1101) refl).ab 64 64 refl refl
