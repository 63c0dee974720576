-- What demand 3 does not speak of, and why: small runs, each with what it measures and what is measured where each exchange stands together. None of them is `Woven`, not even with what is `Harmless`: by `others_stand` it would then measure what it does not. And, at the end, what it does not promise: a run that is `Woven`, and leaves another buffer than the gathered one.
use Rattle.std.specs.Prelude.{◌≡◌, refl, Bool, true, false, List, [], ◌∷◌, length, eqb, Ok, Err}
use Rattle.std.proofs.Common.{sym, ap, true≢false}
use Rattle.record.specs.Record.{with_slave, slave_of}
use Rattle.rules.specs.Names.{Reading, Mechanism, Measurement, Received, ReadError}
use Rattle.rules.specs.Events.{delay_timer, buffer_after}
use Rattle.undisturbed.specs.Runs.{gather_from, gather, lane, joined, Each, log_of, end_of, found}
use Rattle.undisturbed.specs.Whole.{OfDelay, RequestExchange, SyncExchanges, RequestExchanges, Foreign, other_sync, other_follow_up, other_delay_resp, delay_resp_for_other, p_delay_resp_for_other, p_delay_resp_follow_up_for_other, a_p_delay_req, unheard}
use Rattle.undisturbed.specs.Undisturbed.{happens, Idle, NothingElse, AllStand, Woven}
use Rattle.undisturbed.proofs.UndisturbedLaws.{others_stand}
use Rattle.rules.specs.Running.{run_of, master, set_up, slave}
use Rattle.rules.specs.IeeeExamples.{small}
use Rattle.undisturbed.specs.WovenExamples.{sync_last, request_part, request_last, all_small, buffer, sync9}
use Rattle.undisturbed.proofs.WovenExamples.{all_bytes, from_master, as_listed}
use Rattle.undisturbed.specs.OutsideExamples.{measured_by, leaves, NotWoven, sync7_is, sync8_is, sync9_is, overlapping, one_after_another, slave_again, stamp_of, response_to, delay0_is, delay1_is, late_response, response_in_time, unanswered, unanswered_first, unanswered_last, peer_slave, measured0, peer0_is, peer1_is, late_answer, after_next, asked_within, first_byte, too_late}

idle : (m : Mechanism) → Idle (with_slave (set_up m 10) (slave_of master)) (slave_of master)
idle m = record { slave = refl; no_sync = refl; no_delay = refl; no_peer = refl }

-- ---- two exchanges of one kind that overlap. A port has one sync exchange at a time: each message here replaces what the one before it opened, and none is measured. One after another both are. (A place does not say which of two exchanges of its kind an event is of, so they stand together by hand: `gather` moves nothing here.)

pub overlapped : (measured_by (slave 10) overlapping ≡ []) × (measured_by (slave 10) one_after_another ≡ sync7_is ∷ sync8_is ∷ [])
unfolding run_of happens buffer_after log_of found
overlapped = (refl, refl)

pub overlapped_not_woven : NotWoven (slave 10) overlapping
unfolding run_of happens buffer_after log_of Each
overlapped_not_woven w = (others_stand (slave 10) (slave_of master) (idle Mechanism.EndToEnd) buffer overlapping w).once.1.1.0

pub overlapped_stays : gather overlapping ≡ overlapping
unfolding gather_from
overlapped_stays = refl

-- ---- the state set within an exchange, even to the same one: the Slave begins anew, with nothing open. Gathered, the exchange stands behind it

pub state_set : (measured_by (slave 10) slave_again ≡ []) × (measured_by (slave 10) (gather slave_again) ≡ sync7_is ∷ [])
unfolding run_of happens buffer_after log_of found gather_from
state_set = (refl, refl)

pub state_set_not_woven : NotWoven (slave 10) slave_again
unfolding run_of happens buffer_after log_of Each
state_set_not_woven w = (others_stand (slave 10) (slave_of master) (idle Mechanism.EndToEnd) buffer slave_again w).once.1.1.0

-- ---- an answer that comes after the next request: that request has replaced the exchange, and the first one's DelayResp does nothing

pub late_response_lem : (measured_by (slave 10) late_response ≡ delay1_is ∷ []) × (measured_by (slave 10) response_in_time ≡ delay0_is ∷ delay1_is ∷ [])
unfolding run_of happens buffer_after log_of found
late_response_lem = (refl, refl)

pub late_response_not_woven : NotWoven (slave 10) late_response
unfolding run_of happens buffer_after log_of Each
late_response_not_woven w = (others_stand (slave 10) (slave_of master) (idle Mechanism.EndToEnd) buffer late_response w).once.1.1.1.0

pub unanswered_gathered : (gather unanswered ≡ unanswered_first) × (measured_by (slave 10) unanswered ≡ []) × (measured_by (slave 10) unanswered_first ≡ []) × (measured_by (slave 10) unanswered_last ≡ delay0_is ∷ [])
unfolding run_of happens buffer_after log_of found gather_from
unanswered_gathered = (refl, refl, refl, refl)

pub unanswered_not_woven : NotWoven (slave 10) unanswered
unfolding run_of happens buffer_after log_of Each
unanswered_not_woven w = (others_stand (slave 10) (slave_of master) (idle Mechanism.EndToEnd) buffer unanswered w).once.1.1.1.0

-- ---- peer-to-peer: an answer of a second responder, after the exchange is measured, makes the port Faulty, 3, and the Sync that follows is not heard

pub late_answer_lem : (leaves peer_slave (measured0 (late_answer ∷ [])) ≡ 3) × (measured_by peer_slave (measured0 (late_answer ∷ sync_last sync9 ∷ [])) ≡ peer0_is ∷ []) × (measured_by peer_slave (measured0 (sync_last sync9 ∷ [])) ≡ peer0_is ∷ sync9_is ∷ [])
unfolding run_of happens buffer_after log_of end_of found
late_answer_lem = (refl, refl, refl)

pub late_answer_not_woven : NotWoven peer_slave (measured0 (late_answer ∷ sync_last sync9 ∷ []))
unfolding run_of happens buffer_after log_of Each
late_answer_not_woven w =
    (others_stand peer_slave (slave_of master) (idle Mechanism.Peer) buffer (measured0 (late_answer ∷ sync_last sync9 ∷ [])) w).once.1.1.1.1.0

pub late_answer_after_next : (measured_by peer_slave after_next ≡ peer0_is ∷ peer1_is ∷ sync9_is ∷ []) × (leaves peer_slave after_next ≡ 4) × (measured_by peer_slave (gather after_next) ≡ peer0_is ∷ peer1_is ∷ []) × (leaves peer_slave (gather after_next) ≡ 0)
unfolding run_of happens buffer_after log_of end_of found gather_from
late_answer_after_next = (refl, refl, refl, refl)

pub late_answer_after_next_not_woven : NotWoven peer_slave after_next
unfolding run_of happens buffer_after log_of found gather_from
late_answer_after_next_not_woven w =
    true≢false (ap (λ (ms : List Measurement). eqb (length ms) 2) (others_stand peer_slave (slave_of master) (idle Mechanism.Peer) buffer after_next w).order)

-- ---- what is left in the buffer: it is that of the packet written last, which the gathered run may write earlier. Here the answer to a PDelayReq, 0xA3 in its first byte, and the request, 0xA1. (Each event's own packet is the same in both.)

pub asked_within_lem : Woven NothingElse (slave 10) (slave_of master) buffer asked_within
unfolding run_of happens buffer_after log_of lane joined Each SyncExchanges RequestExchanges AllStand small all_small
asked_within_lem =
    record {
      sync_exchanges = [];
      sync_events = refl;
      syncs_whole = tt;
      request_exchanges = (request_part (delay_timer 0) ∷ request_part (stamp_of 0 2000) ∷ request_last (response_to 0 1960) ∷ []) ∷ [];
      request_events = refl;
      requests_whole = (RequestExchange.asked _ _ (as_listed (OfDelay.a_delay_stamp _) (OfDelay.a_delay_resp _ _ _ _ _ refl (from_master refl refl) refl)), tt);
      others = (Foreign.a_p_delay_req _ _ _ _ refl, tt);
      bytes = all_bytes asked_within refl;
      taken = (refl, (tt, (refl, (refl, tt))));
    }

pub buffer_left : (first_byte asked_within ≡ 0xA3 ∷ []) × (first_byte (gather asked_within) ≡ 0xA1 ∷ [])
unfolding run_of happens buffer_after end_of gather_from
buffer_left = (refl, refl)

-- ---- foreign traffic that is answered 4, 5, 6 or 8, and not 3: one byte, with a time that is none

is_message : Reading → Bool
is_message (Ok (Received.Message h b t)) = true
is_message (Ok (Received.Host h)) = false
is_message (Err ReadError.Version) = false
is_message (Err ReadError.Malformed) = false

pub answered_3_not_foreign : Foreign (slave 10).config master too_late → ⊥
unfolding run_of is_message
answered_3_not_foreign (other_sync e h w u b n) = true≢false (ap is_message (sym b))
answered_3_not_foreign (other_follow_up e h w u b n) = true≢false (ap is_message (sym b))
answered_3_not_foreign (other_delay_resp e h w r u b n) = true≢false (ap is_message (sym b))
answered_3_not_foreign (delay_resp_for_other e h w r u b n) = true≢false (ap is_message (sym b))
answered_3_not_foreign (p_delay_resp_for_other e h w r u b n) = true≢false (ap is_message (sym b))
answered_3_not_foreign (p_delay_resp_follow_up_for_other e h w r u b n) = true≢false (ap is_message (sym b))
answered_3_not_foreign (a_p_delay_req e h w u b) = true≢false (ap is_message (sym b))
answered_3_not_foreign (unheard e limits o) = true≢false limits
