-- A run that demand 3 speaks of, peer-to-peer: as in `WovenExamples`, with the same sync exchanges and the same filter answer.
use Rattle.std.specs.Prelude.{ℕ, ◌^◌, ◌*◌, ◌≡◌, refl, true, false, [], ◌∷◌, eqb, pos, Some, None}
use Rattle.std.proofs.Common.{sym, ap, true≢false}
use Rattle.wire.specs.Layout.{two_step_flag}
use Rattle.sent.specs.Messages.{no_flag}
use Rattle.record.specs.Record.{slave_of}
use Rattle.rules.specs.Names.{Identity, Header, Body, Mechanism, Outcome, Measurement}
use Rattle.rules.specs.Events.{buffer_after}
use Rattle.rules.specs.Table.{row4, row5, row6, row8}
use Rattle.undisturbed.specs.Runs.{gather_from, gather, lane, joined, Each, log_of, found}
use Rattle.undisturbed.specs.Whole.{the_stamp, the_p_delay_resp, the_p_delay_resp_follow_up, this_one, one_behind, firstly, FromResponder, OfPeer, RequestExchange, RequestExchanges, Foreign, FilterAnswer, Not}
use Rattle.undisturbed.specs.Undisturbed.{happens, measured_in, NothingElse, AllStand, Woven, Undisturbed}
use Rattle.undisturbed.proofs.UndisturbedLaws.{undisturbed}
use Rattle.rules.specs.Running.{run_of, us, master, stranger, ns, in_units, lasting, message, wire_ns}
use Rattle.rules.specs.IeeeExamples.{small}
use Rattle.undisturbed.specs.WovenExamples.{sync_part, sync_last, request_part, request_last, of_filter, of_others, all_small, outcome_in, sent_in, buffer, sync7, follow_up7, follow_up8, sync8, sync9, mean_of30, one_byte, other_domain, announce, strangers_p_delay_req, p_delay_resp_stamp, strangers_sync, delay_resp_for_stranger, exchange7, exchange8, exchange9}
use Rattle.undisturbed.proofs.WovenExamples.{all_bytes, the_other_way, not_master, not_us, syncs_whole}
use Rattle.undisturbed.specs.WovenPeerExamples.{p, request65535, follow_up65535, response65535, stamp65535, request0, response0, stamp0, answer_to_master, follow_up_to_master, strangers_follow_up, strangers_delay_resp, cut_short, run, answers65535, answers0}

-- ---- the run

pub gathered : gather run ≡ of_others one_byte ∷ of_others strangers_p_delay_req ∷ of_others answer_to_master ∷ sync_part sync7 ∷ sync_last follow_up7 ∷ of_others p_delay_resp_stamp ∷ of_others cut_short ∷ of_others strangers_follow_up ∷ of_filter mean_of30 ∷ of_others follow_up_to_master ∷ request_part request65535 ∷ request_part follow_up65535 ∷ request_part response65535 ∷ request_last stamp65535 ∷ of_others strangers_sync ∷ of_others other_domain ∷ sync_part follow_up8 ∷ sync_last sync8 ∷ of_others delay_resp_for_stranger ∷ of_others strangers_delay_resp ∷ of_others announce ∷ sync_last sync9 ∷ request_part request0 ∷ request_part response0 ∷ request_last stamp0 ∷ []
unfolding gather_from
gathered = refl

-- ---- what is measured, in order: raw 90, no mean being stored yet; 30.5 ns, half of 101 less 40; raw 190 and raw 90, each less the mean; 40 ns

pub measured : found measured_in (log_of happens (p, buffer) run) ≡ Measurement.Sync (ns 1000) (lasting 90) None ∷ Measurement.Peer (ns 1101) (in_units (pos (61 * 2 ^ 31))) ∷ Measurement.Sync (ns 2100) (lasting 190) (Some (lasting 160)) ∷ Measurement.Sync (ns 3000) (lasting 90) (Some (lasting 60)) ∷ Measurement.Peer (ns 2080) (lasting 40) ∷ []
unfolding run_of happens buffer_after log_of found
measured = refl

-- the number of each answer
pub numbers : found outcome_in (log_of happens (p, buffer) run) ≡ Outcome.Taken ∷ Outcome.Version ∷ Outcome.Taken ∷ Outcome.Taken ∷ Outcome.Taken ∷ Outcome.Taken ∷ Outcome.Taken ∷ Outcome.Taken ∷ Outcome.Taken ∷ Outcome.Malformed ∷ Outcome.Taken ∷ Outcome.Taken ∷ Outcome.Taken ∷ Outcome.Taken ∷ Outcome.Taken ∷ Outcome.Taken ∷ Outcome.Taken ∷ Outcome.Foreign ∷ Outcome.Taken ∷ Outcome.Taken ∷ Outcome.Taken ∷ Outcome.Taken ∷ Outcome.Host ∷ Outcome.Taken ∷ Outcome.Taken ∷ []
unfolding run_of happens buffer_after log_of found
numbers = refl

-- what is sent, in order: the first request, with the last id; the answer to the PDelayReq, and its follow-up; the second request, with the first id
pub sent : found sent_in (log_of happens (p, buffer) run) ≡ message us no_flag 0 65535 (Body.PDelayReq (wire_ns 0)) ∷ message us two_step_flag 0 40 (Body.PDelayResp (wire_ns 1100) stranger) ∷ message us no_flag 0 40 (Body.PDelayRespFollowUp (wire_ns 1200) stranger) ∷ message us no_flag 0 0 (Body.PDelayReq (wire_ns 0)) ∷ []
unfolding run_of happens buffer_after log_of found
sent = refl

-- ---- the run meets what demand 3 asks

from_responder : {responder : Identity} {id : ℕ} {h : Header} {requester : Identity} → h.source ≡ responder → h.id ≡ id → requester ≡ us → FromResponder us responder id h requester
from_responder s i r = record { source = s; same_id = i; to_us = r }

master_not_us : Not (master ≡ us)
master_not_us e = true≢false (ap (λ (i : Identity). eqb i.port 0x3839) (sym e))

-- the follow-up, then the response, then the stamp
whole65535 : RequestExchange p.config master 65535 (request_part request65535 ∷ answers65535)
unfolding run_of
whole65535 =
    RequestExchange.asked _ answers65535
    (record {
      responder = master;
      two = true;
      events = firstly the_p_delay_resp_follow_up (the_stamp ∷ the_p_delay_resp ∷ the_p_delay_resp_follow_up ∷ []) (the_stamp ∷ the_p_delay_resp ∷ []) follow_up65535 (request_part response65535 ∷ request_last stamp65535 ∷ [])
          (one_behind the_p_delay_resp_follow_up the_stamp (the_p_delay_resp ∷ the_p_delay_resp_follow_up ∷ []) (the_p_delay_resp ∷ []) (one_behind the_p_delay_resp_follow_up the_p_delay_resp (the_p_delay_resp_follow_up ∷ []) [] (this_one the_p_delay_resp_follow_up [])))
          (OfPeer.a_p_delay_resp_follow_up _ _ _ _ _ refl (from_responder refl refl refl))
          (the_other_way (OfPeer.a_p_delay_resp _ _ _ _ _ _ refl (from_responder refl refl refl) refl) (OfPeer.a_peer_stamp _));
    })

whole0 : RequestExchange p.config master 0 (request_part request0 ∷ answers0)
unfolding run_of
whole0 =
    RequestExchange.asked _ answers0 (record { responder = stranger; two = false; events = the_other_way (OfPeer.a_p_delay_resp _ _ _ _ _ _ refl (from_responder refl refl refl) refl) (OfPeer.a_peer_stamp _) })

-- what stands between the exchanges, in its order
others : AllStand p.config master NothingElse 65535 run
unfolding run_of AllStand row4 row5 row6 row8
others =
    (Foreign.unheard _ refl refl, (Foreign.a_p_delay_req _ _ _ _ refl, (Foreign.p_delay_resp_for_other _ _ _ _ _ refl master_not_us, (Foreign.a_p_delay_resp_stamp _ _ _, (Foreign.unheard _ refl refl, (Foreign.other_follow_up _ _ _ _ refl not_master, (FilterAnswer.a_filter_answer _, (Foreign.p_delay_resp_follow_up_for_other _ _ _ _ _ refl master_not_us, (Foreign.other_sync _ _ _ _ refl not_master, (Foreign.unheard _ refl refl, (Foreign.delay_resp_for_other _ _ _ _ _ refl not_us, (Foreign.other_delay_resp _ _ _ _ _ refl not_master, (Foreign.unheard _ refl refl, tt)))))))))))))

pub woven : Woven NothingElse p (slave_of master) buffer run
unfolding run_of happens buffer_after log_of lane joined Each RequestExchanges small all_small
woven =
    record {
      sync_exchanges = exchange7 ∷ exchange8 ∷ exchange9 ∷ [];
      sync_events = refl;
      syncs_whole = syncs_whole Mechanism.Peer;
      request_exchanges = (request_part request65535 ∷ answers65535) ∷ (request_part request0 ∷ answers0) ∷ [];
      request_events = refl;
      requests_whole = (whole65535, (whole0, tt));
      others = others;
      bytes = all_bytes run refl;
      taken = (refl, (tt, (refl, (refl, (tt, (tt, (refl, (refl, (tt, (tt, (refl, (tt, (refl, (tt, (refl, (tt, (refl, (tt, (refl, (refl, (tt, (tt, (tt, (refl, (refl, tt)))))))))))))))))))))))));
    }

-- so demand 3 holds of it
pub holds : Undisturbed p buffer run
holds =
    undisturbed p (slave_of master) (record { slave = refl; no_sync = refl; no_delay = refl; no_peer = refl }) buffer run woven
