-- What the laws of proofs/WovenPeerExamples.antt speak of.
use Rattle.std.specs.Prelude.{◌^◌, ◌*◌, List, [], ◌∷◌, take}
use Rattle.wire.specs.Layout.{two_step_flag}
use Rattle.sent.specs.Messages.{no_flag}
use Rattle.record.specs.Record.{with_slave, with_peer, slave_of}
use Rattle.rules.specs.Names.{Body, Mechanism, PeerState, Port, Context}
use Rattle.rules.specs.Events.{Event, event, general, stamp, delay_timer}
use Rattle.undisturbed.specs.Runs.{Item}
use Rattle.rules.specs.Running.{us, master, stranger, ns, set_up, message, wire_ns, follow_up_at}
use Rattle.rules.specs.Examples.{last_ids}
use Rattle.undisturbed.specs.WovenExamples.{sync_part, sync_last, request_part, request_last, of_filter, of_others, sync7, follow_up7, follow_up8, sync8, sync9, mean_of30, one_byte, other_domain, announce, strangers_p_delay_req, p_delay_resp_stamp, strangers_sync, delay_resp_for_stranger}

-- ---- the port: a Slave with an asymmetry of 10 ns and no mean delay, whose next ids are 65535; a measured peer exchange stands

abbrev pub p : Port
p = with_peer (last_ids (with_slave (set_up Mechanism.Peer 10) (slave_of master))) (PeerState.Measured 65534 stranger)

-- ---- its requests

-- to the first, 65535, the master responds two-step: the follow-up comes first, by the event entry, then the response, then the stamp of the request
abbrev pub request65535 : Event
request65535 = delay_timer 0

abbrev pub follow_up65535 : Event
follow_up65535 = event (ns 1050) (message master no_flag 0 65535 (Body.PDelayRespFollowUp (wire_ns 5040) us))

abbrev pub response65535 : Event
response65535 = event (ns 1101) (message master two_step_flag 0 65535 (Body.PDelayResp (wire_ns 5000) us))

abbrev pub stamp65535 : Event
stamp65535 = stamp (ns 1000) (Context.PDelayReq 65535)

-- to the second, 0, another one responds, one-step and with a correction of 40 ns, before the stamp
abbrev pub request0 : Event
request0 = delay_timer 1

abbrev pub response0 : Event
response0 = event (ns 2120) (message stranger no_flag (40 * 2 ^ 16) 0 (Body.PDelayResp (wire_ns 6000) us))

abbrev pub stamp0 : Event
stamp0 = stamp (ns 2000) (Context.PDelayReq 0)

-- foreign traffic besides: what a stranger answers to the master, with the id of our request
abbrev pub answer_to_master : Event
answer_to_master = event (ns 1102) (message stranger two_step_flag 0 65535 (Body.PDelayResp (wire_ns 4000) master))

abbrev pub follow_up_to_master : Event
follow_up_to_master = general (message stranger no_flag 0 65535 (Body.PDelayRespFollowUp (wire_ns 4040) master))

-- a stranger's FollowUp with an id that is open, by the event entry; a stranger's DelayResp to us; a FollowUp 8 of the master that is cut short, answered 5
abbrev pub strangers_follow_up : Event
strangers_follow_up = event (ns 1310) (message stranger no_flag 0 8 (Body.FollowUp (wire_ns 1)))

abbrev pub strangers_delay_resp : Event
strangers_delay_resp = general (message stranger no_flag 0 0 (Body.DelayResp (wire_ns 2400) us))

abbrev pub cut_short : Event
cut_short = general (take 43 (follow_up_at 8 1800))

-- ---- the run

abbrev pub run : List (Item Event)
run =
    request_part request65535
    ∷ of_others one_byte
    ∷ request_part follow_up65535
    ∷ sync_part sync7
    ∷ of_others strangers_p_delay_req
    ∷ of_others answer_to_master
    ∷ request_part response65535
    ∷ sync_last follow_up7
    ∷ of_others p_delay_resp_stamp
    ∷ of_others cut_short
    ∷ sync_part follow_up8
    ∷ of_others strangers_follow_up
    ∷ of_filter mean_of30
    ∷ of_others follow_up_to_master
    ∷ request_last stamp65535
    ∷ of_others strangers_sync
    ∷ request_part request0
    ∷ of_others other_domain
    ∷ sync_last sync8
    ∷ request_part response0
    ∷ of_others delay_resp_for_stranger
    ∷ of_others strangers_delay_resp
    ∷ of_others announce
    ∷ sync_last sync9
    ∷ request_last stamp0
    ∷ []

-- ---- the run meets what demand 3 asks

abbrev pub answers65535 : List (Item Event)
answers65535 = request_part follow_up65535 ∷ request_part response65535 ∷ request_last stamp65535 ∷ []

abbrev pub answers0 : List (Item Event)
answers0 = request_part response0 ∷ request_last stamp0 ∷ []
