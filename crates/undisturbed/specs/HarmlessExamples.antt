-- What the laws of proofs/HarmlessExamples.antt speak of.
use Rattle.std.specs.Prelude.{List, [], ◌∷◌}
use Rattle.sent.specs.Messages.{no_flag}
use Rattle.rules.specs.Names.{Body, Context}
use Rattle.rules.specs.Events.{Event, event, general, stamp, sync_timer, delay_timer}
use Rattle.undisturbed.specs.Runs.{other, free, Item, placed}
use Rattle.rules.specs.Running.{us, master, stranger, ns, message, wire_ns, two_step_sync_of}
use Rattle.undisturbed.specs.WovenExamples.{request_part, request_last}

abbrev pub besides : Event → Item Event
besides e = placed (free other) e

-- the request 0, its stamp and its DelayResp
abbrev pub answers : List (Item Event)
answers =
    request_part (stamp (ns 2000) (Context.DelayReq 0))
    ∷ request_last (general (message master no_flag 0 0 (Body.DelayResp (wire_ns 1960) us)))
    ∷ []

-- between them: a DelayReq of another port; on the general entry a Sync of our master, and a PDelayResp to us; a sync timer; the stamp of a Sync; a stamp of request 1, which was not made; the stamp of a PDelayReq 0, which is not configured
abbrev pub run : List (Item Event)
run =
    request_part (delay_timer 0)
    ∷ besides (event (ns 1100) (message stranger no_flag 0 0 (Body.DelayReq (wire_ns 0))))
    ∷ besides (general (two_step_sync_of 7))
    ∷ besides (general (message stranger no_flag 0 0 (Body.PDelayResp (wire_ns 0) us)))
    ∷ besides sync_timer
    ∷ besides (stamp (ns 1200) (Context.Sync 5))
    ∷ besides (stamp (ns 1300) (Context.DelayReq 1))
    ∷ besides (stamp (ns 1400) (Context.PDelayReq 0))
    ∷ answers
