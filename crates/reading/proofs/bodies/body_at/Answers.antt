use Rattle.std.proofs.Common.{arith, ap}
use Rattle.wire.specs.declared.MessageType.{MessageType}
use Rattle.wire.specs.Layout.{row}
use Rattle.wire.specs.Layout.{body_of}
use Rattle.reading.proofs.bodies.body_at.Goals as goal

pub requester_at-requires : goal.requester_at-requires
requester_at-requires c = omega (arith, ap (λ (x : MessageType). (row x).length) c.in-PDelayResp.is)

pub requester_at-requires-in-DelayResp : goal.requester_at-requires-in-DelayResp
requester_at-requires-in-DelayResp c = omega (arith, ap (λ (x : MessageType). (row x).length) c.in-DelayResp.is)

pub requester_at-requires-in-PDelayRespFollowUp : goal.requester_at-requires-in-PDelayRespFollowUp
requester_at-requires-in-PDelayRespFollowUp c = omega (arith, ap (λ (x : MessageType). (row x).length) c.in-PDelayRespFollowUp.is)

pub returns-in-Sync : goal.returns-in-Sync
unfolding body_of
returns-in-Sync c = simp (c.in-Sync.is, c.requires.1)

pub returns-in-DelayReq : goal.returns-in-DelayReq
unfolding body_of
returns-in-DelayReq c = simp (c.in-DelayReq.is, c.requires.1)

pub returns-in-PDelayReq : goal.returns-in-PDelayReq
unfolding body_of
returns-in-PDelayReq c = simp (c.in-PDelayReq.is, c.requires.1)

pub returns-in-PDelayResp : goal.returns-in-PDelayResp
unfolding body_of
returns-in-PDelayResp c = simp (c.requester_at.ensures, c.in-PDelayResp.is, c.requires.1)

pub returns-in-FollowUp : goal.returns-in-FollowUp
unfolding body_of
returns-in-FollowUp c = simp (c.in-FollowUp.is, c.requires.1)

pub returns-in-DelayResp : goal.returns-in-DelayResp
unfolding body_of
returns-in-DelayResp c = simp (c.requester_at-in-DelayResp.ensures, c.in-DelayResp.is, c.requires.1)

pub returns-in-PDelayRespFollowUp : goal.returns-in-PDelayRespFollowUp
unfolding body_of
returns-in-PDelayRespFollowUp c = simp (c.requester_at-in-PDelayRespFollowUp.ensures, c.in-PDelayRespFollowUp.is, c.requires.1)
