use Rattle.wire.proofs.Body.rest.Goals as goal

pub returns-in-PDelayResp : goal.returns-in-PDelayResp
returns-in-PDelayResp c = simp c.in-PDelayResp.is

pub returns-in-DelayResp : goal.returns-in-DelayResp
returns-in-DelayResp c = simp c.in-DelayResp.is

pub returns-in-PDelayRespFollowUp : goal.returns-in-PDelayRespFollowUp
returns-in-PDelayRespFollowUp c = simp c.in-PDelayRespFollowUp.is
