use Rattle.octets.specs.Bytes.{roomy}
use Rattle.wire.specs.Layout.{timestamp_entries, identity_entries, body_entries}
use Rattle.writing.proofs.fits.body_fits.Goals as goal

pub returns-in-Sync : goal.returns-in-Sync
unfolding roomy body_entries timestamp_entries identity_entries
returns-in-Sync c = simp (c.stamp_fits.ensures, c.in-Sync.is)

pub returns-in-DelayReq : goal.returns-in-DelayReq
unfolding roomy body_entries timestamp_entries identity_entries
returns-in-DelayReq c = simp (c.stamp_fits-in-DelayReq.ensures, c.in-DelayReq.is)

pub returns-in-PDelayReq : goal.returns-in-PDelayReq
unfolding roomy body_entries timestamp_entries identity_entries
returns-in-PDelayReq c = simp (c.stamp_fits-in-PDelayReq.ensures, c.in-PDelayReq.is)

pub returns-in-PDelayResp : goal.returns-in-PDelayResp
unfolding roomy body_entries timestamp_entries identity_entries
returns-in-PDelayResp c = simp (c.answer_fits.ensures, c.in-PDelayResp.is)

pub returns-in-FollowUp : goal.returns-in-FollowUp
unfolding roomy body_entries timestamp_entries identity_entries
returns-in-FollowUp c = simp (c.stamp_fits-in-FollowUp.ensures, c.in-FollowUp.is)

pub returns-in-DelayResp : goal.returns-in-DelayResp
unfolding roomy body_entries timestamp_entries identity_entries
returns-in-DelayResp c = simp (c.answer_fits-in-DelayResp.ensures, c.in-DelayResp.is)

pub returns-in-PDelayRespFollowUp : goal.returns-in-PDelayRespFollowUp
unfolding roomy body_entries timestamp_entries identity_entries
returns-in-PDelayRespFollowUp c = simp (c.answer_fits-in-PDelayRespFollowUp.ensures, c.in-PDelayRespFollowUp.is)
