-- What the laws of proofs/DueLaws.antt speak of.
use Rattle.std.specs.Prelude.{◌≡◌, ℕ, ◌/◌, ◌%◌, ◌^◌, ◌<◌, Option, Some, None}
use Rattle.time.specs.Units.{signed}
use Rattle.wire.specs.declared.MessageType.{MessageType}
use Rattle.wire.specs.declared.MessageType.TheVariants as M
use Rattle.rules.specs.Names.{Body, WireTimestamp, Identity}
use Rattle.rules.specs.Sending.{Carries, ns_in, correction_in}

-- ---- what is carried of a time

pub record Carrying (x : Carries) (w : WireTimestamp) (correction : ℕ) : Type 0 where
  pub seconds : w.seconds ≡ ns_in x / 10 ^ 9
  pub nanos : w.nanos ≡ ns_in x % 10 ^ 9
  pub correction_is : signed 64 correction ≡ correction_in x
  pub fits : correction < 2 ^ 64

-- ---- no two messages tell the same

-- a body is its type, its timestamp and its requester
abbrev pub naming : Option Identity → Body → (Identity → Body) → Body
naming None other f = other
naming (Some i) other f = f i

abbrev pub body_from : MessageType → WireTimestamp → Option Identity → Body
body_from M.Sync w r = Body.Sync w
body_from M.DelayReq w r = Body.DelayReq w
body_from M.PDelayReq w r = Body.PDelayReq w
body_from M.PDelayResp w r = naming r (Body.Sync w) (Body.PDelayResp w)
body_from M.FollowUp w r = Body.FollowUp w
body_from M.DelayResp w r = naming r (Body.Sync w) (Body.DelayResp w)
body_from M.PDelayRespFollowUp w r = naming r (Body.Sync w) (Body.PDelayRespFollowUp w)
