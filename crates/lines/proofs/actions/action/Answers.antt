use Rattle.lines.specs.Lines.{action_text}
use Rattle.lines.proofs.actions.action.Goals as goal

pub returns-in-ResetSyncTimer : goal.returns-in-ResetSyncTimer
unfolding action_text
returns-in-ResetSyncTimer c = (rw c.in-ResetSyncTimer.is (cc), cc)

pub returns-in-ResetDelayRequestTimer : goal.returns-in-ResetDelayRequestTimer
unfolding action_text
returns-in-ResetDelayRequestTimer c = (rw c.in-ResetDelayRequestTimer.is (cc), cc)
