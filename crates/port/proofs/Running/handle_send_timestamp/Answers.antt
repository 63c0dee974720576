use Rattle.rules.specs.Events.{stamp}
use Rattle.rules.specs.Table.{row3}
use Rattle.rules.specs.Step.{rule_of}
use Rattle.port.specs.EntryLaws.{sent, shut}
use Rattle.port.proofs.Running.handle_send_timestamp.Goals as goal

pub returns-in-Ok : goal.returns-in-Ok
unfolding rule_of row3
returns-in-Ok c =
    sent _ (stamp _ _) _ _ _ c.time_out-stamp_out.ensures c.gate.ensures.0 _ c.in-Ok.is c.on_stamp.ensures.0 c.gate.ensures.1 c.on_stamp.ensures.1 tt _ _ c.answered.ensures.0 c.answered.ensures.1

pub returns-in-Err : goal.returns-in-Err
unfolding rule_of row3
returns-in-Err c = shut _ (stamp _ _) _ _ _ c.time_out-stamp_out.ensures c.gate.ensures.0 _ _ c.in-Err.is c.refused.ensures
