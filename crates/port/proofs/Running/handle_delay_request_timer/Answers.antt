use Rattle.rules.specs.Events.{delay_timer}
use Rattle.rules.specs.Table.{row3}
use Rattle.rules.specs.Step.{rule_of}
use Rattle.port.specs.EntryLaws.{sent, shut}
use Rattle.port.proofs.Running.handle_delay_request_timer.Goals as goal

pub returns-in-Ok : goal.returns-in-Ok
unfolding rule_of row3
returns-in-Ok c =
    sent _ (delay_timer _) _ _ _ c.draw_out-draw_out.ensures c.gate.ensures.0 _ c.in-Ok.is c.send_delay_request.ensures c.gate.ensures.1 tt tt _ _ c.answered.ensures.0 c.answered.ensures.1

pub returns-in-Err : goal.returns-in-Err
unfolding rule_of row3
returns-in-Err c = shut _ (delay_timer _) _ _ _ c.draw_out-draw_out.ensures c.gate.ensures.0 _ _ c.in-Err.is c.refused.ensures
