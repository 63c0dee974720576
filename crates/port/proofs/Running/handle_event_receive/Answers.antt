use Rattle.rules.specs.Events.{event}
use Rattle.rules.specs.Table.{row3}
use Rattle.rules.specs.Step.{rule_of}
use Rattle.port.specs.EntryLaws.{sent, shut}
use Rattle.port.proofs.Running.handle_event_receive.Goals as goal

pub returns-in-Ok : goal.returns-in-Ok
unfolding rule_of row3
returns-in-Ok c =
    sent _ (event _ _) _ _ _ c.time_out-time_out.ensures c.gate.ensures.0 _ c.in-Ok.is c.on_event.ensures c.gate.ensures.1 tt (λ i. (c.shared_slice_known-1.given i).fits) _ _ c.answered.ensures.0 c.answered.ensures.1

pub returns-in-Err : goal.returns-in-Err
unfolding rule_of row3
returns-in-Err c = shut _ (event _ _) _ _ _ c.time_out-time_out.ensures c.gate.ensures.0 _ _ c.in-Err.is c.refused.ensures
