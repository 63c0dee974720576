use Rattle.std.proofs.Common.{refl}
use Rattle.rules.specs.Events.{filter_answer}
use Rattle.rules.specs.Table.{row3}
use Rattle.rules.specs.Step.{rule_of}
use Rattle.port.specs.EntryLaws.{sent, shut}
use Rattle.port.proofs.Running.handle_filter_update.Goals as goal

pub returns-in-Ok : goal.returns-in-Ok
unfolding rule_of row3
returns-in-Ok c =
    sent _ (filter_answer _) _ _ _ refl c.gate.ensures.0 _ c.in-Ok.is c.on_filter.ensures c.gate.ensures.1 tt tt _ _ c.answered.ensures.0 c.answered.ensures.1

pub returns-in-Err : goal.returns-in-Err
unfolding rule_of row3
returns-in-Err c = shut _ (filter_answer _) _ _ _ refl c.gate.ensures.0 _ _ c.in-Err.is c.refused.ensures
