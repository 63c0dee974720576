-- `timer::is_draw`: 2 ^ 52 - 1 is the last draw.
use Rattle.std.proofs.Common.{sym}
use Rattle.timers.proofs.TimerLaws.{in_draw_lem}
use Rattle.timers.proofs.is_draw.Goals as goal

pub returns : goal.returns
returns c = sym (in_draw_lem _)
