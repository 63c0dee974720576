use Rattle.std.proofs.Common.{rules}
use Rattle.playing.specs.BetweenLaws.{filled}
use Rattle.playing.proofs.WrittenLaws.{lent_long, brought}
use Rattle.playing.proofs.fill.Goals as goal

pub returns-clause-kept : goal.returns-clause-kept
returns-clause-kept g c = (filled c.args.f c.args.w.now c.requires.sound _ c.front-g.ensures _ c.read-got.new.buf c.read-got.result _ c.shift.ensures (search rules)).1

pub returns-clause-sound_2 : goal.returns-clause-sound_2
returns-clause-sound_2 g c = (filled c.args.f c.args.w.now c.requires.sound _ c.front-g.ensures _ c.read-got.new.buf c.read-got.result _ c.shift.ensures (search rules)).0

pub returns-clause-brought : goal.returns-clause-brought
returns-clause-brought g c = brought c.args.f c.args.w.now c.requires.sound _ c.read-got.new.buf _ _ c.shift.ensures (lent_long _ c.args.f _ _ c.front-g.ensures c.read-got.auto.buf) c.requires.start_in_bounds _ c.read-got.result _ c.front-g.ensures c.read-got.ensures.bound c.read-got.ensures.bytes (search rules)
