use Rattle.std.proofs.Common.{add-one, take-suc}
use Rattle.text.specs.PageLaws.{typed_append}
use Rattle.text.proofs.Page.copy.Goals as goal

pub loop-byte-preserved : goal.loop-byte-preserved
loop-byte-preserved c = let q = c.loop-byte in (rw (add-one, take-suc c.args.s.now q.byte-index 0 c.loop-byte-test.true, typed_append) (cc), cc)
