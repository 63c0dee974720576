use Rattle.text.specs.PageLaws.{typed_append}
use Rattle.lines.specs.Lines.{peer_text}
use Rattle.lines.proofs.ending.peer.Goals as goal

pub returns-in-Measuring : goal.returns-in-Measuring
unfolding peer_text
returns-in-Measuring c = (rw c.in-Measuring.is (simp typed_append (cc)), cc)
