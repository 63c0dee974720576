use Rattle.std.proofs.Common.{rules}
use Rattle.vectors.proofs.Breaking.{on_err, broken_part}
use Rattle.vectors.proofs.fetch.Goals as goal

pub returns-in_err-read-in-Some-total-clause-failed : goal.returns-in_err-read-in-Some-total-clause-failed
returns-in_err-read-in-Some-total-clause-failed g c =
    on_err _ (broken_part _ _ _ _ c.in-Some.head c.read_full.new.buf _ (search rules) (rw c.in-Some.is at c.in_ok-head.ensures.whole) c.in_err-read-in-Some-total.ensures.failed)
