use Rattle.std.proofs.Common.{refl}
use Rattle.record.specs.Answers.{answer_of, places}
use Rattle.record.proofs.Answer.refused.Goals as goal

pub returns : goal.returns
unfolding answer_of places
returns c = refl
