-- What the laws of proofs/PeerSideLaws.antt speak of.
use Rattle.std.specs.Prelude.{Bool, ◌||◌, Option, Some, None}
use Rattle.std.proofs.Math.Bool.{cond}
use Rattle.fitness.specs.Fit.{there}
use Rattle.rules.specs.Names.{Identity}
use Rattle.undisturbed.specs.TimesLaws.{Bag}

-- ---- the responder is known as soon as a time came from him

abbrev pub heard_of : Bag → Bool
heard_of v = there v.request_receive || there v.response_send || there v.receive

abbrev pub known_by : Identity → Bag → Option Identity
known_by i v = cond (heard_of v) (Some i) None
