-- What the laws of proofs/BesideLaws.antt speak of.
use Rattle.std.specs.Prelude.{List, [], Option, None}
use Rattle.rules.specs.Names.{Message, Action}
use Rattle.undisturbed.specs.StandingLaws.{Shared}

-- what an event says besides the record
pub record Said : Type 0 where
  pub shared : Shared
  pub message : Option Message
  pub actions : List Action

-- nothing at all
abbrev pub silence : Shared → Said
silence z = record { shared = z; message = None; actions = [] }
