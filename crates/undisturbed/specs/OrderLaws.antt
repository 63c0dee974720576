-- What the laws of proofs/OrderLaws.antt speak of.
use Rattle.std.specs.Prelude.{Bool, true, ◌&&◌, ◌||◌, not, ℤ, Option, Some, None}
use Rattle.std.proofs.Math.Bool.{false}
use mathlib.Core.List.{List, [], ◌∷◌}
use Rattle.rules.specs.Events.{Event}
use Rattle.undisturbed.specs.Times.{Times}
use Rattle.undisturbed.specs.Whole.{Piece}

-- ---- which times are there

pub record Shape : Type 0 where
  pub send : Bool
  pub receive : Bool
  pub request_receive : Bool
  pub response_send : Bool

abbrev pub is_given : Option ℤ → Bool
is_given None = false
is_given (Some z) = true

abbrev pub shape_of : Times → Shape
shape_of t =
    record { send = is_given t.send; receive = is_given t.receive; request_receive = is_given t.request_receive; response_send = is_given t.response_send }

abbrev pub no_shape : Shape
no_shape = record { send = false; receive = false; request_receive = false; response_send = false }

abbrev pub or_shape : Shape → Shape → Shape
or_shape a b =
    record { send = a.send || b.send; receive = a.receive || b.receive; request_receive = a.request_receive || b.request_receive; response_send = a.response_send || b.response_send }

abbrev pub meets : Shape → Shape → Bool
meets a b =
    a.send && b.send || a.receive && b.receive || a.request_receive && b.request_receive || a.response_send && b.response_send

-- all that each kind of exchange wants
abbrev pub two_there : Shape → Bool
two_there s = s.send && s.receive

abbrev pub four_there : Shape → Bool
four_there s = s.send && (s.request_receive && (s.response_send && s.receive))

-- ---- every order of given pieces, tried one by one

-- whatever piece is picked
abbrev pub every_pick : (Piece → List Piece → Bool) → List Piece → Bool
every_pick f [] = true
every_pick f (p ∷ ps) = f p ps && every_pick (λ q left. f q (p ∷ left)) ps

abbrev pub is_none : List Piece → Bool
is_none [] = true
is_none (p ∷ ps) = false

abbrev pub alike : Bool → Bool → Bool
alike true b = b
alike false b = not b

-- an event of an exchange, whatever piece it is
abbrev pub OfAny : (Piece → Event → Type 0) → Event → Type 0
OfAny Of e = (p : Piece) × Of p e
