-- What the laws of proofs/PeerRunLaws.antt speak of.
use Rattle.std.specs.Prelude.{◌≡◌, Option, Some, None}
use Rattle.rules.specs.Names.{Identity}

-- no responder yet, or this one
abbrev pub OnlyBy : Identity → Option Identity → Type 0
OnlyBy source None = Unit {0}
OnlyBy source (Some i) = i ≡ source
