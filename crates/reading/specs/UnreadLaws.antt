-- What the laws of proofs/UnreadLaws.antt speak of.
use Rattle.std.specs.Prelude.{ℕ, ◌+◌, ◌≤◌, ◌<◌, ◌≡◌, List, [], ◌∷◌, get_or, ltb}
use Rattle.std.proofs.Math.Bool.{false}
use Rattle.wire.specs.declared.Kind.{Kind}
use Rattle.octets.specs.Bytes.{Place}
use Rattle.reading.specs.Unread.{unread_at}

-- byte i lies in none of the places, as facts
abbrev pub Outside : List Place → ℕ → Type 0
Outside [] i = Unit {0}
Outside (p ∷ ps) i = (p.at ≤ i → i < p.at + p.width → ⊥) × Outside ps i

-- ---- the kinds: what is read of a header, and of a body

-- l and m have the same bytes where a message of this kind is read
abbrev pub Agree : Kind → List ℕ → List ℕ → Type 0
Agree k l m = (i : ℕ) → unread_at k i ≡ false → get_or l i 0 ≡ get_or m i 0

-- ---- the whole

-- all that the rows ask of a length: whether it is below 2, 34 and the stated length
abbrev pub Alike : ℕ → ℕ → ℕ → Type 0
Alike stated a b = (ltb a 2 ≡ ltb b 2) × (ltb a 34 ≡ ltb b 34) × (ltb a stated ≡ ltb b stated)
