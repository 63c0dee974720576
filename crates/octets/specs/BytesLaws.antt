-- What the laws of proofs/BytesLaws.antt speak of.
use Rattle.std.specs.Prelude.{ℕ, ◌^◌, ◌<◌, ◌≡◌, List, [], ◌∷◌}
use Rattle.octets.specs.Bytes.{Entry, field_at}

-- each value fits its place
abbrev pub Fits : List Entry → Type 0
Fits [] = Unit {0}
Fits (e ∷ es) = (e.value < 256 ^ e.place.width) × Fits es

-- at each place of l stands the entry's value
abbrev pub Reads : List Entry → List ℕ → Type 0
Reads [] l = Unit {0}
Reads (e ∷ es) l = (field_at e.place l ≡ e.value) × Reads es l
