-- Numbers in a list of bytes, big-endian: what is read at a place, what is written there, and tables of places with their values.
use Rattle.std.specs.Prelude.{ℕ, zero, suc, ◌+◌, ◌*◌, ◌/◌, ◌%◌, ◌^◌, ◌<◌, Bool, true, ◌&&◌, List, [], ◌∷◌, ◌++◌, get_or, eqb, ltb}
use Rattle.std.proofs.lemmas.List.Edits.{sets}

-- the number that the w bytes from `at` on spell, the first byte first
unfoldable pub number : ℕ → ℕ → List ℕ → ℕ
number at zero l = 0
number at (suc w) l = number at w l * 256 + get_or l (at + w) 0

-- the w bytes that spell v
unfoldable pub spell : ℕ → ℕ → List ℕ
spell zero v = []
spell (suc w) v = spell w (v / 256) ++ (v % 256 ∷ [])

-- l with v in the w bytes from `at` on
unfoldable pub put : ℕ → ℕ → ℕ → List ℕ → List ℕ
put at w v l = sets l at (spell w v)

-- a place of a message: its first byte, and how many bytes it has
pub record Place : Type 0 where
  pub at : ℕ
  pub width : ℕ

infix 20 ◌for◌
abbrev pub ◌for◌ : ℕ → ℕ → Place
a for w = record { at = a; width = w }

-- what stands at a place
abbrev pub field_at : Place → List ℕ → ℕ
field_at p l = number p.at p.width l

-- a place and the number that is written there
pub record Entry : Type 0 where
  pub place : Place
  pub value : ℕ

infix 19 ◌≔◌
abbrev pub ◌≔◌ : Place → ℕ → Entry
p ≔ v = record { place = p; value = v }

-- the bytes of a table, one entry after another
unfoldable pub bytes_of : List Entry → List ℕ
bytes_of [] = []
bytes_of (e ∷ es) = spell e.place.width e.value ++ bytes_of es

-- each value has room in its place
unfoldable pub roomy : List Entry → Bool
roomy [] = true
roomy (e ∷ es) = ltb e.value (256 ^ e.place.width) && roomy es

-- how many bytes a table has
unfoldable pub size_of : List Entry → ℕ
size_of [] = 0
size_of (e ∷ es) = e.place.width + size_of es

-- a table has neither gap nor overlap: its first entry starts at n, and each where the one before it ends
unfoldable pub tiles : ℕ → List Entry → Bool
tiles n [] = true
tiles n (e ∷ es) = eqb e.place.at n && tiles (n + e.place.width) es

-- l with each entry written at its place
unfoldable pub puts : List Entry → List ℕ → List ℕ
puts [] l = l
puts (e ∷ es) l = puts es (put e.place.at e.place.width e.value l)

-- every number of l is a byte
abbrev pub Bytes : List ℕ → Type 0
Bytes l = (i : ℕ) → get_or l i 0 < 256
