-- What the functions that lay digits from the last one on have between them. Nothing here has to be believed: `decimal` and `hex` promise `Digits`.
use Rattle.std.specs.Prelude.{ℕ, zero, suc, ◌+◌, ◌/◌, ◌%◌, List, [], ◌∷◌, ◌++◌}
use Rattle.text.specs.Digits.{glyph_of}

-- the last k digits of n in base b, zeros in front among them
unfoldable pub digits_in : ℕ → ℕ → ℕ → List ℕ
digits_in b zero n = []
digits_in b (suc k) n = digits_in b k (n / b) ++ (glyph_of (n % b) ∷ [])

-- the last k decimal digits of n, said by themselves
unfoldable pub last_in : ℕ → ℕ → List ℕ
last_in zero n = []
last_in (suc k) n = last_in k (n / 10) ++ ((48 + n % 10) ∷ [])

-- n digits from i on, one after another
unfoldable pub glyphs : ℕ → ℕ → List ℕ
glyphs i zero = []
glyphs i (suc n) = glyph_of i ∷ glyphs (suc i) n
