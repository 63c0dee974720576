-- Numbers as text.
use Rattle.std.specs.Prelude.{ℕ, zero, suc, ◌+◌, ◌/◌, ◌%◌, cond, List, [], ◌∷◌, ◌++◌, ltb}

-- n in decimal without leading zeros, if k digits hold it
unfoldable pub decimal_in : ℕ → ℕ → List ℕ
decimal_in zero n = []
decimal_in (suc k) n = cond (ltb n 10) ((48 + n) ∷ []) (decimal_in k (n / 10) ++ ((48 + n % 10) ∷ []))

-- 20 digits hold every number below 2^64
abbrev pub decimal_of : ℕ → List ℕ
decimal_of n = decimal_in 20 n

-- a hexadecimal digit, 0 to 9 and a to f
unfoldable pub glyph_of : ℕ → ℕ
glyph_of d = cond (ltb d 10) (48 + d) (87 + d)

-- the last k hexadecimal digits of n
unfoldable pub hex_in : ℕ → ℕ → List ℕ
hex_in zero n = []
hex_in (suc k) n = hex_in k (n / 16) ++ (glyph_of (n % 16) ∷ [])

-- bytes, two digits each
unfoldable pub hex_of : List ℕ → List ℕ
hex_of [] = []
hex_of (b ∷ s) = hex_in 2 b ++ hex_of s
