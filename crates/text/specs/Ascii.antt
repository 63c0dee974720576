-- Text as a list of ASCII numbers, written in quotes.
use Rattle.std.specs.Prelude.{ℕ, List, [] as []ᴸ, ◌∷◌ as ◌∷ᴸ◌, ◌++◌}
use Prim.Native.Char.{code}
use Prim.Native.String.{String, [], ◌∷◌}

abbrev pub ascii : String → List ℕ
ascii [] = []ᴸ
ascii (c ∷ s) = code c ∷ᴸ ascii s

-- lines, each with a newline behind it
unfoldable pub text_of : List String → List ℕ
text_of []ᴸ = []ᴸ
text_of (l ∷ᴸ more) = ascii l ++ (10 ∷ᴸ text_of more)
