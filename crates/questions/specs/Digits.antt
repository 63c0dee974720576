-- What the hexadecimal digits in a line spell.
use Rattle.std.specs.Prelude.{ℕ, ◌+◌, ◌-◌, ◌*◌, nat_le, ◌&&◌, if◌then◌else◌, List, get_or}

-- The value of a byte as a digit in lower case. What is no digit counts as the digit 0.
abbrev pub digit_of : ℕ → ℕ
digit_of x = if nat_le 48 x && nat_le x 57 then x - 48 else (if nat_le 97 x && nat_le x 102 then x - 87 else 0)

-- The byte that is spelled by the two digits from a place of a line. What lies behind the line counts as the digit 0.
abbrev pub byte_at : List ℕ → ℕ → ℕ
byte_at line place = digit_of (get_or line place 0) * 16 + digit_of (get_or line (place + 1) 0)
