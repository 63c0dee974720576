-- What the laws of proofs/FieldsLaws.antt speak of.
use Rattle.std.specs.Prelude.{ℕ, ◌+◌, ◌≤◌, ◌≡◌, Option, Some, None}

-- ---- inner fields

-- what is known of an inner field that was found
abbrev pub Lies : ℕ → ℕ → Option (ℕ × ℕ) → Type 0
Lies at e None = Unit {0}
Lies at e (Some (a, n)) = (a ≡ at + 3) × (a + n ≤ e)
