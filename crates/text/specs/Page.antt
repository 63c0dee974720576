-- A page: bytes, and the place where the next one goes. On a page that is full nothing more is written.
use Rattle.std.specs.Prelude.{ℕ, ◌+◌, ◌≡◌, cond, List, [], ◌∷◌, length, set, ltb}

pub record Page : Type 0 where
  pub bytes : List ℕ
  pub at : ℕ

abbrev pub page : List ℕ → ℕ → Page
page d at = record { bytes = d; at = at }

-- one byte more
unfoldable pub typed_one : Page → ℕ → Page
typed_one p x = cond (ltb p.at (length p.bytes)) (page (set p.bytes p.at x) (p.at + 1)) p

-- one after another
abbrev pub typed : Page → List ℕ → Page
typed p [] = p
typed p (x ∷ w) = typed (typed_one p x) w

-- what a writer promises: from the buffer d and the place `at` on it wrote w, which leaves the buffer d' and the place k
pub record Wrote (d : List ℕ) (at : ℕ) (w d' : List ℕ) (k : ℕ) : Type 0 where
  pub text : page d' k ≡ typed (page d at) w
