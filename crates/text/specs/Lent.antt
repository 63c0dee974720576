-- What a writer promises of a lent page.
use Rattle.std.specs.Prelude.{ℕ, ◌≡◌, List}
use Rattle.text.specs.Page as spec
use Rattle.text.specs.declared.Page.{Page}

-- what stands in the buffer, and the place where the next byte goes
abbrev pub shown : Page → spec.Page
shown p = spec.page p.buffer.now p.at

-- w was written on p, which left q; the buffer is the one that was lent
abbrev pub Writes : Page → List ℕ → Page → Type 0
Writes p w q = (shown q ≡ spec.typed (shown p) w) × (q.buffer.ghost_name ≡ p.buffer.ghost_name)
