-- A lent page is the buffer again when it is given back.
use Rattle.std.specs.Prelude.{ℕ, ◌≡◌, List}
use Rattle.std.proofs.Common.{◌∙◌, ap}
use Rattle.text.specs.declared.Page.{Page}
use Rattle.text.specs.Lent.{shown}
use Rattle.text.specs.Page.{page, typed, Wrote}

pub wrote_page : {d w e : List ℕ} {at : ℕ} (q : Page) → shown q ≡ typed (page d at) w → e ≡ q.buffer.now → Wrote d at w e q.at
wrote_page q h g = record { text = ap (λ (l : List ℕ). page l q.at) g ∙ h }
