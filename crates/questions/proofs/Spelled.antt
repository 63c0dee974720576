-- A loop over the bytes of a field: one more is spelled.
use Rattle.std.proofs.Common.{arith, ◌≡◌, ℕ, ◌+◌, ◌*◌, ◌<◌, List, length, slice_index, slice_set, ◌∙◌}
use Rattle.std.proofs.lemmas.List.{get_or-set_same, get_or-set_other}
use borrow.Author.Count.{below_more}
use Rattle.questions.specs.Digits.{byte_at}

pub spelled_more : (line items : List ℕ) (i v : ℕ) → i < length items → ((k : ℕ) → k < i → slice_index items k ≡ byte_at line (1 + 2 * k)) → v ≡ byte_at line (1 + 2 * i) → (k : ℕ) → k < i + 1 → slice_index (slice_set items i v) k ≡ byte_at line (1 + 2 * k)
spelled_more line items i v within below here =
    below_more (λ k. slice_index (slice_set items i v) k ≡ byte_at line (1 + 2 * k)) i
    (λ k l. get_or-set_other items i k v 0 (omega (arith, l)) ∙ below k l)
    (get_or-set_same items i v 0 within ∙ here)
