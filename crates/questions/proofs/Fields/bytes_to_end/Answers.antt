use Rattle.std.proofs.Common.{rules, arith, ◌≡◌, ℕ, ◌+◌, ◌*◌, List, drop, get_or, ap, ◌∙◌}
use Rattle.std.proofs.lemmas.List.{drop-drop, get_or-drop}
use Rattle.questions.proofs.Spelled.{spelled_more}
use Rattle.questions.specs.Digits.{digit_of, byte_at}
use Rattle.questions.proofs.Fields.bytes_to_end.Goals as goal

-- two bytes from a place on
after : (line s t : List ℕ) (n : ℕ) → s ≡ drop n line → t ≡ drop 1 s → t ≡ drop (n + 1) line
after line s t n from cut = cut ∙ ap (drop 1) from ∙ drop-drop 1 n line

front : (line s : List ℕ) (n a : ℕ) → s ≡ drop n line → a ≡ get_or s 0 0 → a ≡ get_or line n 0
front line s n a from first = first ∙ ap (λ l. get_or l 0 0) from ∙ get_or-drop n line 0 0 ∙ ap (λ m. get_or line m 0) (omega arith)

-- the byte of the two digits that come next
byte_here : (line s t : List ℕ) (n a b high low : ℕ) → s ≡ drop n line → t ≡ drop 1 s → a ≡ get_or s 0 0 → b ≡ get_or t 0 0 → high ≡ digit_of a → low ≡ digit_of b → high * 16 + low ≡ byte_at line n
byte_here line s t n a b high low from cut first second h l =
    ap (λ x. x * 16 + low) (h ∙ ap digit_of (front line s n a from first))
    ∙ ap (λ y. digit_of (get_or line n 0) * 16 + y) (l ∙ ap digit_of (front line t (n + 1) b (after line s t n from cut) second))

next_more : (line s t u : List ℕ) (i : ℕ) → s ≡ drop (1 + 2 * i) line → t ≡ drop 1 s → u ≡ drop 1 t → u ≡ drop (1 + 2 * (i + 1)) line
next_more line s t u i from cut again =
    after line t u (1 + 2 * i + 1) (after line s t (1 + 2 * i) from cut) again ∙ ap (λ n. drop n line) (omega arith)

pub loop-byte-preserved : goal.loop-byte-preserved
loop-byte-preserved g c =
    let line : List ℕ = c.args.self.now.rest.now in
    let i : ℕ = c.loop-byte.byte-index in
    let next : c.loop-byte.self.rest.now ≡ drop (1 + 2 * i) line = c.loop-byte.invariant.next in
    record {
      whole = search rules;
      spelled =
          spelled_more line c.loop-byte.byte-items i _ (omega (arith, c.loop-byte-test.true, c.loop-byte.auto.byte-index-end, c.loop-byte.invariant.whole)) c.loop-byte.invariant.spelled
          (byte_here line _ _ (1 + 2 * i) _ _ _ _ next c.next.ensures.rest c.next.ensures.value c.next-in-loop-byte.ensures.value c.digit-high.ensures.value c.digit-low.ensures.value);
      next = next_more line _ _ _ i next c.next.ensures.rest c.next-in-loop-byte.ensures.rest;
    }
