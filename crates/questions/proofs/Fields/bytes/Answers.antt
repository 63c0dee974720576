use Rattle.std.proofs.Common.{rules, arith, ◌≡◌, ℕ, ◌+◌, ◌*◌, ◌<◌, List, take, get_or, ap, ◌∙◌}
use Rattle.std.proofs.lemmas.List.{get_or-take}
use Rattle.questions.proofs.Spelled.{spelled_more}
use Rattle.questions.specs.Digits.{digit_of, byte_at}
use Rattle.questions.proofs.Fields.bytes.Goals as goal

-- the byte of two digits of the field, which is the front of the line
byte_here : (line field : List ℕ) (n i high low : ℕ) → field ≡ take (1 + 2 * n) line → i < n → high ≡ digit_of (get_or field (1 + 2 * i) 0) → low ≡ digit_of (get_or field (2 + 2 * i) 0) → high * 16 + low ≡ byte_at line (1 + 2 * i)
byte_here line field n i high low front within h l =
    let first : get_or field (1 + 2 * i) 0 ≡ get_or line (1 + 2 * i) 0 = ap (λ f. get_or f (1 + 2 * i) 0) front ∙ get_or-take (1 + 2 * n) line (1 + 2 * i) 0 (omega arith) in
    let second : get_or field (2 + 2 * i) 0 ≡ get_or line (1 + 2 * i + 1) 0 =
    ap (λ f. get_or f (2 + 2 * i) 0) front ∙ get_or-take (1 + 2 * n) line (2 + 2 * i) 0 (omega arith) ∙ ap (λ m. get_or line m 0) (omega arith) in
    ap (λ x. x * 16 + low) (h ∙ ap digit_of first) ∙ ap (λ y. digit_of (get_or line (1 + 2 * i) 0) * 16 + y) (l ∙ ap digit_of second)

pub loop-i-preserved : goal.loop-i-preserved
loop-i-preserved g c = record {
  whole = search rules;
  spelled =
      spelled_more c.args.self.now.rest.now c.loop-i.byte-items c.loop-i.i _ (omega (arith, c.loop-i-test.true, c.loop-i.invariant.whole)) c.loop-i.invariant.spelled
      (byte_here c.args.self.now.rest.now c.in-Some.field.now g.row.N c.loop-i.i _ _ c.in-Some.ensures.cases.1 c.loop-i-test.true c.digit.ensures.value c.digit-in-loop-i.ensures.value);
}
