use Rattle.std.specs.Prelude.{Err}
use Rattle.std.proofs.Common.{sym, ◌∙◌, ap, eq-eqb, ne_eqb, lt-ltb, le-ltb, ltb-false, ℕ, cond, ltb, length, arith}
use Rattle.octets.proofs.BytesLaws.{neither}
use Rattle.wire.specs.declared.Header.{Header}
use Rattle.wire.specs.Layout.{header_of, kind_of, row}
use Rattle.reading.specs.Reading.{read_of, row4, row5, message_of}
use Rattle.reading.proofs.read.Goals as goal
use Rattle.reading.specs.declared.ReadError.{ReadError}

pub returns-then-n-lt2 : goal.returns-then-n-lt2
unfolding read_of row4 row5 header_of
returns-then-n-lt2 c =
    simp (lt-ltb (length c.args.s.now) 2 (omega (arith, c.if-n-lt2.true)))

pub returns-then-second-ne2 : goal.returns-then-second-ne2
unfolding read_of row4 row5 header_of
returns-then-second-ne2 c =
    simp (ne_eqb _ _ c.if-second-ne2.true, sym c.get_u8-second.ensures, le-ltb _ _ c.if-n-lt2.false)

pub returns-then-n-lt34 : goal.returns-then-n-lt34
unfolding read_of row4 row5 header_of
returns-then-n-lt34 c =
    simp (lt-ltb (length c.args.s.now) 34 (omega (arith, c.if-n-lt34.true)), eq-eqb _ _ c.if-second-ne2.false, sym c.get_u8-second.ensures, le-ltb _ _ c.if-n-lt2.false)

pub returns-then-stated-n : goal.returns-then-stated-n
unfolding read_of row4 row5 header_of
returns-then-stated-n c =
    let stated = sym (c.from-stated.ensures ∙ ap (λ (h : Header). h.length) c.header_at-header.ensures) in
    simp (c.if-stated-n.true, stated, le-ltb _ _ c.if-n-lt34.false, eq-eqb _ _ c.if-second-ne2.false, sym c.get_u8-second.ensures, le-ltb _ _ c.if-n-lt2.false)

pub message_at-requires : goal.message_at-requires
message_at-requires c =
    (c.header_at-header.ensures, omega (arith, ltb-false (length c.args.s.now) c.from-stated.result (neither (ltb c.from-stated.result 34) _ c.if-stated-n.false).1, c.from-stated.ensures))

pub returns-in-Table : goal.returns-in-Table
unfolding read_of row4 row5 header_of
returns-in-Table c =
    let stated = sym (c.from-stated.ensures ∙ ap (λ (h : Header). h.length) c.header_at-header.ensures) in
    let kind = sym (c.from.ensures ∙ ap (λ (h : Header). kind_of h.kind) c.header_at-header.ensures) ∙ c.in-Table.is in
    simp (c.if-stated-n.false, stated, kind, le-ltb _ _ c.if-n-lt34.false, eq-eqb _ _ c.if-second-ne2.false, sym c.get_u8-second.ensures, le-ltb _ _ c.if-n-lt2.false)
    (c.message_at.ensures ∙ ap (λ (x : ℕ). cond (ltb x (row c.in-Table.t).length) (Err ReadError.Malformed) (message_of c.in-Table.t c.args.s.now)) (sym c.from-stated.ensures))

pub returns-in-Host : goal.returns-in-Host
unfolding read_of row4 row5 header_of
returns-in-Host c =
    let stated = sym (c.from-stated.ensures ∙ ap (λ (h : Header). h.length) c.header_at-header.ensures) in
    let kind = sym (c.from.ensures ∙ ap (λ (h : Header). kind_of h.kind) c.header_at-header.ensures) ∙ c.in-Host.is in
    simp (c.if-stated-n.false, stated, kind, c.header_at-header.ensures, le-ltb _ _ c.if-n-lt34.false, eq-eqb _ _ c.if-second-ne2.false, sym c.get_u8-second.ensures, le-ltb _ _ c.if-n-lt2.false)

pub returns-in-Reserved : goal.returns-in-Reserved
unfolding read_of row4 row5 header_of
returns-in-Reserved c =
    let stated = sym (c.from-stated.ensures ∙ ap (λ (h : Header). h.length) c.header_at-header.ensures) in
    let kind = sym (c.from.ensures ∙ ap (λ (h : Header). kind_of h.kind) c.header_at-header.ensures) ∙ c.in-Reserved.is in
    simp (c.if-stated-n.false, stated, kind, le-ltb _ _ c.if-n-lt34.false, eq-eqb _ _ c.if-second-ne2.false, sym c.get_u8-second.ensures, le-ltb _ _ c.if-n-lt2.false)
