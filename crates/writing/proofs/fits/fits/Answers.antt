use Rattle.std.proofs.Common.{◌≡◌, sym, ◌∙◌, ap, true, arith, eq-eqb, ne_eqb}
use Rattle.wire.specs.declared.MessageType.{MessageType}
use Rattle.wire.specs.Layout.{row, type_of, header_entries, identity_entries}
use Rattle.writing.specs.Writing.{fits_of, together}
use Rattle.octets.proofs.BytesLaws.{fits_roomy}
use Rattle.wire.proofs.LayoutLaws.{row_bounds}
use Rattle.writing.proofs.Room.{fits_by_tests}
use Rattle.writing.proofs.fits.fits.Goals as goal

pub returns-then-h-ne2 : goal.returns-then-h-ne2
unfolding fits_of together
returns-then-h-ne2 c = simp (ne_eqb _ _ c.if-h-ne2.true)

pub returns-then-h-number : goal.returns-then-h-number
unfolding fits_of together
returns-then-h-number c =
    let number = c.number.ensures ∙ ap (λ (t : MessageType). (row t).number) c.message_type-t.ensures in
    simp (ne_eqb _ _ c.if-h-number.true, eq-eqb _ _ c.if-h-ne2.false, sym number)

pub returns-then-h-length : goal.returns-then-h-length
unfolding fits_of together
returns-then-h-length c =
    let number = c.number.ensures ∙ ap (λ (t : MessageType). (row t).number) c.message_type-t.ensures in
    let length = c.length.ensures ∙ ap (λ (t : MessageType). (row t).length) c.message_type-t.ensures in
    simp (ne_eqb _ _ c.if-h-length.true, eq-eqb _ _ c.if-h-number.false, eq-eqb _ _ c.if-h-ne2.false, sym number, sym length)

pub returns : goal.returns
unfolding together header_entries identity_entries
returns c =
    let h = c.args.h in
    let number = c.number.ensures ∙ ap (λ (t : MessageType). (row t).number) c.message_type-t.ensures in
    let length = c.length.ensures ∙ ap (λ (t : MessageType). (row t).length) c.message_type-t.ensures in
    let version = c.if-h-ne2.false in
    let kind = c.if-h-number.false ∙ number in
    let small = row_bounds (type_of c.args.b) in
    let t : together h c.args.b ≡ true = simp (eq-eqb _ _ version, eq-eqb _ _ kind, eq-eqb _ _ (c.if-h-length.false ∙ length)) in
    simp c.body_fits.ensures (fits_by_tests h c.args.b t (λ p q. fits_roomy (header_entries h (row (type_of c.args.b)).control)
    (omega (arith, p, kind, small.number), (omega (arith, q, version), (omega (arith, c.well_formed), (omega (arith, c.well_formed), (omega (arith, c.well_formed), (omega (arith, c.well_formed), (omega (arith, c.well_formed), (omega arith, (omega (arith, c.well_formed), (omega (arith, c.well_formed), (omega (arith, c.well_formed), (small.control, (omega (arith, c.well_formed), tt)))))))))))))))
