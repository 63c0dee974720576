use Rattle.std.proofs.Common.{ℕ, ◌∙◌, ap, ◌++◌, drop, arith}
use Rattle.wire.specs.declared.MessageType.{MessageType}
use Rattle.octets.specs.Bytes.{bytes_of}
use Rattle.writing.proofs.Lent.{lent_length, laid}
use Rattle.wire.specs.Layout.{row, type_of, header_entries}
use Rattle.wire.proofs.LayoutLaws.{length_header, body_size, row_bounds}
use Rattle.writing.specs.WritingLaws.{fits_is}
use Rattle.writing.proofs.lay.Goals as goal

pub write_header-requires : goal.write_header-requires
write_header-requires c =
    let f = fits_is c.args.header c.args.body c.requires.0 in
    (omega (arith, c.requires.1, body_size 0 c.args.body), f.major, omega (arith, f.number_is, (row_bounds (type_of c.args.body)).number), f.minor, omega (arith, f.version))

pub slice_bounds-write_body-count : goal.slice_bounds-write_body-count
slice_bounds-write_body-count c = omega (arith, c.requires.1, body_size 0 c.args.body)

pub slice_bounds-write_body-start : goal.slice_bounds-write_body-start
slice_bounds-write_body-start c = omega (arith, c.requires.1, body_size 0 c.args.body)

pub write_body-requires : goal.write_body-requires
write_body-requires c =
    let control = c.control.ensures ∙ ap (λ (t : MessageType). (row t).control) c.message_type-t.ensures in
    let header = c.write_header.ensures ∙ ap (λ (x : ℕ). bytes_of (header_entries c.args.header x) ++ drop 34 c.args.packet.now) control in
    let n = lent_length 34 (bytes_of (header_entries c.args.header (row (type_of c.args.body)).control)) c.write_header.new.packet c.args.packet.now (length_header c.args.header (row (type_of c.args.body)).control) header in
    omega (arith, n, c.requires.1, body_size 0 c.args.body)

pub returns : goal.returns
returns c =
    let control = c.control.ensures ∙ ap (λ (t : MessageType). (row t).control) c.message_type-t.ensures in
    let header = c.write_header.ensures ∙ ap (λ (x : ℕ). bytes_of (header_entries c.args.header x) ++ drop 34 c.args.packet.now) control in
    laid c.args.header c.args.body _ _ c.args.packet.now c.requires.1 header c.write_body.ensures
