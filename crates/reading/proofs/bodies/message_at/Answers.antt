use Rattle.std.proofs.Common.{arith, sym, ◌∙◌, ap, lt-ltb, le-ltb}
use Rattle.time.specs.Units.{time_of_wire}
use Rattle.wire.proofs.LayoutLaws.{row_bounds}
use Rattle.reading.specs.Reading.{message_of}
use Rattle.reading.proofs.bodies.message_at.Goals as goal

pub returns-then-stated-length : goal.returns-then-stated-length
returns-then-stated-length c =
    simp (lt-ltb c.args.header.length c.length.result (omega (arith, c.if-stated-length.true)), sym c.length.ensures)

pub get_timestamp-stamp-requires : goal.get_timestamp-stamp-requires
get_timestamp-stamp-requires c = omega (arith, c.if-stated-length.false, c.length.ensures, (row_bounds c.args.t).stamped, c.requires.1)

pub body_at-requires : goal.body_at-requires
body_at-requires c = (omega (arith, c.if-stated-length.false, c.length.ensures), c.get_timestamp-stamp.ensures)

pub returns-in-Ok : goal.returns-in-Ok
unfolding message_of
returns-in-Ok c =
    let stamp = c.get_timestamp-stamp.ensures in
    let read = sym (c.of_wire.ensures ∙ ap time_of_wire stamp) ∙ c.in-Ok.is in
    simp (le-ltb _ _ c.if-stated-length.false, sym c.length.ensures, read, c.body_at.ensures, sym c.requires.0)

pub returns-in-Err : goal.returns-in-Err
unfolding message_of
returns-in-Err c =
    let stamp = c.get_timestamp-stamp.ensures in
    let read = sym (c.of_wire.ensures ∙ ap time_of_wire stamp) ∙ c.in-Err.is in
    simp (le-ltb _ _ c.if-stated-length.false, sym c.length.ensures, read)
