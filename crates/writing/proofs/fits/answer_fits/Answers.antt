use Rattle.std.proofs.Common.{◌^◌, arith, lt-ltb}
use Rattle.octets.specs.Bytes.{roomy}
use Rattle.wire.specs.Layout.{timestamp_entries, identity_entries}
use Rattle.writing.proofs.fits.answer_fits.Goals as goal

pub returns : goal.returns
unfolding roomy timestamp_entries identity_entries
returns c =
    let who = c.args.who in
    let clock = lt-ltb who.clock (256 ^ 8) (omega (arith, c.well_formed)) in
    let port = lt-ltb who.port (256 ^ 2) (omega (arith, c.well_formed)) in
    simp (c.stamp_fits.ensures, clock, port)
