-- When two identities are the same. (`SameLaws`: exactly when they are equal. The record and its other parts are compared in crate `same`.)
use Rattle.std.specs.Prelude.{Bool, ◌&&◌, eqb}
use Rattle.wire.specs.declared.Identity.{Identity}

unfoldable pub same_identity : Identity → Identity → Bool
same_identity a b = eqb a.clock b.clock && eqb a.port b.port
