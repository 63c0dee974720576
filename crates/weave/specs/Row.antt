-- The events of a row.
use Rattle.std.specs.Prelude.{List, take}
use Rattle.weave.specs.declared.events.Happening.{Happening}
use Rattle.weave.specs.declared.row.Row.{Row}

-- in their order
abbrev pub happenings : Row → List Happening
happenings row = take row.count row.places
