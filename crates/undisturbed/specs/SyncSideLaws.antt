-- What the laws of proofs/SyncSideLaws.antt speak of.
use Rattle.std.specs.Prelude.{ℕ, Option, Some, None}
use Rattle.rules.specs.Names.{Exchange, Time}
use Rattle.undisturbed.specs.TimesLaws.{Bag}

-- ---- an exchange by its times; without any it is none

abbrev pub sync_with : ℕ → Option Time → Option Time → Exchange
sync_with id None None = Exchange.Empty
sync_with id None (Some r) = Exchange.Measuring id None (Some r)
sync_with id (Some s) r = Exchange.Measuring id (Some s) r

abbrev pub holding_sync : ℕ → Bag → Exchange
holding_sync id v = sync_with id v.send v.receive
