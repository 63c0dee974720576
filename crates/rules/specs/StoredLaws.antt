-- What the laws of proofs/StoredLaws.antt speak of.
use Rattle.std.specs.Prelude.{◌≡◌, true, false}
use Rattle.time.specs.Units.{time, in_time}
use Rattle.fitness.specs.Fit.{full}
use Rattle.fitness.specs.FitLaws.{FitSync, FitDelay, FitPeer}
use Rattle.rules.specs.Names.{Time, Exchange, PeerState}
use Rattle.rules.specs.Exchanges.{Change, stays, becomes}
use Rattle.rules.specs.AllLaws.{peer_done}

-- ---- corrected times are times

abbrev pub InTime : Time → Type 0
InTime t = in_time (time t) ≡ true

-- ---- what a change stores

abbrev pub Stores : {A : Type 0} → (A → Type 0) → Change A → Type 0
Stores P stays = Unit {0}
Stores P (becomes x) = P x

-- ---- the exchanges of a Slave

abbrev pub SyncOrFull : Exchange → Type 0
SyncOrFull x = full x ≡ false → FitSync x

abbrev pub DelayOrFull : Exchange → Type 0
DelayOrFull x = full x ≡ false → FitDelay x

-- ---- the peer exchange

abbrev pub PeerOrDone : PeerState → Type 0
PeerOrDone x = peer_done x ≡ false → FitPeer x
