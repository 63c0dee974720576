-- A log that comes in pieces: what is left unread of one piece is read with the next.
use Rattle.std.specs.Prelude.{ℕ, Bool, true, false, List, [], ◌∷◌, ◌++◌}
use Rattle.streaming.specs.Log.{Fields, starts, next, good, bad, rest, scan}

-- the fields of a window go on with the bytes t: those that were left unread, and behind them t
unfoldable pub feed : Bool → List ℕ → Fields → Fields
feed last t (starts c n l) = starts c n (feed last t l)
feed last t (next e n l) = next e n (feed last t l)
feed last t good = good
feed last t (bad n) = bad n
feed last t (rest at first u) = scan last first at (u ++ t)

-- and so piece by piece; after the last piece nothing follows
unfoldable pub stream : Fields → List (List ℕ) → Fields
stream l [] = feed true [] l
stream l (p ∷ ps) = stream (feed false p l) ps

abbrev pub joined : List (List ℕ) → List ℕ
joined [] = []
joined (p ∷ ps) = p ++ joined ps

-- before the first byte
abbrev pub begun : Fields
begun = rest 0 true []

-- ---- the window between two pieces

-- the fields read so far, before it is known whether more follows
unfoldable pub fed : Fields → List (List ℕ) → Fields
fed l [] = l
fed l (p ∷ ps) = fed (feed false p l) ps

-- the bytes that a window still holds
abbrev pub unread : Fields → List ℕ
unread (starts c n l) = unread l
unread (next e n l) = unread l
unread good = []
unread (bad n) = []
unread (rest at first u) = u
