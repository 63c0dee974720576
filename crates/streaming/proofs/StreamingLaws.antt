-- Reading a log by pieces is reading it whole, and a window of 1,049 bytes is enough for it.
use Rattle.std.specs.Prelude.{ℕ, zero, suc, ◌+◌, ◌-◌, ◌≤◌, ◌<◌, ◌≡◌, refl, Bool, true, take, drop}
use Rattle.std.proofs.Math.Path.{sym, ap}
use Rattle.std.proofs.Common.{◌∙◌, subst, zero-add, suc-add, arith, length-drop, length-take-le, take-take, take_all}
use Rattle.std.proofs.Math.Bool.{false}
use mathlib.Core.List.{List, [], ◌∷◌, ◌++◌, append_assoc}
use Rattle.std.proofs.Math.ListN.{length}
use Rattle.std.proofs.Math.Seq.{take-nil, drop-nil}
use Rattle.std.proofs.lemmas.List.{drop-append-le}
use denote.Bor.{Bor}
use Rattle.time.specs.declared.Time.{Time}
use Rattle.record.specs.declared.Config.{Config}
use Rattle.rules.specs.Events.{Event, event, general}
use Rattle.event_log.specs.declared.Logged.{Logged}
use Rattle.event_log.specs.Told.{Next, told}
use Rattle.event_log.specs.Fields.{front_of, none_of}
use Rattle.streaming.specs.Log.{Fields, starts, next, good, bad, rest, onward, scan_from, scan, gathered, read_log}
use Rattle.streaming.specs.Streaming.{feed, stream, joined, begun, fed, unread}
use Rattle.streaming.specs.FrontLaws.{EndsWith, Placed, Front, front, Steady, steady}

-- ---- what stands at the front, one fact each

module _ (f : Bool) (s : List ℕ) (last : Bool) where
  known : (x : Next) → front_of f s last ≡ x → Front f s last x
  known x p = subst (Front f s last) p (front f s last)

  -- an event's field has its three bytes at least, and lies within s
  pub front_fits : (e : Event) (n : ℕ) → front_of f s last ≡ Next.Event e n → (3 ≤ n) × (n ≤ length s)
  front_fits e n p = (known (Next.Event e n) p).1

  -- its message, if it has one, is at most 1,024 bytes long and ends where the field does
  pub front_placed : (e : Event) (n : ℕ) → front_of f s last ≡ Next.Event e n → Placed (take n s) e
  front_placed e n p = (known (Next.Event e n) p).0.1

  -- the configuration is read first, and nothing else is
  pub front_later : (e : Event) (n : ℕ) → front_of f s last ≡ Next.Event e n → f ≡ false
  front_later e n p = (known (Next.Event e n) p).0.0

  pub front_config_first : (c : Config) → front_of f s last ≡ Next.Config c → f ≡ true
  front_config_first c p = (known (Next.Config c) p).0

  pub front_config_fits : (c : Config) → front_of f s last ≡ Next.Config c → 36 ≤ length s
  front_config_fits c p = (known (Next.Config c) p).1

  -- bytes that are no whole field yet are fewer than the longest field has
  pub more_small : front_of f s last ≡ Next.More → length s < 1049
  more_small p = (known Next.More p).1

  pub more_open : front_of f s last ≡ Next.More → last ≡ false
  more_open p = (known Next.More p).0

  -- the end: no byte is left, none follows, and the configuration has been read
  pub front_end : front_of f s last ≡ Next.End → ((last ≡ true) × (f ≡ false)) × (length s ≡ 0)
  front_end p = known Next.End p

-- ---- the bytes of its message, seen from s itself

inside : (a k : ℕ) (s : List ℕ) → take k (drop a (take (a + k) s)) ≡ take k (drop a s)
inside zero k s = ap (λ (n : ℕ). take k (take n s)) (zero-add k) ∙ take-take k k s (omega arith)
inside (suc a) k [] = ap (λ (x : List ℕ). take k (drop (suc a) x)) (take-nil (suc a + k))
inside (suc a) k (b ∷ s) = ap (λ (n : ℕ). take k (drop (suc a) (take n (b ∷ s)))) (suc-add a k) ∙ inside a k s

lent : (s m : List ℕ) (a k n : ℕ) → a + k ≡ n → m ≡ take k (drop a (take n s)) → m ≡ take k (drop a s)
lent s m a k n h e = e ∙ ap (λ (x : ℕ). take k (drop a (take x s))) (sym h) ∙ inside a k s

-- a message that is lent from the field of n bytes: k of them from a on, where the field ends behind them
pub told-event : (s : List ℕ) (t : Time) (m : Bor (List ℕ)) (a k n : ℕ) → a + k ≡ n → m.now ≡ take k (drop a (take n s)) → told (Logged.Event t m) ≡ event t (take k (drop a s))
told-event s t m a k n h e = ap (event t) (lent s m.now a k n h e)

pub told-general : (s : List ℕ) (m : Bor (List ℕ)) (a k n : ℕ) → a + k ≡ n → m.now ≡ take k (drop a (take n s)) → told (Logged.General m) ≡ general (take k (drop a s))
told-general s m a k n h e = ap general (lent s m.now a k n h e)

pub message_seen : (s : List ℕ) (n : ℕ) (m : List ℕ) → n ≤ length s → EndsWith (take n s) m → (a : ℕ) × (a + length m ≡ n) × (take (length m) (drop a s) ≡ m)
message_seen s n m h (a, e, d) =
    let q : a + length m ≡ n = e ∙ length-take-le n s h in
    (a, q, sym (inside a (length m) s) ∙ ap (λ (k : ℕ). take (length m) (drop a (take k s))) q ∙ ap (λ (x : List ℕ). take (length m) x) d ∙ take_all (length m) m (omega arith))

-- ---- how a log is read

skip_drop : (last : Bool) (s : List ℕ) (k : ℕ) (f : Bool) (at : ℕ) → scan_from last s k f at ≡ scan_from last (drop k s) 0 f at
unfolding scan_from
skip_drop last [] k f at = rw drop-nil
skip_drop last (b ∷ s) zero f at = refl
skip_drop last (b ∷ s) (suc k) f at = skip_drop last s k f at

onward_same : (x : Next) (at : ℕ) (f last : Bool) (s : List ℕ) (k l : ℕ → Fields) → Front f s last x → ((n : ℕ) → 3 ≤ n → k n ≡ l n) → onward x at f s k ≡ onward x at f s l
onward_same (Next.Config c) at f last s k l g h = ap (starts c 36) (h 36 (omega arith))
onward_same (Next.Event e n) at f last s k l g h = ap (next e n) (h n g.1.0)
onward_same Next.More at f last s k l g h = refl
onward_same Next.End at f last s k l g h = refl
onward_same Next.Bad at f last s k l g h = refl

drop_one : (b : ℕ) (s : List ℕ) (n : ℕ) → 3 ≤ n → drop (n - 1) s ≡ drop n (b ∷ s)
drop_one b s n h =
    let e : suc (n - 1) ≡ n = omega arith in
    ap (λ (k : ℕ). drop k (b ∷ s)) e

-- what stands at the front, and then from behind it
pub scan_is : (last f : Bool) (at : ℕ) (s : List ℕ) → scan last f at s ≡ onward (front_of f s last) at f s (λ n. scan last false (at + n) (drop n s))
unfolding scan scan_from front_of none_of
scan_is true true at [] = refl
scan_is true false at [] = refl
scan_is false f at [] = refl
scan_is last f at (b ∷ s) =
    onward_same (front_of f (b ∷ s) last) at f last (b ∷ s) _ _ (front f (b ∷ s) last) (λ n h.
    skip_drop last s (n - 1) false (at + n) ∙ ap (λ (x : List ℕ). scan_from last x 0 false (at + n)) (drop_one b s n h))

-- and that with the answer at hand
pub scan_at : (last f : Bool) (at : ℕ) (s : List ℕ) (x : Next) → front_of f s last ≡ x → scan last f at s ≡ onward x at f s (λ n. scan last false (at + n) (drop n s))
scan_at last f at s x p = scan_is last f at s ∙ ap (λ (y : Next). onward y at f s (λ n. scan last false (at + n) (drop n s))) p

-- ---- a window's fields, gone on with the bytes behind it, are the fields of both

module _ (last f : Bool) (at : ℕ) (s t : List ℕ) where
  piece : ((n : ℕ) → 3 ≤ n → n ≤ length s → scan last false (at + n) (drop n s ++ t) ≡ feed last t (scan false false (at + n) (drop n s)))
      → (x : Next) → front_of f s false ≡ x → Front f s false x → Steady x f s t last → scan last f at (s ++ t) ≡ feed last t (scan false f at s)
  unfolding feed
  piece go (Next.Config c) p k q =
      let g : 36 ≤ length s = k.1 in
      scan_at last f at (s ++ t) (Next.Config c) q
      ∙ ap (λ (v : List ℕ). starts c 36 (scan last false (at + 36) v)) (drop-append-le 36 s t g)
      ∙ ap (starts c 36) (go 36 (omega arith) g)
      ∙ sym (ap (feed last t) (scan_at false f at s (Next.Config c) p))
  piece go (Next.Event e n) p k q =
      let g : n ≤ length s = k.1.1 in
      scan_at last f at (s ++ t) (Next.Event e n) q
      ∙ ap (λ (v : List ℕ). next e n (scan last false (at + n) v)) (drop-append-le n s t g)
      ∙ ap (next e n) (go n k.1.0 g)
      ∙ sym (ap (feed last t) (scan_at false f at s (Next.Event e n) p))
  piece go Next.More p k q = sym (ap (feed last t) (scan_at false f at s Next.More p))
  piece go Next.Bad p k q = scan_at last f at (s ++ t) Next.Bad q ∙ sym (ap (feed last t) (scan_at false f at s Next.Bad p))
  piece go Next.End p k q = absurd q

pieces_by : (fuel : ℕ) (last f : Bool) (at : ℕ) (s t : List ℕ) → length s < fuel → scan last f at (s ++ t) ≡ feed last t (scan false f at s)
pieces_by zero last f at s t h = absurd (omega arith)
pieces_by (suc fuel) last f at s t h =
    piece last f at s t
    (λ n g l. pieces_by fuel last false (at + n) (drop n s) t (simp length-drop (omega arith)))
    (front_of f s false) refl (front f s false) (steady f s t last)

pub pieces : (last f : Bool) (at : ℕ) (s t : List ℕ) → scan last f at (s ++ t) ≡ feed last t (scan false f at s)
pieces last f at s t = pieces_by (suc (length s)) last f at s t (omega arith)

feed-feed : (last : Bool) (t u : List ℕ) (l : Fields) → feed last u (feed false t l) ≡ feed last (t ++ u) l
unfolding feed
feed-feed last t u (starts c n l) = ap (starts c n) (feed-feed last t u l)
feed-feed last t u (next e n l) = ap (next e n) (feed-feed last t u l)
feed-feed last t u good = refl
feed-feed last t u (bad n) = refl
feed-feed last t u (rest at f w) = sym (pieces last f at (w ++ t) u) ∙ ap (scan last f at) (append_assoc w t u)

stream-joined : (l : Fields) (ps : List (List ℕ)) → stream l ps ≡ feed true (joined ps) l
unfolding stream
stream-joined l [] = refl
stream-joined l (p ∷ ps) = stream-joined (feed false p l) ps ∙ feed-feed true p (joined ps) l

-- THE STREAMING THEOREM: a log read in any pieces, empty ones too, has the fields of all its bytes
pub streamed : (ps : List (List ℕ)) → stream begun ps ≡ scan true true 0 (joined ps)
unfolding feed
streamed ps = stream-joined begun ps

-- and so the configuration, the events and the ending
pub read_in_pieces : (ps : List (List ℕ)) → gathered (stream begun ps) ≡ read_log (joined ps)
unfolding read_log
read_in_pieces ps = ap gathered (streamed ps)

-- ---- what is left unread

Small : Fields → Type 0
Small l = length (unread l) < 1049

small_step : (x : Next) (at : ℕ) (f : Bool) (s : List ℕ) (go : ℕ → Fields) → Front f s false x → ((n : ℕ) → 3 ≤ n → n ≤ length s → Small (go n)) → Small (onward x at f s go)
unfolding Small
small_step (Next.Config c) at f s go k h = h 36 (omega arith) k.1
small_step (Next.Event e n) at f s go k h = h n k.1.0 k.1.1
small_step Next.More at f s go k h = k.1
small_step Next.End at f s go k h = omega arith
small_step Next.Bad at f s go k h = omega arith

small_by : (fuel : ℕ) (f : Bool) (at : ℕ) (s : List ℕ) → length s < fuel → Small (scan false f at s)
small_by zero f at s h = absurd (omega arith)
small_by (suc fuel) f at s h =
    subst Small (sym (scan_is false f at s))
    (small_step (front_of f s false) at f s (λ n. scan false false (at + n) (drop n s)) (front f s false)
    (λ n g l. small_by fuel false (at + n) (drop n s) (simp length-drop (omega arith))))

small_fed : (t : List ℕ) (l : Fields) → Small l → Small (feed false t l)
unfolding feed Small
small_fed t (starts c n l) h = small_fed t l h
small_fed t (next e n l) h = small_fed t l h
small_fed t good h = h
small_fed t (bad n) h = h
small_fed t (rest at f u) h = small_by (suc (length (u ++ t))) f at (u ++ t) (omega arith)

all_small : (l : Fields) (ps : List (List ℕ)) → Small l → Small (fed l ps)
unfolding fed
all_small l [] h = h
all_small l (p ∷ ps) h = all_small (feed false p l) ps (small_fed p l h)

-- between any two pieces a window holds fewer than 1,049 bytes
pub window_enough : (ps : List (List ℕ)) → length (unread (fed begun ps)) < 1049
unfolding Small
window_enough ps = all_small begun ps (omega arith)

-- and from there the log is read on as the theorem says
pub stream-fed : (l : Fields) (ps : List (List ℕ)) → stream l ps ≡ feed true [] (fed l ps)
unfolding stream fed
stream-fed l [] = refl
stream-fed l (p ∷ ps) = stream-fed (feed false p l) ps
