-- What stands at the front of some bytes: what is known of them by it, and that more bytes behind them do not change it.
use Rattle.std.specs.Prelude.{ℕ, ◌+◌, ◌≤◌, ◌<◌, ◌≡◌, Bool, cond, List, ◌++◌, length, take, drop, ltb, Option, Some, None}
use Rattle.std.proofs.Math.Path.{refl}
use Rattle.std.proofs.Common.{sym, ◌∙◌, ap, arith, length-append, length-drop, length-take-le, take_all}
use Rattle.std.proofs.Math.Bool.{true, false}
use borrow.Author.Tests.{leb-true, leb-false, eqb-true, eqb-false, ltb-false, le-ltb}
use Rattle.std.proofs.lemmas.List.{take-append-le}
use Rattle.std.proofs.Math.Dec.{leb, eqb}
use Rattle.time.specs.declared.Time.{Time}
use Rattle.octets.specs.Bytes.{number}
use Rattle.octets.proofs.BytesLaws.{number_inside}
use Rattle.record.specs.declared.Mechanism.{Mechanism}
use Rattle.record.specs.declared.Context.{Context}
use Rattle.record.specs.declared.NewState.{NewState}
use Rattle.rules.specs.Events.{Event, event, general, stamp, sync_timer, delay_timer, filter_answer, set_state}
use Rattle.event_log.specs.Told.{Field, Next}
use Rattle.event_log.specs.Fields.{time_at, duration_at, inner_of, needed, exactly, perhaps, ends, context_at, state_at, stamp_found, state_found, event_of, general_of, stamp_of, sync_timer_of}
use Rattle.event_log.specs.Fields.{delay_timer_of, update_of, filter_of, set_state_of, config_with, config_of, field_of, stated_of, possible, seen, none_of, cut_of, front_of}
use Rattle.event_log.proofs.FieldsLaws.{front_cut, front_whole, impossible, impossible_grows, possible_small}
use Rattle.time.specs.declared.Duration.{Duration}

-- ---- what a field f holds

-- it ends with the bytes m
abbrev pub EndsWith : List ℕ → List ℕ → Type 0
EndsWith f m = (a : ℕ) × (a + length m ≡ length f) × (drop a f ≡ m)

-- a message ends where its field does
abbrev pub Placed : List ℕ → Event → Type 0
Placed f (event t m) = (length m ≤ 1024) × EndsWith f m
Placed f (general m) = (length m ≤ 1024) × EndsWith f m
Placed f (stamp t c) = Unit {0}
Placed f sync_timer = Unit {0}
Placed f (delay_timer d) = Unit {0}
Placed f (filter_answer u) = Unit {0}
Placed f (set_state s) = Unit {0}

-- a configuration has 36 bytes and comes first, an event does not
abbrev Held : Bool → List ℕ → Option Field → Type 0
Held first f None = Unit {0}
Held first f (Some (Field.Config c)) = (first ≡ true) × (length f ≡ 36)
Held first f (Some (Field.Event e)) = (first ≡ false) × Placed f e

-- n bytes from b on, where the field ends behind them
message : (f : List ℕ) (b n : ℕ) → n ≤ 1024 → b + n ≡ length f → (length (take n (drop b f)) ≤ 1024) × EndsWith f (take n (drop b f))
message f b n h e =
    let all : take n (drop b f) ≡ drop b f = take_all n (drop b f) (omega (arith, e, length-drop b f)) in
    let same : length (take n (drop b f)) ≡ n = ap length all ∙ omega (arith, e, length-drop b f) in
    (omega (arith, same, h), (b, omega (arith, same, e), sym all))

module _ (f : List ℕ) where
  held_cond : (b : Bool) (x y : Option Field) → (b ≡ true → Held false f x) → Held false f y → Held false f (cond b x y)
  held_cond true x y h g = h refl
  held_cond false x y h g = g

  held_needs : (r : Option (ℕ × ℕ)) (k : ℕ → ℕ → Option Field) → ((a n : ℕ) → Held false f (k a n)) → Held false f (needed r k)
  held_needs None k h = tt
  held_needs (Some (a, n)) k h = h a n

  held_exactly : (r : Option (ℕ × ℕ)) (w : ℕ) (k : ℕ → Option Field) → ((a : ℕ) → Held false f (k a)) → Held false f (exactly r w k)
  held_exactly None w k h = tt
  held_exactly (Some (a, n)) w k h = held_cond (eqb n w) (k a) None (λ _. h a) tt

  held_perhaps : (r : Option (ℕ × ℕ)) (w : ℕ) (o : Option Field) (k : ℕ → Option Field) → Held false f o → ((a : ℕ) → Held false f (k a)) → Held false f (perhaps r w o k)
  held_perhaps None w o k g h = g
  held_perhaps (Some (a, n)) w o k g h = held_cond (eqb n w) (k a) None (λ _. h a) tt

  held_stamp : (t : Time) (c : Option Context) → Held false f (stamp_found t c)
  held_stamp t None = tt
  held_stamp t (Some c) = (refl, tt)

  held_state : (s : Option NewState) → Held false f (state_found s)
  held_state None = tt
  held_state (Some s) = (refl, tt)

  held_config : (b c d : Bool) (x y : Option Field) → (b ≡ true → Held true f x) → (b ≡ true → Held true f y) → Held true f (cond b (cond c x (cond d y None)) None)
  held_config true true d x y h g = h refl
  held_config true false true x y h g = g refl
  held_config true false false x y h g = tt
  held_config false c d x y h g = tt

module _ (f : List ℕ) where
  held_ends : (at : ℕ) (e : Event) → (at ≡ length f → Placed f e) → Held false f (ends f at e)
  held_ends at e h = held_cond f (eqb at (length f)) (Some (Field.Event e)) None (λ p. (refl, h (eqb-true at (length f) p))) tt

  of_event : Held false f (event_of f)
  unfolding event_of
  of_event =
      held_exactly f (inner_of f 3 1) 16 _ (λ a. held_needs f (inner_of f (a + 16) 2) _ (λ b n.
      held_cond f (leb n 1024) _ None (λ l. held_ends (b + n) (event (time_at a f) (take n (drop b f))) (λ p. message f b n (leb-true n 1024 l) p)) tt))

  of_general : Held false f (general_of f)
  unfolding general_of
  of_general =
      held_needs f (inner_of f 3 2) _ (λ b n.
      held_cond f (leb n 1024) _ None (λ l. held_ends (b + n) (general (take n (drop b f))) (λ p. message f b n (leb-true n 1024 l) p)) tt)

  of_stamp : Held false f (stamp_of f)
  unfolding stamp_of
  of_stamp =
      held_exactly f (inner_of f 3 1) 16 _ (λ a. held_needs f (inner_of f (a + 16) 3) _ (λ b n.
      held_cond f (eqb (b + n) (length f)) _ None (λ _. held_stamp f (time_at a f) (context_at b n f)) tt))

  of_sync : Held false f (sync_timer_of f)
  unfolding sync_timer_of
  of_sync = held_ends 3 sync_timer (λ _. tt)

  of_delay : Held false f (delay_timer_of f)
  unfolding delay_timer_of
  of_delay = held_exactly f (inner_of f 3 4) 8 _ (λ a. held_ends (a + 8) (delay_timer (number a 8 f)) (λ _. tt))

  of_update : (at : ℕ) (mean : Option Duration) → Held false f (update_of f at mean)
  unfolding update_of
  of_update at mean = held_perhaps f (inner_of f at 6) 8 _ _ (held_ends at (filter_answer _) (λ _. tt)) (λ b. held_ends (b + 8) (filter_answer _) (λ _. tt))

  of_filter : Held false f (filter_of f)
  unfolding filter_of
  of_filter = held_perhaps f (inner_of f 3 5) 16 _ _ (of_update 3 None) (λ a. of_update (a + 16) (Some (duration_at a f)))

  of_state : Held false f (set_state_of f)
  unfolding set_state_of
  of_state =
      held_needs f (inner_of f 3 7) _ (λ b n. held_cond f (eqb (b + n) (length f)) _ None (λ _. held_state f (state_at b n f)) tt)

  of_config : Held true f (config_of f)
  unfolding config_of
  of_config =
      held_config f (eqb (length f) 36) (eqb (number 17 1 f) 0) (eqb (number 17 1 f) 1) (Some (Field.Config (config_with Mechanism.EndToEnd f))) (Some (Field.Config (config_with Mechanism.Peer f)))
      (λ p. (refl, eqb-true (length f) 36 p)) (λ p. (refl, eqb-true (length f) 36 p))

  of_first : (tag : ℕ) → Held true f (field_of true tag f)
  unfolding field_of
  of_first tag = by (eqb tag 0x0F)
    where
      by : (b : Bool) → Held true f (cond b (config_of f) None)
      by true = of_config
      by false = tt

  of_later : (tag : ℕ) → Held false f (field_of false tag f)
  unfolding field_of
  of_later tag =
      held_cond f (eqb tag 0x10) _ _ (λ _. of_event)
      (held_cond f (eqb tag 0x11) _ _ (λ _. of_general)
      (held_cond f (eqb tag 0x12) _ _ (λ _. of_stamp)
      (held_cond f (eqb tag 0x13) _ _ (λ _. of_sync)
      (held_cond f (eqb tag 0x14) _ _ (λ _. of_delay)
      (held_cond f (eqb tag 0x15) _ _ (λ _. of_filter)
      (held_cond f (eqb tag 0x16) _ _ (λ _. of_state) tt))))))

  held : (first : Bool) (tag : ℕ) → Held first f (field_of first tag f)
  held true tag = of_first tag
  held false tag = of_later tag

-- ---- what is known of bytes by what stands at their front

abbrev pub Front : Bool → List ℕ → Bool → Next → Type 0
Front f s last (Next.Config c) = (f ≡ true) × (36 ≤ length s)
Front f s last (Next.Event e n) = ((f ≡ false) × Placed (take n s) e) × ((3 ≤ n) × (n ≤ length s))
Front f s last Next.More = (last ≡ false) × (length s < 1049)
Front f s last Next.End = ((last ≡ true) × (f ≡ false)) × (length s ≡ 0)
Front f s last Next.Bad = Unit {0}

module _ (f : Bool) (s : List ℕ) where
  known_seen : (last : Bool) (n : ℕ) (w : Option Field) → 3 + n ≤ length s → Held f (take (3 + n) s) w → Front f s last (seen (3 + n) w)
  known_seen last n None h g = tt
  known_seen last n (Some (Field.Config c)) h (p, q) = (p, omega (arith, h, q, length-take-le (3 + n) s h))
  known_seen last n (Some (Field.Event e)) h g = (g, (omega arith, h))

  known_none : (first last : Bool) → f ≡ first → length s ≡ 0 → Front f s last (none_of first last)
  unfolding none_of
  known_none true true p h = tt
  known_none false true p h = ((refl, p), h)
  known_none first false p h = (refl, omega (arith, h))

  known_cut : (last : Bool) (tag n : ℕ) → length s < 3 + n → Front f s last (cut_of f tag n last)
  unfolding cut_of
  known_cut true tag n h = tt
  known_cut false tag n h = by (possible f tag n) refl
    where
      by : (b : Bool) → possible f tag n ≡ b → Front f s false (cond b Next.More Next.Bad)
      by true p = (refl, omega (arith, h, possible_small n f tag p))
      by false p = tt

  whole : (n tag : ℕ) → Held f (take (3 + n) s) (field_of f tag (take (3 + n) s))
  whole n tag = held (take (3 + n) s) f tag

  pub front : (last : Bool) → Front f s last (front_of f s last)
  unfolding front_of
  front last = by (eqb (length s) 0) (leb (3 + stated_of s) (length s)) refl refl
    where
      by : (b c : Bool) → eqb (length s) 0 ≡ b → leb (3 + stated_of s) (length s) ≡ c → Front f s last (cond b (none_of f last) (cond c (seen (3 + stated_of s) (field_of f (number 0 1 s) (take (3 + stated_of s) s))) (cut_of f (number 0 1 s) (stated_of s) last)))
      by true c p q = known_none f last refl (eqb-true (length s) 0 p)
      by false true p q =
          known_seen last (stated_of s) (field_of f (number 0 1 s) (take (3 + stated_of s) s)) (leb-true (3 + stated_of s) (length s) q)
          (whole (stated_of s) (number 0 1 s))
      by false false p q = known_cut last (number 0 1 s) (stated_of s) (leb-false (3 + stated_of s) (length s) q)

-- ---- more bytes behind

stated_same : (s t : List ℕ) → 3 ≤ length s → stated_of s ≡ stated_of (s ++ t)
unfolding stated_of
stated_same s t h =
    simp (le-ltb (length s) 3 h, le-ltb (length (s ++ t)) 3 (omega (arith, length-append s t)), number_inside s t 1 2 (omega arith))

stated_short : (s : List ℕ) → ltb (length s) 3 ≡ true → stated_of s ≡ 0
unfolding stated_of
stated_short s e = simp e

-- a length that was not to be read yet counts as 0
stated_grows : (s t : List ℕ) → stated_of s ≤ stated_of (s ++ t)
stated_grows s t = by (ltb (length s) 3) refl
  where
    by : (b : Bool) → ltb (length s) 3 ≡ b → stated_of s ≤ stated_of (s ++ t)
    by true e = omega (arith, stated_short s e)
    by false e = omega (arith, stated_same s t (ltb-false (length s) 3 e))

-- what an answer on a window says of the window with more bytes behind it
abbrev pub Steady : Next → Bool → List ℕ → List ℕ → Bool → Type 0
Steady (Next.Config c) f s t last = front_of f (s ++ t) last ≡ Next.Config c
Steady (Next.Event e n) f s t last = front_of f (s ++ t) last ≡ Next.Event e n
Steady Next.More f s t last = Unit {0}
Steady Next.End f s t last = ⊥
Steady Next.Bad f s t last = front_of f (s ++ t) last ≡ Next.Bad

bad_cut : (f : Bool) (tag n : ℕ) (last : Bool) → possible f tag n ≡ false → Next.Bad ≡ cut_of f tag n last
unfolding cut_of
bad_cut f tag n true e = refl
bad_cut f tag n false e = simp e

module _ (f : Bool) (s t : List ℕ) (last : Bool) where
  longer : (length s ≡ 0 → ⊥) → length (s ++ t) ≡ 0 → ⊥
  longer h e = h (omega (arith, length-append s t))

  tag_same : (length s ≡ 0 → ⊥) → number 0 1 s ≡ number 0 1 (s ++ t)
  tag_same h = sym (number_inside s t 0 1 (omega (arith, h)))

  -- a whole field stays as it is
  whole_more : (n : ℕ) (w : Option Field) → (length s ≡ 0 → ⊥) → n ≡ stated_of s → 3 + n ≤ length s → w ≡ field_of f (number 0 1 s) (take (3 + n) s) → front_of f (s ++ t) last ≡ seen (3 + n) w
  whole_more n w h e g p =
      sym (front_whole f last (s ++ t) (number 0 1 s) n w (tag_same h) (longer h) (e ∙ stated_same s t (omega arith)) (omega (arith, length-append s t))
      (p ∙ ap (field_of f (number 0 1 s)) (sym (take-append-le (3 + n) s t g))))

  -- a field that is too long for its tag is bad whatever follows
  long_more : (length s ≡ 0 → ⊥) → possible f (number 0 1 s) (stated_of s) ≡ false → front_of f (s ++ t) last ≡ Next.Bad
  long_more h g = by (leb (3 + stated_of (s ++ t)) (length (s ++ t))) refl
    where
      no : possible f (number 0 1 s) (stated_of (s ++ t)) ≡ false
      no = impossible_grows (stated_of s) (stated_of (s ++ t)) (stated_grows s t) f (number 0 1 s) g

      by : (b : Bool) → leb (3 + stated_of (s ++ t)) (length (s ++ t)) ≡ b → front_of f (s ++ t) last ≡ Next.Bad
      by false p =
          sym (front_cut f last (s ++ t) (number 0 1 s) (stated_of (s ++ t)) Next.Bad (tag_same h) (longer h) refl (leb-false (3 + stated_of (s ++ t)) (length (s ++ t)) p)
          (bad_cut f (number 0 1 s) (stated_of (s ++ t)) last no))
      by true p =
          sym (front_whole f last (s ++ t) (number 0 1 s) (stated_of (s ++ t)) None (tag_same h) (longer h) refl (leb-true (3 + stated_of (s ++ t)) (length (s ++ t)) p)
          (sym (impossible (take (3 + stated_of (s ++ t)) (s ++ t)) (stated_of (s ++ t)) (length-take-le (3 + stated_of (s ++ t)) (s ++ t) (leb-true (3 + stated_of (s ++ t)) (length (s ++ t)) p)) f (number 0 1 s) no)))

  steady_seen : (n : ℕ) (w : Option Field) → front_of f (s ++ t) last ≡ seen n w → Steady (seen n w) f s t last
  steady_seen n None e = e
  steady_seen n (Some (Field.Config c)) e = e
  steady_seen n (Some (Field.Event x)) e = e

  steady_cut : (length s ≡ 0 → ⊥) → Steady (cut_of f (number 0 1 s) (stated_of s) false) f s t last
  unfolding cut_of
  steady_cut h = by (possible f (number 0 1 s) (stated_of s)) refl
    where
      by : (b : Bool) → possible f (number 0 1 s) (stated_of s) ≡ b → Steady (cond b Next.More Next.Bad) f s t last
      by true p = tt
      by false p = long_more h p

  steady_none : (first : Bool) → Steady (none_of first false) f s t last
  unfolding none_of
  steady_none first = tt

  pub steady : Steady (front_of f s false) f s t last
  unfolding front_of
  steady = by (eqb (length s) 0) (leb (3 + stated_of s) (length s)) refl refl
    where
      by : (b c : Bool) → eqb (length s) 0 ≡ b → leb (3 + stated_of s) (length s) ≡ c → Steady (cond b (none_of f false) (cond c (seen (3 + stated_of s) (field_of f (number 0 1 s) (take (3 + stated_of s) s))) (cut_of f (number 0 1 s) (stated_of s) false))) f s t last
      by true c p q = steady_none f
      by false true p q =
          steady_seen (3 + stated_of s) (field_of f (number 0 1 s) (take (3 + stated_of s) s))
          (whole_more (stated_of s) (field_of f (number 0 1 s) (take (3 + stated_of s) s)) (eqb-false (length s) 0 p) refl (leb-true (3 + stated_of s) (length s) q) refl)
      by false false p q = steady_cut (eqb-false (length s) 0 p)
