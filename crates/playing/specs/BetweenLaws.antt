-- Laws of the window between two turns.
use Rattle.std.specs.Prelude.{ℕ, zero, suc, ◌+◌, ◌-◌, ◌^◌, ◌≤◌, ◌<◌, ◌≡◌, Bool, not, List, ◌++◌, length, take, drop, Result, Ok, Err, Some, IfOk, ⊤, refl}
use Rattle.std.specs.declared.io.Error.{Error}
use Rattle.std.proofs.Common.{sym, ◌∙◌, ap, subst, true≢false, arith, length-drop, length-append, length-take-le, take_at}
use Rattle.std.proofs.Math.Bool.{true, false}
use Rattle.std.proofs.lemmas.Bool.{false≢true}
use Rattle.std.proofs.Math.Nat.{min-le_right}
use borrow.Rule.Slice.PartMut.{put_mid}
use Rattle.writing.specs.LentLaws.{put_part}
use Rattle.octets.proofs.BytesLaws.{apart}
use Rattle.replaying.specs.declared.Stop.{Stop}
use Rattle.replaying.specs.declared.TurnEnd.{TurnEnd}
use Rattle.replaying.specs.Turns.{Leaves}
use Rattle.replaying.specs.Sessions.{start_of}
use Rattle.lines.specs.declared.Style.{Style}
use Rattle.flow.specs.declared.Flow.{Flow}
use Rattle.flow.specs.declared.Then.{Then}
use Rattle.flow.specs.Becomes.{begun, onwards, after_of, front_of, came_of}
use Rattle.playing.specs.declared.Trouble.{Trouble}
use Rattle.playing.specs.Between.{Sound, unread, reading, Kept, next_of, Follows, Turns, Ran, Last, Pumped}

-- what is decided keeps within a window of n bytes, and where there is to be a read there is room
abbrev pub Within : ℕ → Then → Type 0
Within n (Then.Turns g) = Sound g n
Within n (Then.Reads g) = Sound g n × (1049 ≤ n → g.have - g.start < n)
Within n Then.Ends = ⊤

-- w is the window of the flow f, and t what the turn over its unread bytes answered
module _ (f : Flow) (w : List ℕ) (buffer : ℕ) (t : TurnEnd) (s : Sound f (length w)) (e : Leaves (length (unread f w)) buffer t) where
  pub all_unread : length (unread f w) ≡ f.have - f.start
  all_unread = length-take-le (f.have - f.start) (drop f.start w) (omega (arith, s.start, s.have, length-drop f.start w))

  pub read_within : f.start + t.read ≤ f.have
  read_within = omega (arith, all_unread, e.read, s.start)

  onwards_within : (x : Stop) → t.stop ≡ x → Within (length w) (onwards f t x)
  onwards_within Stop.Full h = record { start = read_within; have = s.have }
  onwards_within Stop.More h =
      (record { start = read_within; have = s.have }, λ (l : 1049 ≤ length w). omega (arith, all_unread, e.small h, l))
  onwards_within Stop.Done h = tt

  pub after_within : (b : Result ⊤ Error) → IfOk (after_of f t b) (Within (length w))
  unfolding after_of
  after_within (Ok u) = onwards_within t.stop refl
  after_within (Err x) = tt

-- what was read keeps within the room that there was
pub came_within : (g : Flow) (z : Result ℕ Error) (room : ℕ) → g.start ≤ g.have → IfOk (came_of g z room) (λ r. Sound r (g.have + room))
unfolding came_of
came_within g (Ok zero) room h = record { start = h; have = omega arith }
came_within g (Ok (suc n)) room h = record { start = omega (arith, h); have = omega (arith, min-le_right (suc n) room) }
came_within g (Err x) room h = tt

-- what is read behind the first n bytes leaves them as they are
kept_front : (n : ℕ) (w ys x : List ℕ) → n ≤ length w → take n w ≡ x → take n (put_mid n (length w - n) w ys) ≡ x
kept_front n w ys x h e =
    ap (take n) (put_part n w ys) ∙ take_at (take n w) ys n (length-take-le n w h) ∙ e

-- the window that is left where g stands at the front of w₁ and ys were read behind it
abbrev pub read_behind : Flow → List ℕ → List ℕ → List ℕ
read_behind g w₁ ys = put_mid g.have (length w₁ - g.have) w₁ ys

sound_reading : (z : Result Flow Error) (n : ℕ) → IfOk z (λ r. Sound r n) → IfOk (reading z) (λ r. Sound r n)
sound_reading (Ok r) n h = h
sound_reading (Err x) n h = tt

module _ (f : Flow) (w : List ℕ) (s : Sound f (length w)) where
  pub count : length (unread f w) ≡ f.have - f.start
  count = length-take-le (f.have - f.start) (drop f.start w) (omega (arith, s.start, s.have, length-drop f.start w))

  -- w₁ is the window with the unread bytes moved
  pub moved_long : (w₁ : List ℕ) → w₁ ≡ unread f w ++ drop (f.have - f.start) w → length w₁ ≡ length w
  moved_long w₁ moved =
      ap length moved ∙ length-append (unread f w) (drop (f.have - f.start) w) ∙ omega (arith, count, length-drop (f.have - f.start) w, s.start, s.have)

  abbrev pub Filled : Flow → Type 0
  Filled g = (w₁ ys : List ℕ) (got : Result ℕ Error) (r : Result Flow Trouble) → w₁ ≡ unread f w ++ drop (f.have - f.start) w → r ≡ reading (came_of g got (length w₁ - g.have)) → IfOk r (λ x. Sound x (length w)) × Kept f w r (read_behind g w₁ ys)

  in_front : Filled (front_of f)
  in_front w₁ ys got r moved came =
      let m : ℕ = f.have - f.start in
      let long : length w₁ ≡ length w = moved_long w₁ moved in
      let e : r ≡ reading (came_of (front_of f) got (length w - m)) = came ∙ ap (λ (k : ℕ). reading (came_of (front_of f) got (k - m))) long in
      let room : m + (length w - m) ≡ length w = omega (arith, s.start, s.have) in (
        subst (λ (x : Result Flow Trouble). IfOk x (λ y. Sound y (length w))) (sym e)
            (sound_reading (came_of (front_of f) got (length w - m)) (length w)
            (subst (λ (k : ℕ). IfOk (came_of (front_of f) got (length w - m)) (λ y. Sound y k)) room (came_within (front_of f) got (length w - m) (omega arith)))),
        record {
          got = got;
          came = e;
          bytes = kept_front m w₁ ys (unread f w) (omega (arith, long, s.start, s.have)) (ap (take m) moved ∙ take_at (unread f w) (drop m w) m count);
        },
      )

  pub filled : (g : Flow) → g ≡ front_of f → Filled g
  filled g e = subst Filled (sym e) in_front

-- what was decided, and what was done

pub stays : (x : Result Then Error) (g : Flow) (w : List ℕ) → x ≡ Ok (Then.Turns g) → Follows x w (Ok (Some g)) w
stays x g w e = subst (λ (y : Result Then Error). Follows y w (Ok (Some g)) w) (sym e) (refl, refl)

pub reads_more : (x : Result Then Error) (g : Flow) (w : List ℕ) (k : Result Flow Trouble) (r : _) (w' : List ℕ) → x ≡ Ok (Then.Reads g) → r ≡ next_of k → Kept g w k w' → Follows x w r w'
reads_more x g w k r w' e i h = subst (λ (y : Result Then Error). Follows y w r w') (sym e) (k, i, h)

-- a turn that fails says at which end
not_endless : (x : Result Then Error) (w w' : List ℕ) → Follows x w (Err Trouble.Endless) w' → ⊥
not_endless (Ok (Then.Turns g)) w w' (e, _) = apart (cc e)
not_endless (Ok (Then.Reads g)) w w' (k, e, h) = by k e (came_of (front_of g) h.got (length w - (front_of g).have)) h.came
  where
    by : (k : Result Flow Trouble) → Err Trouble.Endless ≡ next_of k → (y : Result Flow Error) → k ≡ reading y → ⊥
    by (Ok z) e y c = apart (cc e)
    by (Err t) e (Ok z) c = apart (cc c)
    by (Err t) e (Err u) c = let q : Trouble.Endless ≡ t = cc e in let v : t ≡ Trouble.Reading u = cc c in apart (cc (q ∙ v))
not_endless (Ok Then.Ends) w w' (e, _) = apart (cc e)
not_endless (Err x) w w' (e, _) = let q : Trouble.Endless ≡ Trouble.Writing x = cc e in apart (cc q)

-- ---- the loop, behind so many turns

pub record Turning (style : Style) (w₀ d₀ w d : List ℕ) (f : Flow) (turns : ℕ) : Type 0 where
  pub sound : Sound f (length w₀)
  pub window : length w ≡ length w₀
  pub buffer : length d ≡ length d₀
  pub ran : Ran style w₀ d₀ turns f w d

pub turning_first : (style : Style) (w d : List ℕ) (f : Flow) → f ≡ begun start_of → Turning style w d w d f 0
turning_first style w d f e =
    record {
      sound = subst (λ (x : Flow). Sound x (length w)) (sym e) (record { start = omega arith; have = omega arith });
      window = refl;
      buffer = refl;
      ran = Ran.none f e;
    }

goes : (b : Bool) → not b ≡ false → b ≡ true
goes true h = refl
goes false h = absurd (true≢false h)

halts : (b : Bool) → not b ≡ true → b ≡ true → ⊥
halts true h g = false≢true h
halts false h g = false≢true g

module _ (style : Style) (w₀ d₀ w d : List ℕ) (f : Flow) (turns : ℕ) (t : Turning style w₀ d₀ w d f turns) where
  one_more : (r : Flow) (w' d' : List ℕ) → Turns style f w d (Ok (Some r)) w' d' → Ran style w₀ d₀ (turns + 1) r w' d'
  one_more r w' d' h = Ran.one_more turns f w d r w' d' t.ran h

  pub turning_more : (r : Flow) (w' d' : List ℕ) → Turns style f w d (Ok (Some r)) w' d' → Sound r (length w) → length w' ≡ length w → length d' ≡ length d → Turning style w₀ d₀ w' d' r (turns + 1)
  turning_more r w' d' h s v b =
      record {
        sound = subst (λ (k : ℕ). Sound r k) t.window s;
        window = v ∙ t.window;
        buffer = b ∙ t.buffer;
        ran = one_more r w' d' h;
      }

  pub turning_ends : (r : Result ⊤ Trouble) (w' d' : List ℕ) → Last style turns f w d r w' d' → Pumped style w₀ d₀ w' d' r
  turning_ends r w' d' h = record { turns = turns; left = f; window = w; buffer = d; ran = t.ran; ends = h }

  pub turning_fails : (x : Trouble) (w' d' : List ℕ) → Turns style f w d (Err x) w' d' → Pumped style w₀ d₀ w' d' (Err x)
  turning_fails x w' d' h = turning_ends (Err x) w' d' (by x h)
    where
      by : (y : Trouble) → Turns style f w d (Err y) w' d' → Last style turns f w d (Err y) w' d'
      by (Trouble.Reading e) k = k
      by (Trouble.Writing e) k = k
      by Trouble.Endless k = absurd (not_endless (after_of f k.answer k.written) w w' k.next)

  pub turning_out : turns ≡ 2 ^ 64 - 1 → Pumped style w₀ d₀ w d (Err Trouble.Endless)
  turning_out e = turning_ends (Err Trouble.Endless) w d (e, refl, refl)
