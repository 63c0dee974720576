-- Pieces in any order bring what is missing, one after another, until nothing is: an exchange as `Whole` says it is one as its proof takes it. Which times are there is all that matters of them, so for given pieces every order is tried by computing.
use Prim.Native.Nat.{ℕ, zero, suc}
use Rattle.std.specs.Prelude.{◌≡◌, Bool, true, ◌&&◌, ◌||◌, not, ℤ, Option, Some, None}
use Rattle.std.proofs.Math.Path.{refl, ap, subst}
use Rattle.std.proofs.Common.{sym, ◌∙◌, true≢false}
use Rattle.std.proofs.Math.Bool.{false, and-true}
use mathlib.Core.List.{List, [], ◌∷◌, ◌++◌}
use borrow.Author.Tests.{not-true}
use Rattle.octets.proofs.BytesLaws.{both}
use Rattle.rules.specs.Names.{Mechanism, Config}
use Rattle.rules.specs.Events.{Event}
use Rattle.rules.specs.WorkedOut.{Completed}
use Rattle.undisturbed.specs.Runs.{Lane, Item}
use Rattle.undisturbed.specs.Times.{Times, times_in, times_of, earlier_of, and_then, if_given, sync_of, request_of, complete_of, comes_to}
use Rattle.undisturbed.specs.Whole.{Piece, Picks, this_one, one_behind, InAnyOrder, firstly, lastly}
use Rattle.undisturbed.specs.TimesLaws.{both_given, overlap, finished}
use Rattle.undisturbed.proofs.TimesLaws.{times_snoc}
use Rattle.undisturbed.specs.LaneLaws.{Brought, Rest}
use Rattle.undisturbed.specs.OrderLaws.{Shape, is_given, shape_of, or_shape, meets, two_there, four_there, every_pick, is_none, alike, OfAny}

-- ---- which times are there

given_both : (a b : Option ℤ) → both_given a b ≡ (is_given a && is_given b)
given_both None b = refl
given_both (Some x) None = refl
given_both (Some x) (Some y) = refl

overlap-meets : (a b : Times) → overlap a b ≡ meets (shape_of a) (shape_of b)
overlap-meets a b =
    λ i. given_both a.send b.send i || given_both a.receive b.receive i || given_both a.request_receive b.request_receive i || given_both a.response_send b.response_send i

given_or : (a b : Option ℤ) → is_given (earlier_of a b) ≡ (is_given a || is_given b)
given_or None b = refl
given_or (Some x) b = refl

shape_then : (a b : Times) → shape_of (and_then a b) ≡ or_shape (shape_of a) (shape_of b)
shape_then a b =
    λ i. record { send = given_or a.send b.send i; receive = given_or a.receive b.receive i; request_receive = given_or a.request_receive b.request_receive i; response_send = given_or a.response_send b.response_send i }

finished_given : (a : Option ℤ) (k : ℤ → Completed) (b : Bool) → ((z : ℤ) → finished (k z) ≡ b) → finished (if_given a k) ≡ (is_given a && b)
finished_given None k b f = refl
finished_given (Some z) k b f = f z

two_finished : (made : ℤ → ℤ → Completed) → ((x y : ℤ) → finished (made x y) ≡ true) → (a b : Option ℤ) → finished (if_given a (λ x. if_given b (λ y. made x y))) ≡ (is_given a && is_given b)
two_finished made done a b =
    finished_given a _ (is_given b) (λ x. finished_given b _ true (done x) ∙ and-true (is_given b))

pub sync_finished : (t : Times) → finished (sync_of t) ≡ two_there (shape_of t)
sync_finished t = two_finished Completed.sync (λ x y. refl) t.send t.receive

pub delay_finished : (t : Times) → finished (request_of Mechanism.EndToEnd t) ≡ two_there (shape_of t)
delay_finished t = two_finished Completed.delay (λ x y. refl) t.send t.receive

pub peer_finished : (t : Times) → finished (request_of Mechanism.Peer t) ≡ four_there (shape_of t)
peer_finished t =
    finished_given t.send _ _ (λ x.
    finished_given t.request_receive _ _ (λ y.
    finished_given t.response_send _ _ (λ z.
    finished_given t.receive _ true (λ u. refl) ∙ and-true (is_given t.receive))))

-- ---- every order of given pieces, tried one by one

picked : (f : Piece → List Piece → Bool) (p : Piece) (ps left : List Piece) → Picks p ps left → every_pick f ps ≡ true → f p left ≡ true
picked f p ps left (this_one q qs) e = (both (f q qs) _ e).0
picked f p ps left (one_behind q r qs more picks) e = picked (λ s left. f s (r ∷ left)) q qs more picks (both (f r qs) _ e).1

are_alike : (a b : Bool) → alike a b ≡ true → a ≡ b
are_alike true true e = refl
are_alike true false e = sym e
are_alike false true e = e
are_alike false false e = refl

not_none : (p : Piece) (ps left : List Piece) → Picks p ps left → is_none ps ≡ false
not_none p ps left (this_one q qs) = refl
not_none p ps left (one_behind q r qs more picks) = refl

module _ (c : Config) (l : Lane) (Of : Piece → Event → Type 0) (shape : Piece → Shape) (full : Shape → Bool) where
  -- of a piece that is picked: it brings only what is missing, and nothing is missing then exactly if none is left
  module _ (fine : Shape → List Piece → Bool) where
    abbrev brings_right : Shape → Piece → List Piece → Bool
    brings_right a p left =
        (not (meets a (shape p)) && alike (full (or_shape a (shape p))) (is_none left)) && (is_none left || fine (or_shape a (shape p)) left)

  abbrev pub every_order : ℕ → Shape → List Piece → Bool
  every_order zero a ps = false
  every_order (suc n) a ps = every_pick (brings_right (every_order n) a) ps

  module _ (Shape-is : (p : Piece) (e : Event) → Of p e → shape_of (times_in c e) ≡ shape p) (Full-is : (t : Times) → finished (complete_of c l t) ≡ full (shape_of t)) where
    module _ (es : List Event) (e : Event) (a : Shape) (s : shape_of (times_of c es) ≡ a) (p : Piece) (of : Of p e) where
      shape_after : shape_of (times_of c (es ++ (e ∷ []))) ≡ or_shape a (shape p)
      shape_after =
          ap shape_of (times_snoc c es e) ∙ shape_then (times_of c es) (times_in c e) ∙ (λ i. or_shape (s i) (Shape-is p e of i))

      brought : (left : List Piece) → not (meets a (shape p)) && alike (full (or_shape a (shape p))) (is_none left) ≡ true → Brought c l es e (is_none left)
      unfolding comes_to
      brought left h =
          let (m, f) = both (not (meets a (shape p))) (alike (full (or_shape a (shape p))) (is_none left)) h in
          record {
            missing = overlap-meets (times_of c es) (times_in c e) ∙ (λ i. meets (s i) (Shape-is p e of i)) ∙ not-true (meets a (shape p)) m;
            finishes = Full-is (times_of c (es ++ (e ∷ []))) ∙ ap full shape_after ∙ are_alike (full (or_shape a (shape p))) (is_none left) f;
          }

    pub as_rest : (n : ℕ) (a : Shape) (ps : List Piece) (es : List Event) (x : List (Item Event)) → shape_of (times_of c es) ≡ a → every_order n a ps ≡ true → InAnyOrder l Of ps x → Rest c l (OfAny Of) es x
    unfolding Rest
    as_rest zero a ps es x s f o = absurd (true≢false (sym f))
    as_rest (suc n) a ps es x s f (firstly p qs left e y picks of more) =
        let (g, r) = both _ (is_none left || every_order n (or_shape a (shape p)) left) (picked (brings_right (every_order n) a) p qs left picks f) in
        let some_left : is_none left ≡ false = wants left y more in
        ((p, of), subst (Brought c l es e) some_left (brought es e a s p of left g), as_rest n (or_shape a (shape p)) left (es ++ (e ∷ [])) y (shape_after es e a s p of) (ap (λ (b : Bool). b || every_order n (or_shape a (shape p)) left) (sym some_left) ∙ r) more)
      where
        wants : (left : List Piece) (y : List (Item Event)) → InAnyOrder l Of left y → is_none left ≡ false
        wants left y (firstly p qs more e z picks of o) = not_none p qs more picks
        wants left y (lastly p e of) = refl
    as_rest (suc n) a ps es x s f (lastly p e of) =
        let (g, r) = both _ (is_none [] || every_order n (or_shape a (shape p)) []) (picked (brings_right (every_order n) a) p (p ∷ []) [] (this_one p []) f) in
        ((p, of), brought es e a s p of [] g, tt)
