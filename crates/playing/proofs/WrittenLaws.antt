-- What was written of some bytes, what is left of them, and what a turn and a read make of what is owed.
use Rattle.std.specs.Prelude.{◌≡◌, ℕ, zero, suc, ◌+◌, ◌-◌, ◌<◌, List, [], ◌∷◌, ◌++◌, length, take, drop, Option, Some, Result, Ok, Err, IfOk, refl}
use Rattle.std.specs.declared.io.Error.{Error}
use Rattle.std.proofs.Common.{sym, ◌∙◌, ap, subst, arith, append_assoc, length-drop, length-take-le, take_all, take_at}
use Rattle.std.proofs.lemmas.List.{take-append-drop}
use Rattle.std.proofs.Math.Seq.{take-append-add}
use Rattle.std.proofs.Math.Nat.{min-eq_left}
use Rattle.std.proofs.KnownBytes.{Appends-trans}
use Rattle.std.specs.Io.{ReadsAtMost}
use Rattle.std.specs.Io.KnownBytes.{Appends, Consumes, IsAtEnd, ReadConsumes}
use Rattle.writing.specs.LentLaws.{put_part}
use Rattle.flow.specs.declared.Flow.{Flow}
use Rattle.flow.specs.Becomes.{front_of, came_of}
use Rattle.playing.specs.declared.Trouble.{Trouble}
use Rattle.playing.specs.Between.{Sound, unread, reading}
use Rattle.playing.specs.BetweenLaws.{count, moved_long, read_behind}
use Rattle.playing.specs.Written.{Brought}

-- of lines all but rest was written behind c
abbrev pub Flushed : Option (List ℕ) → Option (List ℕ) → List ℕ → List ℕ → Type 0
Flushed c now lines rest = (w : List ℕ) × (lines ≡ w ++ rest) × Appends c now w

pub flushed_more : (c now new : Option (List ℕ)) (lines rest : List ℕ) (k : ℕ) → Flushed c now lines rest → Appends now new (take k rest) → Flushed c new lines (take (length rest - k) (drop k rest))
flushed_more c now new lines rest k (w, e, h) a = (
  w ++ take k rest,
  e
      ∙ ap (λ (u : List ℕ). w ++ u) (sym (take-append-drop k rest))
      ∙ sym (append_assoc w (take k rest) (drop k rest))
      ∙ ap (λ (u : List ℕ). (w ++ take k rest) ++ u) (sym (take_all (length rest - k) (drop k rest) (omega (arith, length-drop k rest)))),
  Appends-trans c now new w (take k rest) h a,
)

-- ---- a read behind the unread bytes

no_front : (bs xs ys : List ℕ) → xs ≡ bs ++ ys → xs ≡ [] → ys ≡ []
no_front [] xs ys e n = sym e ∙ n
no_front (b ∷ bs) xs ys e n = absurd (omega (arith, ap length (sym e ∙ n)))

known : (left left' : Option (List ℕ)) (bs xs ys : List ℕ) → Consumes left left' bs → left ≡ Some xs → left' ≡ Some ys → xs ≡ bs ++ ys
known left left' bs xs ys c l m = subst (λ (z : Option (List ℕ)). Consumes (Some xs) z bs) m (subst (λ (z : Option (List ℕ)). Consumes z left' bs) l c)

-- all behind the front was lent
pub lent_long : (g f : Flow) (w₁ ys : List ℕ) → g ≡ front_of f → length ys ≡ length (take (length w₁ - g.have) (drop g.have w₁)) → length ys ≡ length w₁ - (f.have - f.start)
lent_long g f w₁ ys e h =
    h ∙ length-take-le (length w₁ - g.have) (drop g.have w₁) (omega (arith, length-drop g.have w₁)) ∙ ap (λ (z : Flow). length w₁ - z.have) e

module _ (f : Flow) (w : List ℕ) (s : Sound f (length w)) (w₁ ys : List ℕ) (left left' : Option (List ℕ)) (moved : w₁ ≡ unread f w ++ drop (f.have - f.start) w) (long : length ys ≡ length w₁ - (f.have - f.start)) (room : f.have - f.start < length w) where
  abbrev m : ℕ
  m = f.have - f.start

  behind : (n : ℕ) → take (m + n) (read_behind (front_of f) w₁ ys) ≡ unread f w ++ take n ys
  behind n =
      ap (take (m + n)) (put_part m w₁ ys ∙ ap (λ (u : List ℕ). u ++ ys) (ap (take m) moved ∙ take_at (unread f w) (drop m w) m (count f w s)))
      ∙ ap (λ (k : ℕ). take (k + n) (unread f w ++ ys)) (sym (count f w s))
      ∙ take-append-add (unread f w) ys n

  abbrev Comes : Result Flow Trouble → Type 0
  Comes r = IfOk r (λ x. Brought f w left x (read_behind (front_of f) w₁ ys) left')

  by : (got : Result ℕ Error) → ReadsAtMost got ys → ReadConsumes left left' got ys → Comes (reading (came_of (front_of f) got (length w₁ - m)))
  unfolding came_of
  by (Ok zero) b (c, e) =
      record {
        bytes = [];
        consumed = c;
        behind = ap (λ (k : ℕ). take k (read_behind (front_of f) w₁ ys)) (omega arith) ∙ behind 0;
        state = refl;
        end = λ xs zs l l' h g. subst IsAtEnd l' (e refl (omega (arith, long, room, ap length moved, moved_long f w s w₁ moved)));
      }
  by (Ok (suc n)) b (c, e) =
      record {
        bytes = take (suc n) ys;
        consumed = c;
        behind = ap (λ (k : ℕ). take k (read_behind (front_of f) w₁ ys)) (omega (arith, min-eq_left {n = suc n} {m = length w₁ - m} (omega (arith, b.0, long)))) ∙ behind (suc n);
        state = refl;
        end = λ xs zs l l' h g. no_front (take (suc n) ys) xs zs (known left left' (take (suc n) ys) xs zs c l l') (h g);
      }
  by (Err x) b k = tt

  pub brought : (g : Flow) (got : Result ℕ Error) (r : Result Flow Trouble) → g ≡ front_of f → ReadsAtMost got ys → ReadConsumes left left' got ys → r ≡ reading (came_of g got (length w₁ - g.have)) → IfOk r (λ x. Brought f w left x (read_behind g w₁ ys) left')
  brought g got r e b c h =
      subst (λ (z : Flow). IfOk r (λ x. Brought f w left x (read_behind z w₁ ys) left')) (sym e)
      (subst Comes (sym (h ∙ ap (λ (z : Flow). reading (came_of z got (length w₁ - z.have))) e)) (by got b c))
