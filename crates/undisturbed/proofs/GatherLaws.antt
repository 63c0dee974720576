-- What gathering leaves as it was: what holds of each item, and the order of what is measured. Nothing here knows what an event is.
use Rattle.std.specs.Prelude.{◌≡◌}
use Rattle.std.proofs.Math.Path.{refl, sym, ap}
use Rattle.std.proofs.Common.{◌∙◌}
use mathlib.Core.List.{List, [], ◌∷◌, ◌++◌, append_assoc}
use Rattle.undisturbed.specs.Runs.{syncs, requests, a_part, the_last, Place, within, free, Item, placed, gather_from, gather, Each, found, Once}

-- ---- what holds of each item holds of each gathered

module _ {B : Type 0} (P : Place → B → Type 0) where
  each_append : (l r : List (Item B)) → Each P l → Each P r → Each P (l ++ r)
  unfolding Each
  each_append [] r u es = es
  each_append (placed p b ∷ l) r (h, hs) es = (h, each_append l r hs es)

  each_from : (ks kr log : List (Item B)) → Each P ks → Each P kr → Each P log → Each P (gather_from ks kr log)
  unfolding Each gather_from
  each_from ks kr [] s r u = each_append ks kr s r
  each_from ks kr (placed (within syncs (a_part w)) b ∷ log) s r (h, es) = each_from (ks ++ (placed (within syncs (a_part w)) b ∷ [])) kr log (each_append ks _ s (h, tt)) r es
  each_from ks kr (placed (within syncs (the_last w)) b ∷ log) s r (h, es) = each_append ks _ s (h, each_from [] kr log tt r es)
  each_from ks kr (placed (within requests (a_part w)) b ∷ log) s r (h, es) = each_from ks (kr ++ (placed (within requests (a_part w)) b ∷ [])) log s (each_append kr _ r (h, tt)) es
  each_from ks kr (placed (within requests (the_last w)) b ∷ log) s r (h, es) = each_append kr _ r (h, each_from ks [] log s tt es)
  each_from ks kr (placed (free f) b ∷ log) s r (h, es) = (h, each_from ks kr log s r es)

  pub each_gathered : (log : List (Item B)) → Each P log → Each P (gather log)
  unfolding Each
  each_gathered log es = each_from [] [] log tt tt es

-- ---- gathering moves only what measures nothing, so the measurements keep their order

module _ {E A M : Type 0} (measured : A → List M) where
  found_append : (l r : List (Item (E × A))) → found measured (l ++ r) ≡ found measured l ++ found measured r
  unfolding found
  found_append [] r = refl
  found_append (placed p a ∷ l) r = ap (measured a.1 ++◌) (found_append l r) ∙ sym (append_assoc (measured a.1) (found measured l) (found measured r))

  -- a list of items that measures nothing
  abbrev Silent : List (Item (E × A)) → Type 0
  Silent l = found measured l ≡ []

  silent_then : (l r : List (Item (E × A))) → Silent l → found measured (l ++ r) ≡ found measured r
  silent_then l r h = found_append l r ∙ ap (◌++ found measured r) h

  silent_more : (l : List (Item (E × A))) (p : Place) (a : E × A) → Silent l → measured a.1 ≡ [] → Silent (l ++ (placed p a ∷ []))
  unfolding found
  silent_more l p a h m = silent_then l (placed p a ∷ []) h ∙ ap (◌++ []) m

  order_from : (ks kr log : List (Item (E × A))) → Silent ks → Silent kr → Each (Once measured) log → found measured (gather_from ks kr log) ≡ found measured log
  unfolding Each found gather_from
  order_from ks kr [] s r u = silent_then ks kr s ∙ r
  order_from ks kr (placed (within syncs (a_part w)) a ∷ log) s r (m, es) =
      order_from (ks ++ (placed (within syncs (a_part w)) a ∷ [])) kr log (silent_more ks _ a s m) r es ∙ ap (◌++ found measured log) (sym m)
  order_from ks kr (placed (within syncs (the_last w)) a ∷ log) s r (m, es) =
      silent_then ks _ s ∙ ap (measured a.1 ++◌) (order_from [] kr log refl r es)
  order_from ks kr (placed (within requests (a_part w)) a ∷ log) s r (m, es) =
      order_from ks (kr ++ (placed (within requests (a_part w)) a ∷ [])) log s (silent_more kr _ a r m) es ∙ ap (◌++ found measured log) (sym m)
  order_from ks kr (placed (within requests (the_last w)) a ∷ log) s r (m, es) =
      silent_then kr _ r ∙ ap (measured a.1 ++◌) (order_from ks [] log s refl es)
  order_from ks kr (placed (free b) a ∷ log) s r (m, es) = ap (measured a.1 ++◌) (order_from ks kr log s r es)

  pub order_gathered : (log : List (Item (E × A))) → Each (Once measured) log → found measured (gather log) ≡ found measured log
  unfolding found
  order_gathered log es = order_from [] [] log refl refl es
