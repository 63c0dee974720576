-- A message laid into a buffer: the header at its front, and then the body into the part behind it, which was lent.
use Prim.Native.Nat.{ℕ, ◌+◌, ◌-◌, ◌≤◌}
use mathlib.Core.Path.{◌≡◌, sym, ◌∙◌, ap}
use mathlib.Core.List.{List, ◌++◌, append_assoc}
use native.Mathlib.Omega.{arith}
use lib.ListN.{length, take, drop, length-drop}
use lib.Seq.{take_at, drop_at, drop-drop}
use borrow.Rule.Slice.PartMut.{put_mid, mid_of}
use Rattle.wire.specs.declared.Header.{Header}
use Rattle.wire.specs.declared.Body.{Body}
use Rattle.octets.specs.Bytes.{bytes_of, puts, size_of}
use Rattle.wire.specs.Layout.{row, type_of, header_entries, body_entries, message_bytes}
use Rattle.wire.proofs.LayoutLaws.{length_header, body_size, body_written, head_then_body}
use Rattle.writing.specs.LentLaws.{lent_part, put_part}

-- xs is a head hd of n bytes and what lay behind them in l; the part lent is what lay there
module _ (n : ℕ) (hd xs l : List ℕ) (e : length hd ≡ n) (x : xs ≡ hd ++ drop n l) where
  lent : mid_of n (length xs - n) xs ≡ drop n l
  lent = lent_part n xs ∙ ap (drop n) x ∙ drop_at hd (drop n l) n e

  pub lent_length : length (mid_of n (length xs - n) xs) ≡ length l - n
  lent_length = ap length lent ∙ length-drop n l

  head_and_rest : (ys : List ℕ) → put_mid n (length xs - n) xs ys ≡ hd ++ ys
  head_and_rest ys =
      put_part n xs ys ∙ ap (λ (z : List ℕ). z ++ ys) (ap (take n) x ∙ take_at hd (drop n l) n e)

module _ (h : Header) (b : Body) (xs ys l : List ℕ) where
  abbrev hd : List ℕ
  hd = bytes_of (header_entries h (row (type_of b)).control)

  pub laid : (row (type_of b)).length ≤ length l → xs ≡ hd ++ drop 34 l → ys ≡ puts (body_entries 0 b) (mid_of 34 (length xs - 34) xs) → put_mid 34 (length xs - 34) xs ys ≡ message_bytes h b ++ drop (row (type_of b)).length l
  laid room x y =
      let e : length hd ≡ 34 = length_header h (row (type_of b)).control in
      let bd : List ℕ = bytes_of (body_entries 0 b) in
      let k : size_of (body_entries 0 b) ≤ length (drop 34 l) = simp length-drop (omega (arith, room, body_size 0 b)) in
      let n : 34 + size_of (body_entries 0 b) ≡ (row (type_of b)).length = omega (arith, body_size 0 b) in
      head_and_rest 34 hd xs l e x ys
      ∙ ap (λ (z : List ℕ). hd ++ z) (y ∙ ap (puts (body_entries 0 b)) (lent 34 hd xs l e x) ∙ body_written b (drop 34 l) k)
      ∙ ap (λ (z : List ℕ). hd ++ (bd ++ z)) (drop-drop (size_of (body_entries 0 b)) 34 l)
      ∙ sym (append_assoc hd bd (drop (34 + size_of (body_entries 0 b)) l))
      ∙ ap (λ (z : List ℕ). z ++ drop (34 + size_of (body_entries 0 b)) l) (sym (head_then_body h b))
      ∙ ap (λ (z : ℕ). message_bytes h b ++ drop z l) n
