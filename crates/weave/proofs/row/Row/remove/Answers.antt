-- `remove`: what lies behind the event moves up by one place.
use Rattle.std.proofs.Common.{◌≡◌, ℕ, ◌+◌, ◌-◌, ◌≤◌, suc, List, length, take, drop, arith, rules, remove, add-one}
use Rattle.std.proofs.lemmas.List.{take-take, drop-take, length-drop}
use Rattle.std.proofs.lemmas.List.Edits.{take-paste}
use Rattle.std.specs.List.{copy_within}
use Rattle.weave.proofs.row.Row.remove.Goals as goal

-- a list up to a place, and what lies behind an element before that place moved up by one
moved_up : {X : Type 0} (xs : List X) (at n end : ℕ) → end ≡ at + 1 + n → end ≤ length xs → take (end - 1) (copy_within xs (at + 1) end at) ≡ remove (take end xs) at
moved_up xs at n end e h =
    let gap : end - (at + 1) ≡ n = omega arith in
    let less : end - 1 ≡ at + n = omega arith in
    let fits : n ≤ length (drop (at + 1) xs) = omega (arith, length-drop (at + 1) xs) in
    let front = take-paste xs at (drop (at + 1) xs) n (omega arith) fits in
    let before : take at (take end xs) ≡ take at xs = take-take at end xs (omega arith) in
    let behind : drop (at + 1) (take end xs) ≡ take n (drop (at + 1) xs) = rw e (drop-take (at + 1) n xs) in
    let next : at + 1 ≡ suc at = add-one at in
    cc

pub returns-clause-value : goal.returns-clause-value
returns-clause-value c =
    let e : c.args.self.now.count ≡ c.args.at + 1 + (c.args.self.now.count - (c.args.at + 1)) = omega arith in
    let fits : c.args.self.now.count ≤ length c.args.self.now.places = search rules in
    rw c.copy_within.ensures.after (moved_up _ _ _ _ e fits)
