use Rattle.std.proofs.Common.{◌≡◌, ◌+◌, ◌-◌, ◌++◌, take, drop, length-drop, reverse, refl, ap, sym, ◌∙◌, arith}
use Rattle.std.proofs.lemmas.List.{length-take-le}
use Rattle.ap_table.specs.Order.{numbers}
use Rattle.ap_table.proofs.Standing.{none_stands, given_way}
use Rattle.ap_table.proofs.live.give_way.Goals as goal

pub returns-in_default : goal.returns-in_default
returns-in_default c = rw (sym c.as_slice.ensures.value) (none_stands c.as_slice.result.now c.args.node (numbers c.args.first c.args.count) (c.in_default.ensures.none refl))

pub returns : goal.returns
returns c =
    let found = c.in-Some.ensures.found in
    let v = c.as_slice.result.now in
    let at = c.in-Some.at in
    let xs = take at v in
    let ys = drop (at + 1) v in
    let zs = numbers c.args.first c.args.count in
    let left : c.remove.new.self.items ≡ xs ++ ys = c.remove.ensures.by_index.2 ∙ ap (λ l. take at l ++ drop (at + 1) l) (sym c.as_slice.ensures.value) in
    let lx = length-take-le at v (omega (arith, found.0)) in
    let ly = length-drop (at + 1) v in
    given_way c.args.live.now.items xs ys zs c.push_numbers.new.live.items c.turn.new.items c.args.node at (c.len.result - at) c.push_numbers.new.live.len
    (sym c.as_slice.ensures.value ∙ found.1) found.2 (c.push_numbers.ensures ∙ ap (λ l. l ++ reverse zs) left) lx (omega arith)
    (c.turn.ensures ∙ ap (λ l. take at l ++ (drop (c.len.result - at) (drop at l) ++ take (c.len.result - at) (drop at l))) c.as_mut_slice.ensures.value) (omega arith)
