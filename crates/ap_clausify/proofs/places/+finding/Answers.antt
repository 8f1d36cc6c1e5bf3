use Rattle.std.proofs.Common.{◌≡◌, [], ◌∷◌, ◌++◌, true, map, ap, sym, ◌∙◌, rules, arith}
use Rattle.ap_value.specs.Values.{symbol_eq}
use Rattle.ap_term.proofs.Seen.{seen, deeper}
use Rattle.ap_world.specs.Names.{if_name}
use Rattle.ap_clausify.specs.Places.{first_in, first_place, found}
use Rattle.ap_clausify.proofs.Placed.{place_at, place_called, place_few, place_many, place_other, place_if, searched, unsearched, append_nil, popped}
use Rattle.ap_clausify.proofs.places.+finding.Goals as goal

pub find-returns-in_default : goal.find-returns-in_default
find-returns-in_default t c =
    let other : place_at (symbol_eq c.in-Call.f if_name) c.in-Call.ts ≡ first_in 0 (map first_place c.in-Call.ts) = search (rules, place_few, place_many, place_other) in
    let e : first_place c.args.t.now ≡ first_in 0 (map first_place c.as_slice-in_default.result.now) =
    ap first_place (seen c.t.view_is c.in-Call.is) ∙ place_called c.in-Call.f c.in-Call.ts ∙ other ∙ ap (λ us. first_in 0 (map first_place us)) (sym c.as_slice-in_default.ensures) in
    rw e c.find_among.ensures

pub find-returns-then-not-branch : goal.find-returns-then-not-branch
find-returns-then-not-branch t c =
    let q : symbol_eq c.in-Call.f if_name ≡ true = search rules in
    let e = place_if c.args.t.now c.in-Call.f c.as_slice.result.now c.in-Call.ts c.test-item.result (seen c.t.view_is c.in-Call.is) c.as_slice.ensures q c.in-true-len3.len_at_least c.in-true-len3.len_below c.test-item.is in
    let pushed : c.push_place.new.at ≡ c.args.at.now ++ 0 ∷ [] = search rules in
    let left : (c.in_ok-find-in-true-len3.field-0, c.find.new.at) ≡ found c.push_place.new.at (first_place c.test-item.result) = search rules in
    let p = unsearched (first_place c.test-item.result) c.in_ok-find-in-true-len3.field-0 c.args.at.now c.find.new.at (left ∙ ap (λ xs. found xs (first_place c.test-item.result)) pushed) c.if-not-branch.true in
    let back : c.pop.new.self ≡ c.args.at.now = popped c.args.at.now c.find.new.at c.pop.new.self 0 c.pop.result p.1 c.pop.ensures in
    rw (e, p.0) (ap (λ xs. (true, xs)) (back ∙ sym (append_nil c.args.at.now)))

pub find-returns-else-not-branch : goal.find-returns-else-not-branch
find-returns-else-not-branch t c =
    let q : symbol_eq c.in-Call.f if_name ≡ true = search rules in
    let e = place_if c.args.t.now c.in-Call.f c.as_slice.result.now c.in-Call.ts c.test-item.result (seen c.t.view_is c.in-Call.is) c.as_slice.ensures q c.in-true-len3.len_at_least c.in-true-len3.len_below c.test-item.is in
    let pushed : c.push_place.new.at ≡ c.args.at.now ++ 0 ∷ [] = search rules in
    let left : (c.in_ok-find-in-true-len3.field-0, c.find.new.at) ≡ found c.push_place.new.at (first_place c.test-item.result) = search rules in
    let p = searched (first_place c.test-item.result) c.in_ok-find-in-true-len3.field-0 c.args.at.now c.find.new.at (left ∙ ap (λ xs. found xs (first_place c.test-item.result)) pushed) c.if-not-branch.false in
    rw e (ap (λ xs. (true, xs)) p)

pub find-find_among-requires : goal.find-find_among-requires
find-find_among-requires t c = let d = deeper c.t.view_is c.in-Call.is c.as_slice-in_default.ensures in (omega (arith, c.decreases), tt)
