use Rattle.std.proofs.Common.{◌≡◌, ◌+◌, ◌-◌, ◌<◌, ◌≤◌, ◌⊎◌, ◌∷◌, [], ℕ, Some, None, length, length-append, sym, ap, subst, ◌∙◌, arith}
use Rattle.std.proofs.lemmas.List.{take_all}
use Rattle.std.specs.List.{slice_get}
use Rattle.ap_table.specs.Sums.{HasKids}
use Rattle.ap_table.specs.Ended.{marks_at, piece_of, Slots}
use Rattle.ap_table.proofs.Keeping.{some_is}
use Rattle.ap_table.proofs.Slots.{popped, no_slots, slots_next, root_slot}
use Rattle.ap_table.proofs.gathering.pieces.Goals as goal

pub loop-place-init : goal.loop-place-init
loop-place-init g c =
    let xs = c.args.nodes.items in
    (sym (take_all (length xs - 0) xs (omega arith)), ap length c.new-slots.ensures.items, subst (Slots xs (length xs - 0)) (sym c.new-slots.ensures.items) (no_slots xs (length xs - 0) (omega arith)))

pub piece-requires-clause-fits : goal.piece-requires-clause-fits
piece-requires-clause-fits g c =
    let xs = c.args.nodes.items in
    let place = c.loop-place.place in
    let lt = c.loop-place-test.true in
    let all : c.len-total.result ≡ length xs = (let a = c.len-total.ensures in let b = c.args.nodes.ok.0 in omega arith) in
    let p = popped xs c.pop.new.self.items c.in-Some.node (length xs - place) (length xs - (place + 1)) (omega arith) (omega arith) (sym c.loop-place.invariant.0 ∙ c.in-Some.ensures.items) in
    λ has. (let f = (c.requires.trees (length xs - (place + 1)) c.in-Some.node p.0 has).fits in omega arith)

pub piece-requires-clause-there : goal.piece-requires-clause-there
piece-requires-clause-there g c =
    let xs = c.args.nodes.items in
    let n = c.in-Some.node in
    let place = c.loop-place.place in
    let lt = c.loop-place-test.true in
    let all : c.len-total.result ≡ length xs = (let a = c.len-total.ensures in let b = c.args.nodes.ok.0 in omega arith) in
    let i = c.loop-place.invariant in
    let len = i.1 in
    let p = popped xs c.pop.new.self.items n (length xs - place) (length xs - (place + 1)) (omega arith) (omega arith) (sym i.0 ∙ c.in-Some.ensures.items) in
    λ has some. (let f = (c.requires.trees (length xs - (place + 1)) n p.0 has).after n.first (omega arith) (omega arith) in omega arith)

pub loop-place-preserved : goal.loop-place-preserved
loop-place-preserved g c =
    let xs = c.args.nodes.items in
    let n = c.in-Some.node in
    let place = c.loop-place.place in
    let lt = c.loop-place-test.true in
    let all : c.len-total.result ≡ length xs = (let a = c.len-total.ensures in let b = c.args.nodes.ok.0 in omega arith) in
    let inv = c.loop-place.invariant in
    let len = inv.1 in
    let i = length xs - (place + 1) in
    let slots = c.loop-place.slots.items in
    let new = c.piece.new.slots.items in
    let own = c.in_ok-own.own in
    let p = popped xs c.pop.new.self.items n (length xs - place) i (omega arith) (omega arith) (sym inv.0 ∙ c.in-Some.ensures.items) in
    let held : Slots xs (i + 1) slots = subst (λ (k : ℕ). Slots xs k slots) (let z : length xs - place ≡ i + 1 = omega arith in z) inv.2 in
    let long = length-append new (own ∷ []) in
    let pushed = ap length c.in_ok-push.ensures.items in
    let same = c.in_ok-own.ensures.long in (
      p.1,
      omega arith,
      subst (Slots xs i) (sym c.in_ok-push.ensures.items)
          (slots_next xs c.requires.trees c.requires.makes slots i n p.0 held new own (omega arith) same (c.in_ok-own.ensures.piece ∙ ap (λ (k : ℕ). piece_of slots k n) all)
          (subst (λ (t : ℕ). (k : ℕ) → (HasKids n.stage → (k + n.first + n.count < t) ⊎ (t ≤ k + n.first)) → slice_get new k ≡ slice_get slots k) all c.in_ok-own.ensures.others)),
    )

pub returns : goal.returns
returns g c =
    let xs = c.args.nodes.items in
    let slots = c.loop-place.slots.items in
    let place = c.loop-place.place in
    let past = c.loop-place-test.false in
    let all : c.len-total.result ≡ length xs = (let a = c.len-total.ensures in let b = c.args.nodes.ok.0 in omega arith) in
    let r = c.requires.root in
    let held : Slots xs 0 slots = subst (λ (k : ℕ). Slots xs k slots) (let z : length xs - place ≡ 0 = omega arith in z) c.loop-place.invariant.2 in
    let last : slice_get slots (length xs - 1) ≡ Some (Some c.in-Some-taken.marks) = ap (λ (t : ℕ). slice_get slots (t - 1)) (sym all) ∙ c.in-Some-taken.ensures.is in
    some_is c.in-Some-taken.marks (marks_at xs 4 0) (some_is _ _ (sym last ∙ root_slot xs slots r.0 r.1 r.2 r.3 held))

pub unreachable-requires-in_default-taken : goal.unreachable-requires-in_default-taken
unreachable-requires-in_default-taken g c =
    let xs = c.args.nodes.items in
    let slots = c.loop-place.slots.items in
    let place = c.loop-place.place in
    let past = c.loop-place-test.false in
    let all : c.len-total.result ≡ length xs = (let a = c.len-total.ensures in let b = c.args.nodes.ok.0 in omega arith) in
    let r = c.requires.root in
    let held : Slots xs 0 slots = subst (λ (k : ℕ). Slots xs k slots) (let z : length xs - place ≡ 0 = omega arith in z) c.loop-place.invariant.2 in
    let last : slice_get slots (length xs - 1) ≡ Some None = ap (λ (t : ℕ). slice_get slots (t - 1)) (sym all) ∙ c.in_default-taken.ensures.is in
    let both : Some None ≡ Some (Some (marks_at xs 4 0)) = sym last ∙ root_slot xs slots r.0 r.1 r.2 r.3 held in
    cc
