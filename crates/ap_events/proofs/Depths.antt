-- What nested events come to at a depth, by what the form holds.
use Rattle.std.proofs.Common.{◌≡◌, ℕ, zero, suc, ◌-◌, ◌<◌, Result, Ok, Err, IfOk, refl, ap, sym, ◌∙◌, subst, sub-one, arith}
use Rattle.ap_reader.specs.declared.form.Form.{Form}
use Rattle.ap_world.specs.World.{Shown}
use Rattle.ap_plain.specs.declared.end.Outcome.{Outcome}
use Rattle.ap_plain.specs.Ends.{Done, Did}
use Rattle.ap_events.specs.Nested.{Leaf, Nesting, nesting_of, too_deep, again_in, agains, first_in, firsts}

pub agains_none : (again : Leaf) (n : ℕ) (f : Form) (w : Shown) → n ≡ 0 → agains again n f w ≡ too_deep f
unfolding agains
agains_none again n f w is = ap (λ k. agains again k f w) is

pub firsts_none : (first again : Leaf) (n : ℕ) (f : Form) (w : Shown) → n ≡ 0 → firsts first again n f w ≡ too_deep f
unfolding firsts
firsts_none first again n f w is = ap (λ k. firsts first again k f w) is

pub agains_at : (again : Leaf) (n : ℕ) (f : Form) (w : Shown) (k : Nesting) → 0 < n → k ≡ nesting_of f → agains again n f w ≡ again_in again (agains again (n - 1)) f w k
unfolding agains
agains_at again zero f w k some is = absurd (omega arith)
agains_at again (suc n) f w k some is =
    let less : n ≡ suc n - 1 = omega arith in
    ap (again_in again (agains again n) f w) (sym is) ∙ ap (λ m. again_in again (agains again m) f w k) less

pub firsts_at : (first again : Leaf) (n : ℕ) (f : Form) (w : Shown) (k : Nesting) → 0 < n → k ≡ nesting_of f
    → firsts first again n f w ≡ first_in first (firsts first again (n - 1)) (agains again (n - 1)) f w k
unfolding firsts
firsts_at first again zero f w k some is = absurd (omega arith)
firsts_at first again (suc n) f w k some is =
    let less : n ≡ suc n - 1 = omega arith in
    ap (first_in first (firsts first again n) (agains again n) f w) (sym is) ∙ ap (λ m. first_in first (firsts first again m) (agains again m) f w k) less

-- a call that did what is the same
pub did_is : {E : Type 0} (r : Result Outcome E) (d e : Done) (w v : Shown) → d ≡ e → IfOk r (Did e w v) → IfOk r (Did d w v)
did_is r d e w v same h = subst (λ x. IfOk r (Did x w v)) (sym same) h
