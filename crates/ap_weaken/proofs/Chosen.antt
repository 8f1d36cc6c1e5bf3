-- The call that is chosen is a term of the world, and there is a generalization by it.
use Rattle.std.proofs.Common.{◌≡◌, nat_le, Bool, true, false, cond, List, [], ◌∷◌, Option, Some, None, ap, sym, ◌∙◌, subst}
use Rattle.ap_list.specs.Lists.{Each}
use Rattle.ap_value.specs.declared.symbol.Symbol.{Symbol}
use Rattle.ap_term.specs.declared.term.Term.{Term, out-Term}
use Rattle.ap_term.specs.declared.term.Clause.{Clause}
use Rattle.ap_term.specs.Terms.{term_size}
use Rattle.ap_world.specs.declared.entry.Mask.{Mask}
use Rattle.ap_world.specs.Meaning.{Defs}
use Rattle.ap_world.specs.Sound.{known}
use Rattle.ap_world.specs.World.{Shown}
use Rattle.ap_kernel.specs.declared.reductions.Inference.{Inference}
use Rattle.ap_kernel.specs.Generalising.{generalised}
use Rattle.ap_kernel.specs.Splits.{and_then}
use Rattle.ap_induct.specs.Choosing.{calls_among}
use Rattle.ap_induct.proofs.Leading.{among_known}
use Rattle.ap_elim.specs.Naming.{new_name}
use Rattle.ap_elim.proofs.Named.{names_are_found}
use Rattle.ap_weaken.specs.Generalize.{may_generalise, smaller, smallest, chosen, letter_of, mask_in, generalised_at}
use Rattle.ap_weaken.specs.Laws.{GeneralizeApplies}

-- what holds of each of some terms holds of the smallest
pub smallest_holds : (P : Term → Type 0) (test : Term → Bool) (ts : List Term) (t : Term) → Each P ts → smallest test ts ≡ Some t → P t
smallest_holds P test [] t hs h = cc
smallest_holds P test (u ∷ us) t hs h = go (test u) (smallest test us) (smallest_holds P test us t hs.1) h
  where
    this : Some u ≡ Some t → P t
    this l = let same : u ≡ t = cc in subst P same hs.0

    pick : (b : Bool) (v : Term) → (Some v ≡ Some t → P t) → cond b (Some u) (Some v) ≡ Some t → P t
    pick true v later l = this l
    pick false v later l = later l

    best : (o : Option Term) → (o ≡ Some t → P t) → smaller u o ≡ Some t → P t
    best None later l = this l
    best (Some v) later l = pick (nat_le (term_size u) (term_size v)) v later l

    go : (b : Bool) (o : Option Term) → (o ≡ Some t → P t) → cond b (smaller u o) o ≡ Some t → P t
    go true o later l = best o later l
    go false o later l = later l

pub chosen_known : (D : Defs) (w : Shown) (ts : List Term) (t : Term) → Each (λ u. known D u ≡ true) ts → chosen w ts ≡ Some t → known D t ≡ true
chosen_known D w ts t ks h = smallest_holds (λ u. known D u ≡ true) (may_generalise w ts) (calls_among ts) t (among_known D ts ks) h

-- it applies where its call is found
pub generalize_applies : GeneralizeApplies
generalize_applies w c t found few =
    let (v, name) = names_are_found (letter_of (out-Term t) ∷ []) c.0 few in
    (generalised c t v (mask_in w t), ap (λ o. and_then o (generalised_at w c)) found ∙ ap (λ o. and_then o (λ v. Some (generalised c t v (mask_in w t)))) name)

-- a generalization by its parts, with the clause lent and copied
pub generalised_is : (w : Shown) (c : Clause) (lent copied : List Term) (t : Term) (v : Symbol) (m : Mask) (i : Inference) → lent ≡ c.0 → copied ≡ c.0
    → new_name (letter_of (out-Term t) ∷ []) lent ≡ Some v → m ≡ mask_in w t → i ≡ generalised (record { 0 = copied }) t v m → generalised_at w c t ≡ Some i
generalised_is w c lent copied t v m i same copy name mask is =
    ap (λ us. and_then (new_name (letter_of (out-Term t) ∷ []) us) by) (sym same)
    ∙ ap (λ o. and_then o by) name
    ∙ ap Some (sym (is ∙ ap (λ us. generalised (record { 0 = us }) t v m) copy ∙ ap (generalised c t v) mask))
  where
    by : Symbol → Option Inference
    by v = Some (generalised c t v (mask_in w t))
