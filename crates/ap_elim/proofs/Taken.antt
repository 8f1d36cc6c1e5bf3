-- The names that elimination takes are new, and not the same.
use Rattle.std.proofs.Common.{◌≡◌, Bool, true, false, cond, ◌||◌, List, ◌∷◌, Some, None, refl, sym, ap, ◌∙◌, subst}
use Rattle.ap_value.specs.declared.symbol.Symbol.{Symbol}
use Rattle.ap_value.specs.Values.{symbol_eq}
use Rattle.ap_term.specs.declared.term.Term.{Term, Var}
use Rattle.ap_term.proofs.Induction.{fold_var}
use Rattle.ap_world.specs.declared.theory.RuneKind.TheVariants.{Elim}
use Rattle.ap_world.specs.Theories.{ShownTheory, rune_of, is_enabled}
use Rattle.ap_kernel.specs.Eliminating.{eliminated}
use Rattle.ap_kernel.specs.Splits.{and_then}
use Rattle.ap_kernel.specs.Solving.{occurs_step, occurs, occurs_in}
use Rattle.ap_kernel.proofs.Splitting.{then_some}
use Rattle.ap_elim.specs.Naming.{new_name}
use Rattle.ap_elim.specs.Eliminating.{car_cdr_elim_name, destructed, with_second, with_new, taken}
use Rattle.ap_elim.specs.Laws.{ElimApplies}
use Rattle.ap_elim.proofs.Named.{new_is_new, names_are_found}

-- what the kernel's row asks of the new names
pub record AreNew (ts : List Term) (p : Symbol × Symbol × Symbol) : Type 0 where
  pub first : occurs_in p.1 ts ≡ false
  pub second : occurs_in p.2 ts ≡ false
  pub apart : symbol_eq p.2 p.1 ≡ false

or_parts : (x y : Bool) → (x || y) ≡ false → (x ≡ false) × (y ≡ false)
or_parts true y h = cc
or_parts false y h = (refl, h)

new_are_new : (ts : List Term) (v : Symbol) (p : Symbol × Symbol × Symbol) → with_new ts v ≡ Some p → AreNew ts p
new_are_new ts v p h =
    let (a, found, next) = then_some (new_name v.name ts) (with_second ts v) p h in
    let (b, other, last) = then_some (new_name v.name (Var a ∷ ts)) (λ b. Some (v, a, b)) p next in
    let same : (v, a, b) ≡ p = cc in
    let q = or_parts (occurs b (Var a)) (occurs_in b ts) (new_is_new v.name (Var a ∷ ts) b other) in
    let made : AreNew ts (v, a, b) = record { first = new_is_new v.name ts a found; second = q.1; apart = sym (fold_var (occurs_step b) a) ∙ q.0 } in
    subst (AreNew ts) same made

pub taken_are_new : (h : ShownTheory) (ts : List Term) (p : Symbol × Symbol × Symbol) → taken h ts ≡ Some p → AreNew ts p
taken_are_new h ts p is = go (is_enabled h (rune_of Elim car_cdr_elim_name)) is
  where
    go : (b : Bool) → cond b (and_then (destructed ts) (with_new ts)) None ≡ Some p → AreNew ts p
    go true q = let (v, found, next) = then_some (destructed ts) (with_new ts) p q in new_are_new ts v p next
    go false q = cc

pub both_new : (ts : List Term) (v a b : Symbol) → new_name v.name ts ≡ Some a → new_name v.name (Var a ∷ ts) ≡ Some b → with_new ts v ≡ Some (v, a, b)
both_new ts v a b p q = ap (λ o. and_then o (with_second ts v)) p ∙ ap (λ o. and_then o (λ b. Some (v, a, b))) q

-- it applies where its variable is found
pub elim_applies : ElimApplies
elim_applies h c v on found few more =
    let (a, first) = names_are_found v.name c.0 few in
    let (b, second) = names_are_found v.name (Var a ∷ c.0) (more a) in
    let made : taken h c.0 ≡ Some (v, a, b) = ap (λ x. cond x (and_then (destructed c.0) (with_new c.0)) None) on ∙ ap (λ o. and_then o (with_new c.0)) found ∙ both_new c.0 v a b first second in
    (eliminated c v a b, ap (λ o. and_then o (λ (p : Symbol × Symbol × Symbol). Some (eliminated c p.0 p.1 p.2))) made)
