-- The trigger of each linear rule of a world is a call.
use Rattle.std.proofs.Common.{◌≡◌, ℕ, ◌+◌, Bool, true, false, cond, ◌&&◌, List, [], ◌∷◌, Option, Some, None, refl, subst}
use Rattle.ap_list.specs.Lists.{Each, is_within}
use Rattle.ap_value.specs.declared.symbol.Symbol.{Symbol}
use Rattle.ap_value.specs.Values.{symbol_eq}
use Rattle.ap_value.proofs.Equals.{both}
use Rattle.ap_term.specs.declared.term.Term.{Term, out-Term}
use Rattle.ap_term.specs.Terms.{vars_after}
use Rattle.ap_poly.specs.Bounds.{first_atoms}
use Rattle.ap_world.specs.declared.entry.Entry.{Entry}
use Rattle.ap_world.specs.declared.entry.Entry.TheVariants as entry
use Rattle.ap_world.specs.Clauses.{conjuncts}
use Rattle.ap_world.specs.Rules.{stated}
use Rattle.ap_kernel.proofs.Reduced.{each_append}
use Rattle.ap_rules.specs.Linear.{linear_part, linear_from, linear_of_term, linear_in_entry, all_linear}
use Rattle.ap_rules.specs.Shapes.{is_call, is_trigger, first_trigger, trigger_of, told, is_linear, all_inequalities}
use Rattle.ap_rewrite.proofs.LinearUsed.{Triggered}

first_called : (u : Term) (xs : List Term) (x : Term) → first_trigger u xs ≡ Some x → is_call (out-Term x) ≡ true
first_called u [] x e = cc
first_called u (y ∷ ys) x e = go (is_trigger u y) refl e (first_called u ys x)
  where
    go : (b : Bool) → is_trigger u y ≡ b → cond b (Some y) (first_trigger u ys) ≡ Some x → (first_trigger u ys ≡ Some x → is_call (out-Term x) ≡ true) → is_call (out-Term x) ≡ true
    go true q h later =
        let same : y ≡ x = cc in
        subst (λ z. is_call (out-Term z) ≡ true) same (both (is_call (out-Term y)) (is_within symbol_eq (vars_after u []) (vars_after y [])) q).0
    go false q h later = later h

part_triggered : (name : Symbol) (hs : List Term) (i : ℕ) (u : Term) (o : Option Term) → trigger_of u ≡ o → Each Triggered (linear_part name hs i u o)
part_triggered name hs i u None e = tt
part_triggered name hs i u (Some x) e = (first_called u (first_atoms (told u)) x e, tt)

from_triggered : (name : Symbol) (hs : List Term) (i : ℕ) (us : List Term) → Each Triggered (linear_from name hs i us)
from_triggered name hs i [] = tt
from_triggered name hs i (u ∷ us) = each_append Triggered (linear_part name hs i u (trigger_of u)) (linear_from name hs (i + 1) us)
    (part_triggered name hs i u (trigger_of u) refl) (from_triggered name hs (i + 1) us)

entry_triggered : (y : Entry) → Each Triggered (linear_in_entry y)
entry_triggered (entry.Theorem u) = go (is_linear u.classes && all_inequalities (conjuncts (stated u.term).1))
  where
    go : (b : Bool) → Each Triggered (cond b (linear_of_term u.name u.term) [])
    go true = from_triggered u.name (stated u.term).0 0 (conjuncts (stated u.term).1)
    go false = tt
entry_triggered y = tt

pub all_triggered : (W : List Entry) → Each Triggered (all_linear W)
all_triggered [] = tt
all_triggered (y ∷ ys) = each_append Triggered (linear_in_entry y) (all_linear ys) (entry_triggered y) (all_triggered ys)
