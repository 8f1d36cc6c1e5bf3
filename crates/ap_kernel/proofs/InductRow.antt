-- The kernel's row, at places: where these are good for each call, the induction's clauses prove the clause.
use Rattle.std.proofs.Common.{◌≡◌, true, List, [], map, zip, length, Some, None, refl, sym, subst}
use Rattle.ap_list.specs.Lists.{Each, all_true, is_distinct}
use Rattle.ap_value.specs.Values.{symbol_eq}
use Rattle.ap_term.specs.declared.term.Term.{Term}
use Rattle.ap_term.specs.Terms.{vars_after}
use Rattle.ap_world.specs.declared.entry.Function.{Function}
use Rattle.ap_world.specs.Primitives.{prim_of}
use Rattle.ap_world.specs.Meaning.{Defs, Total, Valid}
use Rattle.ap_world.specs.Recursion.{falling_obligations}
use Rattle.ap_world.specs.Sound.{known, HasFunctions, IsRecursive}
use Rattle.ap_world.proofs.Knowing.{each_same}
use Rattle.ap_world.proofs.TotalMeaning.{models, true_held}
use Rattle.ap_world.proofs.Starting.{val_not}
use Rattle.ap_world.proofs.Extending.{extends_self}
use Rattle.ap_kernel.specs.Induction.{Place, moved_names, moved_at, formals_of, actuals_of, pairs_of, induction, induction_at}
use Rattle.ap_world.proofs.Natural.{natural_from}
use Rattle.ap_world.proofs.Grounded.{has_not, has_natp}
use Rattle.ap_kernel.proofs.InductBy.{Moves, induct_valid}
use Rattle.ap_kernel.proofs.Moving.{GoodPlace, is_measured_at, zip_pairs, moves_call}

-- what the places are for a call
pub record GoodCall (ps : List Place) (call : List Term) : Type 0 where
  pub as_many : length ps ≡ length call
  pub places : Each (λ r. GoodPlace (moved_names ps) r.0 r.1) (zip ps call)

pub induct_row : (D : Defs) → Total D → HasFunctions D → (f : Function) → D f.name ≡ Some f → prim_of f.name ≡ None → known D f.body ≡ true
    → (m : List Term) → IsRecursive D f m
    → (ps : List Place) → formals_of ps ≡ f.formals → is_distinct symbol_eq (moved_names ps) ≡ true → Each (λ u. Each (λ x. is_measured_at ps x ≡ true) (vars_after u [])) m
    → Each (λ k. Each (GoodCall ps) k.calls) f.cases
    → (c : List Term) → all_true (map (known D) c) ≡ true
    → Each (Valid D) (induction_at c ps f.cases) → Valid D c
induct_row D total functions f is no_prim body m good ps formals apart measured calls c c_known valid e =
    let (A, ms) = models D total in
    true_held D A ms e c c_known
    (induct_valid D f.name f (record { extends = extends_self D; only = λ x h. refl; here = is; no_prim = no_prim }) A ms (val_not D A ms (has_not D functions)) body good.unnested m
    (natural_from D A ms (has_not D functions) (has_natp D functions) m good.natural) c (actuals_of ps) (moved_at (pairs_of ps) ps)
    (subst (λ ks. Each (Valid D) (falling_obligations f.formals m ks)) good.cases good.falls) (subst (λ ks. Each (λ k. Each (Moves f.formals (actuals_of ps) (moved_at (pairs_of ps) ps) m) k.calls) ks) good.cases moves)
    (subst (λ ks. Each (Valid D) (induction c (zip f.formals (actuals_of ps)) (moved_at (pairs_of ps) ps) ks)) good.cases
    (subst (λ fs. Each (Valid D) (induction c (zip fs (actuals_of ps)) (moved_at (pairs_of ps) ps) f.cases)) formals
    (subst (λ s. Each (Valid D) (induction c s (moved_at (pairs_of ps) ps) f.cases)) (sym (zip_pairs ps)) valid))) e)
  where
    one : (call : List Term) → GoodCall ps call → Moves f.formals (actuals_of ps) (moved_at (pairs_of ps) ps) m call
    one call g = subst (λ fs. Moves fs (actuals_of ps) (moved_at (pairs_of ps) ps) m call) formals (moves_call ps call g.as_many apart g.places m measured)

    moves : Each (λ k. Each (Moves f.formals (actuals_of ps) (moved_at (pairs_of ps) ps) m) k.calls) f.cases
    moves = each_same f.cases (λ k g. each_same k.calls one g) calls
