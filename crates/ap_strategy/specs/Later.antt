-- The processes behind simplification keep what a clause says: it is valid where the few clauses are that they
-- make.
use Rattle.std.proofs.Common.{◌≡◌, ◌≤◌, Bool, true, false, cond, List, [], length, Option, Some, None, option_map, refl, subst, arith}
use Rattle.ap_value.specs.declared.symbol.Symbol.{Symbol}
use Rattle.ap_term.specs.declared.term.Term.{Term}
use Rattle.ap_term.specs.declared.term.Clause.{Clause}
use Rattle.ap_world.specs.Clauses.{not_of}
use Rattle.ap_world.specs.Meaning.{Defs, Total}
use Rattle.ap_world.specs.Sound.{Sound, HasFunctions}
use Rattle.ap_world.specs.Theories.{ShownTheory}
use Rattle.ap_walk.specs.declared.act.Process.{Process}
use Rattle.ap_kernel.specs.declared.reductions.Inference.{Inference}
use Rattle.ap_kernel.specs.Eliminating.{consp_term, taken_apart, without_first, elim_goals, eliminated}
use Rattle.ap_kernel.specs.Reductions.{KnownClause, Follows}
use Rattle.ap_kernel.specs.Standing.{DefinesNot}
use Rattle.ap_kernel.proofs.Eliminated.{eliminated_follows}
use Rattle.ap_kernel.proofs.Splitting.{then_some}
use Rattle.ap_types.proofs.KeptHolds.{types_mask}
use Rattle.ap_elim.specs.Eliminating.{taken, elim_made}
use Rattle.ap_elim.proofs.Taken.{taken_are_new}
use Rattle.ap_weaken.specs.Fertilize.{fertilize_made}
use Rattle.ap_weaken.specs.Generalize.{generalize_made}
use Rattle.ap_weaken.specs.Irrelevance.{irrelevance_made}
use Rattle.ap_weaken.specs.Laws.{LeavesOne}
use Rattle.ap_weaken.proofs.Followed.{fertilize_follows, generalize_follows, irrelevance_follows}
use Rattle.ap_strategy.specs.Goals.{Goal, defs_of}
use Rattle.ap_strategy.specs.Steps.{or_later, is_skipped, made_by, applied, by_elim, by_fertilize, by_generalize, by_irrelevance, later, reduced_to}

-- what is so of what each process makes is so of what the first one makes
of_applied : (g : Goal) (q : Process) (o : Option Inference) (Q : Process × List Clause → Type 0) → ((i : Inference) → o ≡ Some i → Q (made_by q i)) → (p : Process × List Clause) → applied g q o ≡ Some p → Q p
of_applied g q o Q h p e = go (is_skipped g q) e
  where
    of_some : (o : Option Inference) → ((i : Inference) → o ≡ Some i → Q (made_by q i)) → option_map (made_by q) o ≡ Some p → Q p
    of_some None h l = cc
    of_some (Some i) h l = let same : made_by q i ≡ p = cc in subst Q same (h i refl)

    go : (b : Bool) → cond b None (option_map (made_by q) o) ≡ Some p → Q p
    go true l = cc
    go false l = of_some o h l

first_or_later : {A : Type 0} (o m : Option A) (a : A) (Q : A → Type 0) → (o ≡ Some a → Q a) → (m ≡ Some a → Q a) → or_later o m ≡ Some a → Q a
first_or_later None m a Q h k e = k e
first_or_later (Some b) m a Q h k e = h e

pub of_later : (g : Goal) (Q : Process × List Clause → Type 0) → ((i : Inference) → elim_made g.settings.theory g.clause ≡ Some i → Q (made_by Process.Elim i))
    → ((i : Inference) → fertilize_made g.clause ≡ Some i → Q (made_by Process.Fertilize i)) → ((i : Inference) → generalize_made g.plan.world g.clause ≡ Some i → Q (made_by Process.Generalize i))
    → ((i : Inference) → irrelevance_made g.clause ≡ Some i → Q (made_by Process.Irrelevance i)) → (p : Process × List Clause) → later g ≡ Some p → Q p
of_later g Q elims fertilizes generalizes leaves p e =
    first_or_later (by_elim g) (or_later (by_fertilize g) (or_later (by_generalize g) (by_irrelevance g))) p Q (of_applied g Process.Elim (elim_made g.settings.theory g.clause) Q elims p)
    (first_or_later (by_fertilize g) (or_later (by_generalize g) (by_irrelevance g)) p Q (of_applied g Process.Fertilize (fertilize_made g.clause) Q fertilizes p)
    (first_or_later (by_generalize g) (by_irrelevance g) p Q (of_applied g Process.Generalize (generalize_made g.plan.world g.clause) Q generalizes p)
    (of_applied g Process.Irrelevance (irrelevance_made g.clause) Q leaves p)))
    e

-- elimination leads from the clause to one or two
goals_few : (s : List (Term × Term)) (v : Symbol) (ts : List Term) (o : Option (List Term)) → length (elim_goals s v ts o) ≤ 2
goals_few s v ts None = omega arith
goals_few s v ts (Some rest) = omega arith

pub record Makes (D : Defs) (c : Clause) (ds : List Clause) : Type 0 where
  pub few : length ds ≤ 2
  pub follows : Follows D (reduced_to c ds)

elim_makes : (D : Defs) → Total D → DefinesNot D → (h : ShownTheory) (c : Clause) (i : Inference) → KnownClause D c → elim_made h c ≡ Some i → Makes D c i.to
elim_makes D total grounded h c i k e =
    let (p, found, made) = then_some (taken h c.0) (λ (p : Symbol × Symbol × Symbol). Some (eliminated c p.0 p.1 p.2)) i e in
    let same : eliminated c p.0 p.1 p.2 ≡ i = cc in
    let new = taken_are_new h c.0 p found in
    let by : Follows D (eliminated c p.0 p.1 p.2) = eliminated_follows D total grounded c p.0 p.1 p.2 k new.first new.second new.apart in
    let made : Makes D c (eliminated c p.0 p.1 p.2).to = record { few = few p; follows = by } in
    subst (λ (j : Inference). Makes D c j.to) {x = eliminated c p.0 p.1 p.2} same made
  where
    few : (p : Symbol × Symbol × Symbol) → length (eliminated c p.0 p.1 p.2).to ≤ 2
    few p = goals_few (taken_apart p.0 p.1 p.2) p.0 c.0 (without_first (not_of (consp_term p.0)) c.0)

one_made : (D : Defs) (c : Clause) (i : Inference) → LeavesOne D c i → Makes D c i.to
one_made D c i l = record {
  few = one_few l.one;
  follows = subst (λ (d : Clause). Follows D (reduced_to d i.to)) l.start l.follows;
}
  where
    one_few : length i.to ≡ 1 → length i.to ≤ 2
    one_few q = omega arith

pub later_makes : (g : Goal) → DefinesNot (defs_of g.plan) → HasFunctions (defs_of g.plan) → Sound g.plan.world.entries → KnownClause (defs_of g.plan) g.clause → (p : Process × List Clause) → later g ≡ Some p
    → Makes (defs_of g.plan) g.clause p.1
later_makes g grounded functions sound k p e =
    of_later g (λ p. Makes (defs_of g.plan) g.clause p.1) (λ i q. elim_makes (defs_of g.plan) sound.total grounded g.settings.theory g.clause i k q)
    (λ i q. one_made (defs_of g.plan) g.clause i (fertilize_follows (defs_of g.plan) sound.total grounded g.clause k i q))
    (λ i q. one_made (defs_of g.plan) g.clause i (generalize_follows g.plan.world sound.total functions (λ t kt. types_mask g.plan.world sound grounded [] t tt kt) g.clause k i q))
    (λ i q. one_made (defs_of g.plan) g.clause i (irrelevance_follows (defs_of g.plan) sound.total g.clause k i q)) p e
