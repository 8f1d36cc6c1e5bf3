-- The clause follows from those of the induction that is chosen, and these are few.
use Rattle.std.proofs.Common.{◌≡◌, ◌≤◌, ℕ, nat_le, Bool, true, false, List, [], ◌∷◌, map, length, Option, Some, None, IfSome, refl, ap, sym, ◌∙◌, subst, arith}
use Rattle.std.proofs.lemmas.Bool.{leb-true}
use Rattle.std.proofs.Math.ListN.{length-map}
use Rattle.std.specs.Option.{option_map, ForSome}
use Rattle.ap_value.specs.declared.symbol.Symbol.{Symbol}
use Rattle.ap_value.specs.declared.value.Value.{Value}
use Rattle.ap_term.specs.declared.term.Term.{Term, roll-Term, roll-out-Term, out-Term, Call}
use Rattle.ap_term.specs.declared.term.Term.TheOpen.{Term-F}
use Rattle.ap_term.specs.declared.term.Term.TheVariants.{rolls-Call}
use Rattle.ap_term.specs.declared.term.Clause.{Clause}
use Rattle.ap_world.specs.declared.entry.Measure.{Measure}
use Rattle.ap_world.specs.declared.entry.Function.{Function}
use Rattle.ap_world.specs.declared.entry.Entry.{Entry}
use Rattle.ap_world.specs.Theories.{ShownTheory}
use Rattle.ap_world.specs.Meaning.{Defs}
use Rattle.ap_world.specs.Sound.{known, HasFunctions, Sound}
use Rattle.ap_world.specs.World.{function_of, are_distinct}
use Rattle.ap_kernel.specs.declared.reductions.Inference.{Inference}
use Rattle.ap_kernel.specs.Reductions.{KnownClause, Follows}
use Rattle.ap_kernel.specs.Splits.{and_then}
use Rattle.ap_kernel.specs.Induction.{pairs_of, moved_at, places_of, induction_at, inducted, induct_made}
use Rattle.ap_kernel.proofs.Splitting.{then_some}
use Rattle.ap_kernel.proofs.InductFollows.{made_follows}
use Rattle.ap_induct.specs.Choosing.{clause_count, chosen, induction_by, scheme_by, scheme_of}
use Rattle.ap_induct.proofs.Leading.{IsChosen, has_few, chosen_leads}
use Rattle.ap_induct.proofs.Counted.{induction_count}

-- an induction is of the clause, and has as many clauses as are counted
pub record IsInduction (c : Clause) (o : Option Function) (i : Inference) : Type 0 where
  pub start : i.from ≡ c
  pub few : has_few o (length c.0) ≡ true → length i.to ≤ 1024

made_is : (o : Option Function) (c : Clause) (actuals : List Term) (i : Inference) → induct_made o c actuals ≡ Some i → IsInduction c o i
made_is None c actuals i h = cc
made_is (Some g) c actuals i h =
    let (m, measure, made) = then_some g.measure (λ (m : Measure). Some (inducted c g m actuals)) i h in
    let same : inducted c g m actuals ≡ i = cc in
    subst (IsInduction c (Some g)) {x = inducted c g m actuals} same (record { start = refl; few = few m })
  where
    as_clause : List Term → Clause
    as_clause ts = record { 0 = ts }

    few : (m : Measure) → nat_le (clause_count (length c.0) g.cases) 1024 ≡ true → length (inducted c g m actuals).to ≤ 1024
    few m h =
        let ps = places_of g.formals m.0 g.cases actuals in
        let a = length-map (induction_at c.0 ps g.cases) as_clause in
        let b = induction_count c.0 (pairs_of ps) (moved_at (pairs_of ps) ps) g.cases in
        let d = leb-true (clause_count (length c.0) g.cases) 1024 h in
        omega arith

-- the induction that is chosen, as the kernel makes it
pub record IsScheme (D : Defs) (c : Clause) (p : Term × Inference) : Type 0 where
  pub symbol : Symbol
  pub actuals : List Term
  pub chosen : IsChosen D (length c.0) symbol actuals
  pub made : induct_made (D symbol) c actuals ≡ Some p.1

level_is : (u : Term) (y : Term-F Term) → out-Term u ≡ y → u ≡ roll-Term y
level_is u y h = sym (roll-out-Term u) ∙ ap roll-Term h

pub scheme_is : (D : Defs) (h : ShownTheory) (c : Clause) (o : Option Term) (p : Term × Inference) → KnownClause D c → ForSome o (λ u. known D u ≡ true) → scheme_of D h c o ≡ Some p → IsScheme D c p
scheme_is D h c o p k hint e =
    let (u, chose, by) = then_some (chosen D h c.0 o) (scheme_by D c) p e in
    go u chose (out-Term u) refl by
  where
    same_pair : (x y : Term × Inference) → Some x ≡ Some y → x ≡ y
    same_pair x y l = cc

    made_of : (u : Term) (i : Option Inference) (a : Option Inference) → a ≡ i → option_map (λ (i : Inference). (u, i)) i ≡ Some p → a ≡ Some p.1
    made_of u None a q l = cc
    made_of u (Some i) a q l = q ∙ ap (λ (x : Term × Inference). Some x.1) (same_pair (u, i) p l)

    go : (u : Term) → chosen D h c.0 o ≡ Some u → (y : Term-F Term) → out-Term u ≡ y → option_map (λ (i : Inference). (u, i)) (induction_by D c y) ≡ Some p → IsScheme D c p
    go u chose (Term-F.Call f us) q l =
        let is : u ≡ Call f us = level_is u (Term-F.Call f us) q ∙ rolls-Call f us in
        record {
          symbol = f;
          actuals = us;
          chosen = chosen_leads D h c.0 o f us k hint (chose ∙ ap Some is);
          made = made_of u (induct_made (D f) c us) (induct_made (D f) c us) refl l;
        }
    go u chose (Term-F.Var x) q l = cc
    go u chose (Term-F.Quote v) q l = cc

given : {A : Type 0} (o : Option A) (P : A → Type 0) → IfSome o P → ForSome o P
given None P h x q = cc
given (Some y) P h x q = let same : y ≡ x = cc in subst P same h

pub scheme_follows : (W : List Entry) → Sound W → are_distinct W ≡ true → HasFunctions (function_of W) → (h : ShownTheory) (c : Clause) (o : Option Term) (p : Term × Inference) → KnownClause (function_of W) c
    → IfSome o (λ u. known (function_of W) u ≡ true) → scheme_of (function_of W) h c o ≡ Some p → (p.1.from ≡ c) × Follows (function_of W) p.1
scheme_follows W sound distinct functions h c o p k hint e =
    let s = scheme_is (function_of W) h c o p k (given o (λ u. known (function_of W) u ≡ true) hint) e in (
      (made_is (function_of W s.symbol) c s.actuals p.1 s.made).start,
      made_follows W sound distinct functions s.symbol s.actuals c p.1 s.chosen.call s.chosen.leads k s.made,
    )

pub scheme_few : (D : Defs) (h : ShownTheory) (c : Clause) (o : Option Term) (p : Term × Inference) → KnownClause D c → IfSome o (λ u. known D u ≡ true) → scheme_of D h c o ≡ Some p → length p.1.to ≤ 1024
scheme_few D h c o p k hint e =
    let s = scheme_is D h c o p k (given o (λ u. known D u ≡ true) hint) e in
    (made_is (D s.symbol) c s.actuals p.1 s.made).few s.chosen.few
