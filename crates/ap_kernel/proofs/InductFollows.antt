-- The clauses of an induction by a candidate prove the clause.
use Rattle.std.proofs.Common.{◌≡◌, true, true≢false, List, Option, Some, None, sym, subst}
use Rattle.ap_value.specs.declared.symbol.Symbol.{Symbol}
use Rattle.ap_term.specs.declared.term.Term.{Term, Call}
use Rattle.ap_term.specs.declared.term.Clause.{Clause}
use Rattle.ap_world.specs.declared.entry.Measure.{Measure}
use Rattle.ap_world.specs.declared.entry.Function.{Function}
use Rattle.ap_world.specs.declared.entry.Entry.{Entry}
use Rattle.ap_world.specs.Meaning.{Valid}
use Rattle.ap_world.specs.Sound.{known, HasFunctions, Sound}
use Rattle.ap_world.specs.World.{function_of, are_distinct}
use Rattle.ap_world.proofs.Knowing.{each_true, true_each, each_same, known_args}
use Rattle.ap_world.proofs.Given.{names_hold}
use Rattle.ap_kernel.specs.declared.reductions.Inference.{Inference}
use Rattle.ap_kernel.specs.Reductions.{KnownClause, Follows}
use Rattle.ap_kernel.specs.Splits.{and_then}
use Rattle.ap_kernel.specs.Induction.{places_of, induction_at, measured_leads, leads_induction, inducted, induct_made, InductionFollows}
use Rattle.ap_kernel.proofs.Splitting.{then_some}
use Rattle.ap_world.proofs.Lists.{each_map, map_each}
use Rattle.ap_kernel.proofs.Inducting.{sound_induct, known_induct}

pub induction_follows : InductionFollows
induction_follows W f g m sound functions here no_prim measure actuals call_known candidate c c_known =
    let us = known_args (function_of W) f actuals call_known in
    let cs = true_each (known (function_of W)) c.0 c_known in
    record {
      start = c_known;
      goals = map_each (KnownClause (function_of W)) (λ ts. record { 0 = ts }) (induction_at c.0 (places_of g.formals m.0 g.cases actuals) g.cases)
          (each_same (induction_at c.0 (places_of g.formals m.0 g.cases actuals) g.cases) (λ ts h. each_true (known (function_of W)) ts h)
          (known_induct W f g m sound functions here no_prim measure actuals us candidate c.0 cs));
      valid = λ vs. sound_induct W f g m sound functions here no_prim measure actuals candidate c.0 cs
          (each_map (λ (d : Clause). Valid (function_of W) d.0) (λ ts. record { 0 = ts }) (induction_at c.0 (places_of g.formals m.0 g.cases actuals) g.cases) vs);
    }

-- where the call has a candidate's conditions, there is an induction
pub can_induct : (o : Option Function) (c : Clause) (actuals : List Term) → leads_induction o actuals ≡ true → induct_made o c actuals ≡ None → ⊥
can_induct None c actuals h none = true≢false (sym h)
can_induct (Some g) c actuals h none = go g.measure h none
  where
    go : (o : Option Measure) → measured_leads g o actuals ≡ true → and_then o (λ (m : Measure). Some (inducted c g m actuals)) ≡ None → ⊥
    go None h none = true≢false (sym h)
    go (Some m) h none = cc

pub made_follows : (W : List Entry) → Sound W → are_distinct W ≡ true → HasFunctions (function_of W) → (f : Symbol) (actuals : List Term) (c : Clause) (r : Inference) → known (function_of W) (Call f actuals) ≡ true
    → leads_induction (function_of W f) actuals ≡ true → KnownClause (function_of W) c → induct_made (function_of W f) c actuals ≡ Some r → Follows (function_of W) r
made_follows W sound distinct functions f actuals c r call_known leads k h =
    let (g, here, by_measure) = then_some (function_of W f) (λ (g : Function). and_then g.measure (λ (m : Measure). Some (inducted c g m actuals))) r h in
    let (m, measure, made) = then_some g.measure (λ (m : Measure). Some (inducted c g m actuals)) r by_measure in
    let same : inducted c g m actuals ≡ r = cc in
    let by_function : leads_induction (Some g) actuals ≡ true = subst (λ o. leads_induction o actuals ≡ true) here leads in
    let candidate : measured_leads g (Some m) actuals ≡ true = subst (λ o. measured_leads g o actuals ≡ true) measure by_function in
    subst (Follows (function_of W)) {x = inducted c g m actuals} same
    (induction_follows W f g m sound functions here (names_hold W distinct f g here) measure actuals call_known candidate c k)
