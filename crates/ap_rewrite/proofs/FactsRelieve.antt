-- Hypotheses that facts relieve: what is shown of their instances, under the pairs that come of it and under more.
use Rattle.std.proofs.Common.{Bor, ◌≡◌, IfSome, length, Bool, true, false, List, [], ◌∷◌, map, Option, None, Some, is_some, slice_get, ℕ, refl, sym, ap, ◌∙◌, subst}
use Rattle.ap_list.specs.Lists.{Each, all_true, lookup_by}
use Rattle.ap_value.specs.declared.symbol.Symbol.{Symbol}
use Rattle.ap_value.specs.declared.value.Value.{Value}
use Rattle.ap_value.specs.Values.{symbol_eq}
use Rattle.ap_value.proofs.Equals.{both, and_true, symbol_eq-same}
use Rattle.ap_term.specs.declared.term.Subst.{Subst}
use Rattle.ap_term.specs.declared.term.Term.{Term, Var, Quote, Call}
use Rattle.ap_term.specs.Terms.{subst_of}
use Rattle.ap_term.specs.Matching.{Pairs, matched, Extends, is_bound, bound_step}
use Rattle.ap_term.proofs.Induction.{term_ind, fold_var, fold_quote, fold_call}
use Rattle.ap_term.proofs.Matches.{bound_alike, match_gives}
use Rattle.ap_world.specs.Clauses.{not_of}
use Rattle.ap_world.specs.Names.{not_name}
use Rattle.ap_world.specs.Meaning.{Defs}
use Rattle.ap_world.specs.Sound.{known, is_head}
use Rattle.ap_world.specs.Primitives.{prim_of}
use Rattle.ap_world.specs.World.{Shown, function_of}
use Rattle.ap_world.specs.Recursion.{nil_constant, t_constant}
use Rattle.ap_world.specs.Holding.{KnownPairs}
use Rattle.ap_world.specs.Facts.{Facts, KnownFacts}
use Rattle.ap_world.specs.Shapes.{shape_of}
use Rattle.ap_world.proofs.Knowing.{known_quote, known_head}
use Rattle.ap_world.proofs.Written.{subst_call}
use Rattle.ap_world.proofs.Instances.{match_fits}
use Rattle.ap_kernel.specs.declared.objects.Ctx.{Ctx}
use Rattle.ap_kernel.specs.declared.objects.Equiv.{Equiv}
use Rattle.ap_kernel.specs.declared.objects.Sequent.{Sequent}
use Rattle.ap_kernel.specs.declared.objects.Mode.TheVariants.{Equal}
use Rattle.ap_kernel.specs.Answers.{fact_made, ModeFits, IsArgument, said, cong_made}
use Rattle.ap_world.specs.declared.shapes.ShapeRef.{ShapeRef}
use Rattle.ap_world.specs.declared.shapes.ShapeRef.TheVariants as lent
use Rattle.ap_world.specs.Lent.{seen}
use Rattle.ap_kernel.specs.Standing.{DefinesNot, Stands}
use Rattle.ap_kernel.proofs.ChoicesStand.{known_not}
use Rattle.ap_kernel.proofs.Typed.{each_at}
use Rattle.ap_rewrite.specs.declared.facts.Matched.{Matched}
use Rattle.ap_rewrite.specs.declared.facts.Relieved.{Relieved}
use Rattle.ap_rewrite.specs.Leading.{leads_made}
use Rattle.ap_rewrite.specs.Relieved.{MatchedAt, Relieves, RelievedFrom}
use Rattle.ap_rewrite.specs.Relieving.{by_facts, by_sign}

-- where every variable of a term has a pair, it has one among more pairs
bound_more : (s z : Pairs) (u : Term) → Extends s z → is_bound s u ≡ true → is_bound z u ≡ true
bound_more s z u more = term_ind Goal variable quoted call u
  where
    Goal : Term → Type 0
    Goal u = is_bound s u ≡ true → is_bound z u ≡ true

    same : (x : Symbol) (o : Option Term) → lookup_by symbol_eq s x ≡ o → is_some o ≡ true → is_some (lookup_by symbol_eq z x) ≡ true
    same x None q h = cc
    same x (Some t) q h = ap is_some (more x t q)

    variable : (x : Symbol) → Goal (Var x)
    variable x h = fold_var (bound_step z) x ∙ same x (lookup_by symbol_eq s x) refl (rw (fold_var (bound_step s) x) at h)

    quoted : (v : Value) → Goal (Quote v)
    quoted v h = fold_quote (bound_step z) v

    args : (ts : List Term) → Each Goal ts → all_true (map (is_bound s) ts) ≡ true → all_true (map (is_bound z) ts) ≡ true
    args [] es h = refl
    args (t ∷ ts) es h =
        let p = both (is_bound s t) (all_true (map (is_bound s) ts)) h in
        and_true (is_bound z t) (all_true (map (is_bound z) ts)) (es.0 p.0) (args ts es.1 p.1)

    call : (f : Symbol) (ts : List Term) → Each Goal ts → Goal (Call f ts)
    call f ts es h = fold_call (bound_step z) f ts ∙ args ts es (rw (fold_call (bound_step s) f ts) at h)

-- what is relieved under pairs is relieved under more
pub relieves_more : (w : Shown) (c : Ctx) (h : Term) (s z : Pairs) (q : Equiv) → Extends s z → Relieves w c h s q → Relieves w c h z q
relieves_more w c h s z q more r = record {
  stands = r.stands;
  leads = record {
    facts = r.leads.facts;
    left = r.leads.left ∙ sym (bound_alike s z h more r.bound);
    right = r.leads.right;
  };
  bound = bound_more s z h more r.bound;
}

-- what a match gives, of a pattern that is matched with the fact at a place
pub record Found (w : Shown) (h : Term) (s z : Pairs) (u : Term) : Type 0 where
  pub known : KnownPairs (function_of w.entries) z
  pub extends : Extends s z
  pub bound : is_bound z h ≡ true
  pub instance : subst_of z h ≡ u

pub fact_found : (w : Shown) (fs : Facts) (i : ℕ) (u : Term) (b : Bool) (h : Term) (s z : Pairs) → KnownFacts (function_of w.entries) fs → KnownPairs (function_of w.entries) s
    → slice_get fs i ≡ Some (u, b) → matched h u s ≡ Some z → Found w h s z u
fact_found w fs i u b h s z fk ks at m =
    let u_known : known (function_of w.entries) u ≡ true = each_at (λ (f : Term × Bool). known (function_of w.entries) f.0 ≡ true) fs i (u, b) fk at in
    let fits = match_fits (function_of w.entries) h u s z u_known ks m in
    let under = (match_gives h u s z m).under z (λ x t e. e) in
    record { known = fits.1; extends = fits.0; bound = under.0; instance = under.1 }

-- by a true fact that it matches
pub by_true_relieves : (w : Shown) (c : Ctx) (h : Term) (s : Pairs) (u : Term) (r : Relieved) → Found w h s r.pairs.0 u → Stands w r.shown → r.shown.says.ctx ≡ c
    → r.shown.says.lhs ≡ u → r.shown.says.rhs ≡ t_constant → RelievedFrom w c h s r
by_true_relieves w c h s u r found stands facts left right = record {
  relieves = record {
    stands = stands;
    leads = record { facts = facts; left = left ∙ sym found.instance; right = right };
    bound = found.bound;
  };
  known = found.known;
  extends = found.extends;
}

-- for a negation by a false fact that its argument matches
pub by_false_relieves : (w : Shown) (c : Ctx) (a : Term) (s : Pairs) (u : Term) (r : Relieved) → Found w a s r.pairs.0 u → Stands w r.shown → r.shown.says.ctx ≡ c
    → r.shown.says.lhs ≡ not_of u → r.shown.says.rhs ≡ t_constant → RelievedFrom w c (not_of a) s r
by_false_relieves w c a s u r found stands facts left right = record {
  relieves = record {
    stands = stands;
    leads = record {
      facts = facts;
      left = left ∙ ap not_of (sym found.instance) ∙ sym (subst_call r.pairs.0 not_name (a ∷ []));
      right = right;
    };
    bound = fold_call (bound_step r.pairs.0) not_name (a ∷ []) ∙ and_true (is_bound r.pairs.0 a) true found.bound refl;
  };
  known = found.known;
  extends = found.extends;
}

-- a hypothesis that is no negation is relieved by a true fact
pub by_sign_other : (h : Term) (r : ShapeRef) → seen r ≡ shape_of h → ((x : Bor Term) → r ≡ lent.Not x → ⊥) → (s : Pairs) (fs : Facts) → by_sign h (shape_of h) s fs ≡ by_facts h true s fs
by_sign_other h (lent.Not x) q n s fs = absurd (n x refl)
by_sign_other h (lent.Constant v) q n s fs = ap (λ y. by_sign h y s fs) (sym q)
by_sign_other h (lent.If x y z) q n s fs = ap (λ y. by_sign h y s fs) (sym q)
by_sign_other h (lent.Equal x y) q n s fs = ap (λ y. by_sign h y s fs) (sym q)
by_sign_other h (lent.Cons x y) q n s fs = ap (λ y. by_sign h y s fs) (sym q)
by_sign_other h lent.Other q n s fs = ap (λ y. by_sign h y s fs) (sym q)

-- what is said of the fact at a place
pub fact_said : (c : Ctx) (o : Option (Term × Bool)) (u : Term) (b : Bool) (q : Sequent) → o ≡ Some (u, b) → IfSome o (λ f. q ≡ fact_made c f.0 f.1) → q ≡ fact_made c u b
fact_said c None u b q h k = cc
fact_said c (Some f) u b q h k = let same : f ≡ (u, b) = cc in k ∙ ap (λ (f : Term × Bool). fact_made c f.0 f.1) same

pub true_shown : (w : Shown) (c : Ctx) (h : Term) (s : Pairs) (m : Matched) (r : Relieved) → KnownFacts (function_of w.entries) c.0 → KnownPairs (function_of w.entries) s → MatchedAt c.0 h true s m
    → r.pairs ≡ m.pairs → Stands w r.shown → IfSome (slice_get c.0 m.place) (λ f. r.shown.says ≡ fact_made c f.0 f.1) → RelievedFrom w c h s r
true_shown w c h s m r fk ks found same stands said =
    let found_here : Found w h s m.pairs.0 found.fact = fact_found w c.0 m.place found.fact true h s m.pairs.0 fk ks found.at found.found in
    let says : r.shown.says ≡ fact_made c found.fact true = fact_said c (slice_get c.0 m.place) found.fact true r.shown.says found.at said in
    by_true_relieves w c h s found.fact r (subst (λ (z : Subst). Found w h s z.0 found.fact) (sym same) found_here) stands
    (ap (λ (q : Sequent). q.ctx) says) (ap (λ (q : Sequent). q.lhs) says) (ap (λ (q : Sequent). q.rhs) says)

pub false_shown : (w : Shown) (c : Ctx) (a : Term) (s : Pairs) (m : Matched) (q : Sequent) (r : Relieved) → KnownFacts (function_of w.entries) c.0 → KnownPairs (function_of w.entries) s → MatchedAt c.0 a false s m
    → r.pairs ≡ m.pairs → Stands w r.shown → IfSome (slice_get c.0 m.place) (λ f. q ≡ fact_made c f.0 f.1) → r.shown.says ≡ leads_made c Equal (not_of q.lhs) t_constant → RelievedFrom w c (not_of a) s r
false_shown w c a s m q r fk ks found same stands said says =
    let found_here : Found w a s m.pairs.0 found.fact = fact_found w c.0 m.place found.fact false a s m.pairs.0 fk ks found.at found.found in
    let fact : q ≡ fact_made c found.fact false = fact_said c (slice_get c.0 m.place) found.fact false q found.at said in
    by_false_relieves w c a s found.fact r (subst (λ (z : Subst). Found w a s z.0 found.fact) (sym same) found_here) stands
    (ap (λ (q : Sequent). q.ctx) says) (ap (λ (q : Sequent). q.lhs) says ∙ ap (λ (q : Sequent). not_of q.lhs) fact) (ap (λ (q : Sequent). q.rhs) says)

-- the argument of a negation, as the row on calls is handed it
pub not_args : (w : Shown) (c : Ctx) (q : Equiv) (f : Symbol) (args : List Equiv) → f ≡ not_name → args ≡ q ∷ [] → Stands w q → q.says.ctx ≡ c → Each (IsArgument w c f) args
not_args w c q f args p h stands facts = subst (Each (IsArgument w c f)) (sym h) (record { stands = stands; fits = record { facts = facts; mode = fits } }, tt)
  where
    fits : ModeFits (symbol_eq f not_name) q.says.mode
    fits = subst (λ b. ModeFits b q.says.mode) (sym (ap (λ g. symbol_eq g not_name) p ∙ symbol_eq-same not_name)) tt

pub not_head : (D : Defs) → DefinesNot D → (f : Symbol) (q : Equiv) (args : List Equiv) → f ≡ not_name → args ≡ q ∷ [] → is_head D f (prim_of f) (length args) ≡ true
not_head D ground f q args p h =
    let one : is_head D not_name (prim_of not_name) 1 ≡ true = known_head D not_name (nil_constant ∷ []) (known_not D ground nil_constant (known_quote D _)) in
    subst (λ qs. is_head D f (prim_of f) (length qs) ≡ true) (sym h) (subst (λ g. is_head D g (prim_of g) 1 ≡ true) (sym p) one)

pub not_said : (c : Ctx) (q : Equiv) (f : Symbol) (args : List Equiv) (s : Sequent) → f ≡ not_name → args ≡ q ∷ [] → s ≡ cong_made c f (said args) → s ≡ leads_made c Equal (not_of q.says.lhs) (not_of q.says.rhs)
not_said c q f args s p h k =
    k ∙ ap (λ qs. cong_made c f (said qs)) h ∙ ap (λ g. cong_made c g (said (q ∷ []))) p
