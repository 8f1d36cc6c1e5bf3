-- What a rewriting costs doesn't depend on the steps that are left.
use Rattle.std.proofs.Common.{ℕ, zero, suc, Bool, true, false, Option, None, Some, List, [], ◌∷◌, ◌++◌, map, unwrap_or, sym, subst}
use Rattle.ap_list.specs.Lists.{Each}
use Rattle.ap_value.specs.declared.symbol.Symbol.{Symbol}
use Rattle.ap_value.specs.declared.value.Value.{Value}
use Rattle.ap_term.specs.declared.term.Term.{Term, Var, Quote, Call, out-Term}
use Rattle.ap_term.specs.declared.term.Term.TheOpen.{Term-F}
use Rattle.ap_term.proofs.Induction.{term_ind, para_var, para_quote, para_call}
use Rattle.ap_term.specs.Terms.{subst_of}
use Rattle.ap_world.specs.declared.entry.Function.{Function}
use Rattle.ap_world.specs.Shapes.{Shape, constant, choice, negation, equation, pair, other, Head, if_head, not_head, equal_head, cons_head, shape_of, call_shape, head_of, is_constant}
use Rattle.ap_kernel.specs.declared.objects.Mode.{Mode}
use Rattle.ap_kernel.specs.declared.objects.Mode.TheVariants.{Equal, Iff}
use Rattle.ap_kernel.specs.Equations.{equation_leads}
use Rattle.ap_kernel.specs.Opening.{body_at}
use Rattle.ap_term.specs.Metered.{mapped, first_that}
use Rattle.ap_term.specs.Matching.{Pairs, matched}
use Rattle.ap_world.specs.Rules.{Rule}
use Rattle.ap_rewrite.specs.Costs.{Metered}
use Rattle.ap_rewrite.specs.Settings.{Setting, Place, Inner, under, closing}
use Rattle.ap_rewrite.specs.Relieving.{relieve}
use Rattle.ap_rewrite.specs.Rewriting.{truth_of, both, branches, rewrite_if, rewrite_not, rewrite_args, led, right, relieved, apply, try_rule, by_rules, Walk, walk_on, walk_shape, walk, open_instance, opened, tried, rewrite_call, rewrite_parts, rewrite_shape, rewrite_to}
use Rattle.ap_rewrite.specs.Literals.{beside, rewrite_literal}
use Rattle.ap_rewrite.specs.Laws.{LiteralsAreMetered}
use Rattle.ap_rewrite.proofs.Costs.{metered_known, metered_after, metered_cond, metered_spend, metered_mapped, metered_first, each_metered}
use Rattle.ap_rewrite.proofs.RelievingCosts.{AllMetered, metered_relieve}
use Rattle.ap_rewrite.proofs.LinearCosts.{arithmetic_metered}

module _ (S : Setting) (r : Inner) (mr : AllMetered r) where
  metered_answered : (o : Mode) (p : Place) (u : Term) → Metered (λ n. mapped Some (r o p u n))
  metered_answered o p u = metered_mapped Some (r o p u) (mr o p u)

  metered_both : (o : Mode) (q : Place) (a b c : Term) → Metered (both S r o q a b c)
  metered_both o q a b c = metered_after (r o (under q a true) b) _ (mr o (under q a true) b)
      (λ b'. metered_after (r o (under q a false) c) _ (mr o (under q a false) c) (λ c'. metered_known _))

  metered_branches : (o : Mode) (p : Place) (a : Term) (x : Option Bool) (b c : Term) → Metered (branches S r o p a x b c)
  metered_branches o p a (Some true) b c = mr o p b
  metered_branches o p a (Some false) b c = mr o p c
  metered_branches o p a None b c = metered_both o p a b c

  metered_if : (o : Mode) (p : Place) (a b c : Term) → Metered (rewrite_if S r o p a b c)
  metered_if o p a b c = metered_after (r Iff p a) _ (mr Iff p a) (λ a'. metered_branches o p a' (truth_of a') b c)

  metered_not : (o : Mode) (p : Place) (a : Term) → Metered (rewrite_not S r o p a)
  metered_not o p a = metered_after (r Iff p a) _ (mr Iff p a) (λ a'. metered_known _)

  metered_args : (p : Place) (us : List Term) → Metered (rewrite_args S r p us)
  metered_args p [] = metered_known []
  metered_args p (u ∷ us) = metered_after (r Equal p u) _ (mr Equal p u) (λ u'. metered_after (rewrite_args S r p us) _ (metered_args p us) (λ us'. metered_known _))

  metered_led : (o : Mode) (p : Place) (x : Option Term) → Metered (led S r o p x)
  metered_led o p None = metered_known None
  metered_led o p (Some u) = metered_cond _ _ _ (metered_known _) (metered_answered o p u)

  metered_right : (o : Mode) (p : Place) (v : Term) → Metered (right S r o p v)
  metered_right o p v = metered_cond _ _ _ (metered_answered o p v) (metered_known None)

  metered_relieved : (o : Mode) (p : Place) (u : Term) (g : Rule) (x : Option Pairs) → Metered (relieved S r o p u g x)
  metered_relieved o p u g None = metered_known None
  metered_relieved o p u g (Some s) = metered_cond _ _ _ (metered_right o p (subst_of s g.rhs)) (metered_known None)

  metered_apply : (o : Mode) (p : Place) (u : Term) (g : Rule) (x : Option Pairs) → Metered (apply S r o p u g x)
  metered_apply o p u g None = metered_known None
  metered_apply o p u g (Some s) = metered_cond _ _ _
      (metered_after (relieve r p g.hyps s) (relieved S r o p u g) (metered_relieve r mr p g.hyps s) (metered_relieved o p u g))
      (metered_known None)

  metered_rule : (o : Mode) (p : Place) (u : Term) (g : Rule) → Metered (try_rule S r o p u g)
  metered_rule o p u g = metered_cond _ _ _ (metered_apply o p u g (matched g.lhs u [])) (metered_known None)

  metered_rules : (o : Mode) (p : Place) (u : Term) → Metered (by_rules S r o p u)
  metered_rules o p u = metered_first (map (try_rule S r o p u) (S.rules)) (each_metered Metered (try_rule S r o p u) (metered_rule o p u) (S.rules))

  module _ (o : Mode) (p q : Place) where
    abbrev AllWalks : Walk → Type 0
    AllWalks w = (taken : Bool) → Metered (w taken)

    metered_on : (taken : Bool) (a : Term) (x : Option Bool) (b c : Term × Walk) → AllWalks b.1 → AllWalks c.1 → Metered (walk_on S r o p q taken a x b c)
    metered_on taken a (Some true) b c mb mc = mb true
    metered_on taken a (Some false) b c mb mc = mc true
    metered_on true a None b c mb mc = metered_mapped Some (both S r o q a b.0 c.0) (metered_both o q a b.0 c.0)
    metered_on false a None b c mb mc = metered_known None

    abbrev Walks : Shape (Term × Walk) → Type 0
    Walks (choice a b c) = AllWalks b.1 × AllWalks c.1
    Walks y = Unit {0}

    metered_walk_shape : (u : Term) (y : Shape (Term × Walk)) → Walks y → AllWalks (walk_shape S r o p q u y)
    metered_walk_shape u (choice a b c) h taken = metered_after (r Iff p a.0) (λ a'. walk_on S r o p q taken a' (truth_of a') b c) (mr Iff p a.0) (λ a'. metered_on taken a' (truth_of a') b c h.0 h.1)
    metered_walk_shape u (constant v) h true = metered_answered o p u
    metered_walk_shape u (constant v) h false = metered_known None
    metered_walk_shape u (negation a) h true = metered_answered o p u
    metered_walk_shape u (negation a) h false = metered_known None
    metered_walk_shape u (equation a b) h true = metered_answered o p u
    metered_walk_shape u (equation a b) h false = metered_known None
    metered_walk_shape u (pair a b) h true = metered_answered o p u
    metered_walk_shape u (pair a b) h false = metered_known None
    metered_walk_shape u other h true = metered_answered o p u
    metered_walk_shape u other h false = metered_known None

    abbrev Met : Term → Type 0
    Met u = AllWalks (walk S r o p q u)

    walks_call : (h : Head) (ts : List Term) → Each Met ts → Walks (call_shape h (map (λ u. (u, walk S r o p q u)) ts))
    walks_call if_head (a ∷ b ∷ c ∷ []) ms = (ms.1.0, ms.1.1.0)
    walks_call not_head (a ∷ []) ms = tt
    walks_call equal_head (a ∷ b ∷ []) ms = tt
    walks_call cons_head (a ∷ b ∷ []) ms = tt
    walks_call h ts ms = tt

    pub metered_walk : (u : Term) → Met u
    metered_walk = term_ind Met variable quoted called
      where
        variable : (x : Symbol) → Met (Var x)
        variable x = subst AllWalks (sym (para_var _ x)) (metered_walk_shape (Var x) other tt)

        quoted : (v : Value) → Met (Quote v)
        quoted v = subst AllWalks (sym (para_quote _ v)) (metered_walk_shape (Quote v) (constant v) tt)

        called : (f : Symbol) (ts : List Term) → Each Met ts → Met (Call f ts)
        called f ts ms = subst AllWalks (sym (para_call _ f ts)) (metered_walk_shape _ (call_shape (head_of f) (map (λ u. (u, walk S r o p q u)) ts)) (walks_call (head_of f) ts ms))

  metered_open : (o : Mode) (p : Place) (u : Term) (f : Symbol) (g : Function) (v : Term) → Metered (open_instance S r o p u f g v)
  metered_open o p u f g v = metered_cond _ _ _ (metered_answered o p v)
      (metered_cond _ _ _ (metered_answered o (closing f p) v) (metered_walk o p (closing f p) v false))

  metered_opened : (o : Mode) (p : Place) (u : Term) (f : Symbol) (us : List Term) (x : Option Function) → Metered (opened S r o p u f us x)
  metered_opened o p u f us None = metered_known None
  metered_opened o p u f us (Some g) = metered_cond _ _ _ (metered_open o p u f g (body_at g us)) (metered_known None)

  metered_tried : (o : Mode) (p : Place) (f : Symbol) (us : List Term) → Each Metered (tried S r o p f us)
  metered_tried o p f us = (metered_known _, (metered_known _, (metered_led o p (equation_leads p.facts (Call f us)), (arithmetic_metered S r mr p f us, (metered_rules o p (Call f us), (metered_opened o p (Call f us) f us (S.functions f), tt))))))

  metered_call : (o : Mode) (p : Place) (f : Symbol) (us : List Term) → Metered (rewrite_call S r o p f us)
  metered_call o p f us = metered_after (rewrite_args S r p us) _ (metered_args p us)
      (λ us'. metered_mapped (λ v. unwrap_or v (Call f us')) (first_that (tried S r o p f us')) (metered_first (tried S r o p f us') (metered_tried o p f us')))

  metered_parts : (o : Mode) (p : Place) (u : Term) (y : Term-F Term) → Metered (rewrite_parts S r o p u y)
  metered_parts o p u (Term-F.Var x) = metered_known _
  metered_parts o p u (Term-F.Quote v) = metered_known _
  metered_parts o p u (Term-F.Call f us) = metered_call o p f us

  metered_shape : (o : Mode) (p : Place) (u : Term) (y : Shape Term) → Metered (rewrite_shape S r o p u y)
  metered_shape o p u (choice a b c) = metered_if o p a b c
  metered_shape o p u (negation a) = metered_not o p a
  metered_shape o p u (constant v) = metered_parts o p u (out-Term u)
  metered_shape o p u (equation a b) = metered_parts o p u (out-Term u)
  metered_shape o p u (pair a b) = metered_parts o p u (out-Term u)
  metered_shape o p u other = metered_parts o p u (out-Term u)

-- a term, by recursion on the levels
pub metered : (S : Setting) (d : ℕ) → AllMetered (rewrite_to S d)
unfolding rewrite_to
metered S zero o p u = metered_spend _ (metered_known u)
metered S (suc d) o p u = metered_spend _ (metered_shape S (rewrite_to S d) (metered S d) o p u (shape_of u))

-- the literals of a clause
pub literals_metered : LiteralsAreMetered
literals_metered S done [] = metered_known (Some done)
literals_metered S done (u ∷ rest) = metered_after (rewrite_literal S done rest u) _ (metered S 200 Iff (beside done rest) u)
    (λ v. metered_cond (is_constant true v) _ _ (metered_known None) (literals_metered S (done ++ v ∷ []) rest))
