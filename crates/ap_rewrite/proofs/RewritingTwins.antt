-- A level answers as another does where the levels below do.
use Rattle.std.proofs.Common.{◌≡◌, ℕ, suc, refl, Bool, true, false, Option, None, Some, List, [], ◌∷◌, map, unwrap_or, sym, ap, ◌∙◌, subst}
use Rattle.ap_list.specs.Lists.{Each}
use Rattle.ap_value.specs.declared.symbol.Symbol.{Symbol}
use Rattle.ap_value.specs.declared.value.Value.{Value}
use Rattle.ap_term.specs.declared.term.Term.{Term, Var, Quote, Call, out-Term}
use Rattle.ap_term.specs.declared.term.Term.TheOpen.{Term-F}
use Rattle.ap_term.proofs.Induction.{term_ind, para_var, para_quote, para_call}
use Rattle.ap_term.specs.Terms.{subst_of}
use Rattle.ap_world.specs.declared.entry.Function.{Function}
use Rattle.ap_world.specs.Shapes.{Shape, constant, choice, negation, equation, pair, other, Head, if_head, not_head, equal_head, cons_head, call_shape, head_of}
use Rattle.ap_kernel.specs.declared.objects.Mode.{Mode}
use Rattle.ap_kernel.specs.declared.objects.Mode.TheVariants.{Equal, Iff}
use Rattle.ap_kernel.specs.Equations.{equation_leads}
use Rattle.ap_kernel.specs.Opening.{body_at}
use Rattle.ap_term.specs.Metered.{mapped, first_that}
use Rattle.ap_term.specs.Matching.{Pairs, matched}
use Rattle.ap_world.specs.Rules.{Rule}
use Rattle.ap_rewrite.specs.Settings.{Setting, Place, Inner, under, closing}
use Rattle.ap_rewrite.specs.Relieving.{relieve}
use Rattle.ap_rewrite.specs.ByCost.{at_chain, Fits}
use Rattle.ap_rewrite.specs.Rewriting.{truth_of, shaped, negated, both, branches, rewrite_if, rewrite_not, rewrite_args, led, right, relieved, apply, try_rule, by_rules, Walk, walk_on, walk_shape, walk, open_instance, opened, tried, rewrite_call, rewrite_parts, rewrite_shape}
use Rattle.ap_rewrite.proofs.Twins.{Twin, AllTwin, twin_known, twin_after, twin_cond, twin_mapped, twin_first, each_twin}
use Rattle.ap_rewrite.proofs.RelievingTwins.{Alike, same_place, twin_relieve}
use Rattle.ap_rewrite.proofs.LinearTwins.{arithmetic_twin}

module _ (S : Setting) (r s : Inner) (N : ℕ) (w : Alike N r s) (c : ℕ) where
  inner : (o : Mode) (p : Place) (l : Fits (suc N) p.chain c) (u : Term) → Twin N (r o p u) (s o (at_chain c p) u)
  inner o p l u = same_place r s N w p c l o u

  twin_answered : (o : Mode) (p : Place) (l : Fits (suc N) p.chain c) (u : Term) → Twin N (λ n. mapped Some (r o p u n)) (λ n. mapped Some (s o (at_chain c p) u n))
  twin_answered o p l u = twin_mapped N Some (r o p u) (s o (at_chain c p) u) (inner o p l u)

  twin_both : (o : Mode) (q : Place) (l : Fits (suc N) q.chain c) (a b d : Term) → Twin N (both S r o q a b d) (both S s o (at_chain c q) a b d)
  twin_both o q l a b d = twin_after N (r o (under q a true) b) (s o (under (at_chain c q) a true) b) _ _ (inner o (under q a true) l b)
      (λ b'. twin_after N (r o (under q a false) d) (s o (under (at_chain c q) a false) d) _ _ (inner o (under q a false) l d) (λ d'. twin_known N ((shaped S o q.facts a b' d'))))

  twin_branches : (o : Mode) (p : Place) (l : Fits (suc N) p.chain c) (a : Term) (x : Option Bool) (b d : Term) → Twin N (branches S r o p a x b d) (branches S s o (at_chain c p) a x b d)
  twin_branches o p l a (Some true) b d = inner o p l b
  twin_branches o p l a (Some false) b d = inner o p l d
  twin_branches o p l a None b d = twin_both o p l a b d

  twin_if : (o : Mode) (p : Place) (l : Fits (suc N) p.chain c) (a b d : Term) → Twin N (rewrite_if S r o p a b d) (rewrite_if S s o (at_chain c p) a b d)
  twin_if o p l a b d = twin_after N (r Iff p a) (s Iff (at_chain c p) a) _ _ (inner Iff p l a) (λ a'. twin_branches o p l a' (truth_of a') b d)

  twin_not : (o : Mode) (p : Place) (l : Fits (suc N) p.chain c) (a : Term) → Twin N (rewrite_not S r o p a) (rewrite_not S s o (at_chain c p) a)
  twin_not o p l a = twin_after N (r Iff p a) (s Iff (at_chain c p) a) _ _ (inner Iff p l a) (λ a'. twin_known N ((negated S o p.facts a' (truth_of a'))))

  twin_args : (p : Place) (l : Fits (suc N) p.chain c) (us : List Term) → Twin N (rewrite_args S r p us) (rewrite_args S s (at_chain c p) us)
  twin_args p l [] = twin_known N ([])
  twin_args p l (u ∷ us) = twin_after N (r Equal p u) (s Equal (at_chain c p) u) _ _ (inner Equal p l u)
      (λ u'. twin_after N (rewrite_args S r p us) (rewrite_args S s (at_chain c p) us) _ _ (twin_args p l us) (λ us'. twin_known N ((u' ∷ us'))))

  twin_led : (o : Mode) (p : Place) (l : Fits (suc N) p.chain c) (x : Option Term) → Twin N (led S r o p x) (led S s o (at_chain c p) x)
  twin_led o p l None = twin_known N (None)
  twin_led o p l (Some u) = twin_cond N _ _ _ _ _ (twin_known N ((Some u))) (twin_answered o p l u)

  twin_right : (o : Mode) (p : Place) (l : Fits (suc N) p.chain c) (v : Term) → Twin N (right S r o p v) (right S s o (at_chain c p) v)
  twin_right o p l v = twin_cond N _ _ _ _ _ (twin_answered o p l v) (twin_known N (None))

  twin_relieved : (o : Mode) (p : Place) (l : Fits (suc N) p.chain c) (u : Term) (g : Rule) (x : Option Pairs) → Twin N (relieved S r o p u g x) (relieved S s o (at_chain c p) u g x)
  twin_relieved o p l u g None = twin_known N (None)
  twin_relieved o p l u g (Some q) = twin_cond N _ _ _ _ _ (twin_right o p l (subst_of q g.rhs)) (twin_known N (None))

  twin_apply : (o : Mode) (p : Place) (l : Fits (suc N) p.chain c) (u : Term) (g : Rule) (x : Option Pairs) → Twin N (apply S r o p u g x) (apply S s o (at_chain c p) u g x)
  twin_apply o p l u g None = twin_known N (None)
  twin_apply o p l u g (Some q) = twin_cond N _ _ _ _ _
      (twin_after N (relieve r p g.hyps q) (relieve s (at_chain c p) g.hyps q) (relieved S r o p u g) (relieved S s o (at_chain c p) u g) (twin_relieve r s N w p c l g.hyps q) (twin_relieved o p l u g))
      (twin_known N (None))

  twin_rule : (o : Mode) (p : Place) (l : Fits (suc N) p.chain c) (u : Term) (g : Rule) → Twin N (try_rule S r o p u g) (try_rule S s o (at_chain c p) u g)
  twin_rule o p l u g = twin_cond N _ _ _ _ _ (twin_apply o p l u g (matched g.lhs u [])) (twin_known N (None))

  twin_rules : (o : Mode) (p : Place) (l : Fits (suc N) p.chain c) (u : Term) → Twin N (by_rules S r o p u) (by_rules S s o (at_chain c p) u)
  twin_rules o p l u = twin_first N (map (try_rule S r o p u) S.rules) (map (try_rule S s o (at_chain c p) u) S.rules) (each_twin N (try_rule S r o p u) (try_rule S s o (at_chain c p) u) (twin_rule o p l u) S.rules)

  module _ (o : Mode) (p q : Place) (l : Fits (suc N) p.chain c) (m : Fits (suc N) q.chain c) where
    abbrev Here : Term → Walk
    Here = walk S r o p q

    abbrev There : Term → Walk
    There = walk S s o (at_chain c p) (at_chain c q)

    abbrev Met : Term → Type 0
    Met u = (taken : Bool) → Twin N (Here u taken) (There u taken)

    twin_on : (taken : Bool) (a : Term) (x : Option Bool) (b d : Term) → Met b → Met d
        → Twin N (walk_on S r o p q taken a x (b, Here b) (d, Here d)) (walk_on S s o (at_chain c p) (at_chain c q) taken a x (b, There b) (d, There d))
    twin_on taken a (Some true) b d mb md = mb true
    twin_on taken a (Some false) b d mb md = md true
    twin_on true a None b d mb md = twin_mapped N Some (both S r o q a b d) (both S s o (at_chain c q) a b d) (twin_both o q m a b d)
    twin_on false a None b d mb md = twin_known N (None)

    abbrev Shaped : Term → Bool → Shape (Term × Walk) → Shape (Term × Walk) → Type 0
    Shaped u taken y z = Twin N (walk_shape S r o p q u y taken) (walk_shape S s o (at_chain c p) (at_chain c q) u z taken)

    called : (h : Head) (ts : List Term) → Each Met ts → (u : Term) (taken : Bool)
        → Shaped u taken (call_shape h (map (λ t. (t, Here t)) ts)) (call_shape h (map (λ t. (t, There t)) ts))
    called if_head (a ∷ b ∷ d ∷ []) ms u taken = twin_after N (r Iff p a) (s Iff (at_chain c p) a) _ _ (inner Iff p l a) (λ a'. twin_on taken a' (truth_of a') b d ms.1.0 ms.1.1.0)
    called not_head (a ∷ []) ms u true = twin_answered o p l u
    called not_head (a ∷ []) ms u false = twin_known N (None)
    called equal_head (a ∷ b ∷ []) ms u true = twin_answered o p l u
    called equal_head (a ∷ b ∷ []) ms u false = twin_known N (None)
    called cons_head (a ∷ b ∷ []) ms u true = twin_answered o p l u
    called cons_head (a ∷ b ∷ []) ms u false = twin_known N (None)
    called h ts ms u true = twin_answered o p l u
    called h ts ms u false = twin_known N (None)

    plain : (u : Term) (taken : Bool) → Shaped u taken other other
    plain u true = twin_answered o p l u
    plain u false = twin_known N (None)

    quoted : (v : Value) (u : Term) (taken : Bool) → Shaped u taken (constant v) (constant v)
    quoted v u true = twin_answered o p l u
    quoted v u false = twin_known N (None)

    abbrev Both : Walk → Walk → Type 0
    Both x y = (taken : Bool) → Twin N (x taken) (y taken)

    firsts : (f : Term → Walk) (ts : List Term) → map (λ (z : Term × Walk). z.0) (map (λ t. (t, f t)) ts) ≡ ts
    firsts f [] = refl
    firsts f (t ∷ ts) = ap (λ z. t ∷ z) (firsts f ts)

    here_call : (f : Symbol) (ts : List Term) → Here (Call f ts) ≡ walk_shape S r o p q (Call f ts) (call_shape (head_of f) (map (λ t. (t, Here t)) ts))
    here_call f ts = para_call _ f ts ∙ ap (λ us. walk_shape S r o p q (Call f us) (call_shape (head_of f) (map (λ t. (t, Here t)) ts))) (firsts Here ts)

    there_call : (f : Symbol) (ts : List Term) → There (Call f ts) ≡ walk_shape S s o (at_chain c p) (at_chain c q) (Call f ts) (call_shape (head_of f) (map (λ t. (t, There t)) ts))
    there_call f ts = para_call _ f ts ∙ ap (λ us. walk_shape S s o (at_chain c p) (at_chain c q) (Call f us) (call_shape (head_of f) (map (λ t. (t, There t)) ts))) (firsts There ts)

    here_var : (x : Symbol) → Here (Var x) ≡ walk_shape S r o p q (Var x) other
    here_var x = para_var _ x

    there_var : (x : Symbol) → There (Var x) ≡ walk_shape S s o (at_chain c p) (at_chain c q) (Var x) other
    there_var x = para_var _ x

    here_quote : (v : Value) → Here (Quote v) ≡ walk_shape S r o p q (Quote v) (constant v)
    here_quote v = para_quote _ v

    there_quote : (v : Value) → There (Quote v) ≡ walk_shape S s o (at_chain c p) (at_chain c q) (Quote v) (constant v)
    there_quote v = para_quote _ v

    moved : (x x' y y' : Walk) → x ≡ x' → y ≡ y' → Both x' y' → Both x y
    moved x x' y y' e h b = subst (λ z. Both z y) (sym e) (subst (λ z. Both x' z) (sym h) b)

    pub twin_walk : (u : Term) → Met u
    twin_walk = term_ind Met at_var at_quote at_call
      where
        at_var : (x : Symbol) → Met (Var x)
        at_var x = moved _ _ _ _ (here_var x) (there_var x) (plain (Var x))

        at_quote : (v : Value) → Met (Quote v)
        at_quote v = moved _ _ _ _ (here_quote v) (there_quote v) (quoted v (Quote v))

        at_call : (f : Symbol) (ts : List Term) → Each Met ts → Met (Call f ts)
        at_call f ts ms = moved _ _ _ _ (here_call f ts) (there_call f ts) (called (head_of f) ts ms (Call f ts))

  twin_open : (o : Mode) (p : Place) (l : Fits (suc N) p.chain c) (u : Term) (f : Symbol) (g : Function) (v : Term) → Twin N (open_instance S r o p u f g v) (open_instance S s o (at_chain c p) u f g v)
  twin_open o p l u f g v = twin_cond N _ _ _ _ _ (twin_answered o p l v)
      (twin_cond N _ _ _ _ _ (twin_answered o (closing f p) l v) (twin_walk o p (closing f p) l l v false))

  twin_opened : (o : Mode) (p : Place) (l : Fits (suc N) p.chain c) (u : Term) (f : Symbol) (us : List Term) (x : Option Function) → Twin N (opened S r o p u f us x) (opened S s o (at_chain c p) u f us x)
  twin_opened o p l u f us None = twin_known N (None)
  twin_opened o p l u f us (Some g) = twin_cond N _ _ _ _ _ (twin_open o p l u f g (body_at g us)) (twin_known N (None))

  twin_tried : (o : Mode) (p : Place) (l : Fits (suc N) p.chain c) (f : Symbol) (us : List Term) → AllTwin N (tried S r o p f us) (tried S s o (at_chain c p) f us)
  twin_tried o p l f us = (twin_known N _, (twin_known N _, (twin_led o p l (equation_leads p.facts (Call f us)), (arithmetic_twin S r s N w p c l f us, (twin_rules o p l (Call f us), (twin_opened o p l (Call f us) f us (S.functions f), tt))))))

  twin_call : (o : Mode) (p : Place) (l : Fits (suc N) p.chain c) (f : Symbol) (us : List Term) → Twin N (rewrite_call S r o p f us) (rewrite_call S s o (at_chain c p) f us)
  twin_call o p l f us = twin_after N (rewrite_args S r p us) (rewrite_args S s (at_chain c p) us) _ _ (twin_args p l us)
      (λ us'. twin_mapped N (λ v. unwrap_or v (Call f us')) (first_that (tried S r o p f us')) (first_that (tried S s o (at_chain c p) f us')) (twin_first N (tried S r o p f us') (tried S s o (at_chain c p) f us') (twin_tried o p l f us')))

  twin_parts : (o : Mode) (p : Place) (l : Fits (suc N) p.chain c) (u : Term) (y : Term-F Term) → Twin N (rewrite_parts S r o p u y) (rewrite_parts S s o (at_chain c p) u y)
  twin_parts o p l u (Term-F.Var x) = twin_known N _
  twin_parts o p l u (Term-F.Quote v) = twin_known N _
  twin_parts o p l u (Term-F.Call f us) = twin_call o p l f us

  pub twin_shape : (o : Mode) (p : Place) (l : Fits (suc N) p.chain c) (u : Term) (y : Shape Term) → Twin N (rewrite_shape S r o p u y) (rewrite_shape S s o (at_chain c p) u y)
  twin_shape o p l u (choice a b d) = twin_if o p l a b d
  twin_shape o p l u (negation a) = twin_not o p l a
  twin_shape o p l u (constant v) = twin_parts o p l u (out-Term u)
  twin_shape o p l u (equation a b) = twin_parts o p l u (out-Term u)
  twin_shape o p l u (pair a b) = twin_parts o p l u (out-Term u)
  twin_shape o p l u other = twin_parts o p l u (out-Term u)
