-- A call whose arguments are rewritten, and on which is tried what is.
use Rattle.std.proofs.Common.{◌≡◌, ℕ, true, List, length, Option, Some, None, IfSome, unwrap_or, refl, sym, ap, ◌∙◌, subst}
use Rattle.std.specs.Option.{ForSome}
use Rattle.ap_value.specs.declared.symbol.Symbol.{Symbol}
use Rattle.ap_term.specs.declared.term.Term.{Term, Var, Quote, Call, out-Term}
use Rattle.ap_term.specs.declared.term.Term.TheOpen.{Term-F}
use Rattle.ap_term.specs.declared.term.Term.TheVariants.{outs-Var, outs-Quote, outs-Call}
use Rattle.ap_term.specs.declared.shape.Shape.{Shape}
use Rattle.ap_term.specs.declared.shape.Shape.TheVariants as shape
use Rattle.ap_term.specs.Shapes.{plain_of}
use Rattle.ap_term.specs.Metered.{after, mapped, first_that}
use Rattle.ap_world.specs.Meaning.{Defs}
use Rattle.ap_world.specs.World.{Shown}
use Rattle.ap_world.specs.Primitives.{prim_of}
use Rattle.ap_world.specs.Sound.{known, is_head}
use Rattle.ap_world.proofs.Knowing.{known_head}
use Rattle.ap_kernel.specs.declared.objects.Ctx.{Ctx}
use Rattle.ap_kernel.specs.declared.objects.Mode.{Mode}
use Rattle.ap_kernel.specs.declared.objects.Equiv.{Equiv}
use Rattle.ap_kernel.specs.Answers.{said, lefts}
use Rattle.ap_rewrite.specs.Settings.{Setting, Place, Inner}
use Rattle.ap_rewrite.specs.Rewriting.{rewrite_args, tried, rewrite_call}
use Rattle.ap_rewrite.specs.Answering.{From}
use Rattle.ap_rewrite.proofs.Froms.{from_at}
use Rattle.ap_rewrite.proofs.Arguments.{lefts_many}

module _ (S : Setting) (r : Inner) (o : Mode) (p : Place) (f : Symbol) (us : List Term) (n : ℕ) (vs : List Term) (k : ℕ) (args : Some (vs, k) ≡ rewrite_args S r p us n) (g : Symbol) (ws : List Term) (head : Call g ws ≡ Call f vs) where
  then_tried : rewrite_call S r o p f us n ≡ mapped (λ v. unwrap_or v (Call f vs)) (first_that (tried S r o p f vs) k)
  then_tried = ap (λ x. after x (λ us' n. mapped (λ v. unwrap_or v (Call f us')) (first_that (tried S r o p f us') n))) (sym args)

  same_tried : first_that (tried S r o p g ws) k ≡ first_that (tried S r o p f vs) k
  same_tried =
      let same : Term-F.Call g ws ≡ Term-F.Call f vs = sym (outs-Call g ws) ∙ ap out-Term head ∙ outs-Call f vs in
      let a : g ≡ f = cc in
      let b : ws ≡ vs = cc in
      rw (a, b) refl

  pub call_is : (x : Option Term) (m : ℕ) (v : Term) → Some (x, m) ≡ first_that (tried S r o p g ws) k → v ≡ unwrap_or x (Call f vs) → Some (v, m) ≡ rewrite_call S r o p f us n
  call_is x m v e h = ap (λ u. Some (u, m)) h ∙ ap (λ y. mapped (λ v. unwrap_or v (Call f vs)) y) (e ∙ same_tried) ∙ sym then_tried

  pub call_out : None ≡ first_that (tried S r o p g ws) k → None ≡ rewrite_call S r o p f us n
  call_out e = ap (λ y. mapped (λ v. unwrap_or v (Call f vs)) y) (e ∙ same_tried) ∙ sym then_tried

-- the steps ran out in an argument
pub arguments_out : (S : Setting) (r : Inner) (o : Mode) (p : Place) (f : Symbol) (us : List Term) (n : ℕ) → None ≡ rewrite_args S r p us n → None ≡ rewrite_call S r o p f us n
arguments_out S r o p f us n e = rw (← e) refl

-- the call's head takes as many as its arguments lead to
pub head_takes : (D : Defs) (f : Symbol) (us : List Term) (qs : List Equiv) → known D (Call f us) ≡ true → lefts (said qs) ≡ us → is_head D f (prim_of f) (length qs) ≡ true
head_takes D f us qs k e = subst (λ n. is_head D f (prim_of f) n ≡ true) (sym (ap length e) ∙ lefts_many qs) (known_head D f us k)

-- from the term itself
pub each_from : (w : Shown) (o : Mode) (c : Ctx) (x a : Term) (b : Option Equiv) → x ≡ a → IfSome b (From w o c x) → ForSome b (From w o c a)
each_from w o c x a b e h = λ q i. from_at w o c x a q e (subst (λ b. IfSome b (From w o c x)) i h)

-- what contracts see as a call, code sees as one
pub seen_as_call : (s : Shape) (f : Symbol) (us : List Term) → plain_of s ≡ Call f us → ((g : Symbol) (vs : List Term) → s ≡ shape.Call g vs → ⊥) → ⊥
seen_as_call (shape.Var x) f us is other =
    let e : Term-F.Var x ≡ Term-F.Call f us = sym (outs-Var x) ∙ ap out-Term is ∙ outs-Call f us in
    absurd cc
seen_as_call (shape.Quote v) f us is other =
    let e : Term-F.Quote v ≡ Term-F.Call f us = sym (outs-Quote v) ∙ ap out-Term is ∙ outs-Call f us in
    absurd cc
seen_as_call (shape.Call g vs) f us is other = other g vs refl
