-- The rules of a call's head are all that can be applied to the call: a search over them gives what one over all gives.
use Rattle.std.proofs.Common.{◌≡◌, ℕ, Bool, true, false, cond, ◌&&◌, [], ◌∷◌, List, map, Option, Some, None, refl, sym, ap, ◌∙◌}
use Rattle.ap_value.specs.declared.symbol.Symbol.{Symbol}
use Rattle.ap_term.specs.declared.term.Term.{Term, Call, out-Term}
use Rattle.ap_term.specs.declared.term.Term.TheOpen.{Term-F}
use Rattle.ap_term.specs.declared.term.Term.TheVariants.{outs-Call}
use Rattle.ap_term.proofs.Induction.{OutSays, out_says, fold_call}
use Rattle.ap_world.specs.declared.theory.Rune.TheVariants as rune
use Rattle.ap_world.specs.Theories.{is_enabled}
use Rattle.ap_kernel.specs.declared.objects.Mode.{Mode}
use Rattle.ap_term.specs.Metered.{Got, By, known, after, or_else, first_that}
use Rattle.ap_term.specs.Matching.{Pairs, match_step, matched}
use Rattle.ap_world.specs.Rules.{Rule}
use Rattle.ap_rewrite.specs.Settings.{Setting, Place, Inner}
use Rattle.ap_rewrite.specs.Rewriting.{fits_mode, apply, try_rule, by_rules}
use Rattle.ap_rules.specs.Indexed.{kept, may_begin, begins, rules_for}
use Rattle.ap_rewrite.specs.Laws.{SearchByHead}

module _ {R A : Type 0} (try : R → By (Option A)) (test : R → Bool) (skips : (g : R) → test g ≡ false → (n : ℕ) → try g n ≡ known None n) where
  pub by_index : (gs : List R) (n : ℕ) → first_that (map try (kept test gs)) n ≡ first_that (map try gs) n
  by_index [] n = refl
  by_index (g ∷ gs) n = go (test g) refl (λ m. by_index gs m)
    where
      each : (m : ℕ) → first_that (map try (kept test gs)) m ≡ first_that (map try gs) m → (o : Option A)
          → or_else o (first_that (map try (kept test gs))) m ≡ or_else o (first_that (map try gs)) m
      each m more None = more
      each m more (Some a) = refl

      rest : ((m : ℕ) → first_that (map try (kept test gs)) m ≡ first_that (map try gs) m) → (x : Got (Option A))
          → after x (λ o. or_else o (first_that (map try (kept test gs)))) ≡ after x (λ o. or_else o (first_that (map try gs)))
      rest more None = refl
      rest more (Some p) = each p.1 (more p.1) p.0

      go : (b : Bool) → test g ≡ b → ((m : ℕ) → first_that (map try (kept test gs)) m ≡ first_that (map try gs) m)
          → first_that (map try (cond b (g ∷ kept test gs) (kept test gs))) n ≡ first_that (map try (g ∷ gs)) n
      go true q more = rest more (try g n)
      go false q more = more n ∙ sym (ap (λ x. after x (λ o. or_else o (first_that (map try gs)))) (skips g q n))

apart : (f : Symbol) (us : List Term) (l : Term) (y : Term-F Term) → OutSays l y → may_begin f y ≡ false → matched l (Call f us) [] ≡ None
apart f us l (Term-F.Call h ls) q e = rw (q, fold_call match_step h ls, outs-Call f us, e) refl
apart f us l (Term-F.Var x) q e = cc
apart f us l (Term-F.Quote v) q e = cc

module _ (S : Setting) (r : Inner) (o : Mode) (p : Place) (f : Symbol) (us : List Term) where
  skips : (g : Rule) → begins f g ≡ false → (n : ℕ) → try_rule S r o p (Call f us) g n ≡ known None n
  skips g h n = go (is_enabled S.theory (rune.Rewrite g.theorem) && fits_mode o g) (matched g.lhs (Call f us) []) (apart f us g.lhs (out-Term g.lhs) (out_says g.lhs) h)
    where
      go : (b : Bool) (x : Option Pairs) → x ≡ None → cond b (apply S r o p (Call f us) g x n) (known None n) ≡ known None n
      go true None q = refl
      go true (Some s) q = cc
      go false x q = refl

  by_head : (n : ℕ) → first_that (map (try_rule S r o p (Call f us)) (rules_for f S.rules)) n ≡ by_rules S r o p (Call f us) n
  by_head n = by_index (try_rule S r o p (Call f us)) (begins f) skips S.rules n

pub search_by_head : SearchByHead
search_by_head S r o p f us n = by_head S r o p f us n
