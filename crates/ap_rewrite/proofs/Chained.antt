-- What is tried on a call, one thing after another.
use Rattle.std.proofs.Common.{◌≡◌, ℕ, true, false, cond, List, [], ◌∷◌, Option, Some, None, Result, IfOk, IfSome, refl, sym, ap, ◌∙◌, subst}
use Rattle.std.specs.Option.{option_map}
use Rattle.std.specs.declared.alloc.AllocError.{AllocError}
use Rattle.ap_value.specs.declared.symbol.Symbol.{Symbol}
use Rattle.ap_term.specs.declared.term.Term.{Term, Call}
use Rattle.ap_term.specs.Metered.{Got, By, after, known as answer, or_else, first_that}
use Rattle.ap_world.specs.declared.theory.Theory.{Theory}
use Rattle.ap_world.specs.World.{Shown}
use Rattle.ap_kernel.specs.declared.objects.Ctx.{Ctx}
use Rattle.ap_kernel.specs.declared.objects.Mode.{Mode}
use Rattle.ap_kernel.specs.declared.objects.Equiv.{Equiv}
use Rattle.ap_kernel.specs.Opening.{is_quoted}
use Rattle.ap_rewrite.specs.declared.rewriter.Tried.{Tried}
use Rattle.ap_rewrite.specs.declared.rewriter.Tried.TheVariants.{Applied}
use Rattle.ap_rewrite.specs.Settings.{Setting, Place, Inner}
use Rattle.ap_rewrite.specs.InWorld.{world_setting}
use Rattle.ap_rewrite.specs.Linear.{by_arithmetic}
use Rattle.ap_rewrite.specs.Rewriting.{answered, led, run, settle, equate, tried, by_rules, by_definition}
use Rattle.ap_rewrite.specs.Answering.{where_applied, From, got, got_any, from_settling, from_equating, from_arithmetic, from_rules}
use Rattle.ap_rewrite.proofs.Froms.{got_answered}

-- the first one applies, or the others are tried
pub first_some : (x : Option Term) (v : Term) (ks : List (By (Option Term))) (n : ℕ) → x ≡ Some v → Some (Some v, n) ≡ first_that (answer x ∷ ks) n
first_some x v ks n e = rw e refl

pub first_none : (x : Option Term) (ks : List (By (Option Term))) (n : ℕ) (g : Got (Option Term)) → x ≡ None → g ≡ first_that ks n → g ≡ first_that (answer x ∷ ks) n
first_none x ks n g e h = rw e h

pub then_out : (k : By (Option Term)) (ks : List (By (Option Term))) (n : ℕ) → None ≡ k n → None ≡ first_that (k ∷ ks) n
then_out k ks n e = rw (← e) refl

pub then_some : (k : By (Option Term)) (ks : List (By (Option Term))) (n : ℕ) (v : Term) (m : ℕ) → Some (Some v, m) ≡ k n → Some (Some v, m) ≡ first_that (k ∷ ks) n
then_some k ks n v m e = rw (← e) refl

pub then_none : (k : By (Option Term)) (ks : List (By (Option Term))) (n m : ℕ) (g : Got (Option Term)) → ◌≡◌ {A = Got (Option Term)} (Some (None, m)) (k n) → g ≡ first_that ks m → g ≡ first_that (k ∷ ks) n
then_none k ks n m g e h = rw (← e) h

-- the last one
pub only_one : (g : Got (Option Term)) → g ≡ after g (λ o. or_else o (first_that []))
only_one None = refl
only_one (Some p) = go p.0
  where
    go : (o : Option Term) → ◌≡◌ {A = Got (Option Term)} (Some (o, p.1)) (or_else o (first_that []) p.1)
    go None = refl
    go (Some v) = refl

-- one that decides nothing is passed over
pub passed : (k : By (Option Term)) (ks : List (By (Option Term))) (n m : ℕ) → ◌≡◌ {A = Got (Option Term)} (Some (None, m)) (k n) → first_that ks m ≡ first_that (k ∷ ks) n
passed k ks n m e = then_none k ks n m (first_that ks m) e refl

-- what is answered where the definition's answer is the same
pub same_answer : (x : Result (Option (Tried Equiv)) AllocError) (m : ℕ) (g h : Got (Option Term)) → g ≡ h → IfOk x (λ o. got_any o m ≡ g) → IfOk x (λ o. got_any o m ≡ h)
same_answer x m g h e k = subst (λ (y : Got (Option Term)). IfOk x (λ o. got_any o m ≡ y)) e k

pub same_from : (w : Shown) (o : Mode) (c : Ctx) (u v : Term) (x : Result (Option (Tried Equiv)) AllocError) → u ≡ v
    → IfOk x (λ y. IfSome y (λ a. IfSome (where_applied a) (From w o c u))) → IfOk x (λ y. IfSome y (λ a. IfSome (where_applied a) (From w o c v)))
same_from w o c u v x e h = subst (λ (t : Term). IfOk x (λ y. IfSome y (λ a. IfSome (where_applied a) (From w o c t)))) e h

-- an answer that is there is one from the term
pub answered_from : (w : Shown) (o : Mode) (c : Ctx) (u : Term) (y : Option Equiv) (x : Option (Tried Equiv)) → x ≡ option_map Applied y → IfSome y (From w o c u) → IfSome x (λ a. IfSome (where_applied a) (From w o c u))
answered_from w o c u None x e h = subst (λ (z : Option (Tried Equiv)). IfSome z (λ a. IfSome (where_applied a) (From w o c u))) (sym e) tt
answered_from w o c u (Some q) x e h = subst (λ (z : Option (Tried Equiv)). IfSome z (λ a. IfSome (where_applied a) (From w o c u))) (sym e) h

pub answered_is : (y : Option Equiv) (x : Option (Tried Equiv)) (m : ℕ) (g : Got Term) → x ≡ option_map Applied y → got y m ≡ g → got_any x m ≡ answered g
answered_is y x m g e h = ap (λ (z : Option (Tried Equiv)). got_any z m) e ∙ got_answered y m ∙ ap answered h

-- where an equation leads: nowhere, to a constant, and on
module _ (S : Setting) (r : Inner) (o : Mode) (p : Place) where
  pub led_nowhere : (x : Option Term) (n : ℕ) → None ≡ x → ◌≡◌ {A = Got (Option Term)} (Some (None, n)) (led S r o p x n)
  led_nowhere x n e = ap (λ (y : Option Term). led S r o p y n) e

  pub led_to : (u : Term) (n : ℕ) → is_quoted u ≡ true → ◌≡◌ {A = Got (Option Term)} (Some (Some u, n)) (led S r o p (Some u) n)
  led_to u n e = ap (λ b. cond b (answer (Some u) n) (answered (r o p u n))) (sym e)

  pub led_on : (u : Term) (n : ℕ) → is_quoted u ≡ false → answered (r o p u n) ≡ led S r o p (Some u) n
  led_on u n e = ap (λ b. cond b (answer (Some u) n) (answered (r o p u n))) (sym e)

-- an answer of the same term, and none where the steps ran out
pub answered_some : (v u : Term) (m : ℕ) (g : Got Term) → v ≡ u → ◌≡◌ {A = Got Term} (Some (u, m)) g → ◌≡◌ {A = Got (Option Term)} (Some (Some v, m)) (answered g)
answered_some v u m g e h = ap (λ (x : Term). Some (Some x, m)) e ∙ ap answered h

pub answered_out : (g : Got Term) → ◌≡◌ {A = Got Term} None g → ◌≡◌ {A = Got (Option Term)} None (answered g)
answered_out g h = ap answered h

-- what is tried on a call: running, settling, equations, arithmetic, rules, its definition; each is the answer, or the next is
module _ (w : Shown) (h : Theory) (xs : List Term) (r : Inner) (o : Mode) (p : Place) (f : Symbol) (us : List Term) (t : Term) (n : ℕ) (call : t ≡ Call f us) where
  abbrev pub Here : Setting
  Here = world_setting w h xs

  pub run_some : (v : Term) → Some v ≡ run Here o f us → ◌≡◌ {A = Got (Option Term)} (Some (Some v, n)) (first_that (tried Here r o p f us) n)
  run_some v e = first_some (run Here o f us) v (from_settling Here r o p f us) n (sym e)

  pub run_none : None ≡ run Here o f us → first_that (from_settling Here r o p f us) n ≡ first_that (tried Here r o p f us) n
  run_none e = passed (answer (run Here o f us)) (from_settling Here r o p f us) n n (ap (λ (x : Option Term). answer x n) e)

  pub settle_some : (v : Term) → Some v ≡ settle Here o p t → ◌≡◌ {A = Got (Option Term)} (Some (Some v, n)) (first_that (from_settling Here r o p f us) n)
  settle_some v e = first_some (settle Here o p (Call f us)) v (from_equating Here r o p f us) n (sym (e ∙ ap (settle Here o p) call))

  pub settle_none : None ≡ settle Here o p t → first_that (from_equating Here r o p f us) n ≡ first_that (from_settling Here r o p f us) n
  settle_none e = passed (answer (settle Here o p (Call f us))) (from_equating Here r o p f us) n n (ap (λ (x : Option Term). answer x n) (e ∙ ap (settle Here o p) call))

  equate_at : equate Here r o p t n ≡ equate Here r o p (Call f us) n
  equate_at = ap (λ (u : Term). equate Here r o p u n) call

  pub equate_out : None ≡ equate Here r o p t n → None ≡ first_that (from_equating Here r o p f us) n
  equate_out e = then_out (equate Here r o p (Call f us)) (from_arithmetic Here r o p f us) n (e ∙ equate_at)

  pub equate_some : (v : Term) (m : ℕ) → ◌≡◌ {A = Got (Option Term)} (Some (Some v, m)) (equate Here r o p t n) → ◌≡◌ {A = Got (Option Term)} (Some (Some v, m)) (first_that (from_equating Here r o p f us) n)
  equate_some v m e = then_some (equate Here r o p (Call f us)) (from_arithmetic Here r o p f us) n v m (e ∙ equate_at)

  pub equate_none : (m : ℕ) → ◌≡◌ {A = Got (Option Term)} (Some (None, m)) (equate Here r o p t n) → first_that (from_arithmetic Here r o p f us) m ≡ first_that (from_equating Here r o p f us) n
  equate_none m e = passed (equate Here r o p (Call f us)) (from_arithmetic Here r o p f us) n m (e ∙ equate_at)

  pub arithmetic_out : None ≡ by_arithmetic Here r p f us n → None ≡ first_that (from_arithmetic Here r o p f us) n
  arithmetic_out e = then_out (by_arithmetic Here r p f us) (from_rules Here r o p f us) n e

  pub arithmetic_some : (v : Term) (m : ℕ) → ◌≡◌ {A = Got (Option Term)} (Some (Some v, m)) (by_arithmetic Here r p f us n) → ◌≡◌ {A = Got (Option Term)} (Some (Some v, m)) (first_that (from_arithmetic Here r o p f us) n)
  arithmetic_some v m e = then_some (by_arithmetic Here r p f us) (from_rules Here r o p f us) n v m e

  pub arithmetic_none : (m : ℕ) → ◌≡◌ {A = Got (Option Term)} (Some (None, m)) (by_arithmetic Here r p f us n) → first_that (from_rules Here r o p f us) m ≡ first_that (from_arithmetic Here r o p f us) n
  arithmetic_none m e = passed (by_arithmetic Here r p f us) (from_rules Here r o p f us) n m e

  rules_at : by_rules Here r o p t n ≡ by_rules Here r o p (Call f us) n
  rules_at = ap (λ (u : Term). by_rules Here r o p u n) call

  pub rules_out : None ≡ by_rules Here r o p t n → None ≡ first_that (from_rules Here r o p f us) n
  rules_out e = then_out (by_rules Here r o p (Call f us)) (by_definition Here r o p f us ∷ []) n (e ∙ rules_at)

  pub rules_some : (v : Term) (m : ℕ) → ◌≡◌ {A = Got (Option Term)} (Some (Some v, m)) (by_rules Here r o p t n) → ◌≡◌ {A = Got (Option Term)} (Some (Some v, m)) (first_that (from_rules Here r o p f us) n)
  rules_some v m e = then_some (by_rules Here r o p (Call f us)) (by_definition Here r o p f us ∷ []) n v m (e ∙ rules_at)

  pub rules_none : (m : ℕ) → ◌≡◌ {A = Got (Option Term)} (Some (None, m)) (by_rules Here r o p t n) → by_definition Here r o p f us m ≡ first_that (from_rules Here r o p f us) n
  rules_none m e = only_one (by_definition Here r o p f us m) ∙ passed (by_rules Here r o p (Call f us)) (by_definition Here r o p f us ∷ []) n m (e ∙ rules_at)
