-- An `if` and a negation whose parts are rewritten.
use Rattle.std.proofs.Common.{◌≡◌, ℕ, Bool, true, false, cond, ◌&&◌, Option, Some, None, refl, sym, ap, ◌∙◌, subst}
use Rattle.ap_value.proofs.Equals.{both as both_true}
use Rattle.ap_term.specs.declared.term.Term.{Term}
use Rattle.ap_term.specs.Metered.{Got, after, known as answer}
use Rattle.ap_world.specs.World.{Shown}
use Rattle.ap_kernel.specs.declared.objects.Ctx.{Ctx}
use Rattle.ap_kernel.specs.declared.objects.Mode.{Mode}
use Rattle.ap_kernel.specs.declared.objects.Mode.TheVariants.{Iff}
use Rattle.ap_kernel.specs.declared.objects.Equiv.{Equiv}
use Rattle.ap_kernel.specs.Answers.{if_of, is_unchanged}
use Rattle.ap_kernel.proofs.CallsStand.{branch_same}
use Rattle.ap_rewrite.specs.declared.branching.BothBranches.{BothBranches}
use Rattle.ap_rewrite.specs.Settings.{Setting, Place, Inner, under}
use Rattle.ap_rewrite.specs.Rewriting.{truth_of, shaped, negated, both, branches, rewrite_if, rewrite_not}
use Rattle.ap_rewrite.specs.Answering.{in_branches, From, FromBranches}
use Rattle.ap_rewrite.proofs.Froms.{from_own, from_at}

module _ (S : Setting) (r : Inner) (o : Mode) (p : Place) where
  -- a term to which another one has led
  pub goes_on : (x a v z : Term) (n m : ℕ) → x ≡ a → Some (v, m) ≡ r o p x n → z ≡ v → Some (z, m) ≡ r o p a n
  goes_on x a v z n m e h q = ap (λ z. Some (z, m)) q ∙ h ∙ ap (λ x. r o p x n) e

  pub goes_out : (x a : Term) (n : ℕ) → x ≡ a → None ≡ r o p x n → None ≡ r o p a n
  goes_out x a n e h = h ∙ ap (λ x. r o p x n) e

  -- both branches of an `if`: the steps run out in one, or both are there
  pub branches_out : (a b c : Term) (n : ℕ) → None ≡ r o (under p a true) b n → None ≡ in_branches r o p a b c n
  branches_out a b c n e = rw (← e) refl

  pub no_out : (a b c v : Term) (n m : ℕ) → Some (v, m) ≡ r o (under p a true) b n → None ≡ r o (under p a false) c m → None ≡ in_branches r o p a b c n
  no_out a b c v n m e h = rw (← e) (rw (← h) refl)

  pub branches_are : (a b c v u : Term) (n m k : ℕ) → Some (v, m) ≡ r o (under p a true) b n → Some (u, k) ≡ r o (under p a false) c m → Some ((v, u), k) ≡ in_branches r o p a b c n
  branches_are a b c v u n m k e h = rw (← e) (rw (← h) refl)

  -- and so the whole
  abbrev whole_of : Term → Got (Term × Term) → Got Term
  whole_of a g = after g (λ q. answer (shaped S o p.facts a q.0 q.1))

  shaped_no : (a v : Term) (g : Got Term) → whole_of a (after g (λ u. answer (v, u))) ≡ after g (λ u. answer (shaped S o p.facts a v u))
  shaped_no a v None = refl
  shaped_no a v (Some x) = refl

  shaped_both : (a c : Term) (g : Got Term) → whole_of a (after g (λ v m. after (r o (under p a false) c m) (λ u. answer (v, u)))) ≡ after g (λ v m. after (r o (under p a false) c m) (λ u. answer (shaped S o p.facts a v u)))
  shaped_both a c None = refl
  shaped_both a c (Some x) = shaped_no a x.0 (r o (under p a false) c x.1)

  pub both_out : (a x b c : Term) (n : ℕ) → x ≡ a → None ≡ in_branches r o p x b c n → None ≡ both S r o p a b c n
  both_out a x b c n e h = ap (whole_of a) (h ∙ ap (λ z. in_branches r o p z b c n) e) ∙ shaped_both a c (r o (under p a true) b n)

  pub both_is : (a x b c v u z : Term) (n m : ℕ) → x ≡ a → Some ((v, u), m) ≡ in_branches r o p x b c n → z ≡ shaped S o p.facts a v u → Some (z, m) ≡ both S r o p a b c n
  both_is a x b c v u z n m e h q =
      ap (λ z. Some (z, m)) q ∙ ap (whole_of a) (h ∙ ap (λ z. in_branches r o p z b c n) e) ∙ shaped_both a c (r o (under p a true) b n)

  -- an `if` by what its test has become
  pub branches_open : (t : Option Bool) (a b c : Term) (n : ℕ) → t ≡ None → both S r o p a b c n ≡ branches S r o p a t b c n
  branches_open t a b c n e = rw e refl

  pub branches_chosen : (t : Option Bool) (s : Bool) (a b c v : Term) (n : ℕ) → t ≡ Some s → v ≡ cond s b c → r o p v n ≡ branches S r o p a t b c n
  branches_chosen t true a b c v n e h = rw (e, h) refl
  branches_chosen t false a b c v n e h = rw (e, h) refl

  -- an `if` whose test has become another term
  pub if_goes : (a b c v : Term) (n m : ℕ) → Some (v, m) ≡ r Iff p a n → branches S r o p v (truth_of v) b c m ≡ rewrite_if S r o p a b c n
  if_goes a b c v n m h = rw (← h) refl

  pub if_out : (a b c : Term) (n : ℕ) → None ≡ r Iff p a n → None ≡ rewrite_if S r o p a b c n
  if_out a b c n h = rw (← h) refl

  -- a negation whose argument has
  pub not_goes : (a v z : Term) (n m : ℕ) → Some (v, m) ≡ r Iff p a n → z ≡ negated S o p.facts v (truth_of v) → Some (z, m) ≡ rewrite_not S r o p a n
  not_goes a v z n m h e = rw (← h) (ap (λ z. Some (z, m)) e)

  pub not_out : (a : Term) (n : ℕ) → None ≡ r Iff p a n → None ≡ rewrite_not S r o p a n
  not_out a n h = rw (← h) refl

-- from the branches' own left sides, under the term that the test has become
pub branches_own : (w : Shown) (o : Mode) (c : Ctx) (x a u v : Term) (q : BothBranches) → x ≡ a → FromBranches w o c x u v q → FromBranches w o c a q.yes.says.lhs q.no.says.lhs q
branches_own w o c x a u v q e h =
    let there = subst (λ z. FromBranches w o c z u v q) e h in
    record { yes = from_own w o _ u q.yes there.yes; no = from_own w o _ v q.no there.no }

-- the `if` of what the parts were
pub if_whole : (w : Shown) (o : Mode) (c : Ctx) (t x y u v : Term) (q : Equiv) → x ≡ u → y ≡ v → From w o c (if_of t x y) q → From w o c (if_of t u v) q
if_whole w o c t x y u v q e f h = from_at w o c (if_of t x y) (if_of t u v) q (ap (λ z. if_of t z y) e ∙ ap (if_of t u) f) h

-- the `if` as it stands, by what its parts lead from
pub if_lefts : (r t x y u v : Term) → r ≡ if_of t u v → x ≡ u → y ≡ v → r ≡ if_of t x y
if_lefts r t x y u v h e f = h ∙ ap (if_of t u) (sym f) ∙ ap (λ z. if_of t z y) (sym e)

-- an `if` of which no part changed: its test is no constant, and it is the `if` of what its parts lead to
pub open_before : (w : Shown) (c : Ctx) (q : Equiv) (k : Bool) → From w Iff c q.says.lhs q → truth_of q.says.rhs ≡ None → (is_unchanged q && k) ≡ true → truth_of q.says.lhs ≡ None
open_before w c q k f none h = ap truth_of (f.stands.same (both_true (is_unchanged q) k h).0) ∙ none

pub whole_same : (w : Shown) (o : Mode) (c : Ctx) (r a x y : Term) (q : Equiv) (found : BothBranches) → From w Iff c q.says.lhs q → FromBranches w o c a x y found
    → (is_unchanged q && (is_unchanged found.yes && is_unchanged found.no)) ≡ true → r ≡ if_of q.says.lhs found.yes.says.lhs found.no.says.lhs → r ≡ if_of q.says.rhs found.yes.says.rhs found.no.says.rhs
whole_same w o c r a x y q found f b k h = h ∙ branch_same o q found.yes found.no f.stands.same b.yes.stands.same b.no.stands.same k
