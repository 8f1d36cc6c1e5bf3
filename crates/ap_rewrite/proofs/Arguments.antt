-- The arguments of a call, one after another.
use Rattle.std.proofs.Common.{◌≡◌, ℕ, suc, ◌+◌, ◌<◌, List, [], ◌∷◌, ◌++◌, drop, length, Some, None, refl, sym, ap, ◌∙◌, subst, append_assoc, get_or, drop-cons, add-one}
use Rattle.std.proofs.Math.ListN.{length-map}
use Rattle.ap_list.specs.Lists.{Each}
use Rattle.ap_term.specs.declared.term.Term.{Term}
use Rattle.ap_term.specs.Metered.{Got, after, known as answer}
use Rattle.ap_world.specs.World.{Shown}
use Rattle.ap_kernel.specs.declared.objects.Ctx.{Ctx}
use Rattle.ap_kernel.specs.declared.objects.Mode.TheVariants.{Equal}
use Rattle.ap_kernel.specs.declared.objects.Sequent.{Sequent}
use Rattle.ap_kernel.specs.declared.objects.Equiv.{Equiv}
use Rattle.ap_kernel.specs.Answers.{said, lefts, rights}
use Rattle.ap_rewrite.specs.Settings.{Setting, Place, Inner}
use Rattle.ap_rewrite.specs.Rewriting.{rewrite_args}
use Rattle.ap_rewrite.specs.Answering.{From, Leads, got_all}

-- answers behind some that are done
abbrev pub behind : List Term → Got (List Term) → Got (List Term)
behind done g = after g (λ rest. answer (done ++ rest))

behind_one : (done : List Term) (v : Term) (g : Got (List Term)) → behind done (after g (λ us. answer (v ∷ us))) ≡ behind (done ++ v ∷ []) g
behind_one done v None = refl
behind_one done v (Some p) = ap (λ us. Some (us, p.1)) (sym (append_assoc done (v ∷ []) p.0))

pub behind_next : (S : Setting) (r : Inner) (p : Place) (u : Term) (us done : List Term) (n : ℕ) (v : Term) (m : ℕ) → Some (v, m) ≡ r Equal p u n
    → behind done (rewrite_args S r p (u ∷ us) n) ≡ behind (done ++ v ∷ []) (rewrite_args S r p us m)
behind_next S r p u us done n v m e = rw (← e) (behind_one done v (rewrite_args S r p us m))

pub behind_out : (S : Setting) (r : Inner) (p : Place) (u : Term) (us done : List Term) (n : ℕ) → None ≡ r Equal p u n
    → behind done (rewrite_args S r p (u ∷ us) n) ≡ None
behind_out S r p u us done n e = rw (← e) refl

pub behind_none : (g : Got (List Term)) → g ≡ behind [] g
behind_none None = refl
behind_none (Some p) = refl

append_nil : (us : List Term) → us ++ [] ≡ us
append_nil [] = refl
append_nil (u ∷ us) = ap (λ x. u ∷ x) (append_nil us)

pub behind_all : (done : List Term) (n : ℕ) → behind done (Some ([], n)) ≡ Some (done, n)
behind_all done n = ap (λ us. Some (us, n)) (append_nil done)

-- what the loop keeps: what is left, behind what is done, gives what all give
pub record ArgumentsDone (w : Shown) (c : Ctx) (g all : Got (List Term)) (rest us : List Term) (qs : List Equiv) : Type 0 where
  pub is : all ≡ behind (rights (said qs)) g
  pub left : lefts (said qs) ++ rest ≡ us
  pub each : Each (Leads w Equal c) qs

pub lefts_snoc : (qs : List Equiv) (q : Equiv) → lefts (said (qs ++ q ∷ [])) ≡ lefts (said qs) ++ q.says.lhs ∷ []
lefts_snoc [] q = refl
lefts_snoc (p ∷ qs) q = ap (λ us. p.says.lhs ∷ us) (lefts_snoc qs q)

pub rights_snoc : (qs : List Equiv) (q : Equiv) → rights (said (qs ++ q ∷ [])) ≡ rights (said qs) ++ q.says.rhs ∷ []
rights_snoc [] q = refl
rights_snoc (p ∷ qs) q = ap (λ us. p.says.rhs ∷ us) (rights_snoc qs q)

pub each_snoc : (P : Equiv → Type 0) (qs : List Equiv) (q : Equiv) → Each P qs → P q → Each P (qs ++ q ∷ [])
each_snoc P [] q h k = (k, tt)
each_snoc P (p ∷ qs) q h k = (h.0, each_snoc P qs q h.1 k)

-- one argument more
pub argument_done : (w : Shown) (c : Ctx) (S : Setting) (r : Inner) (p : Place) (all : Got (List Term)) (u : Term) (front rest us : List Term) (qs out : List Equiv) (n m : ℕ) (q : Equiv)
    → front ≡ u ∷ rest → ArgumentsDone w c (rewrite_args S r p front n) all front us qs → Some (q.says.rhs, m) ≡ r Equal p u n → From w Equal c u q → out ≡ qs ++ q ∷ []
    → ArgumentsDone w c (rewrite_args S r p rest m) all rest us out
argument_done w c S r p all u front rest us qs out n m q at h is f e = record {
  is =
      h.is
      ∙ ap (λ x. behind (rights (said qs)) (rewrite_args S r p x n)) at
      ∙ behind_next S r p u rest (rights (said qs)) n q.says.rhs m is
      ∙ ap (λ done. behind done (rewrite_args S r p rest m)) (sym (ap (λ x. rights (said x)) e ∙ rights_snoc qs q));
  left =
      ap (λ x. lefts (said x) ++ rest) e
      ∙ ap (λ x. x ++ rest) (lefts_snoc qs q ∙ ap (λ x. lefts (said qs) ++ x ∷ []) f.lhs)
      ∙ append_assoc (lefts (said qs)) (u ∷ []) rest
      ∙ ap (λ x. lefts (said qs) ++ x) (sym at)
      ∙ h.left;
  each = subst (Each (Leads w Equal c)) (sym e) (each_snoc (Leads w Equal c) qs q h.each (record { stands = f.stands; ctx = f.ctx; mode = f.mode; lhs = refl }));
}

-- an argument for which the steps ran out
pub argument_out : (w : Shown) (c : Ctx) (S : Setting) (r : Inner) (p : Place) (all : Got (List Term)) (u : Term) (front rest us : List Term) (qs : List Equiv) (n : ℕ)
    → front ≡ u ∷ rest → ArgumentsDone w c (rewrite_args S r p front n) all front us qs → None ≡ r Equal p u n → None ≡ all
argument_out w c S r p all u front rest us qs n at h is =
    sym (h.is ∙ ap (λ x. behind (rights (said qs)) (rewrite_args S r p x n)) at ∙ behind_out S r p u rest (rights (said qs)) n is)

pub none_done : (w : Shown) (c : Ctx) (g : Got (List Term)) (us : List Term) → ArgumentsDone w c g g us us []
none_done w c g us = record { is = behind_none g; left = refl; each = tt }

pub args_begin : (w : Shown) (c : Ctx) (g : Got (List Term)) (us : List Term) (qs : List Equiv) → qs ≡ [] → ArgumentsDone w c g g us us qs
args_begin w c g us qs e = subst (ArgumentsDone w c g g us us) (sym e) (none_done w c g us)

-- all are done
pub all_done : (w : Shown) (c : Ctx) (S : Setting) (r : Inner) (p : Place) (all : Got (List Term)) (rest us : List Term) (qs : List Equiv) (m : ℕ) → rest ≡ []
    → ArgumentsDone w c (rewrite_args S r p rest m) all rest us qs → (got_all (Some qs) m ≡ all) × (lefts (said qs) ≡ us)
all_done w c S r p all rest us qs m at h = (
  sym (h.is ∙ ap (λ x. behind (rights (said qs)) (rewrite_args S r p x m)) at ∙ behind_all (rights (said qs)) m),
  sym (append_nil (lefts (said qs))) ∙ ap (λ x. lefts (said qs) ++ x) (sym at) ∙ h.left,
)

-- what stands from a place on begins with what is there
pub from_place : {A : Type 0} (xs : List A) (i : ℕ) (a : A) → i < length xs → a ≡ get_or xs i a → drop i xs ≡ a ∷ drop (i + 1) xs
from_place xs i a h e = drop-cons xs i a h ∙ ap (λ z. z ∷ drop (suc i) xs) (sym e) ∙ ap (λ k. a ∷ drop k xs) (sym (add-one i))

-- as many
pub lefts_many : (qs : List Equiv) → length (lefts (said qs)) ≡ length qs
lefts_many qs = length-map (said qs) (λ (x : Sequent). x.lhs) ∙ length-map qs (λ (q : Equiv). q.says)
