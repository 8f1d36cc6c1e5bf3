-- What the step of a goal that goes leads to.
use Rattle.std.proofs.Common.{◌≡◌, ◌<◌, ℕ, zero, suc, List, [], ◌∷◌, ◌++◌, take, Option, Some, None, MatchOption, IfSome, option_map, slice_get, get_or, length, arith, ap, sym, subst}
use Rattle.ap_list.specs.Lists.{Each}
use Rattle.ap_walk.specs.Visits.{Visit}
use Rattle.ap_kernel.specs.declared.reductions.Reduction.{Reduction}
use Rattle.ap_strategy.specs.Goals.{Goal}
use Rattle.ap_strategy.specs.Leads.{said_once, reduction_of}
use Rattle.ap_chain.specs.Fitting.{IsAmong, Goes}
use Rattle.ap_chain.proofs.Found.{step_leads}

-- what is read at an index below the length
pub got_at : {A : Type 0} (xs : List A) (i : ℕ) (x : A) → i < length xs → x ≡ get_or xs i x → slice_get xs i ≡ Some x
got_at [] i x low h = absurd (omega arith)
got_at (y ∷ ys) zero x low h = ap (λ z. Some z) (sym h)
got_at (y ∷ ys) (suc i) x low h = got_at ys i x (omega arith) h

pub each_at : {A : Type 0} (P : A → Type 0) (xs : List A) (i : ℕ) (x : A) → slice_get xs i ≡ Some x → Each P xs → P x
each_at P [] i x h each = absurd (cc)
each_at P (y ∷ ys) zero x h each = let same : y ≡ x = cc in subst P same each.0
each_at P (y ∷ ys) (suc i) x h each = each_at P ys i x h each.1

pub take_more : {A : Type 0} (xs : List A) (i : ℕ) (x : A) → slice_get xs i ≡ Some x → take (suc i) xs ≡ take i xs ++ x ∷ []
take_more [] i x h = absurd (cc)
take_more (y ∷ ys) zero x h = let same : y ≡ x = cc in ap (λ z. z ∷ []) same
take_more (y ∷ ys) (suc i) x h = ap (λ zs. y ∷ zs) (take_more ys i x h)

pub some_is : {P : Type 0} (o : Option P) (p : P) (Q : P → Type 0) → o ≡ Some p → IfSome o Q → Q p
some_is o p Q some h = subst (λ x. IfSome x Q) some h

-- there is no mark that is missing
pub none_missing : {P : Type 0} (o : Option P) (Q : P → Type 0) → o ≡ None → MatchOption o ⊥ Q → ⊥
none_missing o Q none h = subst (λ x. MatchOption x ⊥ Q) none h

pub some_there : {P : Type 0} (o : Option P) (p : P) (Q : P → Type 0) → o ≡ Some p → MatchOption o ⊥ Q → Q p
some_there o p Q some h = subst (λ x. MatchOption x ⊥ Q) some h

pub step_there : (v : Visit Goal) (vs : List (Visit Goal)) (o : Option Reduction) → option_map said_once o ≡ reduction_of v.task → Goes v vs
    → MatchOption o ⊥ (λ (r : Reduction). Each (IsAmong vs) r.says.to)
step_there v vs o made goes = step_leads v.task vs o made goes.0 goes.1
