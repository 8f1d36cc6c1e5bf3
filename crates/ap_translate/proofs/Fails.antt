-- Refusals pass on: what fails first fails the whole, and what is kept of an answer fails as the answer does.
use Rattle.std.proofs.Common.{◌≡◌, ℕ, List, Option, Result, Ok, Err, IsErrAnd, sym, ap, ◌∙◌, subst}
use Rattle.ap_value.specs.declared.symbol.Symbol.{Symbol}
use Rattle.ap_term.specs.declared.term.Term.{Term}
use Rattle.ap_translate.specs.declared.fault.TransKind.TheVariants as kinds
use Rattle.ap_translate.specs.declared.fault.TransError.{TransError}
use Rattle.ap_translate.specs.declared.fault.TransError.TheVariants as errors
use Rattle.ap_translate.specs.Answers.{Answer, refused, error_of, ◌>>=◌, Fails, Gives}
use Rattle.ap_translate.specs.Sizes.{capped}
use Rattle.ap_translate.specs.Kept.{kept_bindings, each_small}

pub then_fails : {A B : Type 0} (e : TransError) (r : Answer A) (f : A → Answer B) → Fails e r → Fails e (r >>= f)
then_fails errors.NoMemory r f h = tt
then_fails (errors.Fault p k) (Err q) f h = cc
then_fails (errors.Fault p k) (Ok a) f h = absurd (no h)
  where
    no : Ok a ≡ refused p k → ⊥
    no q = cc

pub capped_fails : {A : Type 0} (cap : A → Option A) (e : TransError) (r : Answer A) → Fails e r → Fails e (capped cap r)
capped_fails cap errors.NoMemory r h = tt
capped_fails cap (errors.Fault p k) (Err q) h = cc
capped_fails cap (errors.Fault p k) (Ok a) h = absurd (no h)
  where
    no : Ok a ≡ refused p k → ⊥
    no q = cc

pub fails_capped : {A : Type 0} (cap : A → Option A) (e : TransError) (r : Answer A) → Fails e (capped cap r) → Fails e r
fails_capped cap errors.NoMemory r h = tt
fails_capped cap (errors.Fault p k) (Err q) h = cc
fails_capped cap (errors.Fault p k) (Ok a) h = absurd (no h)
  where
    no : Ok (cap a) ≡ refused p k → ⊥
    no q = cc

pub fails_then : {A B : Type 0} (e : TransError) (r : Answer A) (f : A → B) → Fails e (r >>= λ a. Ok (f a)) → Fails e r
fails_then errors.NoMemory r f h = tt
fails_then (errors.Fault p k) (Err q) f h = cc
fails_then (errors.Fault p k) (Ok a) f h = absurd (no h)
  where
    no : Ok (f a) ≡ refused p k → ⊥
    no q = cc

pub fails_kept : (e : TransError) (r : Answer (List (Symbol × Term))) → Fails e (kept_bindings r) → Fails e r
fails_kept errors.NoMemory r h = tt
fails_kept (errors.Fault p k) (Err q) h = cc
fails_kept (errors.Fault p k) (Ok ss) h = absurd (no h)
  where
    no : kept_bindings (Ok ss) ≡ refused p k → ⊥
    no q = cc

pub fails_small : (e : TransError) (r : Answer (List Term)) → Fails e (each_small r) → Fails e r
fails_small errors.NoMemory r h = tt
fails_small (errors.Fault p k) (Err q) h = cc
fails_small (errors.Fault p k) (Ok us) h = absurd (no h)
  where
    no : each_small (Ok us) ≡ refused p k → ⊥
    no q = cc

-- what fails at each error fails where the answers are one
pub same_fails : {A : Type 0} (e : TransError) (r s : Answer A) → r ≡ s → Fails e s → Fails e r
same_fails errors.NoMemory r s q h = tt
same_fails (errors.Fault p k) r s q h = q ∙ h

-- the answer at the exit of a `?`
pub gives_err : {A : Type 0} (r : Result A TransError) (e : TransError) (s : Answer A) → IsErrAnd r (λ x. x ≡ e) → Fails e s → Gives r s
gives_err (Ok a) e s h k = absurd h
gives_err (Err x) e s h k = subst (λ y. Fails y s) (sym h) k

-- what is given is the same, said in another way
pub gives_same : {A : Type 0} (r : Result A TransError) (x y : Answer A) → x ≡ y → Gives r y → Gives r x
gives_same r x y same h = subst (Gives r) (sym same) h

-- no more may be nested
pub bad_fails : {A : Type 0} (cap : A → Option A) (e : TransError) (p : ℕ) (r : Answer A) → e ≡ error_of p kinds.BadForm → r ≡ refused p kinds.BadForm → Fails e (capped cap r)
bad_fails cap e p r is h = subst (λ y. Fails y (capped cap r)) (sym is) (ap (capped cap) h)
