-- Answers and refusals.
use Rattle.std.proofs.Common.{◌≡◌, Bool, true, false, Result, Ok, Err, IfOk, ap, sym, subst}
use Rattle.ap_translate.specs.declared.fault.TransError.{TransError}
use Rattle.ap_stated.specs.declared.refusing.Refusal.{Refusal}
use Rattle.ap_stated.specs.Refusals.{Answer, ◌>>=◌, unless}

-- what holds of what translation answers holds of it as an answer of the event
pub kept_translated : {A E : Type 0} (x : Result A TransError) (r : Result (Answer A) E) (P : A → Type 0) → IfOk r (λ s. IfOk s (λ v. x ≡ Ok v)) → IfOk x P → IfOk r (λ s. IfOk s P)
kept_translated x (Ok (Ok v)) P is h = subst (λ y. IfOk y P) is h
kept_translated x (Ok (Err e)) P is h = tt
kept_translated x (Err e) P is h = tt

-- a test that holds leaves its refusal, and one that doesn't leaves the rest
pub refused_where : {A : Type 0} (b : Bool) (r : Refusal) (a : Answer A) → b ≡ true → Err r ≡ unless b r a
refused_where b r a is = ap (λ c. unless c r a) (sym is)

pub goes_on_where : {A : Type 0} (b : Bool) (r : Refusal) (a : Answer A) → b ≡ false → a ≡ unless b r a
goes_on_where b r a is = ap (λ c. unless c r a) (sym is)

pub if_goes_on : {A E : Type 0} (x : Result (Answer A) E) (b : Bool) (r : Refusal) (a : Answer A) → b ≡ false → IfOk x (λ y. y ≡ a) → IfOk x (λ y. y ≡ unless b r a)
if_goes_on x b r a is h = subst (λ z. IfOk x (λ y. y ≡ z)) (goes_on_where b r a is) h

-- what follows an answer
pub then_given : {A B E : Type 0} (x : Result (Answer B) E) (a : Answer A) (u : A) (g : A → Answer B) → Ok u ≡ a → IfOk x (λ y. y ≡ g u) → IfOk x (λ y. y ≡ (a >>= g))
then_given x a u g is h = subst (λ b. IfOk x (λ y. y ≡ (b >>= g))) is h

pub then_refused : {A B : Type 0} (a : Answer A) (r : Refusal) (g : A → Answer B) → Err r ≡ a → Err r ≡ (a >>= g)
then_refused a r g is = ap (λ b. b >>= g) is

-- what holds of what is equal
pub if_same : {A E : Type 0} (x : Result (Answer A) E) (a : A) (P : A → Type 0) → P a → IfOk x (λ y. IfOk y (λ b. b ≡ a)) → IfOk x (λ y. IfOk y P)
if_same (Ok (Ok b)) a P p is = subst P (sym is) p
if_same (Ok (Err r)) a P p is = tt
if_same (Err e) a P p is = tt
