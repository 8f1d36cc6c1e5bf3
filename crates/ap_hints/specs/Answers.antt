-- What is read of hints, or the first refusal in reading order.
use Rattle.std.specs.Prelude.{◌≡◌, List, [], ◌∷◌, Option, Some, None, Result, Ok, Err}
use Rattle.ap_hints.specs.declared.fault.HintError.{HintError}

abbrev pub Answer : Type 0 → Type 0
Answer A = Result A HintError

infixl 10 ◌>>=◌
-- one after another, up to the first refusal
abbrev pub ◌>>=◌ : {A B : Type 0} → Answer A → (A → Answer B) → Answer B
(Ok a) >>= g = g a
(Err e) >>= g = Err e

-- what is there; else it is refused
abbrev pub or_refused : {A : Type 0} → HintError → Option A → Answer A
or_refused e None = Err e
or_refused e (Some a) = Ok a

-- the answers for forms, from left to right
abbrev pub each : {A B : Type 0} → (A → Answer B) → List A → Answer (List B)
each g [] = Ok []
each g (x ∷ xs) = g x >>= λ y. each g xs >>= λ ys. Ok (y ∷ ys)

-- the error is the refusal, unless memory ran out
abbrev pub Fails : {A : Type 0} → HintError → Answer A → Type 0
Fails HintError.NoMemory r = Unit {0}
Fails e r = r ≡ Err e

-- what a call answered is this, unless memory ran out
abbrev pub Gives : {A : Type 0} → Result A HintError → Answer A → Type 0
Gives (Ok a) r = r ≡ Ok a
Gives (Err e) r = Fails e r
