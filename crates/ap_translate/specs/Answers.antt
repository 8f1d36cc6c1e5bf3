-- Refusals, each with its place, and what comes before the first one.
use Rattle.std.specs.Prelude.{◌≡◌, ℕ, List, [], ◌∷◌, Option, Some, None, Result, Ok, Err}
use Rattle.ap_translate.specs.declared.fault.TransKind.{TransKind}
use Rattle.ap_translate.specs.declared.fault.TransKind.TheVariants as kinds
use Rattle.ap_translate.specs.declared.fault.TransError.{TransError}
use Rattle.ap_translate.specs.declared.fault.TransError.TheVariants as errors

-- the number by which a refusal prints its kind
abbrev pub number_of : TransKind → ℕ
number_of kinds.UnknownName = 1
number_of kinds.WrongArity = 2
number_of kinds.BadForm = 3
number_of kinds.DottedForm = 4
number_of kinds.TermTooLarge = 5
number_of kinds.NotAVariable = 6
number_of kinds.CommaOutside = 7

-- a refused form's place, and why it is refused
pub record Refusal : Type 0 where
  pub place : ℕ
  pub kind : TransKind

abbrev pub Answer : Type 0 → Type 0
Answer A = Result A Refusal

abbrev pub refused : {A : Type 0} → ℕ → TransKind → Answer A
refused p k = Err (record { place = p; kind = k })

-- the error that answers it
abbrev pub error_of : ℕ → TransKind → TransError
error_of p k = errors.Fault p k

infixl 10 ◌>>=◌
-- one after another, up to the first refusal
abbrev pub ◌>>=◌ : {A B : Type 0} → Answer A → (A → Answer B) → Answer B
(Ok a) >>= g = g a
(Err e) >>= g = Err e

-- what has the shape that is asked for; else the form at this place is bad
abbrev pub shaped : {A B : Type 0} → ℕ → Option A → (A → Answer B) → Answer B
shaped p None g = refused p kinds.BadForm
shaped p (Some a) g = g a

-- the answers for forms, from left to right
abbrev pub each : {A B : Type 0} → (A → Answer B) → List A → Answer (List B)
each g [] = Ok []
each g (x ∷ xs) = g x >>= λ y. each g xs >>= λ ys. Ok (y ∷ ys)

-- the error is the refusal, unless memory ran out
abbrev pub Fails : {A : Type 0} → TransError → Answer A → Type 0
Fails errors.NoMemory r = Unit {0}
Fails (errors.Fault p k) r = r ≡ refused p k

-- what a call answered is this, unless memory ran out
abbrev pub Gives : {A : Type 0} → Result A TransError → Answer A → Type 0
Gives (Ok a) r = r ≡ Ok a
Gives (Err e) r = Fails e r

-- the same of what the program sees as something else
abbrev pub GivesAs : {A B : Type 0} → (A → B) → Result A TransError → Answer B → Type 0
GivesAs see (Ok a) r = r ≡ Ok (see a)
GivesAs see (Err e) r = Fails e r
