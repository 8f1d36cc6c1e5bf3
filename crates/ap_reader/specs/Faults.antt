-- Faults of a text, each with its place.
use Rattle.std.specs.Prelude.{◌≡◌, ℕ, Result, Ok, Err}
use Rattle.ap_tokens.specs.declared.token.FaultKind.{FaultKind}
use Rattle.ap_tokens.specs.declared.token.FaultKind.TheVariants as token
use Rattle.ap_reader.specs.declared.fault.ReadKind.{ReadKind}
use Rattle.ap_reader.specs.declared.fault.ReadKind.TheVariants as faults
use Rattle.ap_reader.specs.declared.fault.ReadError.{ReadError}
use Rattle.ap_reader.specs.declared.fault.ReadError.TheVariants as errors

-- the number by which a refusal prints a fault
abbrev pub number_of : ReadKind → ℕ
number_of faults.OpenString = 1
number_of faults.OpenComment = 2
number_of faults.OpenBar = 3
number_of faults.BadHash = 4
number_of faults.BadCharName = 5
number_of faults.OpenList = 6
number_of faults.StrayClose = 7
number_of faults.NotInteger = 8
number_of faults.IntegerTooWide = 9
number_of faults.TooDeep = 10
number_of faults.BadDot = 11
number_of faults.BadPackage = 12

-- a fault and its place
pub record ReadFault : Type 0 where
  pub place : ℕ
  pub kind : ReadKind

-- a fault of this kind at this place
abbrev pub fault : ℕ → ReadKind → ReadFault
fault p k = record { place = p; kind = k }

-- the error that answers it
abbrev pub error_of : ℕ → ReadKind → ReadError
error_of p k = errors.Fault p k

-- a token's fault as one of the text
abbrev pub broken : FaultKind → ReadKind
broken token.OpenString = faults.OpenString
broken token.OpenComment = faults.OpenComment
broken token.OpenBar = faults.OpenBar
broken token.BadHash = faults.BadHash
broken token.BadCharName = faults.BadCharName

-- a fault of this kind has this place
abbrev pub at_place : {A : Type 0} → ℕ → Result A ReadKind → Result A ReadFault
at_place p (Ok a) = Ok a
at_place p (Err k) = Err (fault p k)

-- the error is the fault that reading gives, unless memory ran out
abbrev pub Fails : {Y : Type 0} → ReadError → Result Y ReadFault → Type 0
Fails errors.NoMemory read = Unit {0}
Fails (errors.Fault p k) read = read ≡ Err (fault p k)

-- What a call answered, seen by view, is what reading gives, unless memory ran out.
abbrev pub Gives : {X Y : Type 0} → (X → Y) → Result X ReadError → Result Y ReadFault → Type 0
Gives view (Ok x) read = read ≡ Ok (view x)
Gives view (Err e) read = Fails e read

-- P holds of the fault, if it is one
abbrev pub OnFault : ReadError → (ReadFault → Type 0) → Type 0
OnFault errors.NoMemory P = Unit {0}
OnFault (errors.Fault p k) P = P (fault p k)
