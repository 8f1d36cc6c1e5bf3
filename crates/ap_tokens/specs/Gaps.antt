-- What stands between tokens: blanks and comments.
use Rattle.std.specs.Prelude.{ℕ, ◌+◌, ◌-◌, ◌≤◌, Bool, true, false, ◌&&◌, ◌==◌, List, [], ◌∷◌, drop, Option, Some, None, Result, Ok, Err, zero, suc}
use Rattle.ap_tokens.specs.declared.token.TokenFault.{TokenFault}
use Rattle.ap_tokens.specs.declared.token.FaultKind.TheVariants as faults
use Rattle.ap_tokens.specs.declared.gap.Start.{Start}
use Rattle.ap_tokens.specs.declared.gap.Start.TheVariants as start
use Rattle.ap_tokens.specs.declared.gap.Step.{Step}
use Rattle.ap_tokens.specs.declared.gap.Step.TheVariants.{Pass, Stay, Open}
use Rattle.ap_tokens.specs.Bytes.{is_blank}
use Rattle.ap_tokens.specs.Scans.{line_len, comment_len}

-- a place of a text, and what is left of the text from there on
pub record At : Type 0 where
  pub place : ℕ
  pub rest : List ℕ

abbrev pub at : ℕ → List ℕ → At
at p t = record { place = p; rest = t }

-- the text begins with this byte
abbrev pub begins : ℕ → List ℕ → Bool
begins b [] = false
begins b (c ∷ t) = c == b

-- what a text begins with: a block comment, a line comment, a blank, or none of them
abbrev pub start_by : Bool → Bool → Bool → Start
start_by true _ _ = start.Block
start_by false true _ = start.Line
start_by false false true = start.Blank
start_by false false false = start.Other

abbrev pub start_of : List ℕ → Start
start_of [] = start.Other
start_of (c ∷ t) = start_by (c == 35 && begins 124 t) (c == 59) (is_blank c)

-- how far a block comment goes that begins here
abbrev pub block_step : Option ℕ → Step
block_step None = Open
block_step (Some n) = Pass (2 + n)

-- how far what begins here goes, where it is a blank or a comment
abbrev pub step_by : Start → List ℕ → Step
step_by start.Blank t = Pass 1
step_by start.Line t = Pass (1 + line_len (drop 1 t))
step_by start.Block t = block_step (comment_len 0 (drop 2 t))
step_by start.Other t = Stay

abbrev pub step_of : List ℕ → Step
step_of t = step_by (start_of t) t

-- what is passed has a byte, and no more than there are
abbrev pub IsWithin : ℕ → Step → Type 0
IsWithin most (Pass n) = (1 ≤ n) × (n ≤ most)
IsWithin most Stay = Unit {0}
IsWithin most Open = Unit {0}

-- The first byte that isn't in a blank or a whole comment. The first `inside` bytes are still of one.
abbrev pub at_step : {A : Type 0} → Step → (ℕ → A) → A → A → A
at_step (Pass n) pass stay fault = pass n
at_step Stay pass stay fault = stay
at_step Open pass stay fault = fault

abbrev pub gap : ℕ → ℕ → List ℕ → Result At TokenFault
gap inside p [] = Ok (at p [])
gap (suc inside) p (c ∷ t) = gap inside (p + 1) t
gap zero p (c ∷ t) =
    at_step (step_of (c ∷ t)) (λ n. gap (n - 1) (p + 1) t) (Ok (at p (c ∷ t)))
    (Err (record { place = p; kind = faults.OpenComment }))
