-- What the parts of a printed name are read as: from a whole text, or from the head of one.
use Rattle.std.specs.Prelude.{ℕ, ◌<◌, ◌≤◌, ◌≡◌, List, [], ◌∷◌, ◌++◌, Option, Some, None, decimal}
use Rattle.std.specs.Str.{str_to_ascii_lowercase}
use Rattle.ap_list.specs.Lists.{Each}
use Rattle.ap_names.specs.Names.{Name, IsCount}
use Rattle.ap_names.specs.Printed.{dotted, IsReading}

abbrev pub IsDigit : ℕ → Type 0
IsDigit c = (48 ≤ c) × (c < 58)

-- what may stand after a number: nothing, or a byte that is no digit
abbrev pub EndsNumber : List ℕ → Type 0
EndsNumber [] = Unit {0}
EndsNumber (c ∷ cs) = IsDigit c → ⊥

-- what may stand after numbers with dots: nothing, or a byte that is neither a digit nor a dot
abbrev pub EndsNumbers : List ℕ → Type 0
EndsNumbers [] = Unit {0}
EndsNumbers (c ∷ cs) = (IsDigit c → ⊥) × (c ≡ 46 → ⊥)

-- one number or more
abbrev pub IsNumbers : List ℕ → Type 0
IsNumbers [] = ⊥
IsNumbers (k ∷ ks) = IsCount k × Each IsCount ks

-- the numbers in decimal, with dots between them
abbrev pub numbered : List ℕ → List ℕ
numbered [] = []
numbered (k ∷ ks) = decimal k ++ dotted ks

-- what a whole text is read as: the one that prints as it, and none exactly where none does
abbrev pub IsWhole : {A : Type 0} → (A → Type 0) → (A → List ℕ) → List ℕ → Option A → Type 0
IsWhole Is print text (Some a) = Is a × (text ≡ print a)
IsWhole {A} Is print text None = (a : A) → Is a → ¬ (text ≡ print a)

-- a prints at the head of a text, the rest stands after it, and no other does so
pub record IsHead {A : Type 0} (Is : A → Type 0) (print : A → List ℕ) (Ends : List ℕ → Type 0) (text : List ℕ) (a : A) (rest : List ℕ) : Type 0 where
  pub is : Is a
  pub prints : text ≡ print a ++ rest
  pub alone : (b : A) (t : List ℕ) → Is b → Ends t → text ≡ print b ++ t → (a ≡ b) × (rest ≡ t)

-- nothing prints at the head of a text
abbrev pub HasNoHead : {A : Type 0} → (A → Type 0) → (A → List ℕ) → (List ℕ → Type 0) → List ℕ → Type 0
HasNoHead {A} Is print Ends text = (b : A) (t : List ℕ) → Is b → Ends t → ¬ (text ≡ print b ++ t)

-- a number, numbers with dots between them, and numbers each after a dot
abbrev pub IsNumberHead : List ℕ → ℕ → List ℕ → Type 0
IsNumberHead text k rest = IsHead IsCount decimal EndsNumber text k rest

abbrev pub HasNoNumber : List ℕ → Type 0
HasNoNumber text = HasNoHead IsCount decimal EndsNumber text

abbrev pub IsNumbersHead : List ℕ → List ℕ → List ℕ → Type 0
IsNumbersHead text ks rest = IsHead IsNumbers numbered EndsNumbers text ks rest

abbrev pub HasNoNumbers : List ℕ → Type 0
HasNoNumbers text = HasNoHead IsNumbers numbered EndsNumbers text

-- the list `before` with the numbers after it that the text has at its head, each after a dot
abbrev pub AddsDotted : List ℕ → List ℕ → List ℕ → List ℕ → Type 0
AddsDotted before text numbers rest =
    (ks : List ℕ) × (numbers ≡ before ++ ks) × IsHead (Each IsCount) dotted EndsNumbers text ks rest

abbrev pub HasNoDotted : List ℕ → Type 0
HasNoDotted text = HasNoHead (Each IsCount) dotted EndsNumbers text

-- a text doesn't begin with a byte
abbrev pub BeginsWithout : ℕ → List ℕ → Type 0
BeginsWithout byte text = (rest : List ℕ) → ¬ (text ≡ byte ∷ rest)

-- a text is `front` and then the rest, the case of letters aside
abbrev pub IsAfter : List ℕ → List ℕ → List ℕ → Type 0
IsAfter front text rest = str_to_ascii_lowercase text ≡ str_to_ascii_lowercase front ++ str_to_ascii_lowercase rest

-- a text doesn't begin with `front`, the case of letters aside
abbrev pub BeginsOtherwise : List ℕ → List ℕ → Type 0
BeginsOtherwise front text = (rest : List ℕ) → ¬ (str_to_ascii_lowercase text ≡ str_to_ascii_lowercase front ++ rest)

-- what a text is read as whose letters in lower case are `front` and then those of `rest`
abbrev pub IsReadingAfter : List ℕ → List ℕ → Option Name → Type 0
IsReadingAfter front rest o =
    (text : List ℕ) → str_to_ascii_lowercase text ≡ front ++ str_to_ascii_lowercase rest → IsReading text o
