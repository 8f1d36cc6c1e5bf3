-- How a name is printed, and which name a text is read as.
use Rattle.std.specs.Prelude.{ℕ, ◌≡◌, List, [], ◌∷◌, ◌++◌, Option, Some, None, codes, decimal, replicate, nat_lt, if◌then◌else◌}
use Rattle.std.specs.Str.{str_to_ascii_lowercase}
use Rattle.ap_names.specs.Names.{Name, IsName}

-- the numbers in decimal, each after a dot
abbrev pub dotted : List ℕ → List ℕ
dotted [] = []
dotted (k ∷ ks) = codes "." ++ decimal k ++ dotted ks

-- up to three primes print as themselves, and more as their number between two
unfoldable pub primes_text : ℕ → List ℕ
primes_text n = if nat_lt n 4 then replicate n 39 else codes "'" ++ decimal n ++ codes "'"

-- the root, or a subgoal of it by its numbers
unfoldable pub place_text : List ℕ → List ℕ
place_text [] = codes "Goal"
place_text (k ∷ ks) = codes "Subgoal " ++ decimal k ++ dotted ks

-- a pushed goal by the numbers of its induction, or a goal under that induction by those of its case
unfoldable pub induction_text : ℕ → List ℕ → Option ℕ → List ℕ → List ℕ
induction_text i is None path = codes "*" ++ decimal i ++ dotted is
induction_text i is (Some c) path =
    codes "Subgoal *" ++ decimal i ++ dotted is ++ codes "/" ++ decimal c ++ dotted path

-- a name without its primes
abbrev pub bare_text : List ℕ → Option ℕ → List ℕ → List ℕ
bare_text [] case path = place_text path
bare_text (i ∷ is) case path = induction_text i is case path

-- the printed bytes of a name
abbrev pub name_text : Name → List ℕ
name_text name = bare_text name.induction name.case name.path ++ primes_text name.primes

-- a name prints as a text, the case of letters aside
abbrev pub PrintsAs : Name → List ℕ → Type 0
PrintsAs name text = str_to_ascii_lowercase (name_text name) ≡ str_to_ascii_lowercase text

-- what a text is read as: the name that prints as it, and none exactly where no name does
abbrev pub IsReading : List ℕ → Option Name → Type 0
IsReading text (Some name) = IsName name × PrintsAs name text
IsReading text None = (name : Name) → IsName name → ¬ PrintsAs name text
