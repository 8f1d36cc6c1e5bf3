-- The names of goals, and the names that a proof gives to the goals below a goal.
use Rattle.std.specs.Prelude.{ℕ, ◌+◌, ◌^◌, ◌<◌, ◌≤◌, ◌≡◌, Bool, true, false, ◌&&◌, nat_eq, List, [], ◌∷◌, ◌++◌, Option, Some, None}
use Rattle.std.specs.Cmp.Lexicographic.{pointwise}
use Rattle.ap_list.specs.Lists.{Each}

-- a goal's name: the numbers of the induction that it is under, its case of that induction, its place
-- among the subgoals of that case, level by level, and its primes
pub record Name : Type 0 where
  pub induction : List ℕ
  pub case : Option ℕ
  pub path : List ℕ
  pub primes : ℕ

-- a number in a name counts from 1, and has 32 bits
abbrev pub IsCount : ℕ → Type 0
IsCount k = (1 ≤ k) × (k < 2 ^ 32)

-- a case is named only under an induction, and a pushed goal has neither a path nor primes
abbrev pub IsPlaced : List ℕ → Option ℕ → List ℕ → ℕ → Type 0
IsPlaced [] None path primes = Unit {0}
IsPlaced [] (Some k) path primes = ⊥
IsPlaced (i ∷ is) None path primes = (path ≡ []) × (primes ≡ 0)
IsPlaced (i ∷ is) (Some k) path primes = IsCount k

-- what each name keeps
pub record IsName (name : Name) : Type 0 where
  pub induction : Each IsCount name.induction
  pub path : Each IsCount name.path
  pub primes : name.primes < 2 ^ 32
  pub placed : IsPlaced name.induction name.case name.path name.primes

-- a pushed goal is named by the numbers of its induction alone
abbrev pub has_induction_alone : List ℕ → Option ℕ → Bool
has_induction_alone [] case = false
has_induction_alone (i ∷ is) None = true
has_induction_alone (i ∷ is) (Some k) = false

abbrev pub is_pushed : Name → Bool
is_pushed name = has_induction_alone name.induction name.case

-- the name `Goal`
abbrev pub root : Name
root = record { induction = []; case = None; path = []; primes = 0 }

-- one level down: the case of a pushed goal, else the subgoal, without the primes
abbrev pub below : List ℕ → Option ℕ → List ℕ → ℕ → Name
below [] case path k = record { induction = []; case = case; path = path ++ k ∷ []; primes = 0 }
below (i ∷ is) None path k = record { induction = i ∷ is; case = Some k; path = []; primes = 0 }
below (i ∷ is) (Some c) path k = record { induction = i ∷ is; case = Some c; path = path ++ k ∷ []; primes = 0 }

-- the k-th of several children
abbrev pub child_of : Name → ℕ → Name
child_of name k = below name.induction name.case name.path k

-- the only child
abbrev pub primed_of : Name → Name
primed_of name = record name { primes = name.primes + 1 }

-- the k-th goal that is pushed in the proof of what this name is under
abbrev pub pushed_of : Name → ℕ → Name
pushed_of name k = record { induction = name.induction ++ k ∷ []; case = None; path = []; primes = 0 }

-- whether two names are one, as definitions test it
abbrev pub case_eq : Option ℕ → Option ℕ → Bool
case_eq None None = true
case_eq (Some a) (Some b) = nat_eq a b
case_eq None (Some b) = false
case_eq (Some a) None = false

abbrev pub name_eq : Name → Name → Bool
name_eq a b = pointwise nat_eq a.induction b.induction && (case_eq a.case b.case && (pointwise nat_eq a.path b.path && nat_eq a.primes b.primes))
