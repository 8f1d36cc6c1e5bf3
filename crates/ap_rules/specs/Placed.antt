-- Linear rules by their places in a list, and the places by the heads of the triggers.
use Rattle.std.specs.Prelude.{◌≡◌, ℕ, ◌+◌, ◌-◌, nat_eq, nat_lt, Bool, false, cond, List, [], ◌∷◌, ◌++◌, length, take, Option, Some, None}
use Rattle.ap_value.specs.declared.symbol.Symbol.{Symbol}
use Rattle.ap_value.specs.Values.{symbol_eq}
use Rattle.ap_term.specs.declared.term.Term.{Term, out-Term}
use Rattle.ap_term.specs.declared.term.Term.TheOpen.{Term-F}
use Rattle.ap_rules.specs.declared.linear.LinearRule.{LinearRule}
use Rattle.ap_rules.specs.Grouped.{at_head}

-- the places of those of a list that pass a test, counted from n
abbrev pub places_from : {R : Type 0} → (R → Bool) → ℕ → List R → List ℕ
places_from test n [] = []
places_from test n (g ∷ gs) = cond (test g) (n ∷ places_from test (n + 1) gs) (places_from test (n + 1) gs)

-- a trigger is a call of this head
abbrev pub is_headed : Symbol → Term-F Term → Bool
is_headed f (Term-F.Call h ts) = symbol_eq h f
is_headed f y = false

abbrev pub is_of : Symbol → LinearRule → Bool
is_of f g = is_headed f (out-Term g.trigger)

-- for each head the places of its rules
abbrev pub places_at : List (Symbol × List ℕ) → Symbol → List ℕ
places_at table f = at_head table f

abbrev pub Placed : List (Symbol × List ℕ) → List LinearRule → Type 0
Placed table gs = (f : Symbol) → places_at table f ≡ places_from (is_of f) 0 gs

-- with one place more at the end, without the last, or as they are
abbrev pub with_last : Bool → ℕ → List ℕ → List ℕ
with_last b i is = cond b (is ++ i ∷ []) is

abbrev pub without_last : Bool → List ℕ → List ℕ
without_last b is = cond b (take (length is - 1) is) is

-- the lesser of the first places of two lists, and a list without its first place where it is this one
abbrev pub least : List ℕ → List ℕ → Option ℕ
least [] [] = None
least [] (y ∷ ys) = Some y
least (x ∷ xs) [] = Some x
least (x ∷ xs) (y ∷ ys) = Some (cond (nat_lt y x) y x)

abbrev pub after : ℕ → List ℕ → List ℕ
after i [] = []
after i (x ∷ xs) = cond (nat_eq x i) xs (x ∷ xs)
