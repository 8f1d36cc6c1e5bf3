-- The macros by their names.
use Rattle.std.specs.Prelude.{ℕ, ◌-◌, Bool, true, false, cond, ◌==◌, ◌&&◌, ◌||◌, nat_eq, nat_le, List, [], ◌∷◌, length, take, drop, get_or, Option, Some, None, is_some, codes}
use Rattle.std.specs.List.{list_all}
use Rattle.ap_list.specs.Lists.{lookup_by}
use Rattle.ap_value.specs.declared.symbol.Symbol.{Symbol}
use Rattle.ap_value.specs.Values.{symbol_eq, acl2}
use Rattle.ap_translate.specs.declared.macros.Macro.{Macro}
use Rattle.ap_translate.specs.declared.macros.Macro.TheVariants as m

unfoldable pub macros : List (Symbol × Macro)
macros =
    (acl2 (codes "QUOTE"), m.Quote) ∷ (acl2 (codes "COND"), m.Cond) ∷ (acl2 (codes "LET"), m.Let) ∷ (acl2 (codes "LET*"), m.LetStar)
    ∷ (acl2 (codes "AND"), m.And) ∷ (acl2 (codes "OR"), m.Or)
    ∷ (acl2 (codes "+"), m.Plus) ∷ (acl2 (codes "*"), m.Times) ∷ (acl2 (codes "-"), m.Minus)
    ∷ (acl2 (codes ">"), m.Greater) ∷ (acl2 (codes "<="), m.AtMost) ∷ (acl2 (codes ">="), m.AtLeast) ∷ (acl2 (codes "/="), m.Differs)
    ∷ (acl2 (codes "1+"), m.Increment) ∷ (acl2 (codes "1-"), m.Decrement)
    ∷ (acl2 (codes "LIST"), m.List) ∷ (acl2 (codes "LIST*"), m.ListStar) ∷ (acl2 (codes "APPEND"), m.Append) ∷ []

-- the macro of a name
unfoldable pub macro_of : Symbol → Option Macro
macro_of s = lookup_by symbol_eq macros s

-- how many arguments it takes, where they are terms
abbrev pub fits : Macro → ℕ → Bool
fits m.And n = true
fits m.Or n = true
fits m.Plus n = true
fits m.Times n = true
fits m.Minus n = nat_eq n 1 || nat_eq n 2
fits m.Greater n = nat_eq n 2
fits m.AtMost n = nat_eq n 2
fits m.AtLeast n = nat_eq n 2
fits m.Differs n = nat_eq n 2
fits m.Increment n = nat_eq n 1
fits m.Decrement n = nat_eq n 1
fits m.List n = true
fits m.ListStar n = nat_le 1 n
fits m.Append n = true
fits m.Quote n = false
fits m.Cond n = false
fits m.Let n = false
fits m.LetStar n = false

-- `caar` to `cddddr`: C, two to four of A and D, R
abbrev pub is_turn : ℕ → Bool
is_turn b = b == 65 || b == 68

abbrev pub inner : List ℕ → List ℕ
inner n = take (length n - 2) (drop 1 n)

abbrev pub is_accessor : List ℕ → Bool
is_accessor n =
    nat_le 4 (length n) && nat_le (length n) 6 && get_or n 0 0 == 67 && get_or n (length n - 1) 0 == 82 && list_all is_turn (inner n)

abbrev pub accessor_path : List ℕ → Option (List ℕ)
accessor_path n = cond (is_accessor n) (Some (inner n)) None

-- the A and D that a name stands for, the outermost `car` or `cdr` first
unfoldable pub path_of : Symbol → Option (List ℕ)
path_of s =
    cond s.keyword None
    (cond (symbol_eq s (acl2 (codes "FIRST"))) (Some (codes "A"))
    (cond (symbol_eq s (acl2 (codes "SECOND"))) (Some (codes "AD"))
    (cond (symbol_eq s (acl2 (codes "REST"))) (Some (codes "D")) (accessor_path s.name))))

-- the name of a macro
abbrev pub is_macro : Symbol → Bool
is_macro s = is_some (macro_of s) || is_some (path_of s)
