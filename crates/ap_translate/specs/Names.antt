-- Which symbols are constants, and which may be variables or name an event.
use Rattle.std.specs.Prelude.{ℕ, ◌-◌, Bool, ◌==◌, ◌&&◌, ◌||◌, not, nat_le, List, length, get_or, codes}
use Rattle.ap_list.specs.Lists.{is_among}
use Rattle.ap_value.specs.declared.symbol.Symbol.{Symbol}
use Rattle.ap_value.specs.Values.{symbol_eq, acl2}
use Rattle.ap_world.specs.Names.{t_name, nil_name}
use Rattle.ap_translate.specs.Macros.{is_macro}

-- `t`, `nil` and keywords are constants
abbrev pub is_constant : Symbol → Bool
is_constant s = s.keyword || symbol_eq s t_name || symbol_eq s nil_name

-- the name stands between asterisks, with a byte between them
abbrev pub is_starred : List ℕ → Bool
is_starred n = nat_le 3 (length n) && get_or n 0 0 == 42 && get_or n (length n - 1) 0 == 42

-- a variable is no constant, doesn't stand between asterisks, and isn't one of those before it
abbrev pub can_be_bound : Symbol → List Symbol → Bool
can_be_bound s before = not (is_constant s) && not (is_starred s.name) && not (is_among symbol_eq s before)

-- a macro, or `lambda`, which begins the head of ((lambda (v ..) body) e ..)
abbrev pub is_word : Symbol → Bool
is_word s = is_macro s || symbol_eq s (acl2 (codes "LAMBDA"))

-- what may name a function or a theorem: no constant, no such word, and nothing between asterisks
abbrev pub may_name : Symbol → Bool
may_name s = not (is_constant s) && not (is_word s) && not (is_starred s.name)

-- what may name a constant: it stands between asterisks
abbrev pub may_name_constant : Symbol → Bool
may_name_constant s = not (is_constant s) && not (is_macro s) && is_starred s.name
