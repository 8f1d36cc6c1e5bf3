-- What contracts see of a world, and what is looked up in it.
use Rattle.std.specs.Prelude.{Bool, true, false, cond, ◌||◌, List, [], ◌∷◌, ◌++◌, map, Option, Some, None, is_some}
use Rattle.ap_list.specs.Lists.{is_among}
use Rattle.ap_value.specs.declared.symbol.Symbol.{Symbol}
use Rattle.ap_value.specs.declared.value.Value.{Value}
use Rattle.ap_value.specs.Values.{symbol_eq}
use Rattle.ap_world.specs.declared.entry.Function.{Function}
use Rattle.ap_world.specs.declared.entry.Theorem.{Theorem}
use Rattle.ap_world.specs.declared.entry.Entry.{Entry}
use Rattle.ap_world.specs.declared.entry.Entry.TheVariants as entry
use Rattle.ap_world.specs.declared.entry.EntryRef.{EntryRef}
use Rattle.ap_world.specs.declared.entry.EntryRef.TheVariants as lent
use Rattle.ap_world.specs.declared.theory.Theory.{Theory}
use Rattle.ap_world.specs.Meaning.{Defs}
use Rattle.ap_world.specs.Primitives.{prim_of}

-- the entries, oldest first, and the current theory
pub record Shown : Type 0 where
  pub entries : List Entry
  pub theory : Theory

-- the name that an entry takes
abbrev pub name_in : Entry → Symbol
name_in (entry.Function f) = f.name
name_in (entry.Theorem u) = u.name
name_in (entry.Constant c v) = c

-- the first entry of a name
abbrev pub entry_of : List Entry → Symbol → Option Entry
entry_of [] x = None
entry_of (y ∷ ys) x = cond (symbol_eq x (name_in y)) (Some y) (entry_of ys x)

-- the function, the theorem, the constant's value, where the entry is one
abbrev pub as_function : Option Entry → Option Function
as_function (Some (entry.Function f)) = Some f
as_function o = None

abbrev pub as_theorem : Option Entry → Option Theorem
as_theorem (Some (entry.Theorem u)) = Some u
as_theorem o = None

abbrev pub as_constant : Option Entry → Option Value
as_constant (Some (entry.Constant c v)) = Some v
as_constant o = None

-- what each name is defined as
abbrev pub function_of : List Entry → Defs
function_of W f = as_function (entry_of W f)

abbrev pub theorem_of : List Entry → Symbol → Option Theorem
theorem_of W x = as_theorem (entry_of W x)

abbrev pub constant_of : List Entry → Symbol → Option Value
constant_of W x = as_constant (entry_of W x)

-- a name is taken by an entry, or by a primitive
abbrev pub has_name : List Entry → Symbol → Bool
has_name W x = is_some (prim_of x) || is_some (entry_of W x)

-- the names of the entries are distinct, and no primitive's
abbrev pub are_distinct : List Entry → Bool
are_distinct [] = true
are_distinct (y ∷ ys) = cond (has_name ys (name_in y)) false (are_distinct ys)

-- the world with one entry more at its end
abbrev pub added : Shown → Entry → Shown
added w y = record w { entries = w.entries ++ y ∷ [] }

-- the world with functions more at its end, in their order
abbrev pub added_all : Shown → List Function → Shown
added_all w fs = record w { entries = w.entries ++ map entry.Function fs }

-- one of the names is taken, or stands again further on
abbrev pub are_taken : List Entry → List Function → Bool
are_taken W [] = false
are_taken W (f ∷ fs) = (has_name W f.name || is_among symbol_eq f.name (map (λ g. g.name) fs)) || are_taken W fs

-- the entry that is lent
abbrev pub lent_entry : EntryRef → Entry
lent_entry (lent.Function f) = entry.Function f.now
lent_entry (lent.Theorem u) = entry.Theorem u.now
lent_entry (lent.Constant c v) = entry.Constant c.now v.now
