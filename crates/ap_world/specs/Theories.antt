-- What contracts see of a theory, and what it enables. See the manual's topics `rune` and `theories`.
use Rattle.std.specs.Prelude.{Bool, true, false, not, ◌&&◌, List}
use Rattle.ap_list.specs.Lists.{is_among}
use Rattle.ap_value.specs.declared.symbol.Symbol.{Symbol}
use Rattle.ap_value.specs.Values.{symbol_eq}
use Rattle.ap_world.specs.declared.theory.Rune.{Rune}
use Rattle.ap_world.specs.declared.theory.Rune.TheVariants as rune
use Rattle.ap_world.specs.declared.theory.RuneKind.{RuneKind}
use Rattle.ap_world.specs.declared.theory.RuneKind.TheVariants as kind

-- the runes that a theory disables; every other rune is enabled
pub record ShownTheory : Type 0 where
  pub disabled : List Rune

-- the rune of a kind and a name
abbrev pub rune_of : RuneKind → Symbol → Rune
rune_of kind.Definition f = rune.Definition f
rune_of kind.Executable f = rune.Executable f
rune_of kind.TypePrescription f = rune.TypePrescription f
rune_of kind.Induction f = rune.Induction f
rune_of kind.Rewrite f = rune.Rewrite f
rune_of kind.Linear f = rune.Linear f
rune_of kind.Elim f = rune.Elim f

-- its kind and its name
abbrev pub kind_in : Rune → RuneKind
kind_in (rune.Definition f) = kind.Definition
kind_in (rune.Executable f) = kind.Executable
kind_in (rune.TypePrescription f) = kind.TypePrescription
kind_in (rune.Induction f) = kind.Induction
kind_in (rune.Rewrite f) = kind.Rewrite
kind_in (rune.Linear f) = kind.Linear
kind_in (rune.Elim f) = kind.Elim

abbrev pub symbol_in : Rune → Symbol
symbol_in (rune.Definition f) = f
symbol_in (rune.Executable f) = f
symbol_in (rune.TypePrescription f) = f
symbol_in (rune.Induction f) = f
symbol_in (rune.Rewrite f) = f
symbol_in (rune.Linear f) = f
symbol_in (rune.Elim f) = f

abbrev pub kind_eq : RuneKind → RuneKind → Bool
kind_eq kind.Definition kind.Definition = true
kind_eq kind.Executable kind.Executable = true
kind_eq kind.TypePrescription kind.TypePrescription = true
kind_eq kind.Induction kind.Induction = true
kind_eq kind.Rewrite kind.Rewrite = true
kind_eq kind.Linear kind.Linear = true
kind_eq kind.Elim kind.Elim = true
kind_eq k l = false

-- two runes are one
abbrev pub rune_eq : Rune → Rune → Bool
rune_eq r s = kind_eq (kind_in r) (kind_in s) && symbol_eq (symbol_in r) (symbol_in s)

-- a theory enables every rune that it doesn't disable
abbrev pub is_enabled : ShownTheory → Rune → Bool
is_enabled h r = not (is_among rune_eq r h.disabled)
