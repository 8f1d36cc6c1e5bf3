-- The table of a theory: for each name the kinds of its runes that are disabled.
use Rattle.std.specs.Prelude.{Bool, true, false, List, unwrap_or}
use Rattle.std.specs.Map.{lookup}
use Rattle.ap_value.specs.declared.symbol.Symbol.{Symbol}
use Rattle.ap_value.specs.Values.{symbol_eq}
use Rattle.ap_world.specs.declared.theory.RuneKind.{RuneKind}
use Rattle.ap_world.specs.declared.theory.RuneKind.TheVariants as kind
use Rattle.ap_world.specs.declared.runes.Kinds.{Kinds}

-- a kind is among those that are marked
abbrev pub has_kind : Kinds → RuneKind → Bool
has_kind ks kind.Definition = ks.definition
has_kind ks kind.Executable = ks.executable
has_kind ks kind.TypePrescription = ks.type_prescription
has_kind ks kind.Induction = ks.induction
has_kind ks kind.Rewrite = ks.rewrite
has_kind ks kind.Linear = ks.linear
has_kind ks kind.Elim = ks.elimination

-- one kind more is marked
abbrev pub with_kind : Kinds → RuneKind → Kinds
with_kind ks kind.Definition = record ks { definition = true }
with_kind ks kind.Executable = record ks { executable = true }
with_kind ks kind.TypePrescription = record ks { type_prescription = true }
with_kind ks kind.Induction = record ks { induction = true }
with_kind ks kind.Rewrite = record ks { rewrite = true }
with_kind ks kind.Linear = record ks { linear = true }
with_kind ks kind.Elim = record ks { elimination = true }

abbrev pub no_kinds : Kinds
no_kinds = record { definition = false; executable = false; type_prescription = false; induction = false; rewrite = false; linear = false; elimination = false }

-- kinds by names
abbrev pub RuneTable : Type 0
RuneTable = List (Symbol × Kinds)

-- the table has the rune of this kind and name
abbrev pub has_rune : RuneTable → RuneKind → Symbol → Bool
has_rune table k f = has_kind (unwrap_or (lookup (symbol_eq f) table) no_kinds) k
