-- What names and runes stand for in a theory, and theories with more or fewer runes disabled. See the manual's
-- topics `rune`, `theories` and `in-theory`.
use Rattle.std.specs.Prelude.{Bool, true, false, cond, ◌||◌, List, [], ◌∷◌, ◌++◌, map, Option, Some, None}
use Rattle.ap_list.specs.Lists.{is_among}
use Rattle.ap_value.specs.declared.symbol.Symbol.{Symbol}
use Rattle.ap_world.specs.declared.entry.Entry.{Entry}
use Rattle.ap_world.specs.declared.entry.Function.{Function}
use Rattle.ap_world.specs.declared.entry.Theorem.{Theorem}
use Rattle.ap_world.specs.declared.entry.RuleClass.{RuleClass}
use Rattle.ap_world.specs.declared.entry.RuleClass.TheVariants as class
use Rattle.ap_world.specs.declared.theory.Rune.{Rune}
use Rattle.ap_world.specs.declared.theory.Rune.TheVariants as rune
use Rattle.ap_world.specs.declared.theory.RuneKind.{RuneKind}
use Rattle.ap_world.specs.declared.theory.RuneKind.TheVariants as kind
use Rattle.ap_world.specs.Theories.{ShownTheory, kind_eq, rune_eq}
use Rattle.ap_world.specs.World.{function_of, theorem_of}

-- the kind of the runes of a class
abbrev pub class_kind : RuleClass → RuneKind
class_kind class.Rewrite = kind.Rewrite
class_kind class.Linear = kind.Linear
class_kind class.TypePrescription = kind.TypePrescription
class_kind class.Elim = kind.Elim

abbrev pub class_rune : Symbol → RuleClass → Rune
class_rune n class.Rewrite = rune.Rewrite n
class_rune n class.Linear = rune.Linear n
class_rune n class.TypePrescription = rune.TypePrescription n
class_rune n class.Elim = rune.Elim n

-- a function's name stands for its definition and its induction, a theorem's for the runes of its classes; another
-- name is unknown
abbrev pub runes_by : Symbol → Option Function → Option Theorem → Option (List Rune)
runes_by n (Some f) t = Some (rune.Definition n ∷ rune.Induction n ∷ [])
runes_by n None (Some t) = Some (map (class_rune n) t.classes)
runes_by n None None = None

abbrev pub runes_named : List Entry → Symbol → Option (List Rune)
runes_named W n = runes_by n (function_of W n) (theorem_of W n)

-- a rune is known where the world has such a function, or such a theorem of that class
abbrev pub is_of_function : RuneKind → Bool
is_of_function kind.Definition = true
is_of_function kind.Executable = true
is_of_function kind.TypePrescription = true
is_of_function kind.Induction = true
is_of_function kind.Rewrite = false
is_of_function kind.Linear = false
is_of_function kind.Elim = false

abbrev pub has_class : RuneKind → List RuleClass → Bool
has_class k [] = false
has_class k (c ∷ cs) = kind_eq k (class_kind c) || has_class k cs

abbrev pub knows_by : RuneKind → Option Function → Option Theorem → Bool
knows_by k (Some f) t = is_of_function k
knows_by k None (Some t) = has_class k t.classes
knows_by k None None = false

abbrev pub knows_kind : List Entry → RuneKind → Symbol → Bool
knows_kind W k n = knows_by k (function_of W n) (theorem_of W n)

-- with runes disabled too, each once, behind those that are
abbrev pub with_runes : List Rune → List Rune → List Rune
with_runes ds [] = ds
with_runes ds (r ∷ rs) = with_runes (cond (is_among rune_eq r ds) ds (ds ++ r ∷ [])) rs

-- without runes that are enabled
abbrev pub without_runes : List Rune → List Rune → List Rune
without_runes rs [] = []
without_runes rs (d ∷ ds) = cond (is_among rune_eq d rs) (without_runes rs ds) (d ∷ without_runes rs ds)

-- a theory in which runes are enabled, and then others are disabled
abbrev pub changed_runes : List Rune → List Rune → ShownTheory → ShownTheory
changed_runes es ds h = record { disabled = with_runes (without_runes es h.disabled) ds }
