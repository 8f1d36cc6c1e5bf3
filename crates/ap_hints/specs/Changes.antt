-- What `(enable R ..)`, `(disable R ..)` and `(e/d (R ..) (R ..))` make of the current theory. See the manual's topics
-- `enable`, `disable` and `e/d`.
use Rattle.std.specs.Prelude.{cond, List, [], ◌∷◌, ◌++◌, Option, Some, None, codes}
use Rattle.ap_value.specs.declared.symbol.Symbol.{Symbol}
use Rattle.ap_reader.specs.declared.form.Form.{Form}
use Rattle.ap_reader.specs.Tops.{layer_of, symbol_at, items_in, is_symbol, is_keyword}
use Rattle.ap_world.specs.declared.entry.Entry.{Entry}
use Rattle.ap_world.specs.declared.theory.Rune.{Rune}
use Rattle.ap_world.specs.declared.theory.RuneKind.{RuneKind}
use Rattle.ap_world.specs.declared.theory.RuneKind.TheVariants as kind
use Rattle.ap_world.specs.Theories.{ShownTheory, rune_of}
use Rattle.ap_world.specs.World.{Shown}
use Rattle.ap_hints.specs.declared.changes.Changes.{Changes}
use Rattle.ap_hints.specs.Forms.{both}
use Rattle.ap_hints.specs.Runes.{runes_named, knows_kind, changed_runes}

-- what is enabled, and what is then disabled
pub record Changed : Type 0 where
  pub enabled : List Form
  pub disabled : List Form

abbrev pub as_changed : Changes → Changed
as_changed c = record { enabled = c.enabled.now; disabled = c.disabled.now }

abbrev pub both_lists : List Form → Option Changed
both_lists (a ∷ b ∷ []) = both (λ es ds. Some (record { enabled = es; disabled = ds })) (items_in a) (items_in b)
both_lists fs = None

abbrev pub changes_by : Option (List Form) → Option Changed
changes_by (Some (h ∷ fs)) =
    cond (is_symbol (codes "ENABLE") h) (Some (record { enabled = fs; disabled = [] }))
    (cond (is_symbol (codes "DISABLE") h) (Some (record { enabled = []; disabled = fs }))
    (cond (is_symbol (codes "E/D") h) (both_lists fs) None))
changes_by o = None

-- What an R stands for: a name, or a rune (KIND NAME). Whatever is neither, or isn't known, is unknown.

unfoldable pub kind_of : Form → Option RuneKind
kind_of f =
    cond (is_keyword (codes "DEFINITION") f) (Some kind.Definition)
    (cond (is_keyword (codes "EXECUTABLE-COUNTERPART") f) (Some kind.Executable)
    (cond (is_keyword (codes "TYPE-PRESCRIPTION") f) (Some kind.TypePrescription)
    (cond (is_keyword (codes "INDUCTION") f) (Some kind.Induction)
    (cond (is_keyword (codes "REWRITE") f) (Some kind.Rewrite)
    (cond (is_keyword (codes "LINEAR") f) (Some kind.Linear)
    (cond (is_keyword (codes "ELIM") f) (Some kind.Elim) None))))))

abbrev pub known_rune : List Entry → RuneKind → Symbol → Option (List Rune)
known_rune W k n = cond (knows_kind W k n) (Some (rune_of k n ∷ [])) None

abbrev pub rune_by : List Entry → Option (List Form) → Option (List Rune)
rune_by W (Some (k ∷ n ∷ [])) = both (known_rune W) (kind_of k) (symbol_at (layer_of n))
rune_by W o = None

abbrev pub item_by : List Entry → Form → Option Symbol → Option (List Rune)
item_by W f (Some n) = runes_named W n
item_by W f None = rune_by W (items_in f)

abbrev pub item_runes : List Entry → Form → Option (List Rune)
item_runes W f = item_by W f (symbol_at (layer_of f))

abbrev pub then_runes : List Rune → List Rune → Option (List Rune)
then_runes rs ss = Some (rs ++ ss)

abbrev pub all_runes : List Entry → List Form → Option (List Rune)
all_runes W [] = Some []
all_runes W (f ∷ fs) = both then_runes (item_runes W f) (all_runes W fs)

-- the theory that the changes make of the current one; None: something is unknown
abbrev pub theory_by : ShownTheory → List Rune → List Rune → Option ShownTheory
theory_by h es ds = Some (changed_runes es ds h)

abbrev pub changed_theory : Shown → Changed → Option ShownTheory
changed_theory w c = both (theory_by w.theory) (all_runes w.entries c.enabled) (all_runes w.entries c.disabled)
