-- Events within events. See the manual's topics `local`, `progn` and `encapsulate`.
use Rattle.std.specs.Prelude.{ℕ, zero, suc, cond, List, [], ◌∷◌, ◌++◌, Option, Some, None, codes}
use Rattle.ap_reader.specs.declared.form.Form.{Form}
use Rattle.ap_reader.specs.Tops.{items_in, is_symbol}
use Rattle.ap_world.specs.World.{Shown}
use Rattle.ap_value.specs.declared.symbol.Symbol.{Symbol}
use Rattle.ap_term.specs.Printed.{symbol_text}
use Rattle.ap_stated.specs.declared.refusing.Refusal.{Refusal}
use Rattle.ap_plain.specs.Ends.{passed, Done, refused_alone}
use Rattle.ap_stated.specs.Shapes.{head_of}
use Rattle.ap_stated.specs.Texts.{line}

-- what a form holds: (local E), (progn E ..), (encapsulate () E ..); another form holds no events
pub data Nesting : Type 0 where
  plain : Nesting
  hidden : Form → Nesting
  group : List Form → Nesting
  closed : List Form → Nesting

abbrev pub hidden_in : List Form → Nesting
hidden_in (f ∷ []) = hidden f
hidden_in fs = plain

-- the empty list may be written `nil`
abbrev pub closed_by : Option (List Form) → List Form → Nesting
closed_by (Some []) fs = closed fs
closed_by o fs = plain

abbrev pub closed_in : List Form → Nesting
closed_in [] = plain
closed_in (s ∷ fs) = closed_by (items_in s) fs

abbrev pub nesting_by : Option (List Form) → Nesting
nesting_by (Some (h ∷ fs)) =
    cond (is_symbol (codes "LOCAL") h) (hidden_in fs)
    (cond (is_symbol (codes "PROGN") h) (group fs)
    (cond (is_symbol (codes "ENCAPSULATE") h) (closed_in fs) plain))
nesting_by o = plain

unfoldable pub nesting_of : Form → Nesting
nesting_of f = nesting_by (items_in f)

-- what is nested too deep is refused as an event that isn't built
abbrev pub head_text : Option Symbol → List ℕ
head_text None = codes "FORM"
head_text (Some h) = symbol_text h

abbrev pub too_deep : Form → Done
too_deep f = refused_alone (head_text (head_of f)) Refusal.NotSupported

-- Events one after another, up to the first that is refused, which adds no line to its own.

abbrev pub nothing : Shown → Done
nothing w = record { text = []; next = Some w; told = [] }

abbrev pub joined : Done → Done → Done
joined d e = record { text = d.text ++ e.text; next = e.next; told = d.told ++ e.told }

abbrev pub then_by : Done → Option Shown → (Shown → Done) → Done
then_by d None k = d
then_by d (Some v) k = joined d (k v)

abbrev pub all : (Form → Shown → Done) → List Form → Shown → Done
all g [] w = nothing w
all g (f ∷ fs) w = then_by (g f w) (g f w).next (all g fs)

-- a second pass tells its last world alone, or prints what it refuses
abbrev pub second_by : Done → Option Shown → Done
second_by e None = record { text = line (codes "Second pass") ++ e.text; next = None; told = [] }
second_by e (Some v) = record { text = []; next = Some v; told = passed v ∷ [] }

abbrev pub closing_by : Done → Option Shown → Done → Done
closing_by d None e = d
closing_by d (Some v) e = joined d (second_by e e.next)

-- How one event is done that holds no others.
abbrev pub Leaf : Type 0
Leaf = Form → Shown → Done

-- a form done again, in which at most n events hold each other: what is local is left out, and an `encapsulate` has no
-- second pass of its own
abbrev pub again_in : Leaf → Leaf → Form → Shown → Nesting → Done
again_in again inner f w plain = again f w
again_in again inner f w (hidden g) = nothing w
again_in again inner f w (group fs) = all inner fs w
again_in again inner f w (closed fs) = all inner fs w

unfoldable pub agains : Leaf → ℕ → Form → Shown → Done
agains again zero f w = too_deep f
agains again (suc n) f w = again_in again (agains again n) f w (nesting_of f)

-- a form done first. At its end an `encapsulate` is done again from the world before it, and that gives the world.
abbrev pub first_in : Leaf → Leaf → Leaf → Form → Shown → Nesting → Done
first_in first inner redo f w plain = first f w
first_in first inner redo f w (hidden g) = inner g w
first_in first inner redo f w (group fs) = all inner fs w
first_in first inner redo f w (closed fs) = closing_by (all inner fs w) (all inner fs w).next (all redo fs w)

unfoldable pub firsts : Leaf → Leaf → ℕ → Form → Shown → Done
firsts first again zero f w = too_deep f
firsts first again (suc n) f w = first_in first (firsts first again n) (agains again n) f w (nesting_of f)
