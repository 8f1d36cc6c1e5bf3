-- The event `in-theory`.
use Rattle.std.specs.Prelude.{List, [], ◌∷◌, Option, Some, None, codes}
use Rattle.ap_reader.specs.declared.form.Form.{Form}
use Rattle.ap_translate.specs.declared.fault.TransKind.TheVariants as kinds
use Rattle.ap_reader.specs.Tops.{items_in}
use Rattle.ap_world.specs.Theories.{ShownTheory}
use Rattle.ap_world.specs.World.{Shown}
use Rattle.ap_hints.specs.Changes.{Changed, changes_by, changed_theory}
use Rattle.ap_stated.specs.declared.refusing.Refusal.{Refusal}
use Rattle.ap_plain.specs.Ends.{Done, admitted, refused_alone}
use Rattle.ap_plain.specs.Proposals.{with_theory}
use Rattle.ap_stated.specs.Texts.{said_line}

-- The shape: (in-theory E), where E is (enable R ..), (disable R ..) or (e/d (R ..) (R ..)).

abbrev pub changes_of_parts : Option (List Form) → Option Changed
changes_of_parts (Some (h ∷ e ∷ [])) = changes_by (items_in e)
changes_of_parts o = None

abbrev pub changes_of : Form → Option Changed
changes_of f = changes_of_parts (items_in f)

-- its event has no name, and the last line alone; None: a name or a rune isn't known
unfoldable pub changed_event : Shown → Option ShownTheory → Done
changed_event w None = refused_alone (codes "IN-THEORY") (Refusal.Translation kinds.UnknownName)
changed_event w (Some h) = admitted (with_theory w h) (said_line (codes "IN-THEORY") (codes " admitted")) []

unfoldable pub theory_event : Shown → Option Changed → Done
theory_event w None = refused_alone (codes "IN-THEORY") Refusal.BadEvent
theory_event w (Some c) = changed_event w (changed_theory w c)
