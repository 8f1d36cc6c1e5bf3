-- What a second pass needs of the world that the first one gave from the same world.
use Rattle.std.proofs.Common.{◌≡◌, List, [], ◌++◌, Option, Some, None, refl, ap, sym, ◌∙◌, subst}
use Rattle.std.proofs.lemmas.Option.{none-some}
use Rattle.ap_list.specs.Lists.{Each}
use Rattle.ap_value.specs.declared.symbol.Symbol.{Symbol}
use Rattle.ap_value.specs.declared.value.Value.{Value}
use Rattle.ap_reader.specs.declared.form.Form.{Form}
use Rattle.ap_world.specs.declared.entry.Entry.{Entry}
use Rattle.ap_world.specs.Alike.{Covers}
use Rattle.ap_world.specs.Sound.{Sound}
use Rattle.ap_world.specs.World.{Shown, entry_of, as_constant, constant_of}
use Rattle.ap_world.proofs.Covering.{covers_self, covers_grown, covers_defines}
use Rattle.ap_world.proofs.Extending.{entry_of-kept}
use Rattle.ap_plain.specs.declared.limits.Limits.{Limits}
use Rattle.ap_plain.specs.Ends.{worlds_in}
use Rattle.ap_events.specs.Backing.{CoversAdded, HasDefinitions}
use Rattle.ap_events.specs.Books.{worked, worked_again}
use Rattle.ap_events.proofs.Sounding.{worked_grows, again_backed}

pub redone_made : (limits : Limits) (f : Form) (v w : Shown) → Sound w.entries → (worked limits [] v f).next ≡ Some w → Each (λ x. CoversAdded v.entries x.entries w.entries) (worlds_in (worked_again [] v f).told)
redone_made limits f v w sound is = (again_backed limits [] tt f v v w sound (covers_self v.entries) is).made

constant_kept : (W X : List Entry) (x : Symbol) (c : Value) → constant_of W x ≡ Some c → constant_of (W ++ X) x ≡ Some c
constant_kept W X x c h = go (entry_of W x) refl
  where
    go : (o : Option Entry) → entry_of W x ≡ o → constant_of (W ++ X) x ≡ Some c
    go None e = absurd (none-some c (sym (ap as_constant e) ∙ h))
    go (Some y) e = ap as_constant (entry_of-kept W X x y e) ∙ sym (ap as_constant e) ∙ h

grown_has : (W X : List Entry) → HasDefinitions W (W ++ X)
grown_has W X = record { functions = covers_defines W (W ++ X) (covers_grown W X); constants = constant_kept W X }

pub redone_has : (limits : Limits) (f : Form) (v w : Shown) → (worked limits [] v f).next ≡ Some w → HasDefinitions v.entries w.entries
redone_has limits f v w is =
    let (es, grown) = (worked_grows limits [] v f).0 w is in
    subst (HasDefinitions v.entries) (sym grown) (grown_has v.entries es)
