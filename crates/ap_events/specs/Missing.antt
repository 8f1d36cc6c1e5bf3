-- What a second pass is refused for: a name that isn't there any more.
use Rattle.std.specs.Prelude.{◌≡◌, ℕ, true, List, ◌∷◌, Some, None, is_some}
use Rattle.ap_list.specs.Lists.{Each}
use Rattle.ap_value.specs.declared.symbol.Symbol.{Symbol}
use Rattle.ap_reader.specs.declared.form.Form.{Form}
use Rattle.ap_world.specs.declared.entry.Entry.{Entry}
use Rattle.ap_world.specs.Alike.{Covers}
use Rattle.ap_world.specs.World.{Shown, entry_of, are_distinct}
use Rattle.ap_translate.specs.declared.fault.TransKind.TheVariants as kinds
use Rattle.ap_plain.specs.declared.limits.Limits.{Limits}
use Rattle.ap_stated.specs.declared.refusing.Refusal.{Refusal}
use Rattle.ap_plain.specs.Ends.{Done, worlds_in}
use Rattle.ap_stated.specs.Texts.{refused_line}
use Rattle.ap_events.specs.Books.{Earlier, worked, worked_again}

-- The refused line of one event is printed alone, for a name that isn't known; and a name of these entries isn't in the
-- world before, nor in any that was passed through.
pub record MissesName (d : Done) (v : Shown) (U : List Entry) : Type 0 where
  pub title : List ℕ
  pub text : d.text ≡ refused_line title (Refusal.Translation kinds.UnknownName)
  pub name : Symbol
  pub there : is_some (entry_of U name) ≡ true
  pub gone : Each (λ x. entry_of x.entries name ≡ None) (v ∷ worlds_in d.told)

-- so it is wherever what was admitted first is refused when it is done again
abbrev pub AgainMissesName : Type 0
AgainMissesName = (limits : Limits) (earlier : Earlier) → Each (λ p. are_distinct p.1.entries ≡ true) earlier → (f : Form) (u v w : Shown) → Covers v.entries u.entries
    → (worked limits earlier u f).next ≡ Some w → (worked_again earlier v f).next ≡ None → MissesName (worked_again earlier v f) v w.entries
