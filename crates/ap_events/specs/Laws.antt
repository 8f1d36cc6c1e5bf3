-- What nested events keep.
use Rattle.std.specs.Prelude.{◌≡◌, ◌⊎◌, List, ◌++◌, Some}
use Rattle.ap_list.specs.Lists.{Each, AnyOf}
use Rattle.ap_reader.specs.declared.form.Form.{Form}
use Rattle.ap_world.specs.declared.entry.Entry.{Entry}
use Rattle.ap_world.specs.World.{Shown}
use Rattle.ap_plain.specs.declared.limits.Limits.{Limits}
use Rattle.ap_plain.specs.Ends.{Done, worlds_in}
use Rattle.ap_plain.specs.Laws.{GoodWorld}
use Rattle.ap_events.specs.Backing.{Backed}
use Rattle.ap_events.specs.Books.{Earlier, worked, worked_again}

-- the worlds of earlier books are good
abbrev pub AreGood : Earlier → Type 0
AreGood earlier = Each (λ p. GoodWorld p.1) earlier

-- each world that a form's events pass through is good, where the one before them is
abbrev pub WorkedKeepGood : Type 0
WorkedKeepGood = (limits : Limits) (earlier : Earlier) → AreGood earlier → (w : Shown) (f : Form) → GoodWorld w → Each GoodWorld (worlds_in (worked limits earlier w f).told)

-- and so it is when they are done again, where a sound list of entries has what they make
abbrev pub AgainKeepsGood : Type 0
AgainKeepsGood = (earlier : Earlier) → AreGood earlier → (w : Shown) (f : Form) (U : List Entry) → GoodWorld w → Backed (worked_again earlier w f) w U
    → Each GoodWorld (worlds_in (worked_again earlier w f).told)

-- the next world, if there is one, has the entries of this one first, and perhaps more
abbrev pub Grows : Done → Shown → Type 0
Grows d w = (v : Shown) → d.next ≡ Some v → (es : List Entry) × (v.entries ≡ w.entries ++ es)

abbrev pub WorkedGrows : Type 0
WorkedGrows = (limits : Limits) (earlier : Earlier) (w : Shown) (f : Form) → Grows (worked limits earlier w f) w × Grows (worked_again earlier w f) w

-- the next world is one that was passed through, or the one before
abbrev pub Tells : Done → Shown → Type 0
Tells d w = (v : Shown) → d.next ≡ Some v → (w ≡ v) ⊎ AnyOf (λ u. u ≡ v) (worlds_in d.told)

abbrev pub WorkedTells : Type 0
WorkedTells = (limits : Limits) (earlier : Earlier) (w : Shown) (f : Form) → Tells (worked limits earlier w f) w × Tells (worked_again earlier w f) w
