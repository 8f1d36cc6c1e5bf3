-- The laws of worlds that cover each other, of included worlds, and of what a second pass makes.
use Rattle.std.specs.Prelude.{◌≡◌, Bool, true, false, ◌↔◌, List, [], ◌∷◌, ◌++◌, map, Some, None}
use Rattle.ap_list.specs.Lists.{Each, all_true}
use Rattle.ap_value.specs.declared.symbol.Symbol.{Symbol}
use Rattle.ap_world.specs.declared.entry.Measure.{Measure}
use Rattle.ap_world.specs.declared.entry.Function.{Function}
use Rattle.ap_world.specs.declared.entry.Theorem.{Theorem}
use Rattle.ap_world.specs.declared.entry.Entry.{Entry}
use Rattle.ap_world.specs.Alike.{SameButMask, DefinesAlike, alike_entry, Covers}
use Rattle.ap_world.specs.Including.{has_clash, NoClash, with_missing}
use Rattle.ap_world.specs.Meaning.{Valid}
use Rattle.ap_world.specs.Recursion.{obligations}
use Rattle.ap_world.specs.Sound.{known, Sound}
use Rattle.ap_world.specs.World.{name_in, entry_of, function_of, theorem_of, has_name, are_distinct}

-- the test of entries is that they are one but for a mask
abbrev pub AlikeIsSame : Type 0
AlikeIsSame = (y z : Entry) → (alike_entry y z ≡ true) ↔ SameButMask y z

-- no name has another entry exactly where the test says so
abbrev pub ClashesAreOthers : Type 0
ClashesAreOthers = (W K : List Entry) → are_distinct K ≡ true → (has_clash W K ≡ false) ↔ NoClash W K

-- a sound world with the entries that it lacks of another is sound, where no name of that has another entry in it
abbrev pub IncludedIsSound : Type 0
IncludedIsSound = (W K : List Entry) → Sound W → Sound K → are_distinct K ≡ true → has_clash W K ≡ false → Sound (with_missing W K)

-- and it covers both
abbrev pub IncludedCovers : Type 0
IncludedCovers = (W K : List Entry) → has_clash W K ≡ false → Covers W (with_missing W K) × Covers K (with_missing W K)

-- its names are distinct
abbrev pub IncludedIsDistinct : Type 0
IncludedIsDistinct = (W K : List Entry) → are_distinct W ≡ true → are_distinct K ≡ true → are_distinct (with_missing W K) ≡ true

-- a world covers itself and what it grew from; what covers a world covers all that that one covers
abbrev pub CoversItself : Type 0
CoversItself = (W : List Entry) → Covers W W

abbrev pub CoversThrough : Type 0
CoversThrough = (V W U : List Entry) → Covers V W → Covers W U → Covers V U

abbrev pub CoversGrown : Type 0
CoversGrown = (W X : List Entry) → Covers W (W ++ X)

-- it defines alike what that one defines, and a name that is free in it is free there
abbrev pub CoversDefines : Type 0
CoversDefines = (W U : List Entry) → Covers W U → DefinesAlike (function_of W) (function_of U)

abbrev pub CoversFree : Type 0
CoversFree = (V U : List Entry) → Covers V U → (x : Symbol) → has_name U x ≡ false → has_name V x ≡ false

-- an entry that is added to both keeps that, masks aside
abbrev pub CoversAdded : Type 0
CoversAdded = (V U : List Entry) (y z : Entry) → Covers V U → SameButMask y z → entry_of U (name_in y) ≡ None → Covers (V ++ y ∷ []) (U ++ z ∷ [])

-- a book that the larger world includes, the smaller one includes too
abbrev pub CoversIncluded : Type 0
CoversIncluded = (V U K : List Entry) → are_distinct K ≡ true → Covers V U → has_clash U K ≡ false
    → (has_clash V K ≡ false) × Covers (with_missing V K) (with_missing U K)

-- a theorem of a sound world that defines alike all that this one defines is valid here, where its term is known here
abbrev pub TheoremAgain : Type 0
TheoremAgain = (W U : List Entry) → Sound W → Sound U → DefinesAlike (function_of W) (function_of U) → (n : Symbol) (u : Theorem) → theorem_of U n ≡ Some u
    → known (function_of W) u.term ≡ true → Valid (function_of W) (u.term ∷ [])

-- so are the obligations of its recursive functions, where they are known here
abbrev pub ObligationsAgain : Type 0
ObligationsAgain = (W U : List Entry) → Sound W → Sound U → DefinesAlike (function_of W) (function_of U) → (n : Symbol) (f : Function) → function_of U n ≡ Some f
    → (m : Measure) → f.measure ≡ Some m → (given : Bool) → Each (λ c. all_true (map (known (function_of W)) c) ≡ true) (obligations given f.formals m.0 f.cases)
    → Each (Valid (function_of W)) (obligations given f.formals m.0 f.cases)
