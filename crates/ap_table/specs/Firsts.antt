-- The first of some siblings.
use Rattle.std.specs.Prelude.{◌≡◌, List, [], ◌∷◌, Option, Some}

-- the first siblings are finished, and have these results
abbrev pub AreFirst : {A : Type 0} → List (Option A) → List A → Type 0
AreFirst os [] = Unit {0}
AreFirst [] (w ∷ ws) = ⊥
AreFirst (o ∷ os) (w ∷ ws) = (o ≡ Some w) × AreFirst os ws
