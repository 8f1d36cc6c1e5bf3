-- When a sequent holds in a world: wherever its facts hold, its two sides have values that agree.
use Rattle.std.specs.Prelude.{◌≡◌, ◌↔◌, IsTrue, true, Some}
use Rattle.ap_value.specs.Values.{V}
use Rattle.ap_term.specs.declared.term.Term.{Term}
use Rattle.ap_world.specs.Names.{not_name}
use Rattle.ap_world.specs.Primitives.{nil}
use Rattle.ap_world.specs.Meaning.{Env, Defs, HasValue}
use Rattle.ap_world.specs.Sound.{known, not_function}
use Rattle.ap_world.specs.World.{Shown, function_of}
use Rattle.ap_world.specs.Facts.{KnownFacts, FactsHold}
use Rattle.ap_kernel.specs.declared.objects.Mode.{Mode}
use Rattle.ap_kernel.specs.declared.objects.Mode.TheVariants.{Equal, Iff}
use Rattle.ap_kernel.specs.declared.objects.Sequent.{Sequent}
use Rattle.ap_kernel.specs.declared.objects.Equiv.{Equiv}
use Rattle.ap_kernel.specs.Deriving.{equiv, why_of, said_of}
use Rattle.ap_kernel.specs.Saying.{is_unchanged}

-- the world has `not`, as it is given: the one function of the ground world that rows speak of
abbrev pub DefinesNot : Defs → Type 0
DefinesNot D = D not_name ≡ Some not_function

-- two values are equal, or both nil or both not
abbrev pub Same : Mode → V → V → Type 0
Same Equal v w = v ≡ w
Same Iff v w = (v ≡ nil) ↔ (w ≡ nil)

-- under an assignment two terms have values that are the same
abbrev pub SameValue : Defs → Env → Mode → Term → Term → Type 0
SameValue D e m s u = (v : V) × (w : V) × HasValue D s e v × HasValue D u e w × Same m v w

-- its terms are terms of the world, and its sides have the same value wherever its facts hold
pub record Holds (D : Defs) (s : Sequent) : Type 0 where
  pub facts : KnownFacts D s.ctx.0
  pub left : IsTrue (known D s.lhs)
  pub right : IsTrue (known D s.rhs)
  pub same : (e : Env) → FactsHold D e s.ctx.0 → SameValue D e s.mode s.lhs s.rhs

-- what is known of its sides is so: they are one term
abbrev pub SameSides : Equiv → Type 0
SameSides q = is_unchanged q ≡ true → q.says.lhs ≡ q.says.rhs

-- an equivalence stands in a world where what it says holds there, and what is known of its sides is so, and
-- the rows of its derivation give what it says there
pub record Stands (w : Shown) (q : Equiv) : Type 0 where
  pub says : Holds (function_of w.entries) q.says
  pub same : SameSides q
  pub derived : said_of w (why_of q) ≡ Some (equiv q.says)
