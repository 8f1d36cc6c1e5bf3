-- What the code of linear arithmetic keeps.
use Rattle.std.specs.Prelude.{◌≡◌, ℕ, Bool, true, IsTrue, List, Some, slice_get}
use Rattle.ap_term.specs.declared.term.Term.{Term}
use Rattle.ap_world.specs.declared.entry.Entry.{Entry}
use Rattle.ap_world.specs.declared.entry.Mask.{Mask}
use Rattle.ap_world.specs.declared.entry.Theorem.{Theorem}
use Rattle.ap_world.specs.Clauses.{conjuncts}
use Rattle.ap_world.specs.Rules.{stated}
use Rattle.ap_rules.specs.declared.linear.LinearRule.{LinearRule}
use Rattle.ap_kernel.specs.Certificates.{signed, is_linear}
use Rattle.ap_world.specs.Facts.{Facts}
use Rattle.ap_world.specs.Typing.{types}
use Rattle.ap_world.specs.World.{Shown, function_of, theorem_of}
use Rattle.ap_kernel.specs.declared.objects.Ctx.{Ctx}
use Rattle.ap_kernel.specs.declared.objects.Equiv.{Equiv}
use Rattle.ap_kernel.specs.Linear.{is_within_integers, refuted_made, equal_made}
use Rattle.ap_kernel.specs.Masks.{MaskHolds}
use Rattle.ap_kernel.specs.Standing.{Stands}

-- two masks within the integers: they are the types of two terms, and hold of them wherever the facts do
pub record IntegersWithin (w : Shown) (fs : Facts) (a b : Term) (m n : Mask) : Type 0 where
  pub left : MaskHolds (function_of w.entries) fs a m
  pub right : MaskHolds (function_of w.entries) fs b n
  pub left_exact : m.0 ≡ types w fs a
  pub right_exact : n.0 ≡ types w fs b
  pub left_within : IsTrue (is_within_integers m)
  pub right_within : IsTrue (is_within_integers n)

-- a linear rule is that of a conjunct of a linear theorem of the world
pub record IsToldBy (W : List Entry) (g : LinearRule) : Type 0 where
  pub theorem : Theorem
  pub place : ℕ
  pub conjunct : Term
  pub there : theorem_of W g.theorem ≡ Some theorem
  pub linear : is_linear theorem.classes ≡ true
  pub hyps : g.hyps ≡ (stated theorem.term).0
  pub at : slice_get (conjuncts (stated theorem.term).1) place ≡ Some conjunct
  pub concl : g.concl ≡ (signed conjunct).0
  pub sign : g.sign ≡ (signed conjunct).1

-- from a comparison to the truth that the sign denies
pub record Refutes (w : Shown) (c : Ctx) (u : Term) (s : Bool) (q : Equiv) : Type 0 where
  pub stands : Stands w q
  pub says : q.says ≡ refuted_made c u s

-- from the equation of two terms to 'T
pub record Squeezes (w : Shown) (c : Ctx) (a b : Term) (q : Equiv) : Type 0 where
  pub stands : Stands w q
  pub says : q.says ≡ equal_made c a b
