-- The rows of linear arithmetic: comparisons that polynomials refute, and integers of which neither is less.
use Rattle.std.specs.Prelude.{◌≡◌, Bool, true, false, not, nat_eq, bit_and, List, [], ◌∷◌, Option, Some}
use Rattle.ap_list.specs.Lists.{Each}
use Rattle.ap_term.specs.declared.term.Term.{Term, out-Term, Call}
use Rattle.ap_term.specs.declared.term.Term.TheOpen.{Term-F}
use Rattle.ap_world.specs.declared.entry.Mask.{Mask}
use Rattle.ap_world.specs.declared.primitive.Primitive.{Primitive as Prim}
use Rattle.ap_world.specs.declared.primitive.Primitive.TheVariants as prim
use Rattle.ap_world.specs.Kinds.{without}
use Rattle.ap_world.specs.Names.{less_name}
use Rattle.ap_world.specs.Primitives.{prim_of}
use Rattle.ap_world.specs.Recursion.{nil_constant, t_constant}
use Rattle.ap_world.specs.Meaning.{Env, Defs, FactHolds}
use Rattle.ap_world.specs.Facts.{FactsHold}
use Rattle.ap_world.specs.Types.{integers}
use Rattle.ap_poly.specs.Polynomials.{Polynomial}
use Rattle.ap_poly.specs.Holding.{PolyHolds}
use Rattle.ap_kernel.specs.declared.objects.Ctx.{Ctx}
use Rattle.ap_kernel.specs.declared.objects.Mode.TheVariants.{Equal}
use Rattle.ap_kernel.specs.declared.objects.Sequent.{Sequent}
use Rattle.ap_kernel.specs.Masks.{MaskHolds}
use Rattle.ap_kernel.specs.Equations.{equal_of, truth_constant}

abbrev pub compares : Option Prim → Bool
compares (Some prim.Less) = true
compares (Some prim.Equal) = true
compares o = false

abbrev pub form_compares : Term-F Term → Bool
form_compares (Term-F.Call f ts) = compares (prim_of f)
form_compares y = false

-- a call of `<` or of `equal`
abbrev pub is_comparison : Term → Bool
is_comparison u = form_compares (out-Term u)

-- wherever the facts hold and the term has the sign, each polynomial holds
abbrev pub PolysHold : Defs → Ctx → Term → Bool → List Polynomial → Type 0
PolysHold D c u s ps = (e : Env) → FactsHold D e c.0 → FactHolds D e (u, s) → Each (PolyHolds D e) ps

-- what a comparison becomes that can't have this sign
abbrev pub refuted_made : Ctx → Term → Bool → Sequent
refuted_made c u s = record { ctx = c; mode = Equal; lhs = u; rhs = truth_constant (not s) }

-- (< a b)
abbrev pub less_of : Term → Term → Term
less_of a b = Call less_name (a ∷ b ∷ [])

-- a mask within the integers
abbrev pub is_within_integers : Mask → Bool
is_within_integers m = nat_eq (bit_and m.0 (without integers.0)) 0

abbrev pub not_less_made : Ctx → Term → Term → Sequent
not_less_made c a b = record { ctx = c; mode = Equal; lhs = less_of a b; rhs = nil_constant }

abbrev pub equal_made : Ctx → Term → Term → Sequent
equal_made c a b = record { ctx = c; mode = Equal; lhs = equal_of a b; rhs = t_constant }

-- under the facts neither of two terms is less, and the masks hold of them
pub record NeitherLess (D : Defs) (c : Ctx) (p q : Sequent) (m n : Mask) : Type 0 where
  pub left : Term
  pub right : Term
  pub less : p ≡ not_less_made c left right
  pub more : q ≡ not_less_made c right left
  pub left_mask : MaskHolds D c.0 left m
  pub right_mask : MaskHolds D c.0 right n
