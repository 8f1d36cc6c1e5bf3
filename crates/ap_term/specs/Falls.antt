-- Arguments are less deep than their call, and a term than the arguments that it is one of.
use Rattle.std.specs.Prelude.{◌≡◌, ◌+◌, ◌≤◌, max, List, [], ◌∷◌, map}
use Rattle.std.proofs.Common.{arith, refl, sym, ap, ◌∙◌}
use denote.Param.Weighed.{most}
use Rattle.ap_value.specs.declared.symbol.Symbol.{Symbol}
use Rattle.ap_term.specs.declared.term.Term.{Term, fold-Term, fold-roll-Term, Call}
use Rattle.ap_term.specs.declared.term.Term.TheOpen.{Term-F}
use Rattle.ap_term.specs.declared.term.Term.TheVariants.{rolls-Call}
use Rattle.ap_term.specs.declared.shape.Shape.{Shape}
use Rattle.ap_term.specs.declared.shape.Shape.TheVariants as shape
use Rattle.ap_term.specs.declared.arguments.Arguments.TheInside.{Inside}
use Rattle.ap_term.specs.declared.arguments.Arguments.TheDeep.{deep-Arguments, deep-Shape}
use Rattle.ap_term.specs.Depth.{depth, depth_step, deepest}
use Rattle.ap_term.specs.Shapes.{plain_of}

pub depth_call : (f : Symbol) (ts : List Term) → depth (Call f ts) ≡ most (λ n. n + 1) (map depth ts) + 1
depth_call f ts = ap depth (sym (rolls-Call f ts)) ∙ fold-roll-Term _ depth_step (Term-F.Call f ts)

pub most_map : (ts : List Term) → most (λ n. n + 1) (map depth ts) ≡ most (λ t. depth t + 1) ts
most_map [] = refl
most_map (t ∷ ts) = ap (max (depth t + 1)) (most_map ts)

pub deepest_falls : (a : Inside) → deep-Arguments a ≤ deepest a.held.1
deepest_falls a = omega arith

pub depth_falls : (s : Shape) → max (deep-Shape s) 0 ≤ depth (plain_of s)
depth_falls (shape.Var x) = omega arith
depth_falls (shape.Quote v) = omega arith
depth_falls (shape.Call f ts) = rw (depth_call f ts) rw (most_map ts) (omega arith)
