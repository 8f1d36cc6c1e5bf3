use Rattle.std.proofs.Common.{◌≡◌, Some, ap, ◌∙◌, rules}
use Rattle.ap_world.specs.World.{function_of}
use Rattle.ap_kernel.specs.Equations.{equation_leads}
use Rattle.ap_kernel.proofs.EquationsStand.{equation_stands}
use Rattle.ap_kernel.proofs.Derived.{stands_by}
use Rattle.ap_kernel.proofs.DerivedEquivs.{equal_derived}
use Rattle.ap_kernel.proofs.equations.cons_equal.Goals as goal

pub returns-clause-stands : goal.returns-clause-stands
returns-clause-stands c =
    let leads : equation_leads c.args.ctx.now.0 c.args.t.now ≡ Some c.in_ok-rhs.rhs = search rules in
    stands_by c.args.w.now c.in_ok-answer.answer _ _ (search rules) (c.in_ok-answer.ensures.why ∙ ap Some c.in_ok-why.ensures)
    (equal_derived c.args.w.now c.args.ctx.now c.args.t.now c.in_ok-rhs.rhs c.requires.facts c.requires.term leads)
    (equation_stands (function_of c.args.w.now.entries) c.recall_sound.ensures.total c.args.ctx.now c.args.t.now c.in_ok-rhs.rhs c.requires.facts c.requires.term leads)
