use Rattle.std.proofs.Common.{Some, ap, ◌∙◌, rules}
use Rattle.ap_world.specs.World.{function_of}
use Rattle.ap_kernel.proofs.Typed.{typed_stands}
use Rattle.ap_kernel.proofs.Derived.{stands_by}
use Rattle.ap_kernel.proofs.DerivedEquivs.{type_derived}
use Rattle.ap_kernel.proofs.types.by_type.Goals as goal

pub returns-clause-stands : goal.returns-clause-stands
returns-clause-stands c =
    stands_by c.args.w.now c.in_ok-answer.answer _ _ (search rules) (c.in_ok-answer.ensures.why ∙ ap Some c.in_ok-why.ensures)
    (type_derived c.args.w.now c.args.ctx.now c.args.t.now c.args.mask c.args.value c.requires.facts c.requires.term c.requires.exact c.requires.value)
    (typed_stands (function_of c.args.w.now.entries) c.recall_sound.ensures.total c.args.ctx.now c.args.t.now c.args.mask c.args.value
    c.requires.facts c.requires.term c.requires.mask c.requires.value)
