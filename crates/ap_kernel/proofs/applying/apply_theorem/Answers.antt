use Rattle.std.proofs.Common.{◌≡◌, Some, None, ap, ◌∙◌, rules}
use Rattle.ap_world.specs.World.{theorem_of}
use Rattle.ap_kernel.specs.Applying.{conjunct_at}
use Rattle.ap_kernel.proofs.Derived.{stands_by}
use Rattle.ap_kernel.proofs.DerivedEquivs.{conjunct_derived}
use Rattle.ap_kernel.proofs.ApplyingStands.{conjunct_said, conjunct_stands, relieved_none}
use Rattle.ap_kernel.proofs.applying.apply_theorem.Goals as goal

pub unreachable-requires : goal.unreachable-requires
unreachable-requires c =
    let none : conjunct_at c.args.part (theorem_of c.args.w.now.entries c.args.name.now) ≡ None = search rules in
    relieved_none c.args.ctx.now c.args.s.now.0 c.args.name.now c.args.part (theorem_of c.args.w.now.entries c.args.name.now) c.args.hyps none c.requires.relieved

pub returns-clause-stands : goal.returns-clause-stands
returns-clause-stands c =
    let found : conjunct_at c.args.part (theorem_of c.args.w.now.entries c.args.name.now) ≡ Some c.in-Some.conjunct.now = search rules in
    stands_by c.args.w.now c.made.result _ _ (search rules) (c.made.ensures.why ∙ ap Some (search rules))
    (conjunct_derived c.args.w.now c.args.ctx.now c.args.name.now c.args.part c.args.s.now c.args.hyps c.in-Some.conjunct.now found
    c.requires.facts c.requires.pairs c.requires.hyps c.requires.relieved)
    (conjunct_stands c.args.w.now c.recall_sound.ensures c.requires.ground c.args.ctx.now c.args.name.now c.args.part c.args.s.now.0 c.args.hyps c.in-Some.conjunct.now found
    c.requires.facts c.requires.pairs c.requires.hyps c.requires.relieved)

pub returns-clause-made : goal.returns-clause-made
returns-clause-made c =
    let found : conjunct_at c.args.part (theorem_of c.args.w.now.entries c.args.name.now) ≡ Some c.in-Some.conjunct.now = search rules in
    conjunct_said c.args.ctx.now c.args.s.now.0 c.args.name.now c.args.part (theorem_of c.args.w.now.entries c.args.name.now) c.in-Some.conjunct.now c.made.result.says found (search rules)
