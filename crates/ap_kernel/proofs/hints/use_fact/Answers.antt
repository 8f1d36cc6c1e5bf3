use Rattle.std.proofs.Common.{◌≡◌, Some, rules}
use Rattle.ap_world.specs.World.{theorem_of}
use Rattle.ap_kernel.proofs.Hinted.{used_follows}
use Rattle.ap_kernel.proofs.Derived.{reduces_by}
use Rattle.ap_kernel.proofs.DerivedClauses.{use_derived}
use Rattle.ap_kernel.proofs.hints.use_fact.Goals as goal

pub returns-clause-stands : goal.returns-clause-stands
returns-clause-stands c =
    let found : theorem_of c.args.w.now.entries c.args.name.now ≡ Some c.in-Some.theorem.now = search rules in
    reduces_by c.args.w.now c.in_ok-answer.answer _ _ (search rules)
    (use_derived c.args.w.now c.args.c c.args.name.now c.args.s.now c.in-Some.theorem.now c.requires.clause c.requires.pairs found)
    (used_follows c.args.w.now.entries c.recall_sound.ensures c.requires.ground c.args.c c.args.name.now c.in-Some.theorem.now c.args.s.now.0 found c.requires.clause c.requires.pairs)
