use Rattle.std.proofs.Common.{◌≡◌, ◌↔◌, Some, true, is_some, IsTrue, IfOk, subst, rules}
use Rattle.ap_world.specs.Holding.{part_at}
use Rattle.ap_world.specs.Rules.{stated}
use Rattle.ap_world.specs.World.{theorem_of}
use Rattle.ap_kernel.specs.Applying.{AllLead}
use Rattle.ap_kernel.proofs.ApplyingStands.{relieved_part, told_by}
use Rattle.ap_kernel.proofs.relieving.are_relieved.Goals as goal

pub returns : goal.returns
returns c =
    let e : c.as_slice.result.now ≡ (stated c.in-Some.theorem.now.term).0 = search rules in
    let found : theorem_of c.args.w.now.entries c.args.name.now ≡ Some c.in-Some.theorem.now = search rules in
    let there : is_some (part_at c.args.name.now c.args.part (theorem_of c.args.w.now.entries c.args.name.now)) ≡ true = search rules in
    told_by c.all_lead.result _ _
    (relieved_part c.args.ctx.now c.args.s.now.0 c.args.name.now c.args.part (theorem_of c.args.w.now.entries c.args.name.now) c.in-Some.theorem.now c.args.hyps.now found there)
    (subst (λ hs. IfOk c.all_lead.result (λ b. IsTrue b ↔ AllLead c.args.ctx.now c.args.s.now.0 hs c.args.hyps.now)) e c.all_lead.ensures)
