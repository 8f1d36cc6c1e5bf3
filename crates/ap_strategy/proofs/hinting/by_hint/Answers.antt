use Rattle.std.proofs.Common.{◌≡◌, ◌∙◌, List, map, ap, rules}
use Rattle.ap_term.specs.declared.term.Clause.{Clause}
use Rattle.ap_kernel.specs.declared.reductions.Inference.{Inference}
use Rattle.ap_kernel.specs.Reductions.{claims}
use Rattle.ap_strategy.specs.Leads.{used_from}
use Rattle.ap_strategy.specs.Steps.{used_all}
use Rattle.ap_strategy.proofs.StepLeads.{each_from, each_to}
use Rattle.ap_strategy.proofs.hinting.by_hint.Goals as goal

pub chain-requires-clause-goals : goal.chain-requires-clause-goals
chain-requires-clause-goals c =
    let made : claims c.in_ok-each.each ≡ map (used_from c.args.w.now.entries c.args.hint.now.uses) c.in_ok-cases.cases.says.to = search rules in
    each_from c.args.w.now.entries c.args.hint.now.uses c.in_ok-cases.cases.says.to (claims c.in_ok-each.each) made

pub returns-clause-made : goal.returns-clause-made
returns-clause-made c =
    let made : claims c.in_ok-each.each ≡ map (used_from c.args.w.now.entries c.args.hint.now.uses) c.in_ok-cases.cases.says.to = search rules in
    c.in_ok-answer.ensures.made
    ∙ ap (λ (ds : List Clause). record { from = c.in_ok-cases.cases.says.from; to = ds }) (each_to c.args.w.now.entries c.args.hint.now.uses c.in_ok-cases.cases.says.to (claims c.in_ok-each.each) made)
    ∙ ap (λ (i : Inference). record { from = i.from; to = map (used_all c.args.w.now.entries c.args.hint.now.uses) i.to }) c.in_ok-cases.ensures.made
