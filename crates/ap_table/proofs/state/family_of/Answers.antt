use Rattle.std.proofs.Common.{List, Ok, Err, IfOk, sym, ap, subst, ◌∙◌}
use Rattle.std.specs.declared.result.Result.{Result}
use Rattle.ap_table.specs.Core.{Node}
use Rattle.ap_table.specs.Shown.{nodes_of}
use Rattle.ap_table.specs.Seated.{AreRows}
use Rattle.ap_table.specs.declared.link.Link.{Link}
use Rattle.ap_table.proofs.Keeping.{some_is}
use Rattle.ap_table.proofs.Wording.{above_at}
use Rattle.ap_table.proofs.state.family_of.Goals as goal

ok_then : {A E : Type 0} {P Q : A → Type 0} (r : Result A E) → ((a : A) → P a → Q a) → IfOk r P → IfOk r Q
ok_then (Ok a) f h = f a h
ok_then (Err e) f h = tt

pub new_family-requires-clause-above : goal.new_family-requires-clause-above
new_family-requires-clause-above g c =
    let n = c.in-Some.ensures.there in
    above_at g.S.Step.step_of g.S.Step.depth c.args.nodes.now.rule (nodes_of g.S.Step.step_of g.S.Step.depth c.args.nodes.now) c.args.seats.now.items c.args.job.now.node n.0 c.in-Some.path.now c.requires.seated n.1 n.2

pub returns-clause-rows : goal.returns-clause-rows
returns-clause-rows g c =
    let n = c.in-Some.ensures.there in
    ok_then c.new_family.result
    (λ r rows x e. subst (λ (p : List Link). AreRows c.args.seats.now.items p c.args.job.now.node r.0 r.1.items) (sym n.2 ∙ ap (λ (y : Node g.row.S-Task.Denot). y.path) (some_is n.0 x (sym n.1 ∙ e))) rows)
    c.new_family.ensures.rows
