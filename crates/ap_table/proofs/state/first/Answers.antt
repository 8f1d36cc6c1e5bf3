use Rattle.std.proofs.Common.{◌∷◌, [], ◌++◌, List, Some, None, ap, ◌∙◌}
use Rattle.ap_table.specs.declared.seats.AncestorSeat.{AncestorSeat}
use Rattle.ap_table.specs.declared.seats.Beside.{Beside}
use Rattle.ap_table.proofs.Wording.{first_table}
use Rattle.ap_table.proofs.Worded.{worded_begun}
use Rattle.ap_table.proofs.state.first.Goals as goal

pub invariant_of-result : goal.invariant_of-result
invariant_of-result g c =
    let beside : List AncestorSeat → Beside = λ ss. record { job = Some ss; kept = None } in
    let items = c.in_ok-push.ensures.items ∙ (ap (λ (l : List Beside). l ++ beside c.new.result ∷ []) c.new-seats.ensures.items ∙ ap (λ (ss : List AncestorSeat). let l : List Beside = beside ss ∷ [] in l) c.new.ensures) in
    record {
      seated = first_table g.S.Step.step_of g.S.Step.depth c.in_ok-nodes.nodes c.args.task c.args.rule c.push.new.self.items c.in_ok-nodes.ensures items;
      worded = worded_begun g.S.Step.step_of g.S.Step.depth c.in_ok-nodes.nodes c.push.new.self.items items;
    }
