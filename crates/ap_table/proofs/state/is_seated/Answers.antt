use Rattle.std.proofs.Common.{List, sym, ap, subst, ◌∙◌}
use Rattle.ap_table.specs.Core.{Node}
use Rattle.ap_table.specs.Seated.{GiveAll}
use Rattle.ap_table.specs.declared.link.Link.{Link}
use Rattle.ap_table.specs.declared.seats.AncestorSeat.{AncestorSeat}
use Rattle.ap_table.proofs.Keeping.{some_is}
use Rattle.ap_table.proofs.state.is_seated.Goals as goal

pub returns : goal.returns
returns g c =
    let n = c.in-Some.ensures.there in (
      (λ t. (n.0, n.1, subst (λ (ss : List AncestorSeat). GiveAll n.0.path ss) c.as_slice.ensures (subst (λ (p : List Link). GiveAll p c.as_slice.result.now) (sym n.2) (c.give_all.ensures.0 t)))),
      (λ a. c.give_all.ensures.1
          (subst (λ (ss : List AncestorSeat). GiveAll c.in-Some.path.now ss) (sym c.as_slice.ensures)
          (subst (λ (p : List Link). GiveAll p c.args.job.now.seats) (ap (λ (y : Node g.row.S-Task.Denot). y.path) (some_is a.0 n.0 (sym a.1 ∙ n.1)) ∙ n.2) a.2))),
    )
