use Rattle.std.proofs.Common.{arith}
use Rattle.ap_table.proofs.Marked.{get_there}
use Rattle.ap_table.proofs.marking.can_expand.Goals as goal

pub child_count-count-requires : goal.child_count-count-requires
child_count-count-requires g c =
    let x = get_there c.args.nodes.now.items c.args.i c.requires.there in
    (x.0.task, c.requires.walk x.0 x.1)

pub returns-then-count-lt2 : goal.returns-then-count-lt2
returns-then-count-lt2 g c = (
  (λ t. absurd (cc)),
  (λ y. let n = c.child_count-count.ensures y.0.task (c.requires.walk y.0 y.1) in let lt = c.if-count-lt2.true in let a = y.2 in absurd (omega arith)),
)

pub returns : goal.returns
returns g c = (
  (λ t.
      let h = c.has_room.ensures.0 t in
      let n = c.child_count-count.ensures h.0.task (c.requires.walk h.0 h.1) in
      let lt = c.if-count-lt2.false in
      let few = h.3 in
      (h.0, h.1, omega arith, h.2, omega arith)),
  (λ y.
      let n = c.child_count-count.ensures y.0.task (c.requires.walk y.0 y.1) in
      let few = y.4 in
      c.has_room.ensures.1 (y.0, y.1, y.3, omega arith)),
)
