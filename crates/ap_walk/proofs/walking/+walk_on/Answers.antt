-- After its own visit a task's walk is left to its children, and each round takes the next of them.
use Rattle.std.proofs.Common.{◌<◌, refl, sym, ◌∙◌}
use Rattle.std.specs.Vec.Iter.{into_iter_items}
use Rattle.std.proofs.lemmas.List.{nil_from_length}
use Rattle.ap_walk.specs.declared.mark.Walked.{Walked}
use Rattle.ap_walk.specs.Walks.{and_then, walk, walk_all}
use Rattle.ap_walk.proofs.Stops.{opened_by}
use Rattle.ap_walk.proofs.GoOn.{next_walked, each_rest, Passed, Visited, passed_below, all_walked, walk_ended}
use Rattle.ap_walk.proofs.walking.+walk_on.Goals as goal
use Rattle.ap_walk.proofs.walking.+walk_on.Goals.{in-None, in-Some+in_default}

pub loop-child-init : goal.loop-child-init
loop-child-init g t c =
    let step = g.S.Step.step_of in
    let stepped = c.in_ok-act.field-0 in
    let items = into_iter_items c.into_iter-child-iterator.result in
    record {
      can_next = tt;
      is_finite = tt;
      opened =
          opened_by c.args.rule c.args.so_far.now.tally stepped.out c.counted_out-so_far.result c.end_of_out-so_far.result
          c.requires.opened c.counted_out-so_far.ensures c.end_of_out-so_far.ensures;
      below =
          passed_below step g.S.Step.depth g.met.S.Step.tells g.met.S.Step.deeper c.args.rule c.args.task stepped
          c.children_of.result c.into_vec-child-items.result.items items
          (record {
            taken = c.in_ok-act.ensures;
            split = c.children_of.ensures;
            moved = c.into_vec-child-items.ensures;
            given = c.into_iter-child-iterator.ensures.into_iter_gives.0;
          });
      to_come =
          refl {a = and_then (record { marks = c.push.new.self; tally = c.counted_out-so_far.result; end = c.end_of_out-so_far.result })
          (walk_all step g.S.Step.depth c.args.rule items)};
    }

pub loop-child-preserved : goal.loop-child-preserved
loop-child-preserved g t c =
    let items = into_iter_items c.loop-child.child-iterator in
    let left = into_iter_items c.next.new.self in
    let is = c.in-Some.ensures.steps.0 in
    record {
      can_next = tt;
      is_finite = tt;
      opened = c.in_ok-walk_on.ensures.opened;
      below = each_rest (λ task. g.S.Step.depth task < g.S.Step.depth c.args.task) items c.in-Some.child left is c.loop-child.invariant.below;
      to_come =
          next_walked (walk g.S.Step.step_of g.S.Step.depth c.args.rule) c.loop-child.so_far c.walk_on.new.so_far
          (and_then (record { marks = c.push.new.self; tally = c.counted_out-so_far.result; end = c.end_of_out-so_far.result })
          (walk_all g.S.Step.step_of g.S.Step.depth c.args.rule (into_iter_items c.into_iter-child-iterator.result)))
          c.in-Some.child left items is c.in_ok-walk_on.ensures.walked c.loop-child.invariant.to_come;
    }

pub returns-clause-walked : goal.returns-clause-walked
returns-clause-walked g t c =
    let step = g.S.Step.step_of in
    let depth = g.S.Step.depth in
    let tells = g.met.S.Step.tells in
    let deeper = g.met.S.Step.deeper in
    let rule = c.args.rule in
    let stepped = c.in_ok-act.field-0 in
    let children = c.children_of.result in
    let vec = c.into_vec-child-items.result.items in
    let items = into_iter_items c.into_iter-child-iterator.result in
    let passed : Passed step c.args.task stepped children vec items =
    record {
      taken = c.in_ok-act.ensures;
      split = c.children_of.ensures;
      moved = c.into_vec-child-items.ensures;
      given = c.into_iter-child-iterator.ensures.into_iter_gives.0;
    } in
    let so_far : Walked g.row.S-Task.Denot = record { marks = c.push.new.self; tally = c.counted_out-so_far.result; end = c.end_of_out-so_far.result } in
    let visited : Visited rule c.args.task stepped c.args.so_far.now so_far c.mark_of.result =
    record {
      began = c.requires.through;
      told = c.mark_of.ensures;
      marks = c.in_ok-push.ensures.ok;
      tally = c.counted_out-so_far.ensures;
      ended = c.end_of_out-so_far.ensures;
    } in
    let now = c.loop-child.so_far in
    let rest = c.loop-child.child-iterator.rest in
    let left = rest.items in
    elim c.match-next.branch [
      | in-None w ↦
          all_walked step depth tells deeper rule c.args.task stepped children vec items passed c.args.so_far.now so_far c.mark_of.result visited
          now left c.loop-child.invariant.to_come (nil_from_length left (sym rest.ok.0 ∙ w.in-None.ensures.steps.0))
      | in-Some+in_default w ↦
          walk_ended step depth tells deeper rule c.args.task stepped children vec items passed c.args.so_far.now so_far c.mark_of.result visited
          now left c.loop-child.invariant.to_come w.in_default.not-Through
    ]
