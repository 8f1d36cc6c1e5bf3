use Rattle.std.proofs.Common.{◌≡◌, ◌<◌, ◌≤◌, ◌+◌, ◌++◌, ◌∷◌, [], List, Some, reverse, refl, sym, ap, subst, ◌∙◌, arith, length}
use Rattle.std.specs.List.{slice_get}
use Rattle.std.specs.Vec.{vec_capacity}
use Rattle.ap_walk.specs.declared.rule.Rule.{Rule}
use Rattle.ap_walk.specs.Visits.{out_children}
use Rattle.ap_walk.specs.Walks.{full}
use Rattle.ap_table.specs.Core.{Node, claimed}
use Rattle.ap_table.specs.Order.{replace}
use Rattle.ap_table.specs.Shown.{Run, nodes_of, stage_room}
use Rattle.ap_table.specs.Calls.{longer, IsNodeJob, CanStill, stop_marks}
use Rattle.ap_table.specs.Settled.{mark_nodes, mark_list}
use Rattle.ap_table.specs.declared.stored.Entry.{Entry}
use Rattle.ap_table.specs.declared.stored.Entry.TheVariants as entry
use Rattle.ap_table.specs.declared.stored.Stage.TheVariants as stage
use Rattle.ap_table.specs.declared.stored.Stored.{Stored}
use Rattle.ap_table.specs.declared.link.Link.{Link}
use Rattle.ap_table.proofs.Showing.{below_length, room_alter, claimed_node, job_shown, job_kept, some_same}
use Rattle.ap_table.proofs.Marked.{needs_ready, needs_words, needs_levels, put_all, three_levels, put_marking, marking_next, marking_there, marking_family, marking_small, marking_room, marked_all, three_marks, joined_history, still_shown, still_kept}
use Rattle.ap_table.proofs.Splitting.{not_both}
use Rattle.ap_table.proofs.nodes.Nodes.put_step.Goals as goal

pub returns-then-not-same_rule : goal.returns-then-not-same_rule
returns-then-not-same_rule g c =
    let i = c.self.inside in
    let step = g.S.Step.step_of in
    let depth = g.S.Step.depth in
    let tells = g.met.S.Step.tells in
    let deeper = g.met.S.Step.deeper in
    let r : Run g.row.S-Task.Denot = record { root = i.root; rule = i.rule; history = i.history.items } in
    let cs = i.nodes.items in
    let live = reverse i.live.items in
    let cap = vec_capacity i.history in
    let k = c.args.job.node in
    (refl, refl, λ j. (let t = c.same_rule.ensures.1 (sym (j.0 ∙ sym (ap (λ (x : Run g.row.S-Task.Denot). x.rule) c.self.view_is))) in let f = c.if-not-same_rule.true in absurd (cc)))

pub returns-then-not-is_job : goal.returns-then-not-is_job
returns-then-not-is_job g c =
    let i = c.self.inside in
    let step = g.S.Step.step_of in
    let depth = g.S.Step.depth in
    let tells = g.met.S.Step.tells in
    let deeper = g.met.S.Step.deeper in
    let r : Run g.row.S-Task.Denot = record { root = i.root; rule = i.rule; history = i.history.items } in
    let cs = i.nodes.items in
    let live = reverse i.live.items in
    let cap = vec_capacity i.history in
    let k = c.args.job.node in (
      refl,
      refl,
      λ j.
          let own : IsNodeJob step depth r c.args.job = subst (λ (x : Run g.row.S-Task.Denot). IsNodeJob step depth x c.args.job) (sym c.self.view_is) j in
          let t = c.is_job.ensures.1 (job_kept step depth cs (nodes_of step depth r) k c.args.job.task c.self.invariant.shows own.1) in
          let f = c.if-not-is_job.true in absurd (cc),
    )

pub can_expand-requires-clause-walk : goal.can_expand-requires-clause-walk
can_expand-requires-clause-walk g c =
    let i = c.self.inside in
    let step = g.S.Step.step_of in
    let depth = g.S.Step.depth in
    let j = c.is_job.ensures.0 c.if-not-is_job.false in
    let rule = c.same_rule.ensures.0 c.if-not-same_rule.false in
    let whole : c.args.walked ≡ full step depth i.rule j.0.task = c.requires ∙ (ap (λ (x : Rule). full step depth x c.args.job.task) (sym rule) ∙ ap (full step depth i.rule) j.3) in
    λ x e. whole ∙ ap (λ (y : Stored g.row.S-Task.Denot). full step depth i.rule y.task) (some_same j.0 x (sym j.1 ∙ e))

pub returns-then-can_expand : goal.returns-then-can_expand
returns-then-can_expand g c =
    let i = c.self.inside in
    let step = g.S.Step.step_of in
    let depth = g.S.Step.depth in
    let r : Run g.row.S-Task.Denot = record { root = i.root; rule = i.rule; history = i.history.items } in
    let cs = i.nodes.items in
    let k = c.args.job.node in
    (refl, refl, λ y. subst (λ (x : Run g.row.S-Task.Denot). CanStill step depth x k) c.self.view_is (still_shown step depth r cs k c.self.invariant.shows (c.can_expand.ensures.0 c.if-can_expand.true)))

pub set_stage-requires : goal.set_stage-requires
set_stage-requires g c =
    let i = c.self.inside in
    let cs = i.nodes.items in
    let k = c.args.job.node in
    let j = c.is_job.ensures.0 c.if-not-is_job.false in
    below_length cs k j.0 j.1

pub settle-requires-clause-ready : goal.settle-requires-clause-ready
settle-requires-clause-ready g c =
    let i = c.self.inside in
    let step = g.S.Step.step_of in
    let depth = g.S.Step.depth in
    let tells = g.met.S.Step.tells in
    let deeper = g.met.S.Step.deeper in
    let r : Run g.row.S-Task.Denot = record { root = i.root; rule = i.rule; history = i.history.items } in
    let cs = i.nodes.items in
    let live = reverse i.live.items in
    let cap = vec_capacity i.history in
    let k = c.args.job.node in
    let j = c.is_job.ensures.0 c.if-not-is_job.false in
    let rule = c.same_rule.ensures.0 c.if-not-same_rule.false in
    let whole : c.args.walked ≡ full step depth i.rule j.0.task = c.requires ∙ (ap (λ (x : Rule). full step depth x c.args.job.task) (sym rule) ∙ ap (full step depth i.rule) j.3) in
    let old = c.set_stage.new.nodes.items in
    let s = c.through_tally-sum.result in
    needs_ready step depth tells deeper r cs live cap k j.0 c.args.walked c.self.invariant j.1 j.2 whole old old s c.set_stage.ensures c.through_tally-sum.ensures

pub settle-requires-clause-words : goal.settle-requires-clause-words
settle-requires-clause-words g c =
    let i = c.self.inside in
    let step = g.S.Step.step_of in
    let depth = g.S.Step.depth in
    let tells = g.met.S.Step.tells in
    let deeper = g.met.S.Step.deeper in
    let r : Run g.row.S-Task.Denot = record { root = i.root; rule = i.rule; history = i.history.items } in
    let cs = i.nodes.items in
    let live = reverse i.live.items in
    let cap = vec_capacity i.history in
    let k = c.args.job.node in
    let j = c.is_job.ensures.0 c.if-not-is_job.false in
    let rule = c.same_rule.ensures.0 c.if-not-same_rule.false in
    let whole : c.args.walked ≡ full step depth i.rule j.0.task = c.requires ∙ (ap (λ (x : Rule). full step depth x c.args.job.task) (sym rule) ∙ ap (full step depth i.rule) j.3) in
    let old = c.set_stage.new.nodes.items in
    let s = c.through_tally-sum.result in
    needs_words step depth tells deeper r cs live cap k j.0 c.args.walked c.self.invariant j.1 j.2 whole old old s c.set_stage.ensures c.through_tally-sum.ensures

pub settle-requires-clause-levels : goal.settle-requires-clause-levels
settle-requires-clause-levels g c =
    let i = c.self.inside in
    let step = g.S.Step.step_of in
    let depth = g.S.Step.depth in
    let tells = g.met.S.Step.tells in
    let deeper = g.met.S.Step.deeper in
    let r : Run g.row.S-Task.Denot = record { root = i.root; rule = i.rule; history = i.history.items } in
    let cs = i.nodes.items in
    let live = reverse i.live.items in
    let cap = vec_capacity i.history in
    let k = c.args.job.node in
    let j = c.is_job.ensures.0 c.if-not-is_job.false in
    let rule = c.same_rule.ensures.0 c.if-not-same_rule.false in
    let whole : c.args.walked ≡ full step depth i.rule j.0.task = c.requires ∙ (ap (λ (x : Rule). full step depth x c.args.job.task) (sym rule) ∙ ap (full step depth i.rule) j.3) in
    let old = c.set_stage.new.nodes.items in
    let s = c.through_tally-sum.result in
    needs_levels step depth tells deeper r cs live cap k j.0 c.args.walked c.self.invariant j.1 j.2 whole old old s c.set_stage.ensures c.through_tally-sum.ensures

pub push_reserved-requires : goal.push_reserved-requires
push_reserved-requires g c =
    let i = c.self.inside in
    let step = g.S.Step.step_of in
    let depth = g.S.Step.depth in
    let tells = g.met.S.Step.tells in
    let deeper = g.met.S.Step.deeper in
    let r : Run g.row.S-Task.Denot = record { root = i.root; rule = i.rule; history = i.history.items } in
    let cs = i.nodes.items in
    let live = reverse i.live.items in
    let cap = vec_capacity i.history in
    let k = c.args.job.node in
    let j = c.is_job.ensures.0 c.if-not-is_job.false in
    let rule = c.same_rule.ensures.0 c.if-not-same_rule.false in
    let whole : c.args.walked ≡ full step depth i.rule j.0.task = c.requires ∙ (ap (λ (x : Rule). full step depth x c.args.job.task) (sym rule) ∙ ap (full step depth i.rule) j.3) in
    let set = room_alter cs k j.0 (λ x. record x { stage = stage.Put c.args.walked }) j.1 in
    let four : stage_room j.0.stage ≡ 4 = ap stage_room j.2 in
    let had = c.self.invariant.room in
    let re = c.self.invariant.reserved in
    let len = i.history.ok.0 in
    omega arith

pub mark_one-requires-clause-there : goal.mark_one-requires-clause-there
mark_one-requires-clause-there g c =
    let i = c.self.inside in
    let step = g.S.Step.step_of in
    let depth = g.S.Step.depth in
    let tells = g.met.S.Step.tells in
    let deeper = g.met.S.Step.deeper in
    let r : Run g.row.S-Task.Denot = record { root = i.root; rule = i.rule; history = i.history.items } in
    let cs = i.nodes.items in
    let live = reverse i.live.items in
    let cap = vec_capacity i.history in
    let k = c.args.job.node in
    let j = c.is_job.ensures.0 c.if-not-is_job.false in
    let rule = c.same_rule.ensures.0 c.if-not-same_rule.false in
    let whole : c.args.walked ≡ full step depth i.rule j.0.task = c.requires ∙ (ap (λ (x : Rule). full step depth x c.args.job.task) (sym rule) ∙ ap (full step depth i.rule) j.3) in
    let old = c.set_stage.new.nodes.items in
    let s = c.through_tally-sum.result in
    let ds = c.settle.new.nodes.items in
    let still : 2 ≤ length (out_children (step j.0.task).out) → length j.0.path < 3 → length cs + length (out_children (step j.0.task).out) ≤ 1000000 → ⊥ = λ many deep few. not_both c.can_expand.result c.if-can_expand.false (c.can_expand.ensures.1 (j.0, j.1, many, deep, few)) in
    let P = j.0.path in
    let r1 = longer r (entry.Put k) in
    let gone = replace live k [] in
    let m0 = put_marking step depth tells deeper r cs live cap k j.0 c.args.walked c.self.invariant j.1 j.2 whole ds (put_all step depth tells deeper r cs live cap k j.0 c.args.walked c.self.invariant j.1 j.2 whole old ds s c.set_stage.ensures c.through_tally-sum.ensures c.settle.ensures still) in
    marking_there step depth P 0 2 k r1 ds gone cap m0

pub mark_one-requires-clause-family : goal.mark_one-requires-clause-family
mark_one-requires-clause-family g c =
    let i = c.self.inside in
    let step = g.S.Step.step_of in
    let depth = g.S.Step.depth in
    let tells = g.met.S.Step.tells in
    let deeper = g.met.S.Step.deeper in
    let r : Run g.row.S-Task.Denot = record { root = i.root; rule = i.rule; history = i.history.items } in
    let cs = i.nodes.items in
    let live = reverse i.live.items in
    let cap = vec_capacity i.history in
    let k = c.args.job.node in
    let j = c.is_job.ensures.0 c.if-not-is_job.false in
    let rule = c.same_rule.ensures.0 c.if-not-same_rule.false in
    let whole : c.args.walked ≡ full step depth i.rule j.0.task = c.requires ∙ (ap (λ (x : Rule). full step depth x c.args.job.task) (sym rule) ∙ ap (full step depth i.rule) j.3) in
    let old = c.set_stage.new.nodes.items in
    let s = c.through_tally-sum.result in
    let ds = c.settle.new.nodes.items in
    let still : 2 ≤ length (out_children (step j.0.task).out) → length j.0.path < 3 → length cs + length (out_children (step j.0.task).out) ≤ 1000000 → ⊥ = λ many deep few. not_both c.can_expand.result c.if-can_expand.false (c.can_expand.ensures.1 (j.0, j.1, many, deep, few)) in
    let P = j.0.path in
    let r1 = longer r (entry.Put k) in
    let gone = replace live k [] in
    let m0 = put_marking step depth tells deeper r cs live cap k j.0 c.args.walked c.self.invariant j.1 j.2 whole ds (put_all step depth tells deeper r cs live cap k j.0 c.args.walked c.self.invariant j.1 j.2 whole old ds s c.set_stage.ensures c.through_tally-sum.ensures c.settle.ensures still) in
    marking_family step depth P 0 2 k r1 ds gone cap m0

pub mark_one-requires-clause-small : goal.mark_one-requires-clause-small
mark_one-requires-clause-small g c =
    let i = c.self.inside in
    let step = g.S.Step.step_of in
    let depth = g.S.Step.depth in
    let tells = g.met.S.Step.tells in
    let deeper = g.met.S.Step.deeper in
    let r : Run g.row.S-Task.Denot = record { root = i.root; rule = i.rule; history = i.history.items } in
    let cs = i.nodes.items in
    let live = reverse i.live.items in
    let cap = vec_capacity i.history in
    let k = c.args.job.node in
    let j = c.is_job.ensures.0 c.if-not-is_job.false in
    let rule = c.same_rule.ensures.0 c.if-not-same_rule.false in
    let whole : c.args.walked ≡ full step depth i.rule j.0.task = c.requires ∙ (ap (λ (x : Rule). full step depth x c.args.job.task) (sym rule) ∙ ap (full step depth i.rule) j.3) in
    let old = c.set_stage.new.nodes.items in
    let s = c.through_tally-sum.result in
    let ds = c.settle.new.nodes.items in
    let still : 2 ≤ length (out_children (step j.0.task).out) → length j.0.path < 3 → length cs + length (out_children (step j.0.task).out) ≤ 1000000 → ⊥ = λ many deep few. not_both c.can_expand.result c.if-can_expand.false (c.can_expand.ensures.1 (j.0, j.1, many, deep, few)) in
    let P = j.0.path in
    let r1 = longer r (entry.Put k) in
    let gone = replace live k [] in
    let m0 = put_marking step depth tells deeper r cs live cap k j.0 c.args.walked c.self.invariant j.1 j.2 whole ds (put_all step depth tells deeper r cs live cap k j.0 c.args.walked c.self.invariant j.1 j.2 whole old ds s c.set_stage.ensures c.through_tally-sum.ensures c.settle.ensures still) in
    marking_small step depth P 0 2 k r1 ds gone cap m0

pub mark_one-requires-clause-room : goal.mark_one-requires-clause-room
mark_one-requires-clause-room g c =
    let i = c.self.inside in
    let step = g.S.Step.step_of in
    let depth = g.S.Step.depth in
    let tells = g.met.S.Step.tells in
    let deeper = g.met.S.Step.deeper in
    let r : Run g.row.S-Task.Denot = record { root = i.root; rule = i.rule; history = i.history.items } in
    let cs = i.nodes.items in
    let live = reverse i.live.items in
    let cap = vec_capacity i.history in
    let k = c.args.job.node in
    let j = c.is_job.ensures.0 c.if-not-is_job.false in
    let rule = c.same_rule.ensures.0 c.if-not-same_rule.false in
    let whole : c.args.walked ≡ full step depth i.rule j.0.task = c.requires ∙ (ap (λ (x : Rule). full step depth x c.args.job.task) (sym rule) ∙ ap (full step depth i.rule) j.3) in
    let old = c.set_stage.new.nodes.items in
    let s = c.through_tally-sum.result in
    let ds = c.settle.new.nodes.items in
    let still : 2 ≤ length (out_children (step j.0.task).out) → length j.0.path < 3 → length cs + length (out_children (step j.0.task).out) ≤ 1000000 → ⊥ = λ many deep few. not_both c.can_expand.result c.if-can_expand.false (c.can_expand.ensures.1 (j.0, j.1, many, deep, few)) in
    let le = three_levels step depth tells deeper r cs live cap k j.0 c.args.walked c.self.invariant j.1 j.2 whole old ds s c.set_stage.ensures c.through_tally-sum.ensures in
    let P = j.0.path in
    let r1 = longer r (entry.Put k) in
    let gone = replace live k [] in
    let m0 = put_marking step depth tells deeper r cs live cap k j.0 c.args.walked c.self.invariant j.1 j.2 whole ds (put_all step depth tells deeper r cs live cap k j.0 c.args.walked c.self.invariant j.1 j.2 whole old ds s c.set_stage.ensures c.through_tally-sum.ensures c.settle.ensures still) in
    let room = marking_room step depth P 0 2 k r1 ds gone cap m0 in
    let same = ap length c.push_reserved.ensures.items in
    let cap0 = c.push_reserved.ensures.capacity in
    omega arith

pub mark_one-requires-2-clause-there : goal.mark_one-requires-2-clause-there
mark_one-requires-2-clause-there g c =
    let i = c.self.inside in
    let step = g.S.Step.step_of in
    let depth = g.S.Step.depth in
    let tells = g.met.S.Step.tells in
    let deeper = g.met.S.Step.deeper in
    let r : Run g.row.S-Task.Denot = record { root = i.root; rule = i.rule; history = i.history.items } in
    let cs = i.nodes.items in
    let live = reverse i.live.items in
    let cap = vec_capacity i.history in
    let k = c.args.job.node in
    let j = c.is_job.ensures.0 c.if-not-is_job.false in
    let rule = c.same_rule.ensures.0 c.if-not-same_rule.false in
    let whole : c.args.walked ≡ full step depth i.rule j.0.task = c.requires ∙ (ap (λ (x : Rule). full step depth x c.args.job.task) (sym rule) ∙ ap (full step depth i.rule) j.3) in
    let old = c.set_stage.new.nodes.items in
    let s = c.through_tally-sum.result in
    let ds = c.settle.new.nodes.items in
    let still : 2 ≤ length (out_children (step j.0.task).out) → length j.0.path < 3 → length cs + length (out_children (step j.0.task).out) ≤ 1000000 → ⊥ = λ many deep few. not_both c.can_expand.result c.if-can_expand.false (c.can_expand.ensures.1 (j.0, j.1, many, deep, few)) in
    let P = j.0.path in
    let r1 = longer r (entry.Put k) in
    let gone = replace live k [] in
    let m0 = put_marking step depth tells deeper r cs live cap k j.0 c.args.walked c.self.invariant j.1 j.2 whole ds (put_all step depth tells deeper r cs live cap k j.0 c.args.walked c.self.invariant j.1 j.2 whole old ds s c.set_stage.ensures c.through_tally-sum.ensures c.settle.ensures still) in
    let c1 = c.mark_one.new.nodes.items in
    let e0 = mark_list ds (slice_get P 0) in
    let n0 : c1 ≡ mark_nodes ds (slice_get P 0) = c.mark_one.ensures.nodes m0.node m0.at ∙ ap (λ (p : List Link). mark_nodes ds (slice_get p 0)) m0.path in
    let r2 : Run g.row.S-Task.Denot = record r1 { history = r1.history ++ e0 } in
    let m1 = marking_next step depth P 0 2 k r1 ds gone cap m0 tells deeper 1 refl c1 e0 n0 refl in
    marking_there step depth P 1 1 k r2 c1 gone cap m1

pub mark_one-requires-2-clause-family : goal.mark_one-requires-2-clause-family
mark_one-requires-2-clause-family g c =
    let i = c.self.inside in
    let step = g.S.Step.step_of in
    let depth = g.S.Step.depth in
    let tells = g.met.S.Step.tells in
    let deeper = g.met.S.Step.deeper in
    let r : Run g.row.S-Task.Denot = record { root = i.root; rule = i.rule; history = i.history.items } in
    let cs = i.nodes.items in
    let live = reverse i.live.items in
    let cap = vec_capacity i.history in
    let k = c.args.job.node in
    let j = c.is_job.ensures.0 c.if-not-is_job.false in
    let rule = c.same_rule.ensures.0 c.if-not-same_rule.false in
    let whole : c.args.walked ≡ full step depth i.rule j.0.task = c.requires ∙ (ap (λ (x : Rule). full step depth x c.args.job.task) (sym rule) ∙ ap (full step depth i.rule) j.3) in
    let old = c.set_stage.new.nodes.items in
    let s = c.through_tally-sum.result in
    let ds = c.settle.new.nodes.items in
    let still : 2 ≤ length (out_children (step j.0.task).out) → length j.0.path < 3 → length cs + length (out_children (step j.0.task).out) ≤ 1000000 → ⊥ = λ many deep few. not_both c.can_expand.result c.if-can_expand.false (c.can_expand.ensures.1 (j.0, j.1, many, deep, few)) in
    let P = j.0.path in
    let r1 = longer r (entry.Put k) in
    let gone = replace live k [] in
    let m0 = put_marking step depth tells deeper r cs live cap k j.0 c.args.walked c.self.invariant j.1 j.2 whole ds (put_all step depth tells deeper r cs live cap k j.0 c.args.walked c.self.invariant j.1 j.2 whole old ds s c.set_stage.ensures c.through_tally-sum.ensures c.settle.ensures still) in
    let c1 = c.mark_one.new.nodes.items in
    let e0 = mark_list ds (slice_get P 0) in
    let n0 : c1 ≡ mark_nodes ds (slice_get P 0) = c.mark_one.ensures.nodes m0.node m0.at ∙ ap (λ (p : List Link). mark_nodes ds (slice_get p 0)) m0.path in
    let r2 : Run g.row.S-Task.Denot = record r1 { history = r1.history ++ e0 } in
    let m1 = marking_next step depth P 0 2 k r1 ds gone cap m0 tells deeper 1 refl c1 e0 n0 refl in
    marking_family step depth P 1 1 k r2 c1 gone cap m1

pub mark_one-requires-2-clause-small : goal.mark_one-requires-2-clause-small
mark_one-requires-2-clause-small g c =
    let i = c.self.inside in
    let step = g.S.Step.step_of in
    let depth = g.S.Step.depth in
    let tells = g.met.S.Step.tells in
    let deeper = g.met.S.Step.deeper in
    let r : Run g.row.S-Task.Denot = record { root = i.root; rule = i.rule; history = i.history.items } in
    let cs = i.nodes.items in
    let live = reverse i.live.items in
    let cap = vec_capacity i.history in
    let k = c.args.job.node in
    let j = c.is_job.ensures.0 c.if-not-is_job.false in
    let rule = c.same_rule.ensures.0 c.if-not-same_rule.false in
    let whole : c.args.walked ≡ full step depth i.rule j.0.task = c.requires ∙ (ap (λ (x : Rule). full step depth x c.args.job.task) (sym rule) ∙ ap (full step depth i.rule) j.3) in
    let old = c.set_stage.new.nodes.items in
    let s = c.through_tally-sum.result in
    let ds = c.settle.new.nodes.items in
    let still : 2 ≤ length (out_children (step j.0.task).out) → length j.0.path < 3 → length cs + length (out_children (step j.0.task).out) ≤ 1000000 → ⊥ = λ many deep few. not_both c.can_expand.result c.if-can_expand.false (c.can_expand.ensures.1 (j.0, j.1, many, deep, few)) in
    let P = j.0.path in
    let r1 = longer r (entry.Put k) in
    let gone = replace live k [] in
    let m0 = put_marking step depth tells deeper r cs live cap k j.0 c.args.walked c.self.invariant j.1 j.2 whole ds (put_all step depth tells deeper r cs live cap k j.0 c.args.walked c.self.invariant j.1 j.2 whole old ds s c.set_stage.ensures c.through_tally-sum.ensures c.settle.ensures still) in
    let c1 = c.mark_one.new.nodes.items in
    let e0 = mark_list ds (slice_get P 0) in
    let n0 : c1 ≡ mark_nodes ds (slice_get P 0) = c.mark_one.ensures.nodes m0.node m0.at ∙ ap (λ (p : List Link). mark_nodes ds (slice_get p 0)) m0.path in
    let r2 : Run g.row.S-Task.Denot = record r1 { history = r1.history ++ e0 } in
    let m1 = marking_next step depth P 0 2 k r1 ds gone cap m0 tells deeper 1 refl c1 e0 n0 refl in
    marking_small step depth P 1 1 k r2 c1 gone cap m1

pub mark_one-requires-2-clause-room : goal.mark_one-requires-2-clause-room
mark_one-requires-2-clause-room g c =
    let i = c.self.inside in
    let step = g.S.Step.step_of in
    let depth = g.S.Step.depth in
    let tells = g.met.S.Step.tells in
    let deeper = g.met.S.Step.deeper in
    let r : Run g.row.S-Task.Denot = record { root = i.root; rule = i.rule; history = i.history.items } in
    let cs = i.nodes.items in
    let live = reverse i.live.items in
    let cap = vec_capacity i.history in
    let k = c.args.job.node in
    let j = c.is_job.ensures.0 c.if-not-is_job.false in
    let rule = c.same_rule.ensures.0 c.if-not-same_rule.false in
    let whole : c.args.walked ≡ full step depth i.rule j.0.task = c.requires ∙ (ap (λ (x : Rule). full step depth x c.args.job.task) (sym rule) ∙ ap (full step depth i.rule) j.3) in
    let old = c.set_stage.new.nodes.items in
    let s = c.through_tally-sum.result in
    let ds = c.settle.new.nodes.items in
    let still : 2 ≤ length (out_children (step j.0.task).out) → length j.0.path < 3 → length cs + length (out_children (step j.0.task).out) ≤ 1000000 → ⊥ = λ many deep few. not_both c.can_expand.result c.if-can_expand.false (c.can_expand.ensures.1 (j.0, j.1, many, deep, few)) in
    let le = three_levels step depth tells deeper r cs live cap k j.0 c.args.walked c.self.invariant j.1 j.2 whole old ds s c.set_stage.ensures c.through_tally-sum.ensures in
    let P = j.0.path in
    let r1 = longer r (entry.Put k) in
    let gone = replace live k [] in
    let m0 = put_marking step depth tells deeper r cs live cap k j.0 c.args.walked c.self.invariant j.1 j.2 whole ds (put_all step depth tells deeper r cs live cap k j.0 c.args.walked c.self.invariant j.1 j.2 whole old ds s c.set_stage.ensures c.through_tally-sum.ensures c.settle.ensures still) in
    let c1 = c.mark_one.new.nodes.items in
    let e0 = mark_list ds (slice_get P 0) in
    let n0 : c1 ≡ mark_nodes ds (slice_get P 0) = c.mark_one.ensures.nodes m0.node m0.at ∙ ap (λ (p : List Link). mark_nodes ds (slice_get p 0)) m0.path in
    let h0 : c.mark_one.new.history.items ≡ (i.history.items ++ entry.Put k ∷ []) ++ e0 = c.mark_one.ensures.history m0.node m0.at ∙ (ap (λ (p : List Link). c.push_reserved.new.self.items ++ mark_list ds (slice_get p 0)) m0.path ∙ ap (λ (h : List Entry). h ++ e0) c.push_reserved.ensures.items) in
    let r2 : Run g.row.S-Task.Denot = record r1 { history = r1.history ++ e0 } in
    let m1 = marking_next step depth P 0 2 k r1 ds gone cap m0 tells deeper 1 refl c1 e0 n0 refl in
    let room = marking_room step depth P 1 1 k r2 c1 gone cap m1 in
    let same = ap length h0 in
    let cap0 = c.push_reserved.ensures.capacity in
    let cap1 = c.mark_one.ensures.capacity in
    omega arith

pub mark_one-requires-3-clause-there : goal.mark_one-requires-3-clause-there
mark_one-requires-3-clause-there g c =
    let i = c.self.inside in
    let step = g.S.Step.step_of in
    let depth = g.S.Step.depth in
    let tells = g.met.S.Step.tells in
    let deeper = g.met.S.Step.deeper in
    let r : Run g.row.S-Task.Denot = record { root = i.root; rule = i.rule; history = i.history.items } in
    let cs = i.nodes.items in
    let live = reverse i.live.items in
    let cap = vec_capacity i.history in
    let k = c.args.job.node in
    let j = c.is_job.ensures.0 c.if-not-is_job.false in
    let rule = c.same_rule.ensures.0 c.if-not-same_rule.false in
    let whole : c.args.walked ≡ full step depth i.rule j.0.task = c.requires ∙ (ap (λ (x : Rule). full step depth x c.args.job.task) (sym rule) ∙ ap (full step depth i.rule) j.3) in
    let old = c.set_stage.new.nodes.items in
    let s = c.through_tally-sum.result in
    let ds = c.settle.new.nodes.items in
    let still : 2 ≤ length (out_children (step j.0.task).out) → length j.0.path < 3 → length cs + length (out_children (step j.0.task).out) ≤ 1000000 → ⊥ = λ many deep few. not_both c.can_expand.result c.if-can_expand.false (c.can_expand.ensures.1 (j.0, j.1, many, deep, few)) in
    let P = j.0.path in
    let r1 = longer r (entry.Put k) in
    let gone = replace live k [] in
    let m0 = put_marking step depth tells deeper r cs live cap k j.0 c.args.walked c.self.invariant j.1 j.2 whole ds (put_all step depth tells deeper r cs live cap k j.0 c.args.walked c.self.invariant j.1 j.2 whole old ds s c.set_stage.ensures c.through_tally-sum.ensures c.settle.ensures still) in
    let c1 = c.mark_one.new.nodes.items in
    let e0 = mark_list ds (slice_get P 0) in
    let n0 : c1 ≡ mark_nodes ds (slice_get P 0) = c.mark_one.ensures.nodes m0.node m0.at ∙ ap (λ (p : List Link). mark_nodes ds (slice_get p 0)) m0.path in
    let r2 : Run g.row.S-Task.Denot = record r1 { history = r1.history ++ e0 } in
    let m1 = marking_next step depth P 0 2 k r1 ds gone cap m0 tells deeper 1 refl c1 e0 n0 refl in
    let c2 = c.mark_one-2.new.nodes.items in
    let e1 = mark_list c1 (slice_get P 1) in
    let n1 : c2 ≡ mark_nodes c1 (slice_get P 1) = c.mark_one-2.ensures.nodes m1.node m1.at ∙ ap (λ (p : List Link). mark_nodes c1 (slice_get p 1)) m1.path in
    let r3 : Run g.row.S-Task.Denot = record r2 { history = r2.history ++ e1 } in
    let m2 = marking_next step depth P 1 1 k r2 c1 gone cap m1 tells deeper 2 refl c2 e1 n1 refl in
    marking_there step depth P 2 0 k r3 c2 gone cap m2

pub mark_one-requires-3-clause-family : goal.mark_one-requires-3-clause-family
mark_one-requires-3-clause-family g c =
    let i = c.self.inside in
    let step = g.S.Step.step_of in
    let depth = g.S.Step.depth in
    let tells = g.met.S.Step.tells in
    let deeper = g.met.S.Step.deeper in
    let r : Run g.row.S-Task.Denot = record { root = i.root; rule = i.rule; history = i.history.items } in
    let cs = i.nodes.items in
    let live = reverse i.live.items in
    let cap = vec_capacity i.history in
    let k = c.args.job.node in
    let j = c.is_job.ensures.0 c.if-not-is_job.false in
    let rule = c.same_rule.ensures.0 c.if-not-same_rule.false in
    let whole : c.args.walked ≡ full step depth i.rule j.0.task = c.requires ∙ (ap (λ (x : Rule). full step depth x c.args.job.task) (sym rule) ∙ ap (full step depth i.rule) j.3) in
    let old = c.set_stage.new.nodes.items in
    let s = c.through_tally-sum.result in
    let ds = c.settle.new.nodes.items in
    let still : 2 ≤ length (out_children (step j.0.task).out) → length j.0.path < 3 → length cs + length (out_children (step j.0.task).out) ≤ 1000000 → ⊥ = λ many deep few. not_both c.can_expand.result c.if-can_expand.false (c.can_expand.ensures.1 (j.0, j.1, many, deep, few)) in
    let P = j.0.path in
    let r1 = longer r (entry.Put k) in
    let gone = replace live k [] in
    let m0 = put_marking step depth tells deeper r cs live cap k j.0 c.args.walked c.self.invariant j.1 j.2 whole ds (put_all step depth tells deeper r cs live cap k j.0 c.args.walked c.self.invariant j.1 j.2 whole old ds s c.set_stage.ensures c.through_tally-sum.ensures c.settle.ensures still) in
    let c1 = c.mark_one.new.nodes.items in
    let e0 = mark_list ds (slice_get P 0) in
    let n0 : c1 ≡ mark_nodes ds (slice_get P 0) = c.mark_one.ensures.nodes m0.node m0.at ∙ ap (λ (p : List Link). mark_nodes ds (slice_get p 0)) m0.path in
    let r2 : Run g.row.S-Task.Denot = record r1 { history = r1.history ++ e0 } in
    let m1 = marking_next step depth P 0 2 k r1 ds gone cap m0 tells deeper 1 refl c1 e0 n0 refl in
    let c2 = c.mark_one-2.new.nodes.items in
    let e1 = mark_list c1 (slice_get P 1) in
    let n1 : c2 ≡ mark_nodes c1 (slice_get P 1) = c.mark_one-2.ensures.nodes m1.node m1.at ∙ ap (λ (p : List Link). mark_nodes c1 (slice_get p 1)) m1.path in
    let r3 : Run g.row.S-Task.Denot = record r2 { history = r2.history ++ e1 } in
    let m2 = marking_next step depth P 1 1 k r2 c1 gone cap m1 tells deeper 2 refl c2 e1 n1 refl in
    marking_family step depth P 2 0 k r3 c2 gone cap m2

pub mark_one-requires-3-clause-small : goal.mark_one-requires-3-clause-small
mark_one-requires-3-clause-small g c =
    let i = c.self.inside in
    let step = g.S.Step.step_of in
    let depth = g.S.Step.depth in
    let tells = g.met.S.Step.tells in
    let deeper = g.met.S.Step.deeper in
    let r : Run g.row.S-Task.Denot = record { root = i.root; rule = i.rule; history = i.history.items } in
    let cs = i.nodes.items in
    let live = reverse i.live.items in
    let cap = vec_capacity i.history in
    let k = c.args.job.node in
    let j = c.is_job.ensures.0 c.if-not-is_job.false in
    let rule = c.same_rule.ensures.0 c.if-not-same_rule.false in
    let whole : c.args.walked ≡ full step depth i.rule j.0.task = c.requires ∙ (ap (λ (x : Rule). full step depth x c.args.job.task) (sym rule) ∙ ap (full step depth i.rule) j.3) in
    let old = c.set_stage.new.nodes.items in
    let s = c.through_tally-sum.result in
    let ds = c.settle.new.nodes.items in
    let still : 2 ≤ length (out_children (step j.0.task).out) → length j.0.path < 3 → length cs + length (out_children (step j.0.task).out) ≤ 1000000 → ⊥ = λ many deep few. not_both c.can_expand.result c.if-can_expand.false (c.can_expand.ensures.1 (j.0, j.1, many, deep, few)) in
    let P = j.0.path in
    let r1 = longer r (entry.Put k) in
    let gone = replace live k [] in
    let m0 = put_marking step depth tells deeper r cs live cap k j.0 c.args.walked c.self.invariant j.1 j.2 whole ds (put_all step depth tells deeper r cs live cap k j.0 c.args.walked c.self.invariant j.1 j.2 whole old ds s c.set_stage.ensures c.through_tally-sum.ensures c.settle.ensures still) in
    let c1 = c.mark_one.new.nodes.items in
    let e0 = mark_list ds (slice_get P 0) in
    let n0 : c1 ≡ mark_nodes ds (slice_get P 0) = c.mark_one.ensures.nodes m0.node m0.at ∙ ap (λ (p : List Link). mark_nodes ds (slice_get p 0)) m0.path in
    let r2 : Run g.row.S-Task.Denot = record r1 { history = r1.history ++ e0 } in
    let m1 = marking_next step depth P 0 2 k r1 ds gone cap m0 tells deeper 1 refl c1 e0 n0 refl in
    let c2 = c.mark_one-2.new.nodes.items in
    let e1 = mark_list c1 (slice_get P 1) in
    let n1 : c2 ≡ mark_nodes c1 (slice_get P 1) = c.mark_one-2.ensures.nodes m1.node m1.at ∙ ap (λ (p : List Link). mark_nodes c1 (slice_get p 1)) m1.path in
    let r3 : Run g.row.S-Task.Denot = record r2 { history = r2.history ++ e1 } in
    let m2 = marking_next step depth P 1 1 k r2 c1 gone cap m1 tells deeper 2 refl c2 e1 n1 refl in
    marking_small step depth P 2 0 k r3 c2 gone cap m2

pub mark_one-requires-3-clause-room : goal.mark_one-requires-3-clause-room
mark_one-requires-3-clause-room g c =
    let i = c.self.inside in
    let step = g.S.Step.step_of in
    let depth = g.S.Step.depth in
    let tells = g.met.S.Step.tells in
    let deeper = g.met.S.Step.deeper in
    let r : Run g.row.S-Task.Denot = record { root = i.root; rule = i.rule; history = i.history.items } in
    let cs = i.nodes.items in
    let live = reverse i.live.items in
    let cap = vec_capacity i.history in
    let k = c.args.job.node in
    let j = c.is_job.ensures.0 c.if-not-is_job.false in
    let rule = c.same_rule.ensures.0 c.if-not-same_rule.false in
    let whole : c.args.walked ≡ full step depth i.rule j.0.task = c.requires ∙ (ap (λ (x : Rule). full step depth x c.args.job.task) (sym rule) ∙ ap (full step depth i.rule) j.3) in
    let old = c.set_stage.new.nodes.items in
    let s = c.through_tally-sum.result in
    let ds = c.settle.new.nodes.items in
    let still : 2 ≤ length (out_children (step j.0.task).out) → length j.0.path < 3 → length cs + length (out_children (step j.0.task).out) ≤ 1000000 → ⊥ = λ many deep few. not_both c.can_expand.result c.if-can_expand.false (c.can_expand.ensures.1 (j.0, j.1, many, deep, few)) in
    let le = three_levels step depth tells deeper r cs live cap k j.0 c.args.walked c.self.invariant j.1 j.2 whole old ds s c.set_stage.ensures c.through_tally-sum.ensures in
    let P = j.0.path in
    let r1 = longer r (entry.Put k) in
    let gone = replace live k [] in
    let m0 = put_marking step depth tells deeper r cs live cap k j.0 c.args.walked c.self.invariant j.1 j.2 whole ds (put_all step depth tells deeper r cs live cap k j.0 c.args.walked c.self.invariant j.1 j.2 whole old ds s c.set_stage.ensures c.through_tally-sum.ensures c.settle.ensures still) in
    let c1 = c.mark_one.new.nodes.items in
    let e0 = mark_list ds (slice_get P 0) in
    let n0 : c1 ≡ mark_nodes ds (slice_get P 0) = c.mark_one.ensures.nodes m0.node m0.at ∙ ap (λ (p : List Link). mark_nodes ds (slice_get p 0)) m0.path in
    let h0 : c.mark_one.new.history.items ≡ (i.history.items ++ entry.Put k ∷ []) ++ e0 = c.mark_one.ensures.history m0.node m0.at ∙ (ap (λ (p : List Link). c.push_reserved.new.self.items ++ mark_list ds (slice_get p 0)) m0.path ∙ ap (λ (h : List Entry). h ++ e0) c.push_reserved.ensures.items) in
    let r2 : Run g.row.S-Task.Denot = record r1 { history = r1.history ++ e0 } in
    let m1 = marking_next step depth P 0 2 k r1 ds gone cap m0 tells deeper 1 refl c1 e0 n0 refl in
    let c2 = c.mark_one-2.new.nodes.items in
    let e1 = mark_list c1 (slice_get P 1) in
    let n1 : c2 ≡ mark_nodes c1 (slice_get P 1) = c.mark_one-2.ensures.nodes m1.node m1.at ∙ ap (λ (p : List Link). mark_nodes c1 (slice_get p 1)) m1.path in
    let h1 : c.mark_one-2.new.history.items ≡ ((i.history.items ++ entry.Put k ∷ []) ++ e0) ++ e1 = c.mark_one-2.ensures.history m1.node m1.at ∙ (ap (λ (p : List Link). c.mark_one.new.history.items ++ mark_list c1 (slice_get p 1)) m1.path ∙ ap (λ (h : List Entry). h ++ e1) h0) in
    let r3 : Run g.row.S-Task.Denot = record r2 { history = r2.history ++ e1 } in
    let m2 = marking_next step depth P 1 1 k r2 c1 gone cap m1 tells deeper 2 refl c2 e1 n1 refl in
    let room = marking_room step depth P 2 0 k r3 c2 gone cap m2 in
    let same = ap length h1 in
    let cap0 = c.push_reserved.ensures.capacity in
    let cap1 = c.mark_one.ensures.capacity in
    let cap2 = c.mark_one-2.ensures.capacity in
    omega arith

pub invariant_of-self : goal.invariant_of-self
invariant_of-self g c =
    let i = c.self.inside in
    let step = g.S.Step.step_of in
    let depth = g.S.Step.depth in
    let tells = g.met.S.Step.tells in
    let deeper = g.met.S.Step.deeper in
    let r : Run g.row.S-Task.Denot = record { root = i.root; rule = i.rule; history = i.history.items } in
    let cs = i.nodes.items in
    let live = reverse i.live.items in
    let cap = vec_capacity i.history in
    let k = c.args.job.node in
    let j = c.is_job.ensures.0 c.if-not-is_job.false in
    let rule = c.same_rule.ensures.0 c.if-not-same_rule.false in
    let whole : c.args.walked ≡ full step depth i.rule j.0.task = c.requires ∙ (ap (λ (x : Rule). full step depth x c.args.job.task) (sym rule) ∙ ap (full step depth i.rule) j.3) in
    let old = c.set_stage.new.nodes.items in
    let s = c.through_tally-sum.result in
    let ds = c.settle.new.nodes.items in
    let still : 2 ≤ length (out_children (step j.0.task).out) → length j.0.path < 3 → length cs + length (out_children (step j.0.task).out) ≤ 1000000 → ⊥ = λ many deep few. not_both c.can_expand.result c.if-can_expand.false (c.can_expand.ensures.1 (j.0, j.1, many, deep, few)) in
    let le = three_levels step depth tells deeper r cs live cap k j.0 c.args.walked c.self.invariant j.1 j.2 whole old ds s c.set_stage.ensures c.through_tally-sum.ensures in
    let P = j.0.path in
    let r1 = longer r (entry.Put k) in
    let gone = replace live k [] in
    let m0 = put_marking step depth tells deeper r cs live cap k j.0 c.args.walked c.self.invariant j.1 j.2 whole ds (put_all step depth tells deeper r cs live cap k j.0 c.args.walked c.self.invariant j.1 j.2 whole old ds s c.set_stage.ensures c.through_tally-sum.ensures c.settle.ensures still) in
    let c1 = c.mark_one.new.nodes.items in
    let e0 = mark_list ds (slice_get P 0) in
    let n0 : c1 ≡ mark_nodes ds (slice_get P 0) = c.mark_one.ensures.nodes m0.node m0.at ∙ ap (λ (p : List Link). mark_nodes ds (slice_get p 0)) m0.path in
    let h0 : c.mark_one.new.history.items ≡ (i.history.items ++ entry.Put k ∷ []) ++ e0 = c.mark_one.ensures.history m0.node m0.at ∙ (ap (λ (p : List Link). c.push_reserved.new.self.items ++ mark_list ds (slice_get p 0)) m0.path ∙ ap (λ (h : List Entry). h ++ e0) c.push_reserved.ensures.items) in
    let r2 : Run g.row.S-Task.Denot = record r1 { history = r1.history ++ e0 } in
    let m1 = marking_next step depth P 0 2 k r1 ds gone cap m0 tells deeper 1 refl c1 e0 n0 refl in
    let c2 = c.mark_one-2.new.nodes.items in
    let e1 = mark_list c1 (slice_get P 1) in
    let n1 : c2 ≡ mark_nodes c1 (slice_get P 1) = c.mark_one-2.ensures.nodes m1.node m1.at ∙ ap (λ (p : List Link). mark_nodes c1 (slice_get p 1)) m1.path in
    let h1 : c.mark_one-2.new.history.items ≡ ((i.history.items ++ entry.Put k ∷ []) ++ e0) ++ e1 = c.mark_one-2.ensures.history m1.node m1.at ∙ (ap (λ (p : List Link). c.mark_one.new.history.items ++ mark_list c1 (slice_get p 1)) m1.path ∙ ap (λ (h : List Entry). h ++ e1) h0) in
    let r3 : Run g.row.S-Task.Denot = record r2 { history = r2.history ++ e1 } in
    let m2 = marking_next step depth P 1 1 k r2 c1 gone cap m1 tells deeper 2 refl c2 e1 n1 refl in
    let c3 = c.mark_one-3.new.nodes.items in
    let e2 = mark_list c2 (slice_get P 2) in
    let n2 : c3 ≡ mark_nodes c2 (slice_get P 2) = c.mark_one-3.ensures.nodes m2.node m2.at ∙ ap (λ (p : List Link). mark_nodes c2 (slice_get p 2)) m2.path in
    let h2 : c.mark_one-3.new.history.items ≡ (((i.history.items ++ entry.Put k ∷ []) ++ e0) ++ e1) ++ e2 = c.mark_one-3.ensures.history m2.node m2.at ∙ (ap (λ (p : List Link). c.mark_one-2.new.history.items ++ mark_list c2 (slice_get p 2)) m2.path ∙ ap (λ (h : List Entry). h ++ e2) h1) in
    let r4 : Run g.row.S-Task.Denot = record r3 { history = r3.history ++ e2 } in
    let m3 = marking_next step depth P 2 0 k r3 c2 gone cap m2 tells deeper 3 refl c3 e2 n2 refl in
    rw (c.take_out.ensures, c.mark_one-3.ensures.capacity, c.mark_one-2.ensures.capacity, c.mark_one.ensures.capacity, c.push_reserved.ensures.capacity, h2)
    (marked_all step depth tells deeper P k r4 c3 gone cap le m3)

pub returns : goal.returns
returns g c =
    let i = c.self.inside in
    let step = g.S.Step.step_of in
    let depth = g.S.Step.depth in
    let tells = g.met.S.Step.tells in
    let deeper = g.met.S.Step.deeper in
    let r : Run g.row.S-Task.Denot = record { root = i.root; rule = i.rule; history = i.history.items } in
    let cs = i.nodes.items in
    let live = reverse i.live.items in
    let cap = vec_capacity i.history in
    let k = c.args.job.node in
    let j = c.is_job.ensures.0 c.if-not-is_job.false in
    let rule = c.same_rule.ensures.0 c.if-not-same_rule.false in
    let whole : c.args.walked ≡ full step depth i.rule j.0.task = c.requires ∙ (ap (λ (x : Rule). full step depth x c.args.job.task) (sym rule) ∙ ap (full step depth i.rule) j.3) in
    let old = c.set_stage.new.nodes.items in
    let s = c.through_tally-sum.result in
    let ds = c.settle.new.nodes.items in
    let still : 2 ≤ length (out_children (step j.0.task).out) → length j.0.path < 3 → length cs + length (out_children (step j.0.task).out) ≤ 1000000 → ⊥ = λ many deep few. not_both c.can_expand.result c.if-can_expand.false (c.can_expand.ensures.1 (j.0, j.1, many, deep, few)) in
    let le = three_levels step depth tells deeper r cs live cap k j.0 c.args.walked c.self.invariant j.1 j.2 whole old ds s c.set_stage.ensures c.through_tally-sum.ensures in
    let P = j.0.path in
    let r1 = longer r (entry.Put k) in
    let gone = replace live k [] in
    let m0 = put_marking step depth tells deeper r cs live cap k j.0 c.args.walked c.self.invariant j.1 j.2 whole ds (put_all step depth tells deeper r cs live cap k j.0 c.args.walked c.self.invariant j.1 j.2 whole old ds s c.set_stage.ensures c.through_tally-sum.ensures c.settle.ensures still) in
    let c1 = c.mark_one.new.nodes.items in
    let e0 = mark_list ds (slice_get P 0) in
    let n0 : c1 ≡ mark_nodes ds (slice_get P 0) = c.mark_one.ensures.nodes m0.node m0.at ∙ ap (λ (p : List Link). mark_nodes ds (slice_get p 0)) m0.path in
    let h0 : c.mark_one.new.history.items ≡ (i.history.items ++ entry.Put k ∷ []) ++ e0 = c.mark_one.ensures.history m0.node m0.at ∙ (ap (λ (p : List Link). c.push_reserved.new.self.items ++ mark_list ds (slice_get p 0)) m0.path ∙ ap (λ (h : List Entry). h ++ e0) c.push_reserved.ensures.items) in
    let r2 : Run g.row.S-Task.Denot = record r1 { history = r1.history ++ e0 } in
    let m1 = marking_next step depth P 0 2 k r1 ds gone cap m0 tells deeper 1 refl c1 e0 n0 refl in
    let c2 = c.mark_one-2.new.nodes.items in
    let e1 = mark_list c1 (slice_get P 1) in
    let n1 : c2 ≡ mark_nodes c1 (slice_get P 1) = c.mark_one-2.ensures.nodes m1.node m1.at ∙ ap (λ (p : List Link). mark_nodes c1 (slice_get p 1)) m1.path in
    let h1 : c.mark_one-2.new.history.items ≡ ((i.history.items ++ entry.Put k ∷ []) ++ e0) ++ e1 = c.mark_one-2.ensures.history m1.node m1.at ∙ (ap (λ (p : List Link). c.mark_one.new.history.items ++ mark_list c1 (slice_get p 1)) m1.path ∙ ap (λ (h : List Entry). h ++ e1) h0) in
    let m2 = marking_next step depth P 1 1 k r2 c1 gone cap m1 tells deeper 2 refl c2 e1 n1 refl in
    let e2 = mark_list c2 (slice_get P 2) in
    let h2 : c.mark_one-3.new.history.items ≡ (((i.history.items ++ entry.Put k ∷ []) ++ e0) ++ e1) ++ e2 = c.mark_one-3.ensures.history m2.node m2.at ∙ (ap (λ (p : List Link). c.mark_one-2.new.history.items ++ mark_list c2 (slice_get p 2)) m2.path ∙ ap (λ (h : List Entry). h ++ e2) h1) in
    let marks = e0 ++ (e1 ++ e2) in
    let all : c.mark_one-3.new.history.items ≡ i.history.items ++ entry.Put k ∷ marks = h2 ∙ joined_history i.history.items e0 e1 e2 (entry.Put k) in
    let n = claimed_node step depth cs (nodes_of step depth r) k j.0 c.self.invariant.shows j.1 j.2 in (
      (
        marks,
        ap (λ (h : _). let x : Run g.row.S-Task.Denot = record { root = i.root; rule = i.rule; history = h } in x) all ∙ ap (λ (x : Run g.row.S-Task.Denot). let y : Run g.row.S-Task.Denot = record x { history = x.history ++ entry.Put k ∷ marks } in y) c.self.view_is,
        subst (λ (x : Run g.row.S-Task.Denot). (n : Node g.row.S-Task.Denot) × (slice_get (nodes_of step depth x) k ≡ Some n) × (marks ≡ stop_marks step depth x.rule (nodes_of step depth (longer x (entry.Put k))) n.path)) c.self.view_is
            (n.0, n.1, three_marks step depth tells deeper P k r1 ds c1 c2 gone cap le m0 n0 n1 ∙ ap (stop_marks step depth r.rule (nodes_of step depth r1)) n.4),
      ),
      (
        sym rule ∙ ap (λ (x : Run g.row.S-Task.Denot). x.rule) c.self.view_is,
        subst (λ (x : Run g.row.S-Task.Denot). (n : Node g.row.S-Task.Denot) × (slice_get (nodes_of step depth x) k ≡ Some n) × (n.phase ≡ claimed) × (c.args.job.task ≡ n.task)) c.self.view_is
            (job_shown step depth cs (nodes_of step depth r) k c.args.job.task c.self.invariant.shows j),
      ),
      (λ y.
          let own = still_kept step depth r cs k c.self.invariant.shows (subst (λ (x : Run g.row.S-Task.Denot). CanStill step depth x k) (sym c.self.view_is) y) in
          not_both c.can_expand.result c.if-can_expand.false (c.can_expand.ensures.1 own)),
    )

pub can_expand-requires-clause-there : goal.can_expand-requires-clause-there
can_expand-requires-clause-there g c =
    let j = c.is_job.ensures.0 c.if-not-is_job.false in
    below_length c.self.inside.nodes.items c.args.job.node j.0 j.1
