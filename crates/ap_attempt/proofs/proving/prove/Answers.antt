-- What has been walked, followed by what is to come from this turn on, is the attempt.
use Rattle.std.proofs.Common.{ℕ, ◌≤◌, ◌<◌, ap, sym, subst, ◌∙◌}
use Rattle.ap_list.specs.Lists.{Each}
use Rattle.ap_walk.specs.Visits.{IsSplit, Tells, out_children}
use Rattle.ap_attempt.specs.declared.turn.Turn.{Turn}
use Rattle.ap_attempt.specs.Attempts.{turns_from}
use Rattle.ap_attempt.specs.Laws.{EachAfterFirst, IsLater, mark_count}
use Rattle.ap_attempt.proofs.Following.{turn_shrinks}
use Rattle.ap_attempt.proofs.Keeping.{attempt_few, attempt_good, attempt_later}
use Rattle.ap_attempt.proofs.Making.{all_made, none_more, nothing_made, turn_made}
use Rattle.ap_attempt.proofs.proving.prove.Given.{Over}
use Rattle.ap_attempt.proofs.proving.prove.Goals as goal

tells : (g : Over) (task : g.row.P-Task.Denot) → Tells (g.P.Step.step_of task).act.process (g.P.Step.step_of task).out
tells g = (g.met.P.Step g.world.𝓛 g.world.𝓜 g.world.𝓡 ((λ s x. x), (λ x. x), (λ x. x), λ x. x)).tells

deeper : (g : Over) (task : g.row.P-Task.Denot) → Each (λ c. g.P.Step.depth c < g.P.Step.depth task) (out_children (g.P.Step.step_of task).out)
deeper g = (g.met.P.Step g.world.𝓛 g.world.𝓜 g.world.𝓡 ((λ s x. x), (λ x. x), (λ x. x), λ x. x)).deeper

whole : (g : Over) (task : g.row.P-Task.Denot) → IsSplit (g.P.Step.step_of task).out → Each g.P.Step.good (out_children (g.P.Step.step_of task).out) → g.P.Step.good task
whole g = (g.met.P.Step g.world.𝓛 g.world.𝓜 g.world.𝓡 ((λ s x. x), (λ x. x), (λ x. x), λ x. x)).whole

by_induction : (g : Over) (task : g.row.P-Task.Denot) (k : ℕ) → 1 ≤ k → g.P.Step.good (g.P.Prover.inducted task k) → g.P.Step.good task
by_induction g = (g.met.P.Prover g.world.𝓛 g.world.𝓜 g.world.𝓡 ((λ s x. x), (λ x. x), (λ x. x), λ x. x)).by_induction

by_original : (g : Over) (root : g.row.P-Task.Denot) → g.P.Step.good (g.P.Prover.original_of root) → g.P.Step.good root
by_original g = (g.met.P.Prover g.world.𝓛 g.world.𝓜 g.world.𝓡 ((λ s x. x), (λ x. x), (λ x. x), λ x. x)).by_original

pub loop-rest-init : goal.loop-rest-init
loop-rest-init g c =
    let turns : Turn g.row.P-Task.Denot → _ = turns_from g.P.Step.step_of g.P.Step.depth g.P.Prover.inducted (g.P.Prover.original_of c.args.root) (g.P.Prover.refuses_induction c.args.prover.now) in
    record {
      so_far =
          nothing_made g.P.Step.step_of g.P.Step.depth g.P.Step.name _ _ _ _ c.new.ensures c.new-2.ensures
          (ap (λ t. turns (record { task = t; rule = c.args.rule; rest = c.new-3.result })) c.in_ok-task.ensures
          ∙ ap (λ r. turns (record { task = c.args.root; rule = c.args.rule; rest = r })) c.new-3.ensures);
      alone = λ few. c.new-2.ensures;
    }

pub loop-rest-preserved : goal.loop-rest-preserved
loop-rest-preserved g c = record {
  so_far =
      turn_made g.P.Step.step_of g.P.Step.depth g.P.Step.name (tells g) g.P.Prover.inducted _ _ c.loop-rest.made.walks _ c.loop-rest.made.drops _ _ c.loop-rest.turn _ _ _ _
      c.loop-rest.invariant.so_far c.in_ok-walked.ensures.walked c.in_ok-next.ensures c.in_ok-walked.ensures.licensed c.in_ok-add.ensures.walks c.in_ok-add.ensures.drops c.in-Walk.is;
  alone = none_more c.loop-rest.made.drops c.in_ok-walked.drops _ c.args.workers c.loop-rest.invariant.alone c.in_ok-walked.ensures.alone c.in_ok-add.ensures.drops;
}

pub loop-rest-smaller : goal.loop-rest-smaller
loop-rest-smaller g c =
    turn_shrinks g.P.Step.step_of g.P.Step.depth (tells g) g.P.Prover.inducted _ _ c.loop-rest.turn _ _ _
    c.in_ok-walked.ensures.walked c.in_ok-next.ensures c.in-Walk.is

pub returns-in-Done : goal.returns-in-Done
returns-in-Done g c =
    let step = g.P.Step.step_of in
    let depth = g.P.Step.depth in
    let inducted = g.P.Prover.inducted in
    let root = c.args.root in
    let original = g.P.Prover.original_of root in
    let refuses = g.P.Prover.refuses_induction c.args.prover.now in
    let rule = c.args.rule in
    let is =
    all_made step depth g.P.Step.name (tells g) inducted original refuses c.loop-rest.made.walks _ c.loop-rest.made.drops _ _ c.loop-rest.turn _ _ _ _
    c.loop-rest.invariant.so_far c.in_ok-walked.ensures.walked c.in_ok-next.ensures c.in_ok-walked.ensures.licensed c.in_ok-add.ensures.walks c.in_ok-add.ensures.drops c.in-Done.is in
    record {
      attempt = (is.verdict, is.walks);
      drops = is.drops;
      alone = none_more c.loop-rest.made.drops c.in_ok-walked.drops _ c.args.workers c.loop-rest.invariant.alone c.in_ok-walked.ensures.alone c.in_ok-add.ensures.drops;
      good = λ qed.
          attempt_good step depth g.P.Step.good (tells g) (deeper g) (whole g) inducted (by_induction g) root original (by_original g root) refuses rule
          (sym is.verdict ∙ qed);
      few = subst (λ ws. mark_count ws ≤ rule.goal_limit) (sym is.walks) (attempt_few step depth (tells g) inducted original refuses rule root);
      later = subst (EachAfterFirst (IsLater step depth)) (sym is.walks) (attempt_later step depth (tells g) inducted original refuses rule root);
    }
