use Rattle.std.proofs.Common.{◌∙◌, ap, rules}
use Rattle.ap_rewrite.specs.Answering.{setting_of, seen_at, seat_of}
use Rattle.ap_rewrite.proofs.Levels.{no_step, no_level, level_is}
use Rattle.ap_rewrite.proofs.Seats.{place_is, known_is, known_from, out_is, kept_is, kept_from}
use Rattle.ap_rewrite.proofs.rewriting.+rewriting.Goals as goal

pub rewrite_anew-returns-then-steps-eq0-clause-is : goal.rewrite_anew-returns-then-steps-eq0-clause-is
rewrite_anew-returns-then-steps-eq0-clause-is g t c =
    no_step (setting_of c.args.r.now) c.args.levels c.args.mode (seen_at c.args.at.now) c.args.t.now c.args.steps.now.left (search rules)

pub rewrite_anew-returns-then-levels-eq0-clause-is : goal.rewrite_anew-returns-then-levels-eq0-clause-is
rewrite_anew-returns-then-levels-eq0-clause-is g t c =
    rw c.in_ok-q.ensures.is (no_level (setting_of c.args.r.now) c.args.levels c.args.mode (seen_at c.args.at.now) c.args.t.now c.args.steps.now.left (search rules) (search rules))

pub rewrite_anew-returns-clause-is : goal.rewrite_anew-returns-clause-is
rewrite_anew-returns-clause-is g t c =
    rw (level_is (setting_of c.args.r.now) c.args.levels c.args.mode (seen_at c.args.at.now) c.args.t.now c.args.steps.now.left (search rules) (search rules)) c.rewrite_shape.ensures.is

-- the level below is this one with one level less
pub rewrite_anew-rewrite_shape-requires-clause-level : goal.rewrite_anew-rewrite_shape-requires-clause-level
rewrite_anew-rewrite_shape-requires-clause-level g t c = record {
  ready = c.requires.ready;
  callable = λ run o p u f k h. search rules;
  is = λ run o p u a left e. search rules;
  from = λ run o p u a left e. search rules;
  kept = λ run o p u a left e. search rules;
}

pub rewrite_anew-returns-clause-from : goal.rewrite_anew-returns-clause-from
rewrite_anew-returns-clause-from g t c = c.rewrite_shape.ensures.from

pub rewrite_anew-below-rewrite_levels-requires : goal.rewrite_anew-below-rewrite_levels-requires
rewrite_anew-below-rewrite_levels-requires g t c = λ κs within. (search rules, (within, (c.requires.ready, (c.requires.facts, (c.requires.term, c.requires.here)))))

pub rewrite_anew-below-returns : goal.rewrite_anew-below-returns
rewrite_anew-below-returns g t c = record { is = c.rewrite_levels.ensures.is; from = c.rewrite_levels.ensures.from; kept = c.rewrite_levels.ensures.kept }

-- a term by what is known of it
pub rewrite_levels-recall-requires : goal.rewrite_levels-recall-requires
rewrite_levels-recall-requires g t c = record { here = place_is c.args.r.now c.args.at.now _ c.requires.here }

pub rewrite_levels-returns-in-Known-clause-is : goal.rewrite_levels-returns-in-Known-clause-is
rewrite_levels-returns-in-Known-clause-is g t c = known_is c.args.r.now c.args.at.now _ _ _ _ _ _ _ c.requires.here (rw c.in-Known.is at c.in_ok-q.ensures.is)

pub rewrite_levels-returns-in-Known-clause-from : goal.rewrite_levels-returns-in-Known-clause-from
rewrite_levels-returns-in-Known-clause-from g t c = known_from c.args.r.now c.args.at.now _ _ _ _ _ _ _ c.requires.here (rw c.in-Known.is at c.in_ok-q.ensures.is)

pub rewrite_levels-returns-in-Out-clause-is : goal.rewrite_levels-returns-in-Out-clause-is
rewrite_levels-returns-in-Out-clause-is g t c = out_is c.args.r.now c.args.at.now _ _ _ _ _ c.requires.here (rw c.in-Out.is at c.in_ok-q.ensures.is)

-- what a term became is kept
pub rewrite_and_keep-keep-requires-clause-here : goal.rewrite_and_keep-keep-requires-clause-here
rewrite_and_keep-keep-requires-clause-here g t c = place_is c.args.r.now c.args.at.now _ (ap seat_of c.rewrite_anew.ensures.kept ∙ c.requires.here)

pub rewrite_and_keep-keep-requires-clause-is : goal.rewrite_and_keep-keep-requires-clause-is
rewrite_and_keep-keep-requires-clause-is g t c =
    kept_is c.args.r.now c.args.at.now _ _ _ _ _ _ _ (ap seat_of c.rewrite_anew.ensures.kept ∙ c.requires.here) (rw c.in-Some.is at c.in_ok-q.ensures.is)

pub rewrite_and_keep-keep-requires-clause-leads : goal.rewrite_and_keep-keep-requires-clause-leads
rewrite_and_keep-keep-requires-clause-leads g t c =
    kept_from c.args.r.now c.args.at.now _ _ _ _ (ap seat_of c.rewrite_anew.ensures.kept ∙ c.requires.here) (rw c.in-Some.is at c.in_ok-q.ensures.from)
