use Rattle.std.proofs.Common.{◌≡◌, ◌≤◌, [], drop}
use Rattle.ap_list.specs.Lists.{Each}
use Rattle.ap_world.specs.Meaning.{Valid}
use Rattle.ap_attempt.specs.declared.verdict.Verdict.{Verdict}
use Rattle.ap_kernel.specs.Reductions.{KnownClause}
use Rattle.ap_strategy.specs.Goals.{defs_of}
use Rattle.ap_plain.proofs.Attempted.{SoFar}
use Rattle.ap_plain.proofs.owing.try_each.Given as goal

-- the attempts so far are `Qed`, and with those on what is left they are all; where what is left is valid, all is
abbrev pub invariant-loop-one : goal.invariant-loop-one
invariant-loop-one g l = record {
  known : Each (λ o. KnownClause (defs_of l.plan) o.clause) (drop l.one-index l.owed);
  valid : Each (λ o. Valid (defs_of l.plan) o.clause.0) (drop l.one-index l.owed) → Each (λ o. Valid (defs_of l.plan) o.clause.0) l.owed;
  qed : l.all.verdict ≡ Verdict.Qed;
  so_far : SoFar l.rule l.plan l.owed l.one-index l.all.lines l.all.goals l.all.drops;
  alone : l.crew.workers ≤ 1 → l.all.drops ≡ [];
}
