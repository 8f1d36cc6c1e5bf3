use Rattle.std.proofs.Common.{◌≡◌, ◌++◌, ◌∙◌, sym, subst}
use Rattle.ap_list.specs.Lists.{Each}
use Rattle.ap_world.specs.Meaning.{Valid}
use Rattle.ap_world.specs.Sound.{Sound}
use Rattle.ap_world.specs.World.{Shown, function_of}
use Rattle.ap_attempt.specs.declared.verdict.Verdict.{Verdict}
use Rattle.ap_kernel.specs.Reductions.{KnownClause}
use Rattle.ap_stated.specs.declared.owed.Owed.{Owed}
use Rattle.ap_plain.specs.Proposals.{opening_of, owed_of}
use Rattle.ap_plain.proofs.Proposed.{all_known, opened_valid}
use Rattle.ap_plain.proofs.named.try_proposal.Goals as goal

-- what is owed speaks of the world
pub try_owed-requires-clause-known : goal.try_owed-requires-clause-known
try_owed-requires-clause-known g c κs within =
    let sound : Sound c.args.w.now.entries = subst (λ (u : Shown). Sound u.entries) c.world.ensures c.recall_sound.ensures in
    subst (Each (λ (o : Owed). KnownClause (function_of c.args.w.now.entries) o.clause)) (sym (c.as_slice.ensures ∙ c.in_ok-owed.ensures))
    (all_known c.args.w.now c.args.proposal.now sound c.requires.functions c.requires.stated)

-- what is shown of what is owed is shown of the proposal
pub returns-clause-valid : goal.returns-clause-valid
returns-clause-valid g c =
    let P = λ (o : Owed). Valid (function_of c.args.w.now.entries) o.clause.0 in
    opened_valid c.with_opening.result (opening_of c.args.proposal.now ++ c.in_ok-trial.trial.lines) c.in_ok-trial.trial (Each P (owed_of c.args.proposal.now)) c.with_opening.ensures
    (λ qed. subst (Each P) (c.as_slice.ensures ∙ c.in_ok-owed.ensures) (c.in_ok-trial.ensures.valid qed))
