use Rattle.std.proofs.Common.{◌≤◌, List, length, subst, sym}
use Rattle.ap_walk.specs.Visits.{Visit}
use Rattle.ap_strategy.specs.Goals.{Goal}
use Rattle.ap_chain.specs.Fitting.{StartsWith, Begins}
use Rattle.ap_chain.proofs.Found.{split_begins}
use Rattle.ap_chain.proofs.Starting.{split_short, split_starts, parted_short, parted_starts, parted_begins}
use Rattle.ap_chain.proofs.finding.proof_of.Goals as goal

pub returns-clause-short : goal.returns-clause-short
returns-clause-short g c =
    parted_short (λ p. p.0.now) (λ p. p.1.now) c.from_split.result.now (length c.args.marks.now) c.parted.result c.parted.ensures
    (subst (λ (vs : List (Visit Goal)). length vs ≤ length c.args.marks.now) (sym c.from_split.ensures) (split_short c.args.clause.now c.args.marks.now))

pub returns-clause-first : goal.returns-clause-first
returns-clause-first g c =
    parted_starts (λ p. p.0.now) (λ p. p.1.now) c.from_split.result.now c.args.clause.now c.parted.result c.parted.ensures
    (subst (StartsWith c.args.clause.now) (sym c.from_split.ensures) (split_starts c.args.clause.now c.args.marks.now))

pub returns-clause-goes : goal.returns-clause-goes
returns-clause-goes g c = λ fit any.
    parted_begins (λ p. p.0.now) (λ p. p.1.now) c.from_split.result.now c.parted.result c.parted.ensures
    (subst Begins (sym c.from_split.ensures) (split_begins c.args.clause.now c.args.marks.now fit any))
