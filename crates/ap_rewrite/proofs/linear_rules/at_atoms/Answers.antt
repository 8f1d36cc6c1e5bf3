use Rattle.std.proofs.Common.{◌≡◌, ◌∙◌, true, refl, sym, arith}
use Rattle.std.proofs.lemmas.List.{drop_all}
use Rattle.std.proofs.lemmas.Option.{slice_get_read}
use Rattle.ap_term.specs.declared.term.Term.{Term}
use Rattle.ap_world.specs.Sound.{known}
use Rattle.ap_kernel.proofs.Typed.{each_at}
use Rattle.ap_rewrite.specs.Answering.{defs_in, setting_of, inner_of, seen_at}
use Rattle.ap_rewrite.proofs.Arguments.{from_place}
use Rattle.ap_rewrite.proofs.LinearUsed.{atoms_full, atom_next, atoms_end}
use Rattle.ap_rewrite.proofs.linear_rules.at_atoms.Goals as goal

pub at_atom-requires-clause-atom : goal.at_atom-requires-clause-atom
at_atom-requires-clause-atom g c =
    each_at (λ (x : Term). known (defs_in c.args.l.now.r.now) x ≡ true) c.args.atoms.now c.loop-x.x-index c.x-item.result c.requires.atoms
    (slice_get_read c.args.atoms.now _ c.loop-x.x-index c.x-item.result refl (omega arith) c.x-item.is)

pub loop-x-preserved : goal.loop-x-preserved
loop-x-preserved g c = (
  atom_next (setting_of c.args.l.now.r.now) (inner_of c.args.l.now.r.now c.args.l.now.levels) (seen_at c.args.at.now) c.args.g.now _ _ _ _ _ _ c.at_atom.new.steps.left (from_place c.args.atoms.now c.loop-x.x-index c.x-item.result (omega arith) c.x-item.is) c.loop-x.invariant.0 (sym c.is_full.ensures ∙ c.if-is_full.false) c.in-Some.more
      (rw c.in-Some.is at c.in_ok-more.ensures.is),
  λ u s h. (rw c.in-Some.is at c.in_ok-more.ensures.reasons u s (c.loop-x.invariant.1 u s h)),
  c.at_atom.ensures.kept ∙ c.loop-x.invariant.2,
)

pub returns-then-is_full-clause-is : goal.returns-then-is_full-clause-is
returns-then-is_full-clause-is g c =
    atoms_full (setting_of c.args.l.now.r.now) (inner_of c.args.l.now.r.now c.args.l.now.levels) (seen_at c.args.at.now) c.args.g.now _ _ _ _ _ _ 0 (from_place c.args.atoms.now c.loop-x.x-index c.x-item.result (omega arith) c.x-item.is) c.loop-x.invariant.0 (sym c.is_full.ensures ∙ c.if-is_full.true)

pub returns-clause-is : goal.returns-clause-is
returns-clause-is g c = atoms_end (setting_of c.args.l.now.r.now) (inner_of c.args.l.now.r.now c.args.l.now.levels) (seen_at c.args.at.now) c.args.g.now _ _ _ _ (drop_all c.loop-x.x-index c.args.atoms.now (omega arith)) c.loop-x.invariant.0

pub returns-then-is_full-clause-reasons : goal.returns-then-is_full-clause-reasons
returns-then-is_full-clause-reasons g c = c.loop-x.invariant.1

pub returns-clause-reasons : goal.returns-clause-reasons
returns-clause-reasons g c = c.loop-x.invariant.1
