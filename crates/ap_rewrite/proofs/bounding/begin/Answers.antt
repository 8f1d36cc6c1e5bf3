use Rattle.std.proofs.Common.{◌≡◌, true, sym, subst, rules}
use Rattle.ap_list.specs.Lists.{Each}
use Rattle.ap_world.specs.Sound.{known}
use Rattle.ap_poly.specs.Bounds.{first_atoms}
use Rattle.ap_rewrite.specs.Answering.{defs_in, setting_of}
use Rattle.ap_rewrite.specs.Linear.{given}
use Rattle.ap_rewrite.proofs.Bounded.{atoms_here}
use Rattle.ap_rewrite.proofs.bounding.begin.Goals as goal

pub push_bounds-requires-clause-atoms : goal.push_bounds-requires-clause-atoms
push_bounds-requires-clause-atoms g c =
    let is : c.in_ok-atoms.atoms ≡ first_atoms (given (setting_of c.args.r.now) c.args.ctx.now.0 c.args.t.now c.args.sign) = search rules in
    subst (λ xs. Each (λ x. known (defs_in c.args.r.now) x ≡ true) xs) (sym c.as_slice-2.ensures)
    (subst (λ xs. Each (λ x. known (defs_in c.args.r.now) x ≡ true) xs) (sym is)
    (atoms_here c.args.r.now.w.now c.args.r.now.theory.now c.args.r.now.expand.now c.args.ctx.now.0 c.args.t.now c.args.sign c.requires.facts c.requires.term))

pub returns-clause-known : goal.returns-clause-known
returns-clause-known g c =
    let is : c.in_ok-atoms.atoms ≡ first_atoms (given (setting_of c.args.r.now) c.args.ctx.now.0 c.args.t.now c.args.sign) = search rules in
    subst (λ xs. Each (λ x. known (defs_in c.args.r.now) x ≡ true) xs) (sym is)
    (atoms_here c.args.r.now.w.now c.args.r.now.theory.now c.args.r.now.expand.now c.args.ctx.now.0 c.args.t.now c.args.sign c.requires.facts c.requires.term)

pub returns-clause-reasons : goal.returns-clause-reasons
returns-clause-reasons g c = c.in_ok-push_bounds.ensures.reasons c.args.t.now c.args.sign c.in_ok-polys.ensures.reasons
