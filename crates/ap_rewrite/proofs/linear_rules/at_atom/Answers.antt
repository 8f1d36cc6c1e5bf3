use Rattle.std.proofs.Common.{◌∙◌, Option, sym, ap}
use Rattle.ap_term.specs.Matching.{Pairs, matched}
use Rattle.ap_world.proofs.Instances.{match_fits}
use Rattle.ap_rewrite.specs.Linear.{at_match}
use Rattle.ap_rewrite.specs.Answering.{defs_in, setting_of, inner_of, seen_at}
use Rattle.ap_rewrite.proofs.linear_rules.at_atom.Goals as goal

pub at_match-requires-clause-pairs : goal.at_match-requires-clause-pairs
at_match-requires-clause-pairs g c =
    (match_fits (defs_in c.args.l.now.r.now) c.args.g.now.trigger c.args.atom.now _ c.in-Some.s.0 c.requires.atom tt
    (sym ((rw c.in-Some.is at c.in_ok-one_way_match.ensures) ∙ ap (λ (s : Pairs). matched c.args.g.now.trigger c.args.atom.now s) c.new.ensures))).1

pub returns-in-None-clause-is : goal.returns-in-None-clause-is
returns-in-None-clause-is g c =
    ap (λ (x : Option Pairs). at_match (setting_of c.args.l.now.r.now) (inner_of c.args.l.now.r.now c.args.l.now.levels) (seen_at c.args.at.now) c.args.g.now c.args.polys x c.args.steps.now.left)
    ((rw c.in-None.is at c.in_ok-one_way_match.ensures) ∙ ap (λ (s : Pairs). matched c.args.g.now.trigger c.args.atom.now s) c.new.ensures)
