use Rattle.std.proofs.Common.{◌≡◌, ◌∙◌, map, length, ap, rules}
use Rattle.ap_poly.specs.Elimination.{rows_of}
use Rattle.ap_linear.specs.Ranked.{Rising, row_in, first_negative, left_after}
use Rattle.ap_linear.proofs.Rising.{atoms_rise, atoms_listed}
use Rattle.ap_linear.proofs.Ranks.{search_right, same_ok}
use Rattle.ap_linear.proofs.oracle.search.Goals as goal

pub rows_of-requires-clause-rising : goal.rows_of-requires-clause-rising
rows_of-requires-clause-rising c = atoms_rise c.args.atoms.now c.args.polys.now c.requires c.terms_fit.ensures

pub rows_of-requires-clause-listed : goal.rows_of-requires-clause-listed
rows_of-requires-clause-listed c = atoms_listed c.args.atoms.now c.args.polys.now c.requires

pub returns : goal.returns
returns c =
    let us = c.args.atoms.now in
    let up : Rising us = atoms_rise us c.args.polys.now c.requires c.terms_fit.ensures in
    let rows : map (row_in us) c.in_ok-rows.rows ≡ rows_of c.args.polys.now = search rules in
    let left : c.in_ok-left.left ≡ left_after (length us) (length us) c.in_ok-rows.rows = search rules in
    same_ok c.first_negative.result _ _
    (ap (first_negative (length us)) left ∙ search_right us c.args.polys.now c.in_ok-rows.rows up c.requires rows)
    (search rules)
