use Rattle.std.proofs.Common.{◌≡◌, ◌∙◌, to_z-of_z, rules}
use mir.Val.{SFits, to_z, of_z}
use mir.Syntax.{w128}
use Rattle.ap_linear.specs.Steps.{unit}
use Rattle.ap_linear.specs.Ranked.{spread}
use Rattle.ap_linear.proofs.Ranks.{row_right}
use Rattle.ap_linear.proofs.rows.row_of.Goals as goal

pub returns : goal.returns
returns c =
    let n = c.constant_in-constant.result in
    let cs = c.in_ok-coefficients.coefficients in
    let fits : SFits w128 n = search rules in
    let there : cs ≡ spread c.args.atoms.now c.args.p.now.parts = search rules in
    row_right c.args.atoms.now c.args.p.now (to_z w128 (of_z w128 n)) cs c.in_ok-by.by (unit c.args.before c.args.after) c.requires.rising c.recall_poly.ensures c.requires.listed
    (to_z-of_z fits ∙ c.constant_in-constant.ensures) there c.in_ok-by.ensures
