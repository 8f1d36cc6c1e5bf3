use Rattle.std.proofs.Common.{◌≡◌, map, arith}
use Rattle.ap_term.proofs.KeptCounts.{all_parted}
use Rattle.ap_term.proofs.arguments.Arguments.nodes_up_to.Goals as goal

pub returns : goal.returns
returns c = let parts = all_parted c.args.self.now in omega (arith, parts, c.variables.ensures, c.functions.ensures, c.constants.ensures, c.saturating_add-named.ensures, c.saturating_add.ensures)
