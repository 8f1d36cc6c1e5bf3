use Rattle.std.proofs.Common.{◌+◌, ◌*◌}
use Rattle.ap_rewrite.proofs.rewriting.+rewriting.Given as goal

abbrev pub decreases-rewrite_anew-below : goal.decreases-rewrite_anew-below
decreases-rewrite_anew-below g l = 4 * l.less + 3

abbrev pub decreases-rewrite_anew : goal.decreases-rewrite_anew
decreases-rewrite_anew g l = 4 * l.levels

abbrev pub decreases-rewrite_and_keep : goal.decreases-rewrite_and_keep
decreases-rewrite_and_keep g l = 4 * l.levels + 1

abbrev pub decreases-rewrite_levels : goal.decreases-rewrite_levels
decreases-rewrite_levels g l = 4 * l.levels + 2
