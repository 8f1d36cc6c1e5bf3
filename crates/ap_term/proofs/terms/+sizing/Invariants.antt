use Rattle.std.proofs.Common.{◌≡◌, ◌+◌, drop, map}
use Rattle.ap_list.specs.Lists.{sum_of}
use Rattle.ap_term.specs.Terms.{term_size}
use Rattle.ap_term.proofs.terms.+sizing.Given as goal

-- the total and the sizes that are left make the whole
abbrev pub invariant-sizes-loop-x : goal.invariant-sizes-loop-x
invariant-sizes-loop-x l = l.total + sum_of (map term_size (drop l.x-index l.xs)) ≡ sum_of (map term_size l.xs)
