use Rattle.std.proofs.Common.{◌≡◌, drop}
use Rattle.ap_list.specs.Lists.{is_among}
use Rattle.ap_term.specs.Equal.{term_eq}
use Rattle.ap_term.proofs.matching.is_term_among.Given as goal

-- the term is among what is left exactly where it is among all
abbrev pub invariant-loop-u : goal.invariant-loop-u
invariant-loop-u l = is_among term_eq l.t (drop l.u-index l.list) ≡ is_among term_eq l.t l.list
