use Rattle.std.proofs.Common.{◌≡◌, drop, map}
use Rattle.ap_list.specs.Lists.{all_true}
use Rattle.ap_term.specs.Terms.{term_fits}
use Rattle.ap_linear.proofs.fitting.+fitting.Given as goal

-- of the terms that are left all fit where all do
abbrev pub invariant-terms_fit-loop-t : goal.invariant-terms_fit-loop-t
invariant-terms_fit-loop-t l = all_true (map term_fits (drop l.t-index l.terms)) ≡ all_true (map term_fits l.terms)
