use Rattle.std.proofs.Common.{List, ℕ, length}
use Rattle.ap_names.proofs.Parts.{Reading}
use Rattle.ap_names.proofs.parsing.with_dotted.Given as goal

abbrev pub invariant-loop-dotted : goal.invariant-loop-dotted
invariant-loop-dotted l = (ks : List ℕ) × Reading l.fn.numbers l.fn.text l.numbers l.rest ks

abbrev pub decreases-loop-dotted : goal.decreases-loop-dotted
decreases-loop-dotted l = length l.rest
