use Rattle.std.proofs.Common.{◌++◌}
use Rattle.ap_world.specs.World.{function_of}
use Rattle.ap_world.proofs.Extending.{value_extend, valid_extend, valid_back, extends-append}
use Rattle.ap_world.proofs.laws.entries_keep_values.Goals as goal

pub returns-clause-values : goal.returns-clause-values
returns-clause-values c = λ W X. value_extend (function_of W) (function_of (W ++ X)) (extends-append W X)

pub returns-clause-valid : goal.returns-clause-valid
returns-clause-valid c = λ W X. valid_extend (function_of W) (function_of (W ++ X)) (extends-append W X)

pub returns-clause-back : goal.returns-clause-back
returns-clause-back c = λ W X us total. valid_back (function_of W) (function_of (W ++ X)) total (extends-append W X) us
