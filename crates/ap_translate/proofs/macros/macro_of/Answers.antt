use Rattle.ap_translate.specs.Macros.{macros, macro_of}
use Rattle.ap_translate.proofs.macros.macro_of.Goals as goal

-- the table is the definition's
pub returns : goal.returns
unfolding macro_of macros
returns c = c.find_named.ensures
