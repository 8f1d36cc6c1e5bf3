-- The name that terms are counted by.
use Rattle.std.specs.Prelude.{codes}
use Rattle.ap_value.specs.declared.symbol.Symbol.{Symbol}
use Rattle.ap_value.specs.Values.{acl2}

unfoldable pub if_name : Symbol
if_name = acl2 (codes "IF")
