-- The bytes of a text, wherever they lie.
use Rattle.std.specs.Prelude.{List, ℕ, codes}
use Rattle.ap_list.specs.declared.text.Fixed.{Fixed}
use Rattle.ap_list.specs.declared.text.Held.{Held}
use Rattle.ap_list.specs.declared.text.Held.TheVariants as held

-- the names that the program itself has
abbrev pub fixed_bytes : Fixed → List ℕ
fixed_bytes Fixed.Nil = codes "NIL"
fixed_bytes Fixed.T = codes "T"
fixed_bytes Fixed.If = codes "IF"
fixed_bytes Fixed.Not = codes "NOT"
fixed_bytes Fixed.Equal = codes "EQUAL"
fixed_bytes Fixed.Less = codes "<"
fixed_bytes Fixed.Implies = codes "IMPLIES"
fixed_bytes Fixed.Natp = codes "NATP"
fixed_bytes Fixed.Acl2Count = codes "ACL2-COUNT"

abbrev pub bytes_in : Held → List ℕ
bytes_in (held.Fixed n) = fixed_bytes n
bytes_in (held.Short s) = s
bytes_in (held.Shared b) = b
