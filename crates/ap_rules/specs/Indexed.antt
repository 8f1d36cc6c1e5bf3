-- The rules of a call's head: those whose left side may be such a call.
use Rattle.std.specs.Prelude.{Bool, true, cond, List, [], ◌∷◌}
use Rattle.ap_value.specs.declared.symbol.Symbol.{Symbol}
use Rattle.ap_value.specs.Values.{symbol_eq}
use Rattle.ap_term.specs.declared.term.Term.{Term, out-Term}
use Rattle.ap_term.specs.declared.term.Term.TheOpen.{Term-F}
use Rattle.ap_world.specs.Rules.{Rule}

-- those of a list that pass a test, in their order
abbrev pub kept : {R : Type 0} → (R → Bool) → List R → List R
kept test [] = []
kept test (g ∷ gs) = cond (test g) (g ∷ kept test gs) (kept test gs)

-- no call of another head
abbrev pub may_begin : Symbol → Term-F Term → Bool
may_begin f (Term-F.Call h ls) = symbol_eq h f
may_begin f y = true

abbrev pub begins : Symbol → Rule → Bool
begins f g = may_begin f (out-Term g.lhs)

abbrev pub rules_for : Symbol → List Rule → List Rule
rules_for f gs = kept (begins f) gs
