-- Equality of terms as a test that computes, for definitions that choose by it.
use Rattle.std.specs.Prelude.{Bool, true, false, ◌&&◌, List, [], ◌∷◌}
use Rattle.ap_value.specs.Values.{symbol_eq}
use Rattle.ap_value.specs.Equal.{constant_eq}
use Rattle.ap_term.specs.declared.term.Term.{Term, fold-Term, out-Term}
use Rattle.ap_term.specs.declared.term.Term.TheOpen.{Term-F}

-- as many tests as terms, and each is true of its term
abbrev pub tests_pass : List (Term → Bool) → List Term → Bool
tests_pass [] [] = true
tests_pass (p ∷ ps) (t ∷ ts) = p t && tests_pass ps ts
tests_pass _ _ = false

-- one level of a term against one of another, the tests of its arguments taken as given
abbrev pub same_step : Term-F (Term → Bool) → Term-F Term → Bool
same_step (Term-F.Var x) (Term-F.Var y) = symbol_eq x y
same_step (Term-F.Quote v) (Term-F.Quote w) = constant_eq v w
same_step (Term-F.Call f ps) (Term-F.Call g ts) = symbol_eq f g && tests_pass ps ts
same_step _ _ = false

-- two terms are one
unfoldable pub term_eq : Term → Term → Bool
term_eq = fold-Term (Term → Bool) (λ y u. same_step y (out-Term u))
