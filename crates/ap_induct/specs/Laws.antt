-- That the call that is chosen is the first of the best.
use Rattle.std.specs.Prelude.{◌≡◌, ◌<◌, ◌≤◌, ◌↔◌, List, [], ◌∷◌, ◌++◌, length, Option, Some, None}
use Rattle.ap_list.specs.Lists.{Each}
use Rattle.ap_value.specs.declared.symbol.Symbol.{Symbol}
use Rattle.ap_term.specs.declared.term.Term.{Term}
use Rattle.ap_world.specs.Meaning.{Defs}
use Rattle.ap_world.specs.Theories.{ShownTheory}
use Rattle.ap_induct.specs.Choosing.{candidates, score, looked_at, chosen}

-- a call stands among some candidates, each before it scores less, and none behind it more
pub record IsFirstBest (qs : List (Term × List Symbol)) (u : Term) : Type 0 where
  pub names : List Symbol
  pub front : List (Term × List Symbol)
  pub back : List (Term × List Symbol)
  pub stands : qs ≡ front ++ (u, names) ∷ back
  pub before : Each (λ (q : Term × List Symbol). score qs q.1 < score qs names) front
  pub behind : Each (λ (q : Term × List Symbol). score qs q.1 ≤ score qs names) back

-- the chosen call is exactly that one of the candidates
abbrev pub FirstOfTheBest : Type 0
FirstOfTheBest = (D : Defs) (h : ShownTheory) (ts : List Term) (o : Option Term) (u : Term) → (chosen D h ts o ≡ Some u) ↔ IsFirstBest (candidates D h (length ts) (looked_at ts o)) u

-- and none is chosen exactly where there is no candidate
abbrev pub NoneIsLeft : Type 0
NoneIsLeft = (D : Defs) (h : ShownTheory) (ts : List Term) (o : Option Term) → (chosen D h ts o ≡ None) ↔ (candidates D h (length ts) (looked_at ts o) ≡ [])
