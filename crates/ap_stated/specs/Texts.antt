-- The printed lines of events.
use Rattle.std.specs.Prelude.{ℕ, List, [], ◌∷◌, ◌++◌, codes, decimal}
use Rattle.ap_value.specs.declared.symbol.Symbol.{Symbol}
use Rattle.ap_value.specs.Values.{acl2}
use Rattle.ap_term.specs.declared.term.Term.{Term, Call}
use Rattle.ap_term.specs.Printed.{symbol_text, term_text}
use Rattle.ap_stated.specs.declared.refusing.Refusal.{Refusal}
use Rattle.ap_stated.specs.Refusals.{refusal_text}

-- a text and the end of its line
abbrev pub line : List ℕ → List ℕ
line text = text ++ 10 ∷ []

-- The lines of an event begin with its title. That of one with a name is its head and the name.
unfoldable pub title : List ℕ → Symbol → List ℕ
title head n = head ++ codes " " ++ symbol_text n

-- what became of an event, by its title: the last line
unfoldable pub said_line : List ℕ → List ℕ → List ℕ
said_line title said = title ++ line said

unfoldable pub refused_line : List ℕ → Refusal → List ℕ
refused_line title r = title ++ codes " refused " ++ line (refusal_text r)

-- an opening line, others, and the last
abbrev pub event_text : List ℕ → List ℕ → List ℕ → List ℕ
event_text title lines last = line title ++ lines ++ last

-- the line of a measure: its one component, or `(LEX m1 .. mk)`
abbrev pub measure_term : List Term → Term
measure_term (m ∷ []) = m
measure_term ms = Call (acl2 (codes "LEX")) ms

unfoldable pub measure_line : List Term → List ℕ
measure_line ms = codes "Measure " ++ line (term_text (measure_term ms))

-- the line of an obligation
unfoldable pub obligation_line : ℕ → List ℕ
obligation_line k = codes "Obligation " ++ line (decimal k)
