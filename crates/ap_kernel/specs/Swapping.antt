-- Parts of terms, and parts replaced by other terms.
use Rattle.std.specs.Prelude.{Bool, false, ◌||◌, List, map, unwrap_or}
use Rattle.ap_list.specs.Lists.{lookup_by}
use Rattle.ap_term.specs.declared.term.Term.{Term, para-Term, Var, Quote, Call}
use Rattle.ap_term.specs.declared.term.Term.TheOpen.{Term-F}
use Rattle.ap_term.specs.Equal.{term_eq}
use Rattle.ap_world.specs.Assume.{whole}
use Rattle.ap_kernel.specs.Solving.{any_true}

-- what was made of the arguments, under the same head
abbrev pub rebuilt : Term-F (Term × Term) → Term
rebuilt (Term-F.Var x) = Var x
rebuilt (Term-F.Quote v) = Quote v
rebuilt (Term-F.Call f ps) = Call f (map (λ p. p.1) ps)

-- each part that is the first of a pair becomes the second of the first such pair, the outermost parts first
abbrev pub swapped_step : List (Term × Term) → Term-F (Term × Term) → Term
swapped_step s y = unwrap_or (lookup_by term_eq s (whole y)) (rebuilt y)

abbrev pub swapped : List (Term × Term) → Term → Term
swapped s = para-Term Term (swapped_step s)

-- a term is another or a part of it, constants having no parts
abbrev pub parts_have : Term-F (Term × Bool) → Bool
parts_have (Term-F.Call f ps) = any_true (map (λ p. p.1) ps)
parts_have y = false

abbrev pub is_part_step : Term → Term-F (Term × Bool) → Bool
is_part_step t y = term_eq t (whole y) || parts_have y

abbrev pub is_part : Term → Term → Bool
is_part t = para-Term Bool (is_part_step t)
