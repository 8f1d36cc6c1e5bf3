-- The elimination of a clause: which variable is taken apart, and into which new ones.
use Rattle.std.specs.Prelude.{Bool, cond, ◌||◌, codes, List, [], ◌∷◌, map, Option, Some, None}
use Rattle.ap_value.specs.declared.symbol.Symbol.{Symbol}
use Rattle.ap_value.specs.Values.{acl2}
use Rattle.ap_term.specs.declared.term.Term.{Term, Var}
use Rattle.ap_term.specs.declared.term.Clause.{Clause}
use Rattle.ap_world.specs.declared.theory.RuneKind.TheVariants.{Elim}
use Rattle.ap_world.specs.Names.{car_name, cdr_name}
use Rattle.ap_world.specs.Theories.{ShownTheory, rune_of, is_enabled}
use Rattle.ap_kernel.specs.declared.reductions.Inference.{Inference}
use Rattle.ap_kernel.specs.Eliminating.{call_on, eliminated}
use Rattle.ap_kernel.specs.Solving.{any_true}
use Rattle.ap_kernel.specs.Splits.{and_then}
use Rattle.ap_kernel.specs.Swapping.{is_part}
use Rattle.ap_elim.specs.Naming.{vars_of, new_name}

unfoldable pub car_cdr_elim_name : Symbol
car_cdr_elim_name = acl2 (codes "CAR-CDR-ELIM")

-- the car or the cdr of a variable is a part of a literal
abbrev pub has_call : Symbol → List Term → Symbol → Bool
has_call f ts v = any_true (map (is_part (call_on f v)) ts)

abbrev pub is_destructed : List Term → Symbol → Bool
is_destructed ts v = has_call car_name ts v || has_call cdr_name ts v

-- the first of some variables of which that is so
abbrev pub first_destructed : List Term → List Symbol → Option Symbol
first_destructed ts [] = None
first_destructed ts (v ∷ vs) = cond (is_destructed ts v) (Some v) (first_destructed ts vs)

abbrev pub destructed : List Term → Option Symbol
destructed ts = first_destructed ts (vars_of ts)

-- a variable and two new ones of its name: the first is new in the clause, the second beside the first
abbrev pub with_second : List Term → Symbol → Symbol → Option (Symbol × Symbol × Symbol)
with_second ts v a = and_then (new_name v.name (Var a ∷ ts)) (λ b. Some (v, a, b))

abbrev pub with_new : List Term → Symbol → Option (Symbol × Symbol × Symbol)
with_new ts v = and_then (new_name v.name ts) (with_second ts v)

-- with CAR-CDR-ELIM enabled: the variable that is taken apart, and the new ones for its car and cdr
abbrev pub taken : ShownTheory → List Term → Option (Symbol × Symbol × Symbol)
taken h ts = cond (is_enabled h (rune_of Elim car_cdr_elim_name)) (and_then (destructed ts) (with_new ts)) None

-- and the clauses that it leaves
abbrev pub elim_made : ShownTheory → Clause → Option Inference
elim_made h c = and_then (taken h c.0) (λ (p : Symbol × Symbol × Symbol). Some (eliminated c p.0 p.1 p.2))
