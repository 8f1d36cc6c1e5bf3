-- That new names are found, and that elimination applies wherever its variable is found.
use Rattle.std.specs.Prelude.{◌≡◌, ◌<◌, ◌^◌, ℕ, true, false, List, ◌∷◌, Some, length}
use Rattle.ap_value.specs.declared.symbol.Symbol.{Symbol}
use Rattle.ap_term.specs.declared.term.Term.{Term, Var}
use Rattle.ap_term.specs.declared.term.Clause.{Clause}
use Rattle.ap_world.specs.declared.theory.RuneKind.TheVariants.{Elim}
use Rattle.ap_world.specs.Theories.{ShownTheory, rune_of, is_enabled}
use Rattle.ap_kernel.specs.declared.reductions.Inference.{Inference}
use Rattle.ap_kernel.specs.Solving.{occurs_in}
use Rattle.ap_elim.specs.Naming.{vars_of, new_name}
use Rattle.ap_elim.specs.Eliminating.{car_cdr_elim_name, destructed, elim_made}

-- a name is found where fewer variables occur than memory can hold
abbrev pub NamesAreFound : Type 0
NamesAreFound = (stem : List ℕ) (ts : List Term) → length (vars_of ts) < 2 ^ 63 → (a : Symbol) × (new_name stem ts ≡ Some a)

-- and is no variable of the terms
abbrev pub NamesAreNew : Type 0
NamesAreNew = (stem : List ℕ) (ts : List Term) (a : Symbol) → new_name stem ts ≡ Some a → occurs_in a ts ≡ false

-- with CAR-CDR-ELIM enabled and a variable that is destructed, there is an elimination
abbrev pub ElimApplies : Type 0
ElimApplies = (h : ShownTheory) (c : Clause) (v : Symbol) → is_enabled h (rune_of Elim car_cdr_elim_name) ≡ true → destructed c.0 ≡ Some v
    → length (vars_of c.0) < 2 ^ 63 → ((a : Symbol) → length (vars_of (Var a ∷ c.0)) < 2 ^ 63) → (i : Inference) × (elim_made h c ≡ Some i)
