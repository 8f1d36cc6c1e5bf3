-- What running gives without an assignment.
use Rattle.std.proofs.Common.{◌≡◌, ℕ, true, [], sym, ap, ◌∙◌, subst}
use Rattle.ap_value.specs.declared.value.Value.{Value}
use Rattle.ap_value.specs.Values.{val_of}
use Rattle.ap_value.proofs.Constants.{constant_eq-same}
use Rattle.ap_term.specs.declared.term.Term.{Term}
use Rattle.ap_world.specs.Meaning.{Defs, HasValue}
use Rattle.ap_world.specs.Units.{Outcome, gives, Assigned, meant_by, metered}
use Rattle.ap_kernel.specs.Rows.{gives_value}
use Rattle.ap_rewrite.specs.InWorld.{value_in, most_units}

pub ran : (D : Defs) (u : Term) (e : Assigned) (o : Outcome Value) → e ≡ [] → metered D u e 2000 ≡ o → value_in (metered D u [] most_units) ≡ value_in o
ran D u e o p q = ap value_in (ap (λ e. metered D u e 2000) (sym p) ∙ q)

-- what is given is the value that is given
pub ran_gives : (D : Defs) (u : Term) (e : Assigned) (v : Value) (n : ℕ) → e ≡ [] → metered D u e 2000 ≡ gives v n → gives_value v (metered D u [] 2000) ≡ true
ran_gives D u e v n p q = ap (gives_value v) (ap (λ e. metered D u e 2000) (sym p) ∙ q) ∙ constant_eq-same v

pub ran_means : (D : Defs) (u : Term) (e : Assigned) (v : Value) → e ≡ [] → HasValue D u (meant_by e) (val_of v) → HasValue D u [] (val_of v)
ran_means D u e v p h = subst (λ e. HasValue D u (meant_by e) (val_of v)) p h
