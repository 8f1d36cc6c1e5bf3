use Rattle.std.proofs.Common.{◌≡◌, ◌∷◌, Some, subst}
use Rattle.ap_term.specs.declared.term.Term.{Var}
use Rattle.ap_elim.specs.Naming.{new_name}
use Rattle.ap_elim.proofs.Taken.{both_new}
use Rattle.ap_elim.proofs.eliminating.with_new.Goals as goal

pub returns : goal.returns
returns c =
    let first : new_name c.args.v.now.name c.args.literals.now ≡ Some c.in_ok-a.a =
    subst (λ stem. new_name stem c.args.literals.now ≡ Some c.in_ok-a.a) c.as_slice-stem.ensures c.in_ok-a.ensures in
    let second : new_name c.args.v.now.name (Var c.in_ok-a.a ∷ c.args.literals.now) ≡ Some c.in_ok-b.b =
    subst (λ stem. new_name stem (Var c.in_ok-a.a ∷ c.args.literals.now) ≡ Some c.in_ok-b.b) c.as_slice-stem.ensures c.in_ok-b.ensures in
    let made = both_new c.args.literals.now c.args.v.now c.in_ok-a.a c.in_ok-b.b first second in
    rw c.in_ok-copy_symbol.ensures made
