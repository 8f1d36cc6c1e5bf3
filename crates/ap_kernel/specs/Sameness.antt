-- Tests of equality, by which the rows of a derivation choose.
use Rattle.std.specs.Prelude.{Bool, true, false, cond, ◌&&◌, List, [], ◌∷◌, Option, Some, None}
use Rattle.ap_value.specs.Values.{bool_eq, int_eq}
use Rattle.ap_term.specs.declared.term.Term.{Term}
use Rattle.ap_term.specs.declared.term.Clause.{Clause}
use Rattle.ap_term.specs.Equal.{term_eq}
use Rattle.ap_world.specs.Facts.{Facts}
use Rattle.ap_poly.specs.Polynomials.{Parts, Polynomial}
use Rattle.ap_kernel.specs.declared.objects.Mode.{Mode}
use Rattle.ap_kernel.specs.declared.objects.Mode.TheVariants.{Equal, Iff}
use Rattle.ap_kernel.specs.declared.objects.Sequent.{Sequent}

abbrev pub mode_eq : Mode → Mode → Bool
mode_eq Equal Equal = true
mode_eq Iff Iff = true
mode_eq m n = false

abbrev pub facts_eq : Facts → Facts → Bool
facts_eq [] [] = true
facts_eq (f ∷ fs) (g ∷ gs) = (term_eq f.0 g.0 && bool_eq f.1 g.1) && facts_eq fs gs
facts_eq fs gs = false

abbrev pub terms_eq : List Term → List Term → Bool
terms_eq [] [] = true
terms_eq (t ∷ ts) (u ∷ us) = term_eq t u && terms_eq ts us
terms_eq ts us = false

abbrev pub clauses_eq : List Clause → List Clause → Bool
clauses_eq [] [] = true
clauses_eq (c ∷ cs) (d ∷ ds) = terms_eq c.0 d.0 && clauses_eq cs ds
clauses_eq cs ds = false

abbrev pub sequent_eq : Sequent → Sequent → Bool
sequent_eq a b = facts_eq a.ctx.0 b.ctx.0 && (mode_eq a.mode b.mode && (term_eq a.lhs b.lhs && term_eq a.rhs b.rhs))

abbrev pub parts_eq : Parts → Parts → Bool
parts_eq [] [] = true
parts_eq (p ∷ ps) (q ∷ qs) = (term_eq p.0 q.0 && int_eq p.1 q.1) && parts_eq ps qs
parts_eq ps qs = false

abbrev pub poly_eq : Polynomial → Polynomial → Bool
poly_eq p q = int_eq p.constant q.constant && parts_eq p.parts q.parts

-- what is so is answered
abbrev pub where_so : {A : Type 0} → Bool → A → Option A
where_so b a = cond b (Some a) None
