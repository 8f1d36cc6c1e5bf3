use Rattle.std.proofs.Common.{rules, ◌≡◌, ℕ, suc, true, map, List, None, ap, sym, ◌∙◌}
use Rattle.ap_term.specs.declared.term.Term.{Term}
use Rattle.ap_poly.specs.Polynomials.{Polynomial}
use Rattle.ap_poly.specs.Elimination.{lin}
use Rattle.ap_linear.specs.declared.marks.Marked.{Marked}
use Rattle.ap_linear.specs.Marks.{marked, next_marks, marks_hopeless, bit_number}
use Rattle.ap_linear.proofs.ByBits.{marks_right}
use Rattle.ap_linear.proofs.marks.is_hopeless.Goals as goal

-- what is seen of the marks, after any number of rounds, is so of the polynomials
abbrev Right : List Marked → List Polynomial → Type 0
Right ms ps = (n : ℕ) → marks_hopeless n ms ≡ true → lin ps ≡ None

first : (us : List Term) (ps : List Polynomial) (ms : List Marked) → ms ≡ map (marked (bit_number us)) ps → Right ms ps
first us ps ms e n h = marks_right (bit_number us) n ps (ap (marks_hopeless n) (sym e) ∙ h)

next : (ps : List Polynomial) (ms ns : List Marked) → ns ≡ next_marks ms → Right ms ps → Right ns ps
next ps ms ns e h n k = h (suc n) (ap (marks_hopeless n) (sym e) ∙ k)

pub loop-left-init : goal.loop-left-init
loop-left-init c = first c.args.atoms.now c.args.polys.now c.in_ok-marks.marks (search rules)

pub returns-then-no_mark_negative : goal.returns-then-no_mark_negative
returns-then-no_mark_negative c = λ e. c.loop-left.invariant 0 (search rules)

pub loop-left-preserved : goal.loop-left-preserved
loop-left-preserved c = next c.args.polys.now c.loop-left.marks c.in_ok-kept.kept (search rules) c.loop-left.invariant

pub returns : goal.returns
returns c = λ e. c.loop-left.invariant 0 (search (rules, e))
