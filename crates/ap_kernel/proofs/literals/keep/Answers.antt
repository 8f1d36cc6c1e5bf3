use Rattle.std.proofs.Common.{List, [], ap, ◌∙◌}
use Rattle.ap_term.specs.declared.term.Term.{Term}
use Rattle.ap_term.specs.declared.term.Clause.{Clause}
use Rattle.ap_world.specs.World.{function_of}
use Rattle.ap_kernel.specs.declared.derivations.Derivation.{Derivation}
use Rattle.ap_kernel.specs.declared.derivations.Row.TheVariants.{Cases}
use Rattle.ap_kernel.specs.Deriving.{node}
use Rattle.ap_kernel.specs.Hinting.{cased}
use Rattle.ap_kernel.specs.Reductions.{to_one}
use Rattle.ap_kernel.proofs.Reduced.{kept_reduces}
use Rattle.ap_kernel.proofs.Derived.{reduces_by}
use Rattle.ap_kernel.proofs.DerivedClauses.{cases_derived}
use Rattle.ap_kernel.proofs.literals.keep.Goals as goal

pub returns-clause-stands : goal.returns-clause-stands
returns-clause-stands c =
    reduces_by c.args.w.now c.in_ok-answer.answer (cased c.args.c []) (node (Cases c.args.c []) [])
    (c.in_ok-answer.ensures
    ∙ ap (λ (ts : List Term). record { says = to_one c.in_ok-from.from ts; why = c.in_ok-why.why }) (c.in_ok-literals.ensures ∙ c.as_slice.ensures)
    ∙ ap (λ (x : Clause). record { says = to_one x c.args.c.0; why = c.in_ok-why.why }) c.in_ok-from.ensures
    ∙ ap (λ (d : Derivation). record { says = to_one c.args.c c.args.c.0; why = d }) (c.in_ok-why.ensures ∙ ap (λ (x : Clause). node (Cases x []) []) c.in_ok-from.ensures))
    (cases_derived c.args.w.now c.args.c [] c.requires.clause tt)
    (kept_reduces (function_of c.args.w.now.entries) c.recall_sound.ensures.total c.args.c c.requires.clause)
