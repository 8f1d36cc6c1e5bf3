use Rattle.std.proofs.Common.{◌≡◌, [], ◌∷◌, false, sym, ap, subst, ◌∙◌, rules}
use Rattle.ap_term.specs.declared.term.Term.{out-Term}
use Rattle.ap_world.specs.declared.entry.Mask.{Mask}
use Rattle.ap_world.specs.World.{function_of}
use Rattle.ap_world.proofs.Grounded.{has_not}
use Rattle.ap_kernel.specs.Solving.{occurs_in}
use Rattle.ap_elim.proofs.Named.{new_is_new}
use Rattle.ap_weaken.specs.Generalize.{letter_of}
use Rattle.ap_weaken.proofs.Chosen.{generalised_is}
use Rattle.ap_weaken.proofs.generalizing.generalised_at.Goals as goal

pub mask_of-requires-clause-ground : goal.mask_of-requires-clause-ground
mask_of-requires-clause-ground g c = has_not (function_of c.args.w.now.entries) c.requires.functions

pub generalise-requires-clause-exact : goal.generalise-requires-clause-exact
generalise-requires-clause-exact g c = ap (λ (m : Mask). m.0) c.in_ok-mask.ensures.made

pub generalise-requires-clause-new : goal.generalise-requires-clause-new
generalise-requires-clause-new g c =
    let same : c.in_ok-copy_terms.field-0 ≡ c.args.c.now.0 = search rules in
    subst (λ ts. occurs_in c.in_ok-v.v ts ≡ false) (c.as_slice.ensures ∙ sym same) (new_is_new (letter_of (out-Term c.args.t.now) ∷ []) c.as_slice.result.now c.in_ok-v.v c.in_ok-v.ensures)

pub returns-clause-made : goal.returns-clause-made
returns-clause-made g c =
    let same : c.in_ok-copy_terms.field-0 ≡ c.args.c.now.0 = search rules in
    generalised_is c.args.w.now c.args.c.now c.as_slice.result.now c.in_ok-copy_terms.field-0 c.args.t.now c.in_ok-v.v c.in_ok-mask.mask c.in_ok-answer.answer.says c.as_slice.ensures same
    c.in_ok-v.ensures c.in_ok-mask.ensures.made c.in_ok-answer.ensures.made
