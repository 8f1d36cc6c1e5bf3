use Rattle.std.proofs.Common.{◌≡◌, true, List, refl, ap, arith, rules}
use Rattle.std.proofs.lemmas.Option.{slice_get_read}
use Rattle.ap_term.specs.declared.term.Term.{Term}
use Rattle.ap_world.specs.declared.entry.Mask.{Mask}
use Rattle.ap_world.specs.Sound.{known}
use Rattle.ap_poly.specs.Bounds.{bound}
use Rattle.ap_poly.specs.Polynomials.{Polynomial}
use Rattle.ap_kernel.proofs.Typed.{each_at}
use Rattle.ap_kernel.proofs.Reasoned.{more_given, bounds_given}
use Rattle.ap_rewrite.specs.Answering.{defs_in, setting_of}
use Rattle.ap_rewrite.proofs.Arguments.{from_place}
use Rattle.ap_rewrite.proofs.Begun.{bounds_next}
use Rattle.ap_rewrite.proofs.bounding.push_bounds.Goals as goal

pub loop-x-preserved : goal.loop-x-preserved
loop-x-preserved g c =
    let more : List Polynomial = c.push_bound.new.polys in
    let made : more ≡ bound c.x-item.result c.in_ok-mask.mask.0 = search rules in (
      bounds_next (setting_of c.args.r.now) c.args.ctx.now.0 c.args.atoms.now c.loop-x.x-index c.x-item.result _ more _ _
          (from_place c.args.atoms.now c.loop-x.x-index c.x-item.result (omega arith) c.x-item.is) (search rules) (search rules) c.loop-x.invariant.0,
      λ u s h.
          more_given c.args.r.now.w.now c.args.ctx.now u s _ more _ _ _ _
          (bounds_given c.args.r.now.w.now c.args.ctx.now u s c.x-item.result c.in_ok-mask.mask.0 more
          (each_at (λ (x : Term). known (defs_in c.args.r.now) x ≡ true) c.args.atoms.now c.loop-x.x-index c.x-item.result c.requires.atoms
          (slice_get_read c.args.atoms.now _ c.loop-x.x-index c.x-item.result refl (omega arith) c.x-item.is))
          (ap (λ (m : Mask). m.0) c.in_ok-mask.ensures.made) made)
          (search rules) (search rules) (c.loop-x.invariant.1 u s h),
    )
