use Rattle.std.proofs.Common.{◌≡◌, ◌∷◌, [], refl, ap, subst, ◌∙◌, arith, List, Some, None, length, length-append}
use Rattle.ap_table.specs.Kept.{Kept}
use Rattle.ap_table.specs.declared.seats.AncestorSeat.{AncestorSeat}
use Rattle.ap_table.specs.declared.seats.Beside.{Beside}
use Rattle.ap_table.specs.Seated.{IsCut, AreCut}
use Rattle.ap_table.proofs.Cutting.{row_next}
use Rattle.ap_table.proofs.seating.rows.Goals as goal

pub loop-place-preserved : goal.loop-place-preserved
loop-place-preserved c =
    let same = c.loop-place.invariant.same in
    let old = c.args.seats.now.items in
    let first = c.in_ok-first.first in
    let job : (rest : List AncestorSeat) × (c.in_ok-job.job ≡ first ∷ rest) × AreCut old c.args.path.now rest =
    subst (λ (bs : List Beside). (rest : List AncestorSeat) × (c.in_ok-job.job ≡ first ∷ rest) × AreCut bs c.args.path.now rest) same c.in_ok-job.ensures.seats in
    let cut : IsCut c.args.own.now (record { family = c.args.family; place = c.loop-place.place }) first =
    subst (λ (v : Kept). IsCut v (record { family = c.args.family; place = c.loop-place.place }) first) c.loop-place.invariant.own c.in_ok-first.ensures.seat in
    let more = c.in_ok-push.ensures.items in
    let b : Beside = record { job = Some c.in_ok-job.job; kept = None } in
    record {
      same = c.in_ok-job.ensures.same ∙ same;
      own = c.in_ok-first.ensures.same ∙ c.loop-place.invariant.own;
      long = omega (arith, ap length more, length-append c.loop-place.rows.items (b ∷ []), c.loop-place.invariant.long);
      rows = row_next old c.args.path.now c.args.family c.args.own.now c.loop-place.rows.items c.push.new.self.items c.loop-place.place first c.in_ok-job.job b c.loop-place.invariant.long more refl refl cut job c.loop-place.invariant.rows;
    }
