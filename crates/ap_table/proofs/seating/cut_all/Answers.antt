use Rattle.std.proofs.Common.{◌≡◌, sym, subst, ◌∙◌, arith, List, Some}
use Rattle.ap_table.specs.Kept.{Kept}
use Rattle.ap_table.specs.declared.seats.Beside.{Beside}
use Rattle.ap_table.specs.Seated.{IsCut, kept_at, HasSeat}
use Rattle.ap_table.proofs.Finding.{each_there}
use Rattle.ap_table.proofs.Cutting.{cut_next, cut_every}
use Rattle.ap_table.proofs.seating.cut_all.Goals as goal

pub cut_at-requires : goal.cut_at-requires
cut_at-requires c =
    subst (λ (bs : List Beside). HasSeat bs c.link_at.result) (sym c.loop-at.invariant.same)
    (each_there (HasSeat c.args.seats.now.items) c.loop-at.at c.args.path.now c.link_at.result c.link_at.ensures c.requires)

pub loop-at-preserved : goal.loop-at-preserved
loop-at-preserved c =
    let same = c.loop-at.invariant.same in
    let l = c.link_at.result in
    let cut : (v : Kept) × (kept_at c.args.seats.now.items l.family ≡ Some v) × IsCut v l c.in_ok-seat.seat =
    subst (λ (bs : List Beside). (v : Kept) × (kept_at bs l.family ≡ Some v) × IsCut v l c.in_ok-seat.seat) same c.in_ok-seat.ensures.seat in
    record {
      same = c.in_ok-seat.ensures.same ∙ same;
      cut = cut_next c.args.seats.now.items c.loop-at.at c.args.path.now l c.args.first c.loop-at.cut c.push-in-loop-at.new.self c.in_ok-seat.seat c.link_at.ensures cut c.loop-at.invariant.cut c.in_ok-push-2.ensures.ok;
    }

pub returns-clause-seats : goal.returns-clause-seats
returns-clause-seats c = cut_every c.args.seats.now.items c.loop-at.at c.args.path.now c.args.first c.loop-at.cut (omega (arith, c.loop-at-test.false)) c.loop-at.invariant.cut
