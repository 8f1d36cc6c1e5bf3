use Rattle.std.proofs.Common.{◌-◌, refl, sym, ◌∙◌, arith, inl}
use Rattle.ap_table.proofs.Slots.{join_start, join_next, join_stop, join_all, join_others}
use Rattle.ap_table.proofs.gathering.join.Goals as goal

pub loop-place-init : goal.loop-place-init
loop-place-init g c = (join_start c.args.slots.now.items c.args.marks c.args.top c.args.count, (λ j h. refl), refl)

pub loop-place-preserved : goal.loop-place-preserved
loop-place-preserved g c =
    let i = c.loop-place.invariant in
    let fits = c.requires.fits in
    let lt = c.loop-place-test.true in
    let at = c.args.top - c.loop-place.place - 1 in (
      join_next c.args.slots.now.items c.loop-place.marks c.in-Some.more c.append.new.self _ c.args.top c.args.count c.loop-place.place lt fits
          (sym (i.1 at (inl (omega arith))) ∙ c.in-Some.ensures.is) c.in_ok-append.ensures.ok i.0,
      join_others c.args.slots.now.items c.loop-place.slots.items c.taken.new.slots.items c.args.top c.loop-place.place at (omega arith) i.1 c.in-Some.ensures.others,
      c.in-Some.ensures.long ∙ i.2,
    )

pub returns-in_default-clause-marks : goal.returns-in_default-clause-marks
returns-in_default-clause-marks g c =
    let i = c.loop-place.invariant in
    let fits = c.requires.fits in
    let lt = c.loop-place-test.true in
    join_stop c.args.slots.now.items c.loop-place.marks _ c.args.top c.args.count c.loop-place.place lt fits
    (sym (i.1 (c.args.top - c.loop-place.place - 1) (inl (omega arith))) ∙ c.in_default.ensures.is) i.0

pub returns-clause-marks : goal.returns-clause-marks
returns-clause-marks g c =
    let i = c.loop-place.invariant in
    join_all c.args.slots.now.items c.loop-place.marks _ c.args.top c.args.count c.loop-place.place c.loop-place-test.false i.0
