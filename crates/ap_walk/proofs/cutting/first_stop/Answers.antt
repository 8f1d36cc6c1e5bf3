use Rattle.ap_walk.proofs.Stops.{opened_mark}
use Rattle.ap_walk.proofs.Prefixes.{mark_passed, mark_stops, all_passed}
use Rattle.ap_walk.proofs.cutting.first_stop.Goals as goal

pub returns-in_default : goal.returns-in_default
returns-in_default g c =
    mark_stops c.args.rule c.args.start c.loop-place.tally c.args.marks.now c.loop-place.place c.index-marks-place.result c.loop-place-test.true
    c.index-marks-place.is c.loop-place.invariant.to_come _ _ c.counted_mark-tally.ensures c.end_of_mark-end.ensures c.in_default.not-Through

pub loop-place-preserved : goal.loop-place-preserved
loop-place-preserved g c = record {
  opened =
      opened_mark c.args.rule c.loop-place.tally c.index-marks-place.result _ _ c.loop-place.invariant.opened c.counted_mark-tally.ensures
      c.end_of_mark-end.ensures c.in-Through.is;
  to_come =
      mark_passed c.args.rule c.args.start c.loop-place.tally c.args.marks.now c.loop-place.place c.index-marks-place.result c.loop-place-test.true
      c.index-marks-place.is c.loop-place.invariant.to_come _ _ c.counted_mark-tally.ensures c.end_of_mark-end.ensures c.in-Through.is;
}

pub returns : goal.returns
returns g c =
    all_passed c.args.rule c.args.start c.loop-place.tally c.args.marks.now c.loop-place.place c.loop-place-test.false c.loop-place.invariant.to_come
