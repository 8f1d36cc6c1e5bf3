use Rattle.ap_walk.proofs.Cuts.{cut_takes}
use Rattle.ap_walk.proofs.Stops.{cut_counts, cut_stops, tests_same}
use Rattle.ap_walk.proofs.theorems.cut_is_bounded.Goals as goal

pub returns : goal.returns
returns g c = record {
  prefix = cut_takes;
  stops = cut_stops;
  tests = tests_same;
  counts = cut_counts;
}
