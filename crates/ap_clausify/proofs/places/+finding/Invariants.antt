use Rattle.std.proofs.Common.{◌≡◌, map, drop}
use Rattle.ap_clausify.specs.Places.{first_in, first_place}
use Rattle.ap_clausify.proofs.places.+finding.Given as goal

-- no place is added yet, and those arguments that are left decide
abbrev pub invariant-find_among-loop-place : goal.invariant-find_among-loop-place
invariant-find_among-loop-place l = record {
  at : l.at ≡ l.initial.at;
  rest : first_in l.place (map first_place (drop l.place l.ts)) ≡ first_in 0 (map first_place l.ts);
}
