use Rattle.std.proofs.Common.{subst}
use Rattle.ap_value.specs.Values.{val_of}
use Rattle.ap_world.specs.Meaning.{HasValue}
use Rattle.ap_world.specs.Units.{Assigned, meant_by}
use Rattle.ap_world.specs.World.{function_of}
use Rattle.ap_tests_theorems.proofs.Handed.{run_gives}
use Rattle.ap_tests_theorems.proofs.theorems.value_of.Goals as goal

pub returns : goal.returns
returns c = record {
  meant = subst (λ (e : Assigned). HasValue (function_of c.args.w.now.entries) c.args.t.now (meant_by e) (val_of c.in-Ok.value)) c.new.ensures c.in-Ok.ensures.meant;
  run = run_gives (function_of c.args.w.now.entries) c.args.t.now c.new.result c.in-Ok.value c.in-Ok.ensures.is.0 c.new.ensures c.in-Ok.ensures.is.1;
}
