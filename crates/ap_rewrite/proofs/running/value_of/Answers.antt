use Rattle.std.proofs.Common.{sym}
use Rattle.ap_world.specs.World.{function_of}
use Rattle.ap_world.specs.Units.{gives}
use Rattle.ap_rewrite.proofs.Ran.{ran, ran_gives, ran_means}
use Rattle.ap_rewrite.proofs.running.value_of.Goals as goal

pub returns-in-Ok-clause-is : goal.returns-in-Ok-clause-is
returns-in-Ok-clause-is c = sym (ran (function_of c.args.w.now.entries) c.args.t.now c.new.result (gives c.in-Ok.value c.in-Ok.ensures.is.0) c.new.ensures c.in-Ok.ensures.is.1)

pub returns-in-Ok-clause-meant : goal.returns-in-Ok-clause-meant
returns-in-Ok-clause-meant c = ran_means (function_of c.args.w.now.entries) c.args.t.now c.new.result c.in-Ok.value c.new.ensures c.in-Ok.ensures.meant

pub returns-in-Ok-clause-run : goal.returns-in-Ok-clause-run
returns-in-Ok-clause-run c = ran_gives (function_of c.args.w.now.entries) c.args.t.now c.new.result c.in-Ok.value c.in-Ok.ensures.is.0 c.new.ensures c.in-Ok.ensures.is.1
