use Rattle.std.proofs.Common.{arith}
use Rattle.ap_term.proofs.Seen.{seen, deeper}
use Rattle.ap_world.specs.World.{function_of}
use Rattle.ap_eval.proofs.Known.{by_arguments, by_head}
use Rattle.ap_eval.proofs.knowing.+knowing.Goals as goal

pub is_known-are_known-requires : goal.is_known-are_known-requires
is_known-are_known-requires t c = let d = deeper c.t.view_is c.in-Call.is c.as_slice.ensures in (omega (arith, c.decreases), tt)

pub is_known-returns-then-is_callable : goal.is_known-returns-then-is_callable
is_known-returns-then-is_callable t c =
    by_arguments (function_of c.args.w.now.entries) c.in-Call.f c.in-Call.terms c.as_slice.result.now c.args.t.now c.len.result c.is_callable.result c.are_known.result
    (seen c.t.view_is c.in-Call.is) c.len.ensures c.as_slice.ensures c.is_callable.ensures c.if-is_callable.true c.are_known.ensures

pub is_known-returns-else-is_callable : goal.is_known-returns-else-is_callable
is_known-returns-else-is_callable t c =
    by_head (function_of c.args.w.now.entries) c.in-Call.f c.in-Call.terms c.args.t.now c.len.result c.is_callable.result
    (seen c.t.view_is c.in-Call.is) c.len.ensures c.is_callable.ensures c.if-is_callable.false
