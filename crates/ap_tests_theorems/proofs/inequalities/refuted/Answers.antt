use Rattle.std.proofs.Common.{rules}
use Rattle.ap_world.specs.World.{function_of}
use Rattle.ap_tests_theorems.proofs.Handed.{handed, reasoned}
use Rattle.ap_tests_theorems.proofs.inequalities.refuted.Goals as goal

pub by_certificate-answer-requires-clause-polys : goal.by_certificate-answer-requires-clause-polys
by_certificate-answer-requires-clause-polys g c =
    handed (function_of c.args.w.now.entries) c.recall_sound.ensures.total c.one_fact-ctx.result c.term-t.result c.term-fact.result c.args.sign _
    c.one_fact-ctx.ensures c.term-t.ensures c.term-fact.ensures (search rules)

pub by_certificate-answer-requires-clause-reasons : goal.by_certificate-answer-requires-clause-reasons
by_certificate-answer-requires-clause-reasons g c =
    reasoned c.args.w.now c.one_fact-ctx.result c.term-t.result c.term-fact.result c.args.sign _ _ c.one_fact-ctx.ensures (search rules) (search rules)
