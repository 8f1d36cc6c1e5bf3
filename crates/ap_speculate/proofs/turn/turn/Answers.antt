-- A job that was claimed is worked; where no node was free the worker waited.
use Rattle.std.proofs.Common.{refl, inl, inr}
use Rattle.std.proofs.lemmas.Bool.{ltb-true, lt-ltb}
use Rattle.ap_speculate.proofs.Turning.{back_shared}
use Rattle.ap_speculate.proofs.turn.turn.Goals as goal

pub returns-in_default : goal.returns-in_default
returns-in_default g c =
    inr (record {
      seen = c.length-seen.result;
      before = c.length-seen.ensures;
      none = c.in_default.ensures.none;
      now = c.wait_more.result;
      after = c.wait_more.ensures;
      is = (ltb-true c.length-seen.result c.wait_more.result, lt-ltb c.length-seen.result c.wait_more.result);
    })

pub returns : goal.returns
returns g c =
    inl (
      refl,
      record {
        job = c.in-Some.job;
        claimed = c.in-Some.ensures.found;
        back = back_shared g.S.Step.step_of g.S.Step.depth _ _ c.in-Some.job c.in_ok-children.ensures;
      },
    )

pub work_claimed-requires-clause-words : goal.work_claimed-requires-clause-words
work_claimed-requires-clause-words g c = c.in-Some.ensures.found.1
