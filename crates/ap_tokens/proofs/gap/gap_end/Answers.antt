use Rattle.std.proofs.Common.{sym, ◌∙◌, arith}
use Rattle.std.proofs.lemmas.List.{take_rest, length-drop}
use Rattle.ap_tokens.proofs.Passes.{gap_pass}
use Rattle.ap_tokens.proofs.gap.gap_end.Goals as goal

pub loop-n-preserved : goal.loop-n-preserved
loop-n-preserved c =
    let text = c.loop-n.left.now in
    let n = c.in-Pass.n in
    let most = c.in-Pass.ensures.within in
    let passed = gap_pass n c.loop-n.at text (sym c.in-Pass.ensures.value) most.0 most.1 in
    record {
      passed = rw (take_rest text n) (sym passed ∙ c.loop-n.invariant.passed);
      within = rw (take_rest text n) (omega (arith, length-drop n text, most.0, most.1));
      fewer = rw (take_rest text n) (omega (arith, length-drop n text));
    }
