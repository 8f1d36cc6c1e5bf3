use Rattle.ap_table.proofs.After.{after_sound, after_done, after_dropped, after_root, after_ends}
use Rattle.ap_table.proofs.laws.core_is_sound.Goals as goal

pub returns : goal.returns
returns g c = record {
  kept = λ rule. after_sound g.S.Step.step_of g.S.Step.depth rule g.met.S.Step.tells g.met.S.Step.deeper;
  done = λ rule. after_done g.S.Step.step_of g.S.Step.depth rule g.met.S.Step.tells g.met.S.Step.deeper;
  dropped = λ rule. after_dropped g.S.Step.step_of g.S.Step.depth rule g.met.S.Step.tells g.met.S.Step.deeper;
  root = λ rule. after_root g.S.Step.step_of g.S.Step.depth rule g.met.S.Step.tells g.met.S.Step.deeper;
  ends = λ rule. after_ends g.S.Step.step_of g.S.Step.depth rule g.met.S.Step.tells g.met.S.Step.deeper;
}
