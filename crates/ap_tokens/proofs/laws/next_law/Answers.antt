use Rattle.ap_tokens.proofs.Found.{found, answered, none_left, none_answered, no_token}
use Rattle.ap_tokens.proofs.Faulted.{faulted}
use Rattle.ap_tokens.proofs.laws.next_law.Goals as goal

pub returns : goal.returns
returns c = record {
  found = found;
  only = answered;
  none = none_left;
  only_none = none_answered;
  fault = faulted;
  no_token = no_token;
}
