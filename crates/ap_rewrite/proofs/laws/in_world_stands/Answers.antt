use Rattle.ap_rewrite.proofs.InWorldStands.{sound_setting, plain_stands, linear_stands}
use Rattle.ap_rewrite.proofs.laws.in_world_stands.Goals as goal

pub returns-clause-setting : goal.returns-clause-setting
returns-clause-setting c = sound_setting

pub returns-clause-plain : goal.returns-clause-plain
returns-clause-plain c = plain_stands

pub returns-clause-linear : goal.returns-clause-linear
returns-clause-linear c = linear_stands
