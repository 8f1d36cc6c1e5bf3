use Rattle.ap_world.specs.Names.{consp_name, integerp_name, symbolp_name, stringp_name, characterp_name, true_listp_name}
use Rattle.ap_world.specs.Rows.{recognisers, recognised}
use Rattle.ap_world.proofs.recognisers.recognised.Goals as goal

-- the table is the definition's
pub returns : goal.returns
unfolding recognised recognisers consp_name integerp_name symbolp_name stringp_name characterp_name true_listp_name
returns c = c.find_named.ensures
