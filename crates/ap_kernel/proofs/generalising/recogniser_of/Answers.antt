use Rattle.ap_world.specs.Names.{consp_name, integerp_name, symbolp_name, stringp_name, characterp_name, true_listp_name}
use Rattle.ap_kernel.specs.Generalising.{tried}
use Rattle.ap_kernel.proofs.generalising.recogniser_of.Goals as goal

-- the table is the definition's
pub returns : goal.returns
unfolding tried consp_name integerp_name symbolp_name stringp_name characterp_name true_listp_name
returns c = c.first_fitting.ensures
