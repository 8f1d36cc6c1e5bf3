use Rattle.ap_table.proofs.Finding.{get_there}
use Rattle.ap_table.proofs.seating.link_at.Goals as goal

pub returns : goal.returns
returns c = get_there c.args.path.now c.args.i _ c.requires
