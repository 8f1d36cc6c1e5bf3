use Rattle.ap_session.proofs.CommandLines.{lines_are_read, lines_say_one_thing, lines_are_written_one_way, others_are_none}
use Rattle.ap_session.proofs.laws.command_lines_are_read_one_way.Goals as goal

pub returns-clause-read : goal.returns-clause-read
returns-clause-read c = lines_are_read

pub returns-clause-one : goal.returns-clause-one
returns-clause-one c = lines_say_one_thing

pub returns-clause-others : goal.returns-clause-others
returns-clause-others c = others_are_none

pub returns-clause-written : goal.returns-clause-written
returns-clause-written c = lines_are_written_one_way
