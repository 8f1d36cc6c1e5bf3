use Rattle.ap_names.specs.Reading.{name_of}
use Rattle.ap_names.proofs.parsing.parse.Goals as goal

pub returns-clause-is : goal.returns-clause-is
returns-clause-is c =
    c.printing_has_one_reading.ensures.texts c.args.text.now c.in_ok-name.name (name_of c.args.text.now) c.in_ok-name.ensures
    (c.printing_has_one_reading.ensures.reading c.args.text.now)
