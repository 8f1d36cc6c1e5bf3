use Rattle.std.proofs.Common.{◌++◌, map}
use Rattle.ap_cert.specs.Cert.{ended, include_line}
use Rattle.ap_cert.proofs.Written.{one_more, all_put}
use Rattle.ap_cert.proofs.writing.put_includes.Goals as goal

pub loop-name-preserved : goal.loop-name-preserved
loop-name-preserved c =
    one_more c.args.includes.now c.loop-name.name-index c.loop-name-item.result c.loop-name.text c.put_include.new.text (c.args.text.now ++ ended (map include_line c.args.includes.now))
    c.loop-name-test.true c.loop-name-item.is c.in_ok-put_include.ensures c.loop-name.invariant

pub returns : goal.returns
returns c =
    all_put c.args.includes.now c.loop-name.name-index c.loop-name.text (c.args.text.now ++ ended (map include_line c.args.includes.now)) c.loop-name-test.false c.loop-name.invariant
