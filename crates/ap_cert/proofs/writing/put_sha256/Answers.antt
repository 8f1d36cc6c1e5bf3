use Rattle.std.proofs.Common.{codes, refl}
use Rattle.hex.specs.Hex.{encode_lower}
use Rattle.ap_cert.specs.Cert.{digest_line}
use Rattle.ap_cert.proofs.Written.{line_after}
use Rattle.ap_cert.proofs.writing.put_sha256.Goals as goal

pub returns : goal.returns
unfolding digest_line
returns c =
    line_after c.put_digest.result c.args.text.now (codes "sha256 ") c.extend.new.self (encode_lower c.args.digest.now) (digest_line c.args.digest.now) c.put_digest.new.text c.in_ok-extend.ensures.ok
    refl c.put_digest.ensures
