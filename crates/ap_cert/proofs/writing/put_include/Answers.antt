use Rattle.std.proofs.Common.{codes, ap, ◌++◌, ◌∷◌, [], ◌∙◌}
use Rattle.hex.specs.Hex.{encode_lower}
use Rattle.ap_cert.specs.Cert.{include_line}
use Rattle.ap_cert.specs.Reads.{included}
use Rattle.ap_cert.proofs.Written.{line_after, three_fronts, three_parts}
use Rattle.ap_cert.proofs.writing.put_include.Goals as goal

pub returns : goal.returns
unfolding include_line
returns c =
    let name = c.args.name.now.0 in
    let digits = encode_lower c.args.digest.now in
    line_after c.put_digest.result c.args.text.now (codes "include " ++ (name ++ 32 ∷ [])) c.push.new.self digits (include_line (included name c.args.digest.now)) c.put_digest.new.text
    (three_fronts c.args.text.now (codes "include ") name c.extend.new.self c.extend-2.new.self c.push.new.self 32 c.in_ok-extend.ensures.ok
    (c.in_ok-extend-2.ensures.ok ∙ ap (λ xs. c.extend.new.self ++ xs) c.as_slice.ensures) c.in_ok-push.ensures.ok)
    (three_parts (codes "include ") name digits 32) c.put_digest.ensures
