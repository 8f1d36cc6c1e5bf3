use Rattle.std.proofs.Common.{◌++◌, ap, map, ◌∙◌}
use Rattle.ap_cert.specs.Cert.{head_line, end_line, ended, include_line}
use Rattle.ap_cert.proofs.Written.{whole_text}
use Rattle.ap_cert.proofs.writing.write_v1.Goals as goal

pub returns : goal.returns
unfolding head_line end_line
returns c =
    whole_text c.args.c.now c.new-text.result c.put_line.new.text c.put_book.new.text c.put_sha256.new.text c.put_includes.new.text c.put_events.new.text c.put_line-2.new.text c.new-text.ensures
    c.in_ok-put_line.ensures c.in_ok-put_book.ensures c.in_ok-put_sha256.ensures
    (c.in_ok-put_includes.ensures ∙ ap (λ xs. c.put_sha256.new.text ++ ended (map include_line xs)) c.as_slice.ensures) c.in_ok-put_events.ensures c.in_ok-put_line-2.ensures
