use Rattle.std.proofs.Common.{◌≡◌, ◌↔◌, IsTrue, rules}
use Rattle.ap_value.proofs.Bytes.{texts_meant}
use Rattle.ap_value.proofs.symbol.same_text.Goals as goal

-- the bytes are those of the texts, which are below 256
pub returns-clause-meant : goal.returns-clause-meant
returns-clause-meant c =
    let equal : IsTrue c.same.result ↔ (c.args.a.now ≡ c.args.b.now) = search rules in
    texts_meant c.args.a.now c.args.b.now c.same.result c.slice_of-a.ensures.small c.slice_of-b.ensures.small equal
