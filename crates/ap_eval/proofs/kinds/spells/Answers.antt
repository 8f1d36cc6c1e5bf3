use Rattle.std.proofs.Common.{◌≡◌, ◌↔◌, IsTrue, rules}
use Rattle.ap_value.proofs.Bytes.{texts_meant, AreSmall}
use Rattle.ap_eval.proofs.kinds.spells.Goals as goal

-- the bytes are those of the texts, which are below 256
pub returns : goal.returns
returns c =
    let equal : IsTrue c.eq.result ↔ (c.args.name.now ≡ c.args.text.now) = search rules in
    let small : AreSmall c.args.name.now = rw (← c.as_slice.ensures) c.slice_of.ensures.small in
    texts_meant c.args.name.now c.args.text.now c.eq.result small c.slice_of-2.ensures.small equal
