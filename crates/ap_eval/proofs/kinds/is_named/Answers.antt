use Rattle.std.proofs.Common.{◌≡◌, true, false, rules}
use Rattle.ap_eval.proofs.Sameness.{spelt_named, keyword_named}
use Rattle.ap_eval.proofs.kinds.is_named.Goals as goal

pub returns-then-not-symbol : goal.returns-then-not-symbol
returns-then-not-symbol c =
    let plain : c.in-Sym.symbol.keyword ≡ false = search rules in
    spelt_named c.args.v.now c.in-Sym.symbol c.args.name.now c.spells.result c.in-Sym.is plain c.spells.ensures

pub returns-else-not-symbol : goal.returns-else-not-symbol
returns-else-not-symbol c =
    let key : c.in-Sym.symbol.keyword ≡ true = search rules in
    rw key (keyword_named c.args.v.now c.in-Sym.symbol c.args.name.now c.in-Sym.is key)
