use Rattle.std.proofs.Common.{◌≡◌, ◌∷◌, ◌++◌, refl}
use Rattle.ap_term.specs.Printed.{value_text, rest_text}
use Rattle.ap_term.proofs.Folds.{cons_rest}
use Rattle.ap_term.proofs.Parts.{along}
use Rattle.ap_term.proofs.compare.+values.Goals as goal

pub compare_rest-returns-in-Cons-default : goal.compare_rest-returns-in-Cons-default
compare_rest-returns-in-Cons-default t c =
    let a = c.args.a.now in
    let b = c.args.b.now in
    let first = c.get.result.now in
    let rest = c.get-in-Cons-default.result.now in
    let e = cons_rest a c.in-Cons-default.p c.in-Cons-default.ps c.in-Cons-default.is-0 in
    let text : rest_text a ≡ 32 ∷ (value_text first ++ rest_text rest) = cc in
    along c.compare_with_tail.result (rest_text a) (32 ∷ (value_text first ++ rest_text rest)) c.args.x (rest_text b) (rest_text b) c.args.y
    text refl (c.compare_with_tail.ensures c.args.x c.args.y)

pub compare_rest-returns-in_default-Cons : goal.compare_rest-returns-in_default-Cons
compare_rest-returns-in_default-Cons t c =
    let a = c.args.a.now in
    let b = c.args.b.now in
    let first = c.get-in_default-Cons.result.now in
    let rest = c.get-in_default-Cons-2.result.now in
    let e = cons_rest b c.in_default-Cons.q c.in_default-Cons.qs c.in_default-Cons.is-1 in
    let text : rest_text b ≡ 32 ∷ (value_text first ++ rest_text rest) = cc in
    along c.compare_tail_with.result (rest_text a) (rest_text a) c.args.x (rest_text b) (32 ∷ (value_text first ++ rest_text rest)) c.args.y
    refl text (c.compare_tail_with.ensures c.args.x c.args.y)
