use Rattle.std.proofs.Common.{◌∷◌, [], ◌++◌, ◌∙◌, ap}
use Rattle.std.proofs.lemmas.Result.{IfOk-weaker}
use Rattle.ap_names.proofs.Parts.{no_numbers_first, numbers_then}
use Rattle.ap_names.proofs.parsing.numbers.Goals as goal

pub returns-in_default : goal.returns-in_default
returns-in_default c = no_numbers_first c.args.text.now c.in_default.ensures

pub returns : goal.returns
returns c =
    let first = c.in-Some.first in
    IfOk-weaker c.with_dotted.result _ _
    (numbers_then c.args.text.now first c.in-Some.rest.now c.push.new.self c.in-Some.ensures
    (c.in_ok-push.ensures.ok ∙ ap (λ xs. xs ++ first ∷ []) c.new-numbers.ensures) (λ p. p.0) (λ p. p.1.now))
    c.with_dotted.ensures
