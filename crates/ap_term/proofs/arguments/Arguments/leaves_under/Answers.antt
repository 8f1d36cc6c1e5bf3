use Rattle.std.proofs.Common.{◌≡◌, true, false, is_some, sym, ap, ◌∙◌}
use Rattle.ap_value.specs.Values.{symbol_eq}
use Rattle.ap_term.specs.Capped.{capped}
use Rattle.ap_term.specs.Leaves.{if_parts}
use Rattle.ap_term.specs.Names.{if_name}
use Rattle.ap_term.proofs.KeptCounts.{choice_call, product_call}
use Rattle.ap_term.proofs.arguments.Arguments.leaves_under.Goals as goal

pub returns-then-chooses : goal.returns-then-chooses
returns-then-chooses c =
    let f = c.args.head.now in
    let ts = c.args.self.now in
    c.choice.ensures ∙ ap capped (sym (choice_call f ts (ap (λ us. is_some (if_parts (symbol_eq f if_name) us)) (sym c.as_slice.ensures) ∙ sym c.chooses.ensures ∙ c.if-chooses.true)))

pub returns-else-chooses : goal.returns-else-chooses
returns-else-chooses c =
    let f = c.args.head.now in
    let ts = c.args.self.now in
    c.leaves.ensures ∙ ap capped (sym (product_call f ts (ap (λ us. is_some (if_parts (symbol_eq f if_name) us)) (sym c.as_slice.ensures) ∙ sym c.chooses.ensures ∙ c.if-chooses.false)))
