use Rattle.std.proofs.Common.{◌∙◌, sym}
use Rattle.ap_term.specs.Printed.{term_text}
use Rattle.ap_term.specs.Order.{term_less, variables_in, functions_in, constants_in}
use Rattle.ap_term.proofs.Less.{by_first, by_next, less_by_text}
use Rattle.ap_term.proofs.order.term_less.Goals as goal

pub returns-then-left-right-clause-value : goal.returns-then-left-right-clause-value
unfolding term_less
returns-then-left-right-clause-value c =
    let m = c.in_ok-left.left in
    let n = c.in_ok-right.right in
    let a = c.args.a.now in
    let b = c.args.b.now in
    by_first m.variables n.variables (variables_in a) (variables_in b) _
    c.in_ok-left.ensures.variables c.in_ok-right.ensures.variables c.if-left-right.true

pub returns-then-left-right-2-clause-value : goal.returns-then-left-right-2-clause-value
unfolding term_less
returns-then-left-right-2-clause-value c =
    let m = c.in_ok-left.left in
    let n = c.in_ok-right.right in
    let a = c.args.a.now in
    let b = c.args.b.now in
    by_next m.variables n.variables (variables_in a) (variables_in b) _ _
    c.in_ok-left.ensures.variables c.in_ok-right.ensures.variables c.if-left-right.false
    (by_first m.functions n.functions (functions_in a) (functions_in b) _
    c.in_ok-left.ensures.functions c.in_ok-right.ensures.functions c.if-left-right-2.true)

pub returns-then-left-right-3-clause-value : goal.returns-then-left-right-3-clause-value
unfolding term_less
returns-then-left-right-3-clause-value c =
    let m = c.in_ok-left.left in
    let n = c.in_ok-right.right in
    let a = c.args.a.now in
    let b = c.args.b.now in
    by_next m.variables n.variables (variables_in a) (variables_in b) _ _
    c.in_ok-left.ensures.variables c.in_ok-right.ensures.variables c.if-left-right.false
    (by_next m.functions n.functions (functions_in a) (functions_in b) _ _
    c.in_ok-left.ensures.functions c.in_ok-right.ensures.functions c.if-left-right-2.false
    (by_first m.constants n.constants (constants_in a) (constants_in b) _
    c.in_ok-left.ensures.constants c.in_ok-right.ensures.constants c.if-left-right-3.true))

pub returns-clause-value : goal.returns-clause-value
unfolding term_less
returns-clause-value c =
    let m = c.in_ok-left.left in
    let n = c.in_ok-right.right in
    let a = c.args.a.now in
    let b = c.args.b.now in
    by_next m.variables n.variables (variables_in a) (variables_in b) _ _
    c.in_ok-left.ensures.variables c.in_ok-right.ensures.variables c.if-left-right.false
    (by_next m.functions n.functions (functions_in a) (functions_in b) _ _
    c.in_ok-left.ensures.functions c.in_ok-right.ensures.functions c.if-left-right-2.false
    (by_next m.constants n.constants (constants_in a) (constants_in b) _ _
    c.in_ok-left.ensures.constants c.in_ok-right.ensures.constants c.if-left-right-3.false
    (c.is_lt.ensures ∙ sym (less_by_text c.compare_term.result (term_text a) (term_text b) c.compare_term.ensures))))
