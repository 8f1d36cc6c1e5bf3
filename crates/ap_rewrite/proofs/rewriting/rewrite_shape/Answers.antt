use Rattle.std.proofs.Common.{◌≡◌, IfOk, IfSome, subst, sym, ap, rules}
use Rattle.ap_term.specs.declared.term.Term.{Term}
use Rattle.ap_world.specs.Shapes.{Shape, shape_of, choice, negation}
use Rattle.ap_rewrite.specs.Rewriting.{rewrite_shape}
use Rattle.ap_rewrite.specs.Answering.{From, defs_in, setting_of, inner_of, seen_at}
use Rattle.ap_rewrite.proofs.Froms.{if_parts, not_part}
use Rattle.ap_rewrite.proofs.Levels.{parts_at, same_got}
use Rattle.ap_rewrite.proofs.rewriting.rewrite_shape.Goals as goal

pub rewrite_if-requires-clause-term : goal.rewrite_if-requires-clause-term
rewrite_if-requires-clause-term g c =
    let h : shape_of c.args.t.now ≡ choice c.in-If.a.now c.in-If.b.now c.in-If.c.now = search rules in
    (if_parts (defs_in c.args.l.now.r.now) _ _ _ _ c.requires.term h).0

pub rewrite_if-requires-clause-test : goal.rewrite_if-requires-clause-test
rewrite_if-requires-clause-test g c =
    let h : shape_of c.args.t.now ≡ choice c.in-If.a.now c.in-If.b.now c.in-If.c.now = search rules in
    (if_parts (defs_in c.args.l.now.r.now) _ _ _ _ c.requires.term h).1

pub rewrite_if-requires-clause-yes : goal.rewrite_if-requires-clause-yes
rewrite_if-requires-clause-yes g c =
    let h : shape_of c.args.t.now ≡ choice c.in-If.a.now c.in-If.b.now c.in-If.c.now = search rules in
    (if_parts (defs_in c.args.l.now.r.now) _ _ _ _ c.requires.term h).2

pub rewrite_if-requires-clause-no : goal.rewrite_if-requires-clause-no
rewrite_if-requires-clause-no g c =
    let h : shape_of c.args.t.now ≡ choice c.in-If.a.now c.in-If.b.now c.in-If.c.now = search rules in
    (if_parts (defs_in c.args.l.now.r.now) _ _ _ _ c.requires.term h).3

pub rewrite_not-requires-clause-term : goal.rewrite_not-requires-clause-term
rewrite_not-requires-clause-term g c =
    let h : shape_of c.args.t.now ≡ negation c.in-Not.a.now = search rules in
    (not_part (defs_in c.args.l.now.r.now) _ _ c.requires.term h).0

pub rewrite_not-requires-clause-argument : goal.rewrite_not-requires-clause-argument
rewrite_not-requires-clause-argument g c =
    let h : shape_of c.args.t.now ≡ negation c.in-Not.a.now = search rules in
    (not_part (defs_in c.args.l.now.r.now) _ _ c.requires.term h).1

pub returns-in-If-clause-from : goal.returns-in-If-clause-from
returns-in-If-clause-from g c =
    let h : shape_of c.args.t.now ≡ choice c.in-If.a.now c.in-If.b.now c.in-If.c.now = search rules in
    subst (λ (u : Term). IfOk c.rewrite_if.result (λ o. IfSome o (From c.args.l.now.r.now.w.now c.args.mode c.args.at.now.ctx.now u)))
    (sym (if_parts (defs_in c.args.l.now.r.now) _ _ _ _ c.requires.term h).0) c.rewrite_if.ensures.from

pub returns-in-Not-clause-from : goal.returns-in-Not-clause-from
returns-in-Not-clause-from g c =
    let h : shape_of c.args.t.now ≡ negation c.in-Not.a.now = search rules in
    subst (λ (u : Term). IfOk c.rewrite_not.result (λ o. IfSome o (From c.args.l.now.r.now.w.now c.args.mode c.args.at.now.ctx.now u)))
    (sym (not_part (defs_in c.args.l.now.r.now) _ _ c.requires.term h).0) c.rewrite_not.ensures.from

pub returns-in-If-clause-is : goal.returns-in-If-clause-is
returns-in-If-clause-is g c =
    same_got _ _ _ _
    (ap (λ (y : Shape Term). rewrite_shape (setting_of c.args.l.now.r.now) (inner_of c.args.l.now.r.now c.args.l.now.levels) c.args.mode (seen_at c.args.at.now) c.args.t.now y c.args.steps.now.left) c.in-If.ensures)
    c.rewrite_if.ensures.is

pub returns-in-Not-clause-is : goal.returns-in-Not-clause-is
returns-in-Not-clause-is g c =
    same_got _ _ _ _
    (ap (λ (y : Shape Term). rewrite_shape (setting_of c.args.l.now.r.now) (inner_of c.args.l.now.r.now c.args.l.now.levels) c.args.mode (seen_at c.args.at.now) c.args.t.now y c.args.steps.now.left) c.in-Not.ensures)
    c.rewrite_not.ensures.is

pub returns-in_default-clause-is : goal.returns-in_default-clause-is
returns-in_default-clause-is g c =
    same_got _ _ _ _
    (parts_at (setting_of c.args.l.now.r.now) (inner_of c.args.l.now.r.now c.args.l.now.levels) c.args.mode (seen_at c.args.at.now) c.args.t.now c.shape_of.result c.args.steps.now.left c.shape_of.ensures c.in_default.not-If c.in_default.not-Not)
    c.rewrite_parts.ensures.is
