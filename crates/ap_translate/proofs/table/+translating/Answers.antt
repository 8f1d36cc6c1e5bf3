use Rattle.std.proofs.Common.{◌≡◌, ◌∷◌, [], List, Some, Ok, true, sym, ap, ◌∙◌, subst, arith, rules}
use Rattle.ap_term.specs.Terms.{term_size}
use Rattle.ap_reader.specs.declared.form.Form.{Form}
use Rattle.ap_value.specs.declared.value.Value.TheVariants.{Int}
use Rattle.ap_term.specs.declared.term.Term.{Term, Quote}
use Rattle.ap_value.specs.declared.symbol.Symbol.{Symbol}
use Rattle.ap_translate.specs.Answers.{Answer, ◌>>=◌, each, Fails}
use Rattle.ap_translate.specs.Rows.{pieced}
use Rattle.ap_translate.specs.Shapes.{arm_seen, bind_seen, scope_seen}
use Rattle.ap_translate.specs.Sizes.{small, few, capped, row_terms}
use Rattle.ap_translate.specs.Kept.{piece_size, small_piece, few_pieces, list_pieces, list_arms, kept_bindings, each_small, quote_pieced, Admitted}
use Rattle.ap_translate.specs.Plans.{planned}
use Rattle.ap_translate.specs.Table.{with_bound, scope_of, variable, bindings, arms_term, plan_term, level, term_in, part_in, piece_in}
use Rattle.ap_translate.proofs.Bindings.{small_next, bound_next, term_fails, wider_scope, named_length, small_length, lambda_made, let_made}
use Rattle.ap_translate.proofs.Clauses.{arm_next, arm_fails, last_next, last_is}
use Rattle.ap_translate.proofs.Constants.{at_form}
use Rattle.ap_translate.proofs.Fails.{gives_err, gives_same, bad_fails, same_fails, then_fails, capped_fails, fails_capped}
use Rattle.ap_translate.proofs.Kept.{next}
use Rattle.ap_translate.proofs.Layers.{lent_is, term_list, term_quoted, term_quasi, part_list, part_quoted, part_comma, piece_splice, term_list_none, term_quoted_none, term_quasi_none, part_list_none, part_quoted_none, part_comma_none, piece_splice_none}
use Rattle.ap_translate.proofs.Literals.{term_int, term_chr, term_str, part_int, part_chr, part_str, part_symbol, plan_none}
use Rattle.ap_translate.proofs.Makings.{plan_built, enough, list_pieced, one_pieced, piece_kept}
use Rattle.ap_translate.proofs.Planning.{admitted, sensible}
use Rattle.ap_translate.proofs.table.+translating.Goals as goal

pub term-returns-in_err-left-in-List : goal.term-returns-in_err-left-in-List
term-returns-in_err-left-in-List t c =
    gives_err c.from_residual-in_err-left-in-List.result c.in_err-left-in-List.field-0.0 _ c.from_residual-in_err-left-in-List.ensures.1
    (bad_fails small c.in_err-left-in-List.field-0.0 c.args.form.now.place (term_in c.args.world.now.entries c.args.left c.args.bound.now.names c.args.form.now) c.in_err-left-in-List.ensures.1 (term_list_none c.args.world.now.entries c.args.left c.args.bound.now.names c.args.form.now c.in_err-left-in-List.ensures.0 _ (lent_is c.lend.ensures.lent c.in-List.is)))

pub term-returns-in_err-left-in-Quoted : goal.term-returns-in_err-left-in-Quoted
term-returns-in_err-left-in-Quoted t c =
    gives_err c.from_residual-in_err-left-in-Quoted.result c.in_err-left-in-Quoted.field-0.0 _ c.from_residual-in_err-left-in-Quoted.ensures.1
    (bad_fails small c.in_err-left-in-Quoted.field-0.0 c.args.form.now.place (term_in c.args.world.now.entries c.args.left c.args.bound.now.names c.args.form.now) c.in_err-left-in-Quoted.ensures.1 (term_quoted_none c.args.world.now.entries c.args.left c.args.bound.now.names c.args.form.now c.in_err-left-in-Quoted.ensures.0 _ (lent_is c.lend.ensures.lent c.in-Quoted.is)))

pub term-returns-in_err-left-in-Quasi : goal.term-returns-in_err-left-in-Quasi
term-returns-in_err-left-in-Quasi t c =
    gives_err c.from_residual-in_err-left-in-Quasi.result c.in_err-left-in-Quasi.field-0.0 _ c.from_residual-in_err-left-in-Quasi.ensures.1
    (bad_fails small c.in_err-left-in-Quasi.field-0.0 c.args.form.now.place (term_in c.args.world.now.entries c.args.left c.args.bound.now.names c.args.form.now) c.in_err-left-in-Quasi.ensures.1 (term_quasi_none c.args.world.now.entries c.args.left c.args.bound.now.names c.args.form.now c.in_err-left-in-Quasi.ensures.0 _ (lent_is c.lend.ensures.lent c.in-Quasi.is)))

pub part-returns-in_err-left-in-List : goal.part-returns-in_err-left-in-List
part-returns-in_err-left-in-List t c =
    gives_err c.from_residual-in_err-left-in-List.result c.in_err-left-in-List.field-0.0 _ c.from_residual-in_err-left-in-List.ensures.1
    (bad_fails small c.in_err-left-in-List.field-0.0 c.args.form.now.place (part_in c.args.world.now.entries c.args.left c.args.bound.now.names c.args.form.now) c.in_err-left-in-List.ensures.1 (part_list_none c.args.world.now.entries c.args.left c.args.bound.now.names c.args.form.now c.in_err-left-in-List.ensures.0 _ (lent_is c.lend.ensures.lent c.in-List.is)))

pub part-returns-in_err-left-in-Quoted : goal.part-returns-in_err-left-in-Quoted
part-returns-in_err-left-in-Quoted t c =
    gives_err c.from_residual-in_err-left-in-Quoted.result c.in_err-left-in-Quoted.field-0.0 _ c.from_residual-in_err-left-in-Quoted.ensures.1
    (bad_fails small c.in_err-left-in-Quoted.field-0.0 c.args.form.now.place (part_in c.args.world.now.entries c.args.left c.args.bound.now.names c.args.form.now) c.in_err-left-in-Quoted.ensures.1 (part_quoted_none c.args.world.now.entries c.args.left c.args.bound.now.names c.args.form.now c.in_err-left-in-Quoted.ensures.0 _ (lent_is c.lend.ensures.lent c.in-Quoted.is)))

pub part-returns-in_err-left-in-Comma : goal.part-returns-in_err-left-in-Comma
part-returns-in_err-left-in-Comma t c =
    gives_err c.from_residual-in_err-left-in-Comma.result c.in_err-left-in-Comma.field-0.0 _ c.from_residual-in_err-left-in-Comma.ensures.1
    (bad_fails small c.in_err-left-in-Comma.field-0.0 c.args.form.now.place (part_in c.args.world.now.entries c.args.left c.args.bound.now.names c.args.form.now) c.in_err-left-in-Comma.ensures.1 (part_comma_none c.args.world.now.entries c.args.left c.args.bound.now.names c.args.form.now c.in_err-left-in-Comma.ensures.0 _ (lent_is c.lend.ensures.lent c.in-Comma.is)))

pub piece-returns-in_err-left-in-CommaAt : goal.piece-returns-in_err-left-in-CommaAt
piece-returns-in_err-left-in-CommaAt t c =
    gives_err c.from_residual.result c.in_err-left-in-CommaAt.field-0.0 _ c.from_residual.ensures.1
    (bad_fails small_piece c.in_err-left-in-CommaAt.field-0.0 c.args.form.now.place (piece_in c.args.world.now.entries c.args.left c.args.bound.now.names c.args.form.now) c.in_err-left-in-CommaAt.ensures.1 (piece_splice_none c.args.world.now.entries c.args.left c.args.bound.now.names c.args.form.now c.in_err-left-in-CommaAt.ensures.0 _ (lent_is c.lend.ensures.lent c.in-CommaAt.is)))

pub term-returns-in_err-asked-in-List : goal.term-returns-in_err-asked-in-List
term-returns-in_err-asked-in-List t c =
    gives_err c.from_residual-in_err-asked-in-List.result c.in_err-asked-in-List.field-0.0 _ c.from_residual-in_err-asked-in-List.ensures.1
    (same_fails c.in_err-asked-in-List.field-0.0 _ _ (ap (capped small) (term_list c.args.world.now.entries c.args.left c.args.bound.now.names c.args.form.now c.in_ok-left-in-List.left c.in_ok-left-in-List.ensures _ (lent_is c.lend.ensures.lent c.in-List.is)))
    (capped_fails small c.in_err-asked-in-List.field-0.0 _ (then_fails c.in_err-asked-in-List.field-0.0 _ (plan_term (level c.args.world.now.entries c.in_ok-left-in-List.left) c.args.bound.now.names c.args.form.now.place) c.in_err-asked-in-List.ensures)))

pub term-plan_term-requires : goal.term-plan_term-requires
term-plan_term-requires t c = (search rules, admitted c.args.world.now.entries (planned c.in_ok-asked-in-List.asked) (sensible c.args.world.now.entries (planned c.in_ok-asked-in-List.asked) c.args.form.now.place _ c.in_ok-asked-in-List.ensures))

pub part-returns-in_err-pieces-in-List : goal.part-returns-in_err-pieces-in-List
part-returns-in_err-pieces-in-List t c =
    gives_err c.from_residual-in_err-pieces-in-List.result c.in_err-pieces-in-List.field-0.0 _ c.from_residual-in_err-pieces-in-List.ensures.1
    (same_fails c.in_err-pieces-in-List.field-0.0 _ _ (ap (capped small) (part_list c.args.world.now.entries c.args.left c.args.bound.now.names c.args.form.now c.in_ok-left-in-List.left c.in_ok-left-in-List.ensures _ (lent_is c.lend.ensures.lent c.in-List.is)))
    (capped_fails small c.in_err-pieces-in-List.field-0.0 _ (then_fails c.in_err-pieces-in-List.field-0.0 _ (λ xs. Ok (pieced xs)) (fails_capped few_pieces c.in_err-pieces-in-List.field-0.0 _ c.in_err-pieces-in-List.ensures))))

pub part-returns-in_ok-found-in-List : goal.part-returns-in_ok-found-in-List
part-returns-in_ok-found-in-List t c =
    ap (capped small) (part_list c.args.world.now.entries c.args.left c.args.bound.now.names c.args.form.now c.in_ok-left-in-List.left c.in_ok-left-in-List.ensures _ (lent_is c.lend.ensures.lent c.in-List.is))
    ∙ list_pieced (each (piece_in c.args.world.now.entries c.in_ok-left-in-List.left c.args.bound.now.names) _) c.in_ok-pieces-in-List.pieces c.in_ok-found-in-List.found c.in_ok-pieces-in-List.ensures c.in_ok-found-in-List.ensures

pub part-returns-in_err-piece-in-Quoted : goal.part-returns-in_err-piece-in-Quoted
part-returns-in_err-piece-in-Quoted t c =
    gives_err c.from_residual-in_err-piece-in-Quoted.result c.in_err-piece-in-Quoted.field-0.0 _ c.from_residual-in_err-piece-in-Quoted.ensures.1
    (same_fails c.in_err-piece-in-Quoted.field-0.0 _ _ (ap (capped small) (part_quoted c.args.world.now.entries c.args.left c.args.bound.now.names c.args.form.now c.in_ok-left-in-Quoted.left c.in_ok-left-in-Quoted.ensures _ (lent_is c.lend.ensures.lent c.in-Quoted.is)))
    (capped_fails small c.in_err-piece-in-Quoted.field-0.0 _ (then_fails c.in_err-piece-in-Quoted.field-0.0 _ (λ x. Ok (quote_pieced x)) (fails_capped small_piece c.in_err-piece-in-Quoted.field-0.0 _ c.in_err-piece-in-Quoted.ensures))))

pub part-returns-in_ok-found-in-Quoted : goal.part-returns-in_ok-found-in-Quoted
part-returns-in_ok-found-in-Quoted t c =
    ap (capped small) (part_quoted c.args.world.now.entries c.args.left c.args.bound.now.names c.args.form.now c.in_ok-left-in-Quoted.left c.in_ok-left-in-Quoted.ensures _ (lent_is c.lend.ensures.lent c.in-Quoted.is))
    ∙ one_pieced (piece_in c.args.world.now.entries c.in_ok-left-in-Quoted.left c.args.bound.now.names _) c.in_ok-piece-in-Quoted.piece c.in_ok-found-in-Quoted.found c.in_ok-piece-in-Quoted.ensures c.in_ok-found-in-Quoted.ensures

pub piece-returns-in_err-found-in-CommaAt : goal.piece-returns-in_err-found-in-CommaAt
piece-returns-in_err-found-in-CommaAt t c =
    gives_err c.from_residual-in_err-found-in-CommaAt.result c.in_err-found-in-CommaAt.field-0.0 _ c.from_residual-in_err-found-in-CommaAt.ensures.1
    (same_fails c.in_err-found-in-CommaAt.field-0.0 _ _ (ap (capped small_piece) (piece_splice c.args.world.now.entries c.args.left c.args.bound.now.names c.args.form.now c.in_ok-left-in-CommaAt.left c.in_ok-left-in-CommaAt.ensures _ (lent_is c.lend.ensures.lent c.in-CommaAt.is)))
    (capped_fails small_piece c.in_err-found-in-CommaAt.field-0.0 _ (then_fails c.in_err-found-in-CommaAt.field-0.0 _ (λ u. Ok (record { spliced = true; term = u })) (fails_capped small c.in_err-found-in-CommaAt.field-0.0 _ c.in_err-found-in-CommaAt.ensures))))

pub piece-returns-in_ok-found-in-CommaAt : goal.piece-returns-in_ok-found-in-CommaAt
piece-returns-in_ok-found-in-CommaAt t c =
    ap (capped small_piece) (piece_splice c.args.world.now.entries c.args.left c.args.bound.now.names c.args.form.now c.in_ok-left-in-CommaAt.left c.in_ok-left-in-CommaAt.ensures _ (lent_is c.lend.ensures.lent c.in-CommaAt.is))
    ∙ piece_kept true (term_in c.args.world.now.entries c.in_ok-left-in-CommaAt.left c.args.bound.now.names _) c.in_ok-found-in-CommaAt.found c.in_ok-found-in-CommaAt.ensures ∙ ap Ok (sym c.as_piece.ensures)

pub terms-loop-form-preserved : goal.terms-loop-form-preserved
terms-loop-form-preserved t c =
    let forms = c.args.forms.now in
    let i = c.loop-form.form-index in
    let f = c.form-item.result in
    record {
      told = next term_size term_size (λ a. omega arith) (term_in c.args.world.now.entries c.args.left c.args.bound.now.names) forms i f (row_terms c.loop-form.out) (capped few (each (term_in c.args.world.now.entries c.args.left c.args.bound.now.names) forms))
          (at_form forms i f c.loop-form-test.true c.form-item.is) c.loop-form.invariant.told (row_terms c.in_ok-out.out) c.in_ok-next.next c.in_ok-next.ensures c.in_ok-out.ensures.value;
      counted = c.in_ok-out.ensures.counted;
    }

pub pieces-loop-item-preserved : goal.pieces-loop-item-preserved
pieces-loop-item-preserved t c =
    let items = c.args.items.now in
    let i = c.loop-item.item-index in
    let f = c.item-item.result in
    record {
      told = next piece_size piece_size (λ a. omega arith) (piece_in c.args.world.now.entries c.args.left c.args.bound.now.names) items i f (list_pieces c.loop-item.out) (capped few_pieces (each (piece_in c.args.world.now.entries c.args.left c.args.bound.now.names) items))
          (at_form items i f c.loop-item-test.true c.item-item.is) c.loop-item.invariant.told (list_pieces c.in_ok-out.out) c.in_ok-next.next c.in_ok-next.ensures c.in_ok-out.ensures.value;
      counted = c.in_ok-out.ensures.counted;
    }

pub actuals-loop-form-preserved : goal.actuals-loop-form-preserved
actuals-loop-form-preserved t c =
    let forms = c.args.forms.now in
    let i = c.loop-form.form-index in
    let f = c.form-item.result in
    small_next (term_in c.args.world.now.entries c.args.left c.args.bound.now.names) forms i f c.loop-form.out (each_small (each (term_in c.args.world.now.entries c.args.left c.args.bound.now.names) forms))
    (at_form forms i f c.loop-form-test.true c.form-item.is) c.loop-form.invariant c.in_ok-next.next c.push.new.self c.in_ok-next.ensures c.in_ok-push.ensures.ok

pub bindings-loop-form-preserved : goal.bindings-loop-form-preserved
bindings-loop-form-preserved t c =
    let forms = c.args.forms.now in
    let i = c.loop-form.form-index in
    let f = c.form-item.result in
    let xs = c.loop-form.names in
    let r : List Symbol → Form → Answer Term = λ before. term_in c.args.world.now.entries c.args.left (scope_of c.args.in_turn c.args.bound.now.names before) in
    let x = bind_seen c.in-Some.found in
    let v = c.in_ok-name-2.name in
    record {
      told = bound_next r c.args.place forms i f xs c.loop-form.terms (kept_bindings (bindings r c.args.place [] forms)) (at_form forms i f c.loop-form-test.true c.form-item.is) c.loop-form.invariant.told
          x v c.in_ok-next.next c.push-in-loop-form.new.self c.push.new.self (sym c.in-Some.ensures)
          (ap (variable x.place xs) (sym c.in_ok-name.ensures) ∙ ap (λ ys. variable x.place ys c.in_ok-name.name) (sym c.as_slice.ensures) ∙ c.in_ok-name-2.ensures)
          (ap (λ s. capped small (term_in c.args.world.now.entries c.args.left s x.value)) (sym c.loop-form.invariant.scope) ∙ c.in_ok-next.ensures) c.in_ok-push-2.ensures.ok c.in_ok-push.ensures.ok;
      scope = c.in_ok-widen.ensures ∙ ap (λ s. scope_of c.args.in_turn s (v ∷ [])) c.loop-form.invariant.scope ∙ wider_scope c.args.in_turn c.args.bound.now.names xs v
          ∙ ap (scope_of c.args.in_turn c.args.bound.now.names) (sym c.in_ok-push-2.ensures.ok);
    }

pub bindings-returns-in_err-next : goal.bindings-returns-in_err-next
bindings-returns-in_err-next t c =
    let forms = c.args.forms.now in
    let i = c.loop-form.form-index in
    let f = c.form-item.result in
    let xs = c.loop-form.names in
    let r : List Symbol → Form → Answer Term = λ before. term_in c.args.world.now.entries c.args.left (scope_of c.args.in_turn c.args.bound.now.names before) in
    let x = bind_seen c.in-Some.found in
    let v = c.in_ok-name-2.name in
    let e = c.in_err-next.field-0.0 in
    gives_err c.from_residual-in_err-next.result e _ c.from_residual-in_err-next.ensures.1
    (term_fails r c.args.place forms i f xs c.loop-form.terms (kept_bindings (bindings r c.args.place [] forms)) (at_form forms i f c.loop-form-test.true c.form-item.is) c.loop-form.invariant.told
    x v e (sym c.in-Some.ensures)
    (ap (variable x.place xs) (sym c.in_ok-name.ensures) ∙ ap (λ ys. variable x.place ys c.in_ok-name.name) (sym c.as_slice.ensures) ∙ c.in_ok-name-2.ensures)
    (subst (λ s. Fails e (capped small (term_in c.args.world.now.entries c.args.left s x.value))) c.loop-form.invariant.scope c.in_err-next.ensures))

pub lambda-body_replaced-requires : goal.lambda-body_replaced-requires
lambda-body_replaced-requires t c =
    named_length c.args.place [] c.args.scope.heads.now c.in_ok-names.names c.in_ok-names.ensures ∙ c.requires
    ∙ sym (small_length (term_in c.args.world.now.entries c.args.left c.args.bound.now.names) c.args.forms.now c.in_ok-terms.terms c.in_ok-terms.ensures)

pub lambda-returns : goal.lambda-returns
lambda-returns t c =
    lambda_made c.args.world.now.entries c.args.left c.args.bound.now.names c.args.place (scope_seen c.args.scope) c.args.forms.now c.in_ok-names.names c.in_ok-inner.inner.names c.in_ok-body.body c.in_ok-terms.terms c.in_ok-found.found
    c.in_ok-names.ensures (c.in_ok-inner.ensures ∙ ap (with_bound c.args.bound.now.names) c.as_slice.ensures) c.in_ok-body.ensures c.in_ok-terms.ensures c.in_ok-found.ensures

pub let_term-returns : goal.let_term-returns
let_term-returns t c =
    let_made c.args.world.now.entries c.args.left c.args.bound.now.names c.args.place c.args.in_turn (scope_seen c.args.scope) c.in_ok-names.field-0 c.in_ok-inner.inner.names c.in_ok-body.body c.in_ok-found.found
    c.in_ok-names.ensures (c.in_ok-inner.ensures ∙ ap (with_bound c.args.bound.now.names) c.as_slice.ensures) c.in_ok-body.ensures c.in_ok-found.ensures

pub plan_term-made_of-requires : goal.plan_term-made_of-requires
plan_term-made_of-requires t c =
    enough c.in-Build.maker (term_in c.args.world.now.entries c.args.left c.args.bound.now.names) c.in-Build.forms.now c.in_ok-terms-in-Build.terms (subst (λ x. Admitted (planned x)) c.in-Build.is c.requires) c.in_ok-terms-in-Build.ensures

pub plan_term-returns-in_ok-found-in-Build : goal.plan_term-returns-in_ok-found-in-Build
plan_term-returns-in_ok-found-in-Build t c =
    ap (λ x. capped small (plan_term (level c.args.world.now.entries c.args.left) c.args.bound.now.names c.args.place (planned x))) c.in-Build.is
    ∙ plan_built c.in-Build.maker (term_in c.args.world.now.entries c.args.left c.args.bound.now.names) c.in-Build.forms.now c.in_ok-terms-in-Build.terms c.in_ok-found-in-Build.found
    (subst (λ x. Admitted (planned x)) c.in-Build.is c.requires) c.in_ok-terms-in-Build.ensures c.in_ok-found-in-Build.ensures

pub arms-loop-form-preserved : goal.arms-loop-form-preserved
arms-loop-form-preserved t c = record {
  told = arm_next (term_in c.args.world.now.entries c.args.left c.args.bound.now.names) c.args.place c.args.forms.now c.loop-form.form-index c.form-item.result (list_arms c.loop-form.out)
      (capped small (arms_term (term_in c.args.world.now.entries c.args.left c.args.bound.now.names) c.args.place c.args.forms.now)) (at_form c.args.forms.now c.loop-form.form-index c.form-item.result c.loop-form-test.true c.form-item.is) c.loop-form.invariant.told
      (arm_seen c.in-Some.clause) c.in_ok-next-in-None.next (list_arms c.in_ok-out-in-None.out) (sym c.in-Some.ensures) (sym c.in-None.ensures) c.in_ok-next-in-None.ensures c.in_ok-out-in-None.ensures.value;
  counted = c.in_ok-out-in-None.ensures.counted;
}

pub arms-returns-in_err-next-in-None : goal.arms-returns-in_err-next-in-None
arms-returns-in_err-next-in-None t c =
    gives_err c.from_residual-in_err-next-in-None.result c.in_err-next-in-None.field-0.0 _ c.from_residual-in_err-next-in-None.ensures.1
    (arm_fails (term_in c.args.world.now.entries c.args.left c.args.bound.now.names) c.args.place c.args.forms.now c.loop-form.form-index c.form-item.result (list_arms c.loop-form.out)
    (capped small (arms_term (term_in c.args.world.now.entries c.args.left c.args.bound.now.names) c.args.place c.args.forms.now)) (at_form c.args.forms.now c.loop-form.form-index c.form-item.result c.loop-form-test.true c.form-item.is) c.loop-form.invariant.told
    (arm_seen c.in-Some.clause) c.in_err-next-in-None.field-0.0 (sym c.in-Some.ensures) (sym c.in-None.ensures) c.in_err-next-in-None.ensures)

pub arms-returns-in-Some-last_in : goal.arms-returns-in-Some-last_in
arms-returns-in-Some-last_in t c =
    last_next (term_in c.args.world.now.entries c.args.left c.args.bound.now.names) c.args.place c.args.forms.now c.loop-form.form-index c.form-item.result (list_arms c.loop-form.out)
    (capped small (arms_term (term_in c.args.world.now.entries c.args.left c.args.bound.now.names) c.args.place c.args.forms.now)) (at_form c.args.forms.now c.loop-form.form-index c.form-item.result c.loop-form-test.true c.form-item.is) c.loop-form.invariant.told
    c.in-Some-last_in.value.now c.in_ok-last-in-Some-last_in.last c.in_ok-found-in-Some-last_in.found (sym c.in-Some.ensures ∙ ap Some (last_is (arm_seen c.in-Some.clause) c.in-Some-last_in.value.now c.in-Some-last_in.ensures))
    c.in_ok-last-in-Some-last_in.ensures c.in_ok-found-in-Some-last_in.ensures

pub term-returns-in_ok-asked-in-List : goal.term-returns-in_ok-asked-in-List
term-returns-in_ok-asked-in-List t c =
    gives_same c.plan_term.result _ _
    (ap (capped small) (term_list c.args.world.now.entries c.args.left c.args.bound.now.names c.args.form.now c.in_ok-left-in-List.left c.in_ok-left-in-List.ensures _ (lent_is c.lend.ensures.lent c.in-List.is) ∙ ap (λ r. r >>= plan_term (level c.args.world.now.entries c.in_ok-left-in-List.left) c.args.bound.now.names c.args.form.now.place) c.in_ok-asked-in-List.ensures))
    c.plan_term.ensures

pub term-returns-in_ok-left-in-Quoted : goal.term-returns-in_ok-left-in-Quoted
term-returns-in_ok-left-in-Quoted t c =
    gives_same c.quoted.result _ _
    (ap (capped small) (term_quoted c.args.world.now.entries c.args.left c.args.bound.now.names c.args.form.now c.in_ok-left-in-Quoted.left c.in_ok-left-in-Quoted.ensures _ (lent_is c.lend.ensures.lent c.in-Quoted.is)))
    c.quoted.ensures

pub term-returns-in_ok-left-in-Quasi : goal.term-returns-in_ok-left-in-Quasi
term-returns-in_ok-left-in-Quasi t c =
    gives_same c.part.result _ _
    (ap (capped small) (term_quasi c.args.world.now.entries c.args.left c.args.bound.now.names c.args.form.now c.in_ok-left-in-Quasi.left c.in_ok-left-in-Quasi.ensures _ (lent_is c.lend.ensures.lent c.in-Quasi.is)))
    c.part.ensures

pub part-returns-in_ok-left-in-Comma : goal.part-returns-in_ok-left-in-Comma
part-returns-in_ok-left-in-Comma t c =
    gives_same c.term.result _ _
    (ap (capped small) (part_comma c.args.world.now.entries c.args.left c.args.bound.now.names c.args.form.now c.in_ok-left-in-Comma.left c.in_ok-left-in-Comma.ensures _ (lent_is c.lend.ensures.lent c.in-Comma.is)))
    c.term.ensures

pub plan_term-returns-in-Quotation : goal.plan_term-returns-in-Quotation
plan_term-returns-in-Quotation t c =
    gives_same c.quoted.result _ _
    (ap (λ x. capped small (plan_term (level c.args.world.now.entries c.args.left) c.args.bound.now.names c.args.place (planned x))) c.in-Quotation.is)
    c.quoted.ensures

pub plan_term-returns-in-Arms : goal.plan_term-returns-in-Arms
plan_term-returns-in-Arms t c =
    gives_same c.arms.result _ _
    (ap (λ x. capped small (plan_term (level c.args.world.now.entries c.args.left) c.args.bound.now.names c.args.place (planned x))) c.in-Arms.is)
    c.arms.ensures

pub plan_term-returns-in-Let : goal.plan_term-returns-in-Let
plan_term-returns-in-Let t c =
    gives_same c.let_term.result _ _
    (ap (λ x. capped small (plan_term (level c.args.world.now.entries c.args.left) c.args.bound.now.names c.args.place (planned x))) c.in-Let.is)
    c.let_term.ensures

pub plan_term-returns-in-Lambda : goal.plan_term-returns-in-Lambda
plan_term-returns-in-Lambda t c =
    gives_same c.lambda.result _ _
    (ap (λ x. capped small (plan_term (level c.args.world.now.entries c.args.left) c.args.bound.now.names c.args.place (planned x))) c.in-Lambda.is)
    c.lambda.ensures

pub term-returns-in-Int : goal.term-returns-in-Int
term-returns-in-Int t c =
    let made : c.quote.result ≡ Quote (Int c.in-Int.n) = search rules in
    term_int c.args.world.now.entries c.args.left c.args.bound.now.names c.args.form.now c.in-Int.n c.quote.result (lent_is c.lend.ensures.lent c.in-Int.is) made

pub term-returns-in-Chr : goal.term-returns-in-Chr
term-returns-in-Chr t c =
    term_chr c.args.world.now.entries c.args.left c.args.bound.now.names c.args.form.now _ _ (lent_is c.lend.ensures.lent c.in-Chr.is) c.quote-in-Chr.ensures

pub term-returns-in_ok-string-in-Str : goal.term-returns-in_ok-string-in-Str
term-returns-in_ok-string-in-Str t c =
    term_str c.args.world.now.entries c.args.left c.args.bound.now.names c.args.form.now _ _ _ (lent_is c.lend.ensures.lent c.in-Str.is) c.in_ok-string-in-Str.ensures c.quote-in-Str.ensures

pub part-returns-in-Int : goal.part-returns-in-Int
part-returns-in-Int t c =
    let made : c.quote.result ≡ Quote (Int c.in-Int.n) = search rules in
    part_int c.args.world.now.entries c.args.left c.args.bound.now.names c.args.form.now c.in-Int.n c.quote.result (lent_is c.lend.ensures.lent c.in-Int.is) made

pub part-returns-in-Chr : goal.part-returns-in-Chr
part-returns-in-Chr t c =
    part_chr c.args.world.now.entries c.args.left c.args.bound.now.names c.args.form.now _ _ (lent_is c.lend.ensures.lent c.in-Chr.is) c.quote-in-Chr.ensures

pub part-returns-in_ok-string-in-Str : goal.part-returns-in_ok-string-in-Str
part-returns-in_ok-string-in-Str t c =
    part_str c.args.world.now.entries c.args.left c.args.bound.now.names c.args.form.now _ _ _ (lent_is c.lend.ensures.lent c.in-Str.is) c.in_ok-string-in-Str.ensures c.quote-in-Str.ensures

pub part-returns-in_ok-copy_symbol-in-Sym : goal.part-returns-in_ok-copy_symbol-in-Sym
part-returns-in_ok-copy_symbol-in-Sym t c =
    part_symbol c.args.world.now.entries c.args.left c.args.bound.now.names c.args.form.now _ _ _ (lent_is c.lend.ensures.lent c.in-Sym.is) c.in_ok-copy_symbol-in-Sym.ensures c.quote-in-Sym.ensures

pub plan_term-returns-in_ok-nil_term-in-Empty : goal.plan_term-returns-in_ok-nil_term-in-Empty
plan_term-returns-in_ok-nil_term-in-Empty t c =
    plan_none (level c.args.world.now.entries c.args.left) c.args.bound.now.names c.args.place (planned c.args.asked) _ (ap planned c.in-Empty.is) c.in_ok-nil_term-in-Empty.ensures
