use Rattle.std.proofs.Common.{◌≡◌, ◌+◌, ◌*◌, [], drop, IfSome}
use Rattle.ap_term.specs.Terms.{term_size}
use Rattle.ap_translate.specs.Answers.{each}
use Rattle.ap_translate.specs.Sizes.{small, few, capped, row_terms, IsCounted}
use Rattle.ap_translate.specs.Kept.{piece_size, few_pieces, list_pieces, ArePieces, list_arms, AreArms, kept_bindings, each_small}
use Rattle.ap_translate.specs.Table.{scope_of, bindings, arms_term, term_in, piece_in}
use Rattle.ap_translate.proofs.Kept.{onto}
use Rattle.ap_translate.proofs.Clauses.{armed_onto}
use Rattle.ap_translate.proofs.Bindings.{bound_onto, small_onto}
use Rattle.ap_translate.proofs.table.+translating.Given as goal

-- the terms so far, before those of the forms that are left, are all
abbrev pub invariant-terms-loop-form : goal.invariant-terms-loop-form
invariant-terms-loop-form l = record {
  told : onto term_size (row_terms l.out) (each (term_in l.world.entries l.left l.bound.names) (drop l.form-index l.forms))
      ≡ capped few (each (term_in l.world.entries l.left l.bound.names) l.forms);
  counted : IfSome l.out IsCounted;
}

abbrev pub invariant-pieces-loop-item : goal.invariant-pieces-loop-item
invariant-pieces-loop-item l = record {
  told : onto piece_size (list_pieces l.out) (each (piece_in l.world.entries l.left l.bound.names) (drop l.item-index l.items))
      ≡ capped few_pieces (each (piece_in l.world.entries l.left l.bound.names) l.items);
  counted : IfSome l.out ArePieces;
}

abbrev pub invariant-actuals-loop-form : goal.invariant-actuals-loop-form
invariant-actuals-loop-form l =
    small_onto l.out (each (term_in l.world.entries l.left l.bound.names) (drop l.form-index l.forms))
    ≡ each_small (each (term_in l.world.entries l.left l.bound.names) l.forms)

abbrev pub invariant-arms-loop-form : goal.invariant-arms-loop-form
invariant-arms-loop-form l = record {
  told : armed_onto (list_arms l.out) (arms_term (term_in l.world.entries l.left l.bound.names) l.place (drop l.form-index l.forms))
      ≡ capped small (arms_term (term_in l.world.entries l.left l.bound.names) l.place l.forms);
  counted : IfSome l.out AreArms;
}

abbrev pub invariant-bindings-loop-form : goal.invariant-bindings-loop-form
invariant-bindings-loop-form l = record {
  told : bound_onto l.names l.terms (bindings (λ before. term_in l.world.entries l.left (scope_of l.in_turn l.bound.names before)) l.place l.names (drop l.form-index l.forms))
      ≡ kept_bindings (bindings (λ before. term_in l.world.entries l.left (scope_of l.in_turn l.bound.names before)) l.place [] l.forms);
  scope : l.scope.names ≡ scope_of l.in_turn l.bound.names l.names;
}

-- a list or a mark takes one nesting; else what reads parts stands above them
abbrev pub decreases-term : goal.decreases-term
decreases-term l = 8 * l.left + 3

abbrev pub decreases-part : goal.decreases-part
decreases-part l = 8 * l.left + 3

abbrev pub decreases-piece : goal.decreases-piece
decreases-piece l = 8 * l.left + 4

abbrev pub decreases-pieces : goal.decreases-pieces
decreases-pieces l = 8 * l.left + 5

abbrev pub decreases-terms : goal.decreases-terms
decreases-terms l = 8 * l.left + 4

abbrev pub decreases-arm : goal.decreases-arm
decreases-arm l = 8 * l.left + 4

abbrev pub decreases-arms : goal.decreases-arms
decreases-arms l = 8 * l.left + 5

abbrev pub decreases-actuals : goal.decreases-actuals
decreases-actuals l = 8 * l.left + 4

abbrev pub decreases-bindings : goal.decreases-bindings
decreases-bindings l = 8 * l.left + 4

abbrev pub decreases-let_term : goal.decreases-let_term
decreases-let_term l = 8 * l.left + 5

abbrev pub decreases-lambda : goal.decreases-lambda
decreases-lambda l = 8 * l.left + 5

abbrev pub decreases-plan_term : goal.decreases-plan_term
decreases-plan_term l = 8 * l.left + 6
