use Rattle.std.proofs.Common.{◌≡◌, ◌∙◌, IsTrue, Some, refl, ap, arith}
use Rattle.std.proofs.lemmas.List.{drop_all}
use Rattle.std.proofs.lemmas.Option.{slice_get_read}
use Rattle.ap_term.specs.declared.term.Term.{Term}
use Rattle.ap_world.specs.Sound.{known}
use Rattle.ap_kernel.proofs.Typed.{each_at}
use Rattle.ap_rewrite.specs.declared.rewriter.Tried.TheVariants.{Applied, PassedBy}
use Rattle.ap_rewrite.specs.Answering.{defs_in, inner_of, seen_at}
use Rattle.ap_rewrite.proofs.Arguments.{from_place}
use Rattle.ap_rewrite.proofs.Reliefs.{reliefs_begin, few_around, many_around, too_many, relief_out, relief_none, relief_done, all_relieved}
use Rattle.ap_rewrite.proofs.rules.relieve.Goals as goal

pub loop-h-init : goal.loop-h-init
loop-h-init g c = (reliefs_begin _ _ _ _ _ _ c.new-shown.ensures c.requires.pairs, refl)

pub relieve_one-requires-clause-hyp : goal.relieve_one-requires-clause-hyp
relieve_one-requires-clause-hyp g c =
    each_at (λ (h : Term). IsTrue (known (defs_in c.args.l.now.r.now) h)) c.args.hs.now c.loop-h.h-index c.h-item.result c.requires.hyps
    (slice_get_read c.args.hs.now _ c.loop-h.h-index c.h-item.result refl (omega arith) c.h-item.is)

pub loop-h-preserved : goal.loop-h-preserved
loop-h-preserved g c =
    let there : c.in_ok-relieve_one.field-0 ≡ Some (Applied c.in-Some-Applied.found) = c.in-Some-Applied.is ∙ ap Some c.in-Some-Applied.field-0-is in (
      relief_done _ _ (inner_of c.args.l.now.r.now c.args.l.now.levels) (seen_at c.args.at.now) _ _ _ _ _ _ _ _ _ c.relieve_one.new.steps.left
          (from_place c.args.hs.now c.loop-h.h-index c.h-item.result (omega arith) c.h-item.is) c.loop-h.invariant.0 c.in-Some-Applied.found c.push.new.self (few_around c.args.at.now.chain c.if-at-ge10.false)
          (rw there at c.in_ok-relieve_one.ensures.is) (rw there at c.in_ok-relieve_one.ensures.shown) c.in_ok-push-in-Some-Applied.ensures.ok,
      c.relieve_one.ensures.kept ∙ c.loop-h.invariant.1,
    )

pub returns-then-at-ge10-clause-is : goal.returns-then-at-ge10-clause-is
returns-then-at-ge10-clause-is g c =
    too_many _ _ (inner_of c.args.l.now.r.now c.args.l.now.levels) (seen_at c.args.at.now) _ _ _ _ _ _ _ _ _ 0
    (from_place c.args.hs.now c.loop-h.h-index c.h-item.result (omega arith) c.h-item.is) c.loop-h.invariant.0 (many_around c.args.at.now.chain c.if-at-ge10.true)

pub returns-in-None-clause-is : goal.returns-in-None-clause-is
returns-in-None-clause-is g c =
    relief_out _ _ (inner_of c.args.l.now.r.now c.args.l.now.levels) (seen_at c.args.at.now) _ _ _ _ _ _ _ _ _ c.relieve_one.new.steps.left
    (from_place c.args.hs.now c.loop-h.h-index c.h-item.result (omega arith) c.h-item.is) c.loop-h.invariant.0 (few_around c.args.at.now.chain c.if-at-ge10.false)
    (rw c.in-None.is at c.in_ok-relieve_one.ensures.is)

pub returns-in-Some-PassedBy-clause-is : goal.returns-in-Some-PassedBy-clause-is
returns-in-Some-PassedBy-clause-is g c =
    let there : c.in_ok-relieve_one.field-0 ≡ Some PassedBy = c.in-Some-PassedBy.is ∙ ap Some c.in-Some-PassedBy.field-0-is in
    relief_none _ _ (inner_of c.args.l.now.r.now c.args.l.now.levels) (seen_at c.args.at.now) _ _ _ _ _ _ _ _ _ c.relieve_one.new.steps.left
    (from_place c.args.hs.now c.loop-h.h-index c.h-item.result (omega arith) c.h-item.is) c.loop-h.invariant.0 (few_around c.args.at.now.chain c.if-at-ge10.false)
    (rw there at c.in_ok-relieve_one.ensures.is)

pub returns-clause-is : goal.returns-clause-is
returns-clause-is g c =
    (all_relieved _ _ (inner_of c.args.l.now.r.now c.args.l.now.levels) (seen_at c.args.at.now) _ _ _ _ (record { pairs = c.loop-h.pairs; shown = c.loop-h.shown }) c.loop-h.steps.left
    (drop_all c.loop-h.h-index c.args.hs.now (omega arith)) c.loop-h.invariant.0).0

pub returns-clause-shown : goal.returns-clause-shown
returns-clause-shown g c =
    (all_relieved _ _ (inner_of c.args.l.now.r.now c.args.l.now.levels) (seen_at c.args.at.now) _ _ _ _ (record { pairs = c.loop-h.pairs; shown = c.loop-h.shown }) c.loop-h.steps.left
    (drop_all c.loop-h.h-index c.args.hs.now (omega arith)) c.loop-h.invariant.0).1
