use Rattle.std.proofs.Common.{◌≡◌, ◌<◌, Some, length, slice_get, refl, subst, rules}
use Rattle.std.proofs.lemmas.Option.{slice_get_read}
use Rattle.ap_world.specs.Facts.{Facts}
use Rattle.ap_kernel.proofs.Reasoned.{more_given, facts_given}
use Rattle.ap_rewrite.specs.Answering.{setting_of}
use Rattle.ap_rewrite.proofs.Arguments.{from_place}
use Rattle.ap_rewrite.proofs.Begun.{facts_next}
use Rattle.ap_rewrite.proofs.RuleReasons.{begun_given}
use Rattle.ap_rewrite.proofs.bounding.given.Goals as goal

pub loop-i-init : goal.loop-i-init
loop-i-init g c = (search rules, begun_given c.args.r.now.w.now c.args.ctx.now c.args.t.now c.args.sign _ _ _ (search rules) c.requires.none (search rules))

pub loop-i-preserved : goal.loop-i-preserved
loop-i-preserved g c =
    let within : c.loop-i.i < length c.facts-facts.result.now = search rules in
    let there : slice_get c.args.ctx.now.0 c.loop-i.i ≡ Some c.index-facts-i.result =
    subst (λ (fs : Facts). slice_get fs c.loop-i.i ≡ Some c.index-facts-i.result) c.facts-facts.ensures (slice_get_read c.facts-facts.result.now _ c.loop-i.i c.index-facts-i.result refl within c.index-facts-i.is) in (
      facts_next (setting_of c.args.r.now) c.facts-facts.result.now c.loop-i.i c.index-facts-i.result _ c.in_ok-more.more _ _
          (from_place c.facts-facts.result.now c.loop-i.i c.index-facts-i.result within c.index-facts-i.is) (search rules) (search rules) c.loop-i.invariant.0,
      more_given c.args.r.now.w.now c.args.ctx.now c.args.t.now c.args.sign _ c.in_ok-more.more _ _ _ _
          (facts_given c.args.r.now.w.now c.args.ctx.now c.args.t.now c.args.sign c.loop-i.i c.index-facts-i.result c.in_ok-more.more there (search rules))
          (search rules) (search rules) c.loop-i.invariant.1,
    )
