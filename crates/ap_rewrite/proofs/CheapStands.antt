-- By no more steps than levels it doesn't matter how many levels there are.
use Rattle.std.proofs.Common.{◌≡◌, ℕ, zero, suc, ◌+◌, ◌-◌, ◌≤◌, Some, refl, sym, ap, ◌∙◌, arith}
use Rattle.ap_world.specs.Shapes.{shape_of}
use Rattle.ap_rewrite.specs.Settings.{Setting}
use Rattle.ap_rewrite.specs.Rewriting.{rewrite_to}
use Rattle.ap_rewrite.specs.ByCost.{at_chain, charged}
use Rattle.ap_rewrite.specs.Laws.{HitIsExact, StepsBoundLimits, CheapHitIsExact}
use Rattle.ap_rewrite.proofs.Exact.{exact}
use Rattle.ap_rewrite.proofs.RewritingCosts.{metered}
use Rattle.ap_rewrite.proofs.Twins.{more_left}
use Rattle.ap_rewrite.proofs.RelievingTwins.{Alike}
use Rattle.ap_rewrite.proofs.RewritingTwins.{twin_shape}

alike : (S : Setting) (d e N : ℕ) → N ≤ d → N ≤ e → Alike N (rewrite_to S d) (rewrite_to S e)
unfolding rewrite_to
alike S zero zero N h k o p c u zero i f = (refl, tt)
alike S zero zero N h k o p c u (suc j) i f = absurd (omega arith)
alike S zero (suc e) N h k o p c u zero i f = (refl, tt)
alike S zero (suc e) N h k o p c u (suc j) i f = absurd (omega arith)
alike S (suc d) zero N h k o p c u zero i f = (refl, tt)
alike S (suc d) zero N h k o p c u (suc j) i f = absurd (omega arith)
alike S (suc d) (suc e) N h k o p c u zero i f = (refl, tt)
alike S (suc d) (suc e) N h k o p c u (suc j) i f =
    let t = twin_shape S (rewrite_to S d) (rewrite_to S e) j (alike S d e j (omega arith) (omega arith)) c o p f u (shape_of u) j (omega arith) in
    (t.0, more_left j (suc j) _ (omega arith) t.1)

pub steps_bound : StepsBoundLimits
steps_bound S d e n h k o p c f u = (alike S d e n h k o p c u n (omega arith) f).0

-- what is left where just the cost is there
pub cheap_exact : CheapHitIsExact
cheap_exact S d e o p c u n v m i h k f j =
    let x = metered S d o p u n v m i in
    let s : n ≡ m + x.cost = x.spent in
    let z : n - m ≡ 0 + x.cost = omega arith in
    let here : rewrite_to S d o p u (n - m) ≡ Some (v, 0) = ap (rewrite_to S d o p u) z ∙ x.more 0 in
    let there : rewrite_to S e o (at_chain c p) u (n - m) ≡ Some (v, 0) = sym (steps_bound S d e (n - m) h k o p c f u) ∙ here in
    let y : (n - m) - 0 ≡ n - m = omega arith in
    exact (rewrite_to S e o (at_chain c p) u) v (metered S e o (at_chain c p) u) (n - m) 0 there j ∙ ap (λ w. charged v w j) y

pub hit_exact : HitIsExact
hit_exact S d o p u n v m i j = exact (rewrite_to S d o p u) v (metered S d o p u) n m i j
