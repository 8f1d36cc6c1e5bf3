-- A cost tells the answer by every number of steps.
use Rattle.std.proofs.Common.{◌≡◌, ℕ, ◌+◌, ◌-◌, ◌<◌, ◌≤◌, Bool, true, false, cond, nat_le, None, Some, refl, ap, ◌∙◌, arith}
use Rattle.std.proofs.lemmas.Bool.Decides.{nat_tests}
use Rattle.ap_term.specs.Metered.{By}
use Rattle.ap_rewrite.specs.Costs.{Metered}
use Rattle.ap_rewrite.specs.ByCost.{charged}

module _ {A : Type 0} (g : By A) (a : A) where
  -- where the steps are enough, and where they are too few
  by_cost : (cost : ℕ) → ((j : ℕ) → g (j + cost) ≡ Some (a, j)) → ((j : ℕ) → j < cost → g j ≡ None) → (j : ℕ) → g j ≡ charged a cost j
  by_cost cost more less j = go (nat_le cost j) refl
    where
      go : (b : Bool) → nat_le cost j ≡ b → g j ≡ cond b (Some (a, j - cost)) None
      go true e = let k : cost ≤ j = grind (arith, nat_tests) in let z : j ≡ (j - cost) + cost = omega arith in ap g z ∙ more (j - cost)
      go false e = let k : j < cost = grind (arith, nat_tests) in less j k

  pub exact : Metered g → (n m : ℕ) → g n ≡ Some (a, m) → (j : ℕ) → g j ≡ charged a (n - m) j
  exact h n m e j =
      let c = h n a m e in
      let k : c.cost ≡ n - m = let s : n ≡ m + c.cost = c.spent in omega arith in
      by_cost c.cost c.more c.less j ∙ ap (λ z. charged a z j) k
