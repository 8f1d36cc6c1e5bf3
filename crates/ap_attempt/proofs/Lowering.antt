-- The rule of the next walk.
use Rattle.std.proofs.Common.{◌≡◌, ℕ, zero, suc, ◌-◌, ◌≤◌, Bool, false, Some, None, arith, refl, ap, subst, sym, ◌∙◌}
use Rattle.std.proofs.Math.Bridge.{le_prop}
use Rattle.ap_walk.specs.declared.rule.Rule.{Rule}
use Rattle.ap_attempt.specs.Attempts.{rule_for, rule_after}

abbrev IsLimit : ℕ → Type 0
IsLimit limit = (1 ≤ limit) × (limit ≤ 200002)

abbrev IsRevert : ℕ → Type 0
IsRevert revert = (2 ≤ revert) × (revert ≤ 100)

abbrev rule_of : Bool → Bool → (revert : ℕ) → IsRevert revert → (limit : ℕ) → IsLimit limit → Rule
rule_of initial otf revert some limit within = record { initial = initial; otf = otf; revert = revert; goal_limit = limit; limited = within; reverting = some }

limit_once : (limit : ℕ) (a b : IsLimit limit) → a ≡ b
limit_once limit = let once : IsProp (IsLimit limit) = hlevel le_prop in once

revert_once : (revert : ℕ) (a b : IsRevert revert) → a ≡ b
revert_once revert = let once : IsProp (IsRevert revert) = hlevel le_prop in once

same_limits : (initial otf : Bool) (r : ℕ) (s : IsRevert r) (m n : ℕ) (a : IsLimit m) (b : IsLimit n) → m ≡ n → rule_of initial otf r s m a ≡ rule_of initial otf r s n b
same_limits initial otf r s m n a b is =
    let P : ℕ → Type 0 = λ k. (c : IsLimit k) → rule_of initial otf r s m a ≡ rule_of initial otf r s k c in
    subst P is (λ c. ap (rule_of initial otf r s m) (limit_once m a c)) b

same_reverts : (initial otf : Bool) (m : ℕ) (a : IsLimit m) (r q : ℕ) (s : IsRevert r) (t : IsRevert q) → r ≡ q → rule_of initial otf r s m a ≡ rule_of initial otf q t m a
same_reverts initial otf m a r q s t is =
    let P : ℕ → Type 0 = λ k. (c : IsRevert k) → rule_of initial otf r s m a ≡ rule_of initial otf k c m a in
    subst P is (λ c. ap (λ x. rule_of initial otf r x m a) (revert_once r s c)) t

-- rules are equal where what they hold is
pub same_rule : (a b : Rule) → a.initial ≡ b.initial → a.otf ≡ b.otf → a.revert ≡ b.revert → a.goal_limit ≡ b.goal_limit → a ≡ b
same_rule a b initial otf revert limit =
    ap (λ i. rule_of i a.otf a.revert a.reverting a.goal_limit a.limited) initial
    ∙ ap (λ o. rule_of b.initial o a.revert a.reverting a.goal_limit a.limited) otf
    ∙ same_reverts b.initial b.otf a.goal_limit a.limited a.revert b.revert a.reverting b.reverting revert
    ∙ same_limits b.initial b.otf b.revert b.reverting a.goal_limit b.goal_limit a.limited b.limited limit

pub rule_for_none : (rule : Rule) (left : ℕ) (within : left ≤ rule.goal_limit) → left ≡ 0 → rule_for rule left within ≡ None
rule_for_none rule zero within is = refl
rule_for_none rule (suc n) within is = absurd (omega arith)

pub rule_for_some : (rule next : Rule) (left : ℕ) (within : left ≤ rule.goal_limit) → next.initial ≡ false → next.otf ≡ rule.otf → next.revert ≡ rule.revert → next.goal_limit ≡ left → Some next ≡ rule_for rule left within
rule_for_some rule next zero within initial otf revert limit = absurd (let some = next.limited.0 in omega arith)
rule_for_some rule next (suc n) within initial otf revert limit = ap Some (same_rule _ _ initial otf revert limit)

some_back : (a b : Rule) → Some a ≡ Some b → a ≡ b
some_back a b is = cc

next_for : (rule next : Rule) (left : ℕ) (within : left ≤ rule.goal_limit) → rule_for rule left within ≡ Some next → (next.initial ≡ false) × (next.goal_limit ≡ left)
next_for rule next zero within is = absurd (cc)
next_for rule next (suc n) within is = let same = some_back _ next is in (ap (λ (r : Rule). r.initial) (sym same), ap (λ (r : Rule). r.goal_limit) (sym same))

-- the rule of the next walk isn't initial, and has the goals that are left
pub next_rule : (rule next : Rule) (goals : ℕ) → rule_after rule goals ≡ Some next → (next.initial ≡ false) × (next.goal_limit ≡ rule.goal_limit - goals)
next_rule rule next goals is = next_for rule next (rule.goal_limit - goals) _ is
