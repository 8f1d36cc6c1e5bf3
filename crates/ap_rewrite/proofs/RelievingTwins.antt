-- Hypotheses are relieved alike where what is below does alike.
use Rattle.std.proofs.Common.{◌≡◌, ℕ, suc, ◌+◌, ◌<◌, ◌≤◌, inl, inr, true, cond, nat_lt, Option, None, Some, List, [], ◌∷◌, sym, ap, ◌∙◌, subst, arith}
use Rattle.std.proofs.lemmas.Bool.Decides.{nat_tests}
use Rattle.ap_term.specs.declared.term.Term.{Term}
use Rattle.ap_term.specs.Terms.{subst_of}
use Rattle.ap_world.specs.Shapes.{is_constant}
use Rattle.ap_kernel.specs.declared.objects.Mode.{Mode}
use Rattle.ap_kernel.specs.declared.objects.Mode.TheVariants.{Iff}
use Rattle.ap_term.specs.Metered.{By, known, after}
use Rattle.ap_term.specs.Matching.{Pairs, is_bound}
use Rattle.ap_rewrite.specs.Settings.{Place, Inner, relieving}
use Rattle.ap_rewrite.specs.Relieving.{most_chained, if_so, relieve_one, then_more, relieve}
use Rattle.ap_rewrite.specs.ByCost.{at_chain, Fits}
use Rattle.ap_rewrite.proofs.Twins.{Twin, AtMost, twin_known, twin_after, twin_cond}

-- by at most so many steps the one answers as the other does, within numbers of hypotheses that these can't tell apart
abbrev pub Alike : ℕ → Inner → Inner → Type 0
Alike N r s = (o : Mode) (p : Place) (c : ℕ) (u : Term) (j : ℕ) → j ≤ N → Fits j p.chain c → (r o p u j ≡ s o (at_chain c p) u j) × AtMost j (r o p u j)

fewer : (n j c b : ℕ) → j ≤ n → Fits n c b → Fits j c b
fewer n j c b h (inl e) = inl e
fewer n j c b h (inr k) = let x = k.0 in let y = k.1 in inr (omega arith, omega arith)

one_more : (N j c b : ℕ) → j ≤ N → Fits (suc N) c b → Fits j (c + 1) (b + 1)
one_more N j c b h (inl e) = inl (ap (λ z. z + 1) e)
one_more N j c b h (inr k) = let x = k.0 in let y = k.1 in inr (omega arith, omega arith)

same_test : (N c b : ℕ) → Fits (suc N) c b → nat_lt c most_chained ≡ nat_lt b most_chained
same_test N c b (inl e) = ap (λ z. nat_lt z most_chained) e
same_test N c b (inr k) = yes c k.0 ∙ sym (yes b k.1)
  where
    yes : (z : ℕ) → suc N + z < most_chained → nat_lt z most_chained ≡ true
    yes z h = grind (arith, nat_tests)

module _ (r s : Inner) (N : ℕ) (w : Alike N r s) (p : Place) (c : ℕ) (l : Fits (suc N) p.chain c) where
  relieved_place : (u : Term) → Twin N (r Iff (relieving p) u) (s Iff (relieving (at_chain c p)) u)
  relieved_place u j h = w Iff (relieving p) (c + 1) u j h (one_more N j p.chain c h l)

  twin_one : (h : Term) (q : Pairs) → Twin N (relieve_one r p h q) (relieve_one s (at_chain c p) h q)
  twin_one h q = twin_cond N (is_bound q h) _ _ _ _
      (twin_after N (r Iff (relieving p) (subst_of q h)) (s Iff (relieving (at_chain c p)) (subst_of q h)) (λ h'. known (if_so (is_constant true h') q)) (λ h'. known (if_so (is_constant true h') q))
      (relieved_place (subst_of q h)) (λ h'. twin_known N (if_so (is_constant true h') q)))
      (twin_known N _)

  twin_more : (o : Option Pairs) (f g : Pairs → By (Option Pairs)) → ((q : Pairs) → Twin N (f q) (g q)) → Twin N (then_more o f) (then_more o g)
  twin_more None f g v = twin_known N None
  twin_more (Some q) f g v = v q

  limit : {A : Type 0} (g h z : By A) → Twin N g h → Twin N z z → Twin N (λ n. cond (nat_lt p.chain most_chained) (g n) (z n)) (λ n. cond (nat_lt c most_chained) (h n) (z n))
  limit {A} g h z v y = subst (λ b. Twin N (λ n. cond (nat_lt p.chain most_chained) (g n) (z n)) (λ n. cond b (h n) (z n))) (same_test N p.chain c l) (twin_cond N (nat_lt p.chain most_chained) g z h z v y)

  pub twin_relieve : (hs : List Term) (q : Pairs) → Twin N (relieve r p hs q) (relieve s (at_chain c p) hs q)
  twin_relieve [] q = twin_known N (Some q)
  twin_relieve (h ∷ hs) q =
      limit (λ n. after (relieve_one r p h q n) (λ o. then_more o (relieve r p hs))) (λ n. after (relieve_one s (at_chain c p) h q n) (λ o. then_more o (relieve s (at_chain c p) hs))) (known None)
      (twin_after N (relieve_one r p h q) (relieve_one s (at_chain c p) h q) (λ o. then_more o (relieve r p hs)) (λ o. then_more o (relieve s (at_chain c p) hs))
      (twin_one h q) (λ o. twin_more o (relieve r p hs) (relieve s (at_chain c p) hs) (twin_relieve hs)))
      (twin_known N None)

-- at the same place, as far as these steps can tell
pub same_place : (r s : Inner) (N : ℕ) → Alike N r s → (p : Place) (c : ℕ) → Fits (suc N) p.chain c → (o : Mode) (u : Term) → Twin N (r o p u) (s o (at_chain c p) u)
same_place r s N w p c l o u j h = w o p c u j h (fewer (suc N) j p.chain c (omega arith) l)
