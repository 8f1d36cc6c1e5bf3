-- How many clauses simplification makes: no more than there are steps, but for one alone.
use Rattle.std.proofs.Common.{◌≡◌, ◌≤◌, ℕ, ◌+◌, Bool, true, false, cond, List, [], ◌∷◌, ◌++◌, map, length, length-append, Option, Some, None, option_map, refl, ap, sym, ◌∙◌, arith}
use Rattle.ap_list.specs.Lists.{joined}
use Rattle.ap_term.specs.declared.term.Term.{Term}
use Rattle.ap_term.specs.declared.term.Clause.{Clause}
use Rattle.ap_term.specs.Metered.{Got, after}
use Rattle.ap_kernel.specs.declared.reductions.Inference.{Inference}
use Rattle.ap_kernel.specs.Tidying.{tidied, holds_by_itself}
use Rattle.ap_clausify.specs.Splitting.{settled, settled_all}
use Rattle.ap_clausify.proofs.SplitStands.{split_few}
use Rattle.ap_rewrite.specs.Settings.{Setting}
use Rattle.ap_rewrite.specs.Literals.{rewrite_literals, split_left, simplify_of}
use Rattle.ap_rewrite.proofs.RewritingCosts.{literals_metered}
use Rattle.ap_strategy.specs.Steps.{tidied_clause, first_solved, opened, reduced, is_repeated, unrepeated, simplified}
use Rattle.ap_strategy.specs.Reduced.{first_to}

settled_few : (cs : List Clause) → length (joined (map settled cs)) ≤ length cs
settled_few [] = omega arith
settled_few (c ∷ cs) =
    let a : length (settled c ++ joined (map settled cs)) ≡ length (settled c) + length (joined (map settled cs)) = length-append (settled c) (joined (map settled cs)) in
    let b : length (settled c) ≤ 1 = one (holds_by_itself (tidied c.0)) in
    let d = settled_few cs in
    omega arith
  where
    one : (b : Bool) → length (cond b [] (tidied_clause c ∷ [])) ≤ 1
    one true = omega arith
    one false = omega arith

length_is : (o : Option (List Clause)) (xs ys : List Clause) → o ≡ Some xs → o ≡ Some ys → length xs ≡ length ys
length_is o xs ys h k = let e : Some xs ≡ Some ys = sym h ∙ k in ap length (some_is xs ys e)
  where
    some_is : (xs ys : List Clause) → Some xs ≡ Some ys → xs ≡ ys
    some_is xs ys e = cc

-- rewriting leaves one clause at most, and no more steps than there were
simplify_few : (S : Setting) (n b : ℕ) (c : Clause) (ds : List Clause) (m : ℕ) → simplify_of S n c ≡ Some (ds, m) → n ≤ b → 1 ≤ b → length ds ≤ b
simplify_few S n b c ds m h below one = go (rewrite_literals S [] c.0 n) refl h
  where
    go : (o : Got (Option (List Term))) → rewrite_literals S [] c.0 n ≡ o → after o split_left ≡ Some (ds, m) → length ds ≤ b
    go None q h = cc
    go (Some (None, k)) q h = let e : length {A = Clause} [] ≡ length ds = none_is ds m k h in omega arith
      where
        none_is : (ds : List Clause) (m k : ℕ) → ◌≡◌ {A = Option (List Clause × ℕ)} (Some ([], k)) (Some (ds, m)) → length {A = Clause} [] ≡ length ds
        none_is ds m k e = ap (λ (p : List Clause × ℕ). length p.0) (same ([], k) (ds, m) e)
          where
            same : (x y : List Clause × ℕ) → ◌≡◌ {A = Option (List Clause × ℕ)} (Some x) (Some y) → x ≡ y
            same x y e = cc
    go (Some (Some us, k)) q h =
        let cost = literals_metered S [] c.0 n (Some us) k q in
        let spent : n ≡ k + cost.cost = cost.spent in
        let fits : k ≤ b = omega arith in
        split_few k b (record { 0 = us }) ds m h fits one

opened_few : (S : Setting) (n b : ℕ) (c : Clause) (o : Option Inference) (ds : List Clause) → first_solved c 0 c.0 ≡ o → opened S n c o ≡ Some ds → n ≤ b → 1 ≤ b → length ds ≤ b
opened_few S n b c (Some r) ds q h below one =
    let a : length r.to ≡ 1 = first_to c 0 c.0 r q in
    let e : length r.to ≡ length ds = length_is (Some r.to) r.to ds refl h in
    omega arith
opened_few S n b c None ds q h below one = go (simplify_of S n c) refl h
  where
    go : (o : Option (List Clause × ℕ)) → simplify_of S n c ≡ o → option_map settled_all o ≡ Some ds → length ds ≤ b
    go None q h = cc
    go (Some p) q h =
        let a : length p.0 ≤ b = simplify_few S n b c p.0 p.1 q below one in
        let d = settled_few p.0 in
        let e : length (settled_all p) ≡ length ds = length_is (Some (settled_all p)) (settled_all p) ds refl h in
        omega arith

reduced_few : (S : Setting) (n b : ℕ) (c : Clause) (ds : List Clause) → reduced S n c ≡ Some ds → n ≤ b → 1 ≤ b → length ds ≤ b
reduced_few S n b c ds h below one = go (holds_by_itself (tidied c.0)) h
  where
    go : (x : Bool) → cond x (Some []) (opened S n (tidied_clause c) (first_solved (tidied_clause c) 0 (tidied c.0))) ≡ Some ds → length ds ≤ b
    go true h = let e : length {A = Clause} [] ≡ length ds = length_is (Some []) [] ds refl h in omega arith
    go false h = opened_few S n b (tidied_clause c) (first_solved (tidied_clause c) 0 (tidied c.0)) ds refl h below one

unrepeated_few : (ds cs : List Clause) → length (unrepeated ds cs) ≤ length ds + length cs
unrepeated_few ds [] = omega arith
unrepeated_few ds (c ∷ cs) =
    let a = unrepeated_few (cond (is_repeated ds c) ds (ds ++ c ∷ [])) cs in
    let b = go (is_repeated ds c) in
    omega arith
  where
    go : (b : Bool) → length (cond b ds (ds ++ c ∷ [])) ≤ length ds + 1
    go true = omega arith
    go false = let e = length-append ds (c ∷ []) in omega arith

pub simplified_few : (S : Setting) (n b : ℕ) (c : Clause) (ds : List Clause) → simplified S n c ≡ Some ds → n ≤ b → 1 ≤ b → length ds ≤ b
simplified_few S n b c ds h below one = go (reduced S n c) refl h
  where
    go : (o : Option (List Clause)) → reduced S n c ≡ o → option_map (unrepeated []) o ≡ Some ds → length ds ≤ b
    go None q h = cc
    go (Some es) q h =
        let a = reduced_few S n b c es q below one in
        let d = unrepeated_few [] es in
        let e : length (unrepeated [] es) ≡ length ds = length_is (Some (unrepeated [] es)) (unrepeated [] es) ds refl h in
        omega arith
