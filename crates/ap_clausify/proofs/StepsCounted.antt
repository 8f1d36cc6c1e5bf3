-- How many steps splitting spends: two for each leaf but one.
use Rattle.std.proofs.Common.{◌≡◌, ℕ, zero, suc, ◌+◌, ◌*◌, ◌<◌, ◌≤◌, List, [], ◌∷◌, ◌++◌, map, length, Option, Some, None, slice_get, refl, ap, sym, ◌∙◌, subst, zero-add, length-append, arith}
use Rattle.std.proofs.Math.Nat.{mul-one, one-mul}
use Rattle.ap_term.specs.declared.term.Term.{Term}
use Rattle.ap_term.specs.declared.term.Clause.{Clause}
use Rattle.ap_world.specs.Clauses.{negate}
use Rattle.ap_kernel.specs.declared.reductions.Inference.{Inference}
use Rattle.ap_kernel.specs.Reductions.{put_at}
use Rattle.ap_kernel.specs.Splits.{and_then, choice_at, with_part, cases_of, literal_split, split_made}
use Rattle.ap_kernel.proofs.Splitting.{then_some, can_split}
use Rattle.ap_clausify.specs.Places.{first_place, or_later, choice_from, first_choice}
use Rattle.ap_clausify.specs.Splitting.{Left, Splitter, before, then_rest, each_split, cases, split_by, split_of}
use Rattle.ap_clausify.specs.Leaves.{product, leaves, clause_leaves}
use Rattle.ap_clausify.proofs.Placed.{stands_from, choice_there}
use Rattle.ap_clausify.proofs.Framed.{untidied, unfolds}
use Rattle.ap_clausify.proofs.LeavesCounted.{all_some_leaves, one_leaf, negate_leaves, product_put, halved}

-- the two cases of a clause, each with the literal replaced
pub record Cases (c : Clause) (i : ℕ) (r : Inference) : Type 0 where
  pub first : List Term
  pub second : List Term
  pub to : r.to ≡ record { 0 = put_at i first c.0 } ∷ record { 0 = put_at i second c.0 } ∷ []
  pub leaves : clause_leaves c ≡ clause_leaves (record { 0 = put_at i first c.0 }) + clause_leaves (record { 0 = put_at i second c.0 })

pub choice_cases : (c : Clause) (i : ℕ) (is : List ℕ) (r : Inference) → first_choice c ≡ Some (i, is) → split_made c i is ≡ Some r → Cases c i r
choice_cases c i is r ch h =
    let (u, at, by_choice) = then_some (slice_get c.0 i) (λ u. and_then (choice_at is u) (literal_split c i is u)) r h in
    let (p, there, by_parts) = then_some (choice_at is u) (literal_split c i is u) r by_choice in
    let (v, first, by_first) = then_some (with_part is p.1 u) (λ v. and_then (with_part is p.2 u) (λ w. Some (cases_of c i p.0 v w))) r by_parts in
    let (w, second, made) = then_some (with_part is p.2 u) (λ w. Some (cases_of c i p.0 v w)) r by_first in
    let same : cases_of c i p.0 v w ≡ r = cc in
    let l = stands_from 0 c.0 (i, is) ch in
    let there_too : slice_get c.0 i ≡ Some l.u = ap (slice_get c.0) (l.at ∙ zero-add l.k) ∙ l.there in
    let literal : l.u ≡ u = cc in
    let place : first_place u ≡ Some is = ap first_place (sym literal) ∙ l.place in
    let (sum, plain) = halved u is p v w place there first second in
    record {
      first = negate p.0 ∷ v ∷ [];
      second = p.0 ∷ w ∷ [];
      to = ap (λ (q : Inference). q.to) (sym same);
      leaves = product_put c.0 i u (negate p.0 ∷ v ∷ []) (p.0 ∷ w ∷ []) at (
          sum ∙ ap (λ n. n + leaves w) (pair_of (negate p.0) v (negate_leaves p.0 ∙ one_leaf p.0 plain)) ∙ ap (λ n. product (map leaves (negate p.0 ∷ v ∷ [])) + n) (pair_of p.0 w (one_leaf p.0 plain))
          );
    }
  where
    pair_of : (a v : Term) → leaves a ≡ 1 → leaves v ≡ product (map leaves (a ∷ v ∷ []))
    pair_of a v e = sym (ap (λ n. n * (leaves v * 1)) e ∙ one-mul (leaves v * 1) ∙ mul-one (leaves v))

pub whole_leaf : (c : Clause) → first_choice c ≡ None → clause_leaves c ≡ 1
whole_leaf c = go 0 c.0
  where
    go : (i : ℕ) (us : List Term) → choice_from i us ≡ None → product (map leaves us) ≡ 1
    go i [] h = refl
    go i (u ∷ us) h = by_place (first_place u) refl h (go (i + 1) us)
      where
        by_place : (o : Option (List ℕ)) → first_place u ≡ o → or_later i o (choice_from (i + 1) us) ≡ None → (choice_from (i + 1) us ≡ None → product (map leaves us) ≡ 1) → leaves u * product (map leaves us) ≡ 1
        by_place None q k more = ap (λ n. n * product (map leaves us)) (one_leaf u q) ∙ one-mul (product (map leaves us)) ∙ more k
        by_place (Some is) q k more = cc

-- what has an `if` is split
pub no_cases : (c : Clause) → cases c ≡ None → first_choice c ≡ None
no_cases c h = go (first_choice c) refl h
  where
    go : (o : Option (ℕ × List ℕ)) → first_choice c ≡ o → and_then o (λ p. split_made c p.0 p.1) ≡ None → first_choice c ≡ None
    go None q k = q
    go (Some p) q k = absurd (can_split c p.0 p.1 (choice_there c p.0 p.1 q) k)

pub record Split (c : Clause) (r : Inference) : Type 0 where
  pub i : ℕ
  pub is : List ℕ
  pub choice : first_choice c ≡ Some (i, is)
  pub cases : Cases c i r

pub some_cases : (c : Clause) (r : Inference) → cases c ≡ Some r → Split c r
some_cases c r h =
    let (p, at, made) = then_some (first_choice c) (λ p. split_made c p.0 p.1) r h in
    record { i = p.0; is = p.1; choice = at; cases = choice_cases c p.0 p.1 r at made }

-- what is left of so many steps for so many leaves: all of these are made, for two steps each but the first
abbrev pub Exact : ℕ → ℕ → Left → Type 0
Exact k n None = n + 2 < 2 * k
Exact k n (Some p) = (p.1 + 2 * k ≡ n + 2) × (length p.0 ≡ k)

abbrev pub IsExact : Splitter → ℕ → Type 0
IsExact s n = (c : Clause) (m : ℕ) → m < n → Exact (clause_leaves c) m (s c m)

two_exact : (s : Splitter) (n : ℕ) → IsExact s n → (c d : Clause) (k : ℕ) → k ≡ clause_leaves c + clause_leaves d → 1 ≤ clause_leaves c → 1 ≤ clause_leaves d → (m : ℕ) → m ≤ n → Exact k m (each_split s (c ∷ d ∷ []) m)
two_exact s n f c d k e p q zero h = omega arith
two_exact s n f c d k e p q (suc m) h = first (s c m) (f c m (omega arith))
  where
    a : ℕ
    a = clause_leaves c

    b : ℕ
    b = clause_leaves d

    last : (cs : List Clause) (l : ℕ) → l + 2 * a ≡ m + 2 → length cs ≡ a → (o : Left) → (y : ℕ) → l ≡ suc y → Exact b y o → Exact k (suc m) (before cs (then_rest o (each_split s [])))
    last cs l g t None y z x = omega arith
    last cs l g t (Some r) y z x =
        let u : length (cs ++ (r.0 ++ [])) ≡ length cs + (length r.0 + 0) = length-append cs (r.0 ++ []) ∙ ap (λ i. length cs + i) (length-append r.0 []) in
        let v = x.0 in
        let w = x.1 in
        (omega arith, u ∙ omega arith)

    rest : (cs : List Clause) (l : ℕ) → l < n → l + 2 * a ≡ m + 2 → length cs ≡ a → Exact k (suc m) (before cs (each_split s (d ∷ []) l))
    rest cs zero x g t = omega arith
    rest cs (suc y) x g t = last cs (suc y) g t (s d y) y refl (f d y (omega arith))

    first : (o : Left) → Exact a m o → Exact k (suc m) (then_rest o (each_split s (d ∷ [])))
    first None g = omega arith
    first (Some r) g = let v = g.0 in rest r.0 r.1 (omega arith) g.0 g.1

exact_by : (n : ℕ) → IsExact untidied n → (c : Clause) (o : Option Inference) → cases c ≡ o → Exact (clause_leaves c) n (split_by untidied c n o)
exact_by n f c None h = let e = whole_leaf c (no_cases c h) in (omega arith, sym e)
exact_by n f c (Some r) h =
    let s = some_cases c r h in
    let x : Clause = record { 0 = put_at s.i s.cases.first c.0 } in
    let y : Clause = record { 0 = put_at s.i s.cases.second c.0 } in
    subst (λ cs. Exact (clause_leaves c) n (each_split untidied cs n)) (sym s.cases.to)
    (two_exact untidied n f x y (clause_leaves c) s.cases.leaves (all_some_leaves x.0) (all_some_leaves y.0) n (omega arith))

-- splitting a clause wholly spends two steps for each leaf but one, and runs out where there are fewer
pub exact : (b n : ℕ) (c : Clause) → n ≤ b → Exact (clause_leaves c) n (split_of n c)
exact zero n c h = subst (Exact (clause_leaves c) n) (sym (unfolds n c)) (exact_by n (λ d m k. absurd (omega arith)) c (cases c) refl)
exact (suc b) n c h = subst (Exact (clause_leaves c) n) (sym (unfolds n c)) (exact_by n (λ d m k. exact b m d (omega arith)) c (cases c) refl)
