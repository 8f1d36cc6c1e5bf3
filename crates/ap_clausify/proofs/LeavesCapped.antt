-- Leaves counted as far as 32 bits hold them.
use Rattle.std.proofs.Common.{◌≡◌, ℕ, ◌+◌, ◌*◌, ◌<◌, ◌≤◌, min, zero, suc, List, [], ◌∷◌, map, length, drop, get_or, ◌⊎◌, inl, inr, refl, ap, sym, ◌∙◌, add-one, drop-cons, arith}
use Rattle.std.proofs.Math.Nat.{mul-one, one-mul, mul_assoc}
use Rattle.std.proofs.lemmas.Nat.{mul-le}
use Rattle.std.proofs.lemmas.Bool.{cases_lt}
use Rattle.ap_term.specs.declared.term.Term.{Term}
use Rattle.ap_term.proofs.LeavesCapped.{leaves_some}
use Rattle.ap_clausify.specs.Leaves.{product, leaves, capped}
use Rattle.ap_clausify.proofs.LeavesCounted.{all_some_leaves}

-- products of what is capped
pub capped_product : (limit a b : ℕ) → 1 ≤ limit → 1 ≤ a → 1 ≤ b → capped limit (capped limit a * capped limit b) ≡ capped limit (a * b)
capped_product limit a b l h k = go (cases_lt limit a) (cases_lt limit b)
  where
    past : (x y : ℕ) → limit * 1 ≤ x → limit * 1 ≤ y → capped limit x ≡ capped limit y
    past x y p q = let e = mul-one limit in omega arith

    some : (x : ℕ) → 1 ≤ x → 1 ≤ capped limit x
    some x p = omega arith

    all : (x : ℕ) → limit < x → limit ≤ capped limit x
    all x p = omega arith

    same : (x : ℕ) → x ≤ limit → capped limit x ≡ x
    same x p = omega arith

    turned : (x y : ℕ) → 1 * limit ≤ x → 1 * limit ≤ y → capped limit x ≡ capped limit y
    turned x y p q = let e = one-mul limit in omega arith

    go : (limit < a) ⊎ (a ≤ limit) → (limit < b) ⊎ (b ≤ limit) → capped limit (capped limit a * capped limit b) ≡ capped limit (a * b)
    go (inl p) q = past (capped limit a * capped limit b) (a * b) (mul-le limit 1 (capped limit a) (capped limit b) (all a p) (some b k)) (mul-le limit 1 a b (omega arith) k)
    go (inr p) (inl q) = turned (capped limit a * capped limit b) (a * b) (mul-le 1 limit (capped limit a) (capped limit b) (some a h) (all b q)) (mul-le 1 limit a b h (omega arith))
    go (inr p) (inr q) = ap (capped limit) (ap (λ n. n * capped limit b) (same a p) ∙ ap (λ n. a * n) (same b q))

-- cut at 32 bits first
pub cut : (limit p s n : ℕ) → limit ≤ 4294967295 → s ≡ min p 4294967295 → n ≡ min s limit → n ≡ capped limit p
cut limit p s n f h k = omega arith

-- the next one of a list, and the end
half : (limit a b : ℕ) → 1 ≤ limit → 1 ≤ a → 1 ≤ b → capped limit (capped limit a * b) ≡ capped limit (a * b)
half limit a b o h k = sym (capped_product limit (capped limit a) b o (omega arith) k) ∙ ap (λ m. capped limit (m * capped limit b)) (twice a) ∙ capped_product limit a b o h k
  where
    twice : (m : ℕ) → capped limit (capped limit m) ≡ capped limit m
    twice m = omega arith

pub next_capped : (limit : ℕ) (ts : List Term) (i all x s n : ℕ) (t : Term) → 1 ≤ limit → limit ≤ 4294967295 → i < length ts → t ≡ get_or ts i t → 1 ≤ all → all ≤ limit → x ≡ capped limit (leaves t) → s ≡ min (all * x) 4294967295 → n ≡ min s limit
    → capped limit (all * product (map leaves (drop i ts))) ≡ capped limit (product (map leaves ts)) → capped limit (n * product (map leaves (drop (i + 1) ts))) ≡ capped limit (product (map leaves ts))
next_capped limit ts i all x s n t o wide within at some fits hx hs hn so_far =
    let rest = drop (i + 1) ts in
    let p = product (map leaves rest) in
    let same : all ≡ capped limit all = omega arith in
    let next : drop i ts ≡ t ∷ rest = drop-cons ts i t within ∙ ap (λ u. u ∷ drop (suc i) ts) (sym at) ∙ ap (λ k. t ∷ drop k ts) (sym (add-one i)) in
    let made : n ≡ capped limit (all * leaves t) = cut limit (all * x) s n wide hs hn ∙ ap (λ k. capped limit (k * x)) same ∙ ap (λ k. capped limit (capped limit all * k)) hx ∙ capped_product limit all (leaves t) o some (leaves_some t) in
    let one : 1 ≤ all * leaves t = mul-le 1 1 all (leaves t) some (leaves_some t) in
    ap (λ k. capped limit (k * p)) made ∙ half limit (all * leaves t) p o one (all_some_leaves rest) ∙ ap (capped limit) (mul_assoc all (leaves t) p) ∙ ap (λ us. capped limit (all * product (map leaves us))) (sym next) ∙ so_far

pub next_some : (limit all x s n : ℕ) (t : Term) → 1 ≤ limit → 1 ≤ all → x ≡ capped limit (leaves t) → s ≡ min (all * x) 4294967295 → n ≡ min s limit → (1 ≤ n) × (n ≤ limit)
next_some limit all x s n t o some hx hs hn =
    let l = leaves_some t in
    let one : 1 ≤ x = omega arith in
    let both : 1 ≤ all * x = mul-le 1 1 all x some one in
    go (all * x) both hs
  where
    go : (m : ℕ) → 1 ≤ m → s ≡ min m 4294967295 → (1 ≤ n) × (n ≤ limit)
    go m h e = (omega arith, omega arith)

none_left : (ts : List Term) (i : ℕ) → length ts ≤ i → drop i ts ≡ []
none_left [] zero h = refl
none_left [] (suc i) h = refl
none_left (t ∷ ts) zero h = absurd (omega arith)
none_left (t ∷ ts) (suc i) h = none_left ts i (omega arith)

pub last_capped : (limit : ℕ) (ts : List Term) (i all : ℕ) → length ts ≤ i → all ≤ limit → capped limit (all * product (map leaves (drop i ts))) ≡ capped limit (product (map leaves ts)) → all ≡ capped limit (product (map leaves ts))
last_capped limit ts i all past fits h = go (all * 1) (mul-one all) ∙ ap (λ us. capped limit (all * product (map leaves us))) (sym (none_left ts i past)) ∙ h
  where
    go : (m : ℕ) → m ≡ all → all ≡ capped limit m
    go m q = omega arith

pub full_capped : (limit : ℕ) (ts : List Term) (i all : ℕ) → all ≡ limit → capped limit (all * product (map leaves (drop i ts))) ≡ capped limit (product (map leaves ts)) → limit ≡ capped limit (product (map leaves ts))
full_capped limit ts i all e h = go (all * product (map leaves (drop i ts))) (mul-le limit 1 all (product (map leaves (drop i ts))) (omega arith) (all_some_leaves (drop i ts))) ∙ h
  where
    go : (m : ℕ) → limit * 1 ≤ m → limit ≡ capped limit m
    go m k = let e2 = mul-one limit in omega arith
