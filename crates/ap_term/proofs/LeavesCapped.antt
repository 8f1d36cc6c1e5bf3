-- Leaves counted as far as 32 bits hold them.
use Rattle.std.proofs.Common.{◌≡◌, ℕ, ◌+◌, ◌*◌, ◌<◌, ◌≤◌, min, Bool, true, false, suc, List, [], ◌∷◌, map, length, drop, get_or, is_some, ◌⊎◌, inl, inr, refl, ap, sym, ◌∙◌, subst, add-one, drop-cons, arith}
use Rattle.std.proofs.Math.Nat.{mul-one, one-mul, mul_assoc}
use Rattle.std.proofs.lemmas.Nat.{mul-le}
use Rattle.std.proofs.lemmas.Bool.{cases_lt}
use Rattle.ap_list.specs.Lists.{Each}
use Rattle.ap_value.specs.declared.symbol.Symbol.{Symbol}
use Rattle.ap_value.specs.declared.value.Value.{Value}
use Rattle.ap_value.specs.Values.{symbol_eq}
use Rattle.ap_term.specs.declared.term.Term.{Term, Var, Quote, Call}
use Rattle.ap_term.specs.Names.{if_name}
use Rattle.ap_term.specs.Capped.{capped}
use Rattle.ap_term.specs.Leaves.{product, choice_leaves, if_parts, leaves, leaves_step}
use Rattle.ap_term.proofs.Induction.{term_ind, fold_var, fold_quote, fold_call}

-- a number, or a limit where that is less
abbrev cap : ℕ → ℕ → ℕ
cap limit n = min n limit

cap_product : (limit a b : ℕ) → 1 ≤ limit → 1 ≤ a → 1 ≤ b → cap limit (cap limit a * cap limit b) ≡ cap limit (a * b)
cap_product limit a b l h k = go (cases_lt limit a) (cases_lt limit b)
  where
    past : (x y : ℕ) → limit * 1 ≤ x → limit * 1 ≤ y → cap limit x ≡ cap limit y
    past x y p q = let e = mul-one limit in omega arith

    some : (x : ℕ) → 1 ≤ x → 1 ≤ cap limit x
    some x p = omega arith

    all : (x : ℕ) → limit < x → limit ≤ cap limit x
    all x p = omega arith

    same : (x : ℕ) → x ≤ limit → cap limit x ≡ x
    same x p = omega arith

    turned : (x y : ℕ) → 1 * limit ≤ x → 1 * limit ≤ y → cap limit x ≡ cap limit y
    turned x y p q = let e = one-mul limit in omega arith

    go : (limit < a) ⊎ (a ≤ limit) → (limit < b) ⊎ (b ≤ limit) → cap limit (cap limit a * cap limit b) ≡ cap limit (a * b)
    go (inl p) q = past (cap limit a * cap limit b) (a * b) (mul-le limit 1 (cap limit a) (cap limit b) (all a p) (some b k)) (mul-le limit 1 a b (omega arith) k)
    go (inr p) (inl q) = turned (cap limit a * cap limit b) (a * b) (mul-le 1 limit (cap limit a) (cap limit b) (some a h) (all b q)) (mul-le 1 limit a b h (omega arith))
    go (inr p) (inr q) = ap (cap limit) (ap (λ n. n * cap limit b) (same a p) ∙ ap (λ n. a * n) (same b q))

twice : (limit m : ℕ) → cap limit (cap limit m) ≡ cap limit m
twice limit m = omega arith

-- one side capped before
half : (limit a b : ℕ) → 1 ≤ limit → 1 ≤ a → 1 ≤ b → cap limit (cap limit a * b) ≡ cap limit (a * b)
half limit a b o h k = sym (cap_product limit (cap limit a) b o (omega arith) k) ∙ ap (λ m. cap limit (m * cap limit b)) (twice limit a) ∙ cap_product limit a b o h k

some_product : (a b : ℕ) → 1 ≤ a → 1 ≤ b → 1 ≤ a * b
some_product a b h k = mul-le 1 1 a b h k

product_some : (ts : List Term) → Each (λ u. 1 ≤ leaves u) ts → 1 ≤ product (map leaves ts)
product_some [] es = omega arith
product_some (t ∷ ts) es = some_product (leaves t) (product (map leaves ts)) es.0 (product_some ts es.1)

-- there is a leaf
pub leaves_some : (u : Term) → 1 ≤ leaves u
leaves_some = term_ind Goal variable quoted call
  where
    Goal : Term → Type 0
    Goal u = 1 ≤ leaves u

    variable : (x : Symbol) → Goal (Var x)
    variable x = let e = fold_var leaves_step x in omega arith

    quoted : (v : Value) → Goal (Quote v)
    quoted v = let e = fold_quote leaves_step v in omega arith

    either : (b c : ℕ) → 1 ≤ b → 1 ≤ b + c
    either b c h = omega arith

    go : (x : Bool) (ts : List Term) → Each Goal ts → 1 ≤ choice_leaves (if_parts x (map leaves ts)) (product (map leaves ts))
    go true (a ∷ b ∷ c ∷ []) es = some_product (leaves a) (leaves b + leaves c) es.0 (either (leaves b) (leaves c) es.1.0)
    go x ts es = product_some ts es

    call : (f : Symbol) (ts : List Term) → Each Goal ts → Goal (Call f ts)
    call f ts es = subst (λ n. 1 ≤ n) (sym (fold_call leaves_step f ts)) (go (symbol_eq f if_name) ts es)

all_some_leaves : (ts : List Term) → 1 ≤ product (map leaves ts)
all_some_leaves [] = omega arith
all_some_leaves (t ∷ ts) = some_product (leaves t) (product (map leaves ts)) (leaves_some t) (all_some_leaves ts)

-- the leaves of an `if`, of the capped counts of its parts
pub choice_capped : (a b c : Term) (s n : ℕ) → s ≡ capped (capped (leaves b) + capped (leaves c)) → n ≡ capped (capped (leaves a) * s) → n ≡ capped (leaves a * (leaves b + leaves c))
choice_capped a b c s n h k = go 4294967295 (leaves a) (leaves b) (leaves c) s n (omega arith) (leaves_some a) (leaves_some b) h k
  where
    sum : (limit b c s : ℕ) → s ≡ cap limit (cap limit b + cap limit c) → s ≡ cap limit (b + c)
    sum limit b c s e = omega arith

    go : (limit a b c s n : ℕ) → 1 ≤ limit → 1 ≤ a → 1 ≤ b → s ≡ cap limit (cap limit b + cap limit c) → n ≡ cap limit (cap limit a * s) → n ≡ cap limit (a * (b + c))
    go limit a b c s n o p q e f = f ∙ ap (λ m. cap limit (cap limit a * m)) (sum limit b c s e) ∙ cap_product limit a (b + c) o p (omega arith)

-- the next one of a list
next_leaves : (limit : ℕ) (ts : List Term) (i all x n : ℕ) (t : Term) → 1 ≤ limit → i < length ts → t ≡ get_or ts i t → 1 ≤ all → all ≤ limit → x ≡ cap limit (leaves t) → n ≡ cap limit (all * x)
    → cap limit (all * product (map leaves (drop i ts))) ≡ cap limit (product (map leaves ts)) → cap limit (n * product (map leaves (drop (i + 1) ts))) ≡ cap limit (product (map leaves ts))
next_leaves limit ts i all x n t o within at some fits hx hn so_far =
    let rest = drop (i + 1) ts in
    let p = product (map leaves rest) in
    let same : all ≡ cap limit all = omega arith in
    let next : drop i ts ≡ t ∷ rest = drop-cons ts i t within ∙ ap (λ u. u ∷ drop (suc i) ts) (sym at) ∙ ap (λ k. t ∷ drop k ts) (sym (add-one i)) in
    let made : n ≡ cap limit (all * leaves t) = hn ∙ ap (λ k. cap limit (k * x)) same ∙ ap (λ k. cap limit (cap limit all * k)) hx ∙ cap_product limit all (leaves t) o some (leaves_some t) in
    let one : 1 ≤ all * leaves t = some_product all (leaves t) some (leaves_some t) in
    ap (λ k. cap limit (k * p)) made ∙ half limit (all * leaves t) p o one (all_some_leaves rest) ∙ ap (cap limit) (mul_assoc all (leaves t) p) ∙ ap (λ us. cap limit (all * product (map leaves us))) (sym next) ∙ so_far

pub next_capped : (ts : List Term) (i all x n : ℕ) (t : Term) → i < length ts → t ≡ get_or ts i t → 1 ≤ all → all ≤ 4294967295 → x ≡ capped (leaves t) → n ≡ capped (all * x)
    → capped (all * product (map leaves (drop i ts))) ≡ capped (product (map leaves ts)) → capped (n * product (map leaves (drop (i + 1) ts))) ≡ capped (product (map leaves ts))
next_capped ts i all x n t within at some fits hx hn so_far = next_leaves 4294967295 ts i all x n t (omega arith) within at some fits hx hn so_far

pub next_some : (all x n : ℕ) (t : Term) → 1 ≤ all → x ≡ capped (leaves t) → n ≡ capped (all * x) → (1 ≤ n) × (n ≤ 4294967295)
next_some all x n t some hx hn =
    let l = leaves_some t in
    let one : 1 ≤ x = omega arith in
    let both : 1 ≤ all * x = some_product all x some one in
    go (all * x) both hn
  where
    go : (m : ℕ) → 1 ≤ m → n ≡ capped m → (1 ≤ n) × (n ≤ 4294967295)
    go m h e = (omega arith, omega arith)
