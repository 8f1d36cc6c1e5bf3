-- Less hangs on the derivations that are left at each turn.
use Rattle.std.proofs.Common.{◌≡◌, ℕ, suc, ◌+◌, ◌<◌, List, [], ◌∷◌, ◌++◌, map, refl, ap, sym, ◌∙◌, subst, arith}
use Rattle.ap_list.specs.Lists.{sum_of}
use Rattle.ap_kernel.specs.declared.derivations.Derivation.{Derivation, fold-Derivation, fold-roll-Derivation, Leaf, One, Many}
use Rattle.ap_kernel.specs.declared.derivations.Derivation.TheOpen.{Derivation-F}
use Rattle.ap_kernel.specs.declared.derivations.Derivation.TheVariants.{rolls-Leaf, rolls-One, rolls-Many}
use Rattle.ap_kernel.specs.declared.derivations.Row.{Row}
use Rattle.ap_kernel.specs.Weighing.{below_step, below, weight}

below_leaf : (r : Row) → below (Leaf r) ≡ 0
below_leaf r = ap (fold-Derivation ℕ below_step) (sym (rolls-Leaf r)) ∙ fold-roll-Derivation ℕ below_step (Derivation-F.Leaf r)

below_one : (r : Row) (d : Derivation) → below (One r d) ≡ suc (below d)
below_one r d = ap (fold-Derivation ℕ below_step) (sym (rolls-One r d)) ∙ fold-roll-Derivation ℕ below_step (Derivation-F.One r d)

below_many : (r : Row) (ds : List Derivation) → below (Many r ds) ≡ weight ds
below_many r ds = ap (fold-Derivation ℕ below_step) (sym (rolls-Many r ds)) ∙ fold-roll-Derivation ℕ below_step (Derivation-F.Many r ds)

-- what one was made from, with a row behind it
pub one_more : (d a : Derivation) (r : Row) → d ≡ One r a → below a < below d
one_more d a r e = subst (λ n. below a < n) (sym (ap below e ∙ below_one r a)) (more (below a))
  where
    more : (n : ℕ) → n < suc n
    more n = omega arith

both_weigh : (xs ys : List Derivation) → weight (xs ++ ys) ≡ weight xs + weight ys
both_weigh [] ys = none (weight ys)
  where
    none : (n : ℕ) → n ≡ 0 + n
    none n = omega arith
both_weigh (x ∷ xs) ys = ap (λ n. suc (below x) + n) (both_weigh xs ys) ∙ assoc (suc (below x)) (weight xs) (weight ys)
  where
    assoc : (a b c : ℕ) → a + (b + c) ≡ (a + b) + c
    assoc a b c = omega arith

last_weighs : (xs : List Derivation) (x : Derivation) → weight (xs ++ x ∷ []) ≡ weight xs + suc (below x)
last_weighs xs x = both_weigh xs (x ∷ []) ∙ ap (λ n. weight xs + n) (once (suc (below x)))
  where
    once : (n : ℕ) → n + 0 ≡ n
    once n = omega arith

-- what is handed on of each
pub none_on : (old new : List Derivation) (d : Derivation) (r : Row) → d ≡ Leaf r → new ≡ old → weight new ≡ weight old + below d
none_on old new d r e same = ap weight same ∙ subst (λ n. weight old ≡ weight old + n) (sym (ap below e ∙ below_leaf r)) (none (weight old))
  where
    none : (n : ℕ) → n ≡ n + 0
    none n = omega arith

pub one_on : (old new : List Derivation) (d a : Derivation) (r : Row) → d ≡ One r a → new ≡ old ++ a ∷ [] → weight new ≡ weight old + below d
one_on old new d a r e made = ap weight made ∙ last_weighs old a ∙ ap (λ n. weight old + n) (sym (ap below e ∙ below_one r a))

pub many_on : (old new ds : List Derivation) (d : Derivation) (r : Row) → d ≡ Many r ds → new ≡ old ++ ds → weight new ≡ weight old + below d
many_on old new ds d r e made = ap weight made ∙ both_weigh old ds ∙ ap (λ n. weight old + n) (sym (ap below e ∙ below_many r ds))

-- where the last one has another owner
pub one_less : (old new : List Derivation) (x : Derivation) → old ≡ new ++ x ∷ [] → weight new < weight old
one_less old new x e = subst (λ n. weight new < n) (sym (ap weight e ∙ last_weighs new x)) (more (weight new) (below x))
  where
    more : (a b : ℕ) → a < a + suc b
    more a b = omega arith

-- where it is taken apart, and what it was made from added
pub apart_less : (old rest new : List Derivation) (x y : Derivation) → old ≡ rest ++ x ∷ [] → y ≡ x → weight new ≡ weight rest + below y → weight new < weight old
apart_less old rest new x y e same weighs =
    subst (λ n. n < weight old) (sym weighs)
    (subst (λ n. weight rest + below y < n) (sym (ap weight e ∙ last_weighs rest x ∙ ap (λ n. weight rest + suc n) (ap below (sym same)))) (less (weight rest) (below y)))
  where
    less : (a b : ℕ) → a + b < a + suc b
    less a b = omega arith
