-- A clause that a literal closes holds by itself, whatever comes behind.
use Rattle.std.proofs.Common.{◌≡◌, ℕ, suc, ◌+◌, Bool, true, false, cond, ◌||◌, List, [], ◌∷◌, ◌++◌, map, length, drop, get_or, ◌<◌, ◌⊎◌, inl, inr, refl, ap, sym, ◌∙◌, subst, add-one, drop-cons}
use Rattle.ap_list.specs.Lists.{AnyOf, is_among}
use Rattle.ap_term.specs.declared.term.Term.{Term}
use Rattle.ap_term.specs.Equal.{term_eq}
use Rattle.ap_world.specs.Shapes.{Shape, negation, shape_of, is_constant}
use Rattle.ap_kernel.specs.Tidying.{plain, kept, tidied, is_opposed, decides, any_decides, holds_by_itself, negates, is_denied, closes}
use Rattle.ap_kernel.proofs.Reduced.{any_left, any_right}

or_left : (a b : Bool) → a ≡ true → (a || b) ≡ true
or_left true b h = refl
or_left false b h = cc

or_right : (a b : Bool) → b ≡ true → (a || b) ≡ true
or_right true b h = refl
or_right false b h = h

either : (a b : Bool) → (a || b) ≡ true → (a ≡ true) ⊎ (b ≡ true)
either true b h = inl refl
either false b h = inr h

any_decided : (ts us : List Term) → AnyOf (λ u. decides ts u ≡ true) us → any_decides ts us ≡ true
any_decided ts [] h = absurd h
any_decided ts (u ∷ us) (inl h) = or_left (decides ts u) (any_decides ts us) h
any_decided ts (u ∷ us) (inr h) = or_right (decides ts u) (any_decides ts us) (any_decided ts us h)

among_left : (a : Term) (xs ys : List Term) → is_among term_eq a xs ≡ true → is_among term_eq a (xs ++ ys) ≡ true
among_left a [] ys h = cc
among_left a (x ∷ xs) ys h = go (either (term_eq a x) (is_among term_eq a xs) h) (λ k. among_left a xs ys k)
  where
    go : (term_eq a x ≡ true) ⊎ (is_among term_eq a xs ≡ true) → (is_among term_eq a xs ≡ true → is_among term_eq a (xs ++ ys) ≡ true) → (term_eq a x || is_among term_eq a (xs ++ ys)) ≡ true
    go (inl k) later = or_left (term_eq a x) (is_among term_eq a (xs ++ ys)) k
    go (inr k) later = or_right (term_eq a x) (is_among term_eq a (xs ++ ys)) (later k)

among_here : (a : Term) (xs ys : List Term) (u : Term) → term_eq a u ≡ true → is_among term_eq a (xs ++ u ∷ ys) ≡ true
among_here a [] ys u h = or_left (term_eq a u) (is_among term_eq a ys) h
among_here a (x ∷ xs) ys u h = or_right (term_eq a x) (is_among term_eq a (xs ++ u ∷ ys)) (among_here a xs ys u h)

opposed_left : (y : Shape Term) (xs ys : List Term) → is_opposed xs y ≡ true → is_opposed (xs ++ ys) y ≡ true
opposed_left (negation a) xs ys h = among_left a xs ys h
opposed_left y xs ys h = cc

-- one that denies the literal decides where the literal is among them
denied_decides : (ts us : List Term) (u : Term) → ((a : Term) → term_eq a u ≡ true → is_among term_eq a ts ≡ true) → is_denied us u ≡ true → AnyOf (λ t. decides ts t ≡ true) us
denied_decides ts [] u here h = cc
denied_decides ts (t ∷ us) u here h = go (either (negates (shape_of t) u) (is_denied us u) h) (λ k. denied_decides ts us u here k)
  where
    opposed : (y : Shape Term) → negates y u ≡ true → is_opposed ts y ≡ true
    opposed (negation a) k = here a k
    opposed y k = cc

    go : (negates (shape_of t) u ≡ true) ⊎ (is_denied us u ≡ true) → (is_denied us u ≡ true → AnyOf (λ t. decides ts t ≡ true) us) → AnyOf (λ t. decides ts t ≡ true) (t ∷ us)
    go (inl k) later = inl (or_right (is_constant true t) (is_opposed ts (shape_of t)) (opposed (shape_of t) k))
    go (inr k) later = inr (later k)

closes_holds : (xs ys : List Term) (u : Term) → closes xs u ≡ true → holds_by_itself (xs ++ u ∷ ys) ≡ true
closes_holds xs ys u h = any_decided all all (go (either (decides xs u) (is_denied xs u) h))
  where
    all : List Term
    all = xs ++ u ∷ ys

    decided : (is_constant true u ≡ true) ⊎ (is_opposed xs (shape_of u) ≡ true) → decides all u ≡ true
    decided (inl k) = or_left (is_constant true u) (is_opposed all (shape_of u)) k
    decided (inr k) = or_right (is_constant true u) (is_opposed all (shape_of u)) (opposed_left (shape_of u) xs (u ∷ ys) k)

    go : (decides xs u ≡ true) ⊎ (is_denied xs u ≡ true) → AnyOf (λ t. decides all t ≡ true) all
    go (inl k) = any_right (λ t. decides all t ≡ true) xs (u ∷ ys) (inl (decided (either (is_constant true u) (is_opposed xs (shape_of u)) k)))
    go (inr k) = any_left (λ t. decides all t ≡ true) xs (u ∷ ys) (denied_decides all xs u (λ a e. among_here a xs ys u e) k)

-- a literal of the clause closes what is kept of those before
pub closed_there : (out ts : List Term) (i : ℕ) (t u : Term) → i < length ts → t ≡ get_or ts i t → u ≡ plain t → out ++ kept out (map plain (drop i ts)) ≡ tidied ts
    → is_constant false u ≡ false → is_among term_eq u out ≡ false → closes out u ≡ true → holds_by_itself (tidied ts) ≡ true
closed_there out ts i t u within at is so_far counts apart h =
    let rest = map plain (drop (i + 1) ts) in
    let next : drop i ts ≡ t ∷ drop (i + 1) ts = drop-cons ts i t within ∙ ap (λ x. x ∷ drop (suc i) ts) (sym at) ∙ ap (λ k. t ∷ drop k ts) (sym (add-one i)) in
    let here : kept out (map plain (drop i ts)) ≡ u ∷ kept (out ++ u ∷ []) rest =
    ap (λ us. kept out (map plain us)) next
    ∙ ap (λ x. kept out (x ∷ rest)) (sym is)
    ∙ ap (λ b. cond (b || is_among term_eq u out) (kept out rest) (u ∷ kept (out ++ u ∷ []) rest)) counts
    ∙ ap (λ b. cond b (kept out rest) (u ∷ kept (out ++ u ∷ []) rest)) apart in
    subst (λ us. holds_by_itself us ≡ true) (ap (λ us. out ++ us) (sym here) ∙ so_far) (closes_holds out (kept (out ++ u ∷ []) rest) u h)
