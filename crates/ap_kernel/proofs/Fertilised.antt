-- Fertilization reduces: where the hypothesis is nil, it holds already; else its sides have one value.
use Rattle.std.proofs.Common.{◌≡◌, ◌≢◌, ℕ, ◌<◌, Bool, true, false, cond, ◌||◌, [], ◌∷◌, length, Option, Some, None, IsTrue, is_some, slice_get, ◌⊎◌, inl, inr, refl, ap, sym, ◌∙◌, subst}
use Rattle.std.proofs.lemmas.Option.{slice_get_within}
use Rattle.ap_list.specs.Lists.{Each}
use Rattle.ap_value.specs.Values.{value_eq}
use Rattle.ap_value.proofs.Equals.{value_eq-true}
use Rattle.ap_term.specs.declared.term.Term.{Term}
use Rattle.ap_term.specs.declared.term.Clause.{Clause}
use Rattle.ap_world.specs.Names.{not_name, equal_name}
use Rattle.ap_world.specs.Primitives.{nil, truth}
use Rattle.ap_world.specs.Meaning.{Env, Defs, Total}
use Rattle.ap_world.specs.Clauses.{not_of}
use Rattle.ap_world.specs.Sound.{known}
use Rattle.ap_world.proofs.Knowing.{known_args, each_true}
use Rattle.ap_world.proofs.TotalMeaning.{Apply, Models, val, AnyTrue}
use Rattle.ap_world.proofs.Equations.{knowing, val_equal, eq-not_nil, t_isnt_nil}
use Rattle.ap_world.proofs.Starting.{val_not}
use Rattle.ap_kernel.specs.declared.reductions.Inference.{Inference}
use Rattle.ap_kernel.specs.Standing.{DefinesNot}
use Rattle.ap_world.specs.Shapes.{Shape, negation, equation, shape_of}
use Rattle.ap_kernel.specs.Equations.{equal_of}
use Rattle.ap_kernel.specs.Reductions.{KnownClause, Follows, put_at, others}
use Rattle.ap_kernel.specs.Splits.{and_then}
use Rattle.ap_world.proofs.Shaped.{Says, shape_says}
use Rattle.ap_kernel.proofs.Typed.{each_at}
use Rattle.ap_kernel.proofs.Reduced.{any_put, any_others, any_at, each_put, to_one_reduces}
use Rattle.ap_kernel.proofs.Splitting.{then_some}
use Rattle.ap_kernel.specs.Swapping.{swapped, is_part}
use Rattle.ap_kernel.specs.Fertilising.{is_constant_shape, sides_of, no_constants, negated_sides, side_replaced, literal_fertilised, fertilised, fertilised_by, fertilise_made}
use Rattle.ap_kernel.proofs.PartsSwapped.{swapped_value, known_swapped}

-- the sides are those of the literal
sides_are : (u : Term) (q : Term × Term) → sides_of (shape_of u) ≡ Some q → u ≡ equal_of q.0 q.1
sides_are u q h = go (shape_of u) (shape_says u) h
  where
    go : (y : Shape Term) → Says u y → sides_of y ≡ Some q → u ≡ equal_of q.0 q.1
    go (equation a b) s l = let same : (a, b) ≡ q = cc in subst (λ (q : Term × Term). u ≡ equal_of q.0 q.1) same s
    go y s l = cc

negated_are : (u : Term) (p : Term × Term) → negated_sides (shape_of u) ≡ Some p → u ≡ not_of (equal_of p.0 p.1)
negated_are u p h = go (shape_of u) (shape_says u) h
  where
    kept : (q : Term × Term) (b : Bool) → cond b None (Some q) ≡ Some p → q ≡ p
    kept q true l = cc
    kept q false l = cc

    go : (y : Shape Term) → Says u y → negated_sides y ≡ Some p → u ≡ not_of (equal_of p.0 p.1)
    go (negation a) s l =
        let (q, sides, rest) = then_some (sides_of (shape_of a)) no_constants p l in
        let same = kept q (is_constant_shape (shape_of q.0) || is_constant_shape (shape_of q.1)) rest in
        s ∙ ap not_of (subst (λ (q : Term × Term). a ≡ equal_of q.0 q.1) same (sides_are a q sides))
    go y s l = cc

-- where a negated equation is nil, its sides have one value
pub sides_same : (D : Defs) (A : Apply) → Models D A → DefinesNot D → (e : Env) (a b : Term) → val A (not_of (equal_of a b)) e ≡ nil → val A a e ≡ val A b e
sides_same D A ms ground e a b isnil = value_eq-true (val A a e) (val A b e) (by_value (value_eq (val A (equal_of a b) e) nil) refl)
  where
    test : Bool
    test = value_eq (val A a e) (val A b e)

    not_value : truth (value_eq (val A (equal_of a b) e) nil) ≡ nil
    not_value = sym (val_not D A ms ground (equal_of a b) e) ∙ isnil

    tested : (c : Bool) → test ≡ c → value_eq (val A (equal_of a b) e) nil ≡ false → test ≡ true
    tested true q h = q
    tested false q h = absurd (eq-not_nil (val A (equal_of a b) e) h (val_equal A a b e ∙ ap truth q))

    by_value : (c : Bool) → value_eq (val A (equal_of a b) e) nil ≡ c → test ≡ true
    by_value true q = absurd (t_isnt_nil (ap truth (sym q) ∙ not_value))
    by_value false q = tested test refl q

-- then the literal keeps its value
same_equal : (A : Apply) (e : Env) (a b c d : Term) → val A a e ≡ val A c e → val A b e ≡ val A d e → val A (equal_of a b) e ≡ val A (equal_of c d) e
same_equal A e a b c d p q = val_equal A a b e ∙ ap (λ v. truth (value_eq v (val A b e))) p ∙ ap (λ v. truth (value_eq (val A c e) v)) q ∙ sym (val_equal A c d e)

literal_value : (A : Apply) (e : Env) (p : Term × Term) (u w : Term) → val A p.0 e ≡ val A p.1 e → literal_fertilised p u ≡ Some w → val A w e ≡ val A u e
literal_value A e p u w same h =
    let (q, sides, made) = then_some (sides_of (shape_of u)) (side_replaced p) w h in
    go q (is_part p.1 q.1) (is_part p.0 q.0) made ∙ ap (λ z. val A z e) (sym (sides_are u q sides))
  where
    go : (q : Term × Term) (x y : Bool) → cond x (Some (equal_of q.0 (swapped ((p.1, p.0) ∷ []) q.1))) (cond y (Some (equal_of (swapped ((p.0, p.1) ∷ []) q.0) q.1)) None) ≡ Some w → val A w e ≡ val A (equal_of q.0 q.1) e
    go q true y l =
        let is : equal_of q.0 (swapped ((p.1, p.0) ∷ []) q.1) ≡ w = cc in
        ap (λ z. val A z e) (sym is) ∙ same_equal A e q.0 (swapped ((p.1, p.0) ∷ []) q.1) q.0 q.1 refl (swapped_value A e e ((p.1, p.0) ∷ []) (same, tt) q.1 (λ x o. refl))
    go q false true l =
        let is : equal_of (swapped ((p.0, p.1) ∷ []) q.0) q.1 ≡ w = cc in
        ap (λ z. val A z e) (sym is) ∙ same_equal A e (swapped ((p.0, p.1) ∷ []) q.0) q.1 q.0 q.1 (swapped_value A e e ((p.0, p.1) ∷ []) (sym same, tt) q.0 (λ x o. refl)) refl
    go q false false l = cc

-- and is known
two_known : (D : Defs) (a b : Term) → known D (equal_of a b) ≡ true → Each (λ u. known D u ≡ true) (a ∷ b ∷ [])
two_known D a b k = each_true (known D) (a ∷ b ∷ []) (known_args D equal_name (a ∷ b ∷ []) k)

known_equal : (D : Defs) (a b : Term) → known D a ≡ true → known D b ≡ true → known D (equal_of a b) ≡ true
known_equal D a b p q = simp (p, q, knowing) refl

literal_known : (D : Defs) (p : Term × Term) (u w : Term) → known D p.0 ≡ true → known D p.1 ≡ true → known D u ≡ true → literal_fertilised p u ≡ Some w → known D w ≡ true
literal_known D p u w first second k h =
    let (q, sides, made) = then_some (sides_of (shape_of u)) (side_replaced p) w h in
    let ks = two_known D q.0 q.1 (subst (λ z. known D z ≡ true) (sides_are u q sides) k) in
    go q ks.0 ks.1.0 (is_part p.1 q.1) (is_part p.0 q.0) made
  where
    go : (q : Term × Term) → known D q.0 ≡ true → known D q.1 ≡ true → (x y : Bool)
        → cond x (Some (equal_of q.0 (swapped ((p.1, p.0) ∷ []) q.1))) (cond y (Some (equal_of (swapped ((p.0, p.1) ∷ []) q.0) q.1)) None) ≡ Some w → known D w ≡ true
    go q k l true y m =
        let is : equal_of q.0 (swapped ((p.1, p.0) ∷ []) q.1) ≡ w = cc in
        subst (λ z. known D z ≡ true) is (known_equal D q.0 (swapped ((p.1, p.0) ∷ []) q.1) k (known_swapped D ((p.1, p.0) ∷ []) (first, tt) q.1 l))
    go q k l false true m =
        let is : equal_of (swapped ((p.0, p.1) ∷ []) q.0) q.1 ≡ w = cc in
        subst (λ z. known D z ≡ true) is (known_equal D (swapped ((p.0, p.1) ∷ []) q.0) q.1 (known_swapped D ((p.0, p.1) ∷ []) (second, tt) q.0 k) l)
    go q k l false false m = cc

-- where fertilization applies, the literal that is changed stands in the clause
pub changed_stands : (c : Clause) (i j : ℕ) → IsTrue (is_some (fertilise_made c i j)) → j < length c.0
changed_stands c i j h = go (fertilise_made c i j) refl h
  where
    go : (o : Option Inference) → fertilise_made c i j ≡ o → is_some o ≡ true → j < length c.0
    go None q k = cc
    go (Some r) q k =
        let (p, hypothesis, rest) = then_some (and_then (slice_get c.0 i) (λ u. negated_sides (shape_of u))) (fertilised_by c i j) r q in
        let (w, literal, made) = then_some (and_then (slice_get c.0 j) (literal_fertilised p)) (λ u. Some (fertilised c i j u)) r rest in
        let (g, at_j, new) = then_some (slice_get c.0 j) (literal_fertilised p) w literal in
        slice_get_within c.0 j g at_j

pub fertilised_follows : (D : Defs) → Total D → DefinesNot D → (c : Clause) (i j : ℕ) (r : Inference) → KnownClause D c → fertilise_made c i j ≡ Some r → Follows D r
fertilised_follows D total ground c i j r k h =
    let (p, hypothesis, rest) = then_some (and_then (slice_get c.0 i) (λ u. negated_sides (shape_of u))) (fertilised_by c i j) r h in
    let (u, at_i, sides) = then_some (slice_get c.0 i) (λ u. negated_sides (shape_of u)) p hypothesis in
    let (w, literal, made) = then_some (and_then (slice_get c.0 j) (literal_fertilised p)) (λ u. Some (fertilised c i j u)) r rest in
    let (g, at_j, new) = then_some (slice_get c.0 j) (literal_fertilised p) w literal in
    let same : fertilised c i j w ≡ r = cc in
    subst (Follows D) {x = fertilised c i j w} same (reduces p u w g at_i (negated_are u p sides) at_j new)
  where
    reduces : (p : Term × Term) (u w g : Term) → slice_get c.0 i ≡ Some u → u ≡ not_of (equal_of p.0 p.1) → slice_get c.0 j ≡ Some g → literal_fertilised p g ≡ Some w → Follows D (fertilised c i j w)
    reduces p u w g at_i is at_j new =
        let ku = subst (λ z. known D z ≡ true) is (each_at (λ z. known D z ≡ true) c.0 i u k at_i) in
        let inner = (each_true (known D) (equal_of p.0 p.1 ∷ []) (known_args D not_name (equal_of p.0 p.1 ∷ []) ku)).0 in
        let ks = two_known D p.0 p.1 inner in
        let kw = literal_known D p g w ks.0 ks.1.0 (each_at (λ z. known D z ≡ true) c.0 j g k at_j) new in
        to_one_reduces D total c (others i (put_at j (w ∷ []) c.0)) k
        (each_put (λ z. known D z ≡ true) i [] (put_at j (w ∷ []) c.0) tt (each_put (λ z. known D z ≡ true) j (w ∷ []) c.0 (kw, tt) k))
        (λ A ms e held. go A ms e (any_others (λ z. val A z e ≢ nil) i (put_at j (w ∷ []) c.0) held) (value_eq (val A u e) nil) refl)
      where
        back : (A : Apply) (e : Env) → val A w e ≡ val A g e → AnyTrue A e (others j c.0) ⊎ AnyTrue A e (w ∷ []) → AnyTrue A e c.0
        back A e same (inl h) = any_others (λ z. val A z e ≢ nil) j c.0 h
        back A e same (inr (inl h)) = any_at (λ z. val A z e ≢ nil) c.0 j g at_j (λ isnil. h (same ∙ isnil))
        back A e same (inr (inr h)) = absurd h

        go : (A : Apply) → Models D A → (e : Env) → AnyTrue A e (put_at j (w ∷ []) c.0) → (b : Bool) → value_eq (val A u e) nil ≡ b → AnyTrue A e c.0
        go A ms e held false q = any_at (λ z. val A z e ≢ nil) c.0 i u at_i (eq-not_nil (val A u e) q)
        go A ms e held true q =
            let same = sides_same D A ms ground e p.0 p.1 (ap (λ z. val A z e) (sym is) ∙ value_eq-true (val A u e) nil q) in
            back A e (literal_value A e p g w same new) (any_put (λ z. val A z e ≢ nil) j (w ∷ []) c.0 held)
