-- The search over ranks is the search.
use Rattle.std.proofs.Common.{◌≡◌, inl, inr, ℕ, zero, suc, ◌<◌, ◌≤◌, ◌/◌, Bool, true, false, cond, ◌&&◌, ℤ, pos, ◌+ℤ◌, ◌*ℤ◌, int_lt, unsigned_abs, List, [], ◌∷◌, ◌++◌, map, take, length, get_or, slice_get, unwrap_or, append_assoc, Option, Some, None, Result, Ok, Err, IfOk, refl, ap, sym, subst, ◌∙◌, true≢false, arith}
use Rattle.std.proofs.Math.Seq.{take-length}
use Rattle.std.proofs.lemmas.Option.{unwrap_or-slice_get}
use Rattle.ap_list.specs.Lists.{Each, AnyOf}
use Rattle.ap_value.specs.Values.{int_eq}
use Rattle.ap_value.proofs.Equals.{int_eq-true, int_eq-same}
use Rattle.ap_term.specs.declared.term.Term.{Term}
use Rattle.ap_term.specs.Equal.{term_eq}
use Rattle.ap_term.specs.Order.{term_less}
use Rattle.ap_term.proofs.Equals.{term_eq-true, term_eq-same}
use Rattle.ap_term.proofs.StrictOrder.{less-same, less-transitive}
use Rattle.ap_poly.specs.Polynomials.{Parts, Polynomial, and_then, narrow, with_part, after, put, add_parts, add, scale_parts, Later, Ordered, IsPoly}
use Rattle.ap_poly.specs.Elimination as search
use Rattle.ap_poly.specs.Elimination.{Row, coefficient_in, no_parts, gcd, multiplier, mixed, lin}
use Rattle.ap_poly.proofs.Ordering.{Atoms, add_parts_keep, scale_parts_keep}
use Rattle.ap_linear.specs.declared.rows.Ranked.{Ranked}
use Rattle.ap_linear.specs.Steps as steps
use Rattle.ap_linear.specs.Ranked.{Above, Rising, Listed, head, tail, parts_of, row_in, sum_of, times, sum_of_two, sums_of, no_ranks, first_if, behind_if, spread, or_fewer, summed, combined, meeting, first_negative, coefficient, without, with_negative, with_positive, eliminated, left_after}
use Rattle.ap_linear.proofs.Walks.{left-turn, onto_all, shifted, rows-next}

is_false : (b : Bool) → (b ≡ true → ⊥) → b ≡ false
is_false true h = absurd (h refl)
is_false false h = refl

not_same : (t u : Term) → Above t u → term_eq t u ≡ false
not_same t u h = is_false (term_eq t u) (λ e. less-same u (subst (λ x. term_less x u ≡ true) (term_eq-true t u e) h))

not_same_back : (t u : Term) → Above t u → term_eq u t ≡ false
not_same_back t u h = is_false (term_eq u t) (λ e. less-same t (subst (λ x. term_less t x ≡ true) (term_eq-true u t e) h))

not_back : (t u : Term) → Above t u → term_less u t ≡ false
not_back t u h = is_false (term_less u t) (λ e. less-same t (less-transitive t u t h e))

-- the parts are behind what is before all atoms
above_parts : (t : Term) (us : List Term) (cs : List ℤ) → Each (Above t) us → Atoms (Above t) (parts_of us cs)
above_parts t [] cs h = tt
above_parts t (u ∷ us) cs h = go (int_eq (head cs) (pos 0)) (above_parts t us (tail cs) h.1)
  where
    go : (b : Bool) → Atoms (Above t) (parts_of us (tail cs)) → Atoms (Above t) (cond b (parts_of us (tail cs)) ((u, head cs) ∷ parts_of us (tail cs)))
    go true k = k
    go false k = (h.0, k)

-- a multiple of parts with one before them
zero_part : (t : Term) (ps : Parts) → with_part t (pos 0) ps ≡ ps
zero_part t ps = ap (λ b. cond b ps ((t, pos 0) ∷ ps)) (int_eq-same (pos 0))

scaled_front : (k : ℕ) (t : Term) (a : ℤ) (ps : Parts) → scale_parts k (with_part t a ps) ≡ and_then (times k a) (λ c. and_then (scale_parts k ps) (λ qs. Some (with_part t c qs)))
scaled_front k t a ps = go (int_eq a (pos 0))
  where
    same : (o : Option Parts) → o ≡ and_then o (λ qs. Some (with_part t (pos 0) qs))
    same None = refl
    same (Some qs) = ap Some (sym (zero_part t qs))

    go : (b : Bool) → scale_parts k (cond b ps ((t, a) ∷ ps)) ≡ and_then (cond b (Some (pos 0)) (narrow (pos k *ℤ a))) (λ c. and_then (scale_parts k ps) (λ qs. Some (with_part t c qs)))
    go true = same (scale_parts k ps)
    go false = refl

-- a part is put before what is behind it, and past what it is behind
put_front : (t : Term) (k : ℤ) (ps : Parts) → Atoms (Above t) ps → put t k ps ≡ Some (with_part t k ps)
put_front t k [] h = refl
put_front t k (p ∷ ps) h = rw (not_same t p.0 h.0, h.0) refl

added_past : (u : Term) (y : ℤ) (ps qs : Parts) → Atoms (Above u) ps → add_parts ps ((u, y) ∷ qs) ≡ after (u, y) (add_parts ps qs)
added_past u y [] qs h = refl
added_past u y (p ∷ ps) qs h = ap (λ o. and_then o (put p.0 p.1)) (added_past u y ps qs h.1) ∙ go (add_parts ps qs)
  where
    go : (o : Option Parts) → and_then (after (u, y) o) (put p.0 p.1) ≡ after (u, y) (and_then o (put p.0 p.1))
    go None = refl
    go (Some cs) = rw (not_same_back u p.0 h.0, not_back u p.0 h.0) refl

abbrev then_front : Term → ℤ → Option Parts → Option Parts
then_front u c o = and_then o (λ cs. Some (with_part u c cs))

-- the sum of parts that each have one before them
added_front : (u : Term) (x y : ℤ) (ps qs : Parts) → Atoms (Above u) ps → Atoms (Above u) qs
    → add_parts (with_part u x ps) (with_part u y qs) ≡ and_then (sum_of x y) (λ c. then_front u c (add_parts ps qs))
added_front u x y ps qs h g = go (int_eq x (pos 0)) refl (int_eq y (pos 0)) refl
  where
    sum : Option Parts
    sum = add_parts ps qs

    same : (o : Option Parts) → o ≡ and_then o (λ cs. Some cs)
    same None = refl
    same (Some cs) = refl

    past : (o : Option Parts) → after (u, y) o ≡ and_then o (λ cs. Some ((u, y) ∷ cs))
    past None = refl
    past (Some cs) = refl

    before : (o : Option Parts) → sum ≡ o → and_then o (put u x) ≡ and_then o (λ cs. Some (with_part u x cs))
    before None e = refl
    before (Some cs) e = put_front u x cs (add_parts_keep (Above u) ps qs cs e h g)

    met : (o : Option Parts) (c : Option ℤ) → narrow (x +ℤ y) ≡ c → and_then (after (u, y) o) (put u x) ≡ and_then c (λ c. then_front u c o)
    met None None e = refl
    met None (Some c) e = refl
    met (Some cs) c e = rw (term_eq-same u) (ap (λ (z : Option ℤ). and_then z (λ c. Some (with_part u c cs))) e)

    left_zero : (b : Bool) → int_eq y (pos 0) ≡ b → add_parts ps (cond b qs ((u, y) ∷ qs)) ≡ and_then sum (λ cs. Some (cond b cs ((u, y) ∷ cs)))
    left_zero true e = same sum
    left_zero false e = added_past u y ps qs h ∙ past sum

    go : (b : Bool) → int_eq x (pos 0) ≡ b → (c : Bool) → int_eq y (pos 0) ≡ c
        → add_parts (cond b ps ((u, x) ∷ ps)) (cond c qs ((u, y) ∷ qs)) ≡ and_then (cond b (Some y) (cond c (Some x) (narrow (x +ℤ y)))) (λ c. then_front u c sum)
    go true e c f = left_zero c f ∙ sym (ap (λ d. and_then sum (λ cs. Some (cond d cs ((u, y) ∷ cs)))) f)
    go false e true f = before sum refl
    go false e false f = ap (λ o. and_then o (put u x)) (added_past u y ps qs h) ∙ met sum (narrow (x +ℤ y)) refl

-- so many of one and so many of another list of parts
abbrev both_parts : ℕ → Parts → ℕ → Parts → Option Parts
both_parts k ps l qs = and_then (scale_parts k ps) (λ xs. and_then (scale_parts l qs) (λ ys. add_parts xs ys))

abbrev as_parts : List Term → Option (List ℤ) → Option Parts
as_parts us o = and_then o (λ cs. Some (parts_of us cs))

none_of : (us : List Term) (o : Option (List ℤ)) → None ≡ as_parts us o → o ≡ None
none_of us None e = refl
none_of us (Some cs) e = cc

sums_right : (us : List Term) → Rising us → (k : ℕ) (xs : List ℤ) (l : ℕ) (ys : List ℤ) → both_parts k (parts_of us xs) l (parts_of us ys) ≡ as_parts us (sums_of (length us) k xs l ys)
sums_right [] h k xs l ys = refl
sums_right (u ∷ us) h k xs l ys =
    ap (λ o. and_then o (λ ps. and_then (scale_parts l (with_part u (head ys) qs)) (λ ss. add_parts ps ss))) (scaled_front k u (head xs) ps)
    ∙ ap (λ o. and_then (and_then (times k (head xs)) (λ c. and_then (scale_parts k ps) (λ rs. Some (with_part u c rs)))) (λ ps. and_then o (λ ss. add_parts ps ss))) (scaled_front l u (head ys) qs)
    ∙ go (times k (head xs)) (scale_parts k ps) refl (times l (head ys)) (scale_parts l qs) refl (sums_of (length us) k (tail xs) l (tail ys)) (sums_right us h.1 k (tail xs) l (tail ys))
  where
    ps : Parts
    ps = parts_of us (tail xs)

    qs : Parts
    qs = parts_of us (tail ys)

    Sides : Option ℤ → Option Parts → Option ℤ → Option Parts → Option Parts
    Sides x p y q = and_then (and_then x (λ c. and_then p (λ rs. Some (with_part u c rs)))) (λ ps. and_then (and_then y (λ c. and_then q (λ rs. Some (with_part u c rs)))) (λ ss. add_parts ps ss))

    Goal : Option ℤ → Option Parts → Option ℤ → Option Parts → Option (List ℤ) → Type 0
    Goal x p y q o = Sides x p y q ≡ as_parts (u ∷ us) (and_then (and_then x (λ a. and_then y (sum_of a))) (λ c. and_then o (λ cs. Some (c ∷ cs))))

    stops : (m : Option ℤ) (o : Option (List ℤ)) → None ≡ as_parts us o → None ≡ as_parts (u ∷ us) (and_then m (λ c. and_then o (λ cs. Some (c ∷ cs))))
    stops None o e = refl
    stops (Some c) o e = ap (λ (z : Option (List ℤ)). as_parts (u ∷ us) (and_then z (λ cs. Some (c ∷ cs)))) (sym (none_of us o e))

    joined : (m : Option ℤ) (o : Option (List ℤ)) → and_then m (λ c. then_front u c (as_parts us o)) ≡ as_parts (u ∷ us) (and_then m (λ c. and_then o (λ cs. Some (c ∷ cs))))
    joined None o = refl
    joined (Some c) None = refl
    joined (Some c) (Some cs) = refl

    go : (x : Option ℤ) (p : Option Parts) → scale_parts k ps ≡ p → (y : Option ℤ) (q : Option Parts) → scale_parts l qs ≡ q → (o : Option (List ℤ))
        → and_then (scale_parts k ps) (λ xs. and_then (scale_parts l qs) (λ ys. add_parts xs ys)) ≡ as_parts us o → Goal x p y q o
    go None p e y q f o i = refl
    go (Some x) None e y q f o i = stops (and_then y (sum_of x)) o (sym (ap (λ z. and_then z (λ xs. and_then (scale_parts l qs) (λ ys. add_parts xs ys))) e) ∙ i)
    go (Some x) (Some p) e None q f o i = refl
    go (Some x) (Some p) e (Some y) None f o i =
        stops (sum_of x y) o (sym (ap (λ z. and_then z (λ xs. and_then (scale_parts l qs) (λ ys. add_parts xs ys))) e ∙ ap (λ z. and_then z (λ ys. add_parts p ys)) f) ∙ i)
    go (Some x) (Some p) e (Some y) (Some q) f o i =
        added_front u x y p q (scale_parts_keep (Above u) k ps p e (above_parts u us (tail xs) h.0)) (scale_parts_keep (Above u) l qs q f (above_parts u us (tail ys) h.0))
        ∙ ap (λ (z : Option Parts). and_then (sum_of x y) (λ c. then_front u c z)) (sym (ap (λ z. and_then z (λ xs. and_then (scale_parts l qs) (λ ys. add_parts xs ys))) e ∙ ap (λ z. and_then z (λ ys. add_parts p ys)) f) ∙ i)
        ∙ joined (sum_of x y) o

-- the same of rows
abbrev made_poly : ℤ → Parts → Polynomial
made_poly c ps = record { constant = c; parts = ps }

abbrev made_row : Polynomial → List ℕ → Row
made_row p by = record { poly = p; by = by }

abbrev made_ranked : ℤ → List ℤ → List ℕ → Ranked
made_ranked c cs by = record { constant = c; coefficients = cs; by = by }

abbrev as_row : List Term → Option Ranked → Option Row
as_row us o = and_then o (λ r. Some (row_in us r))

map_append : (us : List Term) (rs ss : List Ranked) → map (row_in us) (rs ++ ss) ≡ map (row_in us) rs ++ map (row_in us) ss
map_append us [] ss = refl
map_append us (r ∷ rs) ss = ap (λ ws. row_in us r ∷ ws) (map_append us rs ss)

constant_right : (us : List Term) (cs : List ℤ) → no_parts (parts_of us cs) ≡ no_ranks (length us) cs
constant_right [] cs = refl
constant_right (u ∷ us) cs = go (int_eq (head cs) (pos 0)) (constant_right us (tail cs))
  where
    go : (b : Bool) → no_parts (parts_of us (tail cs)) ≡ no_ranks (length us) (tail cs)
        → no_parts (cond b (parts_of us (tail cs)) ((u, head cs) ∷ parts_of us (tail cs))) ≡ (b && no_ranks (length us) (tail cs))
    go true e = e
    go false e = refl

module _ (us : List Term) (h : Rising us) where
  summed_right : (k : ℕ) (p : Ranked) (l : ℕ) (q : Ranked) → steps.summed k (row_in us p) l (row_in us q) ≡ as_row us (summed (length us) k p l q)
  summed_right k p l q =
      go (narrow (pos k *ℤ p.constant)) (scale_parts k (parts_of us p.coefficients)) (narrow (pos l *ℤ q.constant)) (scale_parts l (parts_of us q.coefficients)) (sums_of (length us) k p.coefficients l q.coefficients) (mixed k p.by l q.by)
      (sums_right us h k p.coefficients l q.coefficients)
    where
      go : (x : Option ℤ) (ps : Option Parts) (y : Option ℤ) (qs : Option Parts) (o : Option (List ℤ)) (m : Option (List ℕ))
          → and_then ps (λ xs. and_then qs (λ ys. add_parts xs ys)) ≡ as_parts us o
          → and_then (and_then x (λ c. and_then ps (λ ss. Some (made_poly c ss)))) (λ (a : Polynomial).
          and_then (and_then y (λ c. and_then qs (λ ss. Some (made_poly c ss)))) (λ (b : Polynomial). and_then (add a b) (λ (c : Polynomial). and_then m (λ by. Some (made_row c by)))))
          ≡ as_row us (and_then (and_then x (λ a. and_then y (λ b. narrow (a +ℤ b)))) (λ c. and_then o (λ cs. and_then m (λ by. Some (made_ranked c cs by)))))
      go None ps y qs o m i = refl
      go (Some x) None y qs o m i = stops y
        where
          last : (z : Option ℤ) → None ≡ as_row us (and_then z (λ c. and_then o (λ cs. and_then m (λ by. Some (made_ranked c cs by)))))
          last None = refl
          last (Some c) = ap (λ (z : Option (List ℤ)). as_row us (and_then z (λ cs. and_then m (λ by. Some (made_ranked c cs by))))) (sym (none_of us o i))

          stops : (y : Option ℤ) → None ≡ as_row us (and_then (and_then y (λ b. narrow (x +ℤ b))) (λ c. and_then o (λ cs. and_then m (λ by. Some (made_ranked c cs by)))))
          stops None = refl
          stops (Some y) = last (narrow (x +ℤ y))
      go (Some x) (Some ps) None qs o m i = refl
      go (Some x) (Some ps) (Some y) None o m i = last (narrow (x +ℤ y))
        where
          last : (z : Option ℤ) → None ≡ as_row us (and_then z (λ c. and_then o (λ cs. and_then m (λ by. Some (made_ranked c cs by)))))
          last None = refl
          last (Some c) = ap (λ (z : Option (List ℤ)). as_row us (and_then z (λ cs. and_then m (λ by. Some (made_ranked c cs by))))) (sym (none_of us o i))
      go (Some x) (Some ps) (Some y) (Some qs) o m i = last (narrow (x +ℤ y)) (add_parts ps qs) o m i
        where
          last : (z : Option ℤ) (s : Option Parts) (o : Option (List ℤ)) (m : Option (List ℕ)) → s ≡ as_parts us o
              → and_then (and_then z (λ c. and_then s (λ ss. Some (made_poly c ss)))) (λ (c : Polynomial). and_then m (λ by. Some (made_row c by)))
              ≡ as_row us (and_then z (λ c. and_then o (λ cs. and_then m (λ by. Some (made_ranked c cs by)))))
          last None s o m e = refl
          last (Some c) s None m e = ap (λ (z : Option Parts). and_then (and_then z (λ ss. Some (made_poly c ss))) (λ (d : Polynomial). and_then m (λ by. Some (made_row d by)))) e
          last (Some c) s (Some cs) None e = ap (λ (z : Option Parts). and_then (and_then z (λ ss. Some (made_poly c ss))) (λ (d : Polynomial). and_then None (λ by. Some (made_row d by)))) e
          last (Some c) s (Some cs) (Some by) e = ap (λ (z : Option Parts). and_then (and_then z (λ ss. Some (made_poly c ss))) (λ (d : Polynomial). Some (made_row d by))) e

  combined_right : (k : ℕ) (p : Ranked) (l : ℕ) (q : Ranked) → search.combined k (row_in us p) l (row_in us q) ≡ as_row us (combined (length us) k p l q)
  combined_right k p l q = go (multiplier k) (multiplier l)
    where
      go : (x y : Option ℕ) → and_then x (λ k. and_then y (λ l. steps.summed k (row_in us p) l (row_in us q))) ≡ as_row us (and_then x (λ k. and_then y (λ l. summed (length us) k p l q)))
      go None y = refl
      go (Some x) None = refl
      go (Some x) (Some y) = summed_right x p y q

  less_right : (o : Option Ranked) (rs : List Ranked) → search.or_less (as_row us o) (map (row_in us) rs) ≡ map (row_in us) (or_fewer o rs)
  less_right None rs = refl
  less_right (Some r) rs = refl

  -- where a coefficient is looked up by an atom's rank
  module _ (x : Term) (i : ℕ) (reads : (cs : List ℤ) → coefficient_in x (parts_of us cs) ≡ get_or cs i (pos 0)) where
    without_right : (rs : List Ranked) → search.without x (map (row_in us) rs) ≡ map (row_in us) (without i rs)
    without_right [] = refl
    without_right (r ∷ rs) =
        ap (λ z. cond (int_eq z (pos 0)) (row_in us r ∷ search.without x (map (row_in us) rs)) (search.without x (map (row_in us) rs))) (reads r.coefficients)
        ∙ go (int_eq (coefficient i r) (pos 0)) (without_right rs)
      where
        go : (b : Bool) → search.without x (map (row_in us) rs) ≡ map (row_in us) (without i rs)
            → cond b (row_in us r ∷ search.without x (map (row_in us) rs)) (search.without x (map (row_in us) rs)) ≡ map (row_in us) (cond b (r ∷ without i rs) (without i rs))
        go true e = ap (λ ws. row_in us r ∷ ws) e
        go false e = e

    negative_right : (p : Ranked) (qs : List Ranked) → search.with_negative x (row_in us p) (map (row_in us) qs) ≡ map (row_in us) (with_negative (length us) i p qs)
    negative_right p [] = refl
    negative_right p (q ∷ qs) =
        ap (λ z. cond (int_lt (coefficient_in x (parts_of us q.coefficients)) (pos 0)) (search.or_less (search.meeting (unsigned_abs z) (row_in us p) (unsigned_abs (coefficient_in x (parts_of us q.coefficients))) (row_in us q)) rest) rest) (reads p.coefficients)
        ∙ ap (λ z. cond (int_lt z (pos 0)) (search.or_less (search.meeting (unsigned_abs c) (row_in us p) (unsigned_abs z) (row_in us q)) rest) rest) (reads q.coefficients)
        ∙ go (int_lt d (pos 0)) (combined_right (unsigned_abs d / gcd (unsigned_abs c) (unsigned_abs d)) p (unsigned_abs c / gcd (unsigned_abs c) (unsigned_abs d)) q) (negative_right p qs)
      where
        rest : List Row
        rest = search.with_negative x (row_in us p) (map (row_in us) qs)

        c : ℤ
        c = coefficient i p

        d : ℤ
        d = coefficient i q

        go : (b : Bool) → search.meeting (unsigned_abs c) (row_in us p) (unsigned_abs d) (row_in us q) ≡ as_row us (meeting (length us) (unsigned_abs c) p (unsigned_abs d) q)
            → rest ≡ map (row_in us) (with_negative (length us) i p qs)
            → cond b (search.or_less (search.meeting (unsigned_abs c) (row_in us p) (unsigned_abs d) (row_in us q)) rest) rest
            ≡ map (row_in us) (cond b (or_fewer (meeting (length us) (unsigned_abs c) p (unsigned_abs d) q) (with_negative (length us) i p qs)) (with_negative (length us) i p qs))
        go true e f = ap (λ o. search.or_less o rest) e ∙ ap (search.or_less (as_row us (meeting (length us) (unsigned_abs c) p (unsigned_abs d) q))) f ∙ less_right (meeting (length us) (unsigned_abs c) p (unsigned_abs d) q) (with_negative (length us) i p qs)
        go false e f = f

    map_take : (n : ℕ) (rs : List Ranked) → map (row_in us) (take n rs) ≡ take n (map (row_in us) rs)
    map_take zero rs = refl
    map_take (suc n) [] = refl
    map_take (suc n) (r ∷ rs) = ap (λ ws. row_in us r ∷ ws) (map_take n rs)

    positive_right : (ps qs : List Ranked) → search.with_positive x (map (row_in us) ps) (map (row_in us) qs) ≡ map (row_in us) (with_positive (length us) i ps qs)
    positive_right [] qs = refl
    positive_right (p ∷ ps) qs =
        ap (λ z. cond (int_lt (pos 0) z) (search.with_negative x (row_in us p) (map (row_in us) qs) ++ rest) rest) (reads p.coefficients)
        ∙ go (int_lt (pos 0) (coefficient i p)) (positive_right ps qs)
      where
        rest : List Row
        rest = search.with_positive x (map (row_in us) ps) (map (row_in us) qs)

        go : (b : Bool) → rest ≡ map (row_in us) (with_positive (length us) i ps qs)
            → cond b (search.with_negative x (row_in us p) (map (row_in us) qs) ++ rest) rest ≡ map (row_in us) (cond b (with_negative (length us) i p qs ++ with_positive (length us) i ps qs) (with_positive (length us) i ps qs))
        go true e = ap (λ ws. ws ++ rest) (negative_right p qs) ∙ ap (λ ws. map (row_in us) (with_negative (length us) i p qs) ++ ws) e ∙ sym (map_append us (with_negative (length us) i p qs) (with_positive (length us) i ps qs))
        go false e = e

    eliminated_right : (rs : List Ranked) → search.eliminated x (map (row_in us) rs) ≡ map (row_in us) (eliminated (length us) i rs)
    eliminated_right rs =
        ap (λ ws. take 64 (ws ++ search.with_positive x (map (row_in us) rs) (map (row_in us) rs))) (without_right rs)
        ∙ ap (λ ws. take 64 (map (row_in us) (without i rs) ++ ws)) (positive_right rs rs)
        ∙ ap (take 64) (sym (map_append us (without i rs) (with_positive (length us) i rs rs)))
        ∙ sym (map_take 64 (without i rs ++ with_positive (length us) i rs rs))

  first_right : (rs : List Ranked) → search.first_negative (map (row_in us) rs) ≡ first_negative (length us) rs
  first_right [] = refl
  first_right (r ∷ rs) =
      ap (λ b. cond (b && int_lt r.constant (pos 0)) (Some r.by) (search.first_negative (map (row_in us) rs))) (constant_right us r.coefficients)
      ∙ ap (λ o. cond (no_ranks (length us) r.coefficients && int_lt r.constant (pos 0)) (Some r.by) o) (first_right rs)

-- what stands behind a term isn't that term
absent : (t : Term) (ps : Parts) → Atoms (Above t) ps → coefficient_in t ps ≡ pos 0
absent t [] h = refl
absent t (p ∷ ps) h = ap (λ b. cond b p.1 (coefficient_in t ps)) (not_same t p.0 h.0) ∙ absent t ps h.1

above_at : (t : Term) (us : List Term) (i : ℕ) (x : Term) → Each (Above t) us → i < length us → x ≡ get_or us i x → Above t x
above_at t [] i x h k e = absurd (none i k)
  where
    none : (i : ℕ) → i < 0 → ⊥
    none i k = omega arith
above_at t (u ∷ us) zero x h k e = subst (Above t) (sym e) h.0
above_at t (u ∷ us) (suc i) x h k e = above_at t us i x h.1 (omega arith) e

get_none : (i : ℕ) → get_or [] i (pos 0) ≡ pos 0
get_none zero = refl
get_none (suc i) = refl

get_tail : (cs : List ℤ) (i : ℕ) → get_or (tail cs) i (pos 0) ≡ get_or cs (suc i) (pos 0)
get_tail [] i = get_none i ∙ sym (get_none (suc i))
get_tail (c ∷ cs) i = refl

get_head : (cs : List ℤ) → head cs ≡ get_or cs 0 (pos 0)
get_head [] = refl
get_head (c ∷ cs) = refl

reads_at : (us : List Term) → Rising us → (i : ℕ) (x : Term) → i < length us → x ≡ get_or us i x → (cs : List ℤ) → coefficient_in x (parts_of us cs) ≡ get_or cs i (pos 0)
reads_at [] h i x k e cs = absurd (none i k)
  where
    none : (i : ℕ) → i < 0 → ⊥
    none i k = omega arith
reads_at (u ∷ us) h zero x k e cs = ap (λ t. coefficient_in t (parts_of (u ∷ us) cs)) e ∙ go (int_eq (head cs) (pos 0)) refl ∙ get_head cs
  where
    go : (b : Bool) → int_eq (head cs) (pos 0) ≡ b → coefficient_in u (cond b (parts_of us (tail cs)) ((u, head cs) ∷ parts_of us (tail cs))) ≡ head cs
    go true f = absent u (parts_of us (tail cs)) (above_parts u us (tail cs) h.0) ∙ sym (int_eq-true (head cs) (pos 0) f)
    go false f = ap (λ b. cond b (head cs) (coefficient_in u (parts_of us (tail cs)))) (term_eq-same u)
reads_at (u ∷ us) h (suc i) x k e cs = go (int_eq (head cs) (pos 0)) ∙ reads_at us h.1 i x (omega arith) e (tail cs) ∙ get_tail cs i
  where
    other : term_eq x u ≡ false
    other = not_same_back u x (above_at u us i x h.0 (omega arith) e)

    go : (b : Bool) → coefficient_in x (cond b (parts_of us (tail cs)) ((u, head cs) ∷ parts_of us (tail cs))) ≡ coefficient_in x (parts_of us (tail cs))
    go true = refl
    go false = ap (λ b. cond b (head cs) (coefficient_in x (parts_of us (tail cs)))) other

-- an atom at each rank
at_rank : (us : List Term) (i : ℕ) → i < length us → (x : Term) × (x ≡ get_or us i x)
at_rank [] i k = absurd (none i k)
  where
    none : (i : ℕ) → i < 0 → ⊥
    none i k = omega arith
at_rank (u ∷ us) zero k = (u, refl)
at_rank (u ∷ us) (suc i) k = at_rank us i (omega arith)

left_right : (us : List Term) → Rising us → (i : ℕ) → i ≤ length us → (rs : List Ranked) → search.left_after (take i us) (map (row_in us) rs) ≡ map (row_in us) (left_after (length us) i rs)
left_right us h zero k rs = refl
left_right us h (suc i) k rs =
    let (x, e) = at_rank us i (omega arith) in
    sym (left-turn us (map (row_in us) rs) (suc i) i x (search.left_after (take (suc i) us) (map (row_in us) rs)) refl (omega arith) e refl)
    ∙ ap (search.left_after (take i us)) (eliminated_right us h x i (reads_at us h i x (omega arith) e) rs)
    ∙ left_right us h i (omega arith) (eliminated (length us) i rs)

-- the whole search
pub search_right : (us : List Term) (ps : List Polynomial) (rs : List Ranked) → Rising us → us ≡ search.atoms_of ps → map (row_in us) rs ≡ search.rows_of ps
    → first_negative (length us) (left_after (length us) (length us) rs) ≡ lin ps
search_right us ps rs h e k =
    sym (first_right us h (left_after (length us) (length us) rs))
    ∙ ap search.first_negative (sym (left_right us h (length us) (omega arith) rs))
    ∙ ap (λ vs. search.first_negative (search.left_after vs (map (row_in us) rs))) (take-length us)
    ∙ ap (λ vs. search.first_negative (search.left_after vs (map (row_in us) rs))) e
    ∙ ap (λ ws. search.first_negative (search.left_after (search.atoms_of ps) ws)) k

-- what is among others and isn't the first is among the rest
among_rest : (u x : Term) (us : List Term) → AnyOf (λ y. y ≡ x) (u ∷ us) → term_eq u x ≡ false → AnyOf (λ y. y ≡ x) us
among_rest u x us (inl e) n = absurd (true≢false (sym (subst (λ y. term_eq u y ≡ true) e (term_eq-same u)) ∙ n))
among_rest u x us (inr h) n = h

above_among : (u x : Term) (us : List Term) → Each (Above u) us → AnyOf (λ y. y ≡ x) us → Above u x
above_among u x [] hs h = absurd h
above_among u x (v ∷ us) hs (inl e) = subst (Above u) e hs.0
above_among u x (v ∷ us) hs (inr h) = above_among u x us hs.1 h

-- behind a part of the first atom that one stands no more, and behind a part of a later one not either
past_first : (u t : Term) (us : List Term) (ps : Parts) → term_eq u t ≡ true → Each (Later t) ps → Listed (u ∷ us) ps → Listed us ps
past_first u t us [] e h k = tt
past_first u t us (q ∷ ps) e h k = (among_rest u q.0 us k.0 (subst (λ x. term_eq x q.0 ≡ false) (sym (term_eq-true u t e)) h.0.1), past_first u t us ps e h.1 k.1)

past_later : (u t : Term) (us : List Term) (ps : Parts) → Above u t → Each (Later t) ps → Listed (u ∷ us) ps → Listed us ps
past_later u t us [] a h k = tt
past_later u t us (q ∷ ps) a h k = (among_rest u q.0 us k.0 (is_false (term_eq u q.0) other), past_later u t us ps a h.1 k.1)
  where
    other : term_eq u q.0 ≡ true → ⊥
    other e = true≢false (sym (subst (λ x. term_less x t ≡ true) (term_eq-true u q.0 e) a) ∙ h.0.0)

-- the coefficients of listed parts in order stand for these parts
spread_right : (us : List Term) (ps : Parts) → Rising us → Ordered ps → Listed us ps → parts_of us (spread us ps) ≡ ps
spread_right [] [] r h k = refl
spread_right [] (p ∷ ps) r h k = absurd k.0
spread_right (u ∷ us) [] r h k = zero_part u (parts_of us (spread us [])) ∙ spread_right us [] r.1 tt tt
spread_right (u ∷ us) ((t, c) ∷ ps) r h k = go (term_eq u t) refl (spread_right us ps r.1 h.2) (spread_right us ((t, c) ∷ ps) r.1 h)
  where
    later : term_eq u t ≡ false → Listed us ((t, c) ∷ ps)
    later e = let here = among_rest u t us k.0 e in (here, past_later u t us ps (above_among u t us r.0 here) h.0 k.1)

    go : (b : Bool) → term_eq u t ≡ b → (Listed us ps → parts_of us (spread us ps) ≡ ps) → (Listed us ((t, c) ∷ ps) → parts_of us (spread us ((t, c) ∷ ps)) ≡ (t, c) ∷ ps)
        → with_part u (first_if b ((t, c) ∷ ps)) (parts_of us (spread us (behind_if b ((t, c) ∷ ps)))) ≡ (t, c) ∷ ps
    go true e here rest =
        ap (λ b. cond b (parts_of us (spread us ps)) ((u, c) ∷ parts_of us (spread us ps))) h.1
        ∙ ap (λ (x : Term). (x, c) ∷ parts_of us (spread us ps)) (term_eq-true u t e) ∙ ap (λ qs. (t, c) ∷ qs) (here (past_first u t us ps e h.0 k.1))
    go false e here rest = zero_part u (parts_of us (spread us ((t, c) ∷ ps))) ∙ rest (later e)

pub row_right : (us : List Term) (p : Polynomial) (n : ℤ) (cs : List ℤ) (by ks : List ℕ) → Rising us → IsPoly p → Listed us p.parts → n ≡ p.constant → cs ≡ spread us p.parts → by ≡ ks
    → row_in us (record { constant = n; coefficients = cs; by = by }) ≡ record { poly = p; by = ks }
row_right us p n cs by ks r h k m e f =
    ap (λ (z : ℤ). record { poly = record { constant = z; parts = parts_of us cs }; by = by }) m
    ∙ ap (λ (ds : List ℤ). record { poly = record { constant = p.constant; parts = parts_of us ds }; by = by }) e
    ∙ ap (λ (ps : Parts). record { poly = record { constant = p.constant; parts = ps }; by = by }) (spread_right us p.parts r h k) ∙ ap (λ (ks : List ℕ). record { poly = p; by = ks }) f

-- a row more
pub ranked-next : (us : List Term) (rows new : List Ranked) (r : Ranked) (n m : ℕ) (p : Polynomial) (ps left : List Polynomial) (g : List Row) → p ∷ ps ≡ left → m ≡ suc n
    → new ≡ rows ++ r ∷ [] → row_in us r ≡ record { poly = p; by = steps.unit n (length ps) } → map (row_in us) rows ++ shifted n (search.rows_of left) ≡ g
    → map (row_in us) new ++ shifted m (search.rows_of ps) ≡ g
ranked-next us rows new r n m p ps left g whole next made is l =
    rows-next (map (row_in us) rows) (map (row_in us) new) n m p ps left g whole next (ap (map (row_in us)) made ∙ map_append us rows (r ∷ []) ∙ ap (λ w. map (row_in us) rows ++ w ∷ []) is) l

-- an answer by another of what is the same
pub same_ok : {A E : Type 0} (r : Result A E) (x y : A) → x ≡ y → IfOk r (λ o. o ≡ x) → IfOk r (λ o. o ≡ y)
same_ok (Ok o) x y e h = h ∙ e
same_ok (Err d) x y e h = h

-- what is behind the end of coefficients is 0
pub none_read : (cs : List ℤ) (i : ℕ) → slice_get cs i ≡ None → pos 0 ≡ get_or cs i (pos 0)
none_read cs i e = sym (ap (λ o. unwrap_or o (pos 0)) e) ∙ unwrap_or-slice_get cs i (pos 0)

-- a step of the walks over coefficients
pub ranks_turn : (i j : ℕ) (cs ds : List ℤ) (g : Bool) → i ≡ suc j → ds ≡ tail cs → int_eq (head cs) (pos 0) ≡ true → no_ranks i cs ≡ g → no_ranks j ds ≡ g
ranks_turn i j cs ds g n e h k =
    ap (no_ranks j) e ∙ sym (ap (λ b. b && no_ranks j (tail cs)) h) ∙ sym (ap (λ (m : ℕ). no_ranks m cs) n) ∙ k

pub sums_none : (i j k l : ℕ) (xs ys out : List ℤ) (g : Option (List ℤ)) → i ≡ suc j → sum_of_two k (head xs) l (head ys) ≡ None → onto_all out (sums_of i k xs l ys) ≡ g → None ≡ g
sums_none i j k l xs ys out g n e h =
    sym (ap (λ (o : Option ℤ). onto_all out (and_then o (λ c. and_then (sums_of j k (tail xs) l (tail ys)) (λ cs. Some (c ∷ cs))))) e)
    ∙ sym (ap (λ (m : ℕ). onto_all out (sums_of m k xs l ys)) n) ∙ h

pub sums_turn : (i j k l : ℕ) (xs ys vs ws out new : List ℤ) (c : ℤ) (g : Option (List ℤ)) → i ≡ suc j → sum_of_two k (head xs) l (head ys) ≡ Some c → vs ≡ tail xs → ws ≡ tail ys
    → new ≡ out ++ c ∷ [] → onto_all out (sums_of i k xs l ys) ≡ g → onto_all new (sums_of j k vs l ws) ≡ g
sums_turn i j k l xs ys vs ws out new c g n e f d m h =
    ap (λ (zs : List ℤ). onto_all zs (sums_of j k vs l ws)) m
    ∙ ap (λ (zs : List ℤ). onto_all (out ++ c ∷ []) (sums_of j k zs l ws)) f
    ∙ ap (λ (zs : List ℤ). onto_all (out ++ c ∷ []) (sums_of j k (tail xs) l zs)) d
    ∙ go (sums_of j k (tail xs) l (tail ys))
    ∙ sym (ap (λ (o : Option ℤ). onto_all out (and_then o (λ c. and_then (sums_of j k (tail xs) l (tail ys)) (λ cs. Some (c ∷ cs))))) e)
    ∙ sym (ap (λ (m : ℕ). onto_all out (sums_of m k xs l ys)) n) ∙ h
  where
    go : (o : Option (List ℤ)) → onto_all (out ++ c ∷ []) o ≡ onto_all out (and_then o (λ cs. Some (c ∷ cs)))
    go None = refl
    go (Some cs) = ap Some (append_assoc out (c ∷ []) cs)
