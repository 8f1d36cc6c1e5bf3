-- The smallest of some terms that pass a test is the first of those with fewest nodes.
use Rattle.std.proofs.Common.{◌≡◌, ◌<◌, ◌≤◌, nat_le, Bool, true, false, true≢false, cond, List, [], ◌∷◌, ◌++◌, Option, Some, None, refl, ap, sym, ◌∙◌, subst, arith}
use Rattle.std.proofs.lemmas.Bool.{leb-true, leb-false, le-leb, lt-leb}
use Rattle.ap_list.specs.Lists.{Each}
use Rattle.ap_list.proofs.Eachs.{each_append}
use Rattle.ap_term.specs.declared.term.Term.{Term}
use Rattle.ap_term.specs.Terms.{term_size}
use Rattle.ap_induct.specs.Choosing.{calls_among}
use Rattle.ap_weaken.specs.Generalize.{may_generalise, smaller, smallest}
use Rattle.ap_weaken.specs.Laws.{IsSmallest, SmallestIsChosen, NoneMayBe}
use Rattle.ap_weaken.proofs.Chosen.{smallest_holds}

module _ (test : Term → Bool) where
  -- no fewer nodes, where the test is passed; and more
  abbrev AtLeast : Term → Term → Type 0
  AtLeast t u = test u ≡ true → term_size t ≤ term_size u

  abbrev More : Term → Term → Type 0
  More t u = test u ≡ true → term_size t < term_size u

  none_passes : (ts : List Term) → smallest test ts ≡ None → Each (λ u. test u ≡ false) ts
  none_passes [] h = tt
  none_passes (x ∷ xs) h = go (test x) refl (smallest test xs) (none_passes xs) h
    where
      pick : (v : Term) (b : Bool) → cond b (Some x) (Some v) ≡ None → ⊥
      pick v true k = cc
      pick v false k = cc

      some : (o : Option Term) → smaller x o ≡ None → ⊥
      some None k = cc
      some (Some v) k = pick v (nat_le (term_size x) (term_size v)) k

      go : (b : Bool) → test x ≡ b → (o : Option Term) → (o ≡ None → Each (λ u. test u ≡ false) xs) → cond b (smaller x o) o ≡ None → (test x ≡ false) × Each (λ u. test u ≡ false) xs
      go true e o later k = absurd (some o k)
      go false e o later k = (e, later k)

  passes_none : (ts : List Term) → Each (λ u. test u ≡ false) ts → smallest test ts ≡ None
  passes_none [] es = refl
  passes_none (x ∷ xs) es = ap (λ b. cond b (smaller x (smallest test xs)) (smallest test xs)) es.0 ∙ passes_none xs es.1

  all_at_least : (t : Term) (ts : List Term) → Each (λ u. test u ≡ false) ts → Each (AtLeast t) ts
  all_at_least t [] es = tt
  all_at_least t (x ∷ xs) es = (λ p. absurd (true≢false (sym p ∙ es.0)), all_at_least t xs es.1)

  fewer : (t v : Term) (ts : List Term) → term_size t ≤ term_size v → Each (AtLeast v) ts → Each (AtLeast t) ts
  fewer t v [] l es = tt
  fewer t v (x ∷ xs) l es = ((λ p. let h = es.0 p in omega arith), fewer t v xs l es.1)

  closer : (t : Term) (ts : List Term) → Each (More t) ts → Each (AtLeast t) ts
  closer t [] es = tt
  closer t (x ∷ xs) es = ((λ p. let h = es.0 p in omega arith), closer t xs es.1)

  behind_all : (t : Term) (ts : List Term) → IsSmallest test ts t → Each (AtLeast t) ts
  behind_all t ts s =
      subst (Each (AtLeast t)) (sym s.stands) (each_append (AtLeast t) s.front (t ∷ s.back) (closer t s.front s.before) ((λ p. omega arith), s.behind))

  smallest_parts : (ts : List Term) (t : Term) → smallest test ts ≡ Some t → IsSmallest test ts t
  smallest_parts [] t h = cc
  smallest_parts (x ∷ xs) t h = go (test x) refl (smallest test xs) refl (smallest_parts xs) h
    where
      this : test x ≡ true → Each (AtLeast x) xs → Some x ≡ Some t → IsSmallest test (x ∷ xs) t
      this e es k =
          let same : x ≡ t = cc in
          subst (IsSmallest test (x ∷ xs)) same (record { front = []; back = xs; stands = refl; passes = e; before = tt; behind = es })

      later_one : (v : Term) → More v x → IsSmallest test xs v → Some v ≡ Some t → IsSmallest test (x ∷ xs) t
      later_one v more s k =
          let same : v ≡ t = cc in
          subst (IsSmallest test (x ∷ xs)) same (record {
            front = x ∷ s.front;
            back = s.back;
            stands = ap (λ ys. x ∷ ys) s.stands;
            passes = s.passes;
            before = (more, s.before);
            behind = s.behind;
          })

      pick : test x ≡ true → (v : Term) → IsSmallest test xs v → (b : Bool) → nat_le (term_size x) (term_size v) ≡ b → cond b (Some x) (Some v) ≡ Some t → IsSmallest test (x ∷ xs) t
      pick e v s true f k = this e (fewer x v xs (leb-true (term_size x) (term_size v) f) (behind_all v xs s)) k
      pick e v s false f k = later_one v (λ p. leb-false (term_size x) (term_size v) f) s k

      go : (b : Bool) → test x ≡ b → (o : Option Term) → smallest test xs ≡ o → ((v : Term) → o ≡ Some v → IsSmallest test xs v) → cond b (smaller x o) o ≡ Some t → IsSmallest test (x ∷ xs) t
      go true e None f rest k = this e (all_at_least x xs (none_passes xs f)) k
      go true e (Some v) f rest k = pick e v (rest v refl) (nat_le (term_size x) (term_size v)) refl k
      go false e None f rest k = cc
      go false e (Some v) f rest k = later_one v (λ p. absurd (true≢false (sym p ∙ e))) (rest v refl) k

  parts_smallest : (front : List Term) (t : Term) (back : List Term) → test t ≡ true → Each (More t) front → Each (AtLeast t) back → smallest test (front ++ t ∷ back) ≡ Some t
  parts_smallest [] t back e es ls = ap (λ b. cond b (smaller t (smallest test back)) (smallest test back)) e ∙ go (smallest test back) refl
    where
      go : (o : Option Term) → smallest test back ≡ o → smaller t o ≡ Some t
      go None f = refl
      go (Some v) f =
          ap (λ b. cond b (Some t) (Some v)) (le-leb (term_size t) (term_size v) (smallest_holds (AtLeast t) test back v ls f (smallest_parts back v f).passes))
  parts_smallest (x ∷ xs) t back e es ls = go (test x) refl (smallest test (xs ++ t ∷ back)) (parts_smallest xs t back e es.1 ls)
    where
      go : (b : Bool) → test x ≡ b → (o : Option Term) → o ≡ Some t → cond b (smaller x o) o ≡ Some t
      go true p o f = ap (smaller x) f ∙ ap (λ b. cond b (Some x) (Some t)) (lt-leb (term_size x) (term_size t) (es.0 p))
      go false p o f = f

  smallest_is : (ts : List Term) (t : Term) → IsSmallest test ts t → smallest test ts ≡ Some t
  smallest_is ts t s = ap (smallest test) s.stands ∙ parts_smallest s.front t s.back s.passes s.before s.behind

pub smallest_is_chosen : SmallestIsChosen
smallest_is_chosen w ts t = (smallest_parts (may_generalise w ts) (calls_among ts) t, smallest_is (may_generalise w ts) (calls_among ts) t)

pub none_may_be : NoneMayBe
none_may_be w ts = (none_passes (may_generalise w ts) (calls_among ts), passes_none (may_generalise w ts) (calls_among ts))
