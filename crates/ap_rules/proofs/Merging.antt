-- The places of two rising lists, taken one after another from both, and the places of a list turned round.
use Rattle.std.proofs.Common.{◌≡◌, ℕ, suc, ◌+◌, ◌<◌, ◌≤◌, nat_eq, nat_lt, Bool, true, false, cond, ◌||◌, List, [], ◌∷◌, ◌++◌, length, map, reverse, Option, Some, None, slice_get, refl, sym, ap, ◌∙◌, append_assoc, lt-ltb, le-ltb, eqb-true, arith}
use Rattle.std.proofs.Math.Bool.{or-false, or_assoc}
use Rattle.std.proofs.lemmas.Bool.{eqb-false}
use Rattle.std.proofs.lemmas.List.{reverse-append, append-nil}
use Rattle.indexmap.proofs.ReorderLemmas.{map-reverse}
use Rattle.ap_term.specs.declared.term.Term.{Term, Var, Quote, Call, out-Term}
use Rattle.ap_term.specs.declared.term.Term.TheVariants.{outs-Var, outs-Quote, outs-Call}
use Rattle.ap_term.specs.declared.term.Term.TheOpen.{Term-F}
use Rattle.ap_value.specs.declared.symbol.Symbol.{Symbol}
use Rattle.ap_value.specs.declared.value.Value.{Value}
use Rattle.ap_rules.specs.declared.linear.LinearRule.{LinearRule}
use Rattle.ap_rules.specs.Indexed.{kept}
use Rattle.ap_rules.specs.Linear.{same_head, may_match}
use Rattle.ap_rules.specs.Placed.{places_from, is_headed, is_of, least, after}

eq_same : (n : ℕ) → nat_eq n n ≡ true
eq_same n = go (nat_eq n n) refl
  where
    go : (b : Bool) → nat_eq n n ≡ b → nat_eq n n ≡ true
    go true e = e
    go false e = absurd (eqb-false n n e refl)

eq_not : (a b : ℕ) → b < a → nat_eq a b ≡ false
eq_not a b h = go (nat_eq a b) refl
  where
    go : (t : Bool) → nat_eq a b ≡ t → nat_eq a b ≡ false
    go true e = let same : a ≡ b = eqb-true a b e in absurd (omega (arith, same))
    go false e = e

-- a list without its first place isn't longer, and is shorter where it is the first
not_longer : (i : ℕ) (xs : List ℕ) → length (after i xs) ≤ length xs
not_longer i [] = omega arith
not_longer i (x ∷ xs) = go (nat_eq x i)
  where
    go : (b : Bool) → length (cond b xs (x ∷ xs)) ≤ length (x ∷ xs)
    go true = omega arith
    go false = omega arith

first_off : (x : ℕ) (xs : List ℕ) → after x (x ∷ xs) ≡ xs
first_off x xs = ap (λ b. cond b xs (x ∷ xs)) (eq_same x)

pub fewer_left : (i : ℕ) (xs ys : List ℕ) → least xs ys ≡ Some i → length (after i xs) + length (after i ys) < length xs + length ys
fewer_left i [] [] e = absurd (cc e)
fewer_left i [] (y ∷ ys) e =
    let same : y ≡ i = cc in
    let off : length (after i (y ∷ ys)) ≡ length ys = ap (λ k. length (after k (y ∷ ys))) (sym same) ∙ ap length (first_off y ys) in
    omega (arith, off)
fewer_left i (x ∷ xs) [] e =
    let same : x ≡ i = cc in
    let off : length (after i (x ∷ xs)) ≡ length xs = ap (λ k. length (after k (x ∷ xs))) (sym same) ∙ ap length (first_off x xs) in
    omega (arith, off)
fewer_left i (x ∷ xs) (y ∷ ys) e = go (nat_lt y x) e
  where
    go : (b : Bool) → Some (cond b y x) ≡ Some i → length (after i (x ∷ xs)) + length (after i (y ∷ ys)) < length (x ∷ xs) + length (y ∷ ys)
    go true e =
        let same : y ≡ i = cc in
        let off : length (after i (y ∷ ys)) ≡ length ys = ap (λ k. length (after k (y ∷ ys))) (sym same) ∙ ap length (first_off y ys) in
        let other : length (after i (x ∷ xs)) ≤ length (x ∷ xs) = not_longer i (x ∷ xs) in
        omega (arith, off, other)
    go false e =
        let same : x ≡ i = cc in
        let off : length (after i (x ∷ xs)) ≡ length xs = ap (λ k. length (after k (x ∷ xs))) (sym same) ∙ ap length (first_off x xs) in
        let other : length (after i (y ∷ ys)) ≤ length (y ∷ ys) = not_longer i (y ∷ ys) in
        omega (arith, off, other)

module _ {G : Type 0} where
  -- no place is below the one that is counted from
  at_least : (test : G → Bool) (n x : ℕ) (xs : List ℕ) (gs : List G) → places_from test n gs ≡ x ∷ xs → n ≤ x
  at_least test n x xs [] e = absurd (cc e)
  at_least test n x xs (g ∷ gs) e = go (test g) (at_least test (n + 1) x xs gs) e
    where
      go : (b : Bool) → (places_from test (n + 1) gs ≡ x ∷ xs → n + 1 ≤ x) → cond b (n ∷ places_from test (n + 1) gs) (places_from test (n + 1) gs) ≡ x ∷ xs → n ≤ x
      go true rest e = let same : n ≡ x = cc in omega (arith, same)
      go false rest e = let more : n + 1 ≤ x = rest e in omega (arith, more)

  -- all places that are counted from the next on stay
  after_later : (test : G → Bool) (n : ℕ) (gs : List G) → after n (places_from test (n + 1) gs) ≡ places_from test (n + 1) gs
  after_later test n gs = go (places_from test (n + 1) gs) refl
    where
      go : (is : List ℕ) → places_from test (n + 1) gs ≡ is → after n is ≡ is
      go [] e = refl
      go (x ∷ xs) e = let more : n + 1 ≤ x = at_least test (n + 1) x xs gs e in ap (λ b. cond b xs (x ∷ xs)) (eq_not x n (omega (arith, more)))

  after_first : (test : G → Bool) (b : Bool) (n : ℕ) (gs : List G) → after n (cond b (n ∷ places_from test (n + 1) gs) (places_from test (n + 1) gs)) ≡ places_from test (n + 1) gs
  after_first test true n gs = first_off n (places_from test (n + 1) gs)
  after_first test false n gs = after_later test n gs

  -- a place that one of two lists begins with is the least, where all others are behind it
  least_first : (p q : G → Bool) (a b : Bool) (n : ℕ) (gs : List G) → (a || b) ≡ true
      → least (cond a (n ∷ places_from p (n + 1) gs) (places_from p (n + 1) gs)) (cond b (n ∷ places_from q (n + 1) gs) (places_from q (n + 1) gs)) ≡ Some n
  least_first p q true true n gs h = ap Some (same (nat_lt n n))
    where
      same : (b : Bool) → cond b n n ≡ n
      same true = refl
      same false = refl
  least_first p q true false n gs h = go (places_from q (n + 1) gs) refl
    where
      go : (ys : List ℕ) → places_from q (n + 1) gs ≡ ys → least (n ∷ places_from p (n + 1) gs) ys ≡ Some n
      go [] e = refl
      go (y ∷ ys) e = let more : n + 1 ≤ y = at_least q (n + 1) y ys gs e in ap (λ b. Some (cond b y n)) (le-ltb y n (omega (arith, more)))
  least_first p q false true n gs h = go (places_from p (n + 1) gs) refl
    where
      go : (xs : List ℕ) → places_from p (n + 1) gs ≡ xs → least xs (n ∷ places_from q (n + 1) gs) ≡ Some n
      go [] e = refl
      go (x ∷ xs) e = let more : n + 1 ≤ x = at_least p (n + 1) x xs gs e in ap (λ b. Some (cond b n x)) (lt-ltb n x (omega (arith, more)))
  least_first p q false false n gs h = absurd (cc h)

  -- what is left once the least place was taken from two lists, and from that of both
  pub record Taken (p q : G → Bool) (xs ys all : List ℕ) (i : ℕ) : Type 0 where
    pub from : ℕ
    pub rest : List G
    pub left : after i xs ≡ places_from p from rest
    pub right : after i ys ≡ places_from q from rest
    pub both : all ≡ i ∷ places_from (λ g. p g || q g) from rest

  pub take_least : (p q : G → Bool) (n i : ℕ) (gs : List G) → least (places_from p n gs) (places_from q n gs) ≡ Some i
      → Taken p q (places_from p n gs) (places_from q n gs) (places_from (λ g. p g || q g) n gs) i
  take_least p q n i [] e = absurd (cc e)
  take_least p q n i (g ∷ gs) e = go (p g) (q g) (take_least p q (n + 1) i gs) e
    where
      first : (a b : Bool) → (a || b) ≡ true
          → least (cond a (n ∷ places_from p (n + 1) gs) (places_from p (n + 1) gs)) (cond b (n ∷ places_from q (n + 1) gs) (places_from q (n + 1) gs)) ≡ Some i → n ≡ i
      first a b h e = let is : Some n ≡ Some i = sym (least_first p q a b n gs h) ∙ e in cc

      taken : (a b : Bool) → (a || b) ≡ true → n ≡ i
          → Taken p q (cond a (n ∷ places_from p (n + 1) gs) (places_from p (n + 1) gs)) (cond b (n ∷ places_from q (n + 1) gs) (places_from q (n + 1) gs))
          (n ∷ places_from (λ g. p g || q g) (n + 1) gs) i
      taken a b h same = record {
        from = n + 1;
        rest = gs;
        left = ap (λ k. after k (cond a (n ∷ places_from p (n + 1) gs) (places_from p (n + 1) gs))) (sym same) ∙ after_first p a n gs;
        right = ap (λ k. after k (cond b (n ∷ places_from q (n + 1) gs) (places_from q (n + 1) gs))) (sym same) ∙ after_first q b n gs;
        both = ap (λ k. k ∷ places_from (λ g. p g || q g) (n + 1) gs) same;
      }

      go : (a b : Bool)
          → (least (places_from p (n + 1) gs) (places_from q (n + 1) gs) ≡ Some i → Taken p q (places_from p (n + 1) gs) (places_from q (n + 1) gs) (places_from (λ g. p g || q g) (n + 1) gs) i)
          → least (cond a (n ∷ places_from p (n + 1) gs) (places_from p (n + 1) gs)) (cond b (n ∷ places_from q (n + 1) gs) (places_from q (n + 1) gs)) ≡ Some i
          → Taken p q (cond a (n ∷ places_from p (n + 1) gs) (places_from p (n + 1) gs)) (cond b (n ∷ places_from q (n + 1) gs) (places_from q (n + 1) gs))
          (cond (a || b) (n ∷ places_from (λ g. p g || q g) (n + 1) gs) (places_from (λ g. p g || q g) (n + 1) gs)) i
      go true true rest e = taken true true refl (first true true refl e)
      go true false rest e = taken true false refl (first true false refl e)
      go false true rest e = taken false true refl (first false true refl e)
      go false false rest e = rest e

  -- where no place is left in either list, none is left in that of both
  pub none_left : (p q : G → Bool) (n : ℕ) (gs : List G) → least (places_from p n gs) (places_from q n gs) ≡ None → places_from (λ g. p g || q g) n gs ≡ []
  none_left p q n [] e = refl
  none_left p q n (g ∷ gs) e = go (p g) (q g) (none_left p q (n + 1) gs) e
    where
      some : (a b : Bool) → (a || b) ≡ true → least (cond a (n ∷ places_from p (n + 1) gs) (places_from p (n + 1) gs)) (cond b (n ∷ places_from q (n + 1) gs) (places_from q (n + 1) gs)) ≡ None → ⊥
      some a b h e = let is : Some n ≡ None = sym (least_first p q a b n gs h) ∙ e in cc is

      go : (a b : Bool) → (least (places_from p (n + 1) gs) (places_from q (n + 1) gs) ≡ None → places_from (λ g. p g || q g) (n + 1) gs ≡ [])
          → least (cond a (n ∷ places_from p (n + 1) gs) (places_from p (n + 1) gs)) (cond b (n ∷ places_from q (n + 1) gs) (places_from q (n + 1) gs)) ≡ None
          → cond (a || b) (n ∷ places_from (λ g. p g || q g) (n + 1) gs) (places_from (λ g. p g || q g) (n + 1) gs) ≡ []
      go true true rest e = absurd (some true true refl e)
      go true false rest e = absurd (some true false refl e)
      go false true rest e = absurd (some false true refl e)
      go false false rest e = rest e

  pub places_by : (p q : G → Bool) (n : ℕ) (gs : List G) → ((g : G) → p g ≡ q g) → places_from p n gs ≡ places_from q n gs
  places_by p q n [] same = refl
  places_by p q n (g ∷ gs) same =
      ap (λ b. cond b (n ∷ places_from p (n + 1) gs) (places_from p (n + 1) gs)) (same g)
      ∙ ap (λ is. cond (q g) (n ∷ is) is) (places_by p q (n + 1) gs same)

  no_places : (n : ℕ) (gs : List G) → places_from (λ g. false) n gs ≡ []
  no_places n [] = refl
  no_places n (g ∷ gs) = no_places (n + 1) gs

  -- what stands at the places is what passes the test
  found_at : (test : G → Bool) (look : ℕ → Option G) (n : ℕ) (gs : List G) → ((i : ℕ) → look (n + i) ≡ slice_get gs i) → map look (places_from test n gs) ≡ map Some (kept test gs)
  found_at test look n [] there = refl
  found_at test look n (g ∷ gs) there = go (test g) (found_at test look (n + 1) gs (λ i. ap look (omega arith) ∙ there (suc i)))
    where
      first : look n ≡ Some g
      first = ap look (omega arith) ∙ there 0

      go : (b : Bool) → map look (places_from test (n + 1) gs) ≡ map Some (kept test gs)
          → map look (cond b (n ∷ places_from test (n + 1) gs) (places_from test (n + 1) gs)) ≡ map Some (cond b (g ∷ kept test gs) (kept test gs))
      go true e = ap (λ o. o ∷ map look (places_from test (n + 1) gs)) first ∙ ap (λ os. Some g ∷ os) e
      go false e = e

  kept_end : (test : G → Bool) (gs hs : List G) → kept test (gs ++ hs) ≡ kept test gs ++ kept test hs
  kept_end test [] hs = refl
  kept_end test (g ∷ gs) hs = go (test g) (kept_end test gs hs)
    where
      go : (b : Bool) → kept test (gs ++ hs) ≡ kept test gs ++ kept test hs → cond b (g ∷ kept test (gs ++ hs)) (kept test (gs ++ hs)) ≡ cond b (g ∷ kept test gs) (kept test gs) ++ kept test hs
      go true e = ap (λ ks. g ∷ ks) e
      go false e = e

  pub turned : (g : G) (gs : List G) → reverse (g ∷ gs) ≡ reverse gs ++ g ∷ []
  turned g gs = reverse-append (g ∷ []) gs

  kept_turned : (test : G → Bool) (gs : List G) → kept test (reverse gs) ≡ reverse (kept test gs)
  kept_turned test [] = refl
  kept_turned test (g ∷ gs) = ap (kept test) (turned g gs) ∙ kept_end test (reverse gs) (g ∷ []) ∙ ap (λ ks. ks ++ kept test (g ∷ [])) (kept_turned test gs) ∙ go (test g)
    where
      go : (b : Bool) → reverse (kept test gs) ++ cond b (g ∷ []) [] ≡ reverse (cond b (g ∷ kept test gs) (kept test gs))
      go true = sym (turned g (kept test gs))
      go false = append-nil (reverse (kept test gs))

  -- the places turned round are those of the list turned round
  pub found_turned : (test : G → Bool) (gs : List G) → map (slice_get gs) (reverse (places_from test 0 gs)) ≡ map Some (kept test (reverse gs))
  found_turned test gs =
      map-reverse (slice_get gs) (places_from test 0 gs)
      ∙ ap reverse (found_at test (slice_get gs) 0 gs (λ i. ap (slice_get gs) (omega arith)))
      ∙ sym (map-reverse Some (kept test gs)) ∙ ap (map Some) (sym (kept_turned test gs))

-- what may match atoms so far, and one more
pub match_more : (g : LinearRule) (xs : List Term) (x : Term) → may_match (xs ++ x ∷ []) g ≡ (may_match xs g || same_head (out-Term g.trigger) (out-Term x))
match_more g [] x = or-false (same_head (out-Term g.trigger) (out-Term x))
match_more g (y ∷ ys) x =
    ap (λ b. same_head (out-Term g.trigger) (out-Term y) || b) (match_more g ys x)
    ∙ sym (or_assoc (same_head (out-Term g.trigger) (out-Term y)) (may_match ys g) (same_head (out-Term g.trigger) (out-Term x)))

-- a call matches the rules of its head, another term none
headed_same : (f : Symbol) (us : List Term) (y : Term-F Term) → is_headed f y ≡ same_head y (Term-F.Call f us)
headed_same f us (Term-F.Call g ts) = refl
headed_same f us (Term-F.Var x) = refl
headed_same f us (Term-F.Quote v) = refl

pub call_matches : (f : Symbol) (us : List Term) (x : Term) (g : LinearRule) → x ≡ Call f us → is_of f g ≡ same_head (out-Term g.trigger) (out-Term x)
call_matches f us x g is = headed_same f us (out-Term g.trigger) ∙ ap (same_head (out-Term g.trigger)) (sym (ap out-Term is ∙ outs-Call f us))

var_none : (y : Term-F Term) (x : Symbol) → same_head y (Term-F.Var x) ≡ false
var_none (Term-F.Call g ts) x = refl
var_none (Term-F.Var y) x = refl
var_none (Term-F.Quote w) x = refl

quote_none : (y : Term-F Term) (v : Value) → same_head y (Term-F.Quote v) ≡ false
quote_none (Term-F.Call g ts) v = refl
quote_none (Term-F.Var y) v = refl
quote_none (Term-F.Quote w) v = refl

-- the places of the rules that may match one atom more
pub atom_more : (gs : List LinearRule) (xs : List Term) (x : Term) (f : Symbol) (us : List Term) → x ≡ Call f us
    → places_from (λ g. may_match xs g || is_of f g) 0 gs ≡ places_from (may_match (xs ++ x ∷ [])) 0 gs
atom_more gs xs x f us is =
    places_by (λ g. may_match xs g || is_of f g) (may_match (xs ++ x ∷ [])) 0 gs
    (λ g. ap (λ b. may_match xs g || b) (call_matches f us x g is) ∙ sym (match_more g xs x))

atom_none : (gs : List LinearRule) (xs : List Term) (x : Term) → ((y : Term-F Term) → same_head y (out-Term x) ≡ false)
    → places_from (may_match xs) 0 gs ≡ places_from (may_match (xs ++ x ∷ [])) 0 gs
atom_none gs xs x other =
    places_by (may_match xs) (may_match (xs ++ x ∷ [])) 0 gs
    (λ g. sym (or-false (may_match xs g)) ∙ ap (λ b. may_match xs g || b) (sym (other (out-Term g.trigger))) ∙ sym (match_more g xs x))

pub var_more : (gs : List LinearRule) (xs : List Term) (x : Term) (y : Symbol) → x ≡ Var y → places_from (may_match xs) 0 gs ≡ places_from (may_match (xs ++ x ∷ [])) 0 gs
var_more gs xs x y is = atom_none gs xs x (λ z. ap (same_head z) (ap out-Term is ∙ outs-Var y) ∙ var_none z y)

pub quote_more : (gs : List LinearRule) (xs : List Term) (x : Term) (v : Value) → x ≡ Quote v → places_from (may_match xs) 0 gs ≡ places_from (may_match (xs ++ x ∷ [])) 0 gs
quote_more gs xs x v is = atom_none gs xs x (λ z. ap (same_head z) (ap out-Term is ∙ outs-Quote v) ∙ quote_none z v)

pub atoms_none : (gs : List LinearRule) → places_from (may_match []) 0 gs ≡ []
atoms_none gs = no_places 0 gs

-- a loop's step and its end
pub record Merged (p q : LinearRule → Bool) (left right out all : List ℕ) : Type 0 where
  pub from : ℕ
  pub rest : List LinearRule
  pub first : left ≡ places_from p from rest
  pub second : right ≡ places_from q from rest
  pub whole : out ++ places_from (λ g. p g || q g) from rest ≡ all

pub merged_start : (p q : LinearRule → Bool) (gs : List LinearRule) (xs ys : List ℕ) → xs ≡ places_from p 0 gs → ys ≡ places_from q 0 gs → Merged p q xs ys [] (places_from (λ g. p g || q g) 0 gs)
merged_start p q gs xs ys first second = record { from = 0; rest = gs; first = first; second = second; whole = refl }

pub merged_more : (p q : LinearRule → Bool) (left right lefter righter out more all : List ℕ) (i : ℕ) → least left right ≡ Some i → lefter ≡ after i left → righter ≡ after i right → more ≡ out ++ i ∷ []
    → Merged p q left right out all → Merged p q lefter righter more all
merged_more p q left right lefter righter out more all i is l r longer m =
    let t = take_least p q m.from i m.rest (ap (λ xs. least xs (places_from q m.from m.rest)) (sym m.first) ∙ ap (least left) (sym m.second) ∙ is) in
    record {
      from = t.from;
      rest = t.rest;
      first = l ∙ ap (after i) m.first ∙ t.left;
      second = r ∙ ap (after i) m.second ∙ t.right;
      whole = ap (λ os. os ++ places_from (λ g. p g || q g) t.from t.rest) longer ∙ append_assoc out (i ∷ []) (places_from (λ g. p g || q g) t.from t.rest) ∙ ap (λ os. out ++ os) (sym t.both) ∙ m.whole;
    }

pub merged_end : (p q : LinearRule → Bool) (left right out all : List ℕ) → least left right ≡ None → Merged p q left right out all → out ≡ all
merged_end p q left right out all is m =
    sym (append-nil out)
    ∙ ap (λ os. out ++ os) (sym (none_left p q m.from m.rest (ap (λ xs. least xs (places_from q m.from m.rest)) (sym m.first) ∙ ap (least left) (sym m.second) ∙ is)))
    ∙ m.whole
