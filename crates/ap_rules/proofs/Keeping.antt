-- An index with the heads of its rules, as rules are added at the end and taken away there.
use Rattle.std.proofs.Common.{◌≡◌, ℕ, zero, suc, ◌+◌, ◌-◌, ◌<◌, ◌≤◌, Bool, true, false, cond, List, [], ◌∷◌, ◌++◌, map, length, take, drop, Option, Some, None, Result, Ok, Err, OnErr, slice_get, refl, sym, ap, ◌∙◌, subst, append_assoc, arith}
use Rattle.std.proofs.lemmas.List.{map-append, length-append, length-map, append-nil, length_push, same_from_push}
use Rattle.std.specs.Prelude.{MatchOption}
use Rattle.ap_value.specs.declared.symbol.Symbol.{Symbol}
use Rattle.ap_value.specs.Values.{symbol_eq}
use Rattle.ap_term.specs.declared.term.Term.{Term, out-Term}
use Rattle.ap_term.specs.declared.term.Term.TheOpen.{Term-F}
use Rattle.ap_world.specs.declared.entry.Entry.{Entry}
use Rattle.ap_world.specs.Prescribing.{called}
use Rattle.ap_world.specs.Rules.{Rule, newest_first, rules_in_entry, rules_in}
use Rattle.ap_world.proofs.Prescribed.{all_but_last}
use Rattle.ap_rules.specs.declared.rule.RewriteRule.{RewriteRule}
use Rattle.ap_rules.specs.Made.{rule_in}
use Rattle.ap_rules.specs.Grouped.{Table, group_at, with_first, without_first}
use Rattle.ap_rules.specs.Indexed.{kept, may_begin, rules_for}
use Rattle.ap_rules.specs.declared.carrying.Carrier.{Carrier}
use Rattle.ap_rules.specs.declared.linear.LinearRule.{LinearRule}
use Rattle.ap_rules.specs.Linear.{linear_in_entry, all_linear}
use Rattle.ap_rules.specs.Index.{IsIndex}
use Rattle.ap_rules.specs.Carried.{Has, head_in, Keeps, all_of, all_rules, starts_from, RewritesCarried, LinearCarried, Carried}

-- what holds anyhow holds on an error
pub on_err_by : {T E : Type 0} {Q : Type 0} (r : Result T E) → Q → OnErr r Q
on_err_by (Ok x) q = tt
on_err_by (Err e) q = q

no_push : {A : Type 0} (xs : List A) (x : A) → [] ≡ xs ++ x ∷ [] → ⊥
no_push xs x h = let n : 0 ≡ length xs + 1 = ap length h ∙ length_push xs x in omega (arith, n)

-- a rule by its head
begins_by : (f h : Symbol) (y : Term-F Term) → called y ≡ Some h → may_begin f y ≡ symbol_eq h f
begins_by f h (Term-F.Call g ts) e = let same : g ≡ h = cc in ap (λ k. symbol_eq k f) same
begins_by f h (Term-F.Var x) e = absurd (cc e)
begins_by f h (Term-F.Quote v) e = absurd (cc e)

-- with one rule more before those of its head
pub has_more : (old new : Table) (h : Symbol) (g : RewriteRule) (gs : List Rule) → head_in (rule_in g) ≡ Some h
    → ((f : Symbol) → group_at new f ≡ with_first (symbol_eq h f) g (group_at old f)) → Has old gs → Has new (rule_in g ∷ gs)
has_more old new h g gs head added has f =
    ap (map rule_in) (added f) ∙ go (symbol_eq h f) ∙ ap (λ b. cond b (rule_in g ∷ rules_for f gs) (rules_for f gs)) (sym (begins_by f h (out-Term g.lhs) head))
  where
    go : (b : Bool) → map rule_in (with_first b g (group_at old f)) ≡ cond b (rule_in g ∷ rules_for f gs) (rules_for f gs)
    go true = ap (λ rs. rule_in g ∷ rs) (has f)
    go false = has f

map_rest : (xs : List RewriteRule) (r : Rule) (rs : List Rule) → map rule_in xs ≡ r ∷ rs → map rule_in (drop 1 xs) ≡ rs
map_rest [] r rs e = absurd (cc e)
map_rest (x ∷ xs) r rs e = cc

-- without the first of those of its head
pub has_less : (old new : Table) (h : Symbol) (r : Rule) (gs : List Rule) → head_in r ≡ Some h
    → ((f : Symbol) → group_at new f ≡ without_first (symbol_eq h f) (group_at old f)) → Has old (r ∷ gs) → Has new gs
has_less old new h r gs head removed has f =
    ap (map rule_in) (removed f) ∙ go (symbol_eq h f) (has f ∙ ap (λ b. cond b (r ∷ rules_for f gs) (rules_for f gs)) (begins_by f h (out-Term r.lhs) head))
  where
    go : (b : Bool) → map rule_in (group_at old f) ≡ cond b (r ∷ rules_for f gs) (rules_for f gs) → map rule_in (without_first b (group_at old f)) ≡ rules_for f gs
    go true e = map_rest (group_at old f) r (rules_for f gs) e
    go false e = e

pub newest_append : (xs ys : List Rule) → newest_first (xs ++ ys) ≡ newest_first ys ++ newest_first xs
newest_append [] ys = sym (append-nil (newest_first ys))
newest_append (x ∷ xs) ys = ap (λ zs. zs ++ x ∷ []) (newest_append xs ys) ∙ append_assoc (newest_first ys) (newest_first xs) (x ∷ [])

pub newest_last : (rs : List Rule) (r : Rule) → newest_first (rs ++ r ∷ []) ≡ r ∷ newest_first rs
newest_last rs r = newest_append rs (r ∷ [])

-- an element that was added last is taken off again
pub popped : {A : Type 0} (xs more left : List A) (x : A) (o : Option A) → more ≡ xs ++ x ∷ [] → MatchOption o ((more ≡ []) × (left ≡ [])) (λ last. more ≡ left ++ last ∷ []) → left ≡ xs
popped xs more left x None e (none, gone) = absurd (no_push xs x (sym none ∙ e))
popped xs more left x (Some y) e is = (same_from_push left xs y x (sym is ∙ e)).0

-- a rule comes to those so far
pub came : (qs : List Rule) (g : RewriteRule) (left rest : List RewriteRule) (all : List Rule) → left ≡ g ∷ rest → qs ++ map rule_in left ≡ all → (qs ++ rule_in g ∷ []) ++ map rule_in rest ≡ all
came qs g left rest all is h = append_assoc qs (rule_in g ∷ []) (map rule_in rest) ∙ ap (λ gs. qs ++ map rule_in gs) (sym is) ∙ h

-- the same table under another of the same groups
pub has_same : (old new : Table) (gs : List Rule) → ((f : Symbol) → group_at new f ≡ group_at old f) → Has old gs → Has new gs
has_same old new gs same has f = ap (map rule_in) (same f) ∙ has f

-- one rule more
pub keeps_more : (old new : Table) (hs more : List Symbol) (h : Symbol) (g : RewriteRule) (rs : List Rule) → head_in (rule_in g) ≡ Some h → more ≡ hs ++ h ∷ []
    → ((f : Symbol) → group_at new f ≡ with_first (symbol_eq h f) g (group_at old f)) → Keeps old hs rs → Keeps new more (rs ++ rule_in g ∷ [])
keeps_more old new hs more h g rs head longer added k = record {
  has = subst (Has new) (sym (newest_last rs (rule_in g))) (has_more old new h g (newest_first rs) head added k.has);
  headed = ap (map Some) longer ∙ map-append Some hs (h ∷ []) ∙ ap (λ os. os ++ Some h ∷ []) k.headed ∙ ap (λ o. map head_in rs ++ o ∷ []) (sym head) ∙ sym (map-append head_in rs (rule_in g ∷ []));
}

-- as it was
pub keeps_same : (old new : Table) (hs same : List Symbol) (rs : List Rule) → same ≡ hs → ((f : Symbol) → group_at new f ≡ group_at old f) → Keeps old hs rs → Keeps new same rs
keeps_same old new hs same rs e groups k = record {
  has = has_same old new (newest_first rs) groups k.has;
  headed = ap (map Some) e ∙ k.headed;
}

-- the last of the rules that heads are of
pub record LastOf (hs : List Symbol) (h : Symbol) (qs : List Rule) : Type 0 where
  pub front : List Rule
  pub last : Rule
  pub whole : qs ≡ front ++ last ∷ []
  pub fronts : map Some hs ≡ map head_in front
  pub head : head_in last ≡ Some h

longer : (x : Symbol) (hs : List Symbol) (h : Symbol) (q : Rule) (qs : List Rule) → Some x ≡ head_in q → LastOf hs h qs → LastOf (x ∷ hs) h (q ∷ qs)
longer x hs h q qs first l = record {
  front = q ∷ l.front;
  last = l.last;
  whole = ap (λ rs. q ∷ rs) l.whole;
  fronts = ap (λ os. Some x ∷ os) l.fronts ∙ ap (λ o. o ∷ map head_in l.front) first;
  head = l.head;
}

last_of : (hs : List Symbol) (h : Symbol) (qs : List Rule) → map Some (hs ++ h ∷ []) ≡ map head_in qs → LastOf hs h qs
last_of [] h [] e = absurd (cc e)
last_of [] h (q ∷ []) e = record { front = []; last = q; whole = refl; fronts = refl; head = cc }
last_of [] h (q ∷ r ∷ qs) e = absurd (cc e)
last_of (x ∷ hs) h [] e = absurd (cc e)
last_of (x ∷ hs) h (q ∷ qs) e =
    let rest : map Some (hs ++ h ∷ []) ≡ map head_in qs = cc in
    let first : Some x ≡ head_in q = cc in
    longer x hs h q qs first (last_of hs h qs rest)

-- one rule less
pub record Lessened (table : Table) (hs : List Symbol) (qs : List Rule) : Type 0 where
  pub front : List Rule
  pub last : Rule
  pub whole : qs ≡ front ++ last ∷ []
  pub keeps : Keeps table hs front

pub keeps_less : (old new : Table) (hs fewer : List Symbol) (h : Symbol) (qs : List Rule) → hs ≡ fewer ++ h ∷ []
    → ((f : Symbol) → group_at new f ≡ without_first (symbol_eq h f) (group_at old f)) → Keeps old hs qs → Lessened new fewer qs
keeps_less old new hs fewer h qs is removed k =
    let l = last_of fewer h qs (sym (ap (map Some) is) ∙ k.headed) in
    record {
      front = l.front;
      last = l.last;
      whole = l.whole;
      keeps = record {
        has = has_less old new h l.last (newest_first l.front) l.head removed (subst (Has old) (ap newest_first l.whole ∙ newest_last l.front l.last) k.has);
        headed = l.fronts;
      };
    }

-- without the last
pub keeps_last : (old new : Table) (hs fewer : List Symbol) (h : Symbol) (rs : List Rule) → hs ≡ fewer ++ h ∷ []
    → ((f : Symbol) → group_at new f ≡ without_first (symbol_eq h f) (group_at old f)) → Keeps old hs rs → Keeps new fewer (take (length rs - 1) rs)
keeps_last old new hs fewer h rs is removed k =
    let l = keeps_less old new hs fewer h rs is removed k in
    subst (Keeps new fewer) (sym (all_but_last l.front l.last) ∙ ap (λ xs. take (length xs - 1) xs) (sym l.whole)) l.keeps

-- where there is none
pub keeps_none : (table : Table) (hs same : List Symbol) (rs : List Rule) → hs ≡ [] → same ≡ [] → Keeps table hs rs → Keeps table same (take (length rs - 1) rs)
keeps_none table hs same [] e f k = record { has = k.has; headed = ap (map Some) f }
keeps_none table hs same (r ∷ rs) e f k =
    let none : map Some hs ≡ [] = ap (map Some) e in
    let some : map Some hs ≡ head_in r ∷ map head_in rs = k.headed in
    absurd (cc (none, some))

pub take_less : {A : Type 0} (n m : ℕ) (xs : List A) → n ≤ m → take n (take m xs) ≡ take n xs
take_less zero m xs h = refl
take_less (suc n) zero xs h = absurd (omega arith)
take_less (suc n) (suc m) [] h = refl
take_less (suc n) (suc m) (x ∷ xs) h = ap (λ ys. x ∷ ys) (take_less n m xs (omega arith))

pub take_whole : {A : Type 0} (n : ℕ) (xs : List A) → length xs ≤ n → take n xs ≡ xs
take_whole zero [] h = refl
take_whole (suc n) [] h = refl
take_whole zero (x ∷ xs) h = absurd (omega arith)
take_whole (suc n) (x ∷ xs) h = ap (λ ys. x ∷ ys) (take_whole n xs (omega arith))

pub take_front : {A : Type 0} (xs ys : List A) → take (length xs) (xs ++ ys) ≡ xs
take_front [] ys = refl
take_front (x ∷ xs) ys = ap (λ zs. x ∷ zs) (take_front xs ys)

-- as many heads as rules
pub as_many : (table : Table) (hs : List Symbol) (rs : List Rule) → Keeps table hs rs → length hs ≡ length rs
as_many table hs rs k = sym (length-map hs Some) ∙ ap length k.headed ∙ length-map rs head_in

-- while more than so many stand, the last is one too many
pub one_too_many : (table : Table) (hs : List Symbol) (qs rs : List Rule) (n : ℕ) → Keeps table hs qs → n < length hs → take n qs ≡ take n rs → take n (take (length qs - 1) qs) ≡ take n rs
one_too_many table hs qs rs n k more same =
    let many : length hs ≡ length qs = as_many table hs qs k in
    take_less n (length qs - 1) qs (omega arith) ∙ same

-- once no more stand, they are the first ones
pub no_more_left : (table : Table) (hs : List Symbol) (qs rs : List Rule) (n : ℕ) → Keeps table hs qs → length hs ≤ n → take n qs ≡ take n rs → Keeps table hs (take n rs)
no_more_left table hs qs rs n k few same =
    let many : length hs ≡ length qs = as_many table hs qs k in
    subst (Keeps table hs) (sym (take_whole n qs (omega arith)) ∙ same) k

-- what stood before others
pub first_ones : (table : Table) (hs : List Symbol) (rs : List Rule) (n : ℕ) → n ≡ length hs → Keeps table hs rs → (qs : List Rule) → take n (rs ++ qs) ≡ rs
first_ones table hs rs n is k qs = ap (λ m. take m (rs ++ qs)) (is ∙ as_many table hs rs k) ∙ take_front rs qs

-- the rules of a world, newest first
pub world_rules : (W : List Entry) → rules_in W ≡ newest_first (all_rules W)
world_rules [] = refl
world_rules (y ∷ W) = ap (λ rs. rs ++ newest_first (rules_in_entry y)) (world_rules W) ∙ sym (newest_append (rules_in_entry y) (all_rules W))

-- what entries give, and where it starts
module _ {G : Type 0} (give : Entry → List G) where
  pub all_end : (W : List Entry) (y : Entry) → all_of give (W ++ y ∷ []) ≡ all_of give W ++ give y
  all_end [] y = append-nil (give y)
  all_end (z ∷ W) y = ap (λ gs. give z ++ gs) (all_end W y) ∙ sym (append_assoc (give z) (all_of give W) (give y))

  pub starts_end : (n : ℕ) (W : List Entry) (y : Entry) → starts_from give n (W ++ y ∷ []) ≡ starts_from give n W ++ (n + length (all_of give W)) ∷ []
  starts_end n [] y = ap (λ k. k ∷ []) (omega arith)
  starts_end n (z ∷ W) y =
      let sum : (n + length (give z)) + length (all_of give W) ≡ n + length (give z ++ all_of give W) = omega (arith, length-append (give z) (all_of give W)) in
      ap (λ ks. n ∷ ks) (starts_end (n + length (give z)) W y ∙ ap (λ k. starts_from give (n + length (give z)) W ++ k ∷ []) sum)

  -- where what the entries from a place on give starts
  pub start_at : (n k i : ℕ) (W : List Entry) → slice_get (starts_from give n W) k ≡ Some i → i ≡ n + length (all_of give (take k W))
  start_at n k i [] e = absurd (cc e)
  start_at n zero i (y ∷ W) e = let same : n ≡ i = cc in sym same ∙ omega arith
  start_at n (suc k) i (y ∷ W) e =
      start_at (n + length (give y)) k i W e ∙ omega (arith, length-append (give y) (all_of give (take k W)))

  rest_of : (k : ℕ) (W : List Entry) → (R : List G) × (all_of give W ≡ all_of give (take k W) ++ R)
  rest_of zero W = (all_of give W, refl)
  rest_of (suc k) [] = ([], refl)
  rest_of (suc k) (y ∷ W) =
      let (R, is) = rest_of k W in
      (R, ap (λ gs. give y ++ gs) is ∙ sym (append_assoc (give y) (all_of give (take k W)) R))

  pub first_given : (k : ℕ) (W : List Entry) → take (length (all_of give (take k W))) (all_of give W) ≡ all_of give (take k W)
  first_given k W = let (R, is) = rest_of k W in ap (take (length (all_of give (take k W)))) is ∙ take_front (all_of give (take k W)) R

  pub first_starts : (n k : ℕ) (W : List Entry) → take k (starts_from give n W) ≡ starts_from give n (take k W)
  first_starts n zero W = refl
  first_starts n (suc k) [] = refl
  first_starts n (suc k) (y ∷ W) = ap (λ ks. n ∷ ks) (first_starts (n + length (give y)) k W)

  pub no_more : (n k : ℕ) (W : List Entry) → slice_get (starts_from give n W) k ≡ None → take k W ≡ W
  no_more n zero [] e = refl
  no_more n (suc k) [] e = refl
  no_more n zero (y ∷ W) e = absurd (cc e)
  no_more n (suc k) (y ∷ W) e = ap (λ ys. y ∷ ys) (no_more (n + length (give y)) k W e)

-- the rewrite rules with one entry more
pub rewrites_more : (W : List Entry) (y : Entry) (old new : Table) (hs more : List Symbol) (ks ls : List ℕ) (gs : List RewriteRule)
    → map rule_in gs ≡ rules_in_entry y → ls ≡ ks ++ length hs ∷ []
    → ((rs : List Rule) → Keeps old hs rs → Keeps new more (rs ++ map rule_in gs))
    → RewritesCarried W old hs ks → RewritesCarried (W ++ y ∷ []) new more ls
rewrites_more W y old new hs more ks ls gs made started added c = record {
  keeps = subst (Keeps new more) (ap (λ rs. all_rules W ++ rs) made ∙ sym (all_end rules_in_entry W y)) (added (all_rules W) c.keeps);
  started = started ∙ ap (λ l. l ++ length hs ∷ []) c.started ∙ ap (λ k. starts_from rules_in_entry 0 W ++ k ∷ []) count ∙ sym (starts_end rules_in_entry 0 W y);
}
  where
    count : length hs ≡ 0 + length (all_rules W)
    count = as_many old hs (all_rules W) c.keeps ∙ omega arith

-- with the first entries alone
pub rewrites_less : (W : List Entry) (k i : ℕ) (old new : Table) (hs fewer : List Symbol) (ks ls : List ℕ)
    → slice_get ks k ≡ Some i → ls ≡ take k ks → ((rs : List Rule) → Keeps old hs rs → Keeps new fewer (take i rs))
    → RewritesCarried W old hs ks → RewritesCarried (take k W) new fewer ls
rewrites_less W k i old new hs fewer ks ls there cut kept c = record {
  keeps = subst (Keeps new fewer) (ap (λ n. take n (all_rules W)) at ∙ first_given rules_in_entry k W) (kept (all_rules W) c.keeps);
  started = cut ∙ ap (take k) c.started ∙ first_starts rules_in_entry 0 k W;
}
  where
    at : i ≡ length (all_rules (take k W))
    at = start_at rules_in_entry 0 k i W (ap (λ l. slice_get l k) (sym c.started) ∙ there) ∙ omega arith

pub rewrites_all : (W : List Entry) (k : ℕ) (table : Table) (hs : List Symbol) (ks : List ℕ) → slice_get ks k ≡ None → RewritesCarried W table hs ks → RewritesCarried (take k W) table hs ks
rewrites_all W k table hs ks none c = subst (λ X. RewritesCarried X table hs ks) (sym (no_more rules_in_entry 0 k W (ap (λ l. slice_get l k) (sym c.started) ∙ none))) c

-- the linear rules are what the entries give
linear_is : (W : List Entry) → all_linear W ≡ all_of linear_in_entry W
linear_is [] = refl
linear_is (y ∷ W) = ap (λ gs. linear_in_entry y ++ gs) (linear_is W)

pub linear_more : (W : List Entry) (y : Entry) (old new : List LinearRule) (ks ls : List ℕ) → new ≡ old ++ linear_in_entry y → ls ≡ ks ++ length old ∷ []
    → LinearCarried W old ks → LinearCarried (W ++ y ∷ []) new ls
linear_more W y old new ks ls added started c = record {
  all = added ∙ ap (λ gs. gs ++ linear_in_entry y) is ∙ sym (all_end linear_in_entry W y) ∙ sym (linear_is (W ++ y ∷ []));
  started = started ∙ ap (λ l. l ++ length old ∷ []) c.started ∙ ap (λ k. starts_from linear_in_entry 0 W ++ k ∷ []) count ∙ sym (starts_end linear_in_entry 0 W y);
}
  where
    is : old ≡ all_of linear_in_entry W
    is = c.all ∙ linear_is W

    count : length old ≡ 0 + length (all_of linear_in_entry W)
    count = ap length is ∙ omega arith

pub linear_less : (W : List Entry) (k i : ℕ) (old new : List LinearRule) (ks ls : List ℕ) → slice_get ks k ≡ Some i → ls ≡ take k ks → new ≡ take i old
    → LinearCarried W old ks → LinearCarried (take k W) new ls
linear_less W k i old new ks ls there cut kept c = record {
  all = kept ∙ ap (take i) (c.all ∙ linear_is W) ∙ ap (λ n. take n (all_of linear_in_entry W)) at ∙ first_given linear_in_entry k W ∙ sym (linear_is (take k W));
  started = cut ∙ ap (take k) c.started ∙ first_starts linear_in_entry 0 k W;
}
  where
    at : i ≡ length (all_of linear_in_entry (take k W))
    at = start_at linear_in_entry 0 k i W (ap (λ l. slice_get l k) (sym c.started) ∙ there) ∙ omega arith

pub linear_kept : (W : List Entry) (k : ℕ) (gs : List LinearRule) (ks : List ℕ) → slice_get ks k ≡ None → LinearCarried W gs ks → LinearCarried (take k W) gs ks
linear_kept W k gs ks none c = subst (λ X. LinearCarried X gs ks) (sym (no_more linear_in_entry 0 k W (ap (λ l. slice_get l k) (sym c.started) ∙ none))) c

pub rewrites_none : RewritesCarried [] [] [] []
rewrites_none = record { keeps = record { has = λ f. refl; headed = refl }; started = refl }

pub linear_none : LinearCarried [] [] []
linear_none = record { all = refl; started = refl }

-- the rules of a world are its index
pub is_index : (W : List Entry) (k : Carrier) → Carried W k → IsIndex k.rules W
is_index W k c = record { rewrites = λ f. c.rewrites.keeps.has f ∙ ap (rules_for f) (sym (world_rules W)); linear = c.linear.all }
