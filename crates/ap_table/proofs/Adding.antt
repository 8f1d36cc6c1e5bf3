-- New nodes behind those that are kept.
use Rattle.std.proofs.Common.{◌≡◌, ◌≢◌, ℕ, zero, suc, ◌+◌, ◌-◌, ◌≤◌, ◌<◌, min, List, [], ◌∷◌, ◌++◌, Option, Some, None, length, refl, sym, ap, subst, ◌∙◌, arith, inl, inr, ◌⊎◌, length-append}
use Rattle.std.proofs.lemmas.Bool.{cases_lt}
use Rattle.std.specs.List.{slice_get}
use Rattle.ap_list.specs.Lists.{Each}
use Rattle.ap_walk.specs.Visits.{Visit}
use Rattle.ap_walk.specs.declared.act.Stepped.{Stepped}
use Rattle.ap_walk.specs.declared.rule.Rule.{Rule}
use Rattle.ap_walk.specs.declared.rule.Tally.{Tally}
use Rattle.ap_word.specs.Stops.{NONE}
use Rattle.ap_table.specs.declared.link.Link.{Link}
use Rattle.ap_table.specs.declared.stored.Stored.{Stored}
use Rattle.ap_table.specs.declared.stored.Stage.{Stage}
use Rattle.ap_table.specs.declared.stored.Stage.TheVariants as stage
use Rattle.ap_table.specs.Shown.{alter, fresh, NoMore}
use Rattle.ap_table.specs.Sums.{stage_sum, kept_sum, sum_at, sums_of, total, pushes_of, goals_of, ended_of, IsTold, HasKids, FamilyKept, Placed, Kids, WordsBut, nothing_told}
use Rattle.ap_table.proofs.Showing.{below_length, length_alter, length_fresh}
use Rattle.ap_table.proofs.Keeping.{same_or_not}
use Rattle.ap_table.proofs.Totals.{Sums, same_sum, zero_goes_on}
use Rattle.ap_table.proofs.Families.{get_alter_same, get_alter_other, alter_at, sum_alter, sums_same}

pub get_below : {A : Type 0} (xs ys : List A) (j : ℕ) → j < length xs → slice_get (xs ++ ys) j ≡ slice_get xs j
get_below [] ys j h = absurd (omega arith)
get_below (x ∷ xs) ys zero h = refl
get_below (x ∷ xs) ys (suc j) h = get_below xs ys j (omega arith)

pub get_above : {A : Type 0} (xs ys : List A) (j x : ℕ) → j ≡ length xs + x → slice_get (xs ++ ys) j ≡ slice_get ys x
get_above [] ys j x e = ap (slice_get ys) (let z : j ≡ x = omega arith in z)
get_above (y ∷ xs) ys zero x e = absurd (omega arith)
get_above (y ∷ xs) ys (suc j) x e = get_above xs ys j x (omega arith)

total_none : (f : Option (Option Tally) → ℕ) → f None ≡ 0 → (os : Sums) (u : ℕ) → Each (λ o. o ≡ None) os → 0 ≡ total f os u
unfolding total
total_none f z os zero h = refl
total_none f z [] (suc u) h = refl
total_none f z (o ∷ os) (suc u) h = (let a : f o ≡ 0 = ap f h.0 ∙ z in let b = total_none f z os u h.1 in omega arith)

-- nothing is told of children that aren't finished
untold : (rule : Rule) (os : Sums) → 1 ≤ rule.goal_limit → Each (λ o. o ≡ None) os → IsTold rule os nothing_told
untold rule os l h = record {
  sum = same_sum _ _ (total_none pushes_of refl os (min NONE (length os)) h) (total_none goals_of refl os (min NONE (length os)) h) (total_none ended_of refl os (min NONE (length os)) h);
  before = zero_goes_on rule l;
  stop = inl refl;
  front = tt;
}

module _ {T : Type 0} where
  fresh_free : (k : ℕ) (path : List Link) (p : ℕ) (ts : List T) (x : ℕ) (d : Stored T) → slice_get (fresh k path p ts) x ≡ Some d → (d.stage ≡ stage.Free d.task) × (d.path ≡ record { family = k; place = p + x } ∷ path) × (x < length ts)
  unfolding fresh
  fresh_free k path p [] x d e = absurd (cc)
  fresh_free k path p (t ∷ ts) zero d e =
      let c : Stored T = record { task = t; path = record { family = k; place = p } ∷ path; own = None; first = 0; count = 0; stage = stage.Free t; word = NONE; told = nothing_told } in
      let s : c ≡ d = cc in (
        subst (λ (y : Stored T). y.stage ≡ stage.Free y.task) s refl,
        sym (ap (λ (y : Stored T). y.path) s) ∙ ap (λ (n : ℕ). (let l : Link = record { family = k; place = n } in l) ∷ path) (let z : p ≡ p + 0 = omega arith in z),
        omega arith,
      )
  fresh_free k path p (t ∷ ts) (suc x) d e =
      let r = fresh_free k path (p + 1) ts x d e in
      (r.0, r.1 ∙ ap (λ (n : ℕ). (let l : Link = record { family = k; place = n } in l) ∷ path) (let z : p + 1 + x ≡ p + suc x = omega arith in z), (let a = r.2 in omega arith))

  fresh_sum : (k : ℕ) (path : List Link) (p : ℕ) (ts : List T) (x : ℕ) → kept_sum (slice_get (fresh k path p ts) x) ≡ None
  unfolding fresh
  fresh_sum k path p [] x = refl
  fresh_sum k path p (t ∷ ts) zero = refl
  fresh_sum k path p (t ∷ ts) (suc x) = fresh_sum k path (p + 1) ts x

  sums_front : (xs ys : List (Stored T)) (first n : ℕ) → first + n ≤ length xs → sums_of None (xs ++ ys) first n ≡ sums_of None xs first n
  unfolding sums_of
  sums_front xs ys first zero h = refl
  sums_front xs ys first (suc n) h =
      ap (λ x. x ∷ sums_of None (xs ++ ys) (first + 1) n) (ap kept_sum (get_below xs ys first (omega arith)))
      ∙ ap (λ l. sum_at None xs first ∷ l) (sums_front xs ys (first + 1) n (omega arith))

  sums_none : (xs : List (Stored T)) (k : ℕ) (path : List Link) (p : ℕ) (ts : List T) (first n : ℕ) → length xs ≤ first → Each (λ o. o ≡ None) (sums_of None (xs ++ fresh k path p ts) first n)
  unfolding sums_of
  sums_none xs k path p ts first zero h = tt
  sums_none xs k path p ts first (suc n) h =
      (ap kept_sum (get_above xs (fresh k path p ts) first (first - length xs) (omega arith)) ∙ fresh_sum k path p ts (first - length xs), sums_none xs k path p ts (first + 1) n (omega arith))

  -- a node of the longer list is one that was there, or a new one
  split_at : (xs : List (Stored T)) (k : ℕ) (path : List Link) (ts : List T) (j : ℕ) (d : Stored T) → slice_get (xs ++ fresh k path 0 ts) j ≡ Some d
      → (slice_get xs j ≡ Some d) ⊎ ((d.stage ≡ stage.Free d.task) × ((x : ℕ) × (j ≡ length xs + x) × (d.path ≡ record { family = k; place = x } ∷ path) × (x < length ts)))
  split_at xs k path ts j d e =
      elim (cases_lt j (length xs)) [
        | inl lt ↦ inl (sym (get_below xs (fresh k path 0 ts) j lt) ∙ e)
        | inr ge ↦
            let x = j - length xs in
            let at : j ≡ length xs + x = omega arith in
            let f = fresh_free k path 0 ts x d (sym (get_above xs (fresh k path 0 ts) j x at) ∙ e) in
            inr (f.0, (x, at, f.1 ∙ ap (λ (n : ℕ). (let l : Link = record { family = k; place = n } in l) ∷ path) (let z : 0 + x ≡ x = omega arith in z), f.2))
      ]

  no_kids : (s : Stage T) → s ≡ stage.Claimed → HasKids s → ⊥
  no_kids s e h = subst HasKids e h

  free_kids : (s : Stage T) (t : T) → s ≡ stage.Free t → HasKids s → ⊥
  free_kids s t e h = subst HasKids e h

  module _ (rule : Rule) (cs : List (Stored T)) (k first count : ℕ) (own : Option (Visit T)) (c : Stored T) (ts : List T) (at : slice_get cs k ≡ Some c) (is : c.stage ≡ stage.Claimed) (ef : first ≡ length cs) (ec : count ≡ length ts) where
    abbrev f : Stored T → Stored T
    f = λ x. record x { own = own; first = first; count = count; stage = stage.Expanded; word = NONE; told = nothing_told }

    abbrev more : List (Stored T)
    more = alter cs k f ++ fresh k c.path 0 ts

    long : length more ≡ length cs + count
    long = (let a = length-append (alter cs k f) (fresh k c.path 0 ts) in let b = length_alter cs k f in let d = length_fresh k c.path 0 ts in omega arith)

    kept_there : (j : ℕ) (m : Stored T) → j ≢ k → slice_get cs j ≡ Some m → slice_get more j ≡ Some m
    kept_there j m n e =
        let a = length_alter cs k f in
        let b = below_length cs j m e in
        get_below (alter cs k f) (fresh k c.path 0 ts) j (omega arith) ∙ (get_alter_other cs k j f n ∙ e)

    grown_there : slice_get more k ≡ Some (f c)
    grown_there =
        let a = length_alter cs k f in
        let b = below_length cs k c at in
        get_below (alter cs k f) (fresh k c.path 0 ts) k (omega arith) ∙ get_alter_same cs k c f at

    placed_more : (j : ℕ) (path : List Link) → Placed cs j path → Placed more j path
    placed_more j [] p = tt
    placed_more j (l ∷ ls) p =
        elim (same_or_not l.family k) [
          | inl s ↦ absurd (no_kids c.stage is (subst (λ (x : Stored T). HasKids x.stage) (let y : Some p.0 ≡ Some c = sym (ap (slice_get cs) (sym s) ∙ p.1) ∙ at in let z : p.0 ≡ c = cc in z) p.2))
          | inr n ↦ (p.0, kept_there l.family p.0 n p.1, p.2, p.3, p.4)
        ]

    pub expand_kids : 1 ≤ rule.goal_limit → Kids rule None cs → Kids rule None more
    expand_kids limit kids =
        let a = length_alter cs k f in
        record {
          family = λ j d e has.
              elim (split_at (alter cs k f) k c.path ts j d e) [
                | inr new ↦ absurd (free_kids d.stage d.task new.0 has)
                | inl old ↦ elim (alter_at cs k j c d f at old) [
                  | inl y ↦ subst (FamilyKept rule None more) (sym y.1) (record {
                    told = untold rule (sums_of None more first count) limit (sums_none (alter cs k f) k c.path 0 ts first count (omega arith));
                    fits = (let x = long in omega arith);
                  })
                  | inr n ↦
                      let o = kids.family j d n.1 has in
                      let fits = o.fits in
                      let same : sums_of None more d.first d.count ≡ sums_of None cs d.first d.count =
                      sums_front (alter cs k f) (fresh k c.path 0 ts) d.first d.count (omega arith) ∙ sums_same None None cs (alter cs k f) d.first d.count (sum_alter cs k c f at (sym (ap stage_sum is))) in
                      record { told = subst (λ os. IsTold rule os d.told) (sym same) o.told; fits = (let x = long in omega arith) }
                ]
              ];
          placed = λ j d e.
              elim (split_at (alter cs k f) k c.path ts j d e) [
                | inr new ↦ subst (Placed more j) (sym new.1.2) (f c, grown_there, tt, (let x = new.1.1 in omega arith), (let x = new.1.3 in omega arith))
                | inl old ↦ elim (alter_at cs k j c d f at old) [
                  | inl y ↦ subst (λ (x : List Link). Placed more j x) (sym (ap (λ (z : Stored T). z.path) y.1)) (placed_more j c.path (subst (λ (z : ℕ). Placed cs z c.path) (sym y.0) (kids.placed k c at)))
                  | inr n ↦ placed_more j d.path (kids.placed j d n.1)
                ]
              ];
        }

    pub expand_words : WordsBut [] cs → WordsBut [] more
    expand_words w j d e has =
        elim (split_at (alter cs k f) k c.path ts j d e) [
          | inr new ↦ absurd (free_kids d.stage d.task new.0 has)
          | inl old ↦ elim (alter_at cs k j c d f at old) [
            | inl y ↦ inl (ap (λ (z : Stored T). z.word) y.1 ∙ sym (ap (λ (z : Stored T). z.told.stop) y.1))
            | inr n ↦ w j d n.1 has
          ]
        ]

    pub expand_puts : (step : T → Stepped T) → NoMore step cs → NoMore step more
    expand_puts step held j d v e is' many deep few =
        elim (split_at (alter cs k f) k c.path ts j d e) [
          | inr new ↦ absurd (let z = sym new.0 ∙ is' in cc)
          | inl old ↦ elim (alter_at cs k j c d f at old) [
            | inl y ↦ absurd (let z = sym (ap (λ (x : Stored T). x.stage) y.1) ∙ is' in cc)
            | inr n ↦ held j d v n.1 is' many deep (let x = long in omega arith)
          ]
        ]
