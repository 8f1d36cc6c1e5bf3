-- What a match gives, and where one is found.
use Rattle.std.proofs.Common.{◌≡◌, suc, Bool, true, false, ◌||◌, cond, Option, None, Some, is_some, List, [], ◌∷◌, ◌++◌, map, length, unwrap_or, ◌⊎◌, inl, inr, refl, sym, ap, ◌∙◌, subst}
use Rattle.ap_list.specs.Lists.{all_true, is_among, in_turn, Each, lookup_by}
use Rattle.ap_value.specs.declared.symbol.Symbol.{Symbol}
use Rattle.ap_value.specs.declared.value.Value.{Value}
use Rattle.ap_value.specs.Values.{symbol_eq}
use Rattle.ap_value.proofs.Equals.{both, and_true, symbol_eq-true, symbol_eq-same}
use Rattle.ap_term.specs.declared.term.Term.{Term, Var, Quote, Call, out-Term}
use Rattle.ap_term.specs.declared.term.Term.TheOpen.{Term-F}
use Rattle.ap_term.specs.declared.term.Term.TheVariants.{outs-Call}
use Rattle.ap_term.specs.Equal.{term_eq}
use Rattle.ap_term.specs.Terms.{vars_step, vars_after, subst_step, subst_of}
use Rattle.ap_term.specs.Matching.{Pairs, Matcher, noted, with_pairs, match_all, match_call, match_step, matched, bound_step, is_bound, Extends, names_in, MatchesAreLeast, MatchesAreFound}
use Rattle.ap_term.proofs.Equals.{term_eq-true, term_eq-is}
use Rattle.ap_term.proofs.Induction.{term_ind, fold_var, fold_quote, fold_call, OutSays, out_says}

-- the instance of a term, and whether its variables have pairs, at each kind of term
subst_var : (s : Pairs) (x : Symbol) → subst_of s (Var x) ≡ unwrap_or (lookup_by symbol_eq s x) (Var x)
subst_var s x = fold_var (subst_step s) x

subst_quote : (s : Pairs) (q : Value) → subst_of s (Quote q) ≡ Quote q
subst_quote s q = fold_quote (subst_step s) q

subst_call : (s : Pairs) (f : Symbol) (ts : List Term) → subst_of s (Call f ts) ≡ Call f (map (subst_of s) ts)
subst_call s f ts = fold_call (subst_step s) f ts

-- lists of different lengths don't match
pub match_all-lengths : (ls us : List Term) (s : Pairs) → (length ls ≡ length us → ⊥) → match_all (map matched ls) us s ≡ None
match_all-lengths [] [] s h = absurd (h refl)
match_all-lengths [] (u ∷ us) s h = refl
match_all-lengths (l ∷ ls) [] s h = refl
match_all-lengths (l ∷ ls) (u ∷ us) s h = go (matched l u s) (λ z. match_all-lengths ls us z (λ e. h (ap (λ n. suc n) e)))
  where
    go : (o : Option Pairs) → ((z : Pairs) → match_all (map matched ls) us z ≡ None) → with_pairs o (match_all (map matched ls) us) ≡ None
    go None later = refl
    go (Some z) later = later z

pub extends_more : (s y z : Pairs) → Extends s y → Extends y z → Extends s z
extends_more s y z p q x t h = q x t (p x t h)

pub extends_by : (s new : Pairs) → Extends s (s ++ new)
extends_by [] new x t h = cc
extends_by (p ∷ ps) new x t h = choose (symbol_eq x p.0) (extends_by ps new x t) h
  where
    choose : (b : Bool) → (lookup_by symbol_eq ps x ≡ Some t → lookup_by symbol_eq (ps ++ new) x ≡ Some t)
        → cond b (Some p.1) (lookup_by symbol_eq ps x) ≡ Some t → cond b (Some p.1) (lookup_by symbol_eq (ps ++ new) x) ≡ Some t
    choose true k l = l
    choose false k l = k l

lookup_end : (s : Pairs) (x : Symbol) (t : Term) → lookup_by symbol_eq s x ≡ None → lookup_by symbol_eq (s ++ (x, t) ∷ []) x ≡ Some t
lookup_end [] x t h = ap (λ b. cond b (Some t) None) (symbol_eq-same x)
lookup_end (p ∷ ps) x t h = choose (symbol_eq x p.0) (lookup_end ps x t) h
  where
    choose : (b : Bool) → (lookup_by symbol_eq ps x ≡ None → lookup_by symbol_eq (ps ++ (x, t) ∷ []) x ≡ Some t)
        → cond b (Some p.1) (lookup_by symbol_eq ps x) ≡ None → cond b (Some p.1) (lookup_by symbol_eq (ps ++ (x, t) ∷ []) x) ≡ Some t
    choose true k l = cc
    choose false k l = k l

-- a variable has a pair where it is one of the names
among_names : (s : Pairs) (x : Symbol) → is_among symbol_eq x (names_in s) ≡ is_some (lookup_by symbol_eq s x)
among_names [] x = refl
among_names (p ∷ ps) x = choose (symbol_eq x p.0) (among_names ps x)
  where
    choose : (b : Bool) → is_among symbol_eq x (names_in ps) ≡ is_some (lookup_by symbol_eq ps x) → (b || is_among symbol_eq x (names_in ps)) ≡ is_some (cond b (Some p.1) (lookup_by symbol_eq ps x))
    choose true k = refl
    choose false k = k

names_end : (s : Pairs) (x : Symbol) (t : Term) → names_in (s ++ (x, t) ∷ []) ≡ names_in s ++ x ∷ []
names_end [] x t = refl
names_end (p ∷ ps) x t = ap (λ xs. p.0 ∷ xs) (names_end ps x t)

join_three : (s a b : Pairs) → (s ++ a) ++ b ≡ s ++ (a ++ b)
join_three [] a b = refl
join_three (p ∷ ps) a b = ap (λ xs. p ∷ xs) (join_three ps a b)

join_none : (s : Pairs) → s ≡ s ++ []
join_none [] = refl
join_none (p ∷ ps) = ap (λ xs. p ∷ xs) (join_none ps)

-- what a match gives: pairs behind those that it began with, in order, under which and under any more the pattern is the term
pub record Gives (l u : Term) (s z : Pairs) : Type 0 where
  pub behind : (new : Pairs) × (z ≡ s ++ new)
  pub in_order : names_in z ≡ vars_after l (names_in s)
  pub under : (y : Pairs) → Extends z y → (is_bound y l ≡ true) × (subst_of y l ≡ u)

-- the same of several patterns
record GiveAll (ls us : List Term) (s z : Pairs) : Type 0 where
  behind : (new : Pairs) × (z ≡ s ++ new)
  in_order : names_in z ≡ in_turn (map vars_after ls) (names_in s)
  under : (y : Pairs) → Extends z y → (all_true (map (is_bound y) ls) ≡ true) × (map (subst_of y) ls ≡ us)

pub behind_extends : (s z : Pairs) → (new : Pairs) × (z ≡ s ++ new) → Extends s z
behind_extends s z h = subst (Extends s) (sym h.1) (extends_by s h.0)

abbrev Fits : Term → Matcher → Type 0
Fits l m = (u : Term) (s z : Pairs) → m u s ≡ Some z → Gives l u s z

fits_variable : (x : Symbol) → Fits (Var x) (matched (Var x))
fits_variable x = subst (Fits (Var x)) (sym (fold_var match_step x)) (λ u s z h. go u s z (lookup_by symbol_eq s x) refl h)
  where
    under : (u : Term) (z y : Pairs) → lookup_by symbol_eq z x ≡ Some u → Extends z y → (is_bound y (Var x) ≡ true) × (subst_of y (Var x) ≡ u)
    under u z y h more = (
      fold_var (bound_step y) x ∙ ap (λ o. is_some o) (more x u h),
      subst_var y x ∙ ap (λ o. unwrap_or o (Var x)) (more x u h),
    )

    order : (s : Pairs) (o : Option Term) → lookup_by symbol_eq s x ≡ o → vars_after (Var x) (names_in s) ≡ cond (is_some o) (names_in s) (names_in s ++ x ∷ [])
    order s o q = ap (λ m. m (names_in s)) (fold_var vars_step x) ∙ ap (λ b. cond b (names_in s) (names_in s ++ x ∷ [])) (among_names s x ∙ ap (λ o. is_some o) q)

    go : (u : Term) (s z : Pairs) → (o : Option Term) → lookup_by symbol_eq s x ≡ o → noted x u s o ≡ Some z → Gives (Var x) u s z
    go u s z None q h =
        let same : (s ++ (x, u) ∷ []) ≡ z = cc in
        subst (Gives (Var x) u s) same
        (record {
          behind = ((x, u) ∷ [], refl);
          in_order = names_end s x u ∙ sym (order s None q);
          under = λ y more. under u (s ++ (x, u) ∷ []) y (lookup_end s x u q) more;
        })
    go u s z (Some t) q h = kept (term_eq t u) refl h
      where
        kept : (b : Bool) → term_eq t u ≡ b → cond b (Some s) None ≡ Some z → Gives (Var x) u s z
        kept true p h =
            let same : s ≡ z = cc in
            subst (Gives (Var x) u s) same
            (record {
              behind = ([], join_none s);
              in_order = sym (order s (Some t) q);
              under = λ y more. under u s y (q ∙ ap Some (term_eq-true t u p)) more;
            })
        kept false p h = cc

fits_quoted : (v : Value) → Fits (Quote v) (matched (Quote v))
fits_quoted v = subst (Fits (Quote v)) (sym (fold_quote match_step v)) (λ u s z h. go u s z (term_eq (Quote v) u) refl h)
  where
    go : (u : Term) (s z : Pairs) → (b : Bool) → term_eq (Quote v) u ≡ b → cond b (Some s) None ≡ Some z → Gives (Quote v) u s z
    go u s z true p h =
        let same : s ≡ z = cc in
        subst (Gives (Quote v) u s) same
        (record {
          behind = ([], join_none s);
          in_order = sym (ap (λ m. m (names_in s)) (fold_quote vars_step v));
          under = λ y more. (fold_quote (bound_step y) v, subst_quote y v ∙ term_eq-true (Quote v) u p);
        })
    go u s z false p h = cc

fits_all : (ls : List Term) → Each (λ l. Fits l (matched l)) ls → (us : List Term) (s z : Pairs) → match_all (map matched ls) us s ≡ Some z → GiveAll ls us s z
fits_all [] es [] s z h =
    let same : s ≡ z = cc in
    subst (GiveAll [] [] s) same (record { behind = ([], join_none s); in_order = refl; under = λ y more. (refl, refl) })
fits_all [] es (u ∷ us) s z h = cc
fits_all (l ∷ ls) es [] s z h = cc
fits_all (l ∷ ls) es (u ∷ us) s z h = go (matched l u s) refl (λ q. fits_all ls es.1 us q z) h
  where
    go : (o : Option Pairs) → matched l u s ≡ o → ((q : Pairs) → match_all (map matched ls) us q ≡ Some z → GiveAll ls us q z)
        → with_pairs o (match_all (map matched ls) us) ≡ Some z → GiveAll (l ∷ ls) (u ∷ us) s z
    go None p later h = cc
    go (Some q) p later h =
        let first = es.0 u s q p in
        let rest = later q h in
        record {
          behind = (first.behind.0 ++ rest.behind.0, rest.behind.1 ∙ ap (λ xs. xs ++ rest.behind.0) first.behind.1 ∙ join_three s first.behind.0 rest.behind.0);
          in_order = rest.in_order ∙ ap (in_turn (map vars_after ls)) first.in_order;
          under = λ y more.
              let a = first.under y (extends_more q z y (behind_extends q z rest.behind) more) in
              let b = rest.under y more in
              (and_true (is_bound y l) (all_true (map (is_bound y) ls)) a.0 b.0, ap (λ t. t ∷ map (subst_of y) ls) a.1 ∙ ap (λ ts. u ∷ ts) b.1);
        }

fits_call : (f : Symbol) (ls : List Term) → Each (λ l. Fits l (matched l)) ls → Fits (Call f ls) (matched (Call f ls))
fits_call f ls es = subst (Fits (Call f ls)) (sym (fold_call match_step f ls)) (λ u s z h. go u s z (out-Term u) (out_says u) h)
  where
    go : (u : Term) (s z : Pairs) → (y : Term-F Term) → OutSays u y → match_call f (map matched ls) y s ≡ Some z → Gives (Call f ls) u s z
    go u s z (Term-F.Var x) q h = cc
    go u s z (Term-F.Quote v) q h = cc
    go u s z (Term-F.Call g us) q h = heads (symbol_eq f g) refl h
      where
        heads : (b : Bool) → symbol_eq f g ≡ b → cond b (match_all (map matched ls) us s) None ≡ Some z → Gives (Call f ls) u s z
        heads false p h = cc
        heads true p h =
            let rest = fits_all ls es us s z h in
            record {
              behind = rest.behind;
              in_order = rest.in_order ∙ sym (ap (λ m. m (names_in s)) (fold_call vars_step f ls));
              under = λ y more.
                  let r = rest.under y more in
                  (fold_call (bound_step y) f ls ∙ r.0, subst_call y f ls ∙ ap (Call f) r.1 ∙ ap (λ h. Call h us) (symbol_eq-true f g p) ∙ sym q);
            }

pub match_gives : (l u : Term) (s z : Pairs) → matched l u s ≡ Some z → Gives l u s z
match_gives = term_ind (λ l. Fits l (matched l)) fits_variable fits_quoted fits_call

-- what is found with one pair more at the end
end_cases : (s : Pairs) (x : Symbol) (u : Term) (w : Symbol) (t : Term) → lookup_by symbol_eq (s ++ (x, u) ∷ []) w ≡ Some t → (lookup_by symbol_eq s w ≡ Some t) ⊎ ((w ≡ x) × (u ≡ t))
end_cases [] x u w t h = go (symbol_eq w x) refl h
  where
    go : (b : Bool) → symbol_eq w x ≡ b → cond b (Some u) None ≡ Some t → (None ≡ Some t) ⊎ ((w ≡ x) × (u ≡ t))
    go true q h = inr (symbol_eq-true w x q, cc)
    go false q h = cc
end_cases (p ∷ ps) x u w t h = go (symbol_eq w p.0) (λ k. end_cases ps x u w t k) h
  where
    go : (b : Bool) → (lookup_by symbol_eq (ps ++ (x, u) ∷ []) w ≡ Some t → (lookup_by symbol_eq ps w ≡ Some t) ⊎ ((w ≡ x) × (u ≡ t)))
        → cond b (Some p.1) (lookup_by symbol_eq (ps ++ (x, u) ∷ []) w) ≡ Some t → (cond b (Some p.1) (lookup_by symbol_eq ps w) ≡ Some t) ⊎ ((w ≡ x) × (u ≡ t))
    go true later h = inl h
    go false later h = later h

-- pairs under which the pattern is the term: a match is found, and gives some of them
abbrev Finds : Term → Matcher → Type 0
Finds l m = (u : Term) (s y : Pairs) → Extends s y → is_bound y l ≡ true → subst_of y l ≡ u → (z : Pairs) × (m u s ≡ Some z) × Extends z y

pub match_finds : (l u : Term) (s y : Pairs) → Extends s y → is_bound y l ≡ true → subst_of y l ≡ u → (z : Pairs) × (matched l u s ≡ Some z) × Extends z y
match_finds = term_ind (λ l. Finds l (matched l)) variable quoted call
  where
    variable : (x : Symbol) → Finds (Var x) (matched (Var x))
    variable x = subst (Finds (Var x)) (sym (fold_var match_step x)) (λ u s y more b h.
        go u s y more h (lookup_by symbol_eq y x) refl (rw (fold_var (bound_step y) x) at b) (lookup_by symbol_eq s x) refl)
      where
        go : (u : Term) (s y : Pairs) → Extends s y → subst_of y (Var x) ≡ u → (o : Option Term) → lookup_by symbol_eq y x ≡ o → is_some o ≡ true → (q : Option Term) → lookup_by symbol_eq s x ≡ q
            → (z : Pairs) × (noted x u s q ≡ Some z) × Extends z y
        go u s y more h None p b q r = cc
        go u s y more h (Some t) p b None r = (s ++ (x, u) ∷ [], refl, λ w v k. ends w v (end_cases s x u w v k))
          where
            is : t ≡ u
            is = sym (subst_var y x ∙ ap (λ o. unwrap_or o (Var x)) p) ∙ h

            ends : (w : Symbol) (v : Term) → (lookup_by symbol_eq s w ≡ Some v) ⊎ ((w ≡ x) × (u ≡ v)) → lookup_by symbol_eq y w ≡ Some v
            ends w v (inl k) = more w v k
            ends w v (inr k) = subst (λ w. lookup_by symbol_eq y w ≡ Some v) (sym k.0) (p ∙ ap Some (is ∙ k.1))
        go u s y more h (Some t) p b (Some v) r =
            let same : Some t ≡ Some v = sym p ∙ more x v r in
            let is : v ≡ u = ap (λ o. unwrap_or o (Var x)) (sym same ∙ sym p) ∙ sym (subst_var y x) ∙ h in
            (s, rw (term_eq-is v u is) refl, more)

    quoted : (v : Value) → Finds (Quote v) (matched (Quote v))
    quoted v = subst (Finds (Quote v)) (sym (fold_quote match_step v)) (λ u s y more b h.
        let is : Quote v ≡ u = sym (subst_quote y v) ∙ h in
        (s, rw (term_eq-is (Quote v) u is) refl, more))

    all : (ls : List Term) → Each (λ l. Finds l (matched l)) ls → (s y : Pairs) → Extends s y → all_true (map (is_bound y) ls) ≡ true
        → (z : Pairs) × (match_all (map matched ls) (map (subst_of y) ls) s ≡ Some z) × Extends z y
    all [] es s y more b = (s, refl, more)
    all (l ∷ ls) es s y more b =
        let p = both (is_bound y l) (all_true (map (is_bound y) ls)) b in
        let first = es.0 (subst_of y l) s y more p.0 refl in
        let rest = all ls es.1 first.0 y first.2 p.1 in
        (rest.0, ap (λ o. with_pairs o (match_all (map matched ls) (map (subst_of y) ls))) first.1 ∙ rest.1, rest.2)

    call : (f : Symbol) (ls : List Term) → Each (λ l. Finds l (matched l)) ls → Finds (Call f ls) (matched (Call f ls))
    call f ls es = subst (Finds (Call f ls)) (sym (fold_call match_step f ls)) (λ u s y more b h.
        let is : Call f (map (subst_of y) ls) ≡ u = sym (subst_call y f ls) ∙ h in
        let r = all ls es s y more (rw (fold_call (bound_step y) f ls) at b) in
        (r.0, subst (λ w. match_call f (map matched ls) (out-Term w) s ≡ Some r.0) is (rw (outs-Call f (map (subst_of y) ls), symbol_eq-same f) r.1), r.2))

pub matches_least : MatchesAreLeast
matches_least l u s z h =
    let g = match_gives l u s z h in
    let here = g.under z (λ x t k. k) in
    record {
      takes = record { extends = behind_extends s z g.behind; bound = here.0; instance = here.1 };
      behind = g.behind;
      in_order = g.in_order;
      least = λ y k.
          let f = match_finds l u s y k.extends k.bound k.instance in
          let same : f.0 ≡ z = one f.0 (sym f.1 ∙ h) in
          subst (λ z. Extends z y) same f.2;
    }
  where
    one : (q : Pairs) → Some q ≡ Some z → q ≡ z
    one q e = cc

pub matches_found : MatchesAreFound
matches_found l u s h y k =
    let f = match_finds l u s y k.extends k.bound k.instance in
    no f.0 (sym h ∙ f.1)
  where
    no : (q : Pairs) → None ≡ Some q → ⊥
    no q e = cc

-- where every variable of a term has a pair, more pairs give the same instance
pub bound_alike : (s z : Pairs) (u : Term) → Extends s z → is_bound s u ≡ true → subst_of z u ≡ subst_of s u
bound_alike s z u more = term_ind Goal variable quoted call u
  where
    Goal : Term → Type 0
    Goal u = is_bound s u ≡ true → subst_of z u ≡ subst_of s u

    same : (x : Symbol) (o : Option Term) → lookup_by symbol_eq s x ≡ o → is_some o ≡ true → subst_of z (Var x) ≡ subst_of s (Var x)
    same x None q h = cc
    same x (Some t) q h = subst_var z x ∙ ap (λ o. unwrap_or o (Var x)) (more x t q ∙ sym q) ∙ sym (subst_var s x)

    variable : (x : Symbol) → Goal (Var x)
    variable x h = same x (lookup_by symbol_eq s x) refl (rw (fold_var (bound_step s) x) at h)

    quoted : (v : Value) → Goal (Quote v)
    quoted v h = subst_quote z v ∙ sym (subst_quote s v)

    args : (ts : List Term) → Each Goal ts → all_true (map (is_bound s) ts) ≡ true → map (subst_of z) ts ≡ map (subst_of s) ts
    args [] es h = refl
    args (t ∷ ts) es h =
        let p = both (is_bound s t) (all_true (map (is_bound s) ts)) h in
        ap (λ u. u ∷ map (subst_of z) ts) (es.0 p.0) ∙ ap (λ us. subst_of s t ∷ us) (args ts es.1 p.1)

    call : (f : Symbol) (ts : List Term) → Each Goal ts → Goal (Call f ts)
    call f ts es h = subst_call z f ts ∙ ap (Call f) (args ts es (rw (fold_call (bound_step s) f ts) at h)) ∙ sym (subst_call s f ts)
