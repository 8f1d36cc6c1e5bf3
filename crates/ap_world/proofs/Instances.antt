-- Instances of known terms: they are known, and mean what the term means where its variables have their replacements' values.
use Rattle.std.proofs.Common.{◌≡◌, Bool, true, false, cond, List, [], ◌∷◌, ◌++◌, map, length, zip, Option, None, Some, unwrap_or, refl, sym, ◌∙◌, subst}
use Rattle.std.proofs.Math.ListN.{length-map}
use Rattle.ap_list.specs.Lists.{Each, lookup_by}
use Rattle.ap_value.specs.declared.symbol.Symbol.{Symbol}
use Rattle.ap_value.specs.declared.value.Value.{Value}
use Rattle.ap_value.specs.Values.{symbol_eq}
use Rattle.ap_term.specs.declared.term.Term.{Term, Var, Quote, Call, out-Term}
use Rattle.ap_term.specs.declared.term.Term.TheOpen.{Term-F}
use Rattle.ap_term.specs.Equal.{term_eq}
use Rattle.ap_term.specs.Terms.{vars_after, subst_of}
use Rattle.ap_term.specs.Matching.{Pairs, Matcher, noted, with_pairs, match_all, match_call, match_step, matched, Extends}
use Rattle.ap_term.proofs.Induction.{term_ind, fold_var, fold_quote, fold_call, OutSays, out_says}
use Rattle.ap_term.proofs.Matches.{behind_extends, match_gives}
use Rattle.ap_world.specs.Primitives.{prim_of}
use Rattle.ap_world.specs.Meaning.{Defs, value_at, HasValue}
use Rattle.ap_world.specs.Sound.{known, is_head}
use Rattle.ap_world.specs.Holding.{KnownPairs, InstancesKeepValues}
use Rattle.ap_world.proofs.Knowing.{known_var, known_quote, known_head, known_args, known_by, each_true, true_each}
use Rattle.ap_world.proofs.TotalMeaning.{Apply, Models, models, val, val_is, value_is, val_var, val_subst, replaced}
use Rattle.ap_world.proofs.Coinciding.{AgreeAt, coincidence}
use Rattle.ap_world.proofs.Written.{subst_var, subst_quote, subst_call}

pub known_zip : (D : Defs) (xs : List Symbol) (us : List Term) → Each (λ u. known D u ≡ true) us → KnownPairs D (zip xs us)
known_zip D [] us ks = tt
known_zip D (x ∷ xs) [] ks = tt
known_zip D (x ∷ xs) (u ∷ us) ks = (ks.0, known_zip D xs us ks.1)

-- the instance of a known term is known
pub known_subst : (D : Defs) (s : Pairs) → KnownPairs D s → (u : Term) → known D u ≡ true → known D (subst_of s u) ≡ true
known_subst D s ks = term_ind Goal variable quoted call
  where
    Goal : Term → Type 0
    Goal u = known D u ≡ true → known D (subst_of s u) ≡ true

    found : (x : Symbol) (s : Pairs) → KnownPairs D s → known D (unwrap_or (lookup_by symbol_eq s x) (Var x)) ≡ true
    found x [] ks = known_var D x
    found x (p ∷ ps) ks = choose (symbol_eq x p.0) (found x ps ks.1)
      where
        choose : (b : Bool) → known D (unwrap_or (lookup_by symbol_eq ps x) (Var x)) ≡ true → known D (unwrap_or (cond b (Some p.1) (lookup_by symbol_eq ps x)) (Var x)) ≡ true
        choose true k = ks.0
        choose false k = k

    variable : (x : Symbol) → Goal (Var x)
    variable x k = rw (subst_var s x) (found x s ks)

    quoted : (v : Value) → Goal (Quote v)
    quoted v k = rw (subst_quote s v) (known_quote D v)

    args : (ts : List Term) → Each Goal ts → Each (λ u. known D u ≡ true) ts → Each (λ u. known D u ≡ true) (map (subst_of s) ts)
    args [] es ks = tt
    args (t ∷ ts) es ks = (es.0 ks.0, args ts es.1 ks.1)

    call : (f : Symbol) (ts : List Term) → Each Goal ts → Goal (Call f ts)
    call f ts es k =
        let n : length (map (subst_of s) ts) ≡ length ts = length-map ts (subst_of s) in
        let head : is_head D f (prim_of f) (length (map (subst_of s) ts)) ≡ true = rw n (known_head D f ts k) in
        rw (subst_call s f ts) (known_by D f (map (subst_of s) ts) head (true_each (known D) (map (subst_of s) ts) (args ts es (each_true (known D) ts (known_args D f ts k)))))

pub instances_keep : InstancesKeepValues
instances_keep D total s ks u k d e values v =
    let (A, ms) = models D total in (
      (λ h. subst (HasValue D u d) (sym (value_is D A ms (subst_of s u) e v h ∙ meant A ms)) (val_is D A ms u k d)),
      (λ h. subst (HasValue D (subst_of s u) e) (sym (value_is D A ms u d v h ∙ sym (meant A ms))) (val_is D A ms (subst_of s u) (known_subst D s ks u k) e)),
    )
  where
    at_var : (A : Apply) → Models D A → (x : Symbol) → value_at (replaced A s e) x ≡ value_at d x
    at_var A ms x = sym (val_var A x (replaced A s e)) ∙ sym (val_subst A s (Var x) e) ∙ sym (value_is D A ms (subst_of s (Var x)) e (value_at d x) (values x))

    everywhere : (A : Apply) → Models D A → (xs : List Symbol) → AgreeAt (replaced A s e) d xs
    everywhere A ms [] = tt
    everywhere A ms (x ∷ xs) = (at_var A ms x, everywhere A ms xs)

    meant : (A : Apply) → Models D A → val A (subst_of s u) e ≡ val A u d
    meant A ms = val_subst A s u e ∙ coincidence A (replaced A s e) d u (everywhere A ms (vars_after u []))

module _ (D : Defs) where
  known_end : (s : Pairs) (x : Symbol) (t : Term) → known D t ≡ true → KnownPairs D s → KnownPairs D (s ++ (x, t) ∷ [])
  known_end [] x t k ks = (k, tt)
  known_end (p ∷ ps) x t k ks = (ks.0, known_end ps x t k ks.1)

  abbrev KnowsMatch : Matcher → Type 0
  KnowsMatch m = (u : Term) (s z : Pairs) → known D u ≡ true → KnownPairs D s → m u s ≡ Some z → KnownPairs D z

  kept_pairs : (b : Bool) (s z : Pairs) → KnownPairs D s → cond b (Some s) None ≡ Some z → KnownPairs D z
  kept_pairs true s z ks h = let same : s ≡ z = cc in subst (KnownPairs D) same ks
  kept_pairs false s z ks h = cc

  -- the terms that a known term's match gives are known
  pub known_match : (l u : Term) (s z : Pairs) → known D u ≡ true → KnownPairs D s → matched l u s ≡ Some z → KnownPairs D z
  known_match = term_ind (λ l. KnowsMatch (matched l)) variable quoted call
    where
      variable : (x : Symbol) → KnowsMatch (matched (Var x))
      variable x = subst KnowsMatch (sym (fold_var match_step x)) (λ u s z k ks h. go u s z k ks (lookup_by symbol_eq s x) h)
        where
          go : (u : Term) (s z : Pairs) → known D u ≡ true → KnownPairs D s → (o : Option Term) → noted x u s o ≡ Some z → KnownPairs D z
          go u s z k ks None h = let same : (s ++ (x, u) ∷ []) ≡ z = cc in subst (KnownPairs D) same (known_end s x u k ks)
          go u s z k ks (Some t) h = kept_pairs (term_eq t u) s z ks h

      quoted : (v : Value) → KnowsMatch (matched (Quote v))
      quoted v = subst KnowsMatch (sym (fold_quote match_step v)) (λ u s z k ks h. kept_pairs (term_eq (Quote v) u) s z ks h)

      all : (ls : List Term) → Each (λ l. KnowsMatch (matched l)) ls → (us : List Term) (s z : Pairs) → Each (λ u. known D u ≡ true) us → KnownPairs D s → match_all (map matched ls) us s ≡ Some z → KnownPairs D z
      all [] es [] s z k ks h = let same : s ≡ z = cc in subst (KnownPairs D) same ks
      all [] es (u ∷ us) s z k ks h = cc
      all (l ∷ ls) es [] s z k ks h = cc
      all (l ∷ ls) es (u ∷ us) s z k ks h = go (matched l u s) refl (λ q kq. all ls es.1 us q z k.1 kq) h
        where
          go : (o : Option Pairs) → matched l u s ≡ o → ((q : Pairs) → KnownPairs D q → match_all (map matched ls) us q ≡ Some z → KnownPairs D z)
              → with_pairs o (match_all (map matched ls) us) ≡ Some z → KnownPairs D z
          go None p later h = cc
          go (Some q) p later h = later q (es.0 u s q k.0 ks p) h

      call : (f : Symbol) (ls : List Term) → Each (λ l. KnowsMatch (matched l)) ls → KnowsMatch (matched (Call f ls))
      call f ls es = subst KnowsMatch (sym (fold_call match_step f ls)) (λ u s z k ks h. go u s z k ks (out-Term u) (out_says u) h)
        where
          go : (u : Term) (s z : Pairs) → known D u ≡ true → KnownPairs D s → (y : Term-F Term) → OutSays u y → match_call f (map matched ls) y s ≡ Some z → KnownPairs D z
          go u s z k ks (Term-F.Var x) q h = cc
          go u s z k ks (Term-F.Quote v) q h = cc
          go u s z k ks (Term-F.Call g us) q h = heads (symbol_eq f g) h
            where
              heads : (b : Bool) → cond b (match_all (map matched ls) us s) None ≡ Some z → KnownPairs D z
              heads false h = cc
              heads true h = all ls es us s z (each_true (known D) us (known_args D g us (subst (λ u. known D u ≡ true) q k))) ks h

  -- what a match of a known term gives: more pairs, known, and under them and any more the pattern's instance is the term
  pub match_fits : (l u : Term) (s z : Pairs) → known D u ≡ true → KnownPairs D s → matched l u s ≡ Some z → Extends s z × KnownPairs D z × ((y : Pairs) → Extends z y → subst_of y l ≡ u)
  match_fits l u s z k ks h =
      let g = match_gives l u s z h in
      (behind_extends s z g.behind, known_match l u s z k ks h, λ y more. (g.under y more).1)
