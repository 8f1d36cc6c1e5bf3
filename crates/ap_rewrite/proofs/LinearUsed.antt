-- Linear rules on atoms, one after another: those that the index gives are as good as all.
use Rattle.std.proofs.Common.{◌≡◌, ℕ, nat_le, Bool, true, false, cond, ◌||◌, List, [], ◌∷◌, ◌++◌, map, reverse, length, slice_get, Option, Some, None, refl, sym, ap, ◌∙◌, subst}
use Rattle.std.proofs.lemmas.List.{reverse-reverse}
use mathlib.Core.List.{reverse_aux}
use Rattle.ap_list.specs.Lists.{Each}
use Rattle.ap_term.specs.declared.term.Term.{Term, out-Term}
use Rattle.ap_term.specs.declared.term.Term.TheOpen.{Term-F}
use Rattle.ap_term.specs.declared.term.Term.TheVariants.{outs-Call, outs-Var, outs-Quote}
use Rattle.ap_term.specs.Metered.{Got, By, after, known as answer}
use Rattle.ap_term.specs.Matching.{Pairs, match_step, matched}
use Rattle.ap_term.specs.Terms.{subst_of}
use Rattle.ap_term.proofs.Induction.{OutSays, out_says, fold_call}
use Rattle.ap_poly.specs.Polynomials.{Polynomial}
use Rattle.ap_rules.specs.declared.linear.LinearRule.{LinearRule}
use Rattle.ap_rules.specs.Indexed.{kept}
use Rattle.ap_rules.specs.Linear.{same_head, may_match}
use Rattle.ap_rules.specs.Shapes.{is_call}
use Rattle.ap_rewrite.specs.Arithmetic.{is_usable}
use Rattle.ap_rewrite.specs.Settings.{Setting, Place, Inner}
use Rattle.ap_rewrite.specs.Relieving.{relieve}
use Rattle.ap_rewrite.specs.Linear.{most_polys, at_match, at_atoms, with_rules}
use Rattle.ap_rewrite.specs.Answering.{used, used_at, used_each}
use Rattle.ap_rewrite.proofs.Ruled.{taken, passed, after_out, after_some}

-- each of a list, as of the list turned round
each_onto : {A : Type 0} (P : A → Type 0) (xs ys : List A) → Each P xs → Each P ys → Each P (reverse_aux xs ys)
each_onto P [] ys h k = k
each_onto P (x ∷ xs) ys h k = each_onto P xs (x ∷ ys) h.1 (h.0, k)

pub each_turned : {A : Type 0} (P : A → Type 0) (xs : List A) → Each P xs → Each P (reverse xs)
each_turned P xs h = each_onto P xs [] h tt

pub each_back : {A : Type 0} (P : A → Type 0) (xs : List A) → Each P (reverse xs) → Each P xs
each_back P xs h = subst (Each P) (reverse-reverse xs) (each_turned P (reverse xs) h)

neither : (a b : Bool) → (a || b) ≡ false → (a ≡ false) × (b ≡ false)
neither true b e = cc
neither false b e = (refl, e)

-- what follows by the same words is the same
after_same : {A B : Type 0} (g : Got A) (k l : A → By B) → ((a : A) (m : ℕ) → k a m ≡ l a m) → after g k ≡ after g l
after_same None k l h = refl
after_same (Some p) k l h = h p.0 p.1

abbrev got_one : ℕ → List Polynomial → Got (List Polynomial)
got_one m ps = Some (ps, m)

-- an instance of a rule
module _ (S : Setting) (r : Inner) (p : Place) (g : LinearRule) (ps : List Polynomial) (s : Pairs) (n m : ℕ) where
  pub match_out : None ≡ relieve r p g.hyps s n → None ≡ at_match S r p g ps (Some s) n
  match_out e = after_out _ _ e

  pub match_none : ◌≡◌ {A = Got (Option Pairs)} (Some (None, m)) (relieve r p g.hyps s n) → ◌≡◌ {A = Got (List Polynomial)} (Some (ps, m)) (at_match S r p g ps (Some s) n)
  match_none e = after_some _ _ None m _ e refl

  pub match_some : (z : Pairs) (qs : List Polynomial) → Some (Some z, m) ≡ relieve r p g.hyps s n → qs ≡ ps ++ S.arithmetic.of_literal (subst_of z g.concl) g.sign
      → Some (qs, m) ≡ at_match S r p g ps (Some s) n
  match_some z qs e is = after_some _ _ (Some z) m _ e (ap (got_one m) is)

-- a rule at each atom
module _ (S : Setting) (r : Inner) (p : Place) (g : LinearRule) (all : Got (List Polynomial)) (front rest : List Term) (x : Term) (ps : List Polynomial) (n m : ℕ) (at : front ≡ x ∷ rest)
    (is : at_atoms S r p g front ps n ≡ all) where
  begun : all ≡ at_atoms S r p g (x ∷ rest) ps n
  begun = sym is ∙ ap (λ xs. at_atoms S r p g xs ps n) at

  pub atoms_full : nat_le most_polys (length ps) ≡ true → Some (ps, n) ≡ all
  atoms_full e = taken _ _ _ _ e refl ∙ sym begun

  once : nat_le most_polys (length ps) ≡ false → all ≡ after (at_match S r p g ps (matched g.trigger x []) n) (at_atoms S r p g rest)
  once e = begun ∙ sym (passed _ _ _ _ e refl)

  pub atom_out : nat_le most_polys (length ps) ≡ false → None ≡ at_match S r p g ps (matched g.trigger x []) n → None ≡ all
  atom_out e k = after_out _ _ k ∙ sym (once e)

  pub atom_next : nat_le most_polys (length ps) ≡ false → (qs : List Polynomial) → Some (qs, m) ≡ at_match S r p g ps (matched g.trigger x []) n → at_atoms S r p g rest qs m ≡ all
  atom_next e qs k = after_some _ _ qs m _ k refl ∙ sym (once e)

pub atoms_end : (S : Setting) (r : Inner) (p : Place) (g : LinearRule) (all : Got (List Polynomial)) (front : List Term) (ps : List Polynomial) (n : ℕ) → front ≡ []
    → at_atoms S r p g front ps n ≡ all → Some (ps, n) ≡ all
atoms_end S r p g all front ps n at is = sym (ap (λ xs. at_atoms S r p g xs ps n) at) ∙ is

-- rules at places
module _ (S : Setting) (r : Inner) (p : Place) (gs : List LinearRule) (xs : List Term) (all : Got (List Polynomial)) (front rest : List ℕ) (i : ℕ) (ps : List Polynomial) (n m : ℕ)
    (at : front ≡ i ∷ rest) (is : used_each S r p gs front xs ps n ≡ all) where
  first_of : all ≡ after (used_at S r p (slice_get gs i) xs ps n) (used_each S r p gs rest xs)
  first_of = sym is ∙ ap (λ ks. used_each S r p gs ks xs ps n) at

  pub place_none : None ≡ slice_get gs i → used_each S r p gs rest xs ps n ≡ all
  place_none e = ap (λ o. after (used_at S r p o xs ps n) (used_each S r p gs rest xs)) e ∙ sym first_of

  pub place_out : (g : LinearRule) → Some g ≡ slice_get gs i → None ≡ used S r p g xs ps n → None ≡ all
  place_out g e k = after_out _ _ (k ∙ ap (λ o. used_at S r p o xs ps n) e) ∙ sym first_of

  pub place_next : (g : LinearRule) → Some g ≡ slice_get gs i → (qs : List Polynomial) → Some (qs, m) ≡ used S r p g xs ps n → used_each S r p gs rest xs qs m ≡ all
  place_next g e qs k = after_some _ _ qs m _ (k ∙ ap (λ o. used_at S r p o xs ps n) e) refl ∙ sym first_of

pub places_end : (S : Setting) (r : Inner) (p : Place) (gs : List LinearRule) (xs : List Term) (all : Got (List Polynomial)) (front : List ℕ) (ps : List Polynomial) (n : ℕ) → front ≡ []
    → used_each S r p gs front xs ps n ≡ all → Some (ps, n) ≡ all
places_end S r p gs xs all front ps n at is = sym (ap (λ ks. used_each S r p gs ks xs ps n) at) ∙ is

-- a trigger that is a call of another head than an atom's doesn't match it
apart : (l x : Term) (y z : Term-F Term) → OutSays l y → OutSays x z → is_call y ≡ true → same_head y z ≡ false → matched l x [] ≡ None
apart l x (Term-F.Call h ls) (Term-F.Call f us) q k c e = rw (q, k, fold_call match_step h ls, outs-Call f us, e) refl
apart l x (Term-F.Call h ls) (Term-F.Var v) q k c e = rw (q, k, fold_call match_step h ls, outs-Var v) refl
apart l x (Term-F.Call h ls) (Term-F.Quote v) q k c e = rw (q, k, fold_call match_step h ls, outs-Quote v) refl
apart l x (Term-F.Var v) z q k c e = cc
apart l x (Term-F.Quote v) z q k c e = cc

-- the trigger of a rule is a call
abbrev pub Triggered : LinearRule → Type 0
Triggered g = is_call (out-Term g.trigger) ≡ true

module _ (S : Setting) (r : Inner) (p : Place) where
  -- a rule whose trigger matches no atom adds nothing
  skipped : (g : LinearRule) → Triggered g → (xs : List Term) → may_match xs g ≡ false → (ps : List Polynomial) (n : ℕ) → at_atoms S r p g xs ps n ≡ Some (ps, n)
  skipped g t [] e ps n = refl
  skipped g t (x ∷ xs) e ps n =
      let both = neither (same_head (out-Term g.trigger) (out-Term x)) (may_match xs g) e in
      go (nat_le most_polys (length ps)) (matched g.trigger x []) (apart g.trigger x (out-Term g.trigger) (out-Term x) (out_says g.trigger) (out_says x) t both.0) (skipped g t xs both.1 ps n)
    where
      go : (b : Bool) (o : Option Pairs) → o ≡ None → at_atoms S r p g xs ps n ≡ Some (ps, n)
          → cond b (answer ps n) (after (at_match S r p g ps o n) (at_atoms S r p g xs)) ≡ Some (ps, n)
      go true o q h = refl
      go false None q h = h
      go false (Some s) q h = cc

  -- rules one after another
  abbrev each_used : List LinearRule → List Term → List Polynomial → By (List Polynomial)
  each_used [] xs ps n = answer ps n
  each_used (g ∷ gs) xs ps n = after (used S r p g xs ps n) (each_used gs xs)

  by_places : (gs : List LinearRule) (is : List ℕ) (hs : List LinearRule) → map (slice_get gs) is ≡ map Some hs → (xs : List Term) (ps : List Polynomial) (n : ℕ)
      → used_each S r p gs is xs ps n ≡ each_used hs xs ps n
  by_places gs [] [] e xs ps n = refl
  by_places gs [] (h ∷ hs) e xs ps n = cc
  by_places gs (i ∷ is) [] e xs ps n = cc
  by_places gs (i ∷ is) (h ∷ hs) e xs ps n =
      let first : slice_get gs i ≡ Some h = cc in
      let rest : map (slice_get gs) is ≡ map Some hs = cc in
      ap (λ o. after (used_at S r p o xs ps n) (used_each S r p gs is xs)) first
      ∙ after_same (used S r p h xs ps n) (used_each S r p gs is xs) (each_used hs xs) (λ qs m. by_places gs is hs rest xs qs m)

  -- those that may match, of which the theory enables some, and those that it enables
  filtered : (gs : List LinearRule) → Each Triggered gs → (xs : List Term) (ps : List Polynomial) (n : ℕ)
      → each_used (kept (may_match xs) gs) xs ps n ≡ with_rules S r p (kept (is_usable S.theory) gs) xs ps n
  filtered [] t xs ps n = refl
  filtered (g ∷ gs) t xs ps n = go (may_match xs g) refl (is_usable S.theory g) refl (λ qs m. filtered gs t.1 xs qs m)
    where
      go : (b : Bool) → may_match xs g ≡ b → (u : Bool) → is_usable S.theory g ≡ u
          → ((qs : List Polynomial) (m : ℕ) → each_used (kept (may_match xs) gs) xs qs m ≡ with_rules S r p (kept (is_usable S.theory) gs) xs qs m)
          → each_used (cond b (g ∷ kept (may_match xs) gs) (kept (may_match xs) gs)) xs ps n
          ≡ with_rules S r p (cond u (g ∷ kept (is_usable S.theory) gs) (kept (is_usable S.theory) gs)) xs ps n
      go true q true v more =
          ap (λ c. after (cond c (at_atoms S r p g xs ps n) (answer ps n)) (each_used (kept (may_match xs) gs) xs)) v
          ∙ after_same (at_atoms S r p g xs ps n) (each_used (kept (may_match xs) gs) xs) (with_rules S r p (kept (is_usable S.theory) gs) xs) more
      go true q false v more = ap (λ c. after (cond c (at_atoms S r p g xs ps n) (answer ps n)) (each_used (kept (may_match xs) gs) xs)) v ∙ more ps n
      go false q true v more = more ps n ∙ sym (ap (λ x. after x (with_rules S r p (kept (is_usable S.theory) gs) xs)) (skipped g t.0 xs q ps n))
      go false q false v more = more ps n

  -- the rules at the places that the index gives do what all of the world's do
  pub found_all : (gs : List LinearRule) (is : List ℕ) (xs : List Term) → Each Triggered gs → map (slice_get gs) is ≡ map Some (kept (may_match xs) (reverse gs)) → (ps : List Polynomial) (n : ℕ)
      → used_each S r p gs is xs ps n ≡ with_rules S r p (kept (is_usable S.theory) (reverse gs)) xs ps n
  found_all gs is xs t e ps n = by_places gs is (kept (may_match xs) (reverse gs)) e xs ps n ∙ filtered (reverse gs) (each_turned Triggered gs t) xs ps n
