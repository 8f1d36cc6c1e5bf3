-- The atoms of polynomials rise, where their integers have 128 bits, and each part's is listed.
use Rattle.std.proofs.Common.{◌≡◌, ◌^◌, ◌<◌, inl, inr, Bool, true, false, cond, ℤ, pos, negsuc, List, [], ◌∷◌, map, refl, sym, subst, ◌∙◌, true≢false}
use Rattle.std.proofs.lemmas.Bool.{lt-ltb}
use mir.Val.{SFits}
use mir.Syntax.{w128}
use Rattle.ap_list.specs.Lists.{Each, AnyOf, all_true}
use Rattle.ap_value.specs.Fits.{fits}
use Rattle.ap_value.proofs.Equals.{both}
use Rattle.ap_term.specs.declared.term.Term.{Term}
use Rattle.ap_term.specs.Equal.{term_eq}
use Rattle.ap_term.specs.Order.{term_less}
use Rattle.ap_term.specs.Terms.{term_fits}
use Rattle.ap_term.proofs.Equals.{term_eq-true, term_eq-same}
use Rattle.ap_term.proofs.StrictOrder.{less-neither, less-transitive}
use Rattle.ap_term.proofs.PrintedApart.{terms_apart}
use Rattle.ap_poly.specs.Polynomials.{Parts, Polynomial}
use Rattle.ap_poly.specs.Elimination.{with_atom, with_atoms, atoms_of}
use Rattle.ap_poly.proofs.Ordering.{Atoms}
use Rattle.ap_linear.specs.Ranked.{Above, Rising, AllListed}

-- the type's bound as a test
pub integer_fits : (n : ℤ) → SFits w128 n → fits n ≡ true
integer_fits (pos n) h = let k : n < 2 ^ 127 = h.sfits in lt-ltb n (2 ^ 127) k
integer_fits (negsuc n) h = let k : n < 2 ^ 127 = h.sfits in lt-ltb n (2 ^ 127) k

abbrev Fits : Term → Type 0
Fits t = term_fits t ≡ true

each_fits : (us : List Term) → all_true (map term_fits us) ≡ true → Each Fits us
each_fits [] h = tt
each_fits (u ∷ us) h = let (here, rest) = both (term_fits u) (all_true (map term_fits us)) h in (here, each_fits us rest)

more_above : (t u : Term) (us : List Term) → Above t u → Each (Above u) us → Each (Above t) us
more_above t u [] h hs = tt
more_above t u (v ∷ us) h hs = (less-transitive t u v h hs.0, more_above t u us h hs.1)

-- what holds of the atoms with one more holds of that one and of the others, and the other way round
module _ (P : Term → Type 0) where
  with_each : (t : Term) (us : List Term) → P t → Each P us → Each P (with_atom t us)
  with_each t [] h hs = (h, tt)
  with_each t (u ∷ us) h hs = go (term_eq t u) (term_less t u) (with_each t us h hs.1)
    where
      go : (b c : Bool) → Each P (with_atom t us) → Each P (cond b (u ∷ us) (cond c (t ∷ u ∷ us) (u ∷ with_atom t us)))
      go true c k = hs
      go false true k = (h, hs)
      go false false k = (hs.0, k)

  of_atom : (t : Term) (us : List Term) → Each P (with_atom t us) → P t × Each P us
  of_atom t [] h = h
  of_atom t (u ∷ us) h = go (term_eq t u) refl (term_less t u) (of_atom t us) h
    where
      go : (b : Bool) → term_eq t u ≡ b → (c : Bool) → (Each P (with_atom t us) → P t × Each P us)
          → Each P (cond b (u ∷ us) (cond c (t ∷ u ∷ us) (u ∷ with_atom t us))) → P t × Each P (u ∷ us)
      go true e c next k = (subst P (sym (term_eq-true t u e)) k.0, k)
      go false e true next k = k
      go false e false next k = let (here, rest) = next k.1 in (here, (k.0, rest))

  of_atoms : (ps : Parts) (us : List Term) → Each P (with_atoms ps us) → Atoms P ps × Each P us
  of_atoms [] us h = (tt, h)
  of_atoms (p ∷ ps) us h =
      let (here, more) = of_atom p.0 (with_atoms ps us) h in
      let (parts, rest) = of_atoms ps us more in
      ((here, parts), rest)

  of_polys : (ps : List Polynomial) → Each P (atoms_of ps) → Each (λ (p : Polynomial). Atoms P p.parts) ps
  of_polys [] h = tt
  of_polys (p ∷ ps) h =
      let (parts, rest) = of_atoms p.parts (atoms_of ps) h in
      (parts, of_polys ps rest)

-- of two that fit, where the first neither is the other nor comes before it, the other comes before it
comes_before : (t u : Term) → Fits t → Fits u → term_eq t u ≡ false → term_less t u ≡ false → Above u t
comes_before t u f g e l = go (term_less u t) refl
  where
    go : (b : Bool) → term_less u t ≡ b → term_less u t ≡ true
    go true k = k
    go false k = absurd (true≢false (sym (subst (λ x. term_eq t x ≡ true) (terms_apart t u f g (less-neither t u l k)) (term_eq-same t)) ∙ e))

rises_with : (t : Term) (us : List Term) → Fits t → Each Fits us → Rising us → Rising (with_atom t us)
rises_with t [] f fs h = (tt, tt)
rises_with t (u ∷ us) f fs h = go (term_eq t u) refl (term_less t u) refl (rises_with t us f fs.1 h.1)
  where
    go : (b : Bool) → term_eq t u ≡ b → (c : Bool) → term_less t u ≡ c → Rising (with_atom t us) → Rising (cond b (u ∷ us) (cond c (t ∷ u ∷ us) (u ∷ with_atom t us)))
    go true e c l k = h
    go false e true l k = ((l, more_above t u us l h.0), h)
    go false e false l k = (with_each (Above u) t us (comes_before t u f fs.0 e l) h.0, k)

rise_with : (ps : Parts) (us : List Term) → Each Fits (with_atoms ps us) → Rising us → Rising (with_atoms ps us)
rise_with [] us f h = h
rise_with (p ∷ ps) us f h =
    let (here, rest) = of_atom Fits p.0 (with_atoms ps us) f in
    rises_with p.0 (with_atoms ps us) here rest (rise_with ps us rest h)

rise : (ps : List Polynomial) → Each Fits (atoms_of ps) → Rising (atoms_of ps)
rise [] f = tt
rise (p ∷ ps) f =
    let (parts, rest) = of_atoms Fits p.parts (atoms_of ps) f in
    rise_with p.parts (atoms_of ps) f (rise ps rest)

pub atoms_rise : (us : List Term) (ps : List Polynomial) → us ≡ atoms_of ps → all_true (map term_fits us) ≡ true → Rising us
atoms_rise us ps e h = subst Rising (sym e) (rise ps (subst (Each Fits) e (each_fits us h)))

-- each term is among those that it stands in
each_listed : (vs us : List Term) → ((x : Term) → AnyOf (λ y. y ≡ x) us → AnyOf (λ y. y ≡ x) vs) → Each (λ x. AnyOf (λ y. y ≡ x) vs) us
each_listed vs [] k = tt
each_listed vs (u ∷ us) k = (k u (inl refl), each_listed vs us (λ x h. k x (inr h)))

pub atoms_listed : (us : List Term) (ps : List Polynomial) → us ≡ atoms_of ps → AllListed us ps
atoms_listed us ps e = of_polys (λ x. AnyOf (λ y. y ≡ x) us) ps (subst (Each (λ x. AnyOf (λ y. y ≡ x) us)) e (each_listed us us (λ x h. h)))
