-- In each certificate the polynomials that have an atom of one sign have the multiplier 0.
use Rattle.std.proofs.Common.{◌≡◌, ℕ, Bool, true, false, cond, not, ◌&&◌, ◌||◌, ℤ, pos, ◌+ℤ◌, ◌*ℤ◌, ◌≤ℤ◌, int_lt, List, [], ◌∷◌, refl, ap, sym, subst, ◌∙◌}
use Rattle.std.proofs.Math.IntN.{*ℤ-zero, +ℤ_idl, +ℤ_idr}
use Rattle.ap_term.specs.declared.term.Term.{Term}
use Rattle.ap_term.specs.Equal.{term_eq}
use Rattle.ap_term.proofs.Equals.{term_eq-same}
use Rattle.ap_value.proofs.Equals.{both}
use Rattle.ap_poly.specs.Polynomials.{Parts, Polynomial, parts_value}
use Rattle.ap_poly.specs.Holding.{weighted, IsCertificate}
use Rattle.ap_poly.proofs.Integers.{swap4, over_times, natural_times, natural_sum}
use Rattle.ap_linear.specs.OneSign.{has_sign, stands_in, stands, is_lone, has_lone, none_negative, NoCertificate, UnusedIn}
use Rattle.ap_linear.proofs.Signs.{unit, along, not_against, natural_constant, none_below, both_nothing, at_least, at_least_right, no_more, zero_natural, unused}

-- a weighted sum is that of the constants and that of what the atoms add
abbrev pub constants : List ℕ → List Polynomial → ℤ
constants (k ∷ ks) (p ∷ ps) = pos k *ℤ p.constant +ℤ constants ks ps
constants ks ps = pos 0

abbrev pub shares : (Term → ℤ) → List ℕ → List Polynomial → ℤ
shares r (k ∷ ks) (p ∷ ps) = pos k *ℤ parts_value r p.parts +ℤ shares r ks ps
shares r ks ps = pos 0

pub in_two : (r : Term → ℤ) (ks : List ℕ) (ps : List Polynomial) → weighted r ks ps ≡ constants ks ps +ℤ shares r ks ps
in_two r [] ps = refl
in_two r (k ∷ ks) [] = refl
in_two r (k ∷ ks) (p ∷ ps) =
    ap (λ z. z +ℤ weighted r ks ps) (over_times (pos k) p.constant (parts_value r p.parts))
    ∙ ap (λ z. (pos k *ℤ p.constant +ℤ pos k *ℤ parts_value r p.parts) +ℤ z) (in_two r ks ps)
    ∙ swap4 (pos k *ℤ p.constant) (pos k *ℤ parts_value r p.parts) (constants ks ps) (shares r ks ps)

-- where each atom reads as 0
abbrev pub nothing : Term → ℤ
nothing u = pos 0

parts_nothing : (ps : Parts) → parts_value nothing ps ≡ pos 0
parts_nothing [] = refl
parts_nothing (p ∷ ps) = ap (λ z. z +ℤ parts_value nothing ps) (*ℤ-zero p.1) ∙ +ℤ_idl (parts_value nothing ps) ∙ parts_nothing ps

shares_nothing : (ks : List ℕ) (ps : List Polynomial) → shares nothing ks ps ≡ pos 0
shares_nothing [] ps = refl
shares_nothing (k ∷ ks) [] = refl
shares_nothing (k ∷ ks) (p ∷ ps) =
    ap (λ z. pos k *ℤ z +ℤ shares nothing ks ps) (parts_nothing p.parts) ∙ ap (λ z. z +ℤ shares nothing ks ps) (*ℤ-zero (pos k)) ∙ +ℤ_idl (shares nothing ks ps)
    ∙ shares_nothing ks ps

-- a certificate's sum is that of the constants, and what the atoms add is nothing
pub constants_sum : (ps : List Polynomial) (by : List ℕ) (c : IsCertificate ps by) → constants by ps ≡ c.sum
constants_sum ps by c = sym (in_two nothing by ps ∙ ap (λ z. constants by ps +ℤ z) (shares_nothing by ps) ∙ +ℤ_idr (constants by ps)) ∙ c.constant nothing

pub shares_vanish : (ps : List Polynomial) (by : List ℕ) → IsCertificate ps by → (r : Term → ℤ) → shares r by ps ≡ pos 0
shares_vanish ps by c r = no_more (constants by ps) (shares r by ps) c.sum (sym (in_two r by ps) ∙ c.constant r) (constants_sum ps by c)

-- constants that aren't negative have no negative sum
natural_constants : (ks : List ℕ) (ps : List Polynomial) → none_negative ps ≡ true → pos 0 ≤ℤ constants ks ps
natural_constants [] ps h = zero_natural
natural_constants (k ∷ ks) [] h = zero_natural
natural_constants (k ∷ ks) (p ∷ ps) h =
    let (here, rest) = both (not (int_lt p.constant (pos 0))) (none_negative ps) h in
    natural_sum (pos k *ℤ p.constant) (constants ks ps) (natural_times k p.constant (natural_constant p.constant here)) (natural_constants ks ps rest)

pub none_negative_none : (ps : List Polynomial) → none_negative ps ≡ true → NoCertificate ps
none_negative_none ps h by c = none_below c.sum c.negative (subst (λ z. pos 0 ≤ℤ z) (constants_sum ps by c) (natural_constants by ps h))

or_false : (a b : Bool) → (a || b) ≡ false → (a ≡ false) × (b ≡ false)
or_false true b h = cc
or_false false b h = (refl, h)

not_true : (b : Bool) → not b ≡ true → b ≡ false
not_true true h = cc
not_true false h = refl

module _ (s : Bool) (x : Term) where
  -- one atom reads as 1 or as -1, every other one as 0
  abbrev pub reading : Term → ℤ
  reading u = cond (term_eq x u) (unit s) (pos 0)

  part_natural : (q : Term × ℤ) → (term_eq x q.0 && has_sign (not s) q.1) ≡ false → pos 0 ≤ℤ (q.1 *ℤ reading q.0)
  part_natural q h = go (term_eq x q.0) h
    where
      go : (b : Bool) → (b && has_sign (not s) q.1) ≡ false → pos 0 ≤ℤ (q.1 *ℤ cond b (unit s) (pos 0))
      go true k = not_against s q.1 k
      go false k = subst (λ z. pos 0 ≤ℤ z) (sym (*ℤ-zero q.1)) zero_natural

  part_positive : (q : Term × ℤ) → (term_eq x q.0 && has_sign s q.1) ≡ true → pos 1 ≤ℤ (q.1 *ℤ reading q.0)
  part_positive q h = go (term_eq x q.0) h
    where
      go : (b : Bool) → (b && has_sign s q.1) ≡ true → pos 1 ≤ℤ (q.1 *ℤ cond b (unit s) (pos 0))
      go true k = along s q.1 k
      go false k = cc

  parts_natural : (ps : Parts) → stands_in (not s) x ps ≡ false → pos 0 ≤ℤ parts_value reading ps
  parts_natural [] h = zero_natural
  parts_natural (q ∷ ps) h =
      let (here, rest) = or_false (term_eq x q.0 && has_sign (not s) q.1) (stands_in (not s) x ps) h in
      natural_sum (q.1 *ℤ reading q.0) (parts_value reading ps) (part_natural q here) (parts_natural ps rest)

  parts_positive : (ps : Parts) → stands_in (not s) x ps ≡ false → stands_in s x ps ≡ true → pos 1 ≤ℤ parts_value reading ps
  parts_positive [] h k = cc
  parts_positive (q ∷ ps) h k =
      let (here, rest) = or_false (term_eq x q.0 && has_sign (not s) q.1) (stands_in (not s) x ps) h in
      go (term_eq x q.0 && has_sign s q.1) refl here rest (parts_positive ps rest) k
    where
      go : (b : Bool) → (term_eq x q.0 && has_sign s q.1) ≡ b → (term_eq x q.0 && has_sign (not s) q.1) ≡ false → stands_in (not s) x ps ≡ false
          → (stands_in s x ps ≡ true → pos 1 ≤ℤ parts_value reading ps) → (b || stands_in s x ps) ≡ true → pos 1 ≤ℤ parts_value reading (q ∷ ps)
      go true e here rest later k = at_least (q.1 *ℤ reading q.0) (parts_value reading ps) (part_positive q e) (parts_natural ps rest)
      go false e here rest later k = at_least_right (q.1 *ℤ reading q.0) (parts_value reading ps) (part_natural q here) (later k)

  shares_natural : (ks : List ℕ) (ps : List Polynomial) → stands (not s) x ps ≡ false → pos 0 ≤ℤ shares reading ks ps
  shares_natural [] ps h = zero_natural
  shares_natural (k ∷ ks) [] h = zero_natural
  shares_natural (k ∷ ks) (p ∷ ps) h =
      let (here, rest) = or_false (stands_in (not s) x p.parts) (stands (not s) x ps) h in
      natural_sum (pos k *ℤ parts_value reading p.parts) (shares reading ks ps) (natural_times k (parts_value reading p.parts) (parts_natural p.parts here)) (shares_natural ks ps rest)

  -- the multipliers of those in which the atom stands are 0
  abbrev pub Unused : List ℕ → List Polynomial → Type 0
  Unused ks [] = Unit {0}
  Unused [] (p ∷ ps) = Unit {0}
  Unused (k ∷ ks) (p ∷ ps) = (stands_in s x p.parts ≡ true → k ≡ 0) × Unused ks ps

  all_unused : (ks : List ℕ) (ps : List Polynomial) → stands (not s) x ps ≡ false → shares reading ks ps ≡ pos 0 → Unused ks ps
  all_unused ks [] h e = tt
  all_unused [] (p ∷ ps) h e = tt
  all_unused (k ∷ ks) (p ∷ ps) h e =
      let (here, rest) = or_false (stands_in (not s) x p.parts) (stands (not s) x ps) h in
      let (first, others) = both_nothing (pos k *ℤ parts_value reading p.parts) (shares reading ks ps)
      (natural_times k (parts_value reading p.parts) (parts_natural p.parts here)) (shares_natural ks ps rest) e in
      (λ l. unused k (parts_value reading p.parts) (parts_positive p.parts here l) first, all_unused ks ps rest others)

  pub sign_unused : (ps : List Polynomial) (by : List ℕ) → IsCertificate ps by → stands (not s) x ps ≡ false → Unused by ps
  sign_unused ps by c h = all_unused by ps h (shares_vanish ps by c reading)

-- what stands of a part
module _ (qs : List Polynomial) where
  -- a part of the parts has a lone atom: the atom, the sign, and where it stands
  abbrev Found : Parts → Type 0
  Found ps = (s : Bool) × (x : Term) × (stands (not s) x qs ≡ false) × (stands_in s x ps ≡ true)

  or_left : (a b : Bool) → a ≡ true → (a || b) ≡ true
  or_left true b h = refl
  or_left false b h = cc

  or_right : (a b : Bool) → b ≡ true → (a || b) ≡ true
  or_right true b h = refl
  or_right false b h = h

  here_first : (s : Bool) (q : Term × ℤ) (ps : Parts) → has_sign s q.1 ≡ true → stands_in s q.0 (q ∷ ps) ≡ true
  here_first s q ps h = or_left (term_eq q.0 q.0 && has_sign s q.1) (stands_in s q.0 ps) (ap (λ b. b && has_sign s q.1) (term_eq-same q.0) ∙ h)

  one_found : (q : Term × ℤ) (ps : Parts) → is_lone qs q ≡ true → Found (q ∷ ps)
  one_found q ps h = go (has_sign true q.1 && not (stands false q.0 qs)) refl h
    where
      go : (b : Bool) → (has_sign true q.1 && not (stands false q.0 qs)) ≡ b → (b || (has_sign false q.1 && not (stands true q.0 qs))) ≡ true → Found (q ∷ ps)
      go true e k =
          let (sign, lone) = both (has_sign true q.1) (not (stands false q.0 qs)) e in
          (true, q.0, not_true (stands false q.0 qs) lone, here_first true q ps sign)
      go false e k =
          let (sign, lone) = both (has_sign false q.1) (not (stands true q.0 qs)) k in
          (false, q.0, not_true (stands true q.0 qs) lone, here_first false q ps sign)

  found : (ps : Parts) → has_lone qs ps ≡ true → Found ps
  found [] h = cc
  found (q ∷ ps) h = go (is_lone qs q) refl (found ps) h
    where
      go : (b : Bool) → is_lone qs q ≡ b → (has_lone qs ps ≡ true → Found ps) → (b || has_lone qs ps) ≡ true → Found (q ∷ ps)
      go true e later k = one_found q ps e
      go false e later k =
          let (s, x, lone, at) = later k in
          (s, x, lone, or_right (term_eq x q.0 && has_sign s q.1) (stands_in s x ps) at)

  -- each by the reading of its own lone atom
  each_unused : (ks : List ℕ) (ps : List Polynomial) → ((s : Bool) (x : Term) → stands (not s) x qs ≡ false → Unused s x ks ps) → UnusedIn qs ks ps
  each_unused ks [] h = tt
  each_unused [] (p ∷ ps) h = tt
  each_unused (k ∷ ks) (p ∷ ps) h = (
    λ l. let (s, x, lone, at) = found p.parts l in (h s x lone).0 at,
    each_unused ks ps (λ s x lone. (h s x lone).1),
  )

pub lone_unused : (ps : List Polynomial) (by : List ℕ) → IsCertificate ps by → UnusedIn ps by ps
lone_unused ps by c = each_unused ps by ps (λ s x lone. sign_unused s x ps by c lone)
