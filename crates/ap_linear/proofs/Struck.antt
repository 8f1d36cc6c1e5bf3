-- Those that are struck aren't missed, and the test is right.
use Rattle.std.proofs.Common.{◌≡◌, ℕ, zero, suc, Bool, true, false, cond, not, ℤ, pos, ◌+ℤ◌, ◌*ℤ◌, List, [], ◌∷◌, Option, Some, None, refl, ap, sym, subst, ◌∙◌}
use Rattle.std.proofs.Math.IntN.{zero-*ℤ, +ℤ_idl}
use Rattle.ap_term.specs.declared.term.Term.{Term}
use Rattle.ap_poly.specs.Polynomials.{Polynomial, value}
use Rattle.ap_poly.specs.Elimination.{lin}
use Rattle.ap_poly.specs.Holding.{weighted, OneEach}
use Rattle.ap_poly.proofs.Certified.{lin_certifies}
use Rattle.ap_linear.specs.OneSign.{has_lone, unstruck, is_hopeless, NoCertificate, chosen, StruckIn, UnusedIn}
use Rattle.ap_linear.proofs.Lone.{lone_unused, none_negative_none}

-- multipliers that aren't kept are 0
abbrev Zeros : List Bool → List ℕ → Type 0
Zeros bs [] = Unit {0}
Zeros [] (k ∷ ks) = Unit {0}
Zeros (b ∷ bs) (k ∷ ks) = (b ≡ false → k ≡ 0) × Zeros bs ks

zeros : (qs : List Polynomial) (bs : List Bool) (ks : List ℕ) (ps : List Polynomial) → OneEach ks ps → StruckIn qs bs ps → UnusedIn qs ks ps → Zeros bs ks
zeros qs bs [] ps e h u = tt
zeros qs [] (k ∷ ks) ps e h u = tt
zeros qs (b ∷ bs) (k ∷ ks) [] e h u = absurd e
zeros qs (b ∷ bs) (k ∷ ks) (p ∷ ps) e h u = (λ f. u.0 (h.0 f), zeros qs bs ks ps e h.1 u.1)

chosen_each : (bs : List Bool) (ks : List ℕ) (ps : List Polynomial) → OneEach ks ps → OneEach (chosen bs ks) (chosen bs ps)
chosen_each bs [] [] e = tt
chosen_each bs [] (p ∷ ps) e = absurd e
chosen_each bs (k ∷ ks) [] e = absurd e
chosen_each [] (k ∷ ks) (p ∷ ps) e = e
chosen_each (true ∷ bs) (k ∷ ks) (p ∷ ps) e = chosen_each bs ks ps e
chosen_each (false ∷ bs) (k ∷ ks) (p ∷ ps) e = chosen_each bs ks ps e

chosen_weighs : (r : Term → ℤ) (bs : List Bool) (ks : List ℕ) (ps : List Polynomial) → OneEach ks ps → Zeros bs ks → weighted r (chosen bs ks) (chosen bs ps) ≡ weighted r ks ps
chosen_weighs r bs [] [] e z = refl
chosen_weighs r bs [] (p ∷ ps) e z = absurd e
chosen_weighs r bs (k ∷ ks) [] e z = absurd e
chosen_weighs r [] (k ∷ ks) (p ∷ ps) e z = refl
chosen_weighs r (true ∷ bs) (k ∷ ks) (p ∷ ps) e z = ap (λ w. pos k *ℤ value r p +ℤ w) (chosen_weighs r bs ks ps e z.1)
chosen_weighs r (false ∷ bs) (k ∷ ks) (p ∷ ps) e z =
    chosen_weighs r bs ks ps e z.1
    ∙ sym (ap (λ (n : ℕ). pos n *ℤ value r p +ℤ weighted r ks ps) (z.0 refl) ∙ ap (λ w. w +ℤ weighted r ks ps) (zero-*ℤ (value r p)) ∙ +ℤ_idl (weighted r ks ps))

pub striking_safe : (bs : List Bool) (ps : List Polynomial) → StruckIn ps bs ps → NoCertificate (chosen bs ps) → NoCertificate ps
striking_safe bs ps h none by c =
    none (chosen bs by) (record {
      each = chosen_each bs by ps c.each;
      sum = c.sum;
      negative = c.negative;
      constant = λ r. chosen_weighs r bs by ps c.each (zeros ps bs by ps c.each h (lone_unused ps by c)) ∙ c.constant r;
    })

-- one round, as flags
abbrev flags : List Polynomial → List Polynomial → List Bool
flags qs [] = []
flags qs (p ∷ ps) = not (has_lone qs p.parts) ∷ flags qs ps

flags_strike : (qs ps : List Polynomial) → StruckIn qs (flags qs ps) ps
flags_strike qs [] = tt
flags_strike qs (p ∷ ps) = (go (has_lone qs p.parts), flags_strike qs ps)
  where
    go : (b : Bool) → not b ≡ false → b ≡ true
    go true h = refl
    go false h = cc

flags_leave : (qs ps : List Polynomial) → chosen (flags qs ps) ps ≡ unstruck qs ps
flags_leave qs [] = refl
flags_leave qs (p ∷ ps) = go (has_lone qs p.parts) (flags_leave qs ps)
  where
    go : (b : Bool) → chosen (flags qs ps) ps ≡ unstruck qs ps → cond (not b) (p ∷ chosen (flags qs ps) ps) (chosen (flags qs ps) ps) ≡ cond b (unstruck qs ps) (p ∷ unstruck qs ps)
    go true h = h
    go false h = ap (λ l. p ∷ l) h

round_safe : (ps : List Polynomial) → NoCertificate (unstruck ps ps) → NoCertificate ps
round_safe ps h = striking_safe (flags ps ps) ps (flags_strike ps ps) (subst NoCertificate (sym (flags_leave ps ps)) h)

hopeless_none : (n : ℕ) (ps : List Polynomial) → is_hopeless n ps ≡ true → NoCertificate ps
hopeless_none zero ps h = none_negative_none ps h
hopeless_none (suc n) ps h = round_safe ps (hopeless_none n (unstruck ps ps) h)

pub none_found : (ps : List Polynomial) → NoCertificate ps → lin ps ≡ None
none_found ps h = go (lin ps) refl
  where
    go : (o : Option (List ℕ)) → lin ps ≡ o → o ≡ None
    go None e = refl
    go (Some by) e = absurd (h by (lin_certifies ps by e))

pub hopeless_found : (n : ℕ) (ps : List Polynomial) → is_hopeless n ps ≡ true → lin ps ≡ None
hopeless_found n ps h = none_found ps (hopeless_none n ps h)
