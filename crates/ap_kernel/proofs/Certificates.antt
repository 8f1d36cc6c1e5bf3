-- A certificate passes the test that a derivation asks of it, and what the derivation gives of one.
use Rattle.std.proofs.Common.{◌≡◌, ℕ, Bool, true, false, cond, ◌&&◌, ℤ, pos, ◌+ℤ◌, ◌*ℤ◌, ◌<ℤ◌, int_lt, List, [], ◌∷◌, ◌++◌, map, Option, Some, None, refl, ap, sym, ◌∙◌, subst, arith}
use Rattle.std.proofs.Math.IntN.{*ℤ-zero, *ℤ_comm, +ℤ_idl, +ℤ_idr}
use Rattle.std.proofs.lemmas.Int.{ints}
use Rattle.std.specs.Option.{option_map}
use Rattle.ap_list.specs.Lists.{Each, all_true, joined}
use Rattle.ap_list.proofs.Eachs.{each_append}
use Rattle.ap_value.specs.Values.{int_eq}
use Rattle.ap_value.proofs.Equals.{both, and_true, int_eq-same}
use Rattle.ap_term.specs.declared.term.Term.{Term}
use Rattle.ap_term.specs.Equal.{term_eq}
use Rattle.ap_world.specs.Facts.{KnownFacts}
use Rattle.ap_world.specs.Sound.{known}
use Rattle.ap_world.specs.World.{Shown, function_of}
use Rattle.ap_world.proofs.Knowing.{true_each}
use Rattle.ap_poly.specs.Bounds.{first_atoms}
use Rattle.ap_poly.specs.Polynomials.{Parts, Polynomial, parts_value, value}
use Rattle.ap_poly.specs.Holding.{weighted, OneEach, IsCertificate}
use Rattle.ap_poly.proofs.Integers.{swap4, over_times, one_times}
use Rattle.ap_kernel.specs.declared.derivations.Row.TheVariants as row
use Rattle.ap_kernel.specs.declared.linear.Why.{Why}
use Rattle.ap_kernel.specs.declared.objects.Ctx.{Ctx}
use Rattle.ap_kernel.specs.declared.objects.Equiv.{Equiv}
use Rattle.ap_kernel.specs.Answers.{said}
use Rattle.ap_kernel.specs.Certificates
use Rattle.ap_kernel.specs.Certificates.{share, sum_by, one_each, is_left_out, is_certificate, each_comes, all_shown, asks_of, source_of, shown_of, source_terms, sources_terms, all_asked}
use Rattle.ap_kernel.specs.Deriving.{equiv, listed, why_of, said_of}
use Rattle.ap_kernel.specs.Linear.{is_comparison, refuted_made}
use Rattle.ap_kernel.specs.Reasons.{AllGiven}
use Rattle.ap_kernel.specs.Splits.{and_then}
use Rattle.ap_kernel.specs.Standing.{Stands}
use Rattle.ap_kernel.proofs.Derived.{listed_by, all_said, all_stand, equivs_all, is_so, facts_known, both_known}

-- an atom read as 1 and all else as 0 gives a polynomial its constant and the atom's share
abbrev at : Term → Term → ℤ
at x u = cond (term_eq u x) (pos 1) (pos 0)

share_read : (x : Term) (k : ℤ) (b : Bool) → k *ℤ cond b (pos 1) (pos 0) ≡ cond b k (pos 0)
share_read x k true = *ℤ_comm k (pos 1) ∙ one_times k
share_read x k false = *ℤ-zero k

parts_read : (x : Term) (ps : Parts) → parts_value (at x) ps ≡ share x ps
parts_read x [] = refl
parts_read x (p ∷ ps) = ap (λ z. z +ℤ parts_value (at x) ps) (share_read x p.1 (term_eq p.0 x)) ∙ ap (λ z. cond (term_eq p.0 x) p.1 (pos 0) +ℤ z) (parts_read x ps)

-- all read as 0 gives it its constant
none_read : (ps : Parts) → parts_value (λ u. pos 0) ps ≡ pos 0
none_read [] = refl
none_read (p ∷ ps) = ap (λ z. z +ℤ parts_value (λ u. pos 0) ps) (*ℤ-zero p.1) ∙ +ℤ_idl (parts_value (λ u. pos 0) ps) ∙ none_read ps

constants_read : (ns : List ℕ) (ps : List Polynomial) → weighted (λ u. pos 0) ns ps ≡ sum_by (λ (p : Polynomial). p.constant) ns ps
constants_read [] ps = refl
constants_read (n ∷ ns) [] = refl
constants_read (n ∷ ns) (p ∷ ps) =
    ap (λ z. pos n *ℤ z +ℤ weighted (λ u. pos 0) ns ps) (ap (λ z. p.constant +ℤ z) (none_read p.parts) ∙ +ℤ_idr p.constant)
    ∙ ap (λ z. pos n *ℤ p.constant +ℤ z) (constants_read ns ps)

shares_read : (x : Term) (ns : List ℕ) (ps : List Polynomial)
    → weighted (at x) ns ps ≡ sum_by (λ (p : Polynomial). p.constant) ns ps +ℤ sum_by (λ (p : Polynomial). share x p.parts) ns ps
shares_read x [] ps = refl
shares_read x (n ∷ ns) [] = refl
shares_read x (n ∷ ns) (p ∷ ps) =
    ap (λ z. pos n *ℤ (p.constant +ℤ z) +ℤ weighted (at x) ns ps) (parts_read x p.parts)
    ∙ ap (λ z. z +ℤ weighted (at x) ns ps) (over_times (pos n) p.constant (share x p.parts))
    ∙ ap (λ z. (pos n *ℤ p.constant +ℤ pos n *ℤ share x p.parts) +ℤ z) (shares_read x ns ps)
    ∙ swap4 (pos n *ℤ p.constant) (pos n *ℤ share x p.parts) (sum_by (λ (p : Polynomial). p.constant) ns ps) (sum_by (λ (p : Polynomial). share x p.parts) ns ps)

-- so in a sum that is constant no atom is left
none_left : (a b : ℤ) → a +ℤ b ≡ a → b ≡ pos 0
none_left a b h = omega (arith, ints)

left_out : (ps : List Polynomial) (ns : List ℕ) → IsCertificate ps ns → (x : Term) → is_left_out ns ps x ≡ true
left_out ps ns c x =
    let none = none_left (sum_by (λ (p : Polynomial). p.constant) ns ps) (sum_by (λ (p : Polynomial). share x p.parts) ns ps)
    (sym (shares_read x ns ps) ∙ c.constant (at x) ∙ sym (c.constant (λ u. pos 0)) ∙ constants_read ns ps) in
    subst (λ z. int_eq z (pos 0) ≡ true) (sym none) (int_eq-same (pos 0))

all_left_out : (ps : List Polynomial) (ns : List ℕ) → IsCertificate ps ns → (xs : List Term) → all_true (map (is_left_out ns ps) xs) ≡ true
all_left_out ps ns c [] = refl
all_left_out ps ns c (x ∷ xs) = and_true _ _ (left_out ps ns c x) (all_left_out ps ns c xs)

each_one : (ns : List ℕ) (ps : List Polynomial) → OneEach ns ps → one_each ns ps ≡ true
each_one [] [] h = refl
each_one (n ∷ ns) (p ∷ ps) h = each_one ns ps h
each_one [] (p ∷ ps) h = absurd h
each_one (n ∷ ns) [] h = absurd h

less_so : (n : ℤ) → n <ℤ pos 0 → int_lt n (pos 0) ≡ true
less_so n h = grind (arith, ints)

pub certificate_passes : (ps : List Polynomial) (ns : List ℕ) → IsCertificate ps ns → is_certificate ps ns ≡ true
certificate_passes ps ns c =
    and_true _ _ (each_one ns ps c.each) (and_true _ _ (all_left_out ps ns c (first_atoms ps))
    (subst (λ z. int_lt z (pos 0) ≡ true) (sym (c.constant (λ u. pos 0)) ∙ constants_read ns ps) (less_so c.sum c.negative)))

-- what is so of each reason is so of all
module _ (w : Shown) (c : Ctx) (u : Term) (s : Bool) where
  given_comes : (ps : List Polynomial) (ys : List Why) → AllGiven w c u s ps ys → each_comes w c u s ps (map source_of ys) ≡ true
  given_comes [] [] h = refl
  given_comes (p ∷ ps) (y ∷ ys) h = and_true _ _ h.0.comes (given_comes ps ys h.1)
  given_comes [] (y ∷ ys) h = absurd h
  given_comes (p ∷ ps) [] h = absurd h

  given_known : (ps : List Polynomial) (ys : List Why) → AllGiven w c u s ps ys → Each (λ x. known (function_of w.entries) x ≡ true) (sources_terms (map source_of ys))
  given_known [] [] h = tt
  given_known (p ∷ ps) (y ∷ ys) h = each_append (λ x. known (function_of w.entries) x ≡ true) (source_terms (source_of y)) (sources_terms (map source_of ys)) h.0.terms (given_known ps ys h.1)
  given_known [] (y ∷ ys) h = absurd h
  given_known (p ∷ ps) [] h = absurd h

  given_stand : (ps : List Polynomial) (ys : List Why) → AllGiven w c u s ps ys → Each (Stands w) (joined (map shown_of ys))
  given_stand [] [] h = tt
  given_stand (p ∷ ps) (y ∷ ys) h = each_append (Stands w) (shown_of y) (joined (map shown_of ys)) h.0.stand (given_stand ps ys h.1)
  given_stand [] (y ∷ ys) h = absurd h
  given_stand (p ∷ ps) [] h = absurd h

  both_shown : (hs : List Term) (qs : List Equiv) (js : List Term) (rs : List Equiv) → all_shown c hs (said qs) ≡ true → all_shown c js (said rs) ≡ true
      → all_shown c (hs ++ js) (said (qs ++ rs)) ≡ true
  both_shown [] [] js rs h k = k
  both_shown (t ∷ hs) (q ∷ qs) js rs h k = let parts = both _ _ h in and_true _ _ parts.0 (both_shown hs qs js rs parts.1 k)
  both_shown [] (q ∷ qs) js rs h k = cc
  both_shown (t ∷ hs) [] js rs h k = cc

  given_shown : (ps : List Polynomial) (ys : List Why) → AllGiven w c u s ps ys → all_shown c (all_asked w (map source_of ys)) (said (joined (map shown_of ys))) ≡ true
  given_shown [] [] h = refl
  given_shown (p ∷ ps) (y ∷ ys) h = both_shown (asks_of w (source_of y)) (shown_of y) (all_asked w (map source_of ys)) (joined (map shown_of ys)) h.0.shown (given_shown ps ys h.1)
  given_shown [] (y ∷ ys) h = absurd h
  given_shown (p ∷ ps) [] h = absurd h

-- by_certificate
pub certificate_derived : (w : Shown) (c : Ctx) (u : Term) (s : Bool) (ps : List Polynomial) (ys : List Why) (ns : List ℕ) → KnownFacts (function_of w.entries) c.0 → known (function_of w.entries) u ≡ true
    → is_comparison u ≡ true → AllGiven w c u s ps ys → IsCertificate ps ns
    → said_of w (listed (row.ByCertificate c u s ps (map source_of ys) ns) (map why_of (joined (map shown_of ys)))) ≡ Some (equiv (refuted_made c u s))
certificate_derived w c u s ps ys ns facts k compared given cert =
    let qs : List Equiv = joined (map shown_of ys) in
    listed_by w (row.ByCertificate c u s ps (map source_of ys) ns) (map why_of qs) (map equiv (said qs)) (equiv (refuted_made c u s))
    (and_true _ _ k (both_known _ _ _ (true_each (known (function_of w.entries)) (sources_terms (map source_of ys)) (given_known w c u s ps ys given)) (facts_known (function_of w.entries) c.0 facts)))
    (all_said w qs (all_stand w qs (given_stand w c u s ps ys given)))
    (ap (λ o. and_then o (λ zs. option_map equiv (Certificates.certificate_says w c u s ps (map source_of ys) ns zs))) (equivs_all (said qs))
    ∙ ap (option_map equiv) (is_so _ (refuted_made c u s)
    (and_true _ _ compared (and_true _ _ (given_comes w c u s ps ys given) (and_true _ _ (given_shown w c u s ps ys given) (certificate_passes ps ns cert))))))
