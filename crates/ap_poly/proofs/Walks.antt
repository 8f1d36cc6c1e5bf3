-- The walks along the parts of a polynomial: what is done, and what is left to do.
use Rattle.std.proofs.Common.{◌≡◌, ℕ, suc, ◌<◌, ℤ, [], ◌∷◌, ◌++◌, take, length, get_or, Option, Some, None, refl, ap, sym, ◌∙◌}
use Rattle.std.proofs.Math.Seq.{take-suc}
use Rattle.ap_term.specs.declared.term.Term.{Term}
use Rattle.ap_poly.specs.Polynomials.{Parts, and_then, put, add_parts}

-- the parts so far before those that are left
abbrev pub onto : Parts → Option Parts → Option Parts
onto ps None = None
onto ps (Some qs) = Some (ps ++ qs)

-- of a sum the last part is put first
pub add-last : (ps : Parts) (t : Term) (k : ℤ) (qs : Parts) → add_parts (ps ++ (t, k) ∷ []) qs ≡ and_then (put t k qs) (add_parts ps)
add-last [] t k qs = go (put t k qs)
  where
    go : (o : Option Parts) → o ≡ and_then o (add_parts [])
    go None = refl
    go (Some us) = refl
add-last (p ∷ ps) t k qs = ap (λ o. and_then o (put p.0 p.1)) (add-last ps t k qs) ∙ go (put t k qs)
  where
    go : (o : Option Parts) → and_then (and_then o (add_parts ps)) (put p.0 p.1) ≡ and_then o (add_parts (p ∷ ps))
    go None = refl
    go (Some us) = refl

-- what is left to add, one part fewer
pub add-step : (ps : Parts) (i : ℕ) (t : Term) (k : ℤ) (qs : Parts) → i < length ps → (t, k) ≡ get_or ps i (t, k)
    → add_parts (take (suc i) ps) qs ≡ and_then (put t k qs) (add_parts (take i ps))
add-step ps i t k qs h e = ap (λ us. add_parts us qs) (take-suc ps i (t, k) h ∙ ap (λ p. take i ps ++ p ∷ []) (sym e)) ∙ add-last (take i ps) t k qs

pub add-turn : (ps qs : Parts) (i j : ℕ) (p : Term × ℤ) (o g : Option Parts) → i ≡ suc j → j < length ps → p ≡ get_or ps j p
    → put p.0 p.1 qs ≡ o → add_parts (take i ps) qs ≡ g → and_then o (add_parts (take j ps)) ≡ g
add-turn ps qs i j p o g n h e k l =
    sym (ap (λ r. and_then r (add_parts (take j ps))) k) ∙ sym (add-step ps j p.0 p.1 qs h e) ∙ ap (λ (m : ℕ). add_parts (take m ps) qs) (sym n) ∙ l
