-- Texts of which a call that failed put less than the whole.
use Rattle.std.proofs.Common.{◌≡◌, ◌≢◌, ◌∙◌, ◌-◌, ◌<◌, ℕ, zero, suc, Bool, true, false, List, [], ◌∷◌, ◌++◌, length, take, drop, Option, refl, ap, sym, append_assoc, length-drop, take-append-drop, arith}
use Rattle.ap_outside.specs.Gains.{Gained, GainedPart}
use Rattle.ap_outside.proofs.Gains.{gained_more}
use Rattle.ap_books.specs.Bodies.{Turn, Body, go_on}
use Rattle.ap_books.proofs.Showing.{SoFar}
use Rattle.ap_session.specs.Acts.{GainedLess}

-- what stands before something isn't nothing
left_more : (rest t : List ℕ) → rest ≢ [] → rest ++ t ≢ []
left_more [] t left = absurd (left refl)
left_more (x ∷ rest) t left = λ none. cc

-- the first bytes of a text that has more
pub less_begun : (a b c : Option (List ℕ)) (n : ℕ) (text : List ℕ) → Gained a b (take n text) → c ≡ b → n < length text → GainedLess a c text
less_begun a b c n text p e more = record {
  part = take n text;
  rest = drop n text;
  whole = sym (take-append-drop n text);
  gained = e ∙ p;
  left = λ none. let same = ap length none in let left = length-drop n text in omega (arith, same, left);
}

-- the same text under another name
pub less_to : (a b : Option (List ℕ)) (s t : List ℕ) → GainedLess a b s → s ≡ t → GainedLess a b t
less_to a b s t p e = record { part = p.part; rest = p.rest; whole = sym e ∙ p.whole; gained = p.gained; left = p.left }

-- within the first of two texts
pub less_first : (a b : Option (List ℕ)) (s t : List ℕ) → GainedLess a b s → GainedLess a b (s ++ t)
less_first a b s t p = record {
  part = p.part;
  rest = p.rest ++ t;
  whole = ap (λ text. text ++ t) p.whole ∙ append_assoc p.part p.rest t;
  gained = p.gained;
  left = left_more p.rest t p.left;
}

-- within the second
pub less_next : (a b c : Option (List ℕ)) (s t : List ℕ) → Gained a b s → GainedLess b c t → GainedLess a c (s ++ t)
less_next a b c s t p q = record {
  part = s ++ q.part;
  rest = q.rest;
  whole = ap (λ text. s ++ text) q.whole ∙ sym (append_assoc s q.part q.rest);
  gained = gained_more a b c s q.part p q.gained;
  left = q.left;
}

-- of no text nothing is left
pub none_left : (a b : Option (List ℕ)) → ¬ GainedLess a b []
none_left a b p = p.left (nothing p.part p.rest (sym p.whole))
  where
    nothing : (s t : List ℕ) → s ++ t ≡ [] → t ≡ []
    nothing [] t e = e
    nothing (x ∷ s) t e = absurd cc

-- within a turn
pub less_within : (S X : Type 0) (from mid now : Option (List ℕ)) (all : Body S X) (t : Turn S X) (more : S → Body S X)
    → SoFar S X from mid all (go_on t.text t.log t.refused t.next more) → GainedLess mid now t.text → GainedLess from now all.text
less_within S X from mid now all t more so less =
    less_to from now (so.done ++ (go_on t.text t.log t.refused t.next more).text) all.text
    (less_next from mid now so.done (go_on t.text t.log t.refused t.next more).text so.gained (begins t.refused))
    (ap (λ (b : Body S X). b.text) (sym so.whole))
  where
    begins : (b : Bool) → GainedLess mid now (go_on t.text t.log b t.next more).text
    begins true = less
    begins false = less_first mid now t.text (more t.next).text less
