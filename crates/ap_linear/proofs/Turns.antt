-- The walks of the elimination over ranks.
use Rattle.std.proofs.Common.{◌≡◌, ℕ, ◌<◌, ◌≤◌, pos, true, cond, int_lt, unsigned_abs, List, [], ◌∷◌, ◌++◌, take, length, Option, Some, None, refl, ap, sym, ◌∙◌, arith}
use Rattle.std.proofs.lemmas.List.{append_assoc, append-nil, length-append}
use Rattle.ap_linear.specs.declared.rows.Ranked.{Ranked}
use Rattle.ap_linear.specs.Ranked.{coefficient, or_fewer, meeting, with_negative, with_positive}
use Rattle.ap_linear.proofs.Walks.{take-onto}

pub positive-turn : (n i : ℕ) (rs out new : List Ranked) (p : Ranked) (rest left g : List Ranked) → p ∷ rest ≡ left → int_lt (pos 0) (coefficient i p) ≡ true
    → new ≡ take 64 (out ++ with_negative n i p rs) → take 64 (out ++ with_positive n i left rs) ≡ g → take 64 (new ++ with_positive n i rest rs) ≡ g
positive-turn n i rs out new p rest left g whole c e l =
    ap (λ ys. take 64 (ys ++ with_positive n i rest rs)) e
    ∙ take-onto 64 (out ++ with_negative n i p rs) (with_positive n i rest rs)
    ∙ ap (take 64) (append_assoc out (with_negative n i p rs) (with_positive n i rest rs))
    ∙ ap (λ b. take 64 (out ++ cond b (with_negative n i p rs ++ with_positive n i rest rs) (with_positive n i rest rs))) (sym c)
    ∙ ap (λ ps. take 64 (out ++ with_positive n i ps rs)) whole ∙ l

or_fewer-front : (o : Option Ranked) (rs : List Ranked) → or_fewer o [] ++ rs ≡ or_fewer o rs
or_fewer-front None rs = refl
or_fewer-front (Some r) rs = refl

pub one-more : (out : List Ranked) (o : Option Ranked) → length out < 64 → length (out ++ or_fewer o []) ≤ 64
one-more out None h = rw (append-nil out) (omega arith)
one-more out (Some r) h = rw (length-append out (r ∷ [])) (omega arith)

pub negative-turn : (n i : ℕ) (p q : Ranked) (out new rest left g : List Ranked) (c d : ℕ) → q ∷ rest ≡ left → int_lt (coefficient i q) (pos 0) ≡ true
    → c ≡ unsigned_abs (coefficient i p) → d ≡ unsigned_abs (coefficient i q) → new ≡ out ++ or_fewer (meeting n c p d q) []
    → take 64 (out ++ with_negative n i p left) ≡ g → take 64 (new ++ with_negative n i p rest) ≡ g
negative-turn n i p q out new rest left g c d whole h ci di e l =
    ap (λ ys. take 64 (ys ++ with_negative n i p rest)) e
    ∙ ap (take 64) (append_assoc out (or_fewer (meeting n c p d q) []) (with_negative n i p rest))
    ∙ ap (λ zs. take 64 (out ++ zs)) (or_fewer-front (meeting n c p d q) (with_negative n i p rest))
    ∙ ap (λ (m : ℕ). take 64 (out ++ or_fewer (meeting n m p d q) (with_negative n i p rest))) ci
    ∙ ap (λ (m : ℕ). take 64 (out ++ or_fewer (meeting n (unsigned_abs (coefficient i p)) p m q) (with_negative n i p rest))) di
    ∙ ap (λ b. take 64 (out ++ cond b (or_fewer (meeting n (unsigned_abs (coefficient i p)) p (unsigned_abs (coefficient i q)) q) (with_negative n i p rest)) (with_negative n i p rest))) (sym h)
    ∙ ap (λ qs. take 64 (out ++ with_negative n i p qs)) whole ∙ l
