-- What a text is after its parts are put, one after another.
use Rattle.std.proofs.Common.{◌≡◌, ℕ, List, [], ◌∷◌, ◌++◌, codes, Result, OnOk, sym, ap, ◌∙◌}
use mathlib.Core.List.{append_assoc}
use Rattle.std.proofs.lemmas.Result.{on_ok_weaker}
use Rattle.ap_term.specs.Printed.{spaced, list_text, quote_text}

-- a constant behind its quote mark
pub quote_put : {T E : Type 0} (r : Result T E) (old mid text whole now : List ℕ) → mid ≡ old ++ codes "'" → whole ≡ quote_text text → OnOk r (now ≡ mid ++ text) → OnOk r (now ≡ old ++ whole)
unfolding quote_text
quote_put r old mid text whole now e f put = on_ok_weaker r (λ h. h ∙ ap (λ xs. xs ++ text) e ∙ append_assoc old (codes "'") text ∙ ap (λ xs. old ++ xs) (sym f)) put

listed : (old head : List ℕ) (ts : List (List ℕ)) (a b c : List ℕ) → a ≡ old ++ codes "(" → b ≡ a ++ head → c ≡ b ++ spaced ts → c ++ codes ")" ≡ old ++ list_text head ts
unfolding list_text
listed old head ts a b c e f g = rw (g, f, e) (simp append_assoc)

-- a head and its parts between parentheses
pub list_put : {T E : Type 0} (r : Result T E) (old head : List ℕ) (ts : List (List ℕ)) (a b c whole now : List ℕ) → a ≡ old ++ codes "(" → b ≡ a ++ head → c ≡ b ++ spaced ts → whole ≡ list_text head ts
    → OnOk r (now ≡ c ++ codes ")") → OnOk r (now ≡ old ++ whole)
list_put r old head ts a b c whole now e f g is put = on_ok_weaker r (λ h. h ∙ listed old head ts a b c e f g ∙ ap (λ xs. old ++ xs) (sym is)) put
