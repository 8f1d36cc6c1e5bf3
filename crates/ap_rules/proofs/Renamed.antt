-- Renaming lists of different lengths.
use Rattle.std.proofs.Common.{◌≡◌, suc, Option, None, Some, List, [], ◌∷◌, map, length, refl, ap}
use Rattle.ap_term.specs.declared.term.Term.{Term, fold-Term}
use Rattle.ap_world.specs.Rules.{Renaming, Renames, with_renaming, rename_all, rename_step}

-- lists of different lengths don't differ by a renaming
pub rename_all-lengths : (ts us : List Term) (s : Renaming) → (length ts ≡ length us → ⊥) → rename_all (map (fold-Term Renames rename_step) ts) us s ≡ None
rename_all-lengths [] [] s h = absurd (h refl)
rename_all-lengths [] (u ∷ us) s h = refl
rename_all-lengths (t ∷ ts) [] s h = refl
rename_all-lengths (t ∷ ts) (u ∷ us) s h = go (fold-Term Renames rename_step t u s) (λ z. rename_all-lengths ts us z (λ e. h (ap (λ n. suc n) e)))
  where
    go : (o : Option Renaming) → ((z : Renaming) → rename_all (map (fold-Term Renames rename_step) ts) us z ≡ None) → with_renaming o (rename_all (map (fold-Term Renames rename_step) ts) us) ≡ None
    go None later = refl
    go (Some z) later = later z
