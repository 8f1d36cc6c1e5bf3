-- What is known of the jobs that a worker holds.
use Rattle.std.proofs.Common.{◌≡◌, List, [], ◌∷◌, ◌++◌, Option, Some, None, sym, subst}
use Rattle.std.specs.Prelude.{IfSome, option_to_list}
use Rattle.ap_list.specs.Lists.{Each}
use Rattle.ap_list.proofs.Eachs.{each_append}

module _ {A : Type 0} (P : A → Type 0) where
  last_there : (rest : List A) (last : Option A) → Each P (rest ++ option_to_list last) → IfSome last P
  last_there [] None e = tt
  last_there [] (Some x) e = e.0
  last_there (y ∷ rest) last e = last_there rest last e.1

  -- of what is taken off the end it is known as before
  pub known_of_last : (old new : List A) (last : Option A) → old ≡ new ++ option_to_list last → Each P old → IfSome last P
  known_of_last old new last is known = last_there new last (subst (Each P) is known)

  -- and of what is put there
  pub known_with_last : (old new : List A) (last : A) → new ≡ old ++ last ∷ [] → Each P old → P last → Each P new
  known_with_last old new last is known one = subst (Each P) (sym is) (each_append P old (last ∷ []) known (one, tt))
