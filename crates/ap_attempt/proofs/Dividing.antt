-- Notes that divide among walks.
use Rattle.std.proofs.Common.{ℕ, List, [], ◌∷◌, ◌++◌, refl, ap, subst, sym, ◌∙◌, append_assoc, append-nil}
use Rattle.ap_list.specs.Lists.{Each}
use Rattle.ap_names.specs.Names.{Name}
use Rattle.ap_walk.specs.declared.act.Stepped.{Stepped}
use Rattle.ap_table.specs.declared.link.DropNote.{DropNote}
use Rattle.ap_attempt.specs.Attempts.{RootedWalk}
use Rattle.ap_attempt.specs.Drops.{IsLicensed, Divided}

module _ {T : Type 0} (step : T → Stepped T) (depth : T → ℕ) (name : T → Name) where
  -- where nothing was dropped there is nothing to divide
  pub divided_none : (ws : List (RootedWalk T)) → Divided step depth name [] ws
  divided_none [] = refl
  divided_none (w ∷ ws) = ([], [], refl, tt, divided_none ws)

  pub divided_one : (w : RootedWalk T) (ns : List DropNote) → Each (IsLicensed step depth name w) ns → Divided step depth name ns (w ∷ [])
  divided_one w ns each = (ns, [], sym (append-nil ns), each, refl)

  -- notes of walks, and then those of more walks
  pub divided_more : (ns ms : List DropNote) (ws vs : List (RootedWalk T)) → Divided step depth name ns ws → Divided step depth name ms vs → Divided step depth name (ns ++ ms) (ws ++ vs)
  divided_more ns ms [] vs these those = subst (λ xs. Divided step depth name (xs ++ ms) vs) (sym these) those
  divided_more ns ms (w ∷ ws) vs these those =
      (these.0, these.1 ++ ms, ap (λ xs. xs ++ ms) these.2 ∙ append_assoc these.0 these.1 ms, these.3, divided_more these.1 ms ws vs these.4 those)
