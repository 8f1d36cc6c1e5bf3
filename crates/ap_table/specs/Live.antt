-- The list of the free and claimed nodes, kept from its end.
use Rattle.std.specs.Prelude.{◌≡◌, ℕ, Bool, true, false, List, ◌∷◌, ◌++◌, Option, Some, None}
use Rattle.std.specs.List.{slice_get}
use Rattle.ap_list.specs.Lists.{Each}
use Rattle.ap_table.specs.declared.stored.Stored.{Stored}
use Rattle.ap_table.specs.declared.stored.Stage.{Stage}
use Rattle.ap_table.specs.declared.stored.Stage.TheVariants as stage

module _ {T : Type 0} where
  abbrev pub stage_free : Stage T → Bool
  stage_free (stage.Free copy) = true
  stage_free _ = false

  abbrev pub kept_free : Option (Stored T) → Bool
  kept_free None = false
  kept_free (Some c) = stage_free c.stage

  -- the node is free
  abbrev pub free_at : List (Stored T) → ℕ → Bool
  free_at nodes k = kept_free (slice_get nodes k)

  abbrev pub stage_done : Stage T → Bool
  stage_done (stage.Put v) = true
  stage_done (stage.Closed s) = true
  stage_done _ = false

  abbrev pub kept_done : Option (Stored T) → Bool
  kept_done None = false
  kept_done (Some c) = stage_done c.stage

  -- the node is done
  abbrev pub done_at : List (Stored T) → ℕ → Bool
  done_at nodes k = kept_done (slice_get nodes k)

  abbrev pub IsBusy : List (Stored T) → ℕ → Type 0
  IsBusy nodes k = free_at nodes k ≡ false

  -- the node is free, and those that stand behind it in the list aren't
  pub record FirstFree (nodes : List (Stored T)) (live : List ℕ) (k : ℕ) : Type 0 where
    pub after : List ℕ
    pub before : List ℕ
    pub at : live ≡ after ++ k ∷ before
    pub is_free : free_at nodes k ≡ true
    pub busy : Each (IsBusy nodes) before
