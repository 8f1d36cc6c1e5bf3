-- A clause with a constant other than nil among its literals holds by itself, once it is tidied.
use Rattle.std.proofs.Common.{◌≡◌, ℕ, zero, suc, Bool, true, false, true≢false, cond, ◌||◌, not, List, [], ◌∷◌, ◌++◌, map, Some, None, slice_get, ◌⊎◌, inl, inr, refl, ap, sym, ◌∙◌, subst}
use Rattle.ap_list.specs.Lists.{AnyOf, is_among}
use Rattle.ap_value.specs.Values.{val_of, value_eq}
use Rattle.ap_term.specs.declared.term.Term.{Term}
use Rattle.ap_term.specs.Equal.{term_eq}
use Rattle.ap_term.proofs.Equals.{term_eq-true}
use Rattle.ap_world.specs.Primitives.{nil}
use Rattle.ap_world.specs.Shapes.{Shape, constant, shape_of, constant_says, is_constant}
use Rattle.ap_kernel.specs.Tidying.{plain_by, plain, kept, tidied, decides, any_decides, holds_by_itself}
use Rattle.ap_kernel.proofs.ChoicesStand.{bare_of, bare_is}
use Rattle.ap_kernel.proofs.Reduced.{any_either}

-- a constant other than nil
abbrev Sure : Term → Type 0
Sure u = is_constant true u ≡ true

sure_plain : (u : Term) → Sure u → Sure (plain u)
sure_plain u h = subst Sure (sym (same (shape_of u) refl h)) h
  where
    same : (y : Shape Term) → shape_of u ≡ y → constant_says true y ≡ true → plain u ≡ u
    same (constant v) q k = ap plain_by (bare_is u ∙ ap (bare_of u) q)
    same y q k = cc

any_plain : (us : List Term) → AnyOf Sure us → AnyOf Sure (map plain us)
any_plain [] h = absurd h
any_plain (u ∷ us) (inl h) = inl (sure_plain u h)
any_plain (u ∷ us) (inr h) = inr (any_plain us h)

-- it says that it isn't nil
sure_counts : (u : Term) → Sure u → is_constant false u ≡ false
sure_counts u h = go (shape_of u) h
  where
    go : (y : Shape Term) → constant_says true y ≡ true → constant_says false y ≡ false
    go (constant v) k = turned (value_eq (val_of v) nil) k
      where
        turned : (b : Bool) → not b ≡ true → b ≡ false
        turned true k = cc
        turned false k = refl
    go y k = cc

among_sure : (u : Term) (us : List Term) → is_among term_eq u us ≡ true → Sure u → AnyOf Sure us
among_sure u [] h k = absurd (true≢false (sym h))
among_sure u (w ∷ us) h k = go (term_eq u w) refl h (λ q. among_sure u us q k)
  where
    go : (b : Bool) → term_eq u w ≡ b → (b || is_among term_eq u us) ≡ true → (is_among term_eq u us ≡ true → AnyOf Sure us) → AnyOf Sure (w ∷ us)
    go true q h more = inl (subst Sure (term_eq-true u w q) k)
    go false q h more = inr (more h)

-- it is kept, or stands before
sure_kept : (before us : List Term) → AnyOf Sure us → AnyOf Sure before ⊎ AnyOf Sure (kept before us)
sure_kept before [] h = absurd h
sure_kept before (u ∷ us) h = go (is_constant false u) refl (is_among term_eq u before) refl h (λ b k. sure_kept b us k)
  where
    in_end : AnyOf Sure before ⊎ AnyOf Sure (u ∷ []) → AnyOf Sure before ⊎ AnyOf Sure (u ∷ kept (before ++ u ∷ []) us)
    in_end (inl k) = inl k
    in_end (inr (inl k)) = inr (inl k)
    in_end (inr (inr k)) = absurd k

    later : AnyOf Sure (before ++ u ∷ []) ⊎ AnyOf Sure (kept (before ++ u ∷ []) us) → AnyOf Sure before ⊎ AnyOf Sure (u ∷ kept (before ++ u ∷ []) us)
    later (inl k) = in_end (any_either Sure before (u ∷ []) k)
    later (inr k) = inr (inr k)

    go : (n : Bool) → is_constant false u ≡ n → (m : Bool) → is_among term_eq u before ≡ m → AnyOf Sure (u ∷ us)
        → ((b : List Term) → AnyOf Sure us → AnyOf Sure b ⊎ AnyOf Sure (kept b us))
        → AnyOf Sure before ⊎ AnyOf Sure (cond (n || m) (kept before us) (u ∷ kept (before ++ u ∷ []) us))
    go true p m q (inl k) more = absurd (true≢false (sym p ∙ sure_counts u k))
    go true p m q (inr k) more = more before k
    go false p true q (inl k) more = inl (among_sure u before q k)
    go false p true q (inr k) more = more before k
    go false p false q (inl k) more = inr (inl k)
    go false p false q (inr k) more = later (more (before ++ u ∷ []) k)

sure_decides : (ts us : List Term) → AnyOf Sure us → any_decides ts us ≡ true
sure_decides ts [] h = absurd h
sure_decides ts (u ∷ us) (inl h) = rw h refl
sure_decides ts (u ∷ us) (inr h) = go (decides ts u) (sure_decides ts us h)
  where
    go : (b : Bool) → any_decides ts us ≡ true → (b || any_decides ts us) ≡ true
    go true k = refl
    go false k = k

any_at : (us : List Term) (i : ℕ) (v : Term) → slice_get us i ≡ Some v → Sure v → AnyOf Sure us
any_at [] i v h k = absurd (no_value h)
  where
    no_value : None ≡ Some v → ⊥
    no_value l = cc
any_at (u ∷ us) zero v h k = let same : u ≡ v = cc in inl (subst Sure (sym same) k)
any_at (u ∷ us) (suc i) v h k = inr (any_at us i v h k)

pub sure_holds : (us : List Term) (i : ℕ) (v : Term) → slice_get us i ≡ Some v → is_constant true v ≡ true → holds_by_itself (tidied us) ≡ true
sure_holds us i v h k = go (sure_kept [] (map plain us) (any_plain us (any_at us i v h k)))
  where
    go : AnyOf Sure [] ⊎ AnyOf Sure (tidied us) → holds_by_itself (tidied us) ≡ true
    go (inl k) = absurd k
    go (inr k) = sure_decides (tidied us) (tidied us) k
