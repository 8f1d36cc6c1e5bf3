-- A rune that is known in a world that covers another, and not in that one, has a name that isn't there.
use Rattle.std.proofs.Common.{◌≡◌, cond, List, [], ◌∷◌, ◌⊎◌, inl, inr, Option, Some, None, refl, ap, ◌∙◌}
use Rattle.std.proofs.lemmas.Option.{none-some}
use Rattle.ap_value.specs.declared.symbol.Symbol.{Symbol}
use Rattle.ap_reader.specs.Tops.{layer_of, symbol_at, items_in}
use Rattle.ap_reader.specs.declared.form.Form.{Form}
use Rattle.ap_world.specs.declared.entry.Entry.{Entry}
use Rattle.ap_world.specs.declared.entry.Entry.TheVariants as entry
use Rattle.ap_world.specs.declared.theory.Rune.{Rune}
use Rattle.ap_world.specs.declared.theory.RuneKind.{RuneKind}
use Rattle.ap_world.specs.Alike.{SameButMask, Covers}
use Rattle.ap_world.specs.Theories.{ShownTheory, rune_of}
use Rattle.ap_world.specs.World.{Shown, as_function, as_theorem}
use Rattle.ap_hints.specs.Changes.{Changed, kind_of, known_rune, rune_by, item_by, item_runes, then_runes, all_runes, theory_by, changed_theory}
use Rattle.ap_hints.specs.Forms.{both}
use Rattle.ap_hints.specs.Runes.{runes_by, runes_named, knows_by}
use Rattle.ap_events.proofs.Lacking.{Lacks, looked}
use Rattle.ap_events.proofs.Lessening.{Finds}

-- What is found by parts.

module _ {A B C D : Type 0} (M : Type 0) (g : A → B → Option C) (h : A → B → Option D) where
  -- both are there for the first too, or this holds
  finds_both : (o n : Option A) (p m : Option B) → Finds M o n → Finds M p m → (d : D) → both h n m ≡ Some d
      → ((a : A) × (b : B) × (both g o p ≡ g a b) × (h a b ≡ Some d)) ⊎ ((both g o p ≡ None) × M)
  finds_both o None p m k l d q = absurd (none-some d q)
  finds_both o (Some a) p None k l d q = absurd (none-some d q)
  finds_both o (Some a) p (Some b) k l d q = go (k a refl) (l b refl)
    where
      go : (o ≡ Some a) ⊎ ((o ≡ None) × M) → (p ≡ Some b) ⊎ ((p ≡ None) × M) → ((a : A) × (b : B) × (both g o p ≡ g a b) × (h a b ≡ Some d)) ⊎ ((both g o p ≡ None) × M)
      go (inr x) y = inr (ap (λ c. both g c p) x.0, x.1)
      go (inl x) (inr y) = inr (ap (λ c. both g c p) x ∙ ap (both g (Some a)) y.0, y.1)
      go (inl x) (inl y) = inl (a, b, ap (λ c. both g c p) x ∙ ap (both g (Some a)) y, q)

module _ (V U : List Entry) (covered : Covers V U) where
  named_alike : (n : Symbol) (y z : Entry) → SameButMask y z → runes_by n (as_function (Some y)) (as_theorem (Some y)) ≡ runes_by n (as_function (Some z)) (as_theorem (Some z))
  named_alike n (entry.Function f) (entry.Function g) s = refl
  named_alike n (entry.Theorem t) (entry.Theorem u) s = ap (λ y. runes_by n (as_function (Some y)) (as_theorem (Some y))) s
  named_alike n (entry.Constant c v) (entry.Constant d w) s = refl
  named_alike n y z s = absurd (cc s)

  finds_named : (n : Symbol) → Finds (Lacks V U) (runes_named V n) (runes_named U n)
  finds_named n = looked V U covered (λ o. runes_by n (as_function o) (as_theorem o)) refl (named_alike n) n

  rune_if : RuneKind → Symbol → Option Entry → Option (List Rune)
  rune_if k n o = cond (knows_by k (as_function o) (as_theorem o)) (Some (rune_of k n ∷ [])) None

  rune_alike : (k : RuneKind) (n : Symbol) (y z : Entry) → SameButMask y z → rune_if k n (Some y) ≡ rune_if k n (Some z)
  unfolding rune_if
  rune_alike k n (entry.Function f) (entry.Function g) s = refl
  rune_alike k n (entry.Theorem t) (entry.Theorem u) s = ap (λ y. rune_if k n (Some y)) s
  rune_alike k n (entry.Constant c v) (entry.Constant d w) s = refl
  rune_alike k n y z s = absurd (cc s)

  finds_rune : (k : RuneKind) (n : Symbol) → Finds (Lacks V U) (known_rune V k n) (known_rune U k n)
  unfolding rune_if
  finds_rune k n = looked V U covered (rune_if k n) refl (rune_alike k n) n

  finds_rune_by : (o : Option (List Form)) → Finds (Lacks V U) (rune_by V o) (rune_by U o)
  finds_rune_by (Some (k ∷ n ∷ [])) rs q = go (kind_of k) (symbol_at (layer_of n)) rs q
    where
      go : (x : Option RuneKind) (y : Option Symbol) → Finds (Lacks V U) (both (known_rune V) x y) (both (known_rune U) x y)
      go None y rs q = absurd (none-some rs q)
      go (Some x) None rs q = absurd (none-some rs q)
      go (Some x) (Some y) rs q = finds_rune x y rs q
  finds_rune_by o rs q = absurd (none-some rs q)

  finds_item : (f : Form) → Finds (Lacks V U) (item_runes V f) (item_runes U f)
  finds_item f = go (symbol_at (layer_of f))
    where
      go : (o : Option Symbol) → Finds (Lacks V U) (item_by V f o) (item_by U f o)
      go (Some n) rs q = finds_named n rs q
      go None rs q = finds_rune_by (items_in f) rs q

  finds_runes : (fs : List Form) → Finds (Lacks V U) (all_runes V fs) (all_runes U fs)
  finds_runes [] rs q = inl q
  finds_runes (f ∷ fs) rs q = go (finds_both (Lacks V U) then_runes then_runes (item_runes V f) (item_runes U f) (all_runes V fs) (all_runes U fs) (finds_item f) (finds_runes fs) rs q)
    where
      go : ((a : List Rune) × (b : List Rune) × (both then_runes (item_runes V f) (all_runes V fs) ≡ then_runes a b) × (then_runes a b ≡ Some rs)) ⊎ ((both then_runes (item_runes V f) (all_runes V fs) ≡ None) × Lacks V U)
          → (all_runes V (f ∷ fs) ≡ Some rs) ⊎ ((all_runes V (f ∷ fs) ≡ None) × Lacks V U)
      go (inl x) = inl (x.2 ∙ x.3)
      go (inr x) = inr x

-- what changes the theory of the one, and not that of the other
pub theory_lacks : (v u : Shown) → Covers v.entries u.entries → (c : Changed) (h : ShownTheory) → changed_theory u c ≡ Some h → changed_theory v c ≡ None → Lacks v.entries u.entries
theory_lacks v u covered c h is none =
    go (finds_both (Lacks v.entries u.entries) (theory_by v.theory) (theory_by u.theory) (all_runes v.entries c.enabled) (all_runes u.entries c.enabled) (all_runes v.entries c.disabled) (all_runes u.entries c.disabled)
    (finds_runes v.entries u.entries covered c.enabled) (finds_runes v.entries u.entries covered c.disabled) h is)
  where
    go : ((a : List Rune) × (b : List Rune) × (changed_theory v c ≡ theory_by v.theory a b) × (theory_by u.theory a b ≡ Some h)) ⊎ ((changed_theory v c ≡ None) × Lacks v.entries u.entries) → Lacks v.entries u.entries
    go (inl x) = absurd (cc (x.2, none))
    go (inr x) = x.1
