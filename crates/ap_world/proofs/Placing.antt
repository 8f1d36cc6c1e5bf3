-- A table of places by names, as places are added and taken away.
use Rattle.std.proofs.Common.{◌≡◌, ℕ, ◌+◌, Bool, true, false, cond, List, [], ◌∷◌, ◌++◌, length, Option, Some, None, unwrap_or, refl, sym, ap, ◌∙◌, arith}
use Rattle.std.proofs.lemmas.List.{length_push, same_from_push}
use Rattle.std.specs.Map.{lookup}
use Rattle.std.specs.Prelude.{MatchOption}
use Rattle.ap_value.specs.declared.symbol.Symbol.{Symbol}
use Rattle.ap_value.specs.Values.{symbol_eq}
use Rattle.ap_value.proofs.Equals.{symbol_eq-true}
use Rattle.ap_world.specs.Kept.{Places, places_at, with_place}

-- after an update of f's places every name has the places that it had, and f the new ones
abbrev pub Updated : Places → Places → Symbol → List ℕ → Type 0
Updated old new f w = (q : Symbol) → lookup (symbol_eq q) new ≡ cond (symbol_eq f q) (Some w) (lookup (symbol_eq q) old)

updated : (old new : Places) (f : Symbol) (w : List ℕ) → Updated old new f w → (q : Symbol) → places_at new q ≡ cond (symbol_eq f q) w (places_at old q)
updated old new f w h q = ap (λ o. unwrap_or o []) (h q) ∙ go (symbol_eq f q)
  where
    go : (b : Bool) → unwrap_or (cond b (Some w) (lookup (symbol_eq q) old)) [] ≡ cond b w (places_at old q)
    go true = refl
    go false = refl

no_last : (xs : List ℕ) (x : ℕ) → [] ≡ xs ++ x ∷ [] → ⊥
no_last xs x h = let n : 0 ≡ length xs + 1 = ap length h ∙ length_push xs x in omega (arith, n)

module _ (old new : Places) (f : Symbol) (w ps : List ℕ) (h : Updated old new f w) (had : places_at old f ≡ ps) where
  -- the places of a name that is f's are those of f
  had_too : (q : Symbol) → symbol_eq f q ≡ true → places_at old q ≡ ps
  had_too q e = ap (places_at old) (sym (symbol_eq-true f q e)) ∙ had

  pub added_last : (i : ℕ) → w ≡ ps ++ i ∷ [] → (q : Symbol) → places_at new q ≡ with_place (symbol_eq f q) i (places_at old q)
  added_last i is q = updated old new f w h q ∙ go (symbol_eq f q) refl
    where
      go : (b : Bool) → symbol_eq f q ≡ b → cond b w (places_at old q) ≡ with_place b i (places_at old q)
      go true e = is ∙ ap (λ xs. xs ++ i ∷ []) (sym (had_too q e))
      go false e = refl

  pub left_as_were : w ≡ ps → (q : Symbol) → places_at new q ≡ places_at old q
  left_as_were is q = updated old new f w h q ∙ go (symbol_eq f q) refl
    where
      go : (b : Bool) → symbol_eq f q ≡ b → cond b w (places_at old q) ≡ places_at old q
      go true e = is ∙ sym (had_too q e)
      go false e = refl

  pub removed_last : (popped : Option ℕ) → MatchOption popped ((ps ≡ []) × (w ≡ [])) (λ last. ps ≡ w ++ last ∷ [])
      → (q : Symbol) (places : List ℕ) (i : ℕ) → places_at old q ≡ with_place (symbol_eq f q) i places → places_at new q ≡ places
  removed_last popped gone q places i k = updated old new f w h q ∙ go (symbol_eq f q) refl k
    where
      from : (p : Option ℕ) → MatchOption p ((ps ≡ []) × (w ≡ [])) (λ last. ps ≡ w ++ last ∷ []) → ps ≡ places ++ i ∷ [] → w ≡ places
      from None (none, e) l = absurd (no_last places i (sym none ∙ l))
      from (Some last) e l = (same_from_push w places last i (sym e ∙ l)).0

      go : (b : Bool) → symbol_eq f q ≡ b → places_at old q ≡ with_place b i places → cond b w (places_at old q) ≡ places
      go true e l = from popped gone (sym (had_too q e) ∙ l)
      go false e l = l

-- where f has no places none can be taken away
pub removed_none : (table : Places) (f : Symbol) → lookup (symbol_eq f) table ≡ None
    → (q : Symbol) (places : List ℕ) (i : ℕ) → places_at table q ≡ with_place (symbol_eq f q) i places → places_at table q ≡ places
removed_none table f none q places i h = go (symbol_eq f q) refl h
  where
    go : (b : Bool) → symbol_eq f q ≡ b → places_at table q ≡ with_place b i places → places_at table q ≡ places
    go true e l = absurd (no_last places i (sym (ap (places_at table) (sym (symbol_eq-true f q e)) ∙ ap (λ o. unwrap_or o []) none) ∙ l))
    go false e l = l

-- what a look-up gave, as the table is seen
pub had_places : (inside seen : Places) (f : Symbol) (o : Option (List ℕ)) → inside ≡ seen → o ≡ lookup (symbol_eq f) inside → places_at seen f ≡ unwrap_or o []
had_places inside seen f o is found = ap (λ t. places_at t f) (sym is) ∙ ap (λ p. unwrap_or p []) (sym found)
