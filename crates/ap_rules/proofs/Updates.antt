-- A table by heads, as what a head has is changed.
use Rattle.std.proofs.Common.{◌≡◌, Bool, true, false, cond, List, [], Option, Some, None, unwrap_or, refl, sym, ap, ◌∙◌}
use Rattle.std.specs.Map.{lookup}
use Rattle.ap_value.specs.declared.symbol.Symbol.{Symbol}
use Rattle.ap_value.specs.Values.{symbol_eq}
use Rattle.ap_value.proofs.Equals.{symbol_eq-true}
use Rattle.ap_rules.specs.Grouped.{at_head}

-- after an update of what f has every name has what it had, and f the new
abbrev pub Updated : {G : Type 0} → List (Symbol × List G) → List (Symbol × List G) → Symbol → List G → Type 0
Updated old new f w = (q : Symbol) → lookup (symbol_eq q) new ≡ cond (symbol_eq f q) (Some w) (lookup (symbol_eq q) old)

module _ {G : Type 0} where
  updated : (old new : List (Symbol × List G)) (f : Symbol) (w : List G) → Updated old new f w → (q : Symbol) → at_head new q ≡ cond (symbol_eq f q) w (at_head old q)
  updated old new f w h q = ap (λ o. unwrap_or o []) (h q) ∙ go (symbol_eq f q)
    where
      go : (b : Bool) → unwrap_or (cond b (Some w) (lookup (symbol_eq q) old)) [] ≡ cond b w (at_head old q)
      go true = refl
      go false = refl

  module _ (old new : List (Symbol × List G)) (f : Symbol) (w gs : List G) (h : Updated old new f w) (had : at_head old f ≡ gs) where
    -- what a name that is f's has is what f has
    had_too : (q : Symbol) → symbol_eq f q ≡ true → at_head old q ≡ gs
    had_too q e = ap (at_head old) (sym (symbol_eq-true f q e)) ∙ had

    pub changed_by : (change : List G → List G) → w ≡ change gs → (q : Symbol) → at_head new q ≡ cond (symbol_eq f q) (change (at_head old q)) (at_head old q)
    changed_by change is q = updated old new f w h q ∙ go (symbol_eq f q) refl
      where
        go : (b : Bool) → symbol_eq f q ≡ b → cond b w (at_head old q) ≡ cond b (change (at_head old q)) (at_head old q)
        go true e = is ∙ ap change (sym (had_too q e))
        go false e = refl

    pub left_as_were : w ≡ gs → (q : Symbol) → at_head new q ≡ at_head old q
    left_as_were is q = updated old new f w h q ∙ go (symbol_eq f q) refl
      where
        go : (b : Bool) → symbol_eq f q ≡ b → cond b w (at_head old q) ≡ at_head old q
        go true e = is ∙ sym (had_too q e)
        go false e = refl

  -- where f has nothing, nothing is taken away
  pub unchanged_by : (table : List (Symbol × List G)) (f : Symbol) (change : List G → List G) → change [] ≡ [] → lookup (symbol_eq f) table ≡ None
      → (q : Symbol) → at_head table q ≡ cond (symbol_eq f q) (change (at_head table q)) (at_head table q)
  unchanged_by table f change stays none q = go (symbol_eq f q) refl
    where
      empty : symbol_eq f q ≡ true → at_head table q ≡ []
      empty e = ap (at_head table) (sym (symbol_eq-true f q e)) ∙ ap (λ o. unwrap_or o []) none

      go : (b : Bool) → symbol_eq f q ≡ b → at_head table q ≡ cond b (change (at_head table q)) (at_head table q)
      go true e = empty e ∙ sym (ap change (empty e) ∙ stays)
      go false e = refl

  -- what a look-up gave, as the table is seen
  pub had_group : (inside seen : List (Symbol × List G)) (f : Symbol) (o : Option (List G)) → inside ≡ seen → o ≡ lookup (symbol_eq f) inside → at_head seen f ≡ unwrap_or o []
  had_group inside seen f o is found = ap (λ t. at_head t f) (sym is) ∙ ap (λ p. unwrap_or p []) (sym found)
