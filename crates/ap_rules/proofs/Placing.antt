-- The places of linear rules by heads, as rules are added at the end and taken away there.
use Rattle.std.proofs.Common.{◌≡◌, ℕ, ◌+◌, ◌-◌, Bool, true, false, cond, List, [], ◌∷◌, ◌++◌, length, take, Option, Some, None, refl, sym, ap, ◌∙◌, arith}
use Rattle.std.specs.Prelude.{MatchOption}
use Rattle.ap_value.specs.declared.symbol.Symbol.{Symbol}
use Rattle.ap_value.specs.Values.{symbol_eq}
use Rattle.ap_term.specs.declared.term.Term.{Term, out-Term}
use Rattle.ap_term.specs.declared.term.Term.TheOpen.{Term-F}
use Rattle.ap_world.specs.Prescribing.{called}
use Rattle.ap_world.proofs.Prescribed.{all_but_last}
use Rattle.ap_rules.specs.declared.linear.LinearRule.{LinearRule}
use Rattle.ap_rules.specs.Placed.{places_from, is_headed, is_of, places_at, Placed, with_last, without_last}

-- of a list with one more at the end
pub places_end : {G : Type 0} (test : G → Bool) (n : ℕ) (gs : List G) (g : G) → places_from test n (gs ++ g ∷ []) ≡ with_last (test g) (n + length gs) (places_from test n gs)
places_end test n [] g = go (test g)
  where
    go : (b : Bool) → cond b (n ∷ []) [] ≡ with_last b (n + 0) []
    go true = ap (λ i. i ∷ []) (omega arith)
    go false = refl
places_end test n (h ∷ gs) g = go (test h) (test g) (places_end test (n + 1) gs g ∙ ap (λ i. with_last (test g) i (places_from test (n + 1) gs)) at)
  where
    at : (n + 1) + length gs ≡ n + length (h ∷ gs)
    at = omega arith

    front : (b : Bool) (i : ℕ) (is : List ℕ) → n ∷ with_last b i is ≡ with_last b i (n ∷ is)
    front true i is = refl
    front false i is = refl

    go : (a b : Bool) → places_from test (n + 1) (gs ++ g ∷ []) ≡ with_last b (n + length (h ∷ gs)) (places_from test (n + 1) gs)
        → cond a (n ∷ places_from test (n + 1) (gs ++ g ∷ [])) (places_from test (n + 1) (gs ++ g ∷ []))
        ≡ with_last b (n + length (h ∷ gs)) (cond a (n ∷ places_from test (n + 1) gs) (places_from test (n + 1) gs))
    go true b e = ap (λ is. n ∷ is) e ∙ front b (n + length (h ∷ gs)) (places_from test (n + 1) gs)
    go false b e = e

-- a trigger by its head
headed_by : (f h : Symbol) (y : Term-F Term) → called y ≡ Some h → is_headed f y ≡ symbol_eq h f
headed_by f h (Term-F.Call g ts) e = let same : g ≡ h = cc in ap (λ k. symbol_eq k f) same
headed_by f h (Term-F.Var x) e = absurd (cc e)
headed_by f h (Term-F.Quote v) e = absurd (cc e)

headed_none : (f : Symbol) (y : Term-F Term) → called y ≡ None → is_headed f y ≡ false
headed_none f (Term-F.Call g ts) e = absurd (cc e)
headed_none f (Term-F.Var x) e = refl
headed_none f (Term-F.Quote v) e = refl

-- with one rule more
pub placed_more : (old new : List (Symbol × List ℕ)) (h : Symbol) (gs more : List LinearRule) (g : LinearRule) (i : ℕ) → called (out-Term g.trigger) ≡ Some h → i ≡ length gs → more ≡ gs ++ g ∷ []
    → ((f : Symbol) → places_at new f ≡ with_last (symbol_eq h f) i (places_at old f)) → Placed old gs → Placed new more
placed_more old new h gs more g i head at longer added placed f =
    added f ∙ ap (with_last (symbol_eq h f) i) (placed f)
    ∙ ap (λ b. with_last b i (places_from (is_of f) 0 gs)) (sym (headed_by f h (out-Term g.trigger) head))
    ∙ ap (λ k. with_last (is_of f g) k (places_from (is_of f) 0 gs)) (at ∙ omega arith)
    ∙ sym (places_end (is_of f) 0 gs g) ∙ ap (places_from (is_of f) 0) (sym longer)

-- a rule whose trigger has no head has no place
pub placed_still : (table : List (Symbol × List ℕ)) (gs more : List LinearRule) (g : LinearRule) → called (out-Term g.trigger) ≡ None → more ≡ gs ++ g ∷ [] → Placed table gs → Placed table more
placed_still table gs more g head longer placed f =
    placed f ∙ ap (λ b. with_last b (0 + length gs) (places_from (is_of f) 0 gs)) (sym (headed_none f (out-Term g.trigger) head))
    ∙ sym (places_end (is_of f) 0 gs g) ∙ ap (places_from (is_of f) 0) (sym longer)

without_with : (b : Bool) (i : ℕ) (is : List ℕ) → without_last b (with_last b i is) ≡ is
without_with true i is = all_but_last is i
without_with false i is = refl

-- without the last rule
pub placed_less : (old new : List (Symbol × List ℕ)) (h : Symbol) (gs front : List LinearRule) (g : LinearRule) → called (out-Term g.trigger) ≡ Some h → gs ≡ front ++ g ∷ []
    → ((f : Symbol) → places_at new f ≡ without_last (symbol_eq h f) (places_at old f)) → Placed old gs → Placed new front
placed_less old new h gs front g head longer removed placed f =
    removed f ∙ ap (without_last (symbol_eq h f)) (placed f ∙ ap (places_from (is_of f) 0) longer ∙ places_end (is_of f) 0 front g)
    ∙ ap (λ b. without_last b (with_last (is_of f g) (0 + length front) (places_from (is_of f) 0 front))) (sym (headed_by f h (out-Term g.trigger) head))
    ∙ without_with (is_of f g) (0 + length front) (places_from (is_of f) 0 front)

pub placed_too : (table : List (Symbol × List ℕ)) (gs front : List LinearRule) (g : LinearRule) → called (out-Term g.trigger) ≡ None → gs ≡ front ++ g ∷ [] → Placed table gs → Placed table front
placed_too table gs front g head longer placed f =
    placed f ∙ ap (places_from (is_of f) 0) longer ∙ places_end (is_of f) 0 front g
    ∙ ap (λ b. with_last b (0 + length front) (places_from (is_of f) 0 front)) (headed_none f (out-Term g.trigger) head)

-- what is left of a list whose last element was taken off
pub last_off : {A : Type 0} (xs left : List A) (o : Option A) → MatchOption o ((xs ≡ []) × (left ≡ [])) (λ last. xs ≡ left ++ last ∷ []) → left ≡ take (length xs - 1) xs
last_off xs left None (none, gone) = gone ∙ sym (ap (λ ys. take (length ys - 1) ys) none)
last_off xs left (Some y) is = sym (ap (λ ys. take (length ys - 1) ys) is ∙ all_but_last left y)
