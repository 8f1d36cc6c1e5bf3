-- What `gap` passes are blanks and whole comments, and a slice of the text.
use Rattle.std.proofs.Common.{◌≡◌, ℕ, ◌+◌, ◌<◌, ◌≤◌, ◌==◌, ◌&&◌, Bool, true, false, List, [], ◌∷◌, ◌++◌, length, take, drop, Option, Some, None, Result, Ok, zero, suc, refl, sym, ap, subst, ◌∙◌, arith, append_assoc, length-append}
use Rattle.std.proofs.lemmas.List.{take-append-drop, length-take-le, length-drop}
use Rattle.ap_tokens.specs.declared.token.TokenFault.{TokenFault}
use Rattle.ap_tokens.specs.declared.gap.Start.{Start}
use Rattle.ap_tokens.specs.declared.gap.Start.TheVariants as start
use Rattle.ap_tokens.specs.declared.gap.Step.{Step}
use Rattle.ap_tokens.specs.declared.gap.Step.TheVariants.{Pass, Stay, Open}
use Rattle.ap_tokens.specs.Bytes.{is_blank}
use Rattle.ap_tokens.specs.Scans.{line_len, comment_len}
use Rattle.ap_tokens.specs.Gaps.{At, at, begins, start_by, start_of, block_step, step_by, step_of, gap}
use Rattle.ap_tokens.specs.Grammar.{Between, nothing, blank, line, block, Passes}
use Rattle.ap_tokens.proofs.Passes.{gap_pass, gap_stay, gap_open}
use Rattle.ap_tokens.proofs.Sound.{same, and_both, drop_first, drop_second, line_sound, comment_sound, line_within, comment_within}

pub begins_is : (b : ℕ) (t : List ℕ) → begins b t ≡ true → (u : List ℕ) × (t ≡ b ∷ u)
begins_is b [] e = absurd cc
begins_is b (c ∷ t) e = (t, ap (λ x. x ∷ t) (same c b e))

abbrev pub Started : Start → ℕ → List ℕ → Type 0
Started start.Block c t = (c ≡ 35) × ((u : List ℕ) × (t ≡ 124 ∷ u))
Started start.Line c t = c ≡ 59
Started start.Blank c t = is_blank c ≡ true
Started start.Other c t = Unit {0}

pub started : (c : ℕ) (t : List ℕ) → Started (start_of (c ∷ t)) c t
started c t = by_test (c == 35 && begins 124 t) refl (c == 59) refl (is_blank c) refl
  where
    by_test : (a : Bool) → (c == 35 && begins 124 t) ≡ a → (b : Bool) → (c == 59) ≡ b → (d : Bool) → is_blank c ≡ d → Started (start_by a b d) c t
    by_test true e b f d g = let h = and_both (c == 35) (begins 124 t) e in (same c 35 h.0, begins_is 124 t h.1)
    by_test false e true f d g = same c 59 f
    by_test false e false f true g = g
    by_test false e false f false g = tt

-- what one step passes, before more of the same
abbrev pub Extends : List ℕ → List ℕ → Step → Type 0
Extends t u (Pass n) = (n ≤ length t) × ((1 ≤ n) × (Between (drop n t) u → Between t u))
Extends t u Stay = Unit {0}
Extends t u Open = Unit {0}

block_extends : (v u : List ℕ) (o : Option ℕ) → comment_len 0 v ≡ o → Extends (35 ∷ 124 ∷ v) u (block_step o)
block_extends v u None e = tt
block_extends v u (Some n) e =
    let w = comment_within 0 v n e in
    let rest = drop_second n 35 124 v in
    (omega arith, (omega arith, λ h. block v (drop n v) u (comment_sound 0 v n e) (subst (λ x. Between x u) rest h)))

step_extends : (s : Start) (c : ℕ) (t u : List ℕ) → Started s c t → Extends (c ∷ t) u (step_by s (c ∷ t))
step_extends start.Block c t u (p, (v, q)) =
    subst (λ x. Extends (x ∷ t) u (step_by start.Block (x ∷ t))) (sym p) (subst (λ y. Extends (35 ∷ y) u (step_by start.Block (35 ∷ y))) (sym q) (block_extends v u (comment_len 0 v) refl))
step_extends start.Line c t u p =
    let w = line_within t in
    let rest = drop_first (line_len t) c t in
    (omega arith, (omega arith, λ h. subst (λ x. Between (x ∷ t) u) (sym p) (line t (drop (line_len t) t) u (line_sound t) (subst (λ x. Between x u) rest h))))
step_extends start.Blank c t u p = (omega arith, (omega arith, λ h. blank c t u p h))
step_extends start.Other c t u p = tt

pub extends : (t u : List ℕ) → Extends t u (step_of t)
extends [] u = tt
extends (c ∷ t) u = step_extends (start_of (c ∷ t)) c t u (started c t)

pub stays : (s : Start) (t : List ℕ) → step_by s t ≡ Stay → s ≡ start.Other
stays start.Block t e = by_len (comment_len 0 (drop 2 t)) e
  where
    by_len : (o : Option ℕ) → block_step o ≡ Stay → start.Block ≡ start.Other
    by_len None h = absurd cc
    by_len (Some n) h = absurd cc
stays start.Line t e = absurd cc
stays start.Blank t e = absurd cc
stays start.Other t e = refl

pub passes_more : (most p : ℕ) (t : List ℕ) (a : At) → length t < most → gap 0 p t ≡ Ok a → Passes p t a
passes_more zero p t a h e = absurd (omega arith)
passes_more (suc most) p t a h e =
    by_step (step_of t) refl (extends t a.rest)
    (λ n low high s. passes_more most (p + n) (drop n t) a (omega (arith, length-drop n t)) (sym (gap_pass n p t s low high) ∙ e))
  where
    by_step : (s : Step) → step_of t ≡ s → Extends t a.rest s → ((n : ℕ) → 1 ≤ n → n ≤ length t → step_of t ≡ Pass n → Passes (p + n) (drop n t) a) → Passes p t a
    by_step (Pass n) s x later =
        let q = later n x.1.0 x.0 s in
        record {
          between = x.1.1 q.between;
          gone = take n t ++ q.gone;
          slice = sym (take-append-drop n t) ∙ (ap (λ u. take n t ++ u) q.slice ∙ sym (append_assoc (take n t) q.gone a.rest));
          place = q.place ∙ omega (arith, length-append (take n t) q.gone, length-take-le n t x.0);
          here = q.here;
        }
    by_step Stay s x later =
        let f : ◌≡◌ {A = Result At TokenFault} (Ok (at p t)) (Ok a) = sym (gap_stay p t s) ∙ e in
        let g : ◌≡◌ {A = At} (at p t) a = cc in
        subst (λ b. Passes p t b) g (record { between = nothing t; gone = []; slice = refl; place = omega arith; here = stays (start_of t) t s })
    by_step Open s x later = let f = sym (gap_open p t s) ∙ e in absurd cc

-- what lies before the next token
pub passes : (p : ℕ) (t : List ℕ) (a : At) → gap 0 p t ≡ Ok a → Passes p t a
passes p t a e = passes_more (suc (length t)) p t a (omega arith) e
