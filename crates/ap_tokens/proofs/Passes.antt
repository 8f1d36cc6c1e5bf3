-- One step over a blank or a comment.
use Rattle.std.proofs.Common.{◌≡◌, ℕ, ◌+◌, ◌-◌, ◌≤◌, List, [], ◌∷◌, length, drop, Ok, Err, zero, suc, refl, ap, ◌∙◌, arith}
use Rattle.ap_tokens.specs.declared.token.FaultKind.TheVariants as faults
use Rattle.ap_tokens.specs.declared.gap.Step.TheVariants.{Pass, Stay, Open}
use Rattle.ap_tokens.specs.Gaps.{at, step_of, at_step, gap}

-- the bytes that are still of a comment are passed over
pub gap_inside : (k p : ℕ) (t : List ℕ) → k ≤ length t → gap k p t ≡ gap 0 (p + k) (drop k t)
gap_inside zero p t h = ap (λ q. gap 0 q t) (omega arith)
gap_inside (suc k) p [] h = absurd (omega arith)
gap_inside (suc k) p (c ∷ t) h =
    let e : p + 1 + k ≡ p + suc k = omega arith in
    gap_inside k (p + 1) t (omega arith) ∙ ap (λ q. gap 0 q (drop k t)) e

pub gap_pass : (n p : ℕ) (t : List ℕ) → step_of t ≡ Pass n → 1 ≤ n → n ≤ length t → gap 0 p t ≡ gap 0 (p + n) (drop n t)
gap_pass zero p t e h m = absurd (omega arith)
gap_pass (suc n) p [] e h m = absurd (omega arith)
gap_pass (suc n) p (c ∷ t) e h m =
    let k : suc n - 1 ≡ n = omega arith in
    let q : p + 1 + n ≡ p + suc n = omega arith in
    ap (λ s. at_step s (λ i. gap (i - 1) (p + 1) t) (Ok (at p (c ∷ t))) (Err (record { place = p; kind = faults.OpenComment }))) e
    ∙ (ap (λ i. gap i (p + 1) t) k ∙ (gap_inside n (p + 1) t (omega arith) ∙ ap (λ i. gap 0 i (drop n t)) q))

pub gap_stay : (p : ℕ) (t : List ℕ) → step_of t ≡ Stay → gap 0 p t ≡ Ok (at p t)
gap_stay p [] e = refl
gap_stay p (c ∷ t) e = ap (λ s. at_step s (λ i. gap (i - 1) (p + 1) t) (Ok (at p (c ∷ t))) (Err (record { place = p; kind = faults.OpenComment }))) e

pub gap_open : (p : ℕ) (t : List ℕ) → step_of t ≡ Open → gap 0 p t ≡ Err (record { place = p; kind = faults.OpenComment })
gap_open p [] e = absurd cc
gap_open p (c ∷ t) e = ap (λ s. at_step s (λ i. gap (i - 1) (p + 1) t) (Ok (at p (c ∷ t))) (Err (record { place = p; kind = faults.OpenComment }))) e

pub ruleset passes = (gap_pass, gap_stay, gap_open)
