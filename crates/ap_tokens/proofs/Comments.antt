-- One step of a block comment, at each mark.
use Rattle.std.proofs.Common.{◌≡◌, ℕ, ◌+◌, ◌-◌, ◌==◌, ◌<◌, ◌≤◌, false, List, [], ◌∷◌, length, drop, Option, Some, zero, suc, refl, sym, ap, ◌∙◌, arith}
use Rattle.std.specs.Prelude.{if◌then◌else◌}
use Rattle.std.proofs.lemmas.List.{drop-drop, length-drop}
use Rattle.std.proofs.lemmas.Bool.Decides.{nat_tests}
use Rattle.ap_tokens.specs.declared.scan.Mark.TheVariants.{Close, Open, Byte}
use Rattle.ap_tokens.specs.Scans.{more, mark_of, comment_len}
use Rattle.ap_tokens.proofs.Steps.{more_more}

close_at : (deep : ℕ) (u : List ℕ) → mark_of u ≡ Close
    → (2 ≤ length u) × (comment_len deep u ≡ (if deep == 0 then Some 2 else more 2 (comment_len (deep - 1) (drop 2 u))))
close_at deep [] e = absurd cc
close_at deep (c ∷ []) e = absurd cc
close_at deep (c ∷ d ∷ t) e = (omega arith, rw e refl)

open_at : (deep : ℕ) (u : List ℕ) → mark_of u ≡ Open → (2 ≤ length u) × (comment_len deep u ≡ more 2 (comment_len (deep + 1) (drop 2 u)))
open_at deep [] e = absurd cc
open_at deep (c ∷ []) e = absurd cc
open_at deep (c ∷ d ∷ t) e = (omega arith, rw e refl)

byte_at : (deep : ℕ) (u : List ℕ) → mark_of u ≡ Byte → comment_len deep u ≡ more 1 (comment_len deep (drop 1 u))
byte_at deep [] e = refl
byte_at deep (c ∷ []) e = refl
byte_at deep (c ∷ d ∷ t) e = rw e refl

not_zero : (n : ℕ) → (suc n == 0) ≡ false
not_zero n = grind (arith, nat_tests)

-- the rest of a comment k bytes on
further : (n k deep now : ℕ) (t : List ℕ) (all : Option ℕ) → more n (comment_len now (drop n t)) ≡ all
    → comment_len now (drop n t) ≡ more k (comment_len deep (drop k (drop n t))) → more (n + k) (comment_len deep (drop (n + k) t)) ≡ all
further n k deep now t all left e =
    sym (more_more n k (comment_len deep (drop (n + k) t))) ∙ (ap (λ rest. more n (more k (comment_len deep rest))) (sym (drop-drop k n t)) ∙ (ap (more n) (sym e) ∙ left))

pub step_close : (deep n : ℕ) (t : List ℕ) (all : Option ℕ) → mark_of (drop n t) ≡ Close → n < length t → 0 < deep
    → more n (comment_len deep (drop n t)) ≡ all → (n + 2 ≤ length t) × (more (n + 2) (comment_len (deep - 1) (drop (n + 2) t)) ≡ all)
step_close zero n t all e h p left = absurd (omega arith)
step_close (suc deep) n t all e h p left =
    let here = close_at (suc deep) (drop n t) e in
    (omega (arith, length-drop n t, here.0), further n 2 (suc deep - 1) (suc deep) t all left (rw not_zero at here.1))

pub step_open : (deep n : ℕ) (t : List ℕ) (all : Option ℕ) → mark_of (drop n t) ≡ Open → n < length t
    → more n (comment_len deep (drop n t)) ≡ all → (n + 2 ≤ length t) × (more (n + 2) (comment_len (deep + 1) (drop (n + 2) t)) ≡ all)
step_open deep n t all e h left =
    let here = open_at deep (drop n t) e in
    (omega (arith, length-drop n t, here.0), further n 2 (deep + 1) deep t all left here.1)

pub step_byte : (deep n : ℕ) (t : List ℕ) (all : Option ℕ) → mark_of (drop n t) ≡ Byte
    → more n (comment_len deep (drop n t)) ≡ all → more (n + 1) (comment_len deep (drop (n + 1) t)) ≡ all
step_byte deep n t all e left = further n 1 deep deep t all left (byte_at deep (drop n t) e)
