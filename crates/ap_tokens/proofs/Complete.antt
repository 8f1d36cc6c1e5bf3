-- What the grammar says is what the scans find.
use Rattle.std.proofs.Common.{◌≡◌, ◌≢◌, ℕ, ◌+◌, ◌-◌, ◌==◌, ◌&&◌, not, Bool, true, false, List, ◌∷◌, drop, Option, Some, suc, refl, ap, ◌∙◌, arith}
use Rattle.std.specs.Prelude.{if◌then◌else◌}
use Rattle.std.proofs.lemmas.Bool.Decides.{nat_tests}
use Rattle.ap_tokens.specs.declared.scan.Mark.TheVariants.{Byte}
use Rattle.ap_tokens.specs.declared.scan.Part.TheVariants.{Stop, Plain}
use Rattle.ap_tokens.specs.Bytes.{ends_atom}
use Rattle.ap_tokens.specs.Scans.{more, line_len, run_len, string_len, comment_len, mark_of, mark_by, at_mark, atom_len, part_by, part_of, at_part}
use Rattle.ap_tokens.specs.Grammar.{Line, last_line, line_feed, line_byte, Comment, comment_end, comment_close, comment_open, comment_byte, Quoted, quote_end, quote_taken, quote_byte, Named, name_end, name_stop, name_taken, name_bar, name_byte, Run, run_end, run_stop, run_byte}
use Rattle.ap_tokens.proofs.Sound.{same, drop_first, drop_second}

pub unequal : (a b : ℕ) → a ≢ b → (a == b) ≡ false
unequal a b h = by_test (a == b) refl
  where
    by_test : (t : Bool) → (a == b) ≡ t → (a == b) ≡ false
    by_test true e = absurd (h (same a b e))
    by_test false e = e

-- a scan goes so far that u is left
abbrev pub Ends : Option ℕ → List ℕ → List ℕ → Type 0
Ends o t u = (n : ℕ) × ((o ≡ Some n) × (drop n t ≡ u))

one_more : (o : Option ℕ) (c : ℕ) (t u : List ℕ) → Ends o t u → Ends (more 1 o) (c ∷ t) u
one_more o c t u (n, (e, s)) = (1 + n, (ap (more 1) e, drop_first n c t ∙ s))

two_more : (o : Option ℕ) (c d : ℕ) (t u : List ℕ) → Ends o t u → Ends (more 2 o) (c ∷ d ∷ t) u
two_more o c d t u (n, (e, s)) = (2 + n, (ap (more 2) e, drop_second n c d t ∙ s))

as_scanned : (o p : Option ℕ) (t u : List ℕ) → o ≡ p → Ends p t u → Ends o t u
as_scanned o p t u e (n, (f, s)) = (n, (e ∙ f, s))

pub line_complete : {t u : List ℕ} → Line t u → drop (line_len t) t ≡ u
line_complete last_line = refl
line_complete (line_feed u) = refl
line_complete (line_byte c t u p l) =
    ap (λ b. drop (if b then 1 else 1 + line_len t) (c ∷ t)) (unequal c 10 p) ∙ (drop_first (line_len t) c t ∙ line_complete l)

pub run_complete : {t u : List ℕ} → Run t u → drop (run_len t) t ≡ u
run_complete run_end = refl
run_complete (run_stop c t e) = ap (λ b. drop (if b then 0 else 1 + run_len t) (c ∷ t)) e
run_complete (run_byte c t u e r) = ap (λ b. drop (if b then 0 else 1 + run_len t) (c ∷ t)) e ∙ (drop_first (run_len t) c t ∙ run_complete r)

pub string_complete : {t u : List ℕ} → Quoted t u → Ends (string_len false t) t u
string_complete (quote_end u) = (1, (refl, refl))
string_complete (quote_taken c t u q) = one_more (string_len true (c ∷ t)) 92 (c ∷ t) u (one_more (string_len false t) c t u (string_complete q))
string_complete (quote_byte c t u p q r) =
    let e = ap (λ b. if b then Some 1 else more 1 (string_len (c == 92) t)) (unequal c 34 p) ∙ ap (λ b. more 1 (string_len b t)) (unequal c 92 q) in
    as_scanned (string_len false (c ∷ t)) (more 1 (string_len false t)) (c ∷ t) u e (one_more (string_len false t) c t u (string_complete r))

not_both : (c d m n : ℕ) → (c ≡ m → d ≢ n) → (c == m && d == n) ≡ false
not_both c d m n p = by_test (c == m) refl
  where
    by_test : (b : Bool) → (c == m) ≡ b → (b && d == n) ≡ false
    by_test true e = unequal d n (p (same c m e))
    by_test false e = refl

pub comment_complete : {deep : ℕ} {t u : List ℕ} → Comment deep t u → Ends (comment_len deep t) t u
comment_complete (comment_end u) = (2, (refl, refl))
comment_complete (comment_close deep t u r) =
    let z : (suc deep == 0) ≡ false = grind (arith, nat_tests) in
    let y : suc deep - 1 ≡ deep = omega arith in
    let e = ap (λ b. if b then Some 2 else more 2 (comment_len (suc deep - 1) t)) z ∙ ap (λ k. more 2 (comment_len k t)) y in
    as_scanned (comment_len (suc deep) (124 ∷ 35 ∷ t)) (more 2 (comment_len deep t)) (124 ∷ 35 ∷ t) u e (two_more (comment_len deep t) 124 35 t u (comment_complete r))
comment_complete (comment_open deep t u r) =
    let y : deep + 1 ≡ suc deep = omega arith in
    as_scanned (comment_len deep (35 ∷ 124 ∷ t)) (more 2 (comment_len (suc deep) t)) (35 ∷ 124 ∷ t) u (ap (λ k. more 2 (comment_len k t)) y)
    (two_more (comment_len (suc deep) t) 35 124 t u (comment_complete r))
comment_complete (comment_byte deep c d t u p q r) =
    let m : mark_of (c ∷ d ∷ t) ≡ Byte = ap (λ a. mark_by a (c == 35 && d == 124)) (not_both c d 124 35 p) ∙ ap (mark_by false) (not_both c d 35 124 q) in
    let e = ap (λ k. at_mark k (if deep == 0 then Some 2 else more 2 (comment_len (deep - 1) t)) (more 2 (comment_len (deep + 1) t)) (more 1 (comment_len deep (d ∷ t)))) m in
    as_scanned (comment_len deep (c ∷ d ∷ t)) (more 1 (comment_len deep (d ∷ t))) (c ∷ d ∷ t) u e (one_more (comment_len deep (d ∷ t)) c (d ∷ t) u (comment_complete r))

pub atom_complete : {bar : Bool} {t u : List ℕ} → Named bar t u → Ends (atom_len bar false t) t u
atom_complete name_end = (0, (refl, refl))
atom_complete (name_stop c t p q e) =
    let m : part_of false c ≡ Stop = ap (λ a. part_by a (c == 124) (ends_atom c)) (unequal c 92 p) ∙ (ap (λ a. part_by false a (ends_atom c)) (unequal c 124 q) ∙ ap (part_by false false) e) in
    let f = ap (λ k. at_part k (more 1 (atom_len false true t)) (more 1 (atom_len true false t)) (Some 0) (more 1 (atom_len false false t))) m in
    (0, (f, refl))
atom_complete (name_taken bar c t u r) = one_more (atom_len bar true (c ∷ t)) 92 (c ∷ t) u (one_more (atom_len bar false t) c t u (atom_complete r))
atom_complete (name_bar bar t u r) = one_more (atom_len (not bar) false t) 124 t u (atom_complete r)
atom_complete (name_byte bar c t u p q e r) =
    let m : part_of bar c ≡ Plain = ap (λ a. part_by a (c == 124) (not bar && ends_atom c)) (unequal c 92 p) ∙ (ap (λ a. part_by false a (not bar && ends_atom c)) (unequal c 124 q) ∙ ap (part_by false false) e) in
    let f = ap (λ k. at_part k (more 1 (atom_len bar true t)) (more 1 (atom_len (not bar) false t)) (Some 0) (more 1 (atom_len bar false t))) m in
    as_scanned (atom_len bar false (c ∷ t)) (more 1 (atom_len bar false t)) (c ∷ t) u f (one_more (atom_len bar false t) c t u (atom_complete r))
