-- What the scans pass is what the grammar says.
use Rattle.std.proofs.Common.{◌≡◌, ◌≢◌, ℕ, ◌+◌, ◌-◌, ◌≤◌, ◌==◌, ◌&&◌, Bool, true, false, cond, List, [], ◌∷◌, length, drop, Option, Some, None, zero, suc, refl, sym, ap, subst, ◌∙◌, arith}
use Rattle.std.specs.Prelude.{if◌then◌else◌}
use Rattle.std.proofs.lemmas.Bool.Decides.{Decides-eqb, nat_tests}
use Rattle.ap_tokens.specs.declared.scan.Mark.{Mark}
use Rattle.ap_tokens.specs.declared.scan.Mark.TheVariants.{Close, Open, Byte}
use Rattle.ap_tokens.specs.Scans.{more, line_len, comment_len, mark_of, mark_by, at_mark}
use Rattle.ap_tokens.specs.Grammar.{Line, last_line, line_feed, line_byte, Comment, comment_end, comment_close, comment_open, comment_byte}

pub same : (a b : ℕ) → (a == b) ≡ true → a ≡ b
same a b e = (Decides-eqb a b).0 e

pub differ : (a b : ℕ) → (a == b) ≡ false → a ≢ b
differ a b e h = let t : (a == b) ≡ true = (Decides-eqb a b).1 h in cc

pub drop_first : (n c : ℕ) (t : List ℕ) → drop (1 + n) (c ∷ t) ≡ drop n t
drop_first n c t = let z : 1 + n ≡ suc n = omega arith in ap (λ k. drop k (c ∷ t)) z

pub drop_second : (n c d : ℕ) (t : List ℕ) → drop (2 + n) (c ∷ d ∷ t) ≡ drop n t
drop_second n c d t = let z : 2 + n ≡ suc (suc n) = omega arith in ap (λ k. drop k (c ∷ d ∷ t)) z

pub more_some : (k : ℕ) (o : Option ℕ) (n : ℕ) → more k o ≡ Some n → (m : ℕ) × ((o ≡ Some m) × (n ≡ k + m))
more_some k None n e = absurd cc
more_some k (Some m) n e = let h : k + m ≡ n = cc in (m, (refl, sym h))

pub line_sound : (t : List ℕ) → Line t (drop (line_len t) t)
line_sound [] = last_line
line_sound (c ∷ t) = by_test (c == 10) refl (line_sound t)
  where
    by_test : (b : Bool) → (c == 10) ≡ b → Line t (drop (line_len t) t) → Line (c ∷ t) (drop (if b then 1 else 1 + line_len t) (c ∷ t))
    by_test true e rest = subst (λ x. Line (x ∷ t) t) (sym (same c 10 e)) (line_feed t)
    by_test false e rest = subst (λ u. Line (c ∷ t) u) (sym (drop_first (line_len t) c t)) (line_byte c t (drop (line_len t) t) (differ c 10 e) rest)

-- what each mark says of the two bytes
pub and_both : (a b : Bool) → (a && b) ≡ true → (a ≡ true) × (b ≡ true)
and_both true true e = (refl, refl)
and_both true false e = absurd cc
and_both false b e = absurd cc

abbrev pub Marked : Mark → ℕ → ℕ → Type 0
Marked Close c d = (c ≡ 124) × (d ≡ 35)
Marked Open c d = (c ≡ 35) × (d ≡ 124)
Marked Byte c d = (c ≡ 124 → d ≢ 35) × (c ≡ 35 → d ≢ 124)

not_both : (a b m n : ℕ) → (a == m && b == n) ≡ false → a ≡ m → b ≢ n
not_both a b m n e p q =
    let s : (a == m) ≡ true = (Decides-eqb a m).1 p in
    let t : (b == n) ≡ true = (Decides-eqb b n).1 q in
    let u : (a == m && b == n) ≡ true = ap (λ x. x && (b == n)) s ∙ t in
    cc

marked : (c d : ℕ) (t : List ℕ) → Marked (mark_of (c ∷ d ∷ t)) c d
marked c d t = by_test (c == 124 && d == 35) refl (c == 35 && d == 124) refl
  where
    by_test : (a : Bool) → (c == 124 && d == 35) ≡ a → (b : Bool) → (c == 35 && d == 124) ≡ b → Marked (mark_by a b) c d
    by_test true e b f = let h = and_both (c == 124) (d == 35) e in (same c 124 h.0, same d 35 h.1)
    by_test false e true f = let h = and_both (c == 35) (d == 124) f in (same c 35 h.0, same d 124 h.1)
    by_test false e false f = (not_both c d 124 35 e, not_both c d 35 124 f)

with_bytes : (deep a b c d : ℕ) (t u : List ℕ) → c ≡ a → d ≡ b → Comment deep (a ∷ b ∷ t) u → Comment deep (c ∷ d ∷ t) u
with_bytes deep a b c d t u p q h = subst (λ x. Comment deep (x ∷ d ∷ t) u) (sym p) (subst (λ y. Comment deep (a ∷ y ∷ t) u) (sym q) h)

-- a comment's next two bytes
comment_step : (m : Mark) (deep c d : ℕ) (t : List ℕ) (n : ℕ) → Marked m c d
    → ((deep m : ℕ) → comment_len deep t ≡ Some m → Comment deep t (drop m t))
    → ((m : ℕ) → comment_len deep (d ∷ t) ≡ Some m → Comment deep (d ∷ t) (drop m (d ∷ t)))
    → at_mark m (if deep == 0 then Some 2 else more 2 (comment_len (deep - 1) t)) (more 2 (comment_len (deep + 1) t)) (more 1 (comment_len deep (d ∷ t))) ≡ Some n
    → Comment deep (c ∷ d ∷ t) (drop n (c ∷ d ∷ t))
comment_step Close zero c d t n w later next e =
    let h : 2 ≡ n = cc in
    subst (λ k. Comment zero (c ∷ d ∷ t) (drop k (c ∷ d ∷ t))) h (with_bytes zero 124 35 c d t t w.0 w.1 (comment_end t))
comment_step Close (suc deep) c d t n w later next e =
    let z : (suc deep == 0) ≡ false = grind (arith, nat_tests) in
    let y : suc deep - 1 ≡ deep = omega arith in
    let f : more 2 (comment_len deep t) ≡ Some n = ap (λ k. more 2 (comment_len k t)) (sym y) ∙ (ap (λ b. cond b (Some 2) (more 2 (comment_len (suc deep - 1) t))) (sym z) ∙ e) in
    let (m, (o, s)) = more_some 2 (comment_len deep t) n f in
    subst (λ u. Comment (suc deep) (c ∷ d ∷ t) u) (sym (ap (λ k. drop k (c ∷ d ∷ t)) s ∙ drop_second m c d t)) (with_bytes (suc deep) 124 35 c d t (drop m t) w.0 w.1 (comment_close deep t (drop m t) (later deep m o)))
comment_step Open deep c d t n w later next e =
    let y : deep + 1 ≡ suc deep = omega arith in
    let f : more 2 (comment_len (suc deep) t) ≡ Some n = ap (λ k. more 2 (comment_len k t)) (sym y) ∙ e in
    let (m, (o, s)) = more_some 2 (comment_len (suc deep) t) n f in
    subst (λ u. Comment deep (c ∷ d ∷ t) u) (sym (ap (λ k. drop k (c ∷ d ∷ t)) s ∙ drop_second m c d t)) (with_bytes deep 35 124 c d t (drop m t) w.0 w.1 (comment_open deep t (drop m t) (later (suc deep) m o)))
comment_step Byte deep c d t n w later next e =
    let (m, (o, s)) = more_some 1 (comment_len deep (d ∷ t)) n e in
    subst (λ u. Comment deep (c ∷ d ∷ t) u) (sym (ap (λ k. drop k (c ∷ d ∷ t)) s ∙ drop_first m c (d ∷ t))) (comment_byte deep c d t (drop m (d ∷ t)) w.0 w.1 (next m o))

pub comment_sound : (deep : ℕ) (t : List ℕ) (n : ℕ) → comment_len deep t ≡ Some n → Comment deep t (drop n t)
comment_sound deep [] n e = absurd cc
comment_sound deep (c ∷ []) n e = absurd cc
comment_sound deep (c ∷ d ∷ t) n e =
    comment_step (mark_of (c ∷ d ∷ t)) deep c d t n (marked c d t) (λ k m h. comment_sound k t m h) (λ m h. comment_sound deep (d ∷ t) m h) e

pub line_within : (t : List ℕ) → line_len t ≤ length t
line_within [] = omega arith
line_within (c ∷ t) = by_test (c == 10) (line_within t)
  where
    by_test : (b : Bool) → line_len t ≤ length t → (if b then 1 else 1 + line_len t) ≤ length (c ∷ t)
    by_test true h = omega arith
    by_test false h = omega arith

within_step : (m : Mark) (deep c d : ℕ) (t : List ℕ) (n : ℕ)
    → ((deep m : ℕ) → comment_len deep t ≡ Some m → m ≤ length t)
    → ((m : ℕ) → comment_len deep (d ∷ t) ≡ Some m → m ≤ length (d ∷ t))
    → (b : Bool) → at_mark m (if b then Some 2 else more 2 (comment_len (deep - 1) t)) (more 2 (comment_len (deep + 1) t)) (more 1 (comment_len deep (d ∷ t))) ≡ Some n
    → n ≤ length (c ∷ d ∷ t)
within_step Close deep c d t n later next true e = let h : 2 ≡ n = cc in omega arith
within_step Close deep c d t n later next false e =
    let (m, (o, s)) = more_some 2 (comment_len (deep - 1) t) n e in
    omega (arith, later (deep - 1) m o, s)
within_step Open deep c d t n later next b e =
    let (m, (o, s)) = more_some 2 (comment_len (deep + 1) t) n e in
    omega (arith, later (deep + 1) m o, s)
within_step Byte deep c d t n later next b e =
    let (m, (o, s)) = more_some 1 (comment_len deep (d ∷ t)) n e in
    let h : m ≤ length (d ∷ t) = next m o in
    omega (arith, h, s)

pub comment_within : (deep : ℕ) (t : List ℕ) (n : ℕ) → comment_len deep t ≡ Some n → n ≤ length t
comment_within deep [] n e = absurd cc
comment_within deep (c ∷ []) n e = absurd cc
comment_within deep (c ∷ d ∷ t) n e =
    within_step (mark_of (c ∷ d ∷ t)) deep c d t n (λ k m h. comment_within k t m h) (λ m h. comment_within deep (d ∷ t) m h) (deep == 0) e
