-- The grammar has one token at each place, and `next_of` finds it.
use Rattle.std.proofs.Common.{◌≡◌, ◌≢◌, ℕ, ◌+◌, ◌==◌, ◌&&◌, ◌||◌, ◌⊎◌, inl, inr, Bool, true, false, List, [], ◌∷◌, ◌++◌, length, take, drop, Some, Ok, suc, refl, sym, ap, ◌∙◌, arith, length-append}
use Rattle.std.specs.Prelude.{if◌then◌else◌, is_some, IsTrue}
use Rattle.std.proofs.lemmas.List.{length-drop}
use Rattle.ap_tokens.specs.declared.token.Kind.{Kind}
use Rattle.ap_tokens.specs.declared.token.Kind.TheVariants as kinds
use Rattle.ap_tokens.specs.declared.token.FaultKind.TheVariants as faults
use Rattle.ap_tokens.specs.declared.gap.Start.TheVariants as start
use Rattle.ap_tokens.specs.declared.hash.Base.{Base}
use Rattle.ap_tokens.specs.declared.hash.Hash.TheVariants as hash
use Rattle.ap_tokens.specs.declared.tokens.Lead.{Lead}
use Rattle.ap_tokens.specs.declared.tokens.Lead.TheVariants as lead
use Rattle.ap_tokens.specs.Bytes.{is_blank}
use Rattle.ap_tokens.specs.Scans.{run_len, string_len, comment_len, atom_len}
use Rattle.ap_tokens.specs.Hashes.{hash_of, char_name, is_number_of, where_true, hashed_by, hashed_of}
use Rattle.ap_tokens.specs.Gaps.{at, begins, start_by, start_of, block_step, step_by, gap}
use Rattle.ap_tokens.specs.Tokens.{lead_of, text_by, atom_by, token_by, token_of}
use Rattle.ap_tokens.specs.Grammar.{Line, Comment, Between, nothing, blank, line, block, Run, Named, Spells}
use Rattle.ap_tokens.specs.Grammar as spells
use Rattle.ap_tokens.proofs.Sound.{same, drop_first, drop_second, line_within, comment_within}
use Rattle.ap_tokens.proofs.Passes.{gap_pass, gap_stay}
use Rattle.ap_tokens.proofs.Within.{run_within, atom_within}
use Rattle.ap_tokens.proofs.Complete.{unequal, line_complete, run_complete, string_complete, comment_complete, atom_complete}

-- a blank begins no comment
blank_starts : (c : ℕ) (t : List ℕ) → is_blank c ≡ true → start_of (c ∷ t) ≡ start.Blank
unfolding is_blank
blank_starts c t e = by_test (c == 35) refl (c == 59) refl
  where
    by_test : (a : Bool) → (c == 35) ≡ a → (b : Bool) → (c == 59) ≡ b → start_by (a && begins 124 t) b (is_blank c) ≡ start.Blank
    by_test true p b q = absurd (let h : is_blank 35 ≡ true = ap is_blank (sym (same c 35 p)) ∙ e in cc)
    by_test false p true q = absurd (let h : is_blank 59 ≡ true = ap is_blank (sym (same c 59 q)) ∙ e in cc)
    by_test false p false q = ap (start_by false false) e

pub gap_complete : {t u : List ℕ} → Between t u → start_of u ≡ start.Other → (p : ℕ) → (q : ℕ) × (gap 0 p t ≡ Ok (at q u))
gap_complete (nothing t) o p = (p, gap_stay p t (ap (λ s. step_by s t) o))
gap_complete (blank c t u e r) o p =
    let (q, g) = gap_complete r o (p + 1) in
    (q, gap_pass 1 p (c ∷ t) (ap (λ s. step_by s (c ∷ t)) (blank_starts c t e)) (omega arith) (omega arith) ∙ g)
gap_complete (line t u v l r) o p =
    let (q, g) = gap_complete r o (p + (1 + line_of t)) in
    let rest : drop (1 + line_of t) (59 ∷ t) ≡ u = drop_first (line_of t) 59 t ∙ line_complete l in
    (q, gap_pass (1 + line_of t) p (59 ∷ t) refl (omega arith) (omega (arith, line_within t)) ∙ (ap (gap 0 (p + (1 + line_of t))) rest ∙ g))
  where
    line_of : List ℕ → ℕ
    line_of t = Rattle.ap_tokens.specs.Scans.line_len t
gap_complete (block t u v k r) o p =
    let (n, (e, s)) = comment_complete k in
    let (q, g) = gap_complete r o (p + (2 + n)) in
    let rest : drop (2 + n) (35 ∷ 124 ∷ t) ≡ u = drop_second n 35 124 t ∙ s in
    (q, gap_pass (2 + n) p (35 ∷ 124 ∷ t) (ap block_step e) (omega arith) (omega (arith, comment_within 0 t n e)) ∙ (ap (gap 0 (p + (2 + n))) rest ∙ g))

-- the code finds a token of this kind, up to u
abbrev pub Finds : Kind → List ℕ → List ℕ → Type 0
Finds k [] u = ⊥
Finds k (c ∷ t) u = (n : ℕ) × ((token_of c t ≡ Ok (k, n)) × (drop n (c ∷ t) ≡ u))

found_by : (d : Lead) (k : Kind) (c n : ℕ) (t u : List ℕ) → lead_of c ≡ d → token_by d c t ≡ Ok (k, n) → drop n (c ∷ t) ≡ u → Finds k (c ∷ t) u
unfolding token_of
found_by d k c n t u l e s = (n, (ap (λ x. token_by x c t) l ∙ e, s))

-- a run that ends where a part of the text ends is that part
run_of : (part u : List ℕ) → Run (part ++ u) u → run_len (part ++ u) ≡ length part
run_of part u r =
    let e = ap length (run_complete r) in
    omega (arith, e, length-drop (run_len (part ++ u)) (part ++ u), length-append part u, run_within (part ++ u))

drop_part : (part u : List ℕ) → drop (length part) (part ++ u) ≡ u
drop_part [] u = refl
drop_part (c ∷ part) u = drop_part part u

take_part : (part u : List ℕ) → take (length part) (part ++ u) ≡ part
take_part [] u = refl
take_part (c ∷ part) u = ap (λ x. c ∷ x) (take_part part u)

or_true : (a b : Bool) → (a ≡ true) ⊎ (b ≡ true) → (a || b) ≡ true
or_true true b h = refl
or_true false b (inl h) = absurd cc
or_true false b (inr h) = h

and_false : (a b : Bool) → b ≡ false → (a && b) ≡ false
and_false true b h = h
and_false false b h = refl

character_finds : (c : ℕ) (name u : List ℕ) → Run (name ++ u) u → (name ≡ []) ⊎ IsTrue (is_some (char_name (c ∷ name))) → Finds kinds.Character (35 ∷ 92 ∷ c ∷ (name ++ u)) u
unfolding lead_of hashed_of
character_finds c name u r h =
    let t = name ++ u in
    let n : run_len t ≡ length name = run_of name u r in
    let z : 1 + run_len t ≡ suc (length name) = omega (arith, n) in
    let first : take (1 + run_len t) (c ∷ t) ≡ c ∷ name = ap (λ k. take k (c ∷ t)) z ∙ ap (λ x. c ∷ x) (take_part name u) in
    let test : (run_len t == 0 || is_some (char_name (take (1 + run_len t) (c ∷ t)))) ≡ true = or_true (run_len t == 0) (is_some (char_name (take (1 + run_len t) (c ∷ t)))) (either h n first) in
    let y : 3 + run_len t ≡ suc (suc (suc (length name))) = omega (arith, n) in
    found_by lead.Hash kinds.Character 35 (3 + run_len t) (92 ∷ c ∷ t) u refl
    (ap (λ b. where_true b kinds.Character (3 + run_len t) faults.BadCharName) test)
    (ap (λ k. drop k (35 ∷ 92 ∷ c ∷ t)) y ∙ drop_part name u)
  where
    either : (name ≡ []) ⊎ IsTrue (is_some (char_name (c ∷ name))) → run_len (name ++ u) ≡ length name → take (1 + run_len (name ++ u)) (c ∷ (name ++ u)) ≡ c ∷ name
        → ((run_len (name ++ u) == 0) ≡ true) ⊎ (is_some (char_name (take (1 + run_len (name ++ u)) (c ∷ (name ++ u)))) ≡ true)
    either (inl e) n f = inl (ap (λ k. k == 0) (n ∙ ap length e))
    either (inr e) n f = inr (ap (λ x. is_some (char_name x)) f ∙ e)

based_finds : (b : Base) (c : ℕ) (digits u : List ℕ) → hash_of (c ∷ []) ≡ hash.Number b → Run (digits ++ u) u → IsTrue (is_number_of b digits) → Finds kinds.Based (35 ∷ c ∷ (digits ++ u)) u
unfolding lead_of hashed_of
based_finds b c digits u w r h =
    let t = digits ++ u in
    let n : run_len t ≡ length digits = run_of digits u r in
    let whole : take (run_len t) t ≡ digits = ap (λ k. take k t) n ∙ take_part digits u in
    let test : is_number_of b (take (run_len t) t) ≡ true = ap (is_number_of b) whole ∙ h in
    let y : 2 + run_len t ≡ suc (suc (length digits)) = omega (arith, n) in
    found_by lead.Hash kinds.Based 35 (2 + run_len t) (c ∷ t) u refl
    (ap (λ x. hashed_by x t) w ∙ ap (λ x. where_true x kinds.Based (2 + run_len t) faults.BadHash) test)
    (ap (λ k. drop k (35 ∷ c ∷ t)) y ∙ drop_part digits u)

dot_finds : (u : List ℕ) → Named false u u → Finds kinds.Dot (46 ∷ u) u
unfolding lead_of
dot_finds u h =
    let (n, (e, s)) = atom_complete h in
    let z : n ≡ 0 = omega (arith, ap length s, length-drop n u, atom_within false false u n e) in
    found_by lead.Atom kinds.Dot 46 1 u u refl (ap (atom_by 46) (e ∙ ap Some z)) refl

taken_finds : (c : ℕ) (t u : List ℕ) → Named false t u → Finds kinds.Atom (92 ∷ c ∷ t) u
unfolding lead_of
taken_finds c t u h =
    let (n, (e, s)) = atom_complete h in
    let y : 1 + (1 + n) ≡ 2 + n = omega arith in
    let f : atom_len false true (c ∷ t) ≡ Some (1 + n) = ap (Rattle.ap_tokens.specs.Scans.more 1) e in
    found_by lead.Atom kinds.Atom 92 (1 + (1 + n)) (c ∷ t) u refl
    (ap (atom_by 92) f ∙ ap (λ b. if b then Ok (kinds.Dot, 1) else Ok (kinds.Atom, 1 + (1 + n))) (and_false (1 + n == 0) (92 == 46) refl))
    (ap (λ k. drop k (92 ∷ c ∷ t)) y ∙ (drop_second n 92 c t ∙ s))

barred_finds : (t u : List ℕ) → Named true t u → Finds kinds.Atom (124 ∷ t) u
unfolding lead_of
barred_finds t u h =
    let (n, (e, s)) = atom_complete h in
    found_by lead.Atom kinds.Atom 124 (1 + n) t u refl
    (ap (atom_by 124) e ∙ ap (λ b. if b then Ok (kinds.Dot, 1) else Ok (kinds.Atom, 1 + n)) (and_false (n == 0) (124 == 46) refl))
    (drop_first n 124 t ∙ s)

atom_finds : (c : ℕ) (t u : List ℕ) → lead_of c ≡ lead.Atom → c ≢ 92 → c ≢ 124 → (c ≡ 46 → t ≢ u) → Named false t u → Finds kinds.Atom (c ∷ t) u
atom_finds c t u d p q w h =
    let (n, (e, s)) = atom_complete h in
    let f : atom_len (c == 124) (c == 92) t ≡ Some n = ap (λ a. atom_len a (c == 92) t) (unequal c 124 q) ∙ (ap (λ b. atom_len false b t) (unequal c 92 p) ∙ e) in
    found_by lead.Atom kinds.Atom c (1 + n) t u d
    (ap (atom_by c) f ∙ ap (λ b. if b then Ok (kinds.Dot, 1) else Ok (kinds.Atom, 1 + n)) (not_dot n s (n == 0) refl (c == 46) refl))
    (drop_first n c t ∙ s)
  where
    not_dot : (n : ℕ) → drop n t ≡ u → (a : Bool) → (n == 0) ≡ a → (b : Bool) → (c == 46) ≡ b → (a && b) ≡ false
    not_dot n s true x true y = absurd (w (same c 46 y) (ap (λ k. drop k t) (sym (same n 0 x)) ∙ s))
    not_dot n s true x false y = refl
    not_dot n s false x b y = refl

text_finds : (t u : List ℕ) → spells.Quoted t u → Finds kinds.Text (34 ∷ t) u
unfolding lead_of
text_finds t u h =
    let (n, (e, s)) = string_complete h in
    found_by lead.Text kinds.Text 34 (1 + n) t u refl (ap text_by e) (drop_first n 34 t ∙ s)

comma_finds : (u : List ℕ) → begins 64 u ≡ false → Finds kinds.Comma (44 ∷ u) u
unfolding lead_of
comma_finds u e = found_by lead.Comma kinds.Comma 44 1 u u refl (ap (λ b. Ok (if b then (kinds.CommaAt, 2) else (kinds.Comma, 1))) e) refl

pub spells_finds : {k : Kind} {t u : List ℕ} → Spells k t u → Finds k t u
unfolding lead_of
spells_finds (spells.left_paren u) = found_by lead.LeftParen kinds.LeftParen 40 1 u u refl refl refl
spells_finds (spells.right_paren u) = found_by lead.RightParen kinds.RightParen 41 1 u u refl refl refl
spells_finds (spells.quote_mark u) = found_by lead.Quote kinds.Quote 39 1 u u refl refl refl
spells_finds (spells.backquote u) = found_by lead.Backquote kinds.Backquote 96 1 u u refl refl refl
spells_finds (spells.comma_at u) = found_by lead.Comma kinds.CommaAt 44 2 (64 ∷ u) u refl refl refl
spells_finds (spells.comma u e) = comma_finds u e
spells_finds (spells.text t u h) = text_finds t u h
spells_finds (spells.character c name u r h) = character_finds c name u r h
spells_finds (spells.based b c digits u w r h) = based_finds b c digits u w r h
spells_finds (spells.dot u h) = dot_finds u h
spells_finds (spells.taken_atom c t u h) = taken_finds c t u h
spells_finds (spells.barred_atom t u h) = barred_finds t u h
spells_finds (spells.atom c t u d p q w h) = atom_finds c t u d p q w h
