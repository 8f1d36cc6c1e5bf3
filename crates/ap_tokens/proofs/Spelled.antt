-- What the scans of a token pass is what the grammar says.
use Rattle.std.proofs.Common.{◌≡◌, ◌≢◌, ℕ, ◌+◌, ◌==◌, ◌&&◌, not, Bool, true, false, List, [], ◌∷◌, drop, Some, refl, sym, ap, subst, ◌∙◌}
use Rattle.std.specs.Prelude.{if◌then◌else◌}
use Rattle.ap_tokens.specs.declared.scan.Part.{Part}
use Rattle.ap_tokens.specs.declared.scan.Part.TheVariants.{Escape, Bar, Stop, Plain}
use Rattle.ap_tokens.specs.Bytes.{ends_atom}
use Rattle.ap_tokens.specs.Scans.{more, run_len, string_len, atom_len, part_by, part_of, at_part}
use Rattle.ap_tokens.specs.Grammar.{Quoted, quote_end, quote_taken, quote_byte, Named, name_end, name_stop, name_taken, name_bar, name_byte, Run, run_end, run_stop, run_byte}
use Rattle.ap_tokens.proofs.Sound.{same, differ, drop_first, more_some}

pub run_sound : (t : List ℕ) → Run t (drop (run_len t) t)
run_sound [] = run_end
run_sound (c ∷ t) = by_test (ends_atom c) refl (run_sound t)
  where
    by_test : (b : Bool) → ends_atom c ≡ b → Run t (drop (run_len t) t) → Run (c ∷ t) (drop (if b then 0 else 1 + run_len t) (c ∷ t))
    by_test true e rest = run_stop c t e
    by_test false e rest = subst (λ u. Run (c ∷ t) u) (sym (drop_first (run_len t) c t)) (run_byte c t (drop (run_len t) t) e rest)

-- what is left of a string, where the next byte may be taken as it is
abbrev pub QuotedAfter : Bool → List ℕ → List ℕ → Type 0
QuotedAfter false t u = Quoted t u
QuotedAfter true [] u = ⊥
QuotedAfter true (c ∷ t) u = Quoted t u

after_backslash : (t u : List ℕ) → QuotedAfter true t u → Quoted (92 ∷ t) u
after_backslash [] u h = absurd h
after_backslash (c ∷ t) u h = quote_taken c t u h

pub string_sound : (taken : Bool) (t : List ℕ) (n : ℕ) → string_len taken t ≡ Some n → QuotedAfter taken t (drop n t)
string_sound true [] n e = absurd cc
string_sound false [] n e = absurd cc
string_sound true (c ∷ t) n e =
    let (m, (o, s)) = more_some 1 (string_len false t) n e in
    subst (λ u. Quoted t u) (sym (ap (λ k. drop k (c ∷ t)) s ∙ drop_first m c t)) (string_sound false t m o)
string_sound false (c ∷ t) n e = by_test (c == 34) refl (c == 92) refl e (λ b m h. string_sound b t m h)
  where
    by_test : (a : Bool) → (c == 34) ≡ a → (b : Bool) → (c == 92) ≡ b → (if a then Some 1 else more 1 (string_len b t)) ≡ Some n
        → ((b : Bool) (m : ℕ) → string_len b t ≡ Some m → QuotedAfter b t (drop m t)) → Quoted (c ∷ t) (drop n (c ∷ t))
    by_test true p b q h later =
        let k : 1 ≡ n = cc in
        subst (λ i. Quoted (c ∷ t) (drop i (c ∷ t))) k (subst (λ x. Quoted (x ∷ t) t) (sym (same c 34 p)) (quote_end t))
    by_test false p true q h later =
        let (m, (o, s)) = more_some 1 (string_len true t) n h in
        subst (λ u. Quoted (c ∷ t) u) (sym (ap (λ k. drop k (c ∷ t)) s ∙ drop_first m c t))
        (subst (λ x. Quoted (x ∷ t) (drop m t)) (sym (same c 92 q)) (after_backslash t (drop m t) (later true m o)))
    by_test false p false q h later =
        let (m, (o, s)) = more_some 1 (string_len false t) n h in
        subst (λ u. Quoted (c ∷ t) u) (sym (ap (λ k. drop k (c ∷ t)) s ∙ drop_first m c t)) (quote_byte c t (drop m t) (differ c 34 p) (differ c 92 q) (later false m o))

-- what is left of an atom, where the next byte may be taken as it is
abbrev pub NamedAfter : Bool → Bool → List ℕ → List ℕ → Type 0
NamedAfter bar false t u = Named bar t u
NamedAfter bar true [] u = ⊥
NamedAfter bar true (c ∷ t) u = Named bar t u

after_escape : (bar : Bool) (t u : List ℕ) → NamedAfter bar true t u → Named bar (92 ∷ t) u
after_escape bar [] u h = absurd h
after_escape bar (c ∷ t) u h = name_taken bar c t u h

name_none : (bar taken : Bool) (n : ℕ) → atom_len bar taken [] ≡ Some n → NamedAfter bar taken [] (drop n [])
name_none true true n e = absurd cc
name_none true false n e = absurd cc
name_none false true n e = absurd cc
name_none false false n e = let k : 0 ≡ n = cc in subst (λ i. Named false [] (drop i [])) k name_end

abbrev Parted : Part → Bool → ℕ → Type 0
Parted Escape bar c = c ≡ 92
Parted Bar bar c = c ≡ 124
Parted Stop bar c = (c ≢ 92) × (c ≢ 124) × ((not bar && ends_atom c) ≡ true)
Parted Plain bar c = (c ≢ 92) × (c ≢ 124) × ((not bar && ends_atom c) ≡ false)

parted : (bar : Bool) (c : ℕ) → Parted (part_of bar c) bar c
parted bar c = by_test (c == 92) refl (c == 124) refl (not bar && ends_atom c) refl
  where
    by_test : (a : Bool) → (c == 92) ≡ a → (b : Bool) → (c == 124) ≡ b → (d : Bool) → (not bar && ends_atom c) ≡ d → Parted (part_by a b d) bar c
    by_test true p b q d r = same c 92 p
    by_test false p true q d r = same c 124 q
    by_test false p false q true r = (differ c 92 p, differ c 124 q, r)
    by_test false p false q false r = (differ c 92 p, differ c 124 q, r)

name_stops : (bar : Bool) (c : ℕ) (t : List ℕ) → Parted Stop bar c → Named bar (c ∷ t) (c ∷ t)
name_stops true c t p = absurd (let h = p.2 in cc)
name_stops false c t p = name_stop c t p.0 p.1 p.2

pub atom_sound : (bar taken : Bool) (t : List ℕ) (n : ℕ) → atom_len bar taken t ≡ Some n → NamedAfter bar taken t (drop n t)
atom_sound bar taken [] n e = name_none bar taken n e
atom_sound bar true (c ∷ t) n e =
    let (m, (o, s)) = more_some 1 (atom_len bar false t) n e in
    subst (λ u. Named bar t u) (sym (ap (λ k. drop k (c ∷ t)) s ∙ drop_first m c t)) (atom_sound bar false t m o)
atom_sound bar false (c ∷ t) n e = by_part (part_of bar c) (parted bar c) e (λ a b m h. atom_sound a b t m h)
  where
    by_part : (p : Part) → Parted p bar c
        → at_part p (more 1 (atom_len bar true t)) (more 1 (atom_len (not bar) false t)) (Some 0) (more 1 (atom_len bar false t)) ≡ Some n
        → ((a b : Bool) (m : ℕ) → atom_len a b t ≡ Some m → NamedAfter a b t (drop m t)) → Named bar (c ∷ t) (drop n (c ∷ t))
    by_part Escape w h later =
        let (m, (o, s)) = more_some 1 (atom_len bar true t) n h in
        subst (λ u. Named bar (c ∷ t) u) (sym (ap (λ k. drop k (c ∷ t)) s ∙ drop_first m c t))
        (subst (λ x. Named bar (x ∷ t) (drop m t)) (sym w) (after_escape bar t (drop m t) (later bar true m o)))
    by_part Bar w h later =
        let (m, (o, s)) = more_some 1 (atom_len (not bar) false t) n h in
        subst (λ u. Named bar (c ∷ t) u) (sym (ap (λ k. drop k (c ∷ t)) s ∙ drop_first m c t))
        (subst (λ x. Named bar (x ∷ t) (drop m t)) (sym w) (name_bar bar t (drop m t) (later (not bar) false m o)))
    by_part Stop w h later =
        let k : 0 ≡ n = cc in
        subst (λ i. Named bar (c ∷ t) (drop i (c ∷ t))) k (name_stops bar c t w)
    by_part Plain w h later =
        let (m, (o, s)) = more_some 1 (atom_len bar false t) n h in
        subst (λ u. Named bar (c ∷ t) u) (sym (ap (λ k. drop k (c ∷ t)) s ∙ drop_first m c t)) (name_byte bar c t (drop m t) w.0 w.1 w.2 (later bar false m o))
