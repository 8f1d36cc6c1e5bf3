-- Each token is spelled as its kind is.
use Rattle.std.proofs.Common.{◌≡◌, ◌≢◌, ℕ, ◌+◌, ◌≤◌, ◌==◌, ◌&&◌, ◌||◌, ◌⊎◌, inl, inr, Bool, true, false, List, [], ◌∷◌, ◌++◌, length, take, drop, Option, Some, None, Result, Ok, zero, suc, refl, sym, ap, subst, ◌∙◌, arith}
use Rattle.std.specs.Prelude.{if◌then◌else◌, is_some}
use Rattle.std.proofs.lemmas.List.{take-append-drop, length-drop}
use Rattle.ap_tokens.specs.declared.token.Kind.{Kind}
use Rattle.ap_tokens.specs.declared.token.Kind.TheVariants as kinds
use Rattle.ap_tokens.specs.declared.token.FaultKind.{FaultKind}
use Rattle.ap_tokens.specs.declared.token.FaultKind.TheVariants as faults
use Rattle.ap_tokens.specs.declared.hash.Base.{Base}
use Rattle.ap_tokens.specs.declared.hash.Hash.{Hash}
use Rattle.ap_tokens.specs.declared.hash.Hash.TheVariants as hash
use Rattle.ap_tokens.specs.declared.tokens.Lead.{Lead}
use Rattle.ap_tokens.specs.declared.tokens.Lead.TheVariants as lead
use Rattle.ap_tokens.specs.Scans.{run_len, string_len, atom_len}
use Rattle.ap_tokens.specs.Hashes.{hash_by, hash_of, char_name, is_number_of, where_true, hashed_by, hashed_of}
use Rattle.ap_tokens.specs.Gaps.{begins}
use Rattle.ap_tokens.specs.Tokens.{lead_of, text_by, atom_by, token_by, token_of}
use Rattle.ap_tokens.specs.Grammar.{Named, Run, Spells}
use Rattle.ap_tokens.specs.Grammar as spells
use Rattle.ap_tokens.proofs.Sound.{same, differ, and_both, drop_first}
use Rattle.ap_tokens.proofs.Within.{parts, atom_within}
use Rattle.ap_tokens.proofs.Gapped.{begins_is}
use Rattle.ap_tokens.proofs.Spelled.{run_sound, string_sound, NamedAfter, atom_sound}

-- what a first byte is, by what it leads to
abbrev pub Led : Lead → ℕ → Type 0
Led lead.LeftParen c = c ≡ 40
Led lead.RightParen c = c ≡ 41
Led lead.Quote c = c ≡ 39
Led lead.Backquote c = c ≡ 96
Led lead.Comma c = c ≡ 44
Led lead.Text c = c ≡ 34
Led lead.Hash c = c ≡ 35
Led lead.Atom c = Unit {0}

pub led : (c : ℕ) → Led (lead_of c) c
unfolding lead_of
led c = first (c == 40) refl
  where
    seventh : (a : Bool) → (c == 35) ≡ a → Led (if a then lead.Hash else lead.Atom) c
    seventh true p = same c 35 p
    seventh false p = tt

    sixth : (a : Bool) → (c == 34) ≡ a → Led (if a then lead.Text else (if c == 35 then lead.Hash else lead.Atom)) c
    sixth true p = same c 34 p
    sixth false p = seventh (c == 35) refl

    fifth : (a : Bool) → (c == 44) ≡ a → Led (if a then lead.Comma else (if c == 34 then lead.Text else (if c == 35 then lead.Hash else lead.Atom))) c
    fifth true p = same c 44 p
    fifth false p = sixth (c == 34) refl

    fourth : (a : Bool) → (c == 96) ≡ a → Led (if a then lead.Backquote else (if c == 44 then lead.Comma else (if c == 34 then lead.Text else (if c == 35 then lead.Hash else lead.Atom)))) c
    fourth true p = same c 96 p
    fourth false p = fifth (c == 44) refl

    third : (a : Bool) → (c == 39) ≡ a → Led (if a then lead.Quote else (if c == 96 then lead.Backquote else (if c == 44 then lead.Comma else (if c == 34 then lead.Text else (if c == 35 then lead.Hash else lead.Atom))))) c
    third true p = same c 39 p
    third false p = fourth (c == 96) refl

    second : (a : Bool) → (c == 41) ≡ a → Led (if a then lead.RightParen else (if c == 39 then lead.Quote else (if c == 96 then lead.Backquote else (if c == 44 then lead.Comma else (if c == 34 then lead.Text else (if c == 35 then lead.Hash else lead.Atom)))))) c
    second true p = same c 41 p
    second false p = third (c == 39) refl

    first : (a : Bool) → (c == 40) ≡ a → Led (if a then lead.LeftParen else (if c == 41 then lead.RightParen else (if c == 39 then lead.Quote else (if c == 96 then lead.Backquote else (if c == 44 then lead.Comma else (if c == 34 then lead.Text else (if c == 35 then lead.Hash else lead.Atom))))))) c
    first true p = same c 40 p
    first false p = second (c == 41) refl

-- a spelling under the names of an answer
as_answered : (k l : Kind) (m n : ℕ) (u : List ℕ) → ◌≡◌ {A = Result (Kind × ℕ) FaultKind} (Ok (k, m)) (Ok (l, n)) → Spells k u (drop m u) → Spells l u (drop n u)
as_answered k l m n u e h =
    let p = parts k l m n e in
    subst (λ i. Spells l u (drop i u)) p.1 (subst (λ x. Spells x u (drop m u)) p.0 h)

comma_spelled : (b : Bool) (t : List ℕ) (l : Kind) (n : ℕ) → begins 64 t ≡ b
    → ◌≡◌ {A = Result (Kind × ℕ) FaultKind} (Ok (if b then (kinds.CommaAt, 2) else (kinds.Comma, 1))) (Ok (l, n)) → Spells l (44 ∷ t) (drop n (44 ∷ t))
comma_spelled true t l n s e =
    let (u, w) = begins_is 64 t s in
    as_answered kinds.CommaAt l 2 n (44 ∷ t) e (subst (λ x. Spells kinds.CommaAt (44 ∷ x) (drop 2 (44 ∷ x))) (sym w) (spells.comma_at u))
comma_spelled false t l n s e = as_answered kinds.Comma l 1 n (44 ∷ t) e (spells.comma t s)

text_spelled : (o : Option ℕ) (t : List ℕ) (l : Kind) (n : ℕ) → string_len false t ≡ o → text_by o ≡ Ok (l, n) → Spells l (34 ∷ t) (drop n (34 ∷ t))
text_spelled None t l n s e = absurd cc
text_spelled (Some m) t l n s e =
    as_answered kinds.Text l (1 + m) n (34 ∷ t) e (subst (λ u. Spells kinds.Text (34 ∷ t) u) (sym (drop_first m 34 t)) (spells.text t (drop m t) (string_sound false t m s)))

-- what the byte after a `#` is
abbrev pub Hashed : Hash → ℕ → Type 0
Hashed hash.Character c = c ≡ 92
Hashed (hash.Number b) c = hash_of (c ∷ []) ≡ hash.Number b
Hashed hash.Bad c = c ≢ 92

pub hashed : (h : Hash) (c : ℕ) → hash_of (c ∷ []) ≡ h → Hashed h c
hashed hash.Character c e = by_test (c == 92) refl (c == 120 || c == 88) (c == 111 || c == 79) (c == 98 || c == 66) e
  where
    by_test : (a : Bool) → (c == 92) ≡ a → (x y z : Bool) → hash_by a x y z ≡ hash.Character → c ≡ 92
    by_test true p x y z h = same c 92 p
    by_test false p true y z h = absurd cc
    by_test false p false true z h = absurd cc
    by_test false p false false true h = absurd cc
    by_test false p false false false h = absurd cc
hashed (hash.Number b) c e = e
hashed hash.Bad c e = by_test (c == 92) refl (c == 120 || c == 88) (c == 111 || c == 79) (c == 98 || c == 66) e
  where
    by_test : (a : Bool) → (c == 92) ≡ a → (x y z : Bool) → hash_by a x y z ≡ hash.Bad → c ≢ 92
    by_test true p x y z h = absurd cc
    by_test false p x y z h = differ c 92 p

name_of_one : (a b : Bool) (r : ℕ) (t : List ℕ) → (r == 0) ≡ a → (a || b) ≡ true → (take r t ≡ []) ⊎ (b ≡ true)
name_of_one true b r t p e = inl (ap (λ i. take i t) (same r 0 p))
name_of_one false b r t p e = inr e

character_spelled : (c : ℕ) (t : List ℕ) (b : Bool) (l : Kind) (n : ℕ) → (run_len t == 0 || is_some (char_name (take (1 + run_len t) (c ∷ t)))) ≡ b
    → where_true b kinds.Character (3 + run_len t) faults.BadCharName ≡ Ok (l, n) → Spells l (35 ∷ 92 ∷ c ∷ t) (drop n (35 ∷ 92 ∷ c ∷ t))
character_spelled c t false l n s e = absurd cc
character_spelled c t true l n s e =
    let r = run_len t in
    let name = take r t in
    let u = drop r t in
    let whole : name ++ u ≡ t = take-append-drop r t in
    let z : 1 + r ≡ suc r = omega arith in
    let y : 3 + r ≡ suc (suc (suc r)) = omega arith in
    let first : take (1 + r) (c ∷ t) ≡ c ∷ name = ap (λ k. take k (c ∷ t)) z in
    let last : drop (3 + r) (35 ∷ 92 ∷ c ∷ t) ≡ u = ap (λ k. drop k (35 ∷ 92 ∷ c ∷ t)) y in
    let test = ap (λ x. (r == 0) || is_some (char_name x)) (sym first) ∙ s in
    let run : Run (name ++ u) u = subst (λ x. Run x u) (sym whole) (run_sound t) in
    let here = spells.character c name u run (name_of_one (r == 0) (is_some (char_name (c ∷ name))) r t refl test) in
    as_answered kinds.Character l (3 + r) n (35 ∷ 92 ∷ c ∷ t) e
    (subst (λ v. Spells kinds.Character (35 ∷ 92 ∷ c ∷ t) v) (sym last) (subst (λ x. Spells kinds.Character (35 ∷ 92 ∷ c ∷ x) u) whole here))

based_spelled : (b : Base) (c : ℕ) (t : List ℕ) (d : Bool) (l : Kind) (n : ℕ) → hash_of (c ∷ []) ≡ hash.Number b → is_number_of b (take (run_len t) t) ≡ d
    → where_true d kinds.Based (2 + run_len t) faults.BadHash ≡ Ok (l, n) → Spells l (35 ∷ c ∷ t) (drop n (35 ∷ c ∷ t))
based_spelled b c t false l n w s e = absurd cc
based_spelled b c t true l n w s e =
    let r = run_len t in
    let digits = take r t in
    let u = drop r t in
    let whole : digits ++ u ≡ t = take-append-drop r t in
    let y : 2 + r ≡ suc (suc r) = omega arith in
    let last : drop (2 + r) (35 ∷ c ∷ t) ≡ u = ap (λ k. drop k (35 ∷ c ∷ t)) y in
    let run : Run (digits ++ u) u = subst (λ x. Run x u) (sym whole) (run_sound t) in
    let here = spells.based b c digits u w run s in
    as_answered kinds.Based l (2 + r) n (35 ∷ c ∷ t) e
    (subst (λ v. Spells kinds.Based (35 ∷ c ∷ t) v) (sym last) (subst (λ x. Spells kinds.Based (35 ∷ c ∷ x) u) whole here))

hash_spelled : (h : Hash) (c : ℕ) (t : List ℕ) (l : Kind) (n : ℕ) → Hashed h c → hashed_by h t ≡ Ok (l, n) → Spells l (35 ∷ c ∷ t) (drop n (35 ∷ c ∷ t))
hash_spelled hash.Character c [] l n w e = absurd cc
hash_spelled hash.Character c (d ∷ t) l n w e =
    subst (λ x. Spells l (35 ∷ x ∷ d ∷ t) (drop n (35 ∷ x ∷ d ∷ t))) (sym w)
    (character_spelled d t (run_len t == 0 || is_some (char_name (take (1 + run_len t) (d ∷ t)))) l n refl e)
hash_spelled (hash.Number b) c t l n w e = based_spelled b c t (is_number_of b (take (run_len t) t)) l n w refl e
hash_spelled hash.Bad c t l n w e = absurd cc

escaped_atom : (t u : List ℕ) → NamedAfter false true t u → Spells kinds.Atom (92 ∷ t) u
escaped_atom [] u h = absurd h
escaped_atom (c ∷ t) u h = spells.taken_atom c t u h

-- an atom that isn't the dot goes on behind a point
goes_on : (c m : ℕ) (t : List ℕ) → (m == 0 && c == 46) ≡ false → m ≤ length t → c ≡ 46 → t ≢ drop m t
goes_on c zero t e h p q =
    let s : (c == 46) ≡ true = ap (λ x. x == 46) p in
    let f : (zero == 0 && c == 46) ≡ true = ap (λ x. x) s in
    cc
goes_on c (suc m) t e h p q = omega (arith, ap length q, length-drop (suc m) t, h)

atom_spelled : (o : Option ℕ) (a b : Bool) (c : ℕ) (t : List ℕ) (l : Kind) (n : ℕ) → lead_of c ≡ lead.Atom → (c == 124) ≡ a → (c == 92) ≡ b
    → atom_len a b t ≡ o → atom_by c o ≡ Ok (l, n) → Spells l (c ∷ t) (drop n (c ∷ t))
atom_spelled None a b c t l n d p q s e = absurd cc
atom_spelled (Some m) a b c t l n d p q s e = by_test (m == 0 && c == 46) refl e
  where
    dotted : (a b : Bool) → (c == 124) ≡ a → (c == 92) ≡ b → c ≡ 46 → NamedAfter a b t t → Spells kinds.Dot (c ∷ t) t
    dotted true b p q w h = absurd (let f = same c 124 p in omega arith)
    dotted false true p q w h = absurd (let f = same c 92 q in omega arith)
    dotted false false p q w h = subst (λ x. Spells kinds.Dot (x ∷ t) t) (sym w) (spells.dot t h)

    plain : (a b : Bool) → (c == 124) ≡ a → (c == 92) ≡ b → (c ≡ 46 → t ≢ drop m t) → NamedAfter a b t (drop m t) → Spells kinds.Atom (c ∷ t) (drop m t)
    plain true true p q w h = absurd (let f = same c 124 p in let g = same c 92 q in omega arith)
    plain true false p q w h = subst (λ x. Spells kinds.Atom (x ∷ t) (drop m t)) (sym (same c 124 p)) (spells.barred_atom t (drop m t) h)
    plain false true p q w h = subst (λ x. Spells kinds.Atom (x ∷ t) (drop m t)) (sym (same c 92 q)) (escaped_atom t (drop m t) h)
    plain false false p q w h = spells.atom c t (drop m t) d (differ c 92 q) (differ c 124 p) w h

    by_test : (x : Bool) → (m == 0 && c == 46) ≡ x → ◌≡◌ {A = Result (Kind × ℕ) FaultKind} (if x then Ok (kinds.Dot, 1) else Ok (kinds.Atom, 1 + m)) (Ok (l, n)) → Spells l (c ∷ t) (drop n (c ∷ t))
    by_test true f h =
        let w = and_both (m == 0) (c == 46) f in
        let z = same m 0 w.0 in
        as_answered kinds.Dot l 1 n (c ∷ t) h (dotted a b p q (same c 46 w.1) (subst (λ k. NamedAfter a b t (drop k t)) z (atom_sound a b t m s)))
    by_test false f h =
        as_answered kinds.Atom l (1 + m) n (c ∷ t) h (subst (λ u. Spells kinds.Atom (c ∷ t) u) (sym (drop_first m c t))
        (plain a b p q (goes_on c m t f (atom_within a b t m s)) (atom_sound a b t m s)))

one_spelled : (k l : Kind) (a c n : ℕ) (t : List ℕ) → c ≡ a → Spells k (a ∷ t) t → ◌≡◌ {A = Result (Kind × ℕ) FaultKind} (Ok (k, 1)) (Ok (l, n)) → Spells l (c ∷ t) (drop n (c ∷ t))
one_spelled k l a c n t p h e = as_answered k l 1 n (c ∷ t) e (subst (λ x. Spells k (x ∷ t) t) (sym p) h)

lead_spelled : (d : Lead) (c : ℕ) (t : List ℕ) (l : Kind) (n : ℕ) → lead_of c ≡ d → Led d c → token_by d c t ≡ Ok (l, n) → Spells l (c ∷ t) (drop n (c ∷ t))
unfolding hashed_of
lead_spelled lead.LeftParen c t l n s p e = one_spelled kinds.LeftParen l 40 c n t p (spells.left_paren t) e
lead_spelled lead.RightParen c t l n s p e = one_spelled kinds.RightParen l 41 c n t p (spells.right_paren t) e
lead_spelled lead.Quote c t l n s p e = one_spelled kinds.Quote l 39 c n t p (spells.quote_mark t) e
lead_spelled lead.Backquote c t l n s p e = one_spelled kinds.Backquote l 96 c n t p (spells.backquote t) e
lead_spelled lead.Comma c t l n s p e = subst (λ x. Spells l (x ∷ t) (drop n (x ∷ t))) (sym p) (comma_spelled (begins 64 t) t l n refl e)
lead_spelled lead.Text c t l n s p e = subst (λ x. Spells l (x ∷ t) (drop n (x ∷ t))) (sym p) (text_spelled (string_len false t) t l n refl e)
lead_spelled lead.Hash c [] l n s p e = absurd cc
lead_spelled lead.Hash c (d ∷ t) l n s p e =
    subst (λ x. Spells l (x ∷ d ∷ t) (drop n (x ∷ d ∷ t))) (sym p) (hash_spelled (hash_of (d ∷ [])) d t l n (hashed (hash_of (d ∷ [])) d refl) e)
lead_spelled lead.Atom c t l n s p e = atom_spelled (atom_len (c == 124) (c == 92) t) (c == 124) (c == 92) c t l n s refl refl refl e

pub token_spelled : (c : ℕ) (t : List ℕ) (l : Kind) (n : ℕ) → token_of c t ≡ Ok (l, n) → Spells l (c ∷ t) (drop n (c ∷ t))
unfolding token_of
token_spelled c t l n e = lead_spelled (lead_of c) c t l n refl (led c) e
