-- A token has a byte, and no more than there are.
use Rattle.std.proofs.Common.{◌≡◌, ℕ, ◌+◌, ◌<◌, ◌≤◌, ◌==◌, ◌&&◌, ◌||◌, not, Bool, true, false, List, [], ◌∷◌, length, take, Option, Some, None, Result, Ok, refl, ap, arith}
use Rattle.std.specs.Prelude.{if◌then◌else◌, is_some}
use Rattle.ap_tokens.specs.declared.token.Kind.{Kind}
use Rattle.ap_tokens.specs.declared.token.Kind.TheVariants as kinds
use Rattle.ap_tokens.specs.declared.token.FaultKind.{FaultKind}
use Rattle.ap_tokens.specs.declared.token.FaultKind.TheVariants as faults
use Rattle.ap_tokens.specs.declared.scan.Part.{Part}
use Rattle.ap_tokens.specs.declared.scan.Part.TheVariants.{Escape, Bar, Stop, Plain}
use Rattle.ap_tokens.specs.declared.hash.Hash.{Hash}
use Rattle.ap_tokens.specs.declared.hash.Hash.TheVariants as hash
use Rattle.ap_tokens.specs.declared.tokens.Lead.{Lead}
use Rattle.ap_tokens.specs.declared.tokens.Lead.TheVariants as lead
use Rattle.ap_tokens.specs.Bytes.{ends_atom}
use Rattle.ap_tokens.specs.Scans.{more, run_len, string_len, atom_len, part_of, at_part}
use Rattle.ap_tokens.specs.Hashes.{hash_of, char_name, is_number_of, where_true, hashed_by, hashed_of}
use Rattle.ap_tokens.specs.Gaps.{begins}
use Rattle.ap_tokens.specs.Tokens.{lead_of, text_by, atom_by, token_by, token_of}
use Rattle.ap_tokens.proofs.Sound.{more_some}

-- a length that isn't 0 nor past the end
abbrev pub Fits : List ℕ → ℕ → Type 0
Fits t n = (0 < n) × (n ≤ length t)

pub run_within : (t : List ℕ) → run_len t ≤ length t
run_within [] = omega arith
run_within (c ∷ t) = by_test (ends_atom c) (run_within t)
  where
    by_test : (b : Bool) → run_len t ≤ length t → (if b then 0 else 1 + run_len t) ≤ length (c ∷ t)
    by_test true h = omega arith
    by_test false h = omega arith

string_within : (taken : Bool) (t : List ℕ) (n : ℕ) → string_len taken t ≡ Some n → n ≤ length t
string_within true [] n e = absurd cc
string_within false [] n e = absurd cc
string_within true (c ∷ t) n e =
    let (m, (o, s)) = more_some 1 (string_len false t) n e in
    omega (arith, string_within false t m o, s)
string_within false (c ∷ t) n e = by_test (c == 34) (c == 92) e (λ b m h. string_within b t m h)
  where
    by_test : (a b : Bool) → (if a then Some 1 else more 1 (string_len b t)) ≡ Some n
        → ((b : Bool) (m : ℕ) → string_len b t ≡ Some m → m ≤ length t) → n ≤ length (c ∷ t)
    by_test true b h later = let k : 1 ≡ n = cc in omega arith
    by_test false b h later =
        let (m, (o, s)) = more_some 1 (string_len b t) n h in
        omega (arith, later b m o, s)

pub atom_within : (bar taken : Bool) (t : List ℕ) (n : ℕ) → atom_len bar taken t ≡ Some n → n ≤ length t
atom_within bar taken [] n e = by_test (bar || taken) e
  where
    by_test : (b : Bool) → (if b then None else Some 0) ≡ Some n → n ≤ 0
    by_test true h = absurd cc
    by_test false h = let k : 0 ≡ n = cc in omega arith
atom_within bar true (c ∷ t) n e =
    let (m, (o, s)) = more_some 1 (atom_len bar false t) n e in
    omega (arith, atom_within bar false t m o, s)
atom_within bar false (c ∷ t) n e = by_part (part_of bar c) e (λ a b m h. atom_within a b t m h)
  where
    by_part : (p : Part)
        → at_part p (more 1 (atom_len bar true t)) (more 1 (atom_len (not bar) false t)) (Some 0) (more 1 (atom_len bar false t)) ≡ Some n
        → ((a b : Bool) (m : ℕ) → atom_len a b t ≡ Some m → m ≤ length t) → n ≤ length (c ∷ t)
    by_part Escape h later =
        let (m, (o, s)) = more_some 1 (atom_len bar true t) n h in
        omega (arith, later bar true m o, s)
    by_part Bar h later =
        let (m, (o, s)) = more_some 1 (atom_len (not bar) false t) n h in
        omega (arith, later (not bar) false m o, s)
    by_part Stop h later = let k : 0 ≡ n = cc in omega arith
    by_part Plain h later =
        let (m, (o, s)) = more_some 1 (atom_len bar false t) n h in
        omega (arith, later bar false m o, s)

-- an answer's parts
pub parts : (k l : Kind) (m n : ℕ) → ◌≡◌ {A = Result (Kind × ℕ) FaultKind} (Ok (k, m)) (Ok (l, n)) → (k ≡ l) × (m ≡ n)
parts k l m n e =
    let h : ◌≡◌ {A = Kind × ℕ} (k, m) (l, n) = cc in
    (ap (λ z. z.0) h, ap (λ z. z.1) h)

where_fits : (b : Bool) (t : List ℕ) (k l : Kind) (m n : ℕ) (f : FaultKind) → where_true b k m f ≡ Ok (l, n) → Fits t m → Fits t n
where_fits true t k l m n f e h = let p = (parts k l m n e).1 in (omega (arith, p, h.0), omega (arith, p, h.1))
where_fits false t k l m n f e h = absurd cc

hashed_fits : (h : Hash) (c : ℕ) (t : List ℕ) (l : Kind) (n : ℕ) → hashed_by h t ≡ Ok (l, n) → Fits (35 ∷ c ∷ t) n
hashed_fits hash.Character c [] l n e = absurd cc
hashed_fits hash.Character c (d ∷ t) l n e =
    where_fits (run_len t == 0 || is_some (char_name (take (1 + run_len t) (d ∷ t)))) (35 ∷ c ∷ d ∷ t) kinds.Character l (3 + run_len t) n faults.BadCharName e
    (omega arith, omega (arith, run_within t))
hashed_fits (hash.Number b) c t l n e =
    where_fits (is_number_of b (take (run_len t) t)) (35 ∷ c ∷ t) kinds.Based l (2 + run_len t) n faults.BadHash e (omega arith, omega (arith, run_within t))
hashed_fits hash.Bad c t l n e = absurd cc

comma_fits : (b : Bool) (c : ℕ) (t : List ℕ) (l : Kind) (n : ℕ) → begins 64 t ≡ b → ◌≡◌ {A = Result (Kind × ℕ) FaultKind} (Ok (if b then (kinds.CommaAt, 2) else (kinds.Comma, 1))) (Ok (l, n)) → Fits (c ∷ t) n
comma_fits true c [] l n s e = absurd cc
comma_fits true c (d ∷ t) l n s e = let p = (parts kinds.CommaAt l 2 n e).1 in (omega (arith, p), omega (arith, p))
comma_fits false c t l n s e = let p = (parts kinds.Comma l 1 n e).1 in (omega (arith, p), omega (arith, p))

one_fits : (k l : Kind) (c n : ℕ) (t : List ℕ) → ◌≡◌ {A = Result (Kind × ℕ) FaultKind} (Ok (k, 1)) (Ok (l, n)) → Fits (c ∷ t) n
one_fits k l c n t e = let p = (parts k l 1 n e).1 in (omega (arith, p), omega (arith, p))

text_fits : (o : Option ℕ) (c : ℕ) (t : List ℕ) (l : Kind) (n : ℕ) → string_len false t ≡ o → text_by o ≡ Ok (l, n) → Fits (c ∷ t) n
text_fits None c t l n s e = absurd cc
text_fits (Some m) c t l n s e =
    let p = (parts kinds.Text l (1 + m) n e).1 in
    (omega (arith, p), omega (arith, p, string_within false t m s))

atom_fits : (o : Option ℕ) (a b : Bool) (c : ℕ) (t : List ℕ) (l : Kind) (n : ℕ) → atom_len a b t ≡ o → atom_by c o ≡ Ok (l, n) → Fits (c ∷ t) n
atom_fits None a b c t l n s e = absurd cc
atom_fits (Some m) a b c t l n s e = by_test (m == 0 && c == 46) e
  where
    by_test : (d : Bool) → ◌≡◌ {A = Result (Kind × ℕ) FaultKind} (if d then Ok (kinds.Dot, 1) else Ok (kinds.Atom, 1 + m)) (Ok (l, n)) → Fits (c ∷ t) n
    by_test true h = one_fits kinds.Dot l c n t h
    by_test false h =
        let p = (parts kinds.Atom l (1 + m) n h).1 in
        (omega (arith, p), omega (arith, p, atom_within a b t m s))

lead_fits : (d : Lead) (c : ℕ) (t : List ℕ) (l : Kind) (n : ℕ) → token_by d c t ≡ Ok (l, n) → Fits (c ∷ t) n
unfolding hashed_of
lead_fits lead.LeftParen c t l n e = one_fits kinds.LeftParen l c n t e
lead_fits lead.RightParen c t l n e = one_fits kinds.RightParen l c n t e
lead_fits lead.Quote c t l n e = one_fits kinds.Quote l c n t e
lead_fits lead.Backquote c t l n e = one_fits kinds.Backquote l c n t e
lead_fits lead.Comma c t l n e = comma_fits (begins 64 t) c t l n refl e
lead_fits lead.Text c t l n e = text_fits (string_len false t) c t l n refl e
lead_fits lead.Hash c [] l n e = absurd cc
lead_fits lead.Hash c (d ∷ t) l n e = hashed_fits (hash_of (d ∷ t)) d t l n e
lead_fits lead.Atom c t l n e = atom_fits (atom_len (c == 124) (c == 92) t) (c == 124) (c == 92) c t l n refl e

pub token_fits : (c : ℕ) (t : List ℕ) (l : Kind) (n : ℕ) → token_of c t ≡ Ok (l, n) → Fits (c ∷ t) n
unfolding token_of
token_fits c t l n e = lead_fits (lead_of c) c t l n e
