-- How a printed name's letters make the symbol.
use Rattle.std.proofs.Common.{◌≡◌, ℕ, ◌==◌, ◌||◌, ◌&&◌, Bool, true, false, List, [], ◌∷◌, ◌++◌, map, Ok, Err, refl, ap, ◌∙◌}
use Rattle.std.specs.Prelude.{if◌then◌else◌}
use Rattle.ap_tokens.proofs.Sound.{differ}
use Rattle.ap_tokens.specs.Grammar.{Named, name_taken, name_bar, name_byte}
use Rattle.ap_reader.specs.declared.fault.ReadKind.TheVariants as faults
use Rattle.ap_reader.specs.declared.name.Letter.{Letter}
use Rattle.ap_reader.specs.Names.{taken, letters_of, is_plain, is_keyword, has_package, has_colon, package_by, package_of, symbol_by, symbol_of}
use Rattle.ap_term.specs.Printed.{escaped}
use Rattle.ap_round_trip.proofs.Strings.{or_false}
use Rattle.ap_round_trip.proofs.Tokens.{Ends, name_ends}

-- a name between bars
pub escaped_named : (cs u : List ℕ) → Ends u → Named true (escaped 124 cs ++ 124 ∷ u) u
escaped_named [] u h = name_bar true u u (name_ends h)
escaped_named (c ∷ cs) u h = by_test (c == 124 || c == 92) refl (escaped_named cs u h)
  where
    by_test : (b : Bool) → (c == 124 || c == 92) ≡ b → Named true (escaped 124 cs ++ 124 ∷ u) u → Named true (((if b then 92 ∷ c ∷ [] else c ∷ []) ++ escaped 124 cs) ++ 124 ∷ u) u
    by_test true e n = name_taken true c (escaped 124 cs ++ 124 ∷ u) u n
    by_test false e n =
        let d = or_false (c == 124) (c == 92) e in name_byte true c (escaped 124 cs ++ 124 ∷ u) u (differ c 92 d.1) (differ c 124 d.0) refl n

pub escaped_letters : (cs : List ℕ) → letters_of true false (escaped 124 cs ++ 124 ∷ []) ≡ map taken cs
escaped_letters [] = refl
escaped_letters (c ∷ cs) = by_test (c == 124 || c == 92) refl (escaped_letters cs)
  where
    by_test : (b : Bool) → (c == 124 || c == 92) ≡ b → letters_of true false (escaped 124 cs ++ 124 ∷ []) ≡ map taken cs
        → letters_of true false (((if b then 92 ∷ c ∷ [] else c ∷ []) ++ escaped 124 cs) ++ 124 ∷ []) ≡ taken c ∷ map taken cs
    by_test true e n = ap (λ x. taken c ∷ x) n
    by_test false e n = let d = or_false (c == 124) (c == 92) e in rw (d.1, d.0) (ap (λ x. taken c ∷ x) n)

and_false : (a b : Bool) → b ≡ false → (a && b) ≡ false
and_false true b h = h
and_false false b h = refl

pub false_and : (a b : Bool) → a ≡ false → (a && b) ≡ false
false_and true b h = absurd cc
false_and false b h = refl

-- letters among which no colon is have no package
pub no_package : (ls : List Letter) → has_colon ls ≡ false → has_package ls ≡ false
no_package [] h = refl
no_package (a ∷ []) h = refl
no_package (a ∷ b ∷ []) h = refl
no_package (a ∷ b ∷ c ∷ []) h = refl
no_package (a ∷ b ∷ c ∷ d ∷ []) h = refl
no_package (a ∷ b ∷ c ∷ d ∷ e ∷ []) h = refl
no_package (a ∷ b ∷ c ∷ d ∷ e ∷ f ∷ ls) h =
    let h1 = or_false (is_plain 58 a) (has_colon (b ∷ c ∷ d ∷ e ∷ f ∷ ls)) h in
    let h2 = or_false (is_plain 58 b) (has_colon (c ∷ d ∷ e ∷ f ∷ ls)) h1.1 in
    let h3 = or_false (is_plain 58 c) (has_colon (d ∷ e ∷ f ∷ ls)) h2.1 in
    let h4 = or_false (is_plain 58 d) (has_colon (e ∷ f ∷ ls)) h3.1 in
    let h5 = or_false (is_plain 58 e) (has_colon (f ∷ ls)) h4.1 in
    false_and (is_plain 65 a && is_plain 67 b && is_plain 76 c && is_plain 50 d && is_plain 58 e) (is_plain 58 f)
    (and_false (is_plain 65 a && is_plain 67 b && is_plain 76 c && is_plain 50 d) (is_plain 58 e) h5.0)

pub no_keyword : (ls : List Letter) → has_colon ls ≡ false → is_keyword ls ≡ false
no_keyword [] h = refl
no_keyword (l ∷ ls) h = (or_false (is_plain 58 l) (has_colon ls) h).0

-- letters without a colon name a symbol of the home package
pub home_symbol : (t : List ℕ) (ls : List Letter) (name : List ℕ) → letters_of false false t ≡ ls → has_colon ls ≡ false → map (λ l. l.byte) ls ≡ name
    → symbol_of t ≡ Ok (record { keyword = false; name = name })
unfolding symbol_of
home_symbol t ls name e none is =
    ap (λ x. symbol_by (package_of x) x) e
    ∙ ap (λ b. symbol_by (package_by b (has_package ls)) ls) (no_keyword ls none)
    ∙ ap (λ b. symbol_by (package_by false b) ls) (no_package ls none)
    ∙ ap (λ b. if b then Err faults.BadPackage else Ok (record { keyword = false; name = map (λ l. l.byte) ls })) none
    ∙ ap (λ n. Ok (record { keyword = false; name = n })) is

-- and a keyword after one that nothing escapes
pub key_symbol : (t : List ℕ) (ls : List Letter) (name : List ℕ) → letters_of false false (58 ∷ t) ≡ (record { byte = 58; escaped = false }) ∷ ls → has_colon ls ≡ false
    → map (λ l. l.byte) ls ≡ name → symbol_of (58 ∷ t) ≡ Ok (record { keyword = true; name = name })
unfolding symbol_of
key_symbol t ls name e none is =
    ap (λ x. symbol_by (package_of x) x) e
    ∙ ap (λ b. if b then Err faults.BadPackage else Ok (record { keyword = true; name = map (λ l. l.byte) ls })) none
    ∙ ap (λ n. Ok (record { keyword = true; name = n })) is

-- escaped letters have no colon, and their bytes are the name
taken_colon : (c : ℕ) → is_plain 58 (taken c) ≡ false
taken_colon c = and_false (c == 58) false refl

pub takens_colon : (cs : List ℕ) → has_colon (map taken cs) ≡ false
takens_colon [] = refl
takens_colon (c ∷ cs) = rw (taken_colon c) (takens_colon cs)

pub taken_bytes : (cs : List ℕ) → map (λ (l : Letter). l.byte) (map taken cs) ≡ cs
taken_bytes [] = refl
taken_bytes (c ∷ cs) = ap (λ x. c ∷ x) (taken_bytes cs)
