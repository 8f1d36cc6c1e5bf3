-- Bytes that an atom has as they are.
use Rattle.std.proofs.Common.{◌≡◌, ◌≢◌, ℕ, ◌<◌, ◌==◌, ◌||◌, false, List, [], ◌∷◌, ◌++◌, length, refl, ap, arith, length-append}
use Rattle.ap_list.specs.Lists.{Each}
use Rattle.ap_tokens.specs.declared.token.Kind.TheVariants as kinds
use Rattle.ap_tokens.specs.declared.gap.Start.TheVariants as start
use Rattle.ap_tokens.specs.declared.tokens.Lead.TheVariants as lead
use Rattle.ap_tokens.specs.Bytes.{is_blank, ends_atom}
use Rattle.ap_tokens.specs.Gaps.{start_of}
use Rattle.ap_tokens.specs.Tokens.{lead_of}
use Rattle.ap_tokens.specs.Grammar.{Named, name_byte, Spells}
use Rattle.ap_tokens.specs.Grammar as spells
use Rattle.ap_round_trip.proofs.Tokens.{Ends, name_ends}
use Rattle.ap_round_trip.proofs.Strings.{or_false}

-- a byte that ends no atom, is no backslash and no bar
pub record Inner (c : ℕ) : Type 0 where
  pub taken : c ≢ 92
  pub bar : c ≢ 124
  pub ends : ends_atom c ≡ false

pub names : (t u : List ℕ) → Each Inner t → Ends u → Named false (t ++ u) u
names [] u h e = name_ends e
names (c ∷ t) u h e = name_byte false c (t ++ u) u h.0.taken h.0.bar h.0.ends (names t u h.1 e)

pub record Apart (c : ℕ) : Type 0 where
  pub blank : is_blank c ≡ false
  pub left : (c == 40) ≡ false
  pub right : (c == 41) ≡ false
  pub quote : (c == 39) ≡ false
  pub text : (c == 34) ≡ false
  pub line : (c == 59) ≡ false
  pub back : (c == 96) ≡ false
  pub comma : (c == 44) ≡ false

pub apart : (c : ℕ) → ends_atom c ≡ false → Apart c
unfolding ends_atom
apart c h =
    let h7 = or_false (is_blank c || c == 40 || c == 41 || c == 39 || c == 34 || c == 59 || c == 96) (c == 44) h in
    let h6 = or_false (is_blank c || c == 40 || c == 41 || c == 39 || c == 34 || c == 59) (c == 96) h7.0 in
    let h5 = or_false (is_blank c || c == 40 || c == 41 || c == 39 || c == 34) (c == 59) h6.0 in
    let h4 = or_false (is_blank c || c == 40 || c == 41 || c == 39) (c == 34) h5.0 in
    let h3 = or_false (is_blank c || c == 40 || c == 41) (c == 39) h4.0 in
    let h2 = or_false (is_blank c || c == 40) (c == 41) h3.0 in
    let h1 = or_false (is_blank c) (c == 40) h2.0 in
    record { blank = h1.0; left = h1.1; right = h2.1; quote = h3.1; text = h4.1; line = h5.1; back = h6.1; comma = h7.1 }

-- such a byte that isn't `#` begins an atom, and nothing else
pub leads : (c : ℕ) → ends_atom c ≡ false → (c == 35) ≡ false → lead_of c ≡ lead.Atom
unfolding lead_of
leads c h e = let a = apart c h in rw (a.left, a.right, a.quote, a.back, a.comma, a.text, e) refl

pub starts : (c : ℕ) (t : List ℕ) → ends_atom c ≡ false → (c == 35) ≡ false → start_of (c ∷ t) ≡ start.Other
starts c t h e = let a = apart c h in rw (e, a.line, a.blank) refl

longer : (t u : List ℕ) → 0 < length t → t ++ u ≢ u
longer t u h e = omega (arith, ap length e, length-append t u)

-- an atom of such bytes, that isn't the dot
pub atom_spelled : (c : ℕ) (t u : List ℕ) → Each Inner (c ∷ t) → (c == 35) ≡ false → (c ≡ 46 → 0 < length t) → Ends u → Spells kinds.Atom ((c ∷ t) ++ u) u
atom_spelled c t u h e dot end =
    spells.atom c (t ++ u) u (leads c h.0.ends e) h.0.taken h.0.bar (λ d. longer t u (dot d)) (names t u h.1 end)
