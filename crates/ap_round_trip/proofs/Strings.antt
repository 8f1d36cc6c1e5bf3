-- A string's bytes between quotes are read as the string.
use Rattle.std.proofs.Common.{◌≡◌, ℕ, ◌==◌, ◌||◌, Bool, true, false, List, [], ◌∷◌, ◌++◌, Ok, refl, ap, arith, append_assoc}
use Rattle.std.specs.Prelude.{if◌then◌else◌}
use Rattle.ap_tokens.specs.declared.token.Kind.TheVariants as kinds
use Rattle.ap_tokens.specs.Bytes.{is_blank}
use Rattle.ap_tokens.specs.Grammar.{Quoted, quote_end, quote_taken, quote_byte, Spells}
use Rattle.ap_tokens.specs.Grammar as spells
use Rattle.ap_tokens.proofs.Sound.{differ}
use Rattle.ap_reader.specs.declared.form.Body.TheVariants as body
use Rattle.ap_reader.specs.declared.leaf.Leaf.TheVariants as leaves
use Rattle.ap_reader.specs.Leaves.{leaf_of}
use Rattle.ap_reader.specs.Strings.{unquoted}
use Rattle.ap_term.specs.Printed.{escaped, quoted}
use Rattle.ap_round_trip.proofs.Tokens.{IsLeaf}

pub or_false : (a b : Bool) → (a || b) ≡ false → (a ≡ false) × (b ≡ false)
or_false false b h = (refl, h)
or_false true b h = absurd cc

escaped_quoted : (cs u : List ℕ) → Quoted (escaped 34 cs ++ 34 ∷ u) u
escaped_quoted [] u = quote_end u
escaped_quoted (c ∷ cs) u = by_test (c == 34 || c == 92) refl (escaped_quoted cs u)
  where
    by_test : (b : Bool) → (c == 34 || c == 92) ≡ b → Quoted (escaped 34 cs ++ 34 ∷ u) u → Quoted (((if b then 92 ∷ c ∷ [] else c ∷ []) ++ escaped 34 cs) ++ 34 ∷ u) u
    by_test true e h = quote_taken c (escaped 34 cs ++ 34 ∷ u) u h
    by_test false e h = let d = or_false (c == 34) (c == 92) e in quote_byte c (escaped 34 cs ++ 34 ∷ u) u (differ c 34 d.0) (differ c 92 d.1) h

unquoted_back : (cs : List ℕ) → unquoted false (escaped 34 cs ++ 34 ∷ []) ≡ cs
unquoted_back [] = refl
unquoted_back (c ∷ cs) = by_test (c == 34 || c == 92) refl (unquoted_back cs)
  where
    by_test : (b : Bool) → (c == 34 || c == 92) ≡ b → unquoted false (escaped 34 cs ++ 34 ∷ []) ≡ cs
        → unquoted false (((if b then 92 ∷ c ∷ [] else c ∷ []) ++ escaped 34 cs) ++ 34 ∷ []) ≡ c ∷ cs
    by_test true e h = ap (λ x. c ∷ x) h
    by_test false e h = let d = or_false (c == 34) (c == 92) e in rw (d.0, d.1) (ap (λ x. c ∷ x) h)

-- what follows the closing byte, out of the parentheses
pub after_quoted : (close : ℕ) (cs u : List ℕ) → (escaped close cs ++ close ∷ []) ++ u ≡ escaped close cs ++ close ∷ u
after_quoted close cs u = append_assoc (escaped close cs) (close ∷ []) u

pub string_leaf : (cs : List ℕ) → IsLeaf (quoted 34 cs) (body.Str cs)
unfolding is_blank leaf_of
string_leaf cs = record {
  kind = kinds.Text;
  leaf = leaves.Text;
  head = refl;
  body = ap (λ x. Ok (body.Str x)) (unquoted_back cs);
  some = omega arith;
  here = λ u. refl;
  spelled = λ u h. rw (after_quoted 34 cs u) (spells.text (escaped 34 cs ++ 34 ∷ u) u (escaped_quoted cs u));
}
