-- The grammar of tokens and of what stands between them, by the ways in which a text may begin. Each relation says
-- that a text goes so far, and which text is left.
use Rattle.std.specs.Prelude.{◌≡◌, ◌≢◌, ℕ, ◌+◌, Bool, true, false, not, ◌&&◌, ◌⊎◌, IsTrue, is_some, List, [], ◌∷◌, ◌++◌, length}
use Rattle.std.proofs.Common.{zero, suc}
use Rattle.ap_tokens.specs.declared.token.Kind.{Kind}
use Rattle.ap_tokens.specs.declared.token.Kind.TheVariants as kinds
use Rattle.ap_tokens.specs.declared.gap.Start.TheVariants as start
use Rattle.ap_tokens.specs.declared.hash.Base.{Base}
use Rattle.ap_tokens.specs.declared.hash.Hash.TheVariants as hash
use Rattle.ap_tokens.specs.declared.tokens.Lead.TheVariants as lead
use Rattle.ap_tokens.specs.Bytes.{is_blank, ends_atom}
use Rattle.ap_tokens.specs.Hashes.{char_name, hash_of, is_number_of}
use Rattle.ap_tokens.specs.Gaps.{At, begins, start_of}
use Rattle.ap_tokens.specs.Tokens.{lead_of}

-- to the end of a line
pub data Line : List ℕ → List ℕ → Type 0 where
  last_line : Line [] []
  line_feed : (u : List ℕ) → Line (10 ∷ u) u
  line_byte : (c : ℕ) (t u : List ℕ) → c ≢ 10 → Line t u → Line (c ∷ t) u

-- to the end of a block comment, within which so many others are open
pub data Comment : ℕ → List ℕ → List ℕ → Type 0 where
  comment_end : (u : List ℕ) → Comment zero (124 ∷ 35 ∷ u) u
  comment_close : (deep : ℕ) (t u : List ℕ) → Comment deep t u → Comment (suc deep) (124 ∷ 35 ∷ t) u
  comment_open : (deep : ℕ) (t u : List ℕ) → Comment (suc deep) t u → Comment deep (35 ∷ 124 ∷ t) u
  comment_byte : (deep c d : ℕ) (t u : List ℕ) → (c ≡ 124 → d ≢ 35) → (c ≡ 35 → d ≢ 124) → Comment deep (d ∷ t) u → Comment deep (c ∷ d ∷ t) u

-- over blanks and whole comments
pub data Between : List ℕ → List ℕ → Type 0 where
  nothing : (t : List ℕ) → Between t t
  blank : (c : ℕ) (t u : List ℕ) → is_blank c ≡ true → Between t u → Between (c ∷ t) u
  line : (t u v : List ℕ) → Line t u → Between u v → Between (59 ∷ t) v
  block : (t u v : List ℕ) → Comment zero t u → Between u v → Between (35 ∷ 124 ∷ t) v

-- to the end of a string, after its first quote
pub data Quoted : List ℕ → List ℕ → Type 0 where
  quote_end : (u : List ℕ) → Quoted (34 ∷ u) u
  quote_taken : (c : ℕ) (t u : List ℕ) → Quoted t u → Quoted (92 ∷ c ∷ t) u
  quote_byte : (c : ℕ) (t u : List ℕ) → c ≢ 34 → c ≢ 92 → Quoted t u → Quoted (c ∷ t) u

-- to the end of an atom, from within bars or not
pub data Named : Bool → List ℕ → List ℕ → Type 0 where
  name_end : Named false [] []
  name_stop : (c : ℕ) (t : List ℕ) → c ≢ 92 → c ≢ 124 → ends_atom c ≡ true → Named false (c ∷ t) (c ∷ t)
  name_taken : (bar : Bool) (c : ℕ) (t u : List ℕ) → Named bar t u → Named bar (92 ∷ c ∷ t) u
  name_bar : (bar : Bool) (t u : List ℕ) → Named (not bar) t u → Named bar (124 ∷ t) u
  name_byte : (bar : Bool) (c : ℕ) (t u : List ℕ) → c ≢ 92 → c ≢ 124 → (not bar && ends_atom c) ≡ false → Named bar t u → Named bar (c ∷ t) u

-- to the next blank or byte that ends an atom
pub data Run : List ℕ → List ℕ → Type 0 where
  run_end : Run [] []
  run_stop : (c : ℕ) (t : List ℕ) → ends_atom c ≡ true → Run (c ∷ t) (c ∷ t)
  run_byte : (c : ℕ) (t u : List ℕ) → ends_atom c ≡ false → Run t u → Run (c ∷ t) u

-- a token of a kind
pub data Spells : Kind → List ℕ → List ℕ → Type 0 where
  left_paren : (u : List ℕ) → Spells kinds.LeftParen (40 ∷ u) u
  right_paren : (u : List ℕ) → Spells kinds.RightParen (41 ∷ u) u
  quote_mark : (u : List ℕ) → Spells kinds.Quote (39 ∷ u) u
  backquote : (u : List ℕ) → Spells kinds.Backquote (96 ∷ u) u
  comma_at : (u : List ℕ) → Spells kinds.CommaAt (44 ∷ 64 ∷ u) u
  comma : (u : List ℕ) → begins 64 u ≡ false → Spells kinds.Comma (44 ∷ u) u
  text : (t u : List ℕ) → Quoted t u → Spells kinds.Text (34 ∷ t) u
  character : (c : ℕ) (name u : List ℕ) → Run (name ++ u) u → (name ≡ []) ⊎ IsTrue (is_some (char_name (c ∷ name)))
      → Spells kinds.Character (35 ∷ 92 ∷ c ∷ (name ++ u)) u
  based : (b : Base) (c : ℕ) (digits u : List ℕ) → hash_of (c ∷ []) ≡ hash.Number b → Run (digits ++ u) u → IsTrue (is_number_of b digits)
      → Spells kinds.Based (35 ∷ c ∷ (digits ++ u)) u
  dot : (u : List ℕ) → Named false u u → Spells kinds.Dot (46 ∷ u) u
  taken_atom : (c : ℕ) (t u : List ℕ) → Named false t u → Spells kinds.Atom (92 ∷ c ∷ t) u
  barred_atom : (t u : List ℕ) → Named true t u → Spells kinds.Atom (124 ∷ t) u
  atom : (c : ℕ) (t u : List ℕ) → lead_of c ≡ lead.Atom → c ≢ 92 → c ≢ 124 → (c ≡ 46 → t ≢ u) → Named false t u → Spells kinds.Atom (c ∷ t) u

-- From place p and text t on, blanks and whole comments lead to a, where neither begins. They are a slice of the text.
pub record Passes (p : ℕ) (t : List ℕ) (a : At) : Type 0 where
  pub between : Between t a.rest
  pub gone : List ℕ
  pub slice : t ≡ gone ++ a.rest
  pub place : a.place ≡ p + length gone
  pub here : start_of a.rest ≡ start.Other
