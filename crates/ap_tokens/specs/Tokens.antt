-- Tokens: the grammar of the reader, by cases on what a text begins with.
use Rattle.std.specs.Prelude.{◌≡◌, ℕ, ◌+◌, false, ◌&&◌, ◌==◌, if◌then◌else◌, List, [], ◌∷◌, take, drop, Option, Some, None, Result, Ok, Err}
use Rattle.ap_tokens.specs.declared.token.Kind.{Kind}
use Rattle.ap_tokens.specs.declared.token.Kind.TheVariants as kinds
use Rattle.ap_tokens.specs.declared.token.FaultKind.{FaultKind}
use Rattle.ap_tokens.specs.declared.token.FaultKind.TheVariants as faults
use Rattle.ap_tokens.specs.declared.token.Token.{Token}
use Rattle.ap_tokens.specs.declared.token.TokenFault.{TokenFault}
use Rattle.ap_tokens.specs.declared.tokens.Lead.{Lead}
use Rattle.ap_tokens.specs.declared.tokens.Lead.TheVariants as lead
use Rattle.ap_tokens.specs.Scans.{string_len, atom_len}
use Rattle.ap_tokens.specs.Hashes.{hashed_of}
use Rattle.ap_tokens.specs.Gaps.{At, at, begins, gap}

-- what a token is, as far as its first byte says
unfoldable pub lead_of : ℕ → Lead
lead_of c =
    if c == 40 then lead.LeftParen else
    (if c == 41 then lead.RightParen else
    (if c == 39 then lead.Quote else
    (if c == 96 then lead.Backquote else
    (if c == 44 then lead.Comma else
    (if c == 34 then lead.Text else
    (if c == 35 then lead.Hash else lead.Atom))))))

-- a comma, alone or with an @
abbrev pub comma_of : List ℕ → Kind × ℕ
comma_of t = if begins 64 t then (kinds.CommaAt, 2) else (kinds.Comma, 1)

-- a string, after its first quote
abbrev pub text_by : Option ℕ → Result (Kind × ℕ) FaultKind
text_by None = Err faults.OpenString
text_by (Some n) = Ok (kinds.Text, 1 + n)

abbrev pub text_of : List ℕ → Result (Kind × ℕ) FaultKind
text_of t = text_by (string_len false t)

-- an atom, after its first byte; a lone point is the dot
abbrev pub atom_by : ℕ → Option ℕ → Result (Kind × ℕ) FaultKind
atom_by c None = Err faults.OpenBar
atom_by c (Some n) = if n == 0 && c == 46 then Ok (kinds.Dot, 1) else Ok (kinds.Atom, 1 + n)

abbrev pub atom_of : ℕ → List ℕ → Result (Kind × ℕ) FaultKind
atom_of c t = atom_by c (atom_len (c == 124) (c == 92) t)

-- the kind and the length of the token that begins with c, before t
abbrev pub token_by : Lead → ℕ → List ℕ → Result (Kind × ℕ) FaultKind
token_by lead.LeftParen c t = Ok (kinds.LeftParen, 1)
token_by lead.RightParen c t = Ok (kinds.RightParen, 1)
token_by lead.Quote c t = Ok (kinds.Quote, 1)
token_by lead.Backquote c t = Ok (kinds.Backquote, 1)
token_by lead.Comma c t = Ok (comma_of t)
token_by lead.Text c t = text_of t
token_by lead.Hash c t = hashed_of t
token_by lead.Atom c t = atom_of c t

unfoldable pub token_of : ℕ → List ℕ → Result (Kind × ℕ) FaultKind
token_of c t = token_by (lead_of c) c t

-- a token as contracts see it: its place, its bytes, its kind
pub record Seen : Type 0 where
  pub start : ℕ
  pub text : List ℕ
  pub kind : Kind

abbrev pub seen : Token → Seen
seen token = record { start = token.start; text = token.text.now; kind = token.kind }

-- the token of so many first bytes, and what comes after it
abbrev pub cut : ℕ → List ℕ → Result (Kind × ℕ) FaultKind → Result (Option (Seen × At)) TokenFault
cut p u (Err f) = Err (record { place = p; kind = f })
cut p u (Ok (k, n)) = Ok (Some (record { start = p; text = take n u; kind = k }, at (p + n) (drop n u)))

abbrev pub token_here : ℕ → List ℕ → Result (Option (Seen × At)) TokenFault
token_here p [] = Ok None
token_here p (c ∷ t) = cut p (c ∷ t) (token_of c t)

abbrev pub then_token : Result At TokenFault → Result (Option (Seen × At)) TokenFault
then_token (Err f) = Err f
then_token (Ok a) = token_here a.place a.rest

-- the next token from a place on, and what comes after it; or the first fault; or nothing, where no token is left
unfoldable pub next_of : At → Result (Option (Seen × At)) TokenFault
next_of a = then_token (gap 0 a.place a.rest)

-- what a call of `next` answers, and what it leaves
abbrev pub Answers : Result (Option Token) TokenFault → At → At → Type 0
Answers (Ok None) a b = (next_of a ≡ Ok None) × (b ≡ a)
Answers (Ok (Some t)) a b = next_of a ≡ Ok (Some (seen t, b))
Answers (Err f) a b = (next_of a ≡ Err f) × (b ≡ a)
