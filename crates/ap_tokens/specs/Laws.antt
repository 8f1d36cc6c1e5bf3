-- What the grammar says of the next token.
use Rattle.std.specs.Prelude.{◌≡◌, ◌≢◌, ℕ, ◌+◌, ◌<◌, List, ◌∷◌, ◌++◌, length, Ok, Some}
use Rattle.ap_tokens.specs.declared.token.Kind.{Kind}
use Rattle.ap_tokens.specs.declared.gap.Start.TheVariants as start
use Rattle.ap_tokens.specs.Gaps.{At, start_of}
use Rattle.ap_tokens.specs.Grammar.{Comment, Between, Quoted, Passes, Spells}
use Rattle.ap_tokens.specs.declared.token.FaultKind.{FaultKind}
use Rattle.ap_tokens.specs.declared.token.FaultKind.TheVariants as faults
use Rattle.ap_tokens.specs.declared.token.TokenFault.{TokenFault}
use Rattle.ap_tokens.specs.declared.tokens.Lead.TheVariants as lead
use Rattle.ap_tokens.specs.Tokens.{Seen, lead_of, next_of}

-- Only blanks and whole comments lie between a and the token, which begins with none of them and is spelled as its kind is. Its bytes are a slice of the text, at the place where it begins and up to b.
pub record Found (a : At) (s : Seen) (b : At) : Type 0 where
  pub before : At
  pub passes : Passes a.place a.rest before
  pub start : s.start ≡ before.place
  pub slice : before.rest ≡ s.text ++ b.rest
  pub place : b.place ≡ s.start + length s.text
  pub spelled : Spells s.kind before.rest b.rest
  pub some : 0 < length s.text

-- From a on, blanks and whole comments lead to t, which begins with neither and with a token of kind k, after which u comes.
pub record Stands (a : At) (k : Kind) (t u : List ℕ) : Type 0 where
  pub between : Between a.rest t
  pub here : start_of t ≡ start.Other
  pub spelled : Spells k t u

-- That token is answered.
pub record Answered (a : At) (k : Kind) (u : List ℕ) : Type 0 where
  pub token : Seen
  pub after : At
  pub answer : next_of a ≡ Ok (Some (token, after))
  pub kind : token.kind ≡ k
  pub rest : after.rest ≡ u

-- What is wrong with a text at the place of a fault, by how it begins: a text is broken in one of these ways at most.
-- That it begins with no token is said beside it.
abbrev pub Broken : FaultKind → List ℕ → Type 0
Broken faults.OpenComment t = (v : List ℕ) × ((t ≡ 35 ∷ 124 ∷ v) × ((u : List ℕ) → Comment 0 v u → ⊥))
Broken faults.OpenString t = (v : List ℕ) × ((t ≡ 34 ∷ v) × ((u : List ℕ) → Quoted v u → ⊥))
Broken faults.OpenBar t = (start_of t ≡ start.Other) × ((c : ℕ) × ((v : List ℕ) × ((t ≡ c ∷ v) × (lead_of c ≡ lead.Atom))))
Broken faults.BadHash t = (start_of t ≡ start.Other) × ((v : List ℕ) × ((t ≡ 35 ∷ v) × ((c : ℕ) (u : List ℕ) → v ≢ 92 ∷ c ∷ u)))
Broken faults.BadCharName t = (c : ℕ) × ((v : List ℕ) × (t ≡ 35 ∷ 92 ∷ c ∷ v))

-- From place p and text t on, blanks and whole comments lead to the place of the fault.
pub record Faulty (p : ℕ) (t : List ℕ) (f : TokenFault) : Type 0 where
  pub rest : List ℕ
  pub between : Between t rest
  pub gone : List ℕ
  pub slice : t ≡ gone ++ rest
  pub place : f.place ≡ p + length gone
  pub broken : Broken f.kind rest
