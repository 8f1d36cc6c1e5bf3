-- What a sink gained, where it tells what it holds.
use Rattle.std.specs.Prelude.{◌≡◌, ℕ, List, ◌++◌, Option, option_map}

-- it gained exactly this text
abbrev pub Gained : Option (List ℕ) → Option (List ℕ) → List ℕ → Type 0
Gained before after text = after ≡ option_map (λ content. content ++ text) before

-- it gained a prefix of this text
pub record GainedPart (before after : Option (List ℕ)) (text : List ℕ) : Type 0 where
  pub part : List ℕ
  pub rest : List ℕ
  pub whole : text ≡ part ++ rest
  pub gained : Gained before after part
