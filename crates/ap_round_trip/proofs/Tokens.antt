-- Tokens that are printed: where they end, and how a form of one token is read.
use Rattle.std.proofs.Common.{◌≡◌, ℕ, ◌+◌, ◌<◌, false, List, [], ◌∷◌, ◌++◌, length, Ok, refl, ap, subst, arith}
use Rattle.ap_tokens.specs.declared.token.Kind.{Kind}
use Rattle.ap_tokens.specs.declared.gap.Start.TheVariants as start
use Rattle.ap_tokens.specs.Bytes.{is_blank, ends_atom}
use Rattle.ap_tokens.specs.Gaps.{At, at, start_of}
use Rattle.ap_tokens.specs.Tokens.{Seen}
use Rattle.ap_tokens.specs.Grammar.{nothing, blank, Named, name_end, name_stop, Run, run_end, run_stop, Spells}
use Rattle.ap_tokens.specs.Laws.{Found}
use Rattle.ap_reader.specs.declared.form.Body.{Body}
use Rattle.ap_reader.specs.declared.leaf.Leaf.{Leaf}
use Rattle.ap_reader.specs.declared.reading.Head.TheVariants as heads
use Rattle.ap_reader.specs.Heads.{head_of, made}
use Rattle.ap_reader.specs.Leaves.{leaf_of}
use Rattle.ap_reader.specs.Grammar.{Reads}
use Rattle.ap_reader.specs.Grammar as spells
use Rattle.std.proofs.lemmas.List.{append-nil}

-- what may follow a printed value: nothing, a space, a closing parenthesis
pub data Ends : List ℕ → Type 0 where
  over : Ends []
  space : (t : List ℕ) → Ends (32 ∷ t)
  close : (t : List ℕ) → Ends (41 ∷ t)

pub name_ends : {u : List ℕ} → Ends u → Named false u u
unfolding ends_atom is_blank
name_ends over = name_end
name_ends (space t) = name_stop 32 t (λ e. omega arith) (λ e. omega arith) refl
name_ends (close t) = name_stop 41 t (λ e. omega arith) (λ e. omega arith) refl

pub run_ends : {u : List ℕ} → Ends u → Run u u
unfolding ends_atom is_blank
run_ends over = run_end
run_ends (space t) = run_stop 32 t refl
run_ends (close t) = run_stop 41 t refl

-- a text that is one token, whatever follows it, and what form it is
pub record IsLeaf (w : List ℕ) (b : Body) : Type 0 where
  pub kind : Kind
  pub leaf : Leaf
  pub head : head_of kind ≡ heads.Leaf leaf
  pub body : leaf_of leaf w ≡ Ok b
  pub some : 0 < length w
  pub here : (u : List ℕ) → start_of (w ++ u) ≡ start.Other
  pub spelled : (u : List ℕ) → Ends u → Spells kind (w ++ u) u

pub token_here : (k : Kind) (p : ℕ) (w u : List ℕ) → start_of (w ++ u) ≡ start.Other → Spells k (w ++ u) u → 0 < length w
    → Found (at p (w ++ u)) (record { start = p; text = w; kind = k }) (at (p + length w) u)
token_here k p w u here spelled some = record {
  before = at p (w ++ u);
  passes = record { between = nothing (w ++ u); gone = []; slice = refl; place = omega arith; here = here };
  start = refl;
  slice = refl;
  place = refl;
  spelled = spelled;
  some = some;
}

pub after_space : (p : ℕ) (t : List ℕ) (s : Seen) (b : At) → Found (at (p + 1) t) s b → Found (at p (32 ∷ t)) s b
unfolding is_blank
after_space p t s b h = record {
  before = h.before;
  passes = record {
    between = blank 32 t h.before.rest refl h.passes.between;
    gone = 32 ∷ h.passes.gone;
    slice = ap (λ x. 32 ∷ x) h.passes.slice;
    place = omega (arith, h.passes.place);
    here = h.passes.here;
  };
  start = h.start;
  slice = h.slice;
  place = h.place;
  spelled = h.spelled;
  some = h.some;
}

-- a text of one token is one form
pub reads_leaf : (w : List ℕ) (b : Body) → IsLeaf w b → Reads (at 0 w) (made 0 b ∷ [])
reads_leaf w b h =
    let s : Seen = record { start = 0; text = w; kind = h.kind } in
    let f = token_here h.kind 0 w [] (h.here []) (h.spelled [] over) h.some in
    subst (λ t. Reads (at 0 t) (made 0 b ∷ [])) (append-nil w)
    (spells.form s (at 0 (w ++ [])) (at (0 + length w) []) (at (0 + length w) []) (made 0 b) [] f
    (spells.leaf 400 s (at (0 + length w) []) h.leaf b h.head h.body) (spells.end (at (0 + length w) []) (nothing [])))
