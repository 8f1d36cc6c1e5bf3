-- Induction on values, what a fold gives at each kind of value, and what the outside of a value says of it.
use Rattle.std.proofs.Common.{◌≡◌, ℕ, List, ℤ, refl, sym, ap, subst, ◌∙◌}
use Rattle.ap_value.specs.declared.symbol.Symbol.{Symbol}
use Rattle.ap_value.specs.declared.value.Value.{Value, fold-Value, fold-roll-Value, ind-Value, roll-Value, map-Value, out-Value, Int, Chr, Str, Sym, Cons}
use Rattle.ap_value.specs.declared.value.Value.TheOpen.{Value-F}
use Rattle.ap_value.specs.declared.value.Value.TheVariants.{rolls-Int, rolls-Chr, rolls-Str, rolls-Sym, rolls-Cons, outs-Int, outs-Chr, outs-Str, outs-Sym, outs-Cons}

-- what holds of each atom, and of a cons where it holds of both parts, holds of each value
pub value_ind : (P : Value → Type 0) → ((n : ℤ) → P (Int n)) → ((c : ℕ) → P (Chr c)) → ((s : List ℕ) → P (Str s)) → ((s : Symbol) → P (Sym s))
    → ((a b : Value) → P a → P b → P (Cons a b)) → (v : Value) → P v
value_ind P int chr str symbol cons = ind-Value P (λ x y is. subst (λ z. P (roll-Value z)) is (go y))
  where
    go : (y : Value-F ((v : Value) × P v)) → P (roll-Value (map-Value ((v : Value) × P v) Value (λ p. p.0) y))
    go (Value-F.Int n) = subst P (sym (rolls-Int n)) (int n)
    go (Value-F.Chr c) = subst P (sym (rolls-Chr c)) (chr c)
    go (Value-F.Str s) = subst P (sym (rolls-Str s)) (str s)
    go (Value-F.Sym s) = subst P (sym (rolls-Sym s)) (symbol s)
    go (Value-F.Cons p q) = subst P (sym (rolls-Cons p.0 q.0)) (cons p.0 q.0 p.1 q.1)

module _ {A : Type 0} (step : Value-F A → A) where
  pub fold_int : (n : ℤ) → fold-Value A step (Int n) ≡ step (Value-F.Int n)
  fold_int n = ap (fold-Value A step) (sym (rolls-Int n)) ∙ fold-roll-Value A step (Value-F.Int n)

  pub fold_chr : (c : ℕ) → fold-Value A step (Chr c) ≡ step (Value-F.Chr c)
  fold_chr c = ap (fold-Value A step) (sym (rolls-Chr c)) ∙ fold-roll-Value A step (Value-F.Chr c)

  pub fold_str : (s : List ℕ) → fold-Value A step (Str s) ≡ step (Value-F.Str s)
  fold_str s = ap (fold-Value A step) (sym (rolls-Str s)) ∙ fold-roll-Value A step (Value-F.Str s)

  pub fold_sym : (s : Symbol) → fold-Value A step (Sym s) ≡ step (Value-F.Sym s)
  fold_sym s = ap (fold-Value A step) (sym (rolls-Sym s)) ∙ fold-roll-Value A step (Value-F.Sym s)

  pub fold_cons : (p q : Value) → fold-Value A step (Cons p q) ≡ step (Value-F.Cons (fold-Value A step p) (fold-Value A step q))
  fold_cons p q = ap (fold-Value A step) (sym (rolls-Cons p q)) ∙ fold-roll-Value A step (Value-F.Cons p q)

-- what the outside of a value says of it
abbrev pub ValueSays : Value → Value-F Value → Type 0
ValueSays v (Value-F.Int n) = v ≡ Int n
ValueSays v (Value-F.Chr c) = v ≡ Chr c
ValueSays v (Value-F.Str s) = v ≡ Str s
ValueSays v (Value-F.Sym s) = v ≡ Sym s
ValueSays v (Value-F.Cons p q) = v ≡ Cons p q

pub value_says : (v : Value) → ValueSays v (out-Value v)
value_says = value_ind (λ v. ValueSays v (out-Value v)) int chr str symbol cons
  where
    int : (n : ℤ) → ValueSays (Int n) (out-Value (Int n))
    int n = rw (outs-Int n) refl

    chr : (c : ℕ) → ValueSays (Chr c) (out-Value (Chr c))
    chr c = rw (outs-Chr c) refl

    str : (s : List ℕ) → ValueSays (Str s) (out-Value (Str s))
    str s = rw (outs-Str s) refl

    symbol : (s : Symbol) → ValueSays (Sym s) (out-Value (Sym s))
    symbol s = rw (outs-Sym s) refl

    cons : (a b : Value) → ValueSays a (out-Value a) → ValueSays b (out-Value b) → ValueSays (Cons a b) (out-Value (Cons a b))
    cons a b h k = rw (outs-Cons a b) refl
