-- The test of equality on the values that a program holds says what it says.
use Rattle.std.proofs.Common.{◌≡◌, ℕ, Bool, true, ℤ, List, refl, sym, ap, ◌∙◌}
use Rattle.std.proofs.lemmas.Bool.{eqb-true, eq-eqb}
use Rattle.ap_value.specs.declared.symbol.Symbol.{Symbol}
use Rattle.ap_value.specs.declared.value.Value.{Value, out-Value, Int, Chr, Str, Sym, Cons}
use Rattle.ap_value.specs.declared.value.Value.TheOpen.{Value-F}
use Rattle.ap_value.specs.declared.value.Value.TheVariants.{outs-Int, outs-Chr, outs-Str, outs-Sym, outs-Cons}
use Rattle.ap_value.specs.Equal.{constant_step, constant_eq}
use Rattle.ap_value.proofs.Equals.{both, and_true, int_eq-true, int_eq-same, bytes_eq-true, bytes_eq-same, symbol_eq-true, symbol_eq-same}
use Rattle.ap_value.proofs.Induction.{value_ind, fold_int, fold_chr, fold_str, fold_sym, fold_cons, ValueSays, value_says}

abbrev tested : Value-F (Value → Bool) → Value → Bool
tested y v = constant_step y (out-Value v)

-- one level of the test
module _ (b : Value) where
  pub at_int : (n : ℤ) → constant_eq (Int n) b ≡ constant_step (Value-F.Int n) (out-Value b)
  unfolding constant_eq
  at_int n = ap (λ f. f b) (fold_int tested n)

  pub at_chr : (c : ℕ) → constant_eq (Chr c) b ≡ constant_step (Value-F.Chr c) (out-Value b)
  unfolding constant_eq
  at_chr c = ap (λ f. f b) (fold_chr tested c)

  pub at_str : (s : List ℕ) → constant_eq (Str s) b ≡ constant_step (Value-F.Str s) (out-Value b)
  unfolding constant_eq
  at_str s = ap (λ f. f b) (fold_str tested s)

  pub at_sym : (s : Symbol) → constant_eq (Sym s) b ≡ constant_step (Value-F.Sym s) (out-Value b)
  unfolding constant_eq
  at_sym s = ap (λ f. f b) (fold_sym tested s)

  pub at_cons : (p q : Value) → constant_eq (Cons p q) b ≡ constant_step (Value-F.Cons (constant_eq p) (constant_eq q)) (out-Value b)
  unfolding constant_eq
  at_cons p q = ap (λ f. f b) (fold_cons tested p q)

abbrev Told : Value → Type 0
Told a = (b : Value) → constant_eq a b ≡ true → a ≡ b

told_int : (m : ℤ) → Told (Int m)
told_int m b h = go (out-Value b) (value_says b) (sym (at_int b m) ∙ h)
  where
    go : (y : Value-F Value) → ValueSays b y → constant_step (Value-F.Int m) y ≡ true → Int m ≡ b
    go (Value-F.Int n) s k = ap Int (int_eq-true m n k) ∙ sym s
    go y s k = cc

told_chr : (c : ℕ) → Told (Chr c)
told_chr c b h = go (out-Value b) (value_says b) (sym (at_chr b c) ∙ h)
  where
    go : (y : Value-F Value) → ValueSays b y → constant_step (Value-F.Chr c) y ≡ true → Chr c ≡ b
    go (Value-F.Chr d) s k = ap Chr (eqb-true c d k) ∙ sym s
    go y s k = cc

told_str : (t : List ℕ) → Told (Str t)
told_str t b h = go (out-Value b) (value_says b) (sym (at_str b t) ∙ h)
  where
    go : (y : Value-F Value) → ValueSays b y → constant_step (Value-F.Str t) y ≡ true → Str t ≡ b
    go (Value-F.Str u) s k = ap Str (bytes_eq-true t u k) ∙ sym s
    go y s k = cc

told_sym : (t : Symbol) → Told (Sym t)
told_sym t b h = go (out-Value b) (value_says b) (sym (at_sym b t) ∙ h)
  where
    go : (y : Value-F Value) → ValueSays b y → constant_step (Value-F.Sym t) y ≡ true → Sym t ≡ b
    go (Value-F.Sym u) s k = ap Sym (symbol_eq-true t u k) ∙ sym s
    go y s k = cc

told_cons : (p q : Value) → Told p → Told q → Told (Cons p q)
told_cons p q f g b h = go (out-Value b) (value_says b) (sym (at_cons b p q) ∙ h)
  where
    go : (y : Value-F Value) → ValueSays b y → constant_step (Value-F.Cons (constant_eq p) (constant_eq q)) y ≡ true → Cons p q ≡ b
    go (Value-F.Cons u v) s k =
        let e = both (constant_eq p u) (constant_eq q v) k in
        ap (λ x. Cons x q) (f u e.0) ∙ ap (λ x. Cons u x) (g v e.1) ∙ sym s
    go y s k = cc

-- two values that the test takes for one are one
pub constant_eq-true : (a b : Value) → constant_eq a b ≡ true → a ≡ b
constant_eq-true = value_ind Told told_int told_chr told_str told_sym told_cons

-- each value is the same as itself
pub constant_eq-same : (v : Value) → constant_eq v v ≡ true
constant_eq-same = value_ind (λ v. constant_eq v v ≡ true) int chr str symbol cons
  where
    int : (n : ℤ) → constant_eq (Int n) (Int n) ≡ true
    int n = at_int (Int n) n ∙ ap (constant_step (Value-F.Int n)) (outs-Int n) ∙ int_eq-same n

    chr : (c : ℕ) → constant_eq (Chr c) (Chr c) ≡ true
    chr c = at_chr (Chr c) c ∙ ap (constant_step (Value-F.Chr c)) (outs-Chr c) ∙ eq-eqb c c refl

    str : (s : List ℕ) → constant_eq (Str s) (Str s) ≡ true
    str s = at_str (Str s) s ∙ ap (constant_step (Value-F.Str s)) (outs-Str s) ∙ bytes_eq-same s

    symbol : (s : Symbol) → constant_eq (Sym s) (Sym s) ≡ true
    symbol s = at_sym (Sym s) s ∙ ap (constant_step (Value-F.Sym s)) (outs-Sym s) ∙ symbol_eq-same s

    cons : (p q : Value) → constant_eq p p ≡ true → constant_eq q q ≡ true → constant_eq (Cons p q) (Cons p q) ≡ true
    cons p q h k =
        at_cons (Cons p q) p q ∙ ap (constant_step (Value-F.Cons (constant_eq p) (constant_eq q))) (outs-Cons p q)
        ∙ and_true (constant_eq p p) (constant_eq q q) h k
