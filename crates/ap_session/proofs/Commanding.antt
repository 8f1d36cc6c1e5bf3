-- Words of a command: limits, and options one after another.
use Rattle.std.proofs.Common.{◌≡◌, ◌∙◌, ◌≤◌, ◌-◌, ℕ, List, [], ◌∷◌, map, length, Option, Some, refl, ap, sym, subst, arith}
use Rattle.std.specs.Prelude.{get_or, take, drop}
use Rattle.ap_plain.specs.declared.limits.Limits.{Limits}
use Rattle.ap_plain.specs.Limits.{limits_of}
use Rattle.ap_session.specs.declared.command.Counted.{Counted}
use Rattle.ap_session.specs.declared.command.Flag.TheVariants.{Number, Trace}
use Rattle.ap_session.specs.declared.command.Options.{Options}
use Rattle.ap_session.specs.Command.{Command, flag_of, with_number, with_trace, with_options, first_word, command_from}

-- limits of equal numbers
pub limits_same : (o : Option Limits) (s g r t h k : ℕ) → o ≡ limits_of s g r → s ≡ t → g ≡ h → r ≡ k → o ≡ limits_of t h k
limits_same o s g r t h k e p q u = e ∙ ap (λ n. limits_of n g r) p ∙ ap (λ n. limits_of t n r) q ∙ ap (λ n. limits_of t h n) u

take_all : {A : Type 0} (n : ℕ) (xs : List A) → n ≡ length xs → take n xs ≡ xs
take_all n xs e = subst (λ k. take k xs ≡ xs) (sym e) (go xs)
  where
    go : {A : Type 0} (ys : List A) → take (length ys) ys ≡ ys
    go [] = refl
    go (y ∷ ys) = ap (λ zs. y ∷ zs) (go ys)

-- behind a word that is an option
traced : (r : Option Command) (w v : List ℕ) (ws : List (List ℕ)) (p q : Options) → flag_of w ≡ Some Trace → with_trace p ≡ Some q → r ≡ command_from (v ∷ ws) q
    → r ≡ command_from (w ∷ v ∷ ws) p
traced r w v ws p q f h e =
    e ∙ sym (ap (λ o. with_options o (command_from (v ∷ ws))) h) ∙ sym (ap (λ o. first_word o p w v ws (command_from (v ∷ ws)) (command_from ws)) f)

numbered : (r : Option Command) (w v : List ℕ) (ws : List (List ℕ)) (k : Counted) (p q : Options) → flag_of w ≡ Some (Number k) → with_number p k v ≡ Some q → r ≡ command_from ws q
    → r ≡ command_from (w ∷ v ∷ ws) p
numbered r w v ws k p q f h e =
    e ∙ sym (ap (λ o. with_options o (command_from ws)) h) ∙ sym (ap (λ o. first_word o p w v ws (command_from (v ∷ ws)) (command_from ws)) f)

-- the same of words that are at least two
pub traced_of : {A : Type 0} (f : A → List ℕ) (ws : List A) (a : A) (p q : Options) (r : Option Command) → 2 ≤ length ws → a ≡ get_or ws 0 a
    → flag_of (f a) ≡ Some Trace → with_trace p ≡ Some q → r ≡ command_from (map f (take (length ws - 1) (drop 1 ws))) q → r ≡ command_from (map f ws) p
traced_of f [] a p q r l ea fl h e = absurd (omega arith)
traced_of f (x ∷ []) a p q r l ea fl h e = absurd (omega arith)
traced_of f (x ∷ y ∷ ws) a p q r l ea fl h e =
    traced r (f x) (f y) (map f ws) p q (subst (λ z. flag_of (f z) ≡ Some Trace) ea fl) h
    (e ∙ ap (λ xs. command_from (map f xs) q) (take_all (length (x ∷ y ∷ ws) - 1) (y ∷ ws) (omega arith)))

pub numbered_of : {A : Type 0} (f : A → List ℕ) (ws : List A) (a b : A) (k : Counted) (p q : Options) (r : Option Command) → 2 ≤ length ws → a ≡ get_or ws 0 a → b ≡ get_or ws 1 b
    → flag_of (f a) ≡ Some (Number k) → with_number p k (f b) ≡ Some q → r ≡ command_from (map f (take (length ws - 2) (drop 2 ws))) q → r ≡ command_from (map f ws) p
numbered_of f [] a b k p q r l ea eb fl h e = absurd (omega arith)
numbered_of f (x ∷ []) a b k p q r l ea eb fl h e = absurd (omega arith)
numbered_of f (x ∷ y ∷ ws) a b k p q r l ea eb fl h e =
    numbered r (f x) (f y) (map f ws) k p q (subst (λ z. flag_of (f z) ≡ Some (Number k)) ea fl) (subst (λ z. with_number p k (f z) ≡ Some q) eb h)
    (e ∙ ap (λ xs. command_from (map f xs) q) (take_all (length (x ∷ y ∷ ws) - 2) ws (omega arith)))
