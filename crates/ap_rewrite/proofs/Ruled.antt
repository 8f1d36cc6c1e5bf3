-- A rule that is tried, and rules one after another.
use Rattle.std.proofs.Common.{◌≡◌, ℕ, Bool, true, false, cond, List, [], ◌∷◌, map, Option, Some, None, IfSome, sym, ap, ◌∙◌}
use Rattle.std.specs.Option.{option_map}
use Rattle.ap_term.specs.Metered.{Got, By, after, or_else, first_that}
use Rattle.ap_rewrite.specs.declared.rewriter.Tried.TheVariants.{Applied}
use Rattle.ap_rewrite.specs.Answering.{where_applied}

-- what a test chooses
pub taken : {A : Type 0} (b : Bool) (g x y : A) → b ≡ true → g ≡ x → g ≡ cond b x y
taken true g x y e h = h
taken false g x y e h = cc

pub passed : {A : Type 0} (b : Bool) (g x y : A) → b ≡ false → g ≡ y → g ≡ cond b x y
passed true g x y e h = cc
passed false g x y e h = h

-- one answer and then another
pub after_out : {A B : Type 0} (g : Got A) (k : A → By B) → None ≡ g → None ≡ after g k
after_out g k e = ap (λ x. after x k) e

pub after_some : {A B : Type 0} (g : Got A) (k : A → By B) (a : A) (m : ℕ) (x : Got B) → Some (a, m) ≡ g → x ≡ k a m → x ≡ after g k
after_some g k a m x e h = h ∙ ap (λ y. after y k) e

-- an answer that is there
pub each_answered : {A : Type 0} (P : A → Type 0) (o : Option A) → IfSome o P → IfSome (option_map Applied o) (λ a. IfSome (where_applied a) P)
each_answered P None h = tt
each_answered P (Some a) h = h

-- what is left of a search gives what all of it gives
module _ {R A : Type 0} (try : R → By (Option A)) (all : Got (Option A)) (front rest : List R) (g : R) (n m : ℕ) (at : front ≡ g ∷ rest) (is : all ≡ first_that (map try front) n) where
  once : all ≡ after (try g n) (λ o. or_else o (first_that (map try rest)))
  once = is ∙ ap (λ gs. first_that (map try gs) n) at

  pub search_out : None ≡ try g n → None ≡ all
  search_out e = sym (once ∙ ap (λ x. after x (λ o. or_else o (first_that (map try rest)))) (sym e))

  pub search_some : (a : A) → Some (Some a, m) ≡ try g n → Some (Some a, m) ≡ all
  search_some a e = sym (once ∙ ap (λ x. after x (λ o. or_else o (first_that (map try rest)))) (sym e))

  pub search_next : ◌≡◌ {A = Got (Option A)} (Some (None, m)) (try g n) → all ≡ first_that (map try rest) m
  search_next e = once ∙ ap (λ x. after x (λ o. or_else o (first_that (map try rest)))) (sym e)

pub search_end : {R A : Type 0} (try : R → By (Option A)) (all : Got (Option A)) (front : List R) (n : ℕ) → front ≡ [] → all ≡ first_that (map try front) n → ◌≡◌ {A = Got (Option A)} (Some (None, n)) all
search_end try all front n at is = sym (is ∙ ap (λ gs. first_that (map try gs) n) at)
