-- That what an engine leaves of a clause proves it, that generalization and fertilization apply wherever what they go
-- by is found, which that is, and what the parts of a clause are.
use Rattle.std.specs.Prelude.{◌≡◌, ◌↔◌, ◌<◌, ◌≤◌, ◌^◌, ℕ, Bool, true, false, IsTrue, List, [], ◌∷◌, ◌++◌, Some, None, length}
use Rattle.ap_list.specs.Lists.{Each, is_among}
use Rattle.ap_value.specs.declared.symbol.Symbol.{Symbol}
use Rattle.ap_value.specs.Values.{symbol_eq}
use Rattle.ap_term.specs.declared.term.Term.{Term}
use Rattle.ap_term.specs.declared.term.Clause.{Clause}
use Rattle.ap_term.specs.Terms.{term_size}
use Rattle.ap_world.specs.Meaning.{Defs, Total}
use Rattle.ap_world.specs.Sound.{known, HasFunctions}
use Rattle.ap_world.specs.World.{Shown, function_of}
use Rattle.ap_kernel.specs.declared.reductions.Inference.{Inference}
use Rattle.ap_kernel.specs.Masks.{MaskHolds}
use Rattle.ap_kernel.specs.Reductions.{KnownClause, Follows}
use Rattle.ap_kernel.specs.Standing.{DefinesNot}
use Rattle.ap_induct.specs.Choosing.{calls_among}
use Rattle.ap_elim.specs.Naming as naming
use Rattle.ap_weaken.specs.Fertilize.{can_use, use_of, fertilize_made}
use Rattle.ap_weaken.specs.Generalize.{mask_in, may_generalise, chosen, generalize_made}
use Rattle.ap_weaken.specs.Irrelevance.{vars_of, have_common, part_vars, irrelevance_made}

-- one clause is left, from which the other follows
pub record LeavesOne (D : Defs) (c : Clause) (i : Inference) : Type 0 where
  pub start : i.from ≡ c
  pub one : length i.to ≡ 1
  pub follows : Follows D i

abbrev pub FertilizeFollows : Type 0
FertilizeFollows = (D : Defs) → Total D → DefinesNot D → (c : Clause) → KnownClause D c → (i : Inference) → fertilize_made c ≡ Some i → LeavesOne D c i

-- where the masks of the world's terms hold
abbrev pub GeneralizeFollows : Type 0
GeneralizeFollows = (w : Shown) → Total (function_of w.entries) → HasFunctions (function_of w.entries) → ((t : Term) → IsTrue (known (function_of w.entries) t) → MaskHolds (function_of w.entries) [] t (mask_in w t))
    → (c : Clause) → KnownClause (function_of w.entries) c → (i : Inference) → generalize_made w c ≡ Some i → LeavesOne (function_of w.entries) c i

abbrev pub IrrelevanceFollows : Type 0
IrrelevanceFollows = (D : Defs) → Total D → (c : Clause) → KnownClause D c → (i : Inference) → irrelevance_made c ≡ Some i → LeavesOne D c i

-- with a call that is chosen, and fewer variables than memory can hold, there is a generalization
abbrev pub GeneralizeApplies : Type 0
GeneralizeApplies = (w : Shown) (c : Clause) (t : Term) → chosen w c.0 ≡ Some t → length (naming.vars_of c.0) < 2 ^ 63 → (i : Inference) × (generalize_made w c ≡ Some i)

-- a term stands among others and passes a test, each that passes it before it has more nodes, and none behind it fewer
pub record IsSmallest (test : Term → Bool) (ts : List Term) (t : Term) : Type 0 where
  pub front : List Term
  pub back : List Term
  pub stands : ts ≡ front ++ t ∷ back
  pub passes : test t ≡ true
  pub before : Each (λ u. test u ≡ true → term_size t < term_size u) front
  pub behind : Each (λ u. test u ≡ true → term_size t ≤ term_size u) back

-- the call that is generalized is exactly that one of those that may be
abbrev pub SmallestIsChosen : Type 0
SmallestIsChosen = (w : Shown) (ts : List Term) (t : Term) → (chosen w ts ≡ Some t) ↔ IsSmallest (may_generalise w ts) (calls_among ts) t

-- and there is none exactly where none may be
abbrev pub NoneMayBe : Type 0
NoneMayBe = (w : Shown) (ts : List Term) → (chosen w ts ≡ None) ↔ Each (λ t. may_generalise w ts t ≡ false) (calls_among ts)

-- the places of the first literal that can be used in some literal, and of the first that it can be used in
pub record IsFirstUse (c : Clause) (i j : ℕ) : Type 0 where
  pub there : can_use c i j ≡ true
  pub first : (k l : ℕ) → k < i → can_use c k l ≡ false
  pub next : (l : ℕ) → l < j → can_use c i l ≡ false

-- those are where fertilization uses an equation
abbrev pub FirstUseIsTaken : Type 0
FirstUseIsTaken = (c : Clause) (i j : ℕ) → (use_of c ≡ Some (i, j)) ↔ IsFirstUse c i j

-- where some literal can be used in some literal there is a fertilization
abbrev pub FertilizeApplies : Type 0
FertilizeApplies = (c : Clause) (i j : ℕ) → can_use c i j ≡ true → (q : Inference) × (fertilize_made c ≡ Some q)

-- each of some variables is one of others
abbrev pub Within : List Symbol → List Symbol → Type 0
Within xs ys = (x : Symbol) → is_among symbol_eq x xs ≡ true → is_among symbol_eq x ys ≡ true

-- with one variable of a literal some variables have them all
abbrev pub IsClosed : List Term → List Symbol → Type 0
IsClosed ts xs = Each (λ u. have_common xs (vars_of u) ≡ true → Within (vars_of u) xs) ts

-- those of a literal's part are so and have the literal's own, and they are the least that are so
abbrev pub PartsAreClosed : Type 0
PartsAreClosed = (ts : List Term) (u : Term) → IsClosed ts (part_vars ts u) × Within (vars_of u) (part_vars ts u)

abbrev pub PartsAreLeast : Type 0
PartsAreLeast = (ts : List Term) (u : Term) (xs : List Symbol) → IsClosed ts xs → Within (vars_of u) xs → Within (part_vars ts u) xs
