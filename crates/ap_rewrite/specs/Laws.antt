-- The laws of rewriting, as its public functions of no effect state them.
use Rattle.std.specs.Prelude.{◌≡◌, ℕ, ◌-◌, ◌≤◌, true, List, [], Option, Some, map}
use Rattle.ap_list.specs.Lists.{Each}
use Rattle.ap_value.specs.declared.symbol.Symbol.{Symbol}
use Rattle.ap_term.specs.declared.term.Term.{Term, Call}
use Rattle.ap_term.specs.declared.term.Clause.{Clause}
use Rattle.ap_world.specs.declared.theory.Theory.{Theory}
use Rattle.ap_world.specs.Meaning.{Defs, Total}
use Rattle.ap_world.specs.Sound.{known, Sound}
use Rattle.ap_world.specs.World.{Shown, function_of, are_distinct}
use Rattle.ap_world.specs.Facts.{KnownFacts}
use Rattle.ap_kernel.specs.declared.objects.Mode.{Mode}
use Rattle.ap_kernel.specs.Standing.{DefinesNot, Holds}
use Rattle.ap_kernel.specs.Reductions.{KnownClause, Follows}
use Rattle.ap_term.specs.Metered.{By, first_that}
use Rattle.ap_rewrite.specs.ByCost.{Fits, at_chain, charged}
use Rattle.ap_rewrite.specs.Costs.{Metered}
use Rattle.ap_rules.specs.declared.linear.LinearRule.{LinearRule}
use Rattle.ap_rules.specs.Linear.{LinearHolds}
use Rattle.ap_rewrite.specs.Arithmetic.{Arithmetic, no_arithmetic, linear_arithmetic, arithmetic_in, SoundArithmetic}
use Rattle.ap_rewrite.specs.Settings.{Setting, Place, Inner}
use Rattle.ap_rewrite.specs.Rewriting.{try_rule, by_rules, rewrite_to}
use Rattle.ap_rewrite.specs.Literals.{rewrite_literals, rewritten_to, simplify_of}
use Rattle.ap_rewrite.specs.InWorld.{setting_in}
use Rattle.ap_rules.specs.Indexed.{rules_for}
use Rattle.ap_rewrite.specs.SoundSettings.{defs_of, SoundSetting}

-- what a rewriting costs doesn't depend on the steps that are left, for a term and for the literals of a clause
abbrev pub RewritingIsMetered : Type 0
RewritingIsMetered = (S : Setting) (d : ℕ) (o : Mode) (p : Place) (u : Term) → Metered (rewrite_to S d o p u)

abbrev pub LiteralsAreMetered : Type 0
LiteralsAreMetered = (S : Setting) (done rest : List Term) → Metered (rewrite_literals S done rest)

-- a search over the rules of a call's head is the search over all
abbrev pub SearchByHead : Type 0
SearchByHead = (S : Setting) (r : Inner) (o : Mode) (p : Place) (f : Symbol) (us : List Term) (n : ℕ)
    → first_that (map (try_rule S r o p (Call f us)) (rules_for f S.rules)) n ≡ by_rules S r o p (Call f us) n

-- what a rewriting answers of a known term under known facts is a known term that has its value, or under `iff` its
-- truth, wherever the facts hold
abbrev pub RewritingStands : Type 0
RewritingStands = (S : Setting) → SoundSetting S → (d : ℕ) (o : Mode) (p : Place) (u : Term) (n : ℕ) (v : Term) (m : ℕ)
    → KnownFacts (defs_of S) p.facts → known (defs_of S) u ≡ true → rewrite_to S d o p u n ≡ Some (v, m)
    → Holds (defs_of S) (record { ctx = record { 0 = p.facts }; mode = o; lhs = u; rhs = v })

-- a clause whose literals are rewritten in turn is valid where what is left is
abbrev pub LiteralsReduce : Type 0
LiteralsReduce = (S : Setting) → SoundSetting S → (c : Clause) (n : ℕ) (o : Option (List Term)) (m : ℕ)
    → KnownClause (defs_of S) c → rewrite_literals S [] c.0 n ≡ Some (o, m) → Follows (defs_of S) (rewritten_to c o)

-- a clause whose literals are rewritten, and which is then split, is valid where all that is left are
abbrev pub SimplifyingReduces : Type 0
SimplifyingReduces = (S : Setting) → SoundSetting S → (c : Clause) (n : ℕ) (cs : List Clause) (m : ℕ) → KnownClause (defs_of S) c → simplify_of S n c ≡ Some (cs, m)
    → Follows (defs_of S) (record { from = c; to = cs })

-- a sound world with the ground functions, whose names are distinct, makes a sound setting
abbrev pub WorldIsSoundSetting : Type 0
WorldIsSoundSetting = (w : Shown) (h : Theory) (us : List Term) (l : Arithmetic) → Sound w.entries → DefinesNot (function_of w.entries) → are_distinct w.entries ≡ true
    → SoundArithmetic l (function_of w.entries) → SoundSetting (setting_in w h us l)

-- arithmetic is right in a total world, that which decides nothing and that of polynomials; and that of a sound world
-- by its own rules
abbrev pub NothingIsSound : Type 0
NothingIsSound = (D : Defs) → SoundArithmetic no_arithmetic D

abbrev pub PolynomialsAreSound : Type 0
PolynomialsAreSound = (D : Defs) → Total D → (gs : List LinearRule) → Each (LinearHolds D) gs → SoundArithmetic (linear_arithmetic gs) D

abbrev pub WorldsIsSound : Type 0
WorldsIsSound = (w : Shown) (h : Theory) → Sound w.entries → DefinesNot (function_of w.entries) → SoundArithmetic (arithmetic_in w h) (function_of w.entries)

-- so what rewriting answers in such a world stands, with nothing else assumed
abbrev pub InWorldStands : (Shown → Theory → Arithmetic) → Type 0
InWorldStands l = (w : Shown) (h : Theory) (us : List Term) → Sound w.entries → DefinesNot (function_of w.entries) → are_distinct w.entries ≡ true
    → (d : ℕ) (o : Mode) (p : Place) (u : Term) (n : ℕ) (v : Term) (m : ℕ) → KnownFacts (function_of w.entries) p.facts → known (function_of w.entries) u ≡ true
    → rewrite_to (setting_in w h us (l w h)) d o p u n ≡ Some (v, m)
    → Holds (function_of w.entries) (record { ctx = record { 0 = p.facts }; mode = o; lhs = u; rhs = v })

-- an answer with m left of n steps tells the answer by every other number of steps: the cost is n - m
abbrev pub CostIsExact : Type 0 → Type 0
CostIsExact A = (g : By A) → Metered g → (n : ℕ) (a : A) (m : ℕ) → g n ≡ Some (a, m) → (j : ℕ) → g j ≡ charged a (n - m) j

abbrev pub HitIsExact : Type 0
HitIsExact = (S : Setting) (d : ℕ) (o : Mode) (p : Place) (u : Term) (n : ℕ) (v : Term) (m : ℕ) → rewrite_to S d o p u n ≡ Some (v, m)
    → (j : ℕ) → rewrite_to S d o p u j ≡ charged v (n - m) j

-- by no more steps than levels it doesn't matter how many levels there are; nor how many hypotheses are being relieved
-- around a term, where the steps can't reach that limit
abbrev pub StepsBoundLimits : Type 0
StepsBoundLimits = (S : Setting) (d e n : ℕ) → n ≤ d → n ≤ e → (o : Mode) (p : Place) (c : ℕ) → Fits n p.chain c → (u : Term)
    → rewrite_to S d o p u n ≡ rewrite_to S e o (at_chain c p) u n

-- so an answer that cost no more steps than there were levels is known at each number of levels that is no less than
-- its cost, by its cost, whatever is left
abbrev pub CheapHitIsExact : Type 0
CheapHitIsExact = (S : Setting) (d e : ℕ) (o : Mode) (p : Place) (c : ℕ) (u : Term) (n : ℕ) (v : Term) (m : ℕ) → rewrite_to S d o p u n ≡ Some (v, m)
    → n - m ≤ d → n - m ≤ e → Fits (n - m) p.chain c → (j : ℕ) → rewrite_to S e o (at_chain c p) u j ≡ charged v (n - m) j
