-- What the rewriter's code is handed, and what it answers: the definition's term with the definition's steps left, by
-- an equivalence that stands.
use Rattle.std.specs.Prelude.{◌≡◌, ℕ, Bool, true, false, IsTrue, IfOk, IfSome, cond, List, [], ◌∷◌, Option, Some, None, is_some, slice_get, Result}
use Rattle.std.specs.Option.{option_map}
use Rattle.std.specs.declared.alloc.AllocError.{AllocError}
use denote.Ref.{Bor, MutBor}
use Rattle.ap_list.specs.Lists.{Each, is_among}
use Rattle.ap_value.specs.declared.symbol.Symbol.{Symbol}
use Rattle.ap_term.specs.declared.term.Term.{Term, Call}
use Rattle.ap_term.specs.Equal.{term_eq}
use Rattle.ap_term.specs.Matching.{Pairs, Extends}
use Rattle.ap_term.specs.Metered.{Got, By, known as answer, after}
use Rattle.ap_world.specs.Meaning.{Defs}
use Rattle.ap_world.specs.Sound.{known}
use Rattle.ap_world.specs.World.{Shown, function_of}
use Rattle.ap_world.specs.declared.theory.Theory.{Theory}
use Rattle.ap_world.specs.Facts.{KnownFacts}
use Rattle.ap_world.specs.Assume.{assume}
use Rattle.ap_world.specs.Holding.{KnownPairs, part_of}
use Rattle.ap_world.specs.Rules.{Rule}
use Rattle.ap_poly.specs.Polynomials.{Polynomial}
use Rattle.ap_rules.specs.declared.linear.LinearRule.{LinearRule}
use Rattle.ap_rules.specs.Index.{IsIndex}
use Rattle.ap_kernel.specs.declared.objects.Ctx.{Ctx}
use Rattle.ap_kernel.specs.declared.objects.Mode.{Mode}
use Rattle.ap_kernel.specs.declared.objects.Equiv.{Equiv}
use Rattle.ap_kernel.specs.Answers.{said, rights}
use Rattle.ap_kernel.specs.Applying.{AllLead}
use Rattle.ap_kernel.specs.Standing.{DefinesNot, Stands}
use Rattle.ap_rewrite.specs.declared.rewriter.Rewriter.{Rewriter}
use Rattle.ap_rewrite.specs.declared.rewriter.Place.{Place}
use Rattle.ap_rewrite.specs.declared.rewriter.Run.{Run}
use Rattle.ap_rewrite.specs.declared.rewriter.Tried.{Tried}
use Rattle.ap_rewrite.specs.declared.rewriter.Tried.TheVariants.{Applied, PassedBy}
use Rattle.ap_rewrite.specs.declared.branching.BothBranches.{BothBranches}
use Rattle.ap_rewrite.specs.declared.facts.Relieved.{Relieved}
use Rattle.ap_rewrite.specs.declared.rules.Reliefs.{Reliefs}
use Rattle.ap_rewrite.specs.Arithmetic.{is_usable}
use Rattle.ap_rewrite.specs.Settings.{Setting, Inner, under, closing, Place as Stood}
use Rattle.ap_rewrite.specs.InWorld.{world_setting}
use Rattle.ap_rewrite.specs.Keys.{place_term}
use Rattle.ap_rewrite.specs.Shown.{MemoShown}
use Rattle.ap_rewrite.specs.Linear.{at_atoms, by_arithmetic}
use Rattle.ap_rewrite.specs.Rewriting.{answered, none, truth_of, settle, equate, both, walk, walk_on, by_rules, by_definition, rewrite_to}

-- the world, and its definitions
abbrev pub world_of : {O : Type 0} → Rewriter O → Shown
world_of r = r.w.now

abbrev pub defs_in : {O : Type 0} → Rewriter O → Defs
defs_in r = function_of r.w.now.entries

-- the world has the ground functions, and the index its rules
pub record Ready {O : Type 0} (r : Rewriter O) : Type 0 where
  pub ground : DefinesNot (defs_in r)
  pub index : IsIndex r.rules.now r.w.now.entries

-- what the definition goes by
abbrev pub setting_of : {O : Type 0} → Rewriter O → Setting
setting_of r = world_setting r.w.now r.theory.now r.expand.now

-- terms with so many levels left
abbrev pub inner_of : {O : Type 0} → Rewriter O → ℕ → Inner
inner_of r d = rewrite_to (setting_of r) d

-- where a term stands
abbrev pub seen_at : Place → Stood
seen_at p = record { facts = p.ctx.now.0; closed = p.closed.now; chain = p.chain }

-- an equivalence's term with the steps that are left; nothing where they ran out
abbrev pub got : Option Equiv → ℕ → Got Term
got None n = None
got (Some q) n = Some (q.says.rhs, n)

-- the steps that an answer leaves: none where they ran out
abbrev pub steps_after : {A : Type 0} → Got A → ℕ
steps_after None = 0
steps_after (Some p) = p.1

-- one that may not be there
abbrev pub right_of : Option Equiv → Option Term
right_of o = option_map (λ (q : Equiv). q.says.rhs) o

-- what something gave, where it applied
abbrev pub where_applied : {A : Type 0} → Tried A → Option A
where_applied (Applied x) = Some x
where_applied PassedBy = None

abbrev pub got_any : Option (Tried Equiv) → ℕ → Got (Option Term)
got_any None n = None
got_any (Some o) n = Some (right_of (where_applied o), n)

-- whether there is one
abbrev pub got_if : Option (Tried Equiv) → ℕ → Got Bool
got_if None n = None
got_if (Some o) n = Some (is_some (where_applied o), n)

-- polynomials
abbrev pub got_polys : Option (List Polynomial) → ℕ → Got (List Polynomial)
got_polys None n = None
got_polys (Some ps) n = Some (ps, n)

-- those of a list
abbrev pub got_all : Option (List Equiv) → ℕ → Got (List Term)
got_all None n = None
got_all (Some qs) n = Some (rights (said qs), n)

-- what is tried on a call after each thing that comes before
module _ (S : Setting) (r : Inner) (o : Mode) (p : Stood) (f : Symbol) (us : List Term) where
  abbrev pub by_opening : List (By (Option Term))
  by_opening = by_definition S r o p f us ∷ []

  abbrev pub from_rules : List (By (Option Term))
  from_rules = by_rules S r o p (Call f us) ∷ by_opening

  abbrev pub from_arithmetic : List (By (Option Term))
  from_arithmetic = by_arithmetic S r p f us ∷ from_rules

  abbrev pub from_equating : List (By (Option Term))
  from_equating = equate S r o p (Call f us) ∷ from_arithmetic

  abbrev pub from_settling : List (By (Option Term))
  from_settling = answer (settle S o p (Call f us)) ∷ from_equating

-- what both branches of an `if` lead to
abbrev pub got_branches : Option BothBranches → ℕ → Got (Term × Term)
got_branches None n = None
got_branches (Some q) n = Some ((q.yes.says.rhs, q.no.says.rhs), n)

abbrev pub in_branches : Inner → Mode → Stood → Term → Term → Term → By (Term × Term)
in_branches r o p a b c n = after (r o (under p a true) b n) (λ b' n. after (r o (under p a false) c n) (λ c'. answer (b', c')))

-- an answer at the end of a walk, where a branch was taken
abbrev pub leaf_on : Inner → Mode → Stood → Term → Bool → By (Option Term)
leaf_on r o p u true n = answered (r o p u n)
leaf_on r o p u false n = none n

-- both branches of the `if` at which a walk ends, where a branch was taken
abbrev pub ends_on : Setting → Inner → Mode → Stood → Bool → Term → Term → Term → By (Option Term)
ends_on S r o p true a b c n = answered (both S r o p a b c n)
ends_on S r o p false a b c n = none n

-- on from an `if` whose test has become a term
abbrev pub past_if : Setting → Inner → Mode → Stood → Stood → Bool → Term → Term → Term → By (Option Term)
past_if S r o p q taken a b c n = walk_on S r o p q taken a (truth_of a) (b, walk S r o p q b) (c, walk S r o p q c) n

-- the instance of the body of a function that recurs, to which a call leads: where one stands within
abbrev pub open_within : Setting → Inner → Mode → Stood → Stood → Term → Term → By (Option Term)
open_within S r o p q u v n = cond (is_among term_eq u S.expand) (answered (r o q v n)) (walk S r o p q v false n)

-- with the function closed
abbrev pub open_closed : Setting → Inner → Mode → Stood → Symbol → Term → Term → By (Option Term)
open_closed S r o p f u v n = open_within S r o p (closing f p) u v n

-- a linear rule at each atom, where the theory enables it; the rule at a place, where there is one; and those at places,
-- one after another
module _ (S : Setting) (r : Inner) (p : Stood) where
  abbrev pub used : LinearRule → List Term → List Polynomial → By (List Polynomial)
  used g xs ps n = cond (is_usable S.theory g) (at_atoms S r p g xs ps n) (answer ps n)

  abbrev pub used_at : Option LinearRule → List Term → List Polynomial → By (List Polynomial)
  used_at None xs ps n = answer ps n
  used_at (Some g) xs ps n = used g xs ps n

  abbrev pub used_each : List LinearRule → List ℕ → List Term → List Polynomial → By (List Polynomial)
  used_each gs [] xs ps n = answer ps n
  used_each gs (i ∷ is) xs ps n = after (used_at (slice_get gs i) xs ps n) (used_each gs is xs)

-- the pairs that come of a hypothesis, and of all of a rule's
abbrev pub pairs_of : Option Relieved → Option Pairs
pairs_of o = option_map (λ (q : Relieved). q.pairs.0) o

abbrev pub got_pairs : Option (Tried Relieved) → ℕ → Got (Option Pairs)
got_pairs None n = None
got_pairs (Some o) n = Some (pairs_of (where_applied o), n)

abbrev pub all_pairs : Option Reliefs → Option Pairs
all_pairs o = option_map (λ (q : Reliefs). q.pairs.0) o

abbrev pub got_reliefs : Option (Tried Reliefs) → ℕ → Got (Option Pairs)
got_reliefs None n = None
got_reliefs (Some o) n = Some (all_pairs (where_applied o), n)

-- a rule of the world, by the part of a theorem that it is
pub record IsRuleOf (w : Shown) (g : Rule) : Type 0 where
  pub part : part_of w.entries g.theorem g.part ≡ Some g
  pub hyps : Each (λ h. IsTrue (known (function_of w.entries) h)) g.hyps

-- the hypotheses are relieved: from each one's instance under the pairs an equivalence leads to 'T, and the pairs are
-- of terms of the world, those that there were and more
pub record Shows (w : Shown) (c : Ctx) (hs : List Term) (s : Pairs) (q : Reliefs) : Type 0 where
  pub stand : Each (Stands w) q.shown
  pub lead : AllLead c q.pairs.0 hs q.shown
  pub known : KnownPairs (function_of w.entries) q.pairs.0
  pub extends : Extends s q.pairs.0

-- from a term, under these facts and this mode, to one that means the same
pub record From (w : Shown) (o : Mode) (c : Ctx) (u : Term) (q : Equiv) : Type 0 where
  pub stands : Stands w q
  pub ctx : q.says.ctx ≡ c
  pub mode : q.says.mode ≡ o
  pub lhs : q.says.lhs ≡ u

-- from both branches of an `if`, each under what the test's sign adds to the facts
pub record FromBranches (w : Shown) (o : Mode) (c : Ctx) (a b d : Term) (q : BothBranches) : Type 0 where
  pub yes : From w o (record { 0 = assume c.0 a true }) b q.yes
  pub no : From w o (record { 0 = assume c.0 a false }) d q.no

-- from some term
abbrev pub Leads : Shown → Mode → Ctx → Equiv → Type 0
Leads w o c q = From w o c q.says.lhs q

-- for what a memo is, and at which place it stands
pub record Seat : Type 0 where
  pub world : Shown
  pub theory : Theory
  pub expand : List Term
  pub place : Option Term

unfoldable pub seat_of : MemoShown → Seat
seat_of m = record { world = m.world; theory = m.theory; expand = m.expand; place = m.place }

-- where one rewrites there: for the rewriter's world, theory and calls that are opened, at the place
abbrev pub seat_at : {O : Type 0} → Rewriter O → Place → Seat
seat_at r p = record { world = r.w.now; theory = r.theory.now; expand = r.expand.now; place = Some (place_term p.ctx.now.0 p.closed.now) }

abbrev pub Here : {O : Type 0} → Rewriter O → Place → MemoShown → Type 0
Here r p m = seat_of m ≡ seat_at r p

-- the same, whatever the place is
abbrev pub IsFor : {O : Type 0} → Rewriter O → MemoShown → Type 0
IsFor r m = (m.world ≡ r.w.now) × (m.theory ≡ r.theory.now) × (m.expand ≡ r.expand.now)

-- how a term is rewritten one level deeper: wherever facts and term are those of the world, and the memo stands where
-- the term does, it answers as the definition does with so many levels left, and the memo stays
pub record IsLevel {O : Type 0} (may : MutBor Run → Mode → Bor Place → Bor Term → Type 0)
    (gives : MutBor Run → Mode → Bor Place → Bor Term → Result (Option Equiv) AllocError → MutBor Run → Type 0)
    (r : Rewriter O) (d : ℕ) : Type 0 where
  pub ready : Ready r
  pub callable : (steps : MutBor Run) (o : Mode) (p : Bor Place) (u : Bor Term)
      → KnownFacts (defs_in r) p.now.ctx.now.0 → IsTrue (known (defs_in r) u.now) → Here r p.now steps.now.memo → may steps o p u
  pub is : (steps : MutBor Run) (o : Mode) (p : Bor Place) (u : Bor Term) (a : Result (Option Equiv) AllocError) (left : MutBor Run)
      → gives steps o p u a left → IfOk a (λ b. got b left.now.left ≡ inner_of r d o (seen_at p.now) u.now steps.now.left)
  pub from : (steps : MutBor Run) (o : Mode) (p : Bor Place) (u : Bor Term) (a : Result (Option Equiv) AllocError) (left : MutBor Run)
      → gives steps o p u a left → IfOk a (λ b. IfSome b (From r.w.now o p.now.ctx.now u.now))
  pub kept : (steps : MutBor Run) (o : Mode) (p : Bor Place) (u : Bor Term) (a : Result (Option Equiv) AllocError) (left : MutBor Run)
      → gives steps o p u a left → left.now.memo ≡ steps.now.memo
