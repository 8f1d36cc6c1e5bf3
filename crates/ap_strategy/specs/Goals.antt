-- The tasks of the waterfall, as contracts see them.
use Rattle.std.specs.Prelude.{◌≡◌, ◌≤◌, ℕ, Bool, true, false, cond, IsTrue, IfSome, List, [], ◌∷◌, ◌++◌, Option, Some, None, unwrap_or}
use Rattle.ap_list.specs.Lists.{Each}
use Rattle.ap_term.specs.declared.term.Term.{Term}
use Rattle.ap_term.specs.declared.term.Clause.{Clause}
use Rattle.ap_world.specs.Clauses.{flat}
use Rattle.ap_world.specs.Meaning.{Defs}
use Rattle.ap_world.specs.Sound.{known, HasFunctions}
use Rattle.ap_world.specs.World.{function_of}
use Rattle.ap_names.specs.Names.{Name, name_eq, root, is_pushed, pushed_of}
use Rattle.ap_hints.specs.declared.hint.Hint.{Hint}
use Rattle.ap_hints.specs.Known.{KnownHints, no_hints}
use Rattle.ap_kernel.specs.Reductions.{KnownClause}
use Rattle.ap_strategy.specs.declared.plan.Plan.{Plan}
use Rattle.ap_strategy.specs.declared.plan.Settings.{Settings}

-- a goal: the plan that it is worked by, its name and clause, how many clauses stand above it, whether a
-- checkpoint does, what holds for it and all below, whether it is the induction of a pushed goal, and the
-- call that this is by, where one is given
pub record Goal : Type 0 where
  pub plan : Plan
  pub name : Name
  pub clause : Clause
  pub depth : ℕ
  pub under : Bool
  pub settings : Settings
  pub induct : Bool
  pub scheme : Option Term

-- the plan of a brand that no call has picked: of no world, and without hints
abbrev pub no_plan : Plan
no_plan = record { world = record { entries = []; theory = record { disabled = [] } }; hints = no_hints; step_limit = 0 }

-- the functions of a plan's world
abbrev pub defs_of : Plan → Defs
defs_of plan = function_of plan.world.entries

-- what each task keeps
pub record IsGoal (g : Goal) : Type 0 where
  pub functions : HasFunctions (defs_of g.plan)
  pub hints : KnownHints g.plan.world.entries g.plan.hints
  pub clause : KnownClause (defs_of g.plan) g.clause
  pub expand : Each (λ u. IsTrue (known (defs_of g.plan) u)) g.settings.expand
  pub scheme : IfSome g.scheme (λ u. IsTrue (known (defs_of g.plan) u))
  pub depth : g.depth ≤ 250
  pub primes : g.name.primes ≤ g.depth
  pub induction : g.induct ≡ true → (is_pushed g.name ≡ true) × (g.depth ≡ 0)
  pub others : g.induct ≡ false → is_pushed g.name ≡ false

-- what holds where no hint says otherwise
abbrev pub first_settings : Plan → Settings
first_settings plan = record { theory = plan.world.theory; expand = []; skip = [] }

-- the goal that the attempt on a clause starts from has the name `Goal`
abbrev pub clause_goal : Plan → Clause → Goal
clause_goal plan c = record {
  plan = plan;
  name = root;
  clause = c;
  depth = 0;
  under = false;
  settings = first_settings plan;
  induct = false;
  scheme = None;
}

-- and that on a term, from the term's clause
abbrev pub root_goal : Plan → Term → Goal
root_goal plan u = clause_goal plan (record { 0 = flat u })

-- the hint of a name, the first that is for it
abbrev pub hint_among : List Hint → Name → Option Hint
hint_among [] name = None
hint_among (h ∷ hs) name = cond (name_eq h.goal name) (Some h) (hint_among hs name)

abbrev pub hint_for : Plan → Name → Option Hint
hint_for plan name = hint_among plan.hints.list name

-- what a hint says beside what holds from above: its theory takes the place of that one; its calls to open and its
-- processes that don't apply are added
abbrev pub with_hint : Option Hint → Settings → Settings
with_hint None s = s
with_hint (Some h) s = record { theory = unwrap_or h.theory s.theory; expand = s.expand ++ h.expand; skip = s.skip ++ h.skip }

-- a goal with what its own name's hint says of it and of all below
abbrev pub hinted : Goal → Goal
hinted g = record g { settings = with_hint (hint_for g.plan g.name) g.settings }

-- the call that a hint says an induction is to be by
abbrev pub scheme_by : Option Hint → Option Term
scheme_by None = None
scheme_by (Some h) = h.scheme

-- the induction of a goal that was pushed as number k of its walk: it has the pushed goal's name, new paths begin
-- at it, and the hint of the goal that was pushed holds for it
abbrev pub inducted : Goal → ℕ → Goal
inducted g k = record (hinted g) { name = pushed_of g.name k; depth = 0; under = false; induct = true; scheme = scheme_by (hint_for g.plan g.name) }
