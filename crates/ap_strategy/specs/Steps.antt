-- The waterfall's step on a goal: its hint splits or pushes it; or it is simplified, or else the first of the later
-- processes that applies makes its children, or it is pushed, or the attempt stops at it; a pushed goal's induction
-- splits into its cases.
use Rattle.std.specs.Prelude.{◌≡◌, ℕ, ◌+◌, ◌-◌, Bool, true, false, cond, ◌||◌, nat_eq, nat_le, nat_lt, List, [], ◌∷◌, ◌++◌, length, map, Option, Some, None, IsTrue, IfSome}
use Rattle.std.specs.Option.{option_map}
use Rattle.ap_list.specs.Lists.{is_among}
use Rattle.ap_value.specs.declared.symbol.Symbol.{Symbol}
use Rattle.ap_term.specs.declared.term.Subst.{Subst}
use Rattle.ap_term.specs.declared.term.Term.{Term}
use Rattle.ap_term.specs.declared.term.Clause.{Clause}
use Rattle.ap_term.specs.Terms.{subst_of}
use Rattle.ap_world.specs.declared.entry.Entry.{Entry}
use Rattle.ap_world.specs.declared.entry.Theorem.{Theorem}
use Rattle.ap_world.specs.Clauses.{negate}
use Rattle.ap_world.specs.Meaning.{Valid}
use Rattle.ap_world.specs.Recursion.{args_eq}
use Rattle.ap_world.specs.Sound.{known, Sound, HasFunctions}
use Rattle.ap_world.specs.World.{theorem_of, are_distinct}
use Rattle.ap_names.specs.Names.{Name, child_of, primed_of}
use Rattle.ap_hints.specs.declared.hint.Hint.{Hint}
use Rattle.ap_hints.specs.Known.{KnownHints}
use Rattle.ap_walk.specs.declared.act.Reason.{Reason}
use Rattle.ap_walk.specs.declared.act.Process.{Process}
use Rattle.ap_walk.specs.declared.act.Out.{Out}
use Rattle.ap_walk.specs.declared.act.Stepped.{Stepped}
use Rattle.ap_kernel.specs.declared.reductions.Inference.{Inference}
use Rattle.ap_kernel.specs.Hinting.{case_clauses}
use Rattle.ap_kernel.specs.Reductions.{KnownClause}
use Rattle.ap_kernel.specs.Tidying.{tidied, holds_by_itself}
use Rattle.ap_kernel.specs.Solving.{any_true, solved_made}
use Rattle.ap_clausify.specs.Splitting.{settled_all}
use Rattle.ap_rewrite.specs.Settings.{Setting}
use Rattle.ap_rewrite.specs.InWorld.{world_setting}
use Rattle.ap_rewrite.specs.Literals.{simplify_of}
use Rattle.ap_induct.specs.Choosing.{scheme_of}
use Rattle.ap_elim.specs.Eliminating.{elim_made}
use Rattle.ap_weaken.specs.Fertilize.{fertilize_made}
use Rattle.ap_weaken.specs.Generalize.{generalize_made}
use Rattle.ap_weaken.specs.Irrelevance.{irrelevance_made}
use Rattle.ap_strategy.specs.declared.plan.Plan.{Plan}
use Rattle.ap_strategy.specs.declared.plan.Settings.{Settings}
use Rattle.ap_strategy.specs.Goals.{Goal, defs_of, hint_for, hinted}

-- what a goal's literals are rewritten by: its plan's world and the settings that hold for it
abbrev pub setting_by : Plan → Settings → Setting
setting_by plan s = world_setting plan.world s.theory s.expand

abbrev pub setting_of : Goal → Setting
setting_of g = setting_by g.plan g.settings

abbrev pub tidied_clause : Clause → Clause
tidied_clause c = record { 0 = tidied c.0 }

-- what comes first, if there is one, else what comes later
abbrev pub or_later : {A : Type 0} → Option A → Option A → Option A
or_later (Some a) o = Some a
or_later None o = o

-- the first literal that solves a variable, counted from this number on: the variable is replaced in the others
abbrev pub first_solved : Clause → ℕ → List Term → Option Inference
first_solved c i [] = None
first_solved c i (u ∷ us) = or_later (solved_made c i) (first_solved c (i + 1) us)

-- a tidied clause with a variable solved, else with its literals rewritten, and then split; None where the steps ran
-- out
abbrev pub opened : Setting → ℕ → Clause → Option Inference → Option (List Clause)
opened S steps c (Some r) = Some r.to
opened S steps c None = option_map settled_all (simplify_of S steps c)

-- what a clause is reduced to: to none where the tidied clause holds by itself
abbrev pub reduced : Setting → ℕ → Clause → Option (List Clause)
reduced S steps c =
    cond (holds_by_itself (tidied c.0)) (Some []) (opened S steps (tidied_clause c) (first_solved (tidied_clause c) 0 (tidied c.0)))

abbrev pub literals_of : Clause → List Term
literals_of c = c.0

abbrev pub is_repeated : List Clause → Clause → Bool
is_repeated ds c = is_among args_eq c.0 (map literals_of ds)

-- clauses behind others, without those that stand before
abbrev pub unrepeated : List Clause → List Clause → List Clause
unrepeated ds [] = ds
unrepeated ds (c ∷ cs) = unrepeated (cond (is_repeated ds c) ds (ds ++ c ∷ [])) cs

-- what simplification makes of a clause: later equal clauses are left out
abbrev pub simplified : Setting → ℕ → Clause → Option (List Clause)
simplified S steps c = option_map (unrepeated []) (reduced S steps c)

-- the clause alone
abbrev pub is_alone : Clause → List Clause → Bool
is_alone c (d ∷ []) = args_eq c.0 d.0
is_alone c ds = false

-- several children are numbered from their count down to 1; an only child adds a prime
abbrev pub counted_down : Name → List Clause → List (Name × Clause)
counted_down name [] = []
counted_down name (d ∷ ds) = (child_of name (length ds + 1), d) ∷ counted_down name ds

abbrev pub named : Name → List Clause → List (Name × Clause)
named name (d ∷ []) = (primed_of name, d) ∷ []
named name ds = counted_down name ds

-- the call that is given for an induction is for that one alone
abbrev pub child : Goal → Name × Clause → Goal
child g p = record g { name = p.0; clause = p.1; depth = g.depth + 1; induct = false; scheme = None }

abbrev pub children : Goal → List Clause → List Goal
children g ds = map (child g) (named g.name ds)

-- the cases of an induction are numbered also where there is only one, since the name of a pushed goal has no primes
abbrev pub cases : Goal → List Clause → List Goal
cases g ds = map (child g) (counted_down g.name ds)

abbrev pub done : Process → Bool → Bool → Out Goal → Stepped Goal
done process missed limited out = record { act = record { process = process; missed = missed; limited = limited }; out = out }

-- the place of a process in the waterfall: two are one where their places are
abbrev pub process_number : Process → ℕ
process_number Process.Hint = 0
process_number Process.Simplify = 1
process_number Process.Elim = 2
process_number Process.Fertilize = 3
process_number Process.Generalize = 4
process_number Process.Irrelevance = 5
process_number Process.Induct = 6
process_number Process.Push = 7
process_number Process.Stop = 8

abbrev pub is_process : Process → Process → Bool
is_process p q = nat_eq (process_number p) (process_number q)

-- a hint says that the process is skipped
abbrev pub is_skipped : Goal → Process → Bool
is_skipped g p = any_true (map (is_process p) g.settings.skip)

-- a process with the clauses that it makes
abbrev pub made_by : Process → Inference → Process × List Clause
made_by p i = (p, i.to)

-- one that isn't skipped, where it applies
abbrev pub applied : Goal → Process → Option Inference → Option (Process × List Clause)
applied g p o = cond (is_skipped g p) None (option_map (made_by p) o)

-- the first process behind simplification that applies, and what it makes
abbrev pub by_elim : Goal → Option (Process × List Clause)
by_elim g = applied g Process.Elim (elim_made g.settings.theory g.clause)

abbrev pub by_fertilize : Goal → Option (Process × List Clause)
by_fertilize g = applied g Process.Fertilize (fertilize_made g.clause)

abbrev pub by_generalize : Goal → Option (Process × List Clause)
by_generalize g = applied g Process.Generalize (generalize_made g.plan.world g.clause)

abbrev pub by_irrelevance : Goal → Option (Process × List Clause)
by_irrelevance g = applied g Process.Irrelevance (irrelevance_made g.clause)

abbrev pub later : Goal → Option (Process × List Clause)
later g = or_later (by_elim g) (or_later (by_fertilize g) (or_later (by_generalize g) (by_irrelevance g)))

-- a goal as those below it see it: whether a checkpoint stands above them
abbrev pub seen_below : Bool → Goal → Goal
seen_below under g = record g { under = under }

-- where simplification missed, the goal is a checkpoint: that process, else it is pushed
abbrev pub missed_step : Goal → Bool → Option (Process × List Clause) → Stepped Goal
missed_step g limited None = done Process.Push true limited Out.Push
missed_step g limited (Some p) = done p.0 true limited (Out.Split (children (seen_below true g) p.1))

-- simplification applies where what it makes isn't the clause alone; it misses also where the steps ran out
abbrev pub simplify_step : Goal → Option (List Clause) → Stepped Goal
simplify_step g None = missed_step g true (later g)
simplify_step g (Some ds) = cond (is_alone g.clause ds) (missed_step g false (later g)) (done Process.Simplify false false (Out.Split (children g ds)))

abbrev pub open_step : Goal → Stepped Goal
open_step g = simplify_step g (simplified (setting_of g) g.plan.step_limit g.clause)

-- a theorem's instance is assumed in a clause: its negation stands first
abbrev pub used_in : Option Theorem → Subst → Clause → Clause
used_in None s c = c
used_in (Some thm) s c = record { 0 = negate (subst_of s.0 thm.term) ∷ c.0 }

-- the instances that are used, the first of them first
abbrev pub used_all : List Entry → List (Symbol × Subst) → Clause → Clause
used_all W [] c = c
used_all W (p ∷ ps) c = used_in (theorem_of W p.0) p.1 (used_all W ps c)

-- the cases of a clause: the clause alone where there are none
abbrev pub cased_by : List Term → Clause → List Clause
cased_by us c = case_clauses us c.0

-- what a hint makes of a clause: its cases, in each of which the instances are assumed
abbrev pub hint_goals : List Entry → Hint → Clause → List Clause
hint_goals W h c = map (used_all W h.uses) (cased_by h.cases c)

abbrev pub has_any : {A : Type 0} → List A → Bool
has_any [] = false
has_any (x ∷ xs) = true

-- there are theorems to use, or cases
abbrev pub makes_goals : Hint → Bool
makes_goals h = has_any h.uses || has_any h.cases

-- a hint that makes goals makes the goal's children; another one with a call pushes the goal at once, which is no miss
abbrev pub pushed_or_open : Goal → Option Term → Stepped Goal
pushed_or_open g None = open_step g
pushed_or_open g (Some u) = done Process.Push false false Out.Push

abbrev pub hint_step : Goal → Option Hint → Stepped Goal
hint_step g None = open_step g
hint_step g (Some h) = cond (makes_goals h) (done Process.Hint false false (Out.Split (children g (hint_goals g.plan.world.entries h g.clause)))) (pushed_or_open g h.scheme)

abbrev pub stop_step : Bool → Reason → Stepped Goal
stop_step missed r = done Process.Stop missed false (Out.Stop r)

-- the empty clause counts as left unchanged
abbrev pub clause_step : Goal → List Term → Stepped Goal
clause_step g [] = stop_step true Reason.EmptyClause
clause_step g us = cond (nat_le 250 g.depth) (stop_step false Reason.PathDepth) (hint_step (hinted g) (hint_for g.plan g.name))

-- the clauses of an induction
abbrev pub cases_in : Term × Inference → List Clause
cases_in p = p.1.to

-- the cases of the induction that is chosen, if there is one
abbrev pub scheme_step : Goal → Option (Term × Inference) → Stepped Goal
scheme_step g None = stop_step false Reason.NoScheme
scheme_step g (Some p) = done Process.Induct false false (Out.Split (cases g (cases_in p)))

abbrev pub induct_step : Goal → Stepped Goal
induct_step g =
    cond (nat_lt 9 (length g.name.induction)) (stop_step false Reason.InductionDepth) (scheme_step g (scheme_of (defs_of g.plan) g.settings.theory g.clause g.scheme))

unfoldable pub step_of : Goal → Stepped Goal
step_of g = cond g.induct (induct_step g) (clause_step g g.clause.0)

-- the clauses that may still stand below; an induction begins new paths
abbrev pub depth_of : Goal → ℕ
depth_of g = cond g.induct 250 (250 - g.depth)

-- the call that an induction is to be by is a term of the world
abbrev pub KnownScheme : Goal → Type 0
KnownScheme g = IfSome g.scheme (λ u. IsTrue (known (defs_of g.plan) u))

-- what a proof of a goal establishes: in its plan's world, where that is sound, the clause is valid
abbrev pub IsGood : Goal → Type 0
IsGood g =
    HasFunctions (defs_of g.plan) → Sound g.plan.world.entries → are_distinct g.plan.world.entries ≡ true → KnownClause (defs_of g.plan) g.clause → KnownHints g.plan.world.entries g.plan.hints
    → KnownScheme g → Valid (defs_of g.plan) g.clause.0

-- as inferences of the kernel
abbrev pub reduced_to : Clause → List Clause → Inference
reduced_to c ds = record { from = c; to = ds }
