-- The laws of the waterfall's step, proved. They stand here, and what they stand on, since the step's `impl` cites
-- them.
use Rattle.std.proofs.Common.{◌≡◌, ◌≢◌, ◌<◌, ◌+◌, ◌-◌, ℕ, nat_le, nat_lt, Bool, true, false, cond, List, [], ◌∷◌, length, map, Option, Some, None, refl, sym, ◌∙◌, subst, true≢false, arith}
use Rattle.std.proofs.lemmas.Bool.{leb-false}
use Rattle.ap_list.specs.Lists.{Each}
use Rattle.ap_term.specs.declared.term.Term.{Term}
use Rattle.ap_term.specs.declared.term.Clause.{Clause}
use Rattle.ap_world.specs.Meaning.{Defs, Valid}
use Rattle.ap_world.specs.Sound.{known, Sound, HasFunctions}
use Rattle.ap_world.specs.World.{are_distinct}
use Rattle.ap_world.specs.Ground.{not_function, ground_functions}
use Rattle.ap_names.specs.Names.{Name}
use Rattle.ap_hints.specs.declared.hint.Hint.{Hint}
use Rattle.ap_hints.specs.Known.{KnownHints}
use Rattle.ap_walk.specs.declared.act.Reason.{Reason}
use Rattle.ap_walk.specs.declared.act.Process.{Process}
use Rattle.ap_walk.specs.declared.act.Out.{Out}
use Rattle.ap_walk.specs.declared.act.Stepped.{Stepped}
use Rattle.ap_walk.specs.Visits.{Tells, IsSplit, out_children}
use Rattle.ap_kernel.specs.Standing.{DefinesNot}
use Rattle.ap_kernel.specs.declared.reductions.Inference.{Inference}
use Rattle.ap_kernel.specs.Reductions.{KnownClause}
use Rattle.ap_rewrite.specs.Arithmetic.{arithmetic_in}
use Rattle.ap_rewrite.specs.SoundSettings.{SoundSetting}
use Rattle.ap_rewrite.proofs.ArithmeticSound.{worlds_sound}
use Rattle.ap_rewrite.proofs.InWorldStands.{sound_setting}
use Rattle.ap_induct.specs.Choosing.{scheme_of}
use Rattle.ap_induct.proofs.Followed.{scheme_follows}
use Rattle.ap_strategy.specs.Goals.{Goal, defs_of, hint_for, hinted, inducted}
use Rattle.ap_strategy.specs.Steps.{setting_of, simplified, is_alone, counted_down, named, child, children, cases, done, stop_step, later, seen_below, missed_step, simplify_step, open_step, hint_goals, makes_goals, pushed_or_open, hint_step, clause_step, scheme_step, induct_step, step_of, depth_of, IsGood}
use Rattle.ap_strategy.specs.Hinted.{hint_known, scheme_known, hint_follows}
use Rattle.ap_strategy.specs.Reduced.{simplified_reduces}
use Rattle.ap_strategy.specs.Later.{of_later, later_makes}

-- what the kernel asks of a world is the first of its functions
pub kernel_ground : (D : Defs) → HasFunctions D → DefinesNot D
unfolding ground_functions not_function
kernel_ground D functions = functions.0

-- the induction of a goal by its scheme
abbrev pub scheme_for : Goal → Option (Term × Inference)
scheme_for g = scheme_of (defs_of g.plan) g.settings.theory g.clause g.scheme

-- what is so of a step that stops, of one that pushes, of one by the goal's hint, of one that simplifies, of one by a
-- later process, and of one that inducts, is so of each step; all but the first and the last are of the goal with its
-- hint
module _ (P : Goal → Stepped Goal → Type 0) (g : Goal)
    (stops : (missed : Bool) (r : Reason) → P g (stop_step missed r))
    (pushes : (missed limited : Bool) → P g (done Process.Push missed limited Out.Push))
    (hints : (h : Hint) → g.induct ≡ false → g.depth < 250 → hint_for g.plan g.name ≡ Some h → P g (done Process.Hint false false (Out.Split (children (hinted g) (hint_goals g.plan.world.entries h g.clause)))))
    (splits : (ds : List Clause) → g.induct ≡ false → g.depth < 250 → simplified (setting_of (hinted g)) g.plan.step_limit g.clause ≡ Some ds → P g (done Process.Simplify false false (Out.Split (children (hinted g) ds))))
    (misses : (p : Process × List Clause) (limited : Bool) → g.induct ≡ false → g.depth < 250 → later (hinted g) ≡ Some p → P g (done p.0 true limited (Out.Split (children (seen_below true (hinted g)) p.1))))
    (inducts : (p : Term × Inference) → g.induct ≡ true → nat_lt 9 (length g.name.induction) ≡ false → scheme_for g ≡ Some p → P g (done Process.Induct false false (Out.Split (cases g p.1.to)))) where
  of_missed : (limited : Bool) (o : Option (Process × List Clause)) → g.induct ≡ false → g.depth < 250 → later (hinted g) ≡ o → P g (missed_step (hinted g) limited o)
  of_missed limited None plain above q = pushes true limited
  of_missed limited (Some p) plain above q = misses p limited plain above q

  of_simplified : (o : Option (List Clause)) → g.induct ≡ false → g.depth < 250 → simplified (setting_of (hinted g)) g.plan.step_limit g.clause ≡ o → P g (simplify_step (hinted g) o)
  of_simplified None plain above q = of_missed true (later (hinted g)) plain above refl
  of_simplified (Some ds) plain above q = go (is_alone g.clause ds)
    where
      go : (b : Bool) → P g (cond b (missed_step (hinted g) false (later (hinted g))) (done Process.Simplify false false (Out.Split (children (hinted g) ds))))
      go true = of_missed false (later (hinted g)) plain above refl
      go false = splits ds plain above q

  of_open : g.induct ≡ false → g.depth < 250 → P g (open_step (hinted g))
  of_open plain above = of_simplified (simplified (setting_of (hinted g)) g.plan.step_limit g.clause) plain above refl

  of_hint : (o : Option Hint) → g.induct ≡ false → g.depth < 250 → hint_for g.plan g.name ≡ o → P g (hint_step (hinted g) o)
  of_hint None plain above q = of_open plain above
  of_hint (Some h) plain above q = go (makes_goals h)
    where
      pushed : (o : Option Term) → P g (pushed_or_open (hinted g) o)
      pushed None = of_open plain above
      pushed (Some u) = pushes false false

      go : (b : Bool) → P g (cond b (done Process.Hint false false (Out.Split (children (hinted g) (hint_goals g.plan.world.entries h g.clause)))) (pushed_or_open (hinted g) h.scheme))
      go true = hints h plain above q
      go false = pushed h.scheme

  of_clause : (us : List Term) → g.induct ≡ false → P g (clause_step g us)
  of_clause [] plain = stops true Reason.EmptyClause
  of_clause (u ∷ us) plain = go (nat_le 250 g.depth) refl
    where
      go : (b : Bool) → nat_le 250 g.depth ≡ b → P g (cond b (stop_step false Reason.PathDepth) (hint_step (hinted g) (hint_for g.plan g.name)))
      go true q = stops false Reason.PathDepth
      go false q = of_hint (hint_for g.plan g.name) plain (above q) refl
        where
          above : nat_le 250 g.depth ≡ false → g.depth < 250
          above q = leb-false 250 g.depth q

  of_scheme : (o : Option (Term × Inference)) → g.induct ≡ true → nat_lt 9 (length g.name.induction) ≡ false → scheme_for g ≡ o → P g (scheme_step g o)
  of_scheme None q few h = stops false Reason.NoScheme
  of_scheme (Some p) q few h = inducts p q few h

  of_induction : g.induct ≡ true → P g (induct_step g)
  of_induction q = go (nat_lt 9 (length g.name.induction)) refl
    where
      go : (b : Bool) → nat_lt 9 (length g.name.induction) ≡ b → P g (cond b (stop_step false Reason.InductionDepth) (scheme_step g (scheme_for g)))
      go true few = stops false Reason.InductionDepth
      go false few = of_scheme (scheme_for g) q few refl

  pub of_step : P g (step_of g)
  unfolding step_of
  of_step = go g.induct refl
    where
      go : (b : Bool) → g.induct ≡ b → P g (cond b (induct_step g) (clause_step g g.clause.0))
      go true q = of_induction q
      go false q = of_clause g.clause.0 q

pub tells : (g : Goal) → Tells (step_of g).act.process (step_of g).out
tells g =
    of_step (λ g s. Tells s.act.process s.out) g (λ missed r. refl) (λ missed limited. refl) (λ h plain above q. ((λ e. cc), (λ e. cc))) (λ ds plain above q. ((λ e. cc), (λ e. cc)))
    (λ p limited plain above q. later_tells p q)
    (λ p q few h. ((λ e. cc), (λ e. cc)))
  where
    later_tells : (p : Process × List Clause) → later (hinted g) ≡ Some p → (p.0 ≢ Process.Push) × (p.0 ≢ Process.Stop)
    later_tells p q =
        of_later (hinted g) (λ p. (p.0 ≢ Process.Push) × (p.0 ≢ Process.Stop)) (λ i e. ((λ e. cc), (λ e. cc))) (λ i e. ((λ e. cc), (λ e. cc))) (λ i e. ((λ e. cc), (λ e. cc)))
        (λ i e. ((λ e. cc), (λ e. cc))) p q

-- each child is one deeper, and the cases of an induction are at the head of new paths
one_deeper : (b : Bool) (n : ℕ) → (b ≡ false → n < 250) → 250 - (n + 1) < cond b 250 (250 - n)
one_deeper true n h = omega arith
one_deeper false n h = let below = h refl in omega arith

less_deep : (g : Goal) (ps : List (Name × Clause)) → (g.induct ≡ false → g.depth < 250) → Each (λ c. depth_of c < depth_of g) (map (child g) ps)
less_deep g [] h = tt
less_deep g (p ∷ ps) h = (one_deeper g.induct g.depth h, less_deep g ps h)

pub deeper : (g : Goal) → Each (λ c. depth_of c < depth_of g) (out_children (step_of g).out)
deeper g = of_step (λ g s. Each (λ c. depth_of c < depth_of g) (out_children s.out)) g (λ missed r. tt) (λ missed limited. tt)
    (λ h plain above q. less_deep (hinted g) (named g.name (hint_goals g.plan.world.entries h g.clause)) (λ e. above))
    (λ ds plain above q. less_deep (hinted g) (named g.name ds) (λ e. above))
    (λ p limited plain above q. less_deep (seen_below true (hinted g)) (named g.name p.1) (λ e. above))
    (λ p q few h. less_deep g (counted_down g.name p.1.to) (λ e. absurd (true≢false (sym q ∙ e))))

-- the clauses of children that are good are valid
module _ (g : Goal) (functions : HasFunctions (defs_of g.plan)) (sound : Sound g.plan.world.entries) (distinct : are_distinct g.plan.world.entries ≡ true) (said : KnownHints g.plan.world.entries g.plan.hints) where
  counted_valid : (name : Name) (ds : List Clause) → Each (KnownClause (defs_of g.plan)) ds → Each IsGood (map (child g) (counted_down name ds)) → Each (λ (d : Clause). Valid (defs_of g.plan) d.0) ds
  counted_valid name [] ks gs = tt
  counted_valid name (d ∷ ds) ks gs = (gs.0 functions sound distinct ks.0 said tt, counted_valid name ds ks.1 gs.1)

  children_valid : (ds : List Clause) → Each (KnownClause (defs_of g.plan)) ds → Each IsGood (children g ds) → Each (λ (d : Clause). Valid (defs_of g.plan) d.0) ds
  children_valid [] ks gs = tt
  children_valid (d ∷ []) ks gs = (gs.0 functions sound distinct ks.0 said tt, tt)
  children_valid (d ∷ e ∷ ds) ks gs = counted_valid g.name (d ∷ e ∷ ds) ks gs

-- what the goal's literals are rewritten by is right
setting_is_sound : (g : Goal) → HasFunctions (defs_of g.plan) → Sound g.plan.world.entries → are_distinct g.plan.world.entries ≡ true → SoundSetting (setting_of g)
setting_is_sound g functions sound distinct =
    let grounded = kernel_ground (defs_of g.plan) functions in
    sound_setting g.plan.world g.settings.theory g.settings.expand (arithmetic_in g.plan.world g.settings.theory) sound grounded distinct (worlds_sound g.plan.world g.settings.theory sound grounded)

hint_good : (g : Goal) (h : Hint) → hint_for g.plan g.name ≡ Some h → Each IsGood (children (hinted g) (hint_goals g.plan.world.entries h g.clause)) → IsGood g
hint_good g h q gs functions sound distinct k said given =
    let r = hint_follows g.plan.world.entries sound (kernel_ground (defs_of g.plan) functions) h g.clause (hint_known g.plan g.name h said q) k in
    r.valid (children_valid (hinted g) functions sound distinct said (hint_goals g.plan.world.entries h g.clause) r.goals gs)

split_good : (g : Goal) (ds : List Clause) → simplified (setting_of (hinted g)) g.plan.step_limit g.clause ≡ Some ds → Each IsGood (children (hinted g) ds) → IsGood g
split_good g ds q gs functions sound distinct k said given =
    let r = simplified_reduces (setting_of (hinted g)) (setting_is_sound (hinted g) functions sound distinct) g.plan.step_limit g.clause ds k q in
    r.valid (children_valid (hinted g) functions sound distinct said ds r.goals gs)

later_good : (g : Goal) (p : Process × List Clause) → later (hinted g) ≡ Some p → Each IsGood (children (seen_below true (hinted g)) p.1) → IsGood g
later_good g p q gs functions sound distinct k said given =
    let r = (later_makes (hinted g) (kernel_ground (defs_of g.plan) functions) functions sound k p q).follows in
    r.valid (children_valid (seen_below true (hinted g)) functions sound distinct said p.1 r.goals gs)

induction_good : (g : Goal) (p : Term × Inference) → scheme_for g ≡ Some p → Each IsGood (cases g p.1.to) → IsGood g
induction_good g p h gs functions sound distinct k said given =
    let (start, r) = scheme_follows g.plan.world.entries sound distinct functions g.settings.theory g.clause g.scheme p k given h in
    subst (λ (d : Clause). Valid (defs_of g.plan) d.0) start (r.valid (counted_valid g functions sound distinct said g.name p.1.to r.goals gs))

-- where all children of a goal that splits are good, the goal is
pub whole : (g : Goal) → IsSplit (step_of g).out → Each IsGood (out_children (step_of g).out) → IsGood g
whole g = of_step (λ g s. IsSplit s.out → Each IsGood (out_children s.out) → IsGood g) g (λ missed r h. absurd h) (λ missed limited h. absurd h) (λ h plain above q s. hint_good g h q)
    (λ ds plain above q h. split_good g ds q) (λ p limited plain above q h. later_good g p q)
    (λ p q few s h. induction_good g p s)

-- where the induction of a goal is good, the goal is: what its hint says that it is to be by is a term of the world
pub by_induction : (g : Goal) (k : ℕ) → IsGood (inducted g k) → IsGood g
by_induction g k good functions sound distinct known said given = good functions sound distinct known said (scheme_known g.plan g.name said)
