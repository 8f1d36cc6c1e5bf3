-- A goal with its hint, and the induction of a goal, keep what goals keep.
use Rattle.std.proofs.Common.{◌≡◌, ℕ, true, false, true≢false, List, [], ◌∷◌, ◌++◌, Option, Some, None, refl, ap, sym, ◌∙◌, arith}
use Rattle.ap_list.specs.Lists.{Each}
use Rattle.ap_term.specs.declared.term.Term.{Term}
use Rattle.ap_term.specs.declared.term.Clause.{Clause}
use Rattle.ap_names.specs.Names.{Name, is_pushed, pushed_of}
use Rattle.ap_walk.specs.declared.act.Process.{Process}
use Rattle.ap_walk.specs.declared.act.Out.{Out}
use Rattle.ap_hints.specs.declared.hint.Hint.{Hint}
use Rattle.ap_hints.specs.Known.{KnownTerm, KnownHints}
use Rattle.ap_kernel.proofs.Reduced.{each_append}
use Rattle.ap_strategy.specs.declared.plan.Plan.{Plan}
use Rattle.ap_strategy.specs.declared.plan.Settings.{Settings}
use Rattle.ap_strategy.specs.Goals.{Goal, IsGoal, hint_for, with_hint, hinted, inducted}
use Rattle.ap_strategy.specs.Hinted.{hint_known, scheme_known}
use Rattle.ap_strategy.specs.Steps.{setting_of, simplified, is_alone, seen_below, done, children, open_step, hint_step}

expand_known : (plan : Plan) (name : Name) (s : Settings) → KnownHints plan.world.entries plan.hints → Each (KnownTerm plan.world.entries) s.expand → Each (KnownTerm plan.world.entries) (with_hint (hint_for plan name) s).expand
expand_known plan name s said ks = go (hint_for plan name) refl
  where
    go : (o : Option Hint) → hint_for plan name ≡ o → Each (KnownTerm plan.world.entries) (with_hint o s).expand
    go None q = ks
    go (Some h) q = each_append (KnownTerm plan.world.entries) s.expand h.expand ks (hint_known plan name h said q).expand

pub hinted_is_goal : (g : Goal) → IsGoal g → IsGoal (hinted g)
hinted_is_goal g k = record {
  functions = k.functions;
  hints = k.hints;
  clause = k.clause;
  expand = expand_known g.plan g.name g.settings k.hints k.expand;
  scheme = k.scheme;
  depth = k.depth;
  primes = k.primes;
  induction = k.induction;
  others = k.others;
}

is_pushed_of : (name : Name) (k : ℕ) → is_pushed (pushed_of name k) ≡ true
is_pushed_of name k = go name.induction
  where
    go : (is : List ℕ) → is_pushed (record { induction = is ++ k ∷ []; case = None; path = []; primes = 0 }) ≡ true
    go [] = refl
    go (i ∷ is) = refl

pub inducted_is_goal : (g : Goal) (k : ℕ) → IsGoal g → IsGoal (inducted g k)
inducted_is_goal g k goal = record {
  functions = goal.functions;
  hints = goal.hints;
  clause = goal.clause;
  expand = expand_known g.plan g.name g.settings goal.hints goal.expand;
  scheme = scheme_known g.plan g.name goal.hints;
  depth = omega arith;
  primes = omega arith;
  induction = λ q. (is_pushed_of g.name k, refl);
  others = λ q. absurd (true≢false q);
}

-- the same of what is made with parts that are equal
pub hinted_kept : (g : Goal) (name : Name) (ts : List Term) (s : Settings) (o : Option Term) → IsGoal g → name ≡ g.name → ts ≡ g.clause.0 → s ≡ (hinted g).settings → o ≡ g.scheme
    → IsGoal (record g { name = name; clause = record { 0 = ts }; settings = s; scheme = o })
hinted_kept g name ts s o k a b d e = rw (a, b, d, e) (hinted_is_goal g k)

pub inducted_kept : (g : Goal) (k : ℕ) (name : Name) (ts : List Term) (s : Settings) (o : Option Term) → IsGoal g → name ≡ pushed_of g.name k → ts ≡ g.clause.0 → s ≡ (hinted g).settings
    → o ≡ (inducted g k).scheme → IsGoal (record (inducted g k) { name = name; clause = record { 0 = ts }; settings = s; scheme = o })
inducted_kept g k name ts s o goal a b d e = rw (a, b, d, e) (inducted_is_goal g k goal)

-- the step by the hint that a goal has, and of a goal that has none
pub step_by : (g h : Goal) (x : Hint) → h ≡ hinted g → hint_for g.plan g.name ≡ Some x → hint_step h (Some x) ≡ hint_step (hinted g) (hint_for g.plan g.name)
step_by g h x a q = ap (λ (z : Goal). hint_step z (Some x)) a ∙ ap (hint_step (hinted g)) (sym q)

pub unhinted : (g : Goal) → hint_for g.plan g.name ≡ None → open_step g ≡ hint_step (hinted g) (hint_for g.plan g.name)
unhinted g q = rw q refl

-- the step of a goal that simplification makes other clauses of, by what is seen of its parts
pub opened_step : (g h : Goal) (c : Clause) (o : Option (List Clause)) (ds es : List Clause) → h ≡ g → c ≡ h.clause → o ≡ simplified (setting_of h) h.plan.step_limit c → o ≡ Some ds → es ≡ ds → is_alone h.clause es ≡ false
    → done Process.Simplify false false (Out.Split (children (seen_below h.under g) ds)) ≡ open_step g
opened_step g h c o ds es same copied made some lent others = rw (sym same) (go (made_of h c o ds copied made some) (alone_of h ds es lent others))
  where
    made_of : (h : Goal) (c : Clause) (o : Option (List Clause)) (ds : List Clause) → c ≡ h.clause → o ≡ simplified (setting_of h) h.plan.step_limit c → o ≡ Some ds → simplified (setting_of h) h.plan.step_limit h.clause ≡ Some ds
    made_of h c o ds copied made some = ap (simplified (setting_of h) h.plan.step_limit) (sym copied) ∙ sym made ∙ some

    alone_of : (h : Goal) (ds es : List Clause) → es ≡ ds → is_alone h.clause es ≡ false → is_alone h.clause ds ≡ false
    alone_of h ds es lent others = ap (is_alone h.clause) (sym lent) ∙ others

    go : simplified (setting_of h) h.plan.step_limit h.clause ≡ Some ds → is_alone h.clause ds ≡ false → done Process.Simplify false false (Out.Split (children h ds)) ≡ open_step h
    go made others = rw (made, others) refl
