-- Among marks that fit, a clause that is there has a mark whose goal is split.
use Rattle.std.proofs.Common.{◌≡◌, ◌⊎◌, inl, inr, Bool, true, false, true≢false, cond, ◌&&◌, ◌||◌, not, List, [], ◌∷◌, Option, Some, None, MatchOption, option_map, refl, ap, sym, ◌∙◌, subst}
use Rattle.ap_list.specs.Lists.{Each, AnyOf}
use Rattle.ap_value.proofs.Equals.{both}
use Rattle.ap_term.specs.declared.term.Term.{Term}
use Rattle.ap_term.specs.declared.term.Clause.{Clause}
use Rattle.ap_world.specs.Recursion.{args_eq}
use Rattle.ap_walk.specs.declared.act.Act.{Act}
use Rattle.ap_walk.specs.declared.act.Out.{Out}
use Rattle.ap_walk.specs.declared.act.Process.{Process}
use Rattle.ap_walk.specs.Tallies.{is_push}
use Rattle.ap_walk.specs.Visits.{Visit, Tells, IsSplit}
use Rattle.ap_walk.proofs.Trees.{not_push}
use Rattle.ap_kernel.specs.declared.reductions.Inference.{Inference}
use Rattle.ap_kernel.specs.declared.reductions.Reduction.{Reduction}
use Rattle.ap_strategy.specs.Goals.{Goal}
use Rattle.ap_strategy.specs.Laws.{tells}
use Rattle.ap_strategy.specs.Leads.{once, said_once, clauses_of, to_children, reduction_of}
use Rattle.ap_strategy.specs.Repeats.{same_args, args_decided, unrepeated_each, each_unrepeated}
use Rattle.ap_strategy.specs.Steps.{unrepeated, reduced_to, step_of}
use Rattle.ap_chain.specs.Marks.{is_for, from_goal, behind_push, from_split}
use Rattle.ap_chain.specs.Fitting.{IsOf, IsInductionOf, IsAmong, IsMet, Fit, Begins}
use Rattle.ap_chain.proofs.Unpushed.{unpushed}

pub any_map : {A : Type 0} (P Q : A → Type 0) → ((x : A) → P x → Q x) → (xs : List A) → AnyOf P xs → AnyOf Q xs
any_map P Q f [] h = h
any_map P Q f (x ∷ xs) (inl h) = inl (f x h)
any_map P Q f (x ∷ xs) (inr h) = inr (any_map P Q f xs h)

-- the test finds a mark of the clause
args_same : (xs ys : List Term) → xs ≡ ys → true ≡ args_eq xs ys
args_same xs ys e = args_decided true xs ys ((λ h. e), (λ h. refl))

for_goal : (c : Clause) (v : Visit Goal) → IsOf c v → is_for c false v ≡ true
for_goal c v e = ap (λ b. b && (not false || v.task.induct)) (sym (args_same c.0 v.task.clause.0 (sym e)))

for_induction : (c : Clause) (v : Visit Goal) → IsInductionOf c v → is_for c true v ≡ true
for_induction c v h = ap (λ b. b && (not true || v.task.induct)) (sym (args_same c.0 v.task.clause.0 (sym h.0))) ∙ h.1

pub for_clause : (c : Clause) (induct : Bool) (v : Visit Goal) → is_for c induct v ≡ true → c.0 ≡ v.task.clause.0
for_clause c induct v h = same_args c.0 v.task.clause.0 (both (args_eq c.0 v.task.clause.0) (not induct || v.task.induct) h).0

-- the marks from the first such one on
abbrev pub Found : Clause → Bool → List (Visit Goal) → Type 0
Found c induct [] = ⊥
Found c induct (v ∷ vs) = (is_for c induct v ≡ true) × Fit (v ∷ vs)

goal_found : (c : Clause) (induct : Bool) (vs : List (Visit Goal)) → Fit vs → AnyOf (λ v. is_for c induct v ≡ true) vs → Found c induct (from_goal c induct vs)
goal_found c induct [] fit any = any
goal_found c induct (v ∷ vs) fit any = go (is_for c induct v) refl (λ later. goal_found c induct vs fit.2 later)
  where
    rest : is_for c induct v ≡ false → (is_for c induct v ≡ true) ⊎ AnyOf (λ v. is_for c induct v ≡ true) vs → AnyOf (λ v. is_for c induct v ≡ true) vs
    rest q (inl h) = absurd (true≢false (sym h ∙ q))
    rest q (inr h) = h

    go : (b : Bool) → is_for c induct v ≡ b → (AnyOf (λ v. is_for c induct v ≡ true) vs → Found c induct (from_goal c induct vs)) → Found c induct (cond b (v ∷ vs) (from_goal c induct vs))
    go true q found = (q, fit)
    go false q found = found (rest q any)

not_pushed : (vs : List (Visit Goal)) (c : Clause) (out : Out Goal) → (out ≡ Out.Push → ⊥) → IsMet vs c out → IsSplit out
not_pushed vs c (Out.Split gs) other met = tt
not_pushed vs c Out.Push other met = absurd (other refl)
not_pushed vs c (Out.Stop reason) other met = met

induction_begins : (c : Clause) (vs : List (Visit Goal)) → Found c true vs → Begins vs
induction_begins c [] found = found
induction_begins c (v ∷ vs) found =
    let q : v.task.induct ≡ true = (both (args_eq c.0 v.task.clause.0) (not true || v.task.induct) found.0).1 in
    (not_pushed vs v.task.clause (step_of v.task).out (unpushed v.task q) found.1.1, found.1)

-- a goal is pushed and has an induction, or it is split
kinds : (vs : List (Visit Goal)) (c : Clause) (p : Process) (out : Out Goal) → Tells p out → IsMet vs c out
    → ((is_push p ≡ true) × AnyOf (IsInductionOf c) vs) ⊎ ((is_push p ≡ false) × IsSplit out)
kinds vs c p (Out.Split gs) told met = inr (not_push p told.0, tt)
kinds vs c p Out.Push told met = inl (ap is_push told, met)
kinds vs c p (Out.Stop reason) told met = absurd met

first_begins : (c : Clause) (vs : List (Visit Goal)) → Found c false vs → Begins (behind_push c vs)
first_begins c [] found = found
first_begins c (v ∷ vs) found = go (kinds vs v.task.clause (step_of v.task).act.process (step_of v.task).out (tells v.task) fit.1)
  where
    fit : Fit (v ∷ vs)
    fit = found.1

    same : c.0 ≡ v.task.clause.0
    same = for_clause c false v found.0

    as_marked : (b : Bool) → is_push (step_of v.task).act.process ≡ b → is_push v.act.process ≡ b
    as_marked b q = ap (λ (a : Act). is_push a.process) fit.0 ∙ q

    chosen : (b : Bool) → is_push v.act.process ≡ b → Begins (cond b (from_goal c true vs) (v ∷ vs)) → Begins (behind_push c (v ∷ vs))
    chosen b q h = subst (λ (x : Bool). Begins (cond x (from_goal c true vs) (v ∷ vs))) (sym q) h

    go : ((is_push (step_of v.task).act.process ≡ true) × AnyOf (IsInductionOf v.task.clause) vs) ⊎ ((is_push (step_of v.task).act.process ≡ false) × IsSplit (step_of v.task).out)
        → Begins (behind_push c (v ∷ vs))
    go (inl h) =
        chosen true (as_marked true h.0)
        (induction_begins c (from_goal c true vs)
        (goal_found c true vs fit.2
        (any_map (IsInductionOf v.task.clause) (λ u. is_for c true u ≡ true) (λ u i. for_induction c u (i.0 ∙ sym same, i.1)) vs h.1)))
    go (inr h) = chosen false (as_marked false h.0) (h.1, fit)

pub split_begins : (c : Clause) (vs : List (Visit Goal)) → Fit vs → IsAmong vs c → Begins (from_split c vs)
split_begins c vs fit any = first_begins c (from_goal c false vs) (goal_found c false vs fit (any_map (IsOf c) (λ u. is_for c false u ≡ true) (for_goal c) vs any))

-- the clauses that a step leads to are its children's
children_among : (vs : List (Visit Goal)) (gs : List Goal) → Each (λ (g : Goal). IsAmong vs g.clause) gs → Each (IsAmong vs) (clauses_of gs)
children_among vs [] h = tt
children_among vs (g ∷ gs) h = (h.0, children_among vs gs h.1)

same_once : (i j : Inference) → Some (once i) ≡ Some (once j) → unrepeated [] i.to ≡ unrepeated [] j.to
same_once i j h = let e : once i ≡ once j = cc in ap (λ (k : Inference). k.to) e

all_among : (vs : List (Visit Goal)) (cs ds : List Clause) → unrepeated [] cs ≡ unrepeated [] ds → Each (IsAmong vs) ds → Each (IsAmong vs) cs
all_among vs cs ds e h =
    let there : Each (IsAmong vs) (unrepeated [] cs) = subst (λ (xs : List Clause). Each (IsAmong vs) xs) (sym e) (unrepeated_each (IsAmong vs) [] ds tt h) in
    (each_unrepeated (λ us. AnyOf (λ (v : Visit Goal). v.task.clause.0 ≡ us) vs) [] cs there).1

pub step_leads : (g : Goal) (vs : List (Visit Goal)) (o : Option Reduction) → option_map said_once o ≡ reduction_of g
    → IsSplit (step_of g).out → IsMet vs g.clause (step_of g).out → MatchOption o ⊥ (λ (r : Reduction). Each (IsAmong vs) r.says.to)
unfolding reduction_of
step_leads g vs o h split met = go o (step_of g).out h split met
  where
    go : (o : Option Reduction) (out : Out Goal) → option_map said_once o ≡ to_children g.clause out → IsSplit out → IsMet vs g.clause out → MatchOption o ⊥ (λ (r : Reduction). Each (IsAmong vs) r.says.to)
    go None (Out.Split gs) h split met = cc
    go (Some r) (Out.Split gs) h split met = all_among vs r.says.to (clauses_of gs) (same_once r.says (reduced_to g.clause (clauses_of gs)) h) (children_among vs gs met)
    go o Out.Push h split met = absurd split
    go o (Out.Stop reason) h split met = absurd split
