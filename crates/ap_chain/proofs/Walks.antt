-- The marks of a walk that goes through fit, before marks that fit and have the inductions of what it pushed.
use Rattle.std.proofs.Common.{◌≡◌, ℕ, zero, suc, ◌<◌, ◌≤◌, Bool, true, false, inl, List, [], ◌∷◌, ◌++◌, arith, refl, ap, sym, subst, append_assoc}
use Rattle.ap_list.specs.Lists.{Each, AnyOf}
use Rattle.ap_walk.specs.declared.act.Out.{Out}
use Rattle.ap_walk.specs.declared.act.Process.{Process}
use Rattle.ap_walk.specs.declared.rule.Tally.{Tally}
use Rattle.ap_walk.specs.declared.rule.Rule.{Rule}
use Rattle.ap_walk.specs.declared.rule.End.{End}
use Rattle.ap_walk.specs.declared.mark.Walked.{Walked}
use Rattle.ap_walk.specs.Visits.{Visit, Tells, visit_of, out_children}
use Rattle.ap_walk.specs.Tallies.{is_push, end_after}
use Rattle.ap_walk.specs.Walks.{in_order, first_visit, walk_to, walk}
use Rattle.ap_walk.specs.Laws.{with_pushed, pushed}
use Rattle.ap_walk.proofs.Goods.{and_then_through}
use Rattle.ap_kernel.proofs.Reduced.{any_left, any_right}
use Rattle.ap_strategy.specs.Goals.{Goal}
use Rattle.ap_strategy.specs.Laws.{tells, deeper}
use Rattle.ap_strategy.specs.Steps.{step_of, depth_of}
use Rattle.ap_chain.specs.Fitting.{IsInductionOf, IsAmong, IsMet, Fit}
use Rattle.ap_chain.proofs.Found.{any_map}

-- the mark is this goal's
abbrev pub IsAt : Goal → Visit Goal → Type 0
IsAt g v = v.task ≡ g

-- the goal has an induction among the marks
abbrev pub IsInducted : List (Visit Goal) → Goal → Type 0
IsInducted ms g = AnyOf (IsInductionOf g.clause) ms

pub at_among : (g : Goal) (vs : List (Visit Goal)) → AnyOf (IsAt g) vs → IsAmong vs g.clause
at_among g vs h = any_map (IsAt g) (λ (v : Visit Goal). v.task.clause.0 ≡ g.clause.0) (λ v e. ap (λ (x : Goal). x.clause.0) e) vs h

parted : (P : Goal → Type 0) (b : Bool) (g : Goal) (xs ys : List Goal) {A : Type 0} → (Each P ys → Each P xs × A) → Each P (with_pushed b g ys) → Each P (with_pushed b g xs) × A
parted P true g xs ys f h = let more = f h.1 in ((h.0, more.0), more.1)
parted P false g xs ys f h = f h

each_pushed : (P : Goal → Type 0) (xs ys : List (Visit Goal)) → Each P (pushed (xs ++ ys)) → Each P (pushed xs) × Each P (pushed ys)
each_pushed P [] ys h = (tt, h)
each_pushed P (x ∷ xs) ys h = parted P (is_push x.act.process) x.task (pushed xs) (pushed (xs ++ ys)) (each_pushed P xs ys) h

-- walks in order: the marks of all that are before more marks fit, and each goal that is walked has its mark
abbrev Walks : (ms : List (Visit Goal)) → List Goal → Walked Goal → Type 0
Walks ms gs w = Fit (w.marks ++ ms) × Each (λ (g : Goal). AnyOf (IsAt g) w.marks) gs

-- one walk: of a goal, where it goes through
abbrev Through : (Goal → Tally → Walked Goal) → Goal → Type 0
Through f g =
    (t : Tally) (ms : List (Visit Goal)) → (f g t).end ≡ End.Through → Fit ms → Each (IsInducted ms) (pushed (f g t).marks)
    → Fit ((f g t).marks ++ ms) × AnyOf (IsAt g) (f g t).marks

pub each_any : (xs ys : List (Visit Goal)) (gs : List Goal) → Each (λ (g : Goal). AnyOf (IsAt g) ys) gs → Each (λ (g : Goal). AnyOf (IsAt g) (xs ++ ys)) gs
each_any xs ys [] h = tt
each_any xs ys (g ∷ gs) h = (any_right (IsAt g) xs ys h.0, each_any xs ys gs h.1)

-- what has an induction among marks has it behind others
inducted_more : (xs ms : List (Visit Goal)) (gs : List Goal) → Each (IsInducted ms) gs → Each (IsInducted (xs ++ ms)) gs
inducted_more xs ms [] h = tt
inducted_more xs ms (g ∷ gs) h = (any_right (IsInductionOf g.clause) xs ms h.0, inducted_more xs ms gs h.1)

in_order_fit : (f : Goal → Tally → Walked Goal) (gs : List Goal) → Each (Through f) gs → (t : Tally) (ms : List (Visit Goal))
    → (in_order f gs t).end ≡ End.Through → Fit ms → Each (IsInducted ms) (pushed (in_order f gs t).marks) → Walks ms gs (in_order f gs t)
in_order_fit f [] each t ms h fit p = (fit, tt)
in_order_fit f (g ∷ gs) each t ms h fit p =
    let w = f g t in
    let more = in_order f gs w.tally in
    let through = and_then_through w (in_order f gs) h in
    let parts = each_pushed (IsInducted ms) w.marks more.marks (subst (λ (v : Walked Goal). Each (IsInducted ms) (pushed v.marks)) through.1 p) in
    let rest = in_order_fit f gs each.1 w.tally ms (subst (λ (v : Walked Goal). v.end ≡ End.Through) through.1 h) fit parts.1 in
    let own = each.0 t (more.marks ++ ms) through.0 rest.0 (inducted_more more.marks ms (pushed w.marks) parts.0) in
    subst (Walks ms (g ∷ gs)) (sym through.1)
    (subst Fit (sym (append_assoc w.marks more.marks ms)) own.0, (any_left (IsAt g) w.marks more.marks own.1, each_any w.marks more.marks gs rest.1))

among_each : (vs ms : List (Visit Goal)) (gs : List Goal) → Each (λ (g : Goal). AnyOf (IsAt g) vs) gs → Each (λ (g : Goal). IsAmong (vs ++ ms) g.clause) gs
among_each vs ms [] h = tt
among_each vs ms (g ∷ gs) h = (at_among g (vs ++ ms) (any_left (IsAt g) vs ms h.0), among_each vs ms gs h.1)

-- what comes of a goal's step is behind its mark
met_behind : (rule : Rule) (g : Goal) (p : Process) (out : Out Goal) (t : Tally) (vs ms : List (Visit Goal))
    → Tells p out → end_after rule out t ≡ End.Through → Each (IsInducted ms) (with_pushed (is_push p) g []) → Each (λ (h : Goal). AnyOf (IsAt h) vs) (out_children out)
    → IsMet (vs ++ ms) g.clause out
met_behind rule g p (Out.Split gs) t vs ms told h each there = among_each vs ms gs there
met_behind rule g p Out.Push t vs ms told h each there =
    any_right (IsInductionOf g.clause) vs ms (subst (λ (b : Bool). Each (IsInducted ms) (with_pushed b g [])) (ap is_push told) each).0
met_behind rule g p (Out.Stop reason) t vs ms told h each there = absurd (cc)

none_below : (P : Goal → Type 0) (d : ℕ) (gs : List Goal) → Each (λ (g : Goal). depth_of g < d) gs → d ≤ 0 → Each P gs
none_below P d [] each small = tt
none_below P d (g ∷ gs) each small = absurd (let below = each.0 in omega arith)

each_below : (f : Goal → Tally → Walked Goal) (d : ℕ) (gs : List Goal) → Each (λ (g : Goal). depth_of g < d) gs → ((g : Goal) → depth_of g < d → Through f g) → Each (Through f) gs
each_below f d [] each one = tt
each_below f d (g ∷ gs) each one = (one g each.0, each_below f d gs each.1 one)

module _ (rule : Rule) where
  -- the visit of a goal, and then the walks of its children
  visit_fits : (g : Goal) (t : Tally) (ms : List (Visit Goal)) (more : Walked Goal)
      → end_after rule (step_of g).out t ≡ End.Through → Each (IsInducted ms) (with_pushed (is_push (step_of g).act.process) g [])
      → Walks ms (out_children (step_of g).out) more
      → Fit ((visit_of g (step_of g) ∷ [] ++ more.marks) ++ ms) × AnyOf (IsAt g) (visit_of g (step_of g) ∷ [] ++ more.marks)
  visit_fits g t ms more h each walks =
      ((refl, met_behind rule g (step_of g).act.process (step_of g).out t more.marks ms (tells g) h each walks.1, walks.0), inl refl)

  pub walk_to_fits : (n : ℕ) (g : Goal) → depth_of g ≤ n → Through (walk_to step_of rule n) g
  unfolding walk_to
  walk_to_fits zero g small t ms h fit p =
      visit_fits g _ ms (record { marks = []; tally = t; end = End.Through }) h p (fit, none_below (λ (c : Goal). AnyOf (IsAt c) []) (depth_of g) _ (deeper g) small)
  walk_to_fits (suc n) g small t ms h fit p =
      let f = in_order (walk_to step_of rule n) (out_children (step_of g).out) in
      let own = first_visit step_of rule g t in
      let through = and_then_through own f h in
      let parts = each_pushed (IsInducted ms) own.marks (f own.tally).marks (subst (λ (v : Walked Goal). Each (IsInducted ms) (pushed v.marks)) through.1 p) in
      let rest = in_order_fit (walk_to step_of rule n) (out_children (step_of g).out)
      (each_below (walk_to step_of rule n) (depth_of g) _ (deeper g) (λ c below. walk_to_fits n c (omega arith)))
      own.tally ms (subst (λ (v : Walked Goal). v.end ≡ End.Through) through.1 h) fit parts.1 in
      subst (λ (w : Walked Goal). Fit (w.marks ++ ms) × AnyOf (IsAt g) w.marks) (sym through.1)
      (visit_fits g own.tally ms (f own.tally) through.0 parts.0 rest)

  pub walk_fits : (g : Goal) → Through (walk step_of depth_of rule) g
  walk_fits g = walk_to_fits (depth_of g) g (omega arith)
