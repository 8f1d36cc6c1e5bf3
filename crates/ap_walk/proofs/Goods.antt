-- A good walk makes its root good; and a path is no longer than the depth of its root.
use Rattle.std.proofs.Common.{◌≡◌, ℕ, zero, suc, ◌<◌, ◌≤◌, Bool, true, false, inl, inr, List, [], ◌∷◌, ◌++◌, length, refl, arith, ap, subst}
use Rattle.ap_list.specs.Lists.{Each, AnyOf}
use Rattle.ap_walk.specs.declared.act.Process.{Process}
use Rattle.ap_walk.specs.declared.act.Out.{Out}
use Rattle.ap_walk.specs.declared.act.Stepped.{Stepped}
use Rattle.ap_walk.specs.declared.rule.Tally.{Tally}
use Rattle.ap_walk.specs.declared.rule.Rule.{Rule}
use Rattle.ap_walk.specs.declared.rule.End.{End}
use Rattle.ap_walk.specs.declared.mark.Walked.{Walked}
use Rattle.ap_walk.specs.Visits.{Visit, Tells, IsSplit, out_children}
use Rattle.ap_walk.specs.Tallies.{is_push, end_after}
use Rattle.ap_walk.specs.Walks.{before, and_then, in_order, first_visit, walk_to, walk}
use Rattle.ap_walk.specs.Laws.{with_pushed, pushed, IsPath}

module _ {T : Type 0} where
  and_then_through_at : (ms : List (Visit T)) (t : Tally) (e : End) (f : Tally → Walked T) → let w : Walked T = record { marks = ms; tally = t; end = e } in (and_then w f).end ≡ End.Through → (e ≡ End.Through) × (and_then w f ≡ before ms (f t))
  and_then_through_at ms t End.Through f h = (refl, refl)
  and_then_through_at ms t End.Revert f h = absurd (cc)
  and_then_through_at ms t End.Limit f h = absurd (cc)
  and_then_through_at ms t (End.Stopped r) f h = absurd (cc)

  -- a walk and what follows it go through where both do
  pub and_then_through : (w : Walked T) (f : Tally → Walked T) → (and_then w f).end ≡ End.Through → (w.end ≡ End.Through) × (and_then w f ≡ before w.marks (f w.tally))
  and_then_through w f h = and_then_through_at w.marks w.tally w.end f h

  both_of : (P : T → Type 0) (b : Bool) (task : T) (xs ys : List T) {A : Type 0} → (Each P ys → Each P xs × A) → Each P (with_pushed b task ys) → Each P (with_pushed b task xs) × A
  both_of P true task xs ys f h = let more = f h.1 in ((h.0, more.0), more.1)
  both_of P false task xs ys f h = f h

  each_pushed : (P : T → Type 0) (xs ys : List (Visit T)) → Each P (pushed (xs ++ ys)) → Each P (pushed xs) × Each P (pushed ys)
  each_pushed P [] ys h = (tt, h)
  each_pushed P (x ∷ xs) ys h = both_of P (is_push x.act.process) x.task (pushed xs) (pushed (xs ++ ys)) (each_pushed P xs ys) h

  -- where walks in order go through, each task whose pushed tasks are good is good
  in_order_good : (good : T → Type 0) (f : T → Tally → Walked T) (P : T → Type 0)
      → ((c : T) (t : Tally) → P c → (f c t).end ≡ End.Through → Each good (pushed (f c t).marks) → good c)
      → (cs : List T) → Each P cs → (t : Tally) → (in_order f cs t).end ≡ End.Through → Each good (pushed (in_order f cs t).marks) → Each good cs
  in_order_good good f P one [] each t h p = tt
  in_order_good good f P one (c ∷ cs) each t h p =
      let through = and_then_through (f c t) (in_order f cs) h in
      let parts = each_pushed good (f c t).marks (in_order f cs (f c t).tally).marks (subst (λ v. Each good (pushed v.marks)) through.1 p) in
      (one c t each.0 through.0 parts.0, in_order_good good f P one cs each.1 (f c t).tally (subst (λ v. v.end ≡ End.Through) through.1 h) parts.1)

  own_good : (good : T → Type 0) (rule : Rule) (task : T) (p : Process) (out : Out T) (t : Tally)
      → Tells p out → (IsSplit out → Each good (out_children out) → good task)
      → end_after rule out t ≡ End.Through → Each good (with_pushed (is_push p) task []) → Each good (out_children out) → good task
  own_good good rule task p (Out.Split cs) t told whole h each children = whole tt children
  own_good good rule task p Out.Push t told whole h each children = (subst (λ b. Each good (with_pushed b task [])) (ap is_push told) each).0
  own_good good rule task p (Out.Stop r) t told whole h each children = absurd (cc)

  none_below : (size : T → ℕ) (P : T → Type 0) (d : ℕ) (cs : List T) → Each (λ c. size c < d) cs → d ≤ 0 → Each P cs
  none_below size P d [] each small = tt
  none_below size P d (c ∷ cs) each small = absurd (let below = each.0 in omega arith)

module _ {T : Type 0} (step : T → Stepped T) (depth : T → ℕ) (good : T → Type 0)
    (tells : (task : T) → Tells (step task).act.process (step task).out)
    (deeper : (task : T) → Each (λ c. depth c < depth task) (out_children (step task).out))
    (whole : (task : T) → IsSplit (step task).out → Each good (out_children (step task).out) → good task) (rule : Rule) where
  walk_to_good : (n : ℕ) (task : T) (t : Tally) → depth task ≤ n → (walk_to step rule n task t).end ≡ End.Through → Each good (pushed (walk_to step rule n task t).marks) → good task
  unfolding walk_to
  walk_to_good zero task t small h p =
      own_good good rule task (step task).act.process (step task).out _ (tells task) (whole task) h p
      (none_below depth good (depth task) _ (deeper task) small)
  walk_to_good (suc n) task t small h p =
      let f = in_order (walk_to step rule n) (out_children (step task).out) in
      let own = first_visit step rule task t in
      let through = and_then_through own f h in
      let parts = each_pushed good own.marks (f own.tally).marks (subst (λ v. Each good (pushed v.marks)) through.1 p) in
      own_good good rule task (step task).act.process (step task).out own.tally (tells task) (whole task) through.0 parts.0
      (in_order_good good (walk_to step rule n) (λ c. depth c < depth task)
      (λ c u below. walk_to_good n c u (omega arith))
      _ (deeper task) own.tally (subst (λ v. v.end ≡ End.Through) through.1 h) parts.1)

  -- where a walk goes through and every pushed task is good, its root is good
  pub walk_good : (task : T) (t : Tally) → (walk step depth rule task t).end ≡ End.Through → Each good (pushed (walk step depth rule task t).marks) → good task
  walk_good task t h p = walk_to_good (depth task) task t (omega arith) h p

each_any : {T : Type 0} (size : T → ℕ) (d : ℕ) (c : T) (cs : List T) → Each (λ x. size x < d) cs → AnyOf (λ x. x ≡ c) cs → size c < d
each_any size d c [] each any = absurd any
each_any size d c (x ∷ cs) each (inl e) = subst (λ v. size v < d) e each.0
each_any size d c (x ∷ cs) each (inr any) = each_any size d c cs each.1 any

module _ {T : Type 0} (step : T → Stepped T) (depth : T → ℕ) (deeper : (task : T) → Each (λ c. depth c < depth task) (out_children (step task).out)) where
  pub path_short : (task : T) (path : List T) → IsPath step task path → length path ≤ depth task
  path_short task [] is = omega arith
  path_short task (next ∷ path) is =
      let below = each_any depth (depth task) next _ (deeper task) is.0 in
      let rest = path_short next path is.1 in
      omega arith
