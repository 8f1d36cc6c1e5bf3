-- What a goal's clause is reduced to by its step: from what each part of the step is reduced to.
use Rattle.std.proofs.Common.{◌≡◌, ℕ, Bool, true, false, cond, nat_lt, ◌&&◌, List, [], ◌∷◌, ◌++◌, map, length, Option, Some, None, IfSome, option_map, slice_get, refl, ap, sym, ◌∙◌, subst}
use Rattle.ap_list.specs.Lists.{Each}
use Rattle.ap_value.specs.declared.symbol.Symbol.{Symbol}
use Rattle.ap_term.specs.declared.term.Term.{Term, out-Term}
use Rattle.ap_term.specs.declared.term.Subst.{Subst}
use Rattle.ap_term.specs.declared.term.Clause.{Clause}
use Rattle.ap_world.specs.declared.entry.Entry.{Entry}
use Rattle.ap_world.specs.Shapes.{shape_of}
use Rattle.ap_world.specs.Theories.{ShownTheory}
use Rattle.ap_world.specs.World.{Shown}
use Rattle.ap_names.specs.Names.{Name}
use Rattle.ap_hints.specs.declared.hint.Hint.{Hint}
use Rattle.ap_walk.specs.declared.act.Out.{Out}
use Rattle.ap_walk.specs.declared.act.Process.{Process}
use Rattle.ap_walk.specs.declared.act.Reason.{Reason}
use Rattle.ap_kernel.specs.declared.reductions.Inference.{Inference}
use Rattle.ap_kernel.specs.declared.reductions.Reduction.{Reduction}
use Rattle.ap_kernel.specs.Eliminating.{eliminated}
use Rattle.ap_kernel.specs.Fertilising.{negated_sides, literal_fertilised, fertilised, fertilised_by, fertilise_made}
use Rattle.ap_kernel.specs.Generalising.{generalised}
use Rattle.ap_kernel.specs.Splits.{and_then}
use Rattle.ap_kernel.specs.Tidying.{tidied, holds_by_itself, tidy_made}
use Rattle.ap_rewrite.specs.Settings.{Setting}
use Rattle.ap_kernel.specs.Reductions.{Reduces, to_one, all_from, all_to}
use Rattle.ap_kernel.proofs.Splitting.{then_some}
use Rattle.ap_elim.specs.Naming.{new_name}
use Rattle.ap_elim.specs.Eliminating.{taken, elim_made}
use Rattle.ap_weaken.specs.Fertilize.{use_of, fertilize_made}
use Rattle.ap_weaken.specs.Generalize.{letter_of, mask_in, chosen, generalised_at, generalize_made}
use Rattle.ap_weaken.specs.Irrelevance.{some_irrelevant, some_relevant, left_out, irrelevance_made}
use Rattle.ap_strategy.specs.Goals.{Goal, hint_for, hinted}
use Rattle.ap_strategy.specs.Laws.{scheme_for}
use Rattle.ap_strategy.specs.Leads.{once, said_once, clauses_of, to_children, LeadsFrom, made_of, once_made, used_from}
use Rattle.ap_strategy.specs.Steps.{setting_of, tidied_clause, first_solved, opened, is_repeated, unrepeated, reduced, simplified, is_alone, counted_down, child, children, done, stop_step, later, seen_below, missed_step, simplify_step, open_step, used_all, makes_goals, hint_goals, pushed_or_open, hint_step, scheme_step, induct_step, reduced_to}

-- the clauses of children are those that they are made of
counted_clauses : (g : Goal) (name : Name) (ds : List Clause) → clauses_of (map (child g) (counted_down name ds)) ≡ ds
counted_clauses g name [] = refl
counted_clauses g name (d ∷ ds) = ap (λ cs. d ∷ cs) (counted_clauses g name ds)

children_clauses : (g : Goal) (ds : List Clause) → clauses_of (children g ds) ≡ ds
children_clauses g [] = refl
children_clauses g (d ∷ []) = refl
children_clauses g (d ∷ e ∷ ds) = counted_clauses g g.name (d ∷ e ∷ ds)

-- of clauses without later equal ones none is left out
unrepeated_after : (ds cs es : List Clause) → unrepeated ds (cs ++ es) ≡ unrepeated (unrepeated ds cs) es
unrepeated_after ds [] es = refl
unrepeated_after ds (c ∷ cs) es = unrepeated_after (cond (is_repeated ds c) ds (ds ++ c ∷ [])) cs es

one_more : (ds : List Clause) (c : Clause) → unrepeated [] ds ≡ ds → is_repeated ds c ≡ false → unrepeated [] (ds ++ c ∷ []) ≡ ds ++ c ∷ []
one_more ds c h q = unrepeated_after [] ds (c ∷ []) ∙ ap (λ xs. unrepeated xs (c ∷ [])) h ∙ ap (λ b. cond b ds (ds ++ c ∷ [])) q

kept_once : (ds cs : List Clause) → unrepeated [] ds ≡ ds → unrepeated [] (unrepeated ds cs) ≡ unrepeated ds cs
kept_once ds [] h = h
kept_once ds (c ∷ cs) h = go (is_repeated ds c) refl (kept_once ds cs h) (kept_once (ds ++ c ∷ []) cs)
  where
    go : (b : Bool) → is_repeated ds c ≡ b → unrepeated [] (unrepeated ds cs) ≡ unrepeated ds cs
        → (unrepeated [] (ds ++ c ∷ []) ≡ ds ++ c ∷ [] → unrepeated [] (unrepeated (ds ++ c ∷ []) cs) ≡ unrepeated (ds ++ c ∷ []) cs)
        → unrepeated [] (unrepeated (cond b ds (ds ++ c ∷ [])) cs) ≡ unrepeated (cond b ds (ds ++ c ∷ [])) cs
    go true q same more = same
    go false q same more = more (one_more ds c h q)

once_twice : (cs : List Clause) → unrepeated [] (unrepeated [] cs) ≡ unrepeated [] cs
once_twice cs = kept_once [] cs refl

-- the later processes
from_one : (c : Clause) (ts : List Term) (i : Inference) → Some (to_one c ts) ≡ Some i → i.from ≡ c
from_one c ts i h = let same : to_one c ts ≡ i = cc in ap (λ (q : Inference). q.from) (sym same)

pub elim_from : (h : ShownTheory) (c : Clause) (i : Inference) → elim_made h c ≡ Some i → i.from ≡ c
elim_from h c i e =
    let (p, found, made) = then_some (taken h c.0) (λ (p : Symbol × Symbol × Symbol). Some (eliminated c p.0 p.1 p.2)) i e in
    let same : eliminated c p.0 p.1 p.2 ≡ i = cc in
    ap (λ (i : Inference). i.from) (sym same)

pub fertilize_from : (c : Clause) (i : Inference) → fertilize_made c ≡ Some i → i.from ≡ c
fertilize_from c i h =
    let (p, found, made) = then_some (use_of c) (λ (p : ℕ × ℕ). fertilise_made c p.0 p.1) i h in
    let (q, sides, rest) = then_some (and_then (slice_get c.0 p.0) (λ u. negated_sides (shape_of u))) (fertilised_by c p.0 p.1) i made in
    let (u, changed, last) = then_some (and_then (slice_get c.0 p.1) (literal_fertilised q)) (λ u. Some (fertilised c p.0 p.1 u)) i rest in
    from_one c _ i last

pub generalize_from : (w : Shown) (c : Clause) (i : Inference) → generalize_made w c ≡ Some i → i.from ≡ c
generalize_from w c i h =
    let (t, found, at) = then_some (chosen w c.0) (generalised_at w c) i h in
    let (v, name, made) = then_some (new_name (letter_of (out-Term t) ∷ []) c.0) (λ v. Some (generalised c t v (mask_in w t))) i at in
    from_one c _ i made

pub irrelevance_from : (c : Clause) (i : Inference) → irrelevance_made c ≡ Some i → i.from ≡ c
irrelevance_from c i h = go (some_irrelevant c.0 && some_relevant c.0) h
  where
    go : (b : Bool) → cond b (Some (left_out c)) None ≡ Some i → i.from ≡ c
    go true l = from_one c _ i l
    go false l = cc

pub leads_by : (g : Goal) (w : Shown) → w ≡ g.plan.world → (m : Option Reduction) (o : Option Inference) (a : Option (Process × Reduction)) → IfSome m (λ (r : Reduction). Reduces w r)
    → option_map (λ (r : Reduction). r.says) m ≡ o → ((i : Inference) → o ≡ Some i → i.from ≡ g.clause) → IfSome a (λ (p : Process × Reduction). m ≡ Some p.1) → IfSome a (λ (p : Process × Reduction). LeadsFrom g p.1)
leads_by g w lent m o None stands made from kept = tt
leads_by g w lent m o (Some p) stands made from kept = record {
  stands = subst (λ (v : Shown). Reduces v p.1) lent (subst (λ (x : Option Reduction). IfSome x (λ (r : Reduction). Reduces w r)) kept stands);
  from = from p.1.says (sym made ∙ ap (option_map (λ (r : Reduction). r.says)) kept);
}

pub later_once : (g : Goal) (p : Process × Reduction) (o : Option (Process × List Clause)) → option_map made_of (Some p) ≡ o → LeadsFrom g p.1 → Some (said_once p.1) ≡ option_map (once_made g.clause) o
later_once g p o e h = ap (λ c. Some (once (reduced_to c p.1.says.to))) h.from ∙ ap (option_map (once_made g.clause)) e

-- simplification, and where it misses
missed_to : (g : Goal) (limited : Bool) (o : Option (Process × List Clause)) → to_children g.clause (missed_step g limited o).out ≡ option_map (once_made g.clause) o
missed_to g limited None = refl
missed_to g limited (Some p) = ap (λ cs. Some (once (reduced_to g.clause cs))) (children_clauses (seen_below true g) p.1)

open_none : (g : Goal) → reduced (setting_of g) g.plan.step_limit g.clause ≡ None → to_children g.clause (open_step g).out ≡ option_map (once_made g.clause) (later g)
open_none g e = ap (λ o. to_children g.clause (simplify_step g (option_map (unrepeated []) o)).out) e ∙ missed_to g true (later g)

open_alone : (g : Goal) (es : List Clause) → reduced (setting_of g) g.plan.step_limit g.clause ≡ Some es → is_alone g.clause (unrepeated [] es) ≡ true
    → to_children g.clause (open_step g).out ≡ option_map (once_made g.clause) (later g)
open_alone g es e alone =
    ap (λ o. to_children g.clause (simplify_step g (option_map (unrepeated []) o)).out) e
    ∙ ap (λ b. to_children g.clause (cond b (missed_step g false (later g)) (done Process.Simplify false false (Out.Split (children g (unrepeated [] es))))).out) alone ∙ missed_to g false (later g)

open_split : (g : Goal) (es : List Clause) → reduced (setting_of g) g.plan.step_limit g.clause ≡ Some es → is_alone g.clause (unrepeated [] es) ≡ false
    → to_children g.clause (open_step g).out ≡ Some (once (reduced_to g.clause es))
open_split g es e others =
    ap (λ o. to_children g.clause (simplify_step g (option_map (unrepeated []) o)).out) e
    ∙ ap (λ b. to_children g.clause (cond b (missed_step g false (later g)) (done Process.Simplify false false (Out.Split (children g (unrepeated [] es))))).out) others
    ∙ ap (λ cs. Some (once (reduced_to g.clause cs))) (children_clauses g (unrepeated [] es)) ∙ ap (λ cs. Some (record { from = g.clause; to = cs })) (once_twice es)

-- by what the code sees: a goal that is this one, a copy of its clause, and what that is reduced to
pub record Seen (g : Goal) (c : Clause) (m : Option Reduction) : Type 0 where
  pub copied : c ≡ g.clause
  pub made : option_map (λ (r : Reduction). r.says) m ≡ option_map (reduced_to c) (reduced (setting_of g) g.plan.step_limit c)

pub seen : (g h : Goal) (c : Clause) (m : Option Reduction) → h ≡ g → c ≡ h.clause → option_map (λ (r : Reduction). r.says) m ≡ option_map (reduced_to c) (reduced (setting_of h) h.plan.step_limit c) → Seen g c m
seen g h c m same copied made = subst (λ (z : Goal). Seen z c m) same (record { copied = copied; made = made })

none_reduced : (c : Clause) (o : Option (List Clause)) → None ≡ option_map (reduced_to c) o → o ≡ None
none_reduced c None e = refl
none_reduced c (Some ds) e = absurd (no e)
  where
    no : ◌≡◌ {A = Option Inference} None (Some (reduced_to c ds)) → ⊥
    no q = cc

some_reduced : (c : Clause) (x : Inference) (o : Option (List Clause)) → Some x ≡ option_map (reduced_to c) o → (o ≡ Some x.to) × (x ≡ reduced_to c x.to)
some_reduced c x None e = absurd (no e)
  where
    no : ◌≡◌ {A = Option Inference} (Some x) None → ⊥
    no q = cc
some_reduced c x (Some ds) e =
    let same : x ≡ reduced_to c ds = is e in
    let to : x.to ≡ ds = ap (λ (i : Inference). i.to) same in
    (ap (λ xs. Some xs) (sym to), same ∙ ap (reduced_to c) (sym to))
  where
    is : ◌≡◌ {A = Option Inference} (Some x) (Some (reduced_to c ds)) → x ≡ reduced_to c ds
    is q = cc

pub reduce_says : (S : Setting) (n : ℕ) (c k d : Clause) (t a : Inference) (x : Option Reduction) (r : Reduction) → t ≡ tidy_made c → t.to ≡ d ∷ [] → k ≡ d
    → option_map (λ (r : Reduction). r.says) x ≡ option_map (reduced_to k) (opened S n k (first_solved k 0 k.0)) → x ≡ Some r → a ≡ record { from = t.from; to = r.says.to }
    → Some a ≡ option_map (reduced_to c) (reduced S n c)
reduce_says S n c k d t a x r tidy one copied made some after = go (holds_by_itself (tidied c.0)) (sym one ∙ ap (λ (i : Inference). i.to) tidy)
  where
    no : (d : Clause) → ◌≡◌ {A = List Clause} (d ∷ []) [] → ⊥
    no d e = cc

    first : (d e : Clause) → d ∷ [] ≡ e ∷ [] → d ≡ e
    first d e q = cc

    go : (b : Bool) → d ∷ [] ≡ cond b [] (tidied_clause c ∷ []) → Some a ≡ option_map (reduced_to c) (cond b (Some []) (opened S n (tidied_clause c) (first_solved (tidied_clause c) 0 (tidied c.0))))
    go true q = absurd (no d q)
    go false q =
        let is : k ≡ tidied_clause c = copied ∙ first d (tidied_clause c) q in
        let left = some_reduced k r.says (opened S n k (first_solved k 0 k.0)) (sym (ap (option_map (λ (r : Reduction). r.says)) some) ∙ made) in
        ap (λ (i : Inference). Some i) (after ∙ ap (λ (i : Inference). record { from = i.from; to = r.says.to }) tidy)
        ∙ sym (ap (option_map (reduced_to c)) (ap (λ (e : Clause). opened S n e (first_solved e 0 e.0)) (sym is) ∙ left.0))

pub opening_none : (g : Goal) (c : Clause) (m : Option Reduction) → Seen g c m → m ≡ None → to_children g.clause (open_step g).out ≡ option_map (once_made g.clause) (later g)
opening_none g c m s none =
    open_none g (ap (reduced (setting_of g) g.plan.step_limit) (sym s.copied) ∙ none_reduced c _ (sym (ap (option_map (λ (r : Reduction). r.says)) none) ∙ s.made))

module _ (g : Goal) (c : Clause) (m : Option Reduction) (r : Reduction) (s : Seen g c m) (some : m ≡ Some r) where
  is_reduced : (reduced (setting_of g) g.plan.step_limit c ≡ Some r.says.to) × (r.says ≡ reduced_to c r.says.to)
  is_reduced = some_reduced c r.says _ (sym (ap (option_map (λ (r : Reduction). r.says)) some) ∙ s.made)

  pub opening_alone : is_alone g.clause (unrepeated [] r.says.to) ≡ true → to_children g.clause (open_step g).out ≡ option_map (once_made g.clause) (later g)
  opening_alone alone = open_alone g r.says.to (ap (reduced (setting_of g) g.plan.step_limit) (sym s.copied) ∙ is_reduced.0) alone

  pub opening_split : is_alone g.clause (unrepeated [] r.says.to) ≡ false → Some (said_once r) ≡ to_children g.clause (open_step g).out
  opening_split others =
      ap (λ i. Some (once i)) (is_reduced.1 ∙ ap (λ d. reduced_to d r.says.to) s.copied) ∙ sym (open_split g r.says.to (ap (reduced (setting_of g) g.plan.step_limit) (sym s.copied) ∙ is_reduced.0) others)

-- hints
pub hint_to : (g : Goal) (h : Hint) → makes_goals h ≡ true → to_children g.clause (hint_step g (Some h)).out ≡ Some (once (reduced_to g.clause (hint_goals g.plan.world.entries h g.clause)))
hint_to g h makes =
    ap (λ b. to_children g.clause (cond b (done Process.Hint false false (Out.Split (children g (hint_goals g.plan.world.entries h g.clause)))) (pushed_or_open g h.scheme)).out) makes
    ∙ ap (λ cs. Some (once (reduced_to g.clause cs))) (children_clauses g (hint_goals g.plan.world.entries h g.clause))

pub own_by : (g h : Goal) (x : Hint) → h ≡ hinted g → hint_for g.plan g.name ≡ Some x → to_children h.clause (hint_step h (Some x)).out ≡ to_children g.clause (hint_step (hinted g) (hint_for g.plan g.name)).out
own_by g h x same found = ap (λ (z : Goal). to_children z.clause (hint_step z (Some x)).out) same ∙ ap (λ o. to_children g.clause (hint_step (hinted g) o).out) (sym found)

-- inductions
pub induct_to : (g : Goal) (p : Term × Inference) → nat_lt 9 (length g.name.induction) ≡ false → scheme_for g ≡ Some p → p.1.from ≡ g.clause → Some (once p.1) ≡ to_children g.clause (induct_step g).out
induct_to g p few found from =
    ap (λ c. Some (once (reduced_to c p.1.to))) from ∙ sym (ap (λ b. to_children g.clause (cond b (stop_step false Reason.InductionDepth) (scheme_step g (scheme_for g))).out) few
    ∙ ap (λ o. to_children g.clause (scheme_step g o).out) found ∙ ap (λ cs. Some (once (reduced_to g.clause cs))) (counted_clauses g g.name p.1.to))

-- each case of a hint
from_used : (W : List Entry) (us : List (Symbol × Subst)) (cs : List Clause) → all_from (map (used_from W us) cs) ≡ cs
from_used W us [] = refl
from_used W us (c ∷ cs) = ap (λ ds. c ∷ ds) (from_used W us cs)

to_used : (W : List Entry) (us : List (Symbol × Subst)) (cs : List Clause) → all_to (map (used_from W us) cs) ≡ map (used_all W us) cs
to_used W us [] = refl
to_used W us (c ∷ cs) = ap (λ ds. used_all W us c ∷ ds) (to_used W us cs)

pub each_from : (W : List Entry) (us : List (Symbol × Subst)) (cs : List Clause) (is : List Inference) → is ≡ map (used_from W us) cs → all_from is ≡ cs
each_from W us cs is e = ap all_from e ∙ from_used W us cs

pub each_to : (W : List Entry) (us : List (Symbol × Subst)) (cs : List Clause) (is : List Inference) → is ≡ map (used_from W us) cs → all_to is ≡ map (used_all W us) cs
each_to W us cs is e = ap all_to e ∙ to_used W us cs
