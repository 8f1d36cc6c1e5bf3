-- A hint keeps what a clause says: it is valid where what the hint makes of it is.
use Rattle.std.proofs.Common.{◌≡◌, Bool, true, false, cond, List, [], ◌∷◌, map, Option, Some, None, IfSome, refl, subst}
use Rattle.ap_list.specs.Lists.{Each}
use Rattle.ap_value.specs.declared.symbol.Symbol.{Symbol}
use Rattle.ap_term.specs.declared.term.Subst.{Subst}
use Rattle.ap_term.specs.declared.term.Clause.{Clause}
use Rattle.ap_world.specs.declared.entry.Entry.{Entry}
use Rattle.ap_world.specs.declared.entry.Theorem.{Theorem}
use Rattle.ap_world.specs.Meaning.{Valid}
use Rattle.ap_world.specs.Sound.{Sound}
use Rattle.ap_world.specs.World.{function_of, theorem_of}
use Rattle.ap_names.specs.Names.{Name, name_eq}
use Rattle.ap_hints.specs.declared.hint.Hint.{Hint}
use Rattle.ap_hints.specs.Known.{KnownTerm, KnownUse, KnownHint, KnownHints}
use Rattle.ap_kernel.specs.Standing.{DefinesNot}
use Rattle.ap_kernel.specs.Reductions.{KnownClause, Follows}
use Rattle.ap_kernel.proofs.Hinted.{cased_follows, used_follows}
use Rattle.ap_strategy.specs.declared.plan.Plan.{Plan}
use Rattle.ap_strategy.specs.Goals.{hint_among, hint_for, scheme_by}
use Rattle.ap_strategy.specs.Steps.{reduced_to, used_in, used_all, cased_by, hint_goals}

-- the hint of a name is one of those that are known
among_known : (W : List Entry) (hs : List Hint) (name : Name) (h : Hint) → Each (KnownHint W) hs → hint_among hs name ≡ Some h → KnownHint W h
among_known W [] name h ks e = cc
among_known W (x ∷ xs) name h ks e = go (name_eq x.goal name) (among_known W xs name h ks.1) e
  where
    same : Some x ≡ Some h → x ≡ h
    same q = cc

    go : (b : Bool) → (hint_among xs name ≡ Some h → KnownHint W h) → cond b (Some x) (hint_among xs name) ≡ Some h → KnownHint W h
    go true more q = subst (KnownHint W) (same q) ks.0
    go false more q = more q

pub hint_known : (plan : Plan) (name : Name) (h : Hint) → KnownHints plan.world.entries plan.hints → hint_for plan name ≡ Some h → KnownHint plan.world.entries h
hint_known plan name h said q = among_known plan.world.entries plan.hints.list name h said q

-- the call that it says an induction is to be by is a term of the world
pub scheme_known : (plan : Plan) (name : Name) → KnownHints plan.world.entries plan.hints → IfSome (scheme_by (hint_for plan name)) (KnownTerm plan.world.entries)
scheme_known plan name said = go (hint_for plan name) refl
  where
    go : (o : Option Hint) → hint_for plan name ≡ o → IfSome (scheme_by o) (KnownTerm plan.world.entries)
    go None q = tt
    go (Some h) q = (hint_known plan name h said q).scheme

module _ (W : List Entry) (sound : Sound W) (grounded : DefinesNot (function_of W)) where
  -- one clause, with an instance of a theorem
  used_step : (x : Symbol) (s : Subst) (c : Clause) (o : Option Theorem) → theorem_of W x ≡ o → KnownClause (function_of W) c → KnownUse W (x, s) → Follows (function_of W) (reduced_to c (used_in o s c ∷ []))
  used_step x s c None q k u = record { start = k; goals = (k, tt); valid = λ v. v.0 }
  used_step x s c (Some thm) q k u = used_follows W sound grounded c x thm s.0 q k u.pairs

  -- and with several: a clause is valid where the one with them is
  pub all_used : (us : List (Symbol × Subst)) (c : Clause) → Each (KnownUse W) us → KnownClause (function_of W) c → Follows (function_of W) (reduced_to c (used_all W us c ∷ []))
  all_used [] c us k = record { start = k; goals = (k, tt); valid = λ v. v.0 }
  all_used (p ∷ ps) c us k =
      let r = all_used ps c us.1 k in
      let s = used_step p.0 p.1 (used_all W ps c) (theorem_of W p.0) refl r.goals.0 us.0 in
      record { start = k; goals = s.goals; valid = λ v. r.valid (s.valid v, tt) }

  each_used : (us : List (Symbol × Subst)) (cs : List Clause) → Each (KnownUse W) us → Each (KnownClause (function_of W)) cs → Each (KnownClause (function_of W)) (map (used_all W us) cs)
  each_used us [] ks k = tt
  each_used us (c ∷ cs) ks k = ((all_used us c ks k.0).goals.0, each_used us cs ks k.1)

  used_valid : (us : List (Symbol × Subst)) (cs : List Clause) → Each (KnownUse W) us → Each (KnownClause (function_of W)) cs
      → Each (λ (c : Clause). Valid (function_of W) c.0) (map (used_all W us) cs) → Each (λ (c : Clause). Valid (function_of W) c.0) cs
  used_valid us [] ks k vs = tt
  used_valid us (c ∷ cs) ks k vs = ((all_used us c ks k.0).valid (vs.0, tt), used_valid us cs ks k.1 vs.1)

  -- what a hint makes of a clause
  pub hint_follows : (h : Hint) (c : Clause) → KnownHint W h → KnownClause (function_of W) c → Follows (function_of W) (reduced_to c (hint_goals W h c))
  hint_follows h c said k =
      let r = cased_follows (function_of W) sound.total grounded c h.cases k said.cases in
      record { start = k; goals = each_used h.uses (cased_by h.cases c) said.uses r.goals; valid = λ vs. r.valid (used_valid h.uses (cased_by h.cases c) said.uses r.goals vs) }
