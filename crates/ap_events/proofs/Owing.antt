-- What is stated again owes nothing new: a sound list of entries that has it, and defines alike what the world defines, shows
-- that what it owes is valid.
use Rattle.std.proofs.Common.{◌≡◌, ℕ, ◌+◌, Bool, true, cond, List, [], ◌∷◌, ◌++◌, map, Option, Some, None, is_some, refl, ap, sym, ◌∙◌, subst}
use Rattle.ap_list.specs.Lists.{Each, all_true}
use Rattle.ap_value.proofs.Equals.{symbol_eq-same}
use Rattle.ap_term.specs.declared.term.Term.{Term}
use Rattle.ap_world.specs.declared.entry.Defun.{Defun}
use Rattle.ap_world.specs.declared.entry.Entry.{Entry}
use Rattle.ap_world.specs.declared.entry.Entry.TheVariants as entry
use Rattle.ap_world.specs.declared.entry.Function.{Function}
use Rattle.ap_world.specs.declared.entry.Measure.{Measure}
use Rattle.ap_world.specs.declared.entry.Theorem.{Theorem}
use Rattle.ap_world.specs.Alike.{SameButMask, DefinesAlike}
use Rattle.ap_world.specs.Meaning.{Defs, Valid}
use Rattle.ap_world.specs.Recursion.{obligations}
use Rattle.ap_world.specs.Sound.{known, HasFunctions, Sound}
use Rattle.ap_world.specs.World.{Shown, name_in, entry_of, as_function, as_theorem, function_of, theorem_of}
use Rattle.ap_world.proofs.Again.{theorem_again, obligations_again}
use Rattle.ap_world.proofs.Extending.{entry_of-passed, not_taken}
use Rattle.ap_world.proofs.Knowing.{true_each}
use Rattle.ap_kernel.specs.Reductions.{KnownClause}
use Rattle.ap_terminate.specs.Distinct.{clause_of}
use Rattle.ap_admit.specs.Condition.{owed}
use Rattle.ap_strategy.specs.Laws.{kernel_ground}
use Rattle.ap_stated.specs.declared.owed.Owed.{Owed}
use Rattle.ap_plain.specs.declared.proposing.Proposal.{Proposal}
use Rattle.ap_plain.specs.declared.proposing.Proposal.TheVariants as proposal
use Rattle.ap_stated.specs.Definitions.{numbered, owed_by, function_in}
use Rattle.ap_plain.specs.Proposals.{owed_of, entry_in, put, IsStated}
use Rattle.ap_plain.specs.Ends.{admitted, worlds_in}
use Rattle.ap_stated.proofs.Defining.{owed_known}
use Rattle.ap_events.specs.Backing.{CoversAdded}
use Rattle.ap_events.proofs.Books.{put_entries}
use Rattle.ap_events.proofs.Implying.{clause_valid}

-- what an entry that was added is there
added_there : (W U : List Entry) (y : Entry) → entry_of W (name_in y) ≡ None → CoversAdded W (W ++ y ∷ []) U → (z : Entry) × (entry_of U (name_in y) ≡ Some z) × SameButMask y z
added_there W U y free made = made (name_in y) y free (entry_of-passed W (y ∷ []) (name_in y) free ∙ ap (λ b. cond b (Some y) None) (symbol_eq-same (name_in y)))

-- obligations with their numbers
known_owed : (D : Defs) (k : ℕ) (cs : List (List Term)) → Each (λ (o : Owed). KnownClause D o.clause) (numbered k (map clause_of cs)) → Each (λ c. all_true (map (known D) c) ≡ true) cs
known_owed D k [] h = tt
known_owed D k (c ∷ cs) h = (true_each (known D) c h.0, known_owed D (k + 1) cs h.1)

valid_owed : (D : Defs) (k : ℕ) (cs : List (List Term)) → Each (Valid D) cs → Each (λ (o : Owed). Valid D o.clause.0) (numbered k (map clause_of cs))
valid_owed D k [] h = tt
valid_owed D k (c ∷ cs) h = (h.0, valid_owed D (k + 1) cs h.1)

module _ (w : Shown) (U : List Entry) (here : Sound w.entries) (functions : HasFunctions (function_of w.entries)) (there : Sound U) (alike : DefinesAlike (function_of w.entries) (function_of U)) where
  theorem_owed : (t : Theorem) (z : Entry) → entry_of U t.name ≡ Some z → SameButMask (entry.Theorem t) z → known (function_of w.entries) t.term ≡ true → Each (λ (o : Owed). Valid (function_of w.entries) o.clause.0) (owed_of (proposal.Theorem t))
  theorem_owed t (entry.Theorem u) e s k =
      let found : theorem_of U t.name ≡ Some t = ap as_theorem (e ∙ ap (λ y. Some y) (sym s)) in
      (clause_valid w.entries here (kernel_ground (function_of w.entries) functions) t.term k (theorem_again w.entries U here there alike t.name t found k), tt)
  theorem_owed t (entry.Function g) e s k = absurd (cc s)
  theorem_owed t (entry.Constant c v) e s k = absurd (cc s)

  measured_owed : (d : Defun) (o : Option Measure) (h : Function) → function_of U d.name ≡ Some h → d.formals ≡ h.formals → o ≡ h.measure → cond (is_some o) d.cases [] ≡ h.cases
      → Each (λ (x : Owed). KnownClause (function_of w.entries) x.clause) (owed_by d o) → Each (λ (x : Owed). Valid (function_of w.entries) x.clause.0) (owed_by d o)
  measured_owed d None h found formals measure cases ks = tt
  measured_owed d (Some m) h found formals measure cases ks =
      let D = function_of w.entries in
      let given = is_some d.measure in
      let same : obligations given d.formals m.0 d.cases ≡ obligations given h.formals m.0 h.cases =
      ap (λ xs. obligations given xs m.0 d.cases) formals ∙ ap (λ js. obligations given h.formals m.0 js) cases in
      let known_there = subst (Each (λ c. all_true (map (known D) c) ≡ true)) same (known_owed D 1 (owed d m) ks) in
      valid_owed D 1 (owed d m)
      (subst (Each (Valid D)) (sym same) (obligations_again w.entries U here there alike d.name h found m (sym measure) given known_there))

  function_owed : (d : Defun) (o : Option Measure) (f : Function) (z : Entry) → f.formals ≡ d.formals → f.measure ≡ o → f.cases ≡ cond (is_some o) d.cases [] → entry_of U d.name ≡ Some z → SameButMask (entry.Function f) z
      → Each (λ (x : Owed). KnownClause (function_of w.entries) x.clause) (owed_by d o) → Each (λ (x : Owed). Valid (function_of w.entries) x.clause.0) (owed_by d o)
  function_owed d o f (entry.Function h) formals measure cases e s ks =
      measured_owed d o h (ap as_function e) (sym formals ∙ s.formals) (sym measure ∙ s.measure) (sym cases ∙ s.cases) ks
  function_owed d o f (entry.Theorem u) formals measure cases e s ks = absurd (cc s)
  function_owed d o f (entry.Constant c v) formals measure cases e s ks = absurd (cc s)

  pub owed_again : (p : Proposal) → IsStated w p → CoversAdded w.entries (w.entries ++ entry_in w p ∷ []) U → Each (λ (o : Owed). Valid (function_of w.entries) o.clause.0) (owed_of p)
  owed_again (proposal.Theorem t) stated made =
      let (z, e, s) = added_there w.entries U (entry.Theorem t) (not_taken w.entries t.name stated.free).1 made in
      theorem_owed t z e s stated.term_known
  owed_again (proposal.Function t) stated made =
      let (z, e, s) = added_there w.entries U (entry.Function (function_in w t)) (not_taken w.entries t.definition.name stated.free).1 made in
      function_owed t.definition t.measure (function_in w t) z refl refl refl e s (owed_known w t.definition t.measure functions stated.free stated.prepared stated.ends)

  -- of what is put into the world, where that is backed
  pub put_owed : (enabled : Bool) (p : Proposal) → IsStated w p → Each (λ v. CoversAdded w.entries v.entries U) (worlds_in (admitted (put enabled w p) [] []).told) → Each (λ (o : Owed). Valid (function_of w.entries) o.clause.0) (owed_of p)
  put_owed enabled p stated made = owed_again p stated (subst (λ X. CoversAdded w.entries X U) (put_entries enabled w p) made.0)
