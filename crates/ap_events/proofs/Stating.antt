-- What is stated in a world that covers another is stated in that one too, or a name isn't there.
use Rattle.std.proofs.Common.{◌≡◌, Bool, true, false, List, [], ◌⊎◌, inl, inr, Option, Some, None, Ok, Err, refl, sym, ap, ◌∙◌, subst}
use Rattle.ap_value.specs.declared.symbol.Symbol.{Symbol}
use Rattle.ap_term.specs.declared.term.Term.{Term}
use Rattle.ap_reader.specs.declared.form.Form.{Form}
use Rattle.ap_world.specs.declared.entry.Defun.{Defun}
use Rattle.ap_world.specs.declared.entry.Entry.TheVariants as entry
use Rattle.ap_world.specs.declared.entry.Measure.{Measure}
use Rattle.ap_world.specs.declared.entry.Theorem.{Theorem}
use Rattle.ap_world.specs.Alike.{Covers}
use Rattle.ap_world.specs.World.{Shown, has_name}
use Rattle.ap_world.proofs.Covering.{same_self, covers_added, covers_untaken}
use Rattle.ap_world.proofs.Extending.{not_taken}
use Rattle.ap_translate.specs.declared.fault.TransKind.TheVariants as kinds
use Rattle.ap_translate.specs.Answers as translation
use Rattle.ap_translate.specs.Table.{translated}
use Rattle.ap_admit.specs.Admission.{with_function}
use Rattle.ap_stated.specs.declared.definition.Terminating.{Terminating}
use Rattle.ap_plain.specs.declared.proposing.Proposal.{Proposal}
use Rattle.ap_plain.specs.declared.proposing.Proposal.TheVariants as proposal
use Rattle.ap_stated.specs.declared.refusing.Refusal.{Refusal}
use Rattle.ap_stated.specs.Definitions.{terminating, formed_definition, stated_definition}
use Rattle.ap_plain.specs.Proposals.{proposed_theorem, proposed_definition}
use Rattle.ap_stated.specs.Refusals.{Answer, ◌>>=◌, unless, as_translated}
use Rattle.ap_stated.specs.Shapes.{Stated, Defined}
use Rattle.ap_stated.specs.Theorems.{theorem_of, ruled, stated_theorem}
use Rattle.ap_stated.specs.Translating.{formal_names, component_forms, guard_forms, translated_all, translated_measure, stub, prepared_definition, translated_parts, translated_definition}
use Rattle.ap_events.proofs.Lacking.{Lacks, lacks_before, lacks_term, lacks_terms}
use Rattle.ap_events.proofs.Lessening.{Near, Unknown, near_same, near_after, near_since}

abbrev pub unknown : Refusal
unknown = Refusal.Translation kinds.UnknownName

-- what the second gives, the first gives, or it is refused for a name, and this holds
abbrev pub Stating : Type 0 → (A : Type 0) → Answer A → Answer A → Type 0
Stating M A r s = (a : A) → s ≡ Ok a → (r ≡ Ok a) ⊎ ((r ≡ Err unknown) × M)

module _ (M : Type 0) where
  stating_after : (A B : Type 0) (r s : Answer A) (g : A → Answer B) → Stating M A r s → Stating M B (r >>= g) (s >>= g)
  stating_after A B r (Err e) g k b q = absurd (cc q)
  stating_after A B r (Ok a) g k b q = go (k a refl)
    where
      go : (r ≡ Ok a) ⊎ ((r ≡ Err unknown) × M) → ((r >>= g) ≡ Ok b) ⊎ (((r >>= g) ≡ Err unknown) × M)
      go (inl e) = inl (ap (λ x. x >>= g) e ∙ q)
      go (inr n) = inr (ap (λ x. x >>= g) n.0, n.1)

  stating_translated : (A : Type 0) (r s : translation.Answer A) → Near M A r s → Stating M A (as_translated r) (as_translated s)
  stating_translated A r (Err e) k a q = absurd (cc q)
  stating_translated A r (Ok x) k a q = go (k x refl)
    where
      go : (r ≡ Ok x) ⊎ Unknown M A r → (as_translated r ≡ Ok a) ⊎ ((as_translated r ≡ Err unknown) × M)
      go (inl e) = inl (ap as_translated e ∙ q)
      go (inr n) = inr (ap as_translated n.is, n.holds)

  stating_unless : (A : Type 0) (b c : Bool) (e : Refusal) (r s : Answer A) → (c ≡ false → b ≡ false) → (c ≡ false → Stating M A r s) → Stating M A (unless b e r) (unless c e s)
  stating_unless A b true e r s free k a q = absurd (cc q)
  stating_unless A b false e r s free k a q =
      subst (λ x. (unless x e r ≡ Ok a) ⊎ ((unless x e r ≡ Err unknown) × M)) (sym (free refl)) (k refl a q)

module _ (v u : Shown) (covered : Covers v.entries u.entries) where
  abbrev pub Gone : Type 0
  Gone = Lacks v.entries u.entries

  untaken : (n : Symbol) → has_name u.entries n ≡ false → has_name v.entries n ≡ false
  untaken n free = covers_untaken v.entries u.entries covered n free

  pub theorem_stating : (s : Stated) → Stating Gone Proposal (proposed_theorem v s) (proposed_theorem u s)
  theorem_stating s =
      stating_after Gone Theorem Proposal (stated_theorem v s) (stated_theorem u s) (λ t. Ok (proposal.Theorem t))
      (stating_unless Gone Theorem (has_name v.entries s.name) (has_name u.entries s.name) Refusal.NameTaken
      (as_translated (translated v.entries None s.term) >>= λ x. ruled (theorem_of s x)) (as_translated (translated u.entries None s.term) >>= λ x. ruled (theorem_of s x)) (untaken s.name)
      (λ free. stating_after Gone Term Theorem (as_translated (translated v.entries None s.term)) (as_translated (translated u.entries None s.term)) (λ x. ruled (theorem_of s x))
      (stating_translated Gone Term (translated v.entries None s.term) (translated u.entries None s.term) (lacks_term v.entries u.entries covered None s.term))))

  -- a definition whose name is free
  module _ (d : Defined) (free : has_name u.entries d.name ≡ false) where
    near_body : (names : List Symbol) → Near Gone Term (translated (with_function v.entries (stub d.name names)) (Some names) d.body) (translated (with_function u.entries (stub d.name names)) (Some names) d.body)
    near_body names =
        near_since (Lacks (with_function v.entries (stub d.name names)) (with_function u.entries (stub d.name names))) Gone (lacks_before v.entries u.entries (entry.Function (stub d.name names))) Term
        (translated (with_function v.entries (stub d.name names)) (Some names) d.body) (translated (with_function u.entries (stub d.name names)) (Some names) d.body)
        (lacks_term (with_function v.entries (stub d.name names)) (with_function u.entries (stub d.name names))
        (covers_added v.entries u.entries (entry.Function (stub d.name names)) (entry.Function (stub d.name names)) covered (same_self (entry.Function (stub d.name names))) (not_taken u.entries d.name free).1)
        (Some names) d.body)

    near_measure : (names : List Symbol) (o : Option Form) → Near Gone (Option Measure) (translated_measure v.entries names o) (translated_measure u.entries names o)
    near_measure names None = near_same Gone (Option Measure) (Ok None)
    near_measure names (Some f) =
        near_after Gone (List Term) (Option Measure) (translated_all v.entries names (component_forms f)) (translated_all u.entries names (component_forms f))
        (λ ms. Ok (Some (record { 0 = ms }))) (λ ms. Ok (Some (record { 0 = ms }))) (lacks_terms v.entries u.entries covered (Some names) (component_forms f))
        (λ ms. near_same Gone (Option Measure) (Ok (Some (record { 0 = ms }))))

    near_parts : (names : List Symbol) → Near Gone Defun (translated_parts v.entries d names) (translated_parts u.entries d names)
    near_parts names =
        near_after Gone (List Term) Defun (translated_all v.entries names (guard_forms d.xargs.guard)) (translated_all u.entries names (guard_forms d.xargs.guard)) _ _
        (lacks_terms v.entries u.entries covered (Some names) (guard_forms d.xargs.guard))
        (λ g. near_after Gone Term Defun (translated (with_function v.entries (stub d.name names)) (Some names) d.body) (translated (with_function u.entries (stub d.name names)) (Some names) d.body) _ _
        (near_body names)
        (λ body. near_after Gone (Option Measure) Defun (translated_measure v.entries names d.xargs.measure) (translated_measure u.entries names d.xargs.measure) _ _ (near_measure names d.xargs.measure)
        (λ m. near_same Gone Defun (Ok (prepared_definition d.name names body m)))))

    formed_stating : Stating Gone Terminating (formed_definition v d) (formed_definition u d)
    formed_stating =
        stating_after Gone Defun Terminating (as_translated (translated_definition v.entries d)) (as_translated (translated_definition u.entries d)) terminating
        (stating_translated Gone Defun (translated_definition v.entries d) (translated_definition u.entries d)
        (near_after Gone (List Symbol) Defun (formal_names [] d.formals) (formal_names [] d.formals) (translated_parts v.entries d) (translated_parts u.entries d)
        (near_same Gone (List Symbol) (formal_names [] d.formals)) near_parts))

  pub definition_stating : (d : Defined) → Stating Gone Proposal (proposed_definition v d) (proposed_definition u d)
  definition_stating d =
      stating_after Gone Terminating Proposal (stated_definition v d) (stated_definition u d) (λ t. Ok (proposal.Function t))
      (stating_unless Gone Terminating d.xargs.verify d.xargs.verify Refusal.GuardsAsked
      (unless (has_name v.entries d.name) Refusal.NameTaken (formed_definition v d)) (unless (has_name u.entries d.name) Refusal.NameTaken (formed_definition u d)) (λ asked. asked)
      (λ asked. stating_unless Gone Terminating (has_name v.entries d.name) (has_name u.entries d.name) Refusal.NameTaken (formed_definition v d) (formed_definition u d) (untaken d.name)
      (formed_stating d)))
