-- What is made again, where what was there is covered by what was there then, is covered by what was made then.
use Rattle.std.proofs.Common.{◌≡◌, ℕ, Bool, true, false, cond, List, [], ◌∷◌, ◌++◌, Option, Some, None, Ok, Err, codes, refl, sym, ap, ◌∙◌, subst}
use Rattle.ap_list.specs.Lists.{Each, lookup_by}
use Rattle.ap_value.specs.declared.symbol.Symbol.{Symbol}
use Rattle.ap_value.specs.declared.value.Value.{Value}
use Rattle.ap_value.specs.Values.{bytes_eq}
use Rattle.ap_term.specs.declared.term.Term.{Term}
use Rattle.ap_reader.specs.declared.form.Form.{Form}
use Rattle.ap_world.specs.declared.entry.Defun.{Defun}
use Rattle.ap_world.specs.declared.entry.Entry.{Entry}
use Rattle.ap_world.specs.declared.entry.Entry.TheVariants as entry
use Rattle.ap_world.specs.declared.entry.Measure.{Measure}
use Rattle.ap_world.specs.declared.entry.Theorem.{Theorem}
use Rattle.ap_world.specs.Recursion.{has_no_call, measure_of}
use Rattle.ap_world.specs.Theories.{ShownTheory}
use Rattle.ap_world.specs.World.{Shown, name_in, entry_of, has_name, are_distinct, added}
use Rattle.ap_world.proofs.Extending.{not_taken}
use Rattle.ap_rules.specs.declared.refusing.RuleError.{RuleError}
use Rattle.ap_translate.specs.declared.fault.TransKind.TheVariants as kinds
use Rattle.ap_translate.specs.Answers as translation
use Rattle.ap_translate.specs.Table.{translated}
use Rattle.ap_translate.specs.Written.{written}
use Rattle.ap_hints.specs.declared.hint.Hints.{Hints}
use Rattle.ap_hints.specs.Changes.{Changed, changed_theory}
use Rattle.ap_admit.specs.Admission.{with_function}
use Rattle.ap_attempt.specs.declared.verdict.Verdict.{Verdict}
use Rattle.ap_attempt.specs.Attempts.{RootedWalk}
use Rattle.ap_strategy.specs.Goals.{Goal}
use Rattle.ap_rules.specs.Refused.{refusal}
use Rattle.ap_stated.specs.declared.definition.Terminating.{Terminating}
use Rattle.ap_plain.specs.declared.kinds.Kind.{Kind}
use Rattle.ap_plain.specs.declared.kinds.Kind.TheVariants as kind
use Rattle.ap_plain.specs.declared.limits.Limits.{Limits}
use Rattle.ap_plain.specs.declared.proposing.Proposal.{Proposal}
use Rattle.ap_plain.specs.declared.proposing.Proposal.TheVariants as proposal
use Rattle.ap_stated.specs.declared.refusing.Refusal.{Refusal}
use Rattle.ap_world.specs.Alike.{SameButMask, Covers}
use Rattle.ap_plain.specs.Attempts.{first_rule, tried, plan_for}
use Rattle.ap_events.specs.Backing.{Fits}
use Rattle.ap_events.specs.Books.{Earlier, book_of, include_title, include_by, include_of, included_by, include_event, Asks, book, events, event, asks_of, asked_first, headed_first, first_event, silent_by, silent, put_again, theorem_again, definition_again, kind_again, known_again, asked_again, headed_again, again_event}
use Rattle.ap_plain.specs.Changes.{changes_of, changed_event, theory_event}
use Rattle.ap_plain.specs.Constants.{constant_title, valued_constant, stated_constant, written_constant, constant_event}
use Rattle.ap_stated.specs.Definitions.{by_measure, without_measure, measured, terminating, formed_definition, stated_definition}
use Rattle.ap_plain.specs.Ends.{Done, admitted, refused_alone}
use Rattle.ap_plain.specs.Events.{kind_of, theorem_event, definition_event, event_by, headed_event, event_with, event_of}
use Rattle.ap_stated.specs.Hinting.{given_hints}
use Rattle.ap_world.specs.Including.{has_clash, included}
use Rattle.ap_translate.specs.Laws.{KnowsMore}
use Rattle.ap_plain.specs.Proposals.{proposed_theorem, proposed_definition, opening_of, owed_of, name_of, entry_in, with_theory, put, proved_event, hinted_event, proposed_event}
use Rattle.ap_stated.specs.Refusals.{Answer, ◌>>=◌, unless, as_translated}
use Rattle.ap_stated.specs.Shapes.{Stated, Defined, head_of, statement_of, definition_of, constant_of}
use Rattle.ap_stated.specs.Texts.{title, said_line}
use Rattle.ap_stated.specs.Theorems.{theorem_of, ruled_by, ruled, stated_theorem}
use Rattle.ap_stated.specs.Translating.{formal_names, component_forms, guard_forms, translated_all, translated_measure, stub, prepared_definition, translated_parts, translated_definition}
use Rattle.ap_events.proofs.Books.{found_book, put_entries}
use Rattle.ap_events.proofs.Nestings.{LeavesCover}
use Rattle.ap_world.proofs.Covering.{same_self, covers_self, covers_grown, covers_added, covers_included, covers_world}
use Rattle.ap_translate.proofs.More.{Below, after, then_ok as translation_ok, more_translated, more_all, covers_knows}

pub no_world : {A : Type 0} (w : Shown) → None ≡ Some w → A
no_world w h = absurd (no h)
  where
    no : None ≡ Some w → ⊥
    no q = cc

-- What an answer is made of.

module _ {A : Type 0} where
  unless_ok : (b : Bool) (r : Refusal) (a : Answer A) (x : A) → unless b r a ≡ Ok x → (b ≡ false) × (a ≡ Ok x)
  unless_ok true r a x h = absurd (no h)
    where
      no : Err r ≡ Ok x → ⊥
      no q = cc
  unless_ok false r a x h = (refl, h)

module _ {A B : Type 0} where
  then_ok : (a : Answer A) (g : A → Answer B) (b : B) → (a >>= g) ≡ Ok b → (x : A) × (a ≡ Ok x) × (g x ≡ Ok b)
  then_ok (Ok x) g b h = (x, refl, h)
  then_ok (Err r) g b h = absurd (no h)
    where
      no : Err r ≡ Ok b → ⊥
      no q = cc

ok_same : {A : Type 0} (x y : A) (a : Answer A) → a ≡ Ok x → a ≡ Ok y → x ≡ y
ok_same x y a h k = cc (h, k)

translation_same : {A : Type 0} (x y : A) (a : translation.Answer A) → a ≡ Ok x → a ≡ Ok y → x ≡ y
translation_same x y a h k = cc (h, k)

translated_ok : {A : Type 0} (a : translation.Answer A) (x : A) → as_translated a ≡ Ok x → a ≡ Ok x
translated_ok (Ok y) x h = let same : y ≡ x = cc in ap (λ z. Ok z) same
translated_ok (Err e) x h = absurd (no h)
  where
    no : Err (Refusal.Translation e.kind) ≡ Ok x → ⊥
    no q = cc

-- What is stated where less is known is stated where more is.

ruled_same : (t : Theorem) (o : Option RuleError) (x : Theorem) → ruled_by t o ≡ Ok x → t ≡ x
ruled_same t None x h = cc
ruled_same t (Some e) x h = absurd (no h)
  where
    no : Err (Refusal.Rule e) ≡ Ok x → ⊥
    no q = cc

terminating_same : (d : Defun) (t : Terminating) → terminating d ≡ Ok t → d ≡ t.definition
terminating_same d t h = go (has_no_call d.name d.body) h
  where
    by_option : (o : Option (List Term)) → measured d o ≡ Ok t → d ≡ t.definition
    by_option None k = absurd (no k)
      where
        no : measured d None ≡ Ok t → ⊥
        no q = cc
    by_option (Some ms) k = ap (λ (x : Terminating). x.definition) (ok_same (by_measure d (record { 0 = ms })) t (Ok (by_measure d (record { 0 = ms }))) refl k)

    go : (b : Bool) → cond b (Ok (without_measure d)) (measured d (measure_of d)) ≡ Ok t → d ≡ t.definition
    go true k = ap (λ (x : Terminating). x.definition) (ok_same (without_measure d) t (Ok (without_measure d)) refl k)
    go false k = by_option (measure_of d) k

module _ (v u : Shown) (covered : Covers v.entries u.entries) where
  more : KnowsMore v.entries u.entries
  more = covers_knows v.entries u.entries covered

  theorem_same : (s : Stated) (q p : Proposal) → proposed_theorem v s ≡ Ok q → proposed_theorem u s ≡ Ok p → (q ≡ p) × (has_name u.entries (name_of p) ≡ false)
  theorem_same s q p h k =
      let (t, h1, h2) = then_ok (stated_theorem v s) (λ x. Ok (proposal.Theorem x)) q h in
      let (r, k1, k2) = then_ok (stated_theorem u s) (λ x. Ok (proposal.Theorem x)) p k in
      let (free_v, h3) = unless_ok (has_name v.entries s.name) Refusal.NameTaken (as_translated (translated v.entries None s.term) >>= λ x. ruled (theorem_of s x)) t h1 in
      let (free, k3) = unless_ok (has_name u.entries s.name) Refusal.NameTaken (as_translated (translated u.entries None s.term) >>= λ x. ruled (theorem_of s x)) r k1 in
      let (x, h4, h5) = then_ok (as_translated (translated v.entries None s.term)) (λ x. ruled (theorem_of s x)) t h3 in
      let (y, k4, k5) = then_ok (as_translated (translated u.entries None s.term)) (λ x. ruled (theorem_of s x)) r k3 in
      let known : translated u.entries None s.term ≡ Ok x = more_translated v.entries u.entries more None s.term x (translated_ok (translated v.entries None s.term) x h4) in
      let terms : x ≡ y = translation_same x y (translated u.entries None s.term) known (translated_ok (translated u.entries None s.term) y k4) in
      let left_is : theorem_of s x ≡ t = ruled_same (theorem_of s x) (refusal s.name x (theorem_of s x).classes) t h5 in
      let right_is : theorem_of s y ≡ r = ruled_same (theorem_of s y) (refusal s.name y (theorem_of s y).classes) r k5 in
      let same : q ≡ p = sym (ok_same (proposal.Theorem t) q (Ok (proposal.Theorem t)) refl h2) ∙ ap (λ z. proposal.Theorem z) (sym left_is ∙ ap (theorem_of s) terms ∙ right_is) ∙ ok_same (proposal.Theorem r) p (Ok (proposal.Theorem r)) refl k2 in
      let name : s.name ≡ name_of p = ap (λ (z : Theorem). z.name) right_is ∙ ap name_of (ok_same (proposal.Theorem r) p (Ok (proposal.Theorem r)) refl k2) in
      (same, ap (has_name u.entries) (sym name) ∙ free)

  -- the parts of a definition, whose name is free where more is known
  parts_more : (d : Defined) (names : List Symbol) → entry_of u.entries d.name ≡ None → (x : Defun) → translated_parts v.entries d names ≡ Ok x → translated_parts u.entries d names ≡ Ok x
  parts_more d names free =
      after (List Term) Defun (translated_all v.entries names (guard_forms d.xargs.guard)) (translated_all u.entries names (guard_forms d.xargs.guard)) _ _
      (more_all v.entries u.entries more (Some names) (guard_forms d.xargs.guard))
      (λ g. after Term Defun (translated (with_function v.entries (stub d.name names)) (Some names) d.body) (translated (with_function u.entries (stub d.name names)) (Some names) d.body) _ _
      (more_translated (with_function v.entries (stub d.name names)) (with_function u.entries (stub d.name names))
      (covers_knows (with_function v.entries (stub d.name names)) (with_function u.entries (stub d.name names))
      (covers_added v.entries u.entries (entry.Function (stub d.name names)) (entry.Function (stub d.name names)) covered (same_self (entry.Function (stub d.name names))) free)) (Some names) d.body)
      (λ body. after (Option Measure) Defun (translated_measure v.entries names d.xargs.measure) (translated_measure u.entries names d.xargs.measure) _ _ (measure d.xargs.measure) (λ m a e. e)))
    where
      measure : (o : Option Form) → Below (Option Measure) (translated_measure v.entries names o) (translated_measure u.entries names o)
      measure None a e = e
      measure (Some f) a e =
          after (List Term) (Option Measure) (translated_all v.entries names (component_forms f)) (translated_all u.entries names (component_forms f))
          (λ ms. Ok (Some (record { 0 = ms }))) (λ ms. Ok (Some (record { 0 = ms }))) (more_all v.entries u.entries more (Some names) (component_forms f)) (λ ms b k. k) a e

  formed_more : (d : Defined) → entry_of u.entries d.name ≡ None → (x : Defun) → translated_definition v.entries d ≡ Ok x → translated_definition u.entries d ≡ Ok x
  formed_more d free =
      after (List Symbol) Defun (formal_names [] d.formals) (formal_names [] d.formals) (translated_parts v.entries d) (translated_parts u.entries d) (λ a e. e) (λ names. parts_more d names free)

-- a definition that is translated has its name
definition_named : (W : List Entry) (d : Defined) (x : Defun) → translated_definition W d ≡ Ok x → x.name ≡ d.name
definition_named W d x h =
    let (names, h1, h2) = translation_ok (formal_names [] d.formals) (translated_parts W d) x h in
    let (guard, h3, h4) = translation_ok (translated_all W names (guard_forms d.xargs.guard)) _ x h2 in
    let (body, h5, h6) = translation_ok (translated (with_function W (stub d.name names)) (Some names) d.body) _ x h4 in
    let (m, h7, h8) = translation_ok (translated_measure W names d.xargs.measure) (λ m. Ok (prepared_definition d.name names body m)) x h6 in
    sym (ap (λ (y : Defun). y.name) (translation_same (prepared_definition d.name names body m) x (Ok (prepared_definition d.name names body m)) refl h8))

definition_same : (v u : Shown) → Covers v.entries u.entries → (d : Defined) (q p : Proposal) → proposed_definition v d ≡ Ok q → proposed_definition u d ≡ Ok p
    → (q ≡ p) × (has_name u.entries (name_of p) ≡ false)
definition_same v u covered d q p h k =
    let (t, h1, h2) = then_ok (stated_definition v d) (λ x. Ok (proposal.Function x)) q h in
    let (r, k1, k2) = then_ok (stated_definition u d) (λ x. Ok (proposal.Function x)) p k in
    let (asks_v, h3) = unless_ok d.xargs.verify Refusal.GuardsAsked (unless (has_name v.entries d.name) Refusal.NameTaken (formed_definition v d)) t h1 in
    let (asks_u, k3) = unless_ok d.xargs.verify Refusal.GuardsAsked (unless (has_name u.entries d.name) Refusal.NameTaken (formed_definition u d)) r k1 in
    let (free_v, h4) = unless_ok (has_name v.entries d.name) Refusal.NameTaken (formed_definition v d) t h3 in
    let (free, k4) = unless_ok (has_name u.entries d.name) Refusal.NameTaken (formed_definition u d) r k3 in
    let (x, h5, h6) = then_ok (as_translated (translated_definition v.entries d)) terminating t h4 in
    let (y, k5, k6) = then_ok (as_translated (translated_definition u.entries d)) terminating r k4 in
    let formed : translated_definition u.entries d ≡ Ok x = formed_more v u covered d (not_taken u.entries d.name free).1 x (translated_ok (translated_definition v.entries d) x h5) in
    let formed_u : translated_definition u.entries d ≡ Ok y = translated_ok (translated_definition u.entries d) y k5 in
    let parts : x ≡ y = translation_same x y (translated_definition u.entries d) formed formed_u in
    let ends : t ≡ r = ok_same t r (terminating x) h6 (ap terminating parts ∙ k6) in
    let same : q ≡ p = sym (ok_same (proposal.Function t) q (Ok (proposal.Function t)) refl h2) ∙ ap (λ z. proposal.Function z) ends ∙ ok_same (proposal.Function r) p (Ok (proposal.Function r)) refl k2 in
    let name : d.name ≡ name_of p =
    sym (definition_named u.entries d y formed_u) ∙ ap (λ (z : Defun). z.name) (terminating_same y r k6) ∙ ap name_of (ok_same (proposal.Function r) p (Ok (proposal.Function r)) refl k2) in
    (same, ap (has_name u.entries) (sym name) ∙ free)

-- What comes of that.

-- a world that grew, and what is made again in one that it covers
pub record Covering (e : Done) (u w : Shown) : Type 0 where
  pub grows : Covers u.entries w.entries
  pub fits : Fits e w.entries

-- d is done in u, and e in a world that u covers
abbrev Meets : Done → Done → Shown → Type 0
Meets d e u = (w : Shown) → d.next ≡ Some w → Covering e u w

refused_fits : (title : List ℕ) (r : Refusal) (U : List Entry) → Fits (refused_alone title r) U
refused_fits title r U = record { on_the_way = tt; last = λ v h. no_world v h }

admitted_fits : (v : Shown) (text : List ℕ) (U : List Entry) → Covers v.entries U → Fits (admitted v text []) U
admitted_fits v text U covered = record {
  on_the_way = (covered, tt);
  last = λ x h. let same : v ≡ x = cc in subst (λ y. Covers y.entries U) same covered;
}

-- an event that is admitted meets what fits its world
admitted_meets : (x : Shown) (text : List ℕ) (e : Done) (u : Shown) → Covers u.entries x.entries → Fits e x.entries → Meets (admitted x text []) e u
admitted_meets x text e u grown fits w h =
    let same : x ≡ w = cc in
    record { grows = subst (λ y. Covers u.entries y.entries) same grown; fits = subst (λ y. Fits e y.entries) same fits }

pub silent_next : (d : Done) → (silent d).next ≡ d.next
silent_next d = go d.next refl
  where
    go : (o : Option Shown) → d.next ≡ o → (silent_by d o).next ≡ d.next
    go None e = refl
    go (Some v) e = sym e

silent_fits : (d : Done) (U : List Entry) → Fits d U → Fits (silent d) U
silent_fits d U fits = go d.next refl
  where
    go : (o : Option Shown) → d.next ≡ o → Fits (silent_by d o) U
    go None e = fits
    go (Some v) e = record { on_the_way = fits.on_the_way; last = λ x h. fits.last x (e ∙ h) }

silent_meets : (d e : Done) (u : Shown) → Meets d e u → Meets (silent d) (silent e) u
silent_meets d e u meets w h =
    let c = meets w (sym (silent_next d) ∙ h) in
    record { grows = c.grows; fits = silent_fits e w.entries c.fits }

-- What is stated is put into both worlds.

entry_same : (v u : Shown) (p : Proposal) → SameButMask (entry_in v p) (entry_in u p)
entry_same v u (proposal.Theorem t) = refl
entry_same v u (proposal.Function t) = record { name = refl; formals = refl; body = refl; measure = refl; cases = refl }

entry_named : (w : Shown) (p : Proposal) → name_in (entry_in w p) ≡ name_of p
entry_named w (proposal.Theorem t) = refl
entry_named w (proposal.Function t) = refl

put_covers : (enabled : Bool) (v u : Shown) (q p : Proposal) → Covers v.entries u.entries → q ≡ p → has_name u.entries (name_of p) ≡ false
    → Covers (put enabled v q).entries (put enabled u p).entries
put_covers enabled v u q p covered same free =
    subst (λ x. Covers (put enabled v x).entries (put enabled u p).entries) (sym same)
    (subst (λ X. Covers X (put enabled u p).entries) (sym (put_entries enabled v p))
    (subst (Covers (v.entries ++ entry_in v p ∷ [])) (sym (put_entries enabled u p))
    (covers_added v.entries u.entries (entry_in v p) (entry_in u p) covered (entry_same v u p)
    (ap (entry_of u.entries) (entry_named v p) ∙ (not_taken u.entries (name_of p) free).1))))

put_grows : (enabled : Bool) (u : Shown) (p : Proposal) → Covers u.entries (put enabled u p).entries
put_grows enabled u p = subst (Covers u.entries) (sym (put_entries enabled u p)) (covers_grown u.entries (entry_in u p ∷ []))

put_meets : (title : List ℕ) (enabled : Bool) (v u : Shown) (b a : Answer Proposal) → Covers v.entries u.entries
    → ((q p : Proposal) → b ≡ Ok q → a ≡ Ok p → (q ≡ p) × (has_name u.entries (name_of p) ≡ false))
    → Meets (put_again u title enabled a) (put_again v title enabled b) u
put_meets title enabled v u b (Err r) covered same w h = no_world w h
put_meets title enabled v u (Err s) (Ok p) covered same w h =
    admitted_meets (put enabled u p) [] (refused_alone title s) u (put_grows enabled u p) (refused_fits title s (put enabled u p).entries) w h
put_meets title enabled v u (Ok q) (Ok p) covered same w h =
    let (is, free) = same q p refl refl in
    admitted_meets (put enabled u p) [] (admitted (put enabled v q) [] []) u (put_grows enabled u p)
    (admitted_fits (put enabled v q) [] (put enabled u p).entries (put_covers enabled v u q p covered is free)) w h

module _ (v u : Shown) (covered : Covers v.entries u.entries) where
  theorem_meets : (enabled : Bool) (s : Option Stated) → Meets (theorem_again u enabled s) (theorem_again v enabled s) u
  unfolding theorem_again
  theorem_meets enabled None w h = no_world w h
  theorem_meets enabled (Some s) w h =
      put_meets (title (codes "DEFTHM") s.name) enabled v u (proposed_theorem v s) (proposed_theorem u s) covered (theorem_same v u covered s) w h

  definition_meets : (enabled : Bool) (d : Option Defined) → Meets (definition_again u enabled d) (definition_again v enabled d) u
  unfolding definition_again
  definition_meets enabled None w h = no_world w h
  definition_meets enabled (Some d) w h =
      put_meets (title (codes "DEFUN") d.name) enabled v u (proposed_definition v d) (proposed_definition u d) covered (definition_same v u covered d) w h

  valued_meets : (n : Symbol) (a : Answer Value) → Meets (valued_constant u n (stated_constant u n a)) (valued_constant v n (stated_constant v n a)) u
  valued_meets n (Err r) w h = go (has_name u.entries n) h
    where
      go : (b : Bool) → (valued_constant u n (unless b Refusal.NameTaken (Err r))).next ≡ Some w
          → Covering (valued_constant v n (stated_constant v n (Err r))) u w
      go true k = no_world w k
      go false k = no_world w k
  valued_meets n (Ok x) w h = go (has_name u.entries n) refl (has_name v.entries n) w h
    where
      y : Entry
      y = entry.Constant n x

      text : List ℕ
      text = said_line (constant_title n) (codes " admitted")

      go : (b : Bool) → has_name u.entries n ≡ b → (c : Bool) → Meets (valued_constant u n (unless b Refusal.NameTaken (Ok x))) (valued_constant v n (unless c Refusal.NameTaken (Ok x))) u
      go true e c w k = no_world w k
      go false e true w k =
          admitted_meets (added u y) text (refused_alone (constant_title n) Refusal.NameTaken) u (covers_grown u.entries (y ∷ []))
          (refused_fits (constant_title n) Refusal.NameTaken (added u y).entries) w k
      go false e false w k =
          admitted_meets (added u y) text (admitted (added v y) text []) u (covers_grown u.entries (y ∷ []))
          (admitted_fits (added v y) text (added u y).entries (covers_added v.entries u.entries y y covered (same_self y) (not_taken u.entries n e).1)) w k

  written_meets : (n : Symbol) (a : translation.Answer (Option Value)) → Meets (written_constant u n a) (written_constant v n a) u
  unfolding written_constant
  written_meets n (Ok None) w h = no_world w h
  written_meets n (Ok (Some x)) w h = valued_meets n (Ok x) w h
  written_meets n (Err e) w h = valued_meets n (Err (Refusal.Translation e.kind)) w h

  constant_meets : (p : Option (Symbol × Form)) → Meets (constant_event u p) (constant_event v p) u
  unfolding constant_event
  constant_meets None w h = no_world w h
  constant_meets (Some p) w h = written_meets p.0 (written p.1) w h

  theory_text : List ℕ
  theory_text = said_line (codes "IN-THEORY") (codes " admitted")

  changed_meets : (a b : Option ShownTheory) → Meets (changed_event u a) (changed_event v b) u
  unfolding changed_event theory_text
  changed_meets None b w h = no_world w h
  changed_meets (Some a) None w h =
      admitted_meets (with_theory u a) theory_text (refused_alone (codes "IN-THEORY") (Refusal.Translation kinds.UnknownName)) u (covers_self u.entries)
      (refused_fits (codes "IN-THEORY") (Refusal.Translation kinds.UnknownName) u.entries) w h
  changed_meets (Some a) (Some b) w h =
      admitted_meets (with_theory u a) theory_text (admitted (with_theory v b) theory_text []) u (covers_self u.entries) (admitted_fits (with_theory v b) theory_text u.entries covered) w h

  theory_meets : (c : Option Changed) → Meets (theory_event u c) (theory_event v c) u
  unfolding theory_event
  theory_meets None w h = no_world w h
  theory_meets (Some c) w h = changed_meets (changed_theory u c) (changed_theory v c) w h

  -- a book
  include_meets : (n : List ℕ) (k : Shown) → are_distinct k.entries ≡ true → Meets (include_of u n k) (include_of v n k) u
  unfolding include_of
  include_meets n k distinct = go (has_clash u.entries k.entries) refl (has_clash v.entries k.entries)
    where
      text : List ℕ
      text = said_line (include_title n) (codes " admitted")

      go : (b : Bool) → has_clash u.entries k.entries ≡ b → (c : Bool) → Meets (include_by b u n k) (include_by c v n k) u
      go true e c w h = no_world w h
      go false e true w h =
          admitted_meets (included u k) text (refused_alone (include_title n) Refusal.NameTaken) u (covers_world u.entries k.entries)
          (refused_fits (include_title n) Refusal.NameTaken (included u k).entries) w h
      go false e false w h =
          admitted_meets (included u k) text (admitted (included v k) text []) u (covers_world u.entries k.entries)
          (admitted_fits (included v k) text (included u k).entries (covers_included v.entries u.entries k.entries distinct covered e).1) w h

  kind_meets : (f : Form) (k : Kind) → Meets (kind_again u f k) (kind_again v f k) u
  unfolding kind_again
  kind_meets f kind.Theorem w h = theorem_meets true (statement_of f) w h
  kind_meets f kind.DisabledTheorem w h = theorem_meets false (statement_of f) w h
  kind_meets f kind.Function w h = definition_meets true (definition_of f) w h
  kind_meets f kind.DisabledFunction w h = definition_meets false (definition_of f) w h
  kind_meets f kind.Constant w h = silent_meets (constant_event u (constant_of f)) (constant_event v (constant_of f)) u (constant_meets (constant_of f)) w h
  kind_meets f kind.Theory w h = silent_meets (theory_event u (changes_of f)) (theory_event v (changes_of f)) u (theory_meets (changes_of f)) w h

  known_meets : (f : Form) (n : Symbol) (k : Option Kind) → Meets (known_again u f n k) (known_again v f n k) u
  known_meets f n None w h = no_world w h
  known_meets f n (Some k) w h = kind_meets f k w h

-- the names of earlier books' entries are distinct
abbrev pub AreDistinct : Earlier → Type 0
AreDistinct earlier = Each (λ p. are_distinct p.1.entries ≡ true) earlier

module _ (earlier : Earlier) (distinct : AreDistinct earlier) where
  -- an included book
  included_meets : (v u : Shown) → Covers v.entries u.entries → (n : Option (List ℕ)) → Meets (include_event earlier u n) (include_event earlier v n) u
  unfolding include_event
  included_meets v u covered None w h = no_world w h
  included_meets v u covered (Some n) w h = go (lookup_by bytes_eq earlier n) refl w h
    where
      go : (o : Option Shown) → lookup_by bytes_eq earlier n ≡ o → Meets (included_by u n o) (included_by v n o) u
      go None e x k = no_world x k
      go (Some b) e x k = include_meets v u covered n b (found_book (λ k. are_distinct k.entries ≡ true) earlier n b distinct e) x k

  asked_meets : (v u : Shown) → Covers v.entries u.entries → (f : Form) (n : Symbol) (a : Asks) → Meets (asked_again earlier f u n a) (asked_again earlier f v n a) u
  asked_meets v u covered f n book w h =
      silent_meets (include_event earlier u (book_of f)) (include_event earlier v (book_of f)) u (included_meets v u covered (book_of f)) w h
  asked_meets v u covered f n events w h = no_world w h
  asked_meets v u covered f n event w h = known_meets v u covered f n (kind_of n) w h

  headed_meets : (v u : Shown) → Covers v.entries u.entries → (f : Form) (o : Option Symbol) → Meets (headed_again earlier f u o) (headed_again earlier f v o) u
  headed_meets v u covered f None w h = no_world w h
  headed_meets v u covered f (Some n) w h = asked_meets v u covered f n (asks_of n) w h

  pub again_meets : (f : Form) (v u : Shown) → Covers v.entries u.entries → Meets (again_event earlier f u) (again_event earlier f v) u
  unfolding again_event
  again_meets f v u covered w h = headed_meets v u covered f (head_of f) w h

-- What is admitted first is made again, in the same world.

abbrev Same : Done → Done → Type 0
Same d e = (w : Shown) → d.next ≡ Some w → e.next ≡ Some w

module _ (limits : Limits) (w : Shown) where
  proved_same : (title : List ℕ) (enabled : Bool) (p : Proposal) (lines : List ℕ) (walks : List (RootedWalk Goal)) (x : Verdict)
      → Same (proved_event w title enabled p lines walks x) (admitted (put enabled w p) [] [])
  unfolding proved_event
  proved_same title enabled p lines walks Verdict.Qed v h = h
  proved_same title enabled p lines walks (Verdict.Failed r) v h = no_world v h

  hinted_same : (otf : Bool) (title : List ℕ) (enabled : Bool) (p : Proposal) (a : Answer Hints) → Same (hinted_event limits otf w title enabled p a) (admitted (put enabled w p) [] [])
  unfolding hinted_event
  hinted_same otf title enabled p (Err r) v h = no_world v h
  hinted_same otf title enabled p (Ok hs) v h =
      let t = tried (first_rule limits otf) (plan_for limits w hs) (owed_of p) in
      proved_same title enabled p (opening_of p ++ t.lines) t.walks t.verdict v h

  proposed_same : (otf : Bool) (title again : List ℕ) (enabled : Bool) (hints : Option Form) (a : Answer Proposal) → Same (proposed_event limits otf w title enabled hints a) (put_again w again enabled a)
  unfolding proposed_event
  proposed_same otf title again enabled hints (Err r) v h = no_world v h
  proposed_same otf title again enabled hints (Ok p) v h = hinted_same otf title enabled p (given_hints w hints) v h

  theorem_first : (enabled : Bool) (s : Option Stated) → Same (theorem_event limits w enabled s) (theorem_again w enabled s)
  unfolding theorem_event theorem_again
  theorem_first enabled None v h = no_world v h
  theorem_first enabled (Some s) v h =
      proposed_same s.chosen.otf (title (codes "DEFTHM") s.name) (title (codes "DEFTHM") s.name) enabled s.chosen.hints (proposed_theorem w s) v h

  definition_first : (enabled : Bool) (d : Option Defined) → Same (definition_event limits w enabled d) (definition_again w enabled d)
  unfolding definition_event definition_again
  definition_first enabled None v h = no_world v h
  definition_first enabled (Some d) v h =
      proposed_same d.xargs.otf (title (codes "DEFUN") d.name) (title (codes "DEFUN") d.name) enabled d.xargs.hints (proposed_definition w d) v h

  silent_same : (d : Done) → Same d (silent d)
  silent_same d v h = silent_next d ∙ h

  kind_same : (f : Form) (k : Kind) → Same (event_by limits w f k) (kind_again w f k)
  unfolding event_by kind_again
  kind_same f kind.Theorem v h = theorem_first true (statement_of f) v h
  kind_same f kind.DisabledTheorem v h = theorem_first false (statement_of f) v h
  kind_same f kind.Function v h = definition_first true (definition_of f) v h
  kind_same f kind.DisabledFunction v h = definition_first false (definition_of f) v h
  kind_same f kind.Constant v h = silent_same (constant_event w (constant_of f)) v h
  kind_same f kind.Theory v h = silent_same (theory_event w (changes_of f)) v h

  known_same : (f : Form) (n : Symbol) (k : Option Kind) → Same (headed_event limits w f n k) (known_again w f n k)
  unfolding headed_event
  known_same f n None v h = no_world v h
  known_same f n (Some k) v h = kind_same f k v h

  -- an event of its own, by its head
  own_same : (f : Form) (n : Symbol) → head_of f ≡ Some n → Same (event_of limits w f) (known_again w f n (kind_of n))
  unfolding event_of event_with
  own_same f n e v h = known_same f n (kind_of n) v (sym (ap (λ o. (event_with limits w f o).next) e) ∙ h)

  no_head : (f : Form) → head_of f ≡ None → {A : Type 0} (v : Shown) → (event_of limits w f).next ≡ Some v → A
  unfolding event_of event_with
  no_head f e v h = no_world v (sym (ap (λ o. (event_with limits w f o).next) e) ∙ h)

  asked_same : (earlier : Earlier) (f : Form) (n : Symbol) (a : Asks) → head_of f ≡ Some n → Same (asked_first limits earlier f w n a) (asked_again earlier f w n a)
  asked_same earlier f n book e v h = silent_same (include_event earlier w (book_of f)) v h
  asked_same earlier f n events e v h = no_world v h
  asked_same earlier f n event e v h = own_same f n e v h

  headed_same : (earlier : Earlier) (f : Form) (o : Option Symbol) → head_of f ≡ o → Same (headed_first limits earlier f w o) (headed_again earlier f w o)
  headed_same earlier f None e v h = no_head f e v h
  headed_same earlier f (Some n) e v h = asked_same earlier f n (asks_of n) e v h

  pub first_same : (earlier : Earlier) (f : Form) → Same (first_event limits earlier f w) (again_event earlier f w)
  unfolding first_event again_event
  first_same earlier f v h = headed_same earlier f (head_of f) refl v h

-- So single events cover as nested ones need it.
pub leaves_cover : (limits : Limits) (earlier : Earlier) → AreDistinct earlier → LeavesCover (first_event limits earlier) (again_event earlier)
leaves_cover limits earlier distinct = record {
  first_grows = λ f u w h. (again_meets earlier distinct f u u (covers_self u.entries) w (first_same limits u earlier f w h)).grows;
  again_grows = λ f u w h. (again_meets earlier distinct f u u (covers_self u.entries) w h).grows;
  first_covers = λ f u v w covered h. (again_meets earlier distinct f v u covered w (first_same limits u earlier f w h)).fits;
  again_covers = λ f u v w covered h. (again_meets earlier distinct f v u covered w h).fits;
}
