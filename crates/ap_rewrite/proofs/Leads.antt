-- A term leads to another: that is known, and has the same value wherever the facts hold. What each definition gives
-- that goes no level down.
use Rattle.std.proofs.Common.{◌≡◌, ◌≢◌, ℕ, suc, Bool, true, false, cond, not, ◌&&◌, List, [], ◌∷◌, length, Option, None, Some, unwrap_or, pos, nat_eq, bit_and, refl, sym, ap, ◌∙◌, subst}
use Rattle.std.specs.Option.{option_map}
use Rattle.ap_list.specs.Lists.{Each}
use Rattle.ap_value.specs.declared.symbol.Symbol.{Symbol}
use Rattle.ap_value.specs.declared.value.Value.{Value}
use Rattle.ap_value.specs.Values.{V, int, val_of, value_eq}
use Rattle.ap_value.proofs.Equals.{both, value_eq-same}
use Rattle.ap_term.specs.declared.term.Term.{Term, Quote, Call}
use Rattle.ap_term.specs.declared.term.Term.TheVariants.{outs-Call}
use Rattle.ap_term.specs.Equal.{term_eq}
use Rattle.ap_term.specs.Terms.{subst_of}
use Rattle.ap_world.specs.declared.entry.Function.{Function}
use Rattle.ap_world.specs.declared.entry.Mask.{Mask}
use Rattle.ap_world.specs.declared.theory.Rune.TheVariants as rune
use Rattle.ap_world.specs.Names.{not_name}
use Rattle.ap_world.specs.Primitives.{nil, t, truth, prim_of}
use Rattle.ap_world.specs.Meaning.{Env}
use Rattle.ap_world.specs.Types.{Has}
use Rattle.ap_world.specs.Clauses.{not_of}
use Rattle.ap_world.specs.Sound.{known, is_head}
use Rattle.ap_world.specs.Recursion.{nil_constant, t_constant}
use Rattle.ap_world.specs.Ground.{zero_constant}
use Rattle.ap_world.specs.Theories.{is_enabled}
use Rattle.ap_world.specs.Facts.{Facts, KnownFacts, FactsHold}
use Rattle.ap_world.specs.Shapes.{Shape, negation, shape_of}
use Rattle.ap_world.specs.Assume.{assume}
use Rattle.ap_world.proofs.Knowing.{known_quote, known_head, known_args, known_by, each_true, true_each, each_same}
use Rattle.ap_world.proofs.TotalMeaning.{Apply, Models, head_val, val, values_of, val_is, val_quote, val_call}
use Rattle.ap_world.proofs.Equations.{nil-eq, eq-not_nil, t_isnt_nil, val_t_constant, val_of_nil, val_of_t, val_of_int, val_if}
use Rattle.ap_world.proofs.RulesStand.{rule_same}
use Rattle.ap_world.proofs.Starting.{val_not}
use Rattle.ap_world.proofs.Shaped.{Says, shape_says}
use Rattle.ap_world.proofs.Assumed.{Signed, assume_holds}
use Rattle.ap_poly.specs.Bounds.{lacks}
use Rattle.ap_kernel.specs.declared.objects.Mode.{Mode}
use Rattle.ap_kernel.specs.declared.objects.Mode.TheVariants.{Equal, Iff}
use Rattle.ap_kernel.specs.declared.objects.Sequent.{Sequent}
use Rattle.ap_kernel.specs.Standing.{Same, Holds}
use Rattle.ap_kernel.specs.Masks.{MaskHolds, types_of_others}
use Rattle.ap_kernel.specs.Answers.{if_of}
use Rattle.ap_kernel.specs.Choices.{bare, test_by, bare_test, is_truth, choice_leads, is_choice, choice_made}
use Rattle.ap_kernel.specs.Equations.{truth_constant, equation_leads, equation_made}
use Rattle.ap_kernel.specs.Opening.{body_at, is_constant_call}
use Rattle.ap_kernel.proofs.Standing.{same_refl, same_trans, same_iff, same_of, agree}
use Rattle.ap_kernel.proofs.CallsStand.{nil_test, known_if}
use Rattle.ap_kernel.proofs.Typed.{only_says, lacks_says}
use Rattle.ap_kernel.proofs.EquationsStand.{val_truth_constant, equation_stands}
use Rattle.ap_kernel.proofs.ChoicesStand.{bare_known, known_not, choice_stands, not_nil, truth_same}
use Rattle.ap_kernel.proofs.OpeningStands.{open_stands, fold_stands}
use Rattle.ap_world.proofs.Instances.{known_subst}
use Rattle.ap_world.specs.Rules.{Rule}
use Rattle.ap_term.specs.Matching.{Pairs}
use Rattle.ap_rewrite.specs.Settings.{Setting, Place}
use Rattle.ap_rewrite.specs.Rewriting.{truth_of, constant_in, is_iff, settled, shaped, unwrapped, negated, run, settle, fits_mode}
use Rattle.ap_world.specs.Holding.{KnownPairs, AgreeUnder, RuleHolds}
use Rattle.ap_rewrite.specs.SoundSettings.{defs_of, SoundSetting}
use Rattle.ap_rewrite.proofs.Yields.{When}
use Rattle.ap_rewrite.proofs.Truths.{others_nil, others_t, others_zero, shape_if, truth_says, no_constant}

module _ (S : Setting) (H : SoundSetting S) (A : Apply) (ms : Models (defs_of S) A) where
  abbrev pub Leads : Mode → Facts → Term → Term → Type 0
  Leads o fs u v = (known (defs_of S) v ≡ true) × ((e : Env) → FactsHold (defs_of S) e fs → Same o (val A u e) (val A v e))

  -- the same where the term leads as it stands, in two steps, or is of one value
  pub leads_refl : (o : Mode) (fs : Facts) (u : Term) → known (defs_of S) u ≡ true → Leads o fs u u
  leads_refl o fs u k = (k, λ e h. same_refl o (val A u e))

  pub leads_more : (o : Mode) (fs : Facts) (u v w : Term) → Leads o fs u v → Leads o fs v w → Leads o fs u w
  leads_more o fs u v w p q = (q.0, λ e h. same_trans o (val A u e) (val A v e) (val A w e) (p.1 e h) (q.1 e h))

  pub leads_same : (o : Mode) (fs : Facts) (u v : Term) → known (defs_of S) v ≡ true → ((e : Env) → FactsHold (defs_of S) e fs → val A u e ≡ val A v e) → Leads o fs u v
  leads_same o fs u v k s = (k, λ e h. same_of o (val A u e) (val A v e) (s e h))

  pub leads_from : (o : Mode) (fs : Facts) (u v w : Term) → ((e : Env) → FactsHold (defs_of S) e fs → val A u e ≡ val A v e) → Leads o fs v w → Leads o fs u w
  leads_from o fs u v w s q = (q.0, λ e h. subst (λ x. Same o x (val A w e)) (sym (s e h)) (q.1 e h))

  of_holds : (q : Sequent) → Holds (defs_of S) q → Leads q.mode q.ctx.0 q.lhs q.rhs
  of_holds q s = (s.right, agree (defs_of S) A ms q s)

  -- an equation that holds serves under either mode
  by_equation : (o : Mode) (fs : Facts) (u v : Term) → Holds (defs_of S) (equation_made (record { 0 = fs }) u v) → Leads o fs u v
  by_equation o fs u v s = let q = of_holds (equation_made (record { 0 = fs }) u v) s in leads_same o fs u v q.0 q.1

  -- what its mask settles
  has : (fs : Facts) (u : Term) → KnownFacts (defs_of S) fs → known (defs_of S) u ≡ true → (e : Env) → FactsHold (defs_of S) e fs → Has (record { 0 = S.types fs u }) (val A u e)
  has fs u fk k e h = H.types fs u fk k e h (val A u e) (val_is (defs_of S) A ms u k e)

  pub settled_leads : (o : Mode) (fs : Facts) (u : Term) → KnownFacts (defs_of S) fs → known (defs_of S) u ≡ true → Leads o fs u (settled S o fs u)
  settled_leads o fs u fk k =
      go (is_iff o && lacks (S.types fs u) 8) refl (lacks (S.types fs u) 1015) refl (lacks (S.types fs u) 1007) refl (lacks (S.types fs u) 1022) refl
    where
      only : (c : Value) (x : V) → val_of c ≡ x → (n : ℕ) → types_of_others x ≡ n → lacks (S.types fs u) n ≡ true → Leads o fs u (Quote c)
      only c x p n q l = leads_same o fs u (Quote c) (known_quote (defs_of S) c)
          (λ e h. only_says (record { 0 = S.types fs u }) x (val A u e) (subst (λ j. nat_eq (bit_and (S.types fs u) j) 0 ≡ true) (sym q) l) (has fs u fk k e h) ∙ sym (val_quote A c e ∙ p))

      some : (o : Mode) → (is_iff o && lacks (S.types fs u) 8) ≡ true → Leads o fs u t_constant
      some Equal p = cc
      some Iff p = (
        known_quote (defs_of S) _,
        λ e h.
            (λ z. absurd (lacks_says (record { 0 = S.types fs u }) (val A u e) p (has fs u fk k e h) z), λ z. absurd (t_isnt_nil (sym (val_t_constant A e) ∙ z))),
      )

      go : (a : Bool) → (is_iff o && lacks (S.types fs u) 8) ≡ a → (b : Bool) → lacks (S.types fs u) 1015 ≡ b → (c : Bool) → lacks (S.types fs u) 1007 ≡ c → (d : Bool) → lacks (S.types fs u) 1022 ≡ d
          → Leads o fs u (unwrap_or (cond a (Some t_constant) (cond b (Some nil_constant) (cond c (Some t_constant) (cond d (Some zero_constant) None)))) u)
      go true p b q c r d s = some o p
      go false p true q c r d s = only _ nil val_of_nil 1015 others_nil q
      go false p false q true r d s = only _ t val_of_t 1007 others_t r
      go false p false q false r true s = only _ (int (pos 0)) (val_of_int (pos 0)) 1022 others_zero s
      go false p false q false r false s = leads_refl o fs u k

  -- an `if` by its test, and by both its branches
  pub if_test : (o : Mode) (fs : Facts) (a b c z v : Term) → Leads Iff fs a z → Leads o fs (if_of z b c) v → Leads o fs (if_of a b c) v
  if_test o fs a b c z v p q = leads_from o fs (if_of a b c) (if_of z b c) v
      (λ e h. val_if A a b c e ∙ ap (λ x. cond x (val A c e) (val A b e)) (nil_test (val A a e) (val A z e) (p.1 e h)) ∙ sym (val_if A z b c e)) q

  pub shaped_leads : (o : Mode) (fs : Facts) (a b c : Term) → KnownFacts (defs_of S) fs → known (defs_of S) a ≡ true → known (defs_of S) b ≡ true → known (defs_of S) c ≡ true
      → truth_of a ≡ None → Leads o fs (if_of a b c) (shaped S o fs a b c)
  shaped_leads o fs a b c fk ak bk ck none =
      let mask : Mask = record { 0 = S.types fs (bare a).0 } in
      let is : is_choice (shape_of (if_of a b c)) ≡ true = rw (shape_if a b c) refl in
      let holds : MaskHolds (defs_of S) fs (bare_test (if_of a b c)) mask =
      subst (λ y. MaskHolds (defs_of S) fs (test_by (if_of a b c) y) mask) (sym (shape_if a b c)) (H.types fs (bare a).0 fk (bare_known (defs_of S) a ak)) in
      let s = choice_stands (defs_of S) H.sound.total H.ground (record { 0 = fs }) o (if_of a b c) mask fk (known_if (defs_of S) a b c ak bk ck) is holds in
      subst (Leads o fs (if_of a b c))
      (ap (choice_leads (is_truth o mask) (if_of a b c)) (shape_if a b c) ∙ no_constant (is_truth o mask) (shape_of a) a b c none)
      (of_holds (choice_made (record { 0 = fs }) o (if_of a b c) mask) s)

  pub both_leads : (o : Mode) (fs : Facts) (a b c x y : Term) → KnownFacts (defs_of S) fs → known (defs_of S) a ≡ true → truth_of a ≡ None
      → Leads o (assume fs a true) b x → Leads o (assume fs a false) c y → Leads o fs (if_of a b c) (shaped S o fs a x y)
  both_leads o fs a b c x y fk ak none p q =
      leads_more o fs (if_of a b c) (if_of a x y) (shaped S o fs a x y) (known_if (defs_of S) a x y ak p.0 q.0, λ e h. parts e h) (shaped_leads o fs a x y fk ak p.0 q.0 none)
    where
      parts : (e : Env) → FactsHold (defs_of S) e fs → Same o (val A (if_of a b c) e) (val A (if_of a x y) e)
      parts e h = rw (val_if A a b c e, val_if A a x y e) (go (value_eq (val A a e) nil) refl)
        where
          go : (k : Bool) → value_eq (val A a e) nil ≡ k → Same o (cond k (val A c e) (val A b e)) (cond k (val A y e) (val A x e))
          go true z = q.1 e (assume_holds (defs_of S) A ms H.ground e fs a false ak h (nil-eq (val A a e) z))
          go false z = p.1 e (assume_holds (defs_of S) A ms H.ground e fs a true ak h (eq-not_nil (val A a e) z))

  -- a negation
  pub not_leads : (o : Mode) (fs : Facts) (a z : Term) → KnownFacts (defs_of S) fs → Leads Iff fs a z → Leads o fs (not_of a) (negated S o fs z (truth_of z))
  not_leads o fs a z fk p = leads_from o fs (not_of a) (not_of z) (negated S o fs z (truth_of z))
      (λ e h. val_not (defs_of S) A ms H.ground a e ∙ ap truth (nil_test (val A a e) (val A z e) (p.1 e h)) ∙ sym (val_not (defs_of S) A ms H.ground z e))
      (by_truth (truth_of z) refl)
    where
      tested : (b : Bool) (v : V) → Signed b v → value_eq v nil ≡ not b
      tested true v h = go (value_eq v nil) refl
        where
          go : (x : Bool) → value_eq v nil ≡ x → x ≡ false
          go true q = absurd (h (nil-eq v q))
          go false q = refl
      tested false v h = ap (λ x. value_eq x nil) h ∙ value_eq-same nil

      truth_known : (b : Bool) → known (defs_of S) (truth_constant b) ≡ true
      truth_known true = known_quote (defs_of S) _
      truth_known false = known_quote (defs_of S) _

      turned : (x : Bool) → truth (not x) ≡ cond x nil t
      turned true = refl
      turned false = refl

      by_shape : (y : Shape Term) → Says z y → Leads o fs (not_of z) (unwrapped S o fs z y)
      by_shape (negation w) q = go (is_truth o (record { 0 = S.types fs w })) refl
        where
          w_known : known (defs_of S) w ≡ true
          w_known = (each_true (known (defs_of S)) (w ∷ []) (known_args (defs_of S) not_name (w ∷ []) (subst (λ u. known (defs_of S) u ≡ true) q p.0))).0

          go : (b : Bool) → is_truth o (record { 0 = S.types fs w }) ≡ b → Leads o fs (not_of z) (cond b w (not_of z))
          go true r = (
            w_known,
            λ e h.
                let twice : val A (not_of z) e ≡ cond (value_eq (val A w e) nil) nil t =
                val_not (defs_of S) A ms H.ground z e ∙ ap (λ u. truth (value_eq (val A u e) nil)) q ∙ ap (λ v. truth (value_eq v nil)) (val_not (defs_of S) A ms H.ground w e)
                ∙ ap truth (not_nil (value_eq (val A w e) nil)) ∙ turned (value_eq (val A w e) nil) in
                subst (λ x. Same o x (val A w e)) (sym twice) (truth_same o (record { 0 = S.types fs w }) (val A w e) r (has fs w fk w_known e h)),
          )
          go false r = leads_refl o fs (not_of z) (known_not (defs_of S) H.ground z p.0)
      by_shape y q = leads_refl o fs (not_of z) (known_not (defs_of S) H.ground z p.0)

      by_truth : (x : Option Bool) → truth_of z ≡ x → Leads o fs (not_of z) (negated S o fs z x)
      by_truth (Some b) q = leads_same o fs (not_of z) (truth_constant (not b)) (truth_known (not b))
          (λ e h. val_not (defs_of S) A ms H.ground z e ∙ ap truth (tested b (val A z e) (truth_says A e z b q)) ∙ sym (val_truth_constant A (not b) e))
      by_truth None q = by_shape (shape_of z) (shape_says z)

  -- a call by its arguments
  abbrev pub EachLeads : Facts → List Term → List Term → Type 0
  EachLeads fs [] [] = Unit {0}
  EachLeads fs (u ∷ us) (v ∷ vs) = Leads Equal fs u v × EachLeads fs us vs
  EachLeads fs us vs = ⊥

  args_known : (fs : Facts) (us vs : List Term) → EachLeads fs us vs → Each (λ u. known (defs_of S) u ≡ true) vs
  args_known fs [] [] h = tt
  args_known fs (u ∷ us) (v ∷ vs) h = (h.0.0, args_known fs us vs h.1)
  args_known fs [] (v ∷ vs) h = absurd h
  args_known fs (u ∷ us) [] h = absurd h

  args_length : (fs : Facts) (us vs : List Term) → EachLeads fs us vs → length vs ≡ length us
  args_length fs [] [] h = refl
  args_length fs (u ∷ us) (v ∷ vs) h = ap suc (args_length fs us vs h.1)
  args_length fs [] (v ∷ vs) h = absurd h
  args_length fs (u ∷ us) [] h = absurd h

  args_values : (fs : Facts) (us vs : List Term) → EachLeads fs us vs → (e : Env) → FactsHold (defs_of S) e fs → values_of A us e ≡ values_of A vs e
  args_values fs [] [] h e k = refl
  args_values fs (u ∷ us) (v ∷ vs) h e k = ap (λ x. x ∷ values_of A us e) (h.0.1 e k) ∙ ap (λ xs. val A v e ∷ xs) (args_values fs us vs h.1 e k)
  args_values fs [] (v ∷ vs) h e k = absurd h
  args_values fs (u ∷ us) [] h e k = absurd h

  pub call_leads : (o : Mode) (fs : Facts) (f : Symbol) (us vs : List Term) → known (defs_of S) (Call f us) ≡ true → EachLeads fs us vs → Leads o fs (Call f us) (Call f vs)
  call_leads o fs f us vs k h =
      let head : is_head (defs_of S) f (prim_of f) (length vs) ≡ true = rw (args_length fs us vs h) (known_head (defs_of S) f us k) in
      leads_same o fs (Call f us) (Call f vs)
      (known_by (defs_of S) f vs head (true_each (known (defs_of S)) vs (args_known fs us vs h)))
      (λ e z. val_call A f us e ∙ ap (head_val A f (prim_of f)) (args_values fs us vs h e z) ∙ sym (val_call A f vs e))

  -- a constant, and a call of constants
  pub constant_leads : (o : Mode) (fs : Facts) (u : Term) (v : Value) → Leads Equal fs u (Quote v) → Leads o fs u (constant_in o v)
  constant_leads Equal fs u v l = l
  constant_leads Iff fs u v l = go (value_eq (val_of v) nil) refl
    where
      go : (b : Bool) → value_eq (val_of v) nil ≡ b → Leads Iff fs u (cond b (Quote v) t_constant)
      go true q = leads_same Iff fs u (Quote v) l.0 l.1
      go false q = (
        known_quote (defs_of S) _,
        λ e h.
            (λ z. absurd (eq-not_nil (val_of v) q (sym (l.1 e h ∙ val_quote A v e) ∙ z)), λ z. absurd (t_isnt_nil (sym (val_t_constant A e) ∙ z))),
      )

  pub run_leads : (o : Mode) (fs : Facts) (f : Symbol) (us : List Term) → KnownFacts (defs_of S) fs → known (defs_of S) (Call f us) ≡ true → When (Leads o fs (Call f us)) (run S o f us)
  run_leads o fs f us fk k = go (is_constant_call (Call f us) && is_enabled S.theory (rune.Executable f)) refl (S.value (Call f us)) refl
    where
      go : (b : Bool) → (is_constant_call (Call f us) && is_enabled S.theory (rune.Executable f)) ≡ b → (x : Option Value) → S.value (Call f us) ≡ x
          → When (Leads o fs (Call f us)) (cond b (option_map (constant_in o) x) None)
      go true q (Some v) p = constant_leads o fs (Call f us) v
          (by_equation Equal fs (Call f us) (Quote v)
          (fold_stands (defs_of S) H.sound.total (record { 0 = fs }) (Call f us) v fk k (both (is_constant_call (Call f us)) (is_enabled S.theory (rune.Executable f)) q).0 (H.value (Call f us) v k p)))
      go true q None p = tt
      go false q x p = tt

  pub settle_leads : (o : Mode) (p : Place) (u : Term) → KnownFacts (defs_of S) p.facts → known (defs_of S) u ≡ true → When (Leads o p.facts u) (settle S o p u)
  settle_leads o p u fk k = go (term_eq u (settled S o p.facts u))
    where
      go : (b : Bool) → When (Leads o p.facts u) (cond b None (Some (settled S o p.facts u)))
      go true = tt
      go false = settled_leads o p.facts u fk k

  pub equation_is : (o : Mode) (fs : Facts) (u v : Term) → KnownFacts (defs_of S) fs → known (defs_of S) u ≡ true → equation_leads fs u ≡ Some v → Leads o fs u v
  equation_is o fs u v fk k h = by_equation o fs u v (equation_stands (defs_of S) H.sound.total (record { 0 = fs }) u v fk k h)

  -- a rule's instance, its hypotheses' instances being other than nil
  abbrev pub HypHolds : Facts → Pairs → Term → Type 0
  HypHolds fs s h = (e : Env) → FactsHold (defs_of S) e fs → val A (subst_of s h) e ≢ nil

  by_mode : (o : Mode) (g : Rule) (v w : V) → fits_mode o g ≡ true → AgreeUnder g.iff v w → Same o v w
  by_mode Equal g v w h s = go g.iff h s
    where
      go : (b : Bool) → not b ≡ true → AgreeUnder b v w → v ≡ w
      go true h s = cc
      go false h s = s
  by_mode Iff g v w h s = go g.iff s
    where
      go : (b : Bool) → AgreeUnder b v w → Same Iff v w
      go true s = s
      go false s = same_iff v w s

  pub rule_leads : (o : Mode) (fs : Facts) (u : Term) (g : Rule) (s : Pairs) → RuleHolds (defs_of S) g → fits_mode o g ≡ true → KnownPairs (defs_of S) s
      → subst_of s g.lhs ≡ u → Each (HypHolds fs s) g.hyps → Leads o fs u (subst_of s g.rhs)
  rule_leads o fs u g s holds fits ks is hs = (
    known_subst (defs_of S) s ks g.rhs holds.right,
    λ e h.
        subst (λ w. Same o (val A w e) (val A (subst_of s g.rhs) e)) is
        (by_mode o g (val A (subst_of s g.lhs) e) (val A (subst_of s g.rhs) e) fits (rule_same (defs_of S) A ms g holds s e (each_same g.hyps (λ t k. k e h) hs))),
  )

  -- a call of a defined function leads to its body's instance
  pub instance_leads : (o : Mode) (fs : Facts) (f : Symbol) (us : List Term) (g : Function) → KnownFacts (defs_of S) fs → known (defs_of S) (Call f us) ≡ true → S.functions f ≡ Some g
      → Leads o fs (Call f us) (body_at g us)
  instance_leads o fs f us g fk k here = by_equation o fs (Call f us) (body_at g us)
      (open_stands S.world.entries H.sound H.names (record { 0 = fs }) (Call f us) (body_at g us) fk k (rw (outs-Call f us, H.functions f g here) refl))
