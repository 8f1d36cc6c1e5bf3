-- Rewriting stands: what it answers has the term's value wherever the facts hold. One lemma for each definition, by
-- recursion on the levels.
use Rattle.std.proofs.Common.{◌≡◌, ℕ, zero, suc, nat_le, Bool, true, false, not, ◌&&◌, List, [], ◌∷◌, map, Option, None, Some, unwrap_or, refl, sym, ap, ◌∙◌, subst}
use Rattle.ap_list.specs.Lists.{Each, is_among}
use Rattle.ap_value.specs.declared.symbol.Symbol.{Symbol}
use Rattle.ap_value.specs.declared.value.Value.{Value}
use Rattle.ap_term.specs.declared.term.Term.{Term, Var, Quote, Call, out-Term}
use Rattle.ap_term.specs.declared.term.Term.TheOpen.{Term-F}
use Rattle.ap_term.specs.Equal.{term_eq}
use Rattle.ap_term.specs.Terms.{subst_of, term_size}
use Rattle.ap_term.proofs.Induction.{OutSays, out_says, term_ind, para_var, para_quote, para_call}
use Rattle.ap_world.specs.declared.entry.Function.{Function}
use Rattle.ap_world.specs.declared.theory.Rune.TheVariants as rune
use Rattle.ap_world.specs.Names.{if_name, not_name}
use Rattle.ap_world.specs.Clauses.{not_of}
use Rattle.ap_world.specs.Sound.{known}
use Rattle.ap_world.specs.Theories.{is_enabled}
use Rattle.ap_world.proofs.Knowing.{known_quote, known_args, each_true}
use Rattle.ap_world.proofs.TotalMeaning.{Apply, Models, models, val}
use Rattle.ap_value.proofs.Equals.{both as both_true}
use Rattle.ap_kernel.specs.declared.objects.Mode.{Mode}
use Rattle.ap_kernel.specs.declared.objects.Mode.TheVariants.{Equal, Iff}
use Rattle.ap_world.specs.Facts.{KnownFacts}
use Rattle.ap_world.specs.Shapes.{Shape, constant, choice, negation, equation, pair, other, Head, if_head, not_head, equal_head, cons_head, head_of, call_shape, shape_of}
use Rattle.ap_world.specs.Assume.{assume}
use Rattle.ap_kernel.specs.Answers.{if_of}
use Rattle.ap_kernel.specs.Equations.{equation_leads}
use Rattle.ap_kernel.specs.Opening.{body_at, is_quoted}
use Rattle.ap_kernel.proofs.Standing.{stand}
use Rattle.ap_world.proofs.Shaped.{Says, HeadSays, head_says, shape_says}
use Rattle.ap_world.proofs.Assumed.{assume_known}
use Rattle.ap_term.specs.Metered.{By, known as answer, mapped, first_that}
use Rattle.ap_term.specs.Matching.{Pairs, matched}
use Rattle.ap_world.specs.Rules.{Rule, is_bound_by_left}
use Rattle.ap_rewrite.specs.Settings.{Setting, Place, Inner, under, closing}
use Rattle.ap_rewrite.specs.Relieving.{relieve}
use Rattle.ap_rewrite.specs.Rewriting.{most_nodes, truth_of, constant_in, settled, negated, shaped, both, branches, rewrite_if, rewrite_not, rewrite_args, run, settle, led, equate, in_order, fits_mode, right, relieved, apply, try_rule, by_rules, Walk, walk_on, walk_shape, walk, is_recursive, open_instance, may_open, opened, tried, rewrite_call, rewrite_parts, rewrite_shape, rewrite_to}
use Rattle.ap_world.specs.Holding.{RuleHolds}
use Rattle.ap_rewrite.specs.SoundSettings.{defs_of, SoundSetting}
use Rattle.ap_rewrite.specs.Laws.{RewritingStands}
use Rattle.ap_rewrite.proofs.Yields.{Yields, When, yields_known, yields_after, yields_cond, yields_spend, yields_mapped, yields_first, yields_same, each_mapped}
use Rattle.ap_world.proofs.Instances.{match_fits}
use Rattle.ap_rewrite.proofs.Truths.{truth_says, chosen}
use Rattle.ap_rewrite.proofs.Leads.{Leads, leads_refl, leads_more, leads_same, leads_from, settled_leads, if_test, both_leads, not_leads, EachLeads, call_leads, constant_leads, run_leads, settle_leads, equation_is, rule_leads, instance_leads}
use Rattle.ap_rewrite.proofs.LinearStands.{arithmetic_stands}
use Rattle.ap_rewrite.proofs.Relieved.{Stood, Relieved, relieve_stands}

-- the parts of a known call are known
args_of : (S : Setting) (f : Symbol) (us : List Term) → known (defs_of S) (Call f us) ≡ true → Each (λ u. known (defs_of S) u ≡ true) us
args_of S f us k = each_true (known (defs_of S)) us (known_args (defs_of S) f us k)

module _ (S : Setting) (H : SoundSetting S) (A : Apply) (ms : Models (defs_of S) A) (r : Inner) (stood : Stood S H A ms r) where
  abbrev Known : Term → Type 0
  Known u = known (defs_of S) u ≡ true

  abbrev KnownAt : Place → Type 0
  KnownAt p = KnownFacts (defs_of S) p.facts

  -- what may answer a term to which this one leads
  abbrev Answers : Mode → Place → Term → By (Option Term) → Type 0
  Answers o p u g = Yields (When (Leads S H A ms o p.facts u)) g

  answered_stands : (o : Mode) (p : Place) (u v : Term) → KnownAt p → Leads S H A ms o p.facts u v → Answers o p u (λ n. mapped Some (r o p v n))
  answered_stands o p u v fk l = yields_mapped (Leads S H A ms o p.facts v) (When (Leads S H A ms o p.facts u)) Some (r o p v)
      (λ w q. leads_more S H A ms o p.facts u v w l q) (stood o p v fk l.0)

  none_stands : (o : Mode) (p : Place) (u : Term) → Answers o p u (answer None)
  none_stands o p u = yields_known (When (Leads S H A ms o p.facts u)) None tt

  both_stands : (o : Mode) (q : Place) (a b c : Term) → KnownAt q → Known a → Known b → Known c → truth_of a ≡ None
      → Yields (Leads S H A ms o q.facts (if_of a b c)) (both S r o q a b c)
  both_stands o q a b c fk ak bk ck none =
      yields_after (Leads S H A ms o (assume q.facts a true) b) (Leads S H A ms o q.facts (if_of a b c)) (r o (under q a true) b) _
      (stood o (under q a true) b (assume_known (defs_of S) q.facts a true fk ak) bk) (λ x l.
      yields_after (Leads S H A ms o (assume q.facts a false) c) (Leads S H A ms o q.facts (if_of a b c)) (r o (under q a false) c) _
      (stood o (under q a false) c (assume_known (defs_of S) q.facts a false fk ak) ck) (λ y m.
      yields_known (Leads S H A ms o q.facts (if_of a b c)) (shaped S o q.facts a x y) (both_leads S H A ms o q.facts a b c x y fk ak none l m)))

  branches_stands : (o : Mode) (p : Place) (a : Term) (x : Option Bool) (b c : Term) → truth_of a ≡ x → KnownAt p → Known a → Known b → Known c
      → Yields (Leads S H A ms o p.facts (if_of a b c)) (branches S r o p a x b c)
  branches_stands o p a (Some true) b c is fk ak bk ck = yields_same (Leads S H A ms o p.facts b) (Leads S H A ms o p.facts (if_of a b c)) (r o p b)
      (λ v l. leads_from S H A ms o p.facts (if_of a b c) b v (λ e h. chosen A true a b c e (truth_says A e a true is)) l) (stood o p b fk bk)
  branches_stands o p a (Some false) b c is fk ak bk ck = yields_same (Leads S H A ms o p.facts c) (Leads S H A ms o p.facts (if_of a b c)) (r o p c)
      (λ v l. leads_from S H A ms o p.facts (if_of a b c) c v (λ e h. chosen A false a b c e (truth_says A e a false is)) l) (stood o p c fk ck)
  branches_stands o p a None b c is fk ak bk ck = both_stands o p a b c fk ak bk ck is

  if_stands : (o : Mode) (p : Place) (a b c : Term) → KnownAt p → Known a → Known b → Known c → Yields (Leads S H A ms o p.facts (if_of a b c)) (rewrite_if S r o p a b c)
  if_stands o p a b c fk ak bk ck =
      yields_after (Leads S H A ms Iff p.facts a) (Leads S H A ms o p.facts (if_of a b c)) (r Iff p a) _ (stood Iff p a fk ak) (λ z l.
      yields_same (Leads S H A ms o p.facts (if_of z b c)) (Leads S H A ms o p.facts (if_of a b c)) (branches S r o p z (truth_of z) b c)
      (λ v m. if_test S H A ms o p.facts a b c z v l m) (branches_stands o p z (truth_of z) b c refl fk l.0 bk ck))

  not_stands : (o : Mode) (p : Place) (a : Term) → KnownAt p → Known a → Yields (Leads S H A ms o p.facts (not_of a)) (rewrite_not S r o p a)
  not_stands o p a fk ak =
      yields_after (Leads S H A ms Iff p.facts a) (Leads S H A ms o p.facts (not_of a)) (r Iff p a) _ (stood Iff p a fk ak) (λ z l.
      yields_known (Leads S H A ms o p.facts (not_of a)) (negated S o p.facts z (truth_of z)) (not_leads S H A ms o p.facts a z fk l))

  args_stand : (p : Place) (us : List Term) → KnownAt p → Each (λ u. known (defs_of S) u ≡ true) us → Yields (EachLeads S H A ms p.facts us) (rewrite_args S r p us)
  args_stand p [] fk ks = yields_known (EachLeads S H A ms p.facts []) [] tt
  args_stand p (u ∷ us) fk ks =
      yields_after (Leads S H A ms Equal p.facts u) (EachLeads S H A ms p.facts (u ∷ us)) (r Equal p u) _ (stood Equal p u fk ks.0) (λ v l.
      yields_after (EachLeads S H A ms p.facts us) (EachLeads S H A ms p.facts (u ∷ us)) (rewrite_args S r p us) _ (args_stand p us fk ks.1) (λ vs m.
      yields_known (EachLeads S H A ms p.facts (u ∷ us)) (v ∷ vs) (l, m)))

  led_stands : (o : Mode) (p : Place) (u : Term) (x : Option Term) → KnownAt p → When (Leads S H A ms o p.facts u) x → Answers o p u (led S r o p x)
  led_stands o p u None fk l = none_stands o p u
  led_stands o p u (Some v) fk l = yields_cond (When (Leads S H A ms o p.facts u)) (is_quoted v) _ _
      (λ q. yields_known (When (Leads S H A ms o p.facts u)) (Some v) l) (λ q. answered_stands o p u v fk l)

  equate_stands : (o : Mode) (p : Place) (u : Term) → KnownAt p → Known u → Answers o p u (equate S r o p u)
  equate_stands o p u fk k = led_stands o p u (equation_leads p.facts u) fk (go (equation_leads p.facts u) refl)
    where
      go : (x : Option Term) → equation_leads p.facts u ≡ x → When (Leads S H A ms o p.facts u) x
      go None q = tt
      go (Some v) q = equation_is S H A ms o p.facts u v fk k q

  right_stands : (o : Mode) (p : Place) (u v : Term) → KnownAt p → Leads S H A ms o p.facts u v → Answers o p u (right S r o p v)
  right_stands o p u v fk l = yields_cond (When (Leads S H A ms o p.facts u)) (nat_le (term_size v) most_nodes) _ _
      (λ q. answered_stands o p u v fk l) (λ q. none_stands o p u)

  relieved_stands : (o : Mode) (p : Place) (u : Term) (g : Rule) (x : Option Pairs) → KnownAt p
      → When (λ s. Leads S H A ms o p.facts u (subst_of s g.rhs)) x → Answers o p u (relieved S r o p u g x)
  relieved_stands o p u g None fk l = none_stands o p u
  relieved_stands o p u g (Some s) fk l = yields_cond (When (Leads S H A ms o p.facts u)) (in_order (not (is_bound_by_left g)) g s u) _ _
      (λ q. right_stands o p u (subst_of s g.rhs) fk l) (λ q. none_stands o p u)

  apply_stands : (o : Mode) (p : Place) (u : Term) (g : Rule) (x : Option Pairs) → KnownAt p → Known u → RuleHolds (defs_of S) g → fits_mode o g ≡ true
      → matched g.lhs u [] ≡ x → Answers o p u (apply S r o p u g x)
  apply_stands o p u g None fk k holds fits m = none_stands o p u
  apply_stands o p u g (Some s) fk k holds fits m =
      let start = match_fits (defs_of S) g.lhs u [] s k tt m in
      yields_cond (When (Leads S H A ms o p.facts u)) (in_order (is_bound_by_left g) g s u) _ _
      (λ q. yields_after (When (Relieved S H A ms p.facts g.hyps s)) (When (Leads S H A ms o p.facts u)) (relieve r p g.hyps s) (relieved S r o p u g)
      (relieve_stands S H A ms r stood p fk g.hyps s holds.hyps start.1)
      (λ x l. relieved_stands o p u g x fk (go x l)))
      (λ q. none_stands o p u)
    where
      go : (x : Option Pairs) → When (Relieved S H A ms p.facts g.hyps s) x → When (λ s. Leads S H A ms o p.facts u (subst_of s g.rhs)) x
      go None l = tt
      go (Some z) l =
          rule_leads S H A ms o p.facts u g z holds fits l.1 ((match_fits (defs_of S) g.lhs u [] s k tt m).2 z l.0) (l.2 z (λ x t e. e))

  rule_stands : (o : Mode) (p : Place) (u : Term) → KnownAt p → Known u → (g : Rule) → RuleHolds (defs_of S) g → Answers o p u (try_rule S r o p u g)
  rule_stands o p u fk k g holds = yields_cond (When (Leads S H A ms o p.facts u)) (is_enabled S.theory (rune.Rewrite g.theorem) && fits_mode o g) _ _
      (λ q. apply_stands o p u g (matched g.lhs u []) fk k holds (both_true (is_enabled S.theory (rune.Rewrite g.theorem)) (fits_mode o g) q).1 refl)
      (λ q. none_stands o p u)

  rules_stand : (o : Mode) (p : Place) (u : Term) → KnownAt p → Known u → Answers o p u (by_rules S r o p u)
  rules_stand o p u fk k = yields_first (Leads S H A ms o p.facts u) (map (try_rule S r o p u) S.rules)
      (each_mapped (RuleHolds (defs_of S)) (Answers o p u) (try_rule S r o p u) (rule_stands o p u fk k) S.rules H.rules)

  module _ (o : Mode) (p : Place) (f : Symbol) (fk : KnownAt p) where
    abbrev Walked : Term → Walk → Type 0
    Walked u w = Known u → (taken : Bool) → Answers o p u (w taken)

    on_stands : (taken : Bool) (a : Term) (x : Option Bool) (b c : Term × Walk) → truth_of a ≡ x → Known a → Known b.0 → Known c.0 → Walked b.0 b.1 → Walked c.0 c.1
        → Answers o p (if_of a b.0 c.0) (walk_on S r o p (closing f p) taken a x b c)
    on_stands taken a (Some true) b c is ak bk ck bw cw = yields_same (When (Leads S H A ms o p.facts b.0)) (When (Leads S H A ms o p.facts (if_of a b.0 c.0))) (b.1 true) go (bw bk true)
      where
        go : (x : Option Term) → When (Leads S H A ms o p.facts b.0) x → When (Leads S H A ms o p.facts (if_of a b.0 c.0)) x
        go None l = tt
        go (Some v) l = leads_from S H A ms o p.facts (if_of a b.0 c.0) b.0 v (λ e h. chosen A true a b.0 c.0 e (truth_says A e a true is)) l
    on_stands taken a (Some false) b c is ak bk ck bw cw = yields_same (When (Leads S H A ms o p.facts c.0)) (When (Leads S H A ms o p.facts (if_of a b.0 c.0))) (c.1 true) go (cw ck true)
      where
        go : (x : Option Term) → When (Leads S H A ms o p.facts c.0) x → When (Leads S H A ms o p.facts (if_of a b.0 c.0)) x
        go None l = tt
        go (Some v) l = leads_from S H A ms o p.facts (if_of a b.0 c.0) c.0 v (λ e h. chosen A false a b.0 c.0 e (truth_says A e a false is)) l
    on_stands true a None b c is ak bk ck bw cw =
        yields_mapped (Leads S H A ms o p.facts (if_of a b.0 c.0)) (When (Leads S H A ms o p.facts (if_of a b.0 c.0))) Some (both S r o (closing f p) a b.0 c.0)
        (λ v l. l) (both_stands o (closing f p) a b.0 c.0 fk ak bk ck is)
    on_stands false a None b c is ak bk ck bw cw = none_stands o p (if_of a b.0 c.0)

    -- a shape's parts are walked
    abbrev Parts : Term → Shape (Term × Walk) → Type 0
    Parts u (choice a b c) = (u ≡ if_of a.0 b.0 c.0) × Walked b.0 b.1 × Walked c.0 c.1
    Parts u y = Unit {0}

    leaf_stands : (u : Term) → Known u → Answers o p u (λ n. mapped Some (r o p u n))
    leaf_stands u k = answered_stands o p u u fk (leads_refl S H A ms o p.facts u k)

    shape_walked : (u : Term) (y : Shape (Term × Walk)) → Parts u y → Walked u (walk_shape S r o p (closing f p) u y)
    shape_walked u (choice a b c) h k taken =
        let ks = args_of S if_name (a.0 ∷ b.0 ∷ c.0 ∷ []) (subst (λ u. known (defs_of S) u ≡ true) h.0 k) in
        subst (λ v. Answers o p v (walk_shape S r o p (closing f p) u (choice a b c) taken)) (sym h.0)
        (yields_after (Leads S H A ms Iff p.facts a.0) (When (Leads S H A ms o p.facts (if_of a.0 b.0 c.0))) (r Iff p a.0) (λ z. walk_on S r o p (closing f p) taken z (truth_of z) b c)
        (stood Iff p a.0 fk ks.0)
        (λ z l. yields_same (When (Leads S H A ms o p.facts (if_of z b.0 c.0))) (When (Leads S H A ms o p.facts (if_of a.0 b.0 c.0))) (walk_on S r o p (closing f p) taken z (truth_of z) b c)
        (tested a.0 b.0 c.0 z l) (on_stands taken z (truth_of z) b c refl l.0 ks.1.0 ks.1.1.0 h.1 h.2)))
      where
        tested : (a b c z : Term) → Leads S H A ms Iff p.facts a z → (x : Option Term) → When (Leads S H A ms o p.facts (if_of z b c)) x → When (Leads S H A ms o p.facts (if_of a b c)) x
        tested a b c z l None m = tt
        tested a b c z l (Some v) m = if_test S H A ms o p.facts a b c z v l m
    shape_walked u (constant v) h k true = leaf_stands u k
    shape_walked u (constant v) h k false = none_stands o p u
    shape_walked u (negation a) h k true = leaf_stands u k
    shape_walked u (negation a) h k false = none_stands o p u
    shape_walked u (equation a b) h k true = leaf_stands u k
    shape_walked u (equation a b) h k false = none_stands o p u
    shape_walked u (pair a b) h k true = leaf_stands u k
    shape_walked u (pair a b) h k false = none_stands o p u
    shape_walked u other h k true = leaf_stands u k
    shape_walked u other h k false = none_stands o p u

    abbrev Good : Term → Type 0
    Good u = Walked u (walk S r o p (closing f p) u)

    abbrev pair_of : Term → Term × Walk
    pair_of u = (u, walk S r o p (closing f p) u)

    parts_of : (g : Symbol) (h : Head) → HeadSays g h → (ts : List Term) → Each Good ts → Parts (Call g ts) (call_shape h (map pair_of ts))
    parts_of g if_head k (a ∷ b ∷ c ∷ []) ws = (ap (λ h. Call h (a ∷ b ∷ c ∷ [])) k, ws.1.0, ws.1.1.0)
    parts_of g not_head k (a ∷ []) ws = tt
    parts_of g equal_head k (a ∷ b ∷ []) ws = tt
    parts_of g cons_head k (a ∷ b ∷ []) ws = tt
    parts_of g h k ts ws = tt

    firsts : (ts : List Term) → map (λ p. p.0) (map pair_of ts) ≡ ts
    firsts [] = refl
    firsts (t ∷ ts) = ap (λ us. t ∷ us) (firsts ts)

    walk_stands : (u : Term) → Good u
    walk_stands = term_ind Good variable quoted called
      where
        variable : (x : Symbol) → Good (Var x)
        variable x = subst (Walked (Var x)) (sym (para_var _ x)) (shape_walked (Var x) other tt)

        quoted : (v : Value) → Good (Quote v)
        quoted v = subst (Walked (Quote v)) (sym (para_quote _ v)) (shape_walked (Quote v) (constant v) tt)

        called : (g : Symbol) (ts : List Term) → Each Good ts → Good (Call g ts)
        called g ts ws =
            let y : Shape (Term × Walk) = call_shape (head_of g) (map pair_of ts) in
            subst (Walked (Call g ts)) (sym (para_call _ g ts ∙ ap (λ us. walk_shape S r o p (closing f p) (Call g us) y) (firsts ts))) (shape_walked (Call g ts) y (parts_of g (head_of g) (head_says g) ts ws))

  open_stands : (o : Mode) (p : Place) (u : Term) (f : Symbol) (g : Function) (v : Term) → KnownAt p → Leads S H A ms o p.facts u v → Answers o p u (open_instance S r o p u f g v)
  open_stands o p u f g v fk l = yields_cond (When (Leads S H A ms o p.facts u)) (not (is_recursive g)) _ _
      (λ q. answered_stands o p u v fk l)
      (λ q. yields_cond (When (Leads S H A ms o p.facts u)) (is_among term_eq u S.expand) _ _
      (λ q. answered_stands o (closing f p) u v fk l)
      (λ q. yields_same (When (Leads S H A ms o p.facts v)) (When (Leads S H A ms o p.facts u)) (walk S r o p (closing f p) v false) go (walk_stands o p f fk v l.0 false)))
    where
      go : (x : Option Term) → When (Leads S H A ms o p.facts v) x → When (Leads S H A ms o p.facts u) x
      go None m = tt
      go (Some w) m = leads_more S H A ms o p.facts u v w l m

  opened_stands : (o : Mode) (p : Place) (f : Symbol) (us : List Term) (x : Option Function) → KnownAt p → Known (Call f us) → S.functions f ≡ x → Answers o p (Call f us) (opened S r o p (Call f us) f us x)
  opened_stands o p f us None fk k is = none_stands o p (Call f us)
  opened_stands o p f us (Some g) fk k is = yields_cond (When (Leads S H A ms o p.facts (Call f us))) (may_open S p f (body_at g us)) _ _
      (λ q. open_stands o p (Call f us) f g (body_at g us) fk (instance_leads S H A ms o p.facts f us g fk k is))
      (λ q. none_stands o p (Call f us))

  tried_stand : (o : Mode) (p : Place) (f : Symbol) (us : List Term) → KnownAt p → Known (Call f us) → Each (Answers o p (Call f us)) (tried S r o p f us)
  tried_stand o p f us fk k = (
    yields_known (When (Leads S H A ms o p.facts (Call f us))) (run S o f us) (run_leads S H A ms o p.facts f us fk k),
    (
      yields_known (When (Leads S H A ms o p.facts (Call f us))) (settle S o p (Call f us)) (settle_leads S H A ms o p (Call f us) fk k),
      (
        equate_stands o p (Call f us) fk k,
        (
          arithmetic_stands S H A ms r stood p fk o f us k,
          (
            rules_stand o p (Call f us) fk k,
            (
              opened_stands o p f us (S.functions f) fk k refl,
              tt,
            ),
          ),
        ),
      ),
    ),
  )

  call_stands : (o : Mode) (p : Place) (f : Symbol) (us : List Term) → KnownAt p → Known (Call f us) → Yields (Leads S H A ms o p.facts (Call f us)) (rewrite_call S r o p f us)
  call_stands o p f us fk k =
      yields_after (EachLeads S H A ms p.facts us) (Leads S H A ms o p.facts (Call f us)) (rewrite_args S r p us) _ (args_stand p us fk (args_of S f us k)) (λ vs l.
      yields_mapped (When (Leads S H A ms o p.facts (Call f vs))) (Leads S H A ms o p.facts (Call f us)) (λ v. unwrap_or v (Call f vs)) (first_that (tried S r o p f vs))
      (go vs (call_leads S H A ms o p.facts f us vs k l))
      (yields_first (Leads S H A ms o p.facts (Call f vs)) (tried S r o p f vs) (tried_stand o p f vs fk (call_leads S H A ms o p.facts f us vs k l).0)))
    where
      go : (vs : List Term) → Leads S H A ms o p.facts (Call f us) (Call f vs) → (x : Option Term) → When (Leads S H A ms o p.facts (Call f vs)) x
          → Leads S H A ms o p.facts (Call f us) (unwrap_or x (Call f vs))
      go vs l None m = l
      go vs l (Some w) m = leads_more S H A ms o p.facts (Call f us) (Call f vs) w l m

  parts_stand : (o : Mode) (p : Place) (u : Term) (y : Term-F Term) → OutSays u y → KnownAt p → Known u → Yields (Leads S H A ms o p.facts u) (rewrite_parts S r o p u y)
  parts_stand o p u (Term-F.Var x) is fk k = yields_known (Leads S H A ms o p.facts u) (settled S o p.facts u) (settled_leads S H A ms o p.facts u fk k)
  parts_stand o p u (Term-F.Quote v) is fk k = yields_known (Leads S H A ms o p.facts u) (constant_in o v)
      (constant_leads S H A ms o p.facts u v (leads_same S H A ms Equal p.facts u (Quote v) (known_quote (defs_of S) v) (λ e h. ap (λ u. val A u e) is)))
  parts_stand o p u (Term-F.Call f us) is fk k =
      subst (λ w. Yields (Leads S H A ms o p.facts w) (rewrite_call S r o p f us)) (sym is) (call_stands o p f us fk (subst (λ u. known (defs_of S) u ≡ true) is k))

  shape_stands : (o : Mode) (p : Place) (u : Term) (y : Shape Term) → Says u y → KnownAt p → Known u → Yields (Leads S H A ms o p.facts u) (rewrite_shape S r o p u y)
  shape_stands o p u (choice a b c) is fk k =
      let ks = args_of S if_name (a ∷ b ∷ c ∷ []) (subst (λ u. known (defs_of S) u ≡ true) is k) in
      subst (λ w. Yields (Leads S H A ms o p.facts w) (rewrite_if S r o p a b c)) (sym is) (if_stands o p a b c fk ks.0 ks.1.0 ks.1.1.0)
  shape_stands o p u (negation a) is fk k =
      let ks = args_of S not_name (a ∷ []) (subst (λ u. known (defs_of S) u ≡ true) is k) in
      subst (λ w. Yields (Leads S H A ms o p.facts w) (rewrite_not S r o p a)) (sym is) (not_stands o p a fk ks.0)
  shape_stands o p u (constant v) is fk k = parts_stand o p u (out-Term u) (out_says u) fk k
  shape_stands o p u (equation a b) is fk k = parts_stand o p u (out-Term u) (out_says u) fk k
  shape_stands o p u (pair a b) is fk k = parts_stand o p u (out-Term u) (out_says u) fk k
  shape_stands o p u other is fk k = parts_stand o p u (out-Term u) (out_says u) fk k

-- by recursion on the levels
pub levels_stand : (S : Setting) (H : SoundSetting S) (A : Apply) (ms : Models (defs_of S) A) (d : ℕ) → Stood S H A ms (rewrite_to S d)
unfolding rewrite_to
levels_stand S H A ms zero o p u fk k = yields_spend (Leads S H A ms o p.facts u) _ (yields_known (Leads S H A ms o p.facts u) u (leads_refl S H A ms o p.facts u k))
levels_stand S H A ms (suc d) o p u fk k = yields_spend (Leads S H A ms o p.facts u) _
    (shape_stands S H A ms (rewrite_to S d) (levels_stand S H A ms d) o p u (shape_of u) (shape_says u) fk k)

pub rewriting_stands : RewritingStands
rewriting_stands S H d o p u n v m fk k h =
    let (A, ms) = models (defs_of S) H.sound.total in
    let l = levels_stand S H A ms d o p u fk k n v m h in
    stand (defs_of S) A ms (record { ctx = record { 0 = p.facts }; mode = o; lhs = u; rhs = v }) fk k l.0 l.1
