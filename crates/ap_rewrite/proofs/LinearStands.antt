-- What linear arithmetic decides within rewriting stands.
use Rattle.std.proofs.Common.{◌≡◌, ℕ, ℤ, pos, negsuc, int_lt, nat_le, nat_eq, bit_and, Bool, true, false, cond, not, List, [], ◌∷◌, ◌++◌, length, take, Option, None, Some, refl, sym, ap, ◌∙◌, subst, true≢false, ltb-false, eqb-true, arith, ◌≤◌}
use Rattle.std.specs.Int.{bit_at}
use Rattle.ap_list.specs.Lists.{Each}
use Rattle.ap_value.specs.declared.symbol.Symbol.{Symbol}
use Rattle.ap_value.specs.Values.{V, int, chr, str, sym as symbol, cons, value_eq}
use Rattle.ap_value.proofs.Equals.{both, value_eq-same}
use Rattle.ap_term.specs.declared.term.Term.{Term, Call}
use Rattle.ap_term.specs.Terms.{subst_of}
use Rattle.ap_world.specs.declared.entry.Mask.{Mask}
use Rattle.ap_world.specs.declared.primitive.Primitive.{Primitive as Prim}
use Rattle.ap_world.specs.declared.primitive.Primitive.TheVariants as prim
use Rattle.ap_world.specs.Names.{less_name}
use Rattle.ap_world.specs.Primitives.{nil, t, truth, prim_of, int_of}
use Rattle.ap_world.specs.Meaning.{Env, IsHeld, FactHolds}
use Rattle.ap_world.specs.Types.{is_true_list, type_of, Has}
use Rattle.ap_world.specs.Sound.{known}
use Rattle.ap_world.proofs.Knowing.{known_quote, known_args, known_by, each_true, true_each}
use Rattle.ap_world.proofs.TotalMeaning.{Apply, Models, val, val_is, val_subst, replaced}
use Rattle.ap_world.proofs.Equations.{t_isnt_nil, val_prim, val_less, prim_of_less}
use Rattle.ap_kernel.specs.declared.objects.Mode.{Mode}
use Rattle.ap_world.specs.Facts.{Facts, KnownFacts, FactsHold}
use Rattle.ap_kernel.specs.Equations.{truth_constant}
use Rattle.ap_kernel.specs.Linear.{less_of}
use Rattle.ap_world.proofs.Assumed.{Signed, fact_of, fact_says}
use Rattle.ap_kernel.proofs.Reduced.{each_append, each_take}
use Rattle.ap_kernel.proofs.EquationsStand.{val_truth_constant}
use Rattle.ap_world.proofs.Sets.{apart}
use Rattle.ap_term.specs.Metered.{By, after}
use Rattle.ap_term.specs.Matching.{Pairs, matched}
use Rattle.ap_rewrite.specs.Settings.{Setting, Place, Inner}
use Rattle.ap_rewrite.specs.Relieving.{relieve}
use Rattle.ap_poly.specs.Polynomials.{Polynomial}
use Rattle.ap_poly.specs.Holding.{PolyHolds}
use Rattle.ap_poly.specs.Bounds.{PolyKnown}
use Rattle.ap_rules.specs.declared.linear.LinearRule.{LinearRule}
use Rattle.ap_rules.specs.Linear.{LinearHolds}
use Rattle.ap_rewrite.specs.Linear.{most_polys, of_facts, bounds, given, with_instance, at_match, at_atoms, with_rules, refuted, or_refuted, then_refuted, by_less, if_refuted, by_equal, are_integers, by_pair, by_arithmetic}
use Rattle.ap_rewrite.specs.SoundSettings.{defs_of, SoundSetting}
use Rattle.ap_rewrite.proofs.Yields.{Yields, When, yields_known, yields_after, yields_cond, yields_same}
use Rattle.ap_world.proofs.Instances.{known_subst, match_fits}
use Rattle.ap_world.specs.Holding.{KnownPairs}
use Rattle.ap_rewrite.proofs.Leads.{Leads, leads_same, HypHolds}
use Rattle.ap_rewrite.proofs.Relieved.{Stood, Relieved, relieve_stands}

-- integers of which none is less
squeezed : (a b : ℕ) → b ≤ a → a ≤ b → a ≡ b
squeezed a b h k = omega arith

neither : (x y : ℤ) → int_lt x y ≡ false → int_lt y x ≡ false → x ≡ y
neither (pos a) (pos b) p q = ap pos (squeezed a b (ltb-false a b p) (ltb-false b a q))
neither (pos a) (negsuc b) p q = absurd (true≢false q)
neither (negsuc a) (pos b) p q = absurd (true≢false p)
neither (negsuc a) (negsuc b) p q = ap negsuc (squeezed a b (ltb-false a b q) (ltb-false b a p))

-- a value within a mask that has integers alone
an_integer : (k : Mask) (v : V) → nat_eq (bit_and k.0 1016) 0 ≡ true → Has k v → v ≡ int (int_of v)
an_integer k (int n) h has = refl
an_integer k (chr c) h has = absurd (apart k.0 1016 9 (eqb-true (bit_and k.0 1016) 0 h) has refl)
an_integer k (str s) h has = absurd (apart k.0 1016 8 (eqb-true (bit_and k.0 1016) 0 h) has refl)
an_integer k (cons a b) h has = absurd (apart k.0 1016 (type_of (cons a b)) (eqb-true (bit_and k.0 1016) 0 h) has (go (is_true_list b)))
  where
    go : (x : Bool) → bit_at 1016 (cond x 6 7) ≡ 1
    go true = refl
    go false = refl
an_integer k (symbol j s) h has = absurd (apart k.0 1016 (type_of (symbol j s)) (eqb-true (bit_and k.0 1016) 0 h) has (go (value_eq (symbol j s) nil) (value_eq (symbol j s) t)))
  where
    go : (x y : Bool) → bit_at 1016 (cond x 3 (cond y 4 5)) ≡ 1
    go true y = refl
    go false true = refl
    go false false = refl

module _ (S : Setting) (H : SoundSetting S) (A : Apply) (ms : Models (defs_of S) A) (r : Inner) (stood : Stood S H A ms r)
    (p : Place) (fk : KnownFacts (defs_of S) p.facts) where
  abbrev Known : Term → Type 0
  Known u = known (defs_of S) u ≡ true

  of_facts_hold : (fs : Facts) → KnownFacts (defs_of S) fs → (e : Env) → FactsHold (defs_of S) e fs → Each (PolyHolds (defs_of S) e) (of_facts S fs)
  of_facts_hold [] ks e hs = tt
  of_facts_hold (f ∷ fs) ks e hs = each_append (PolyHolds (defs_of S) e) (S.arithmetic.of_literal f.0 f.1) (of_facts S fs) (H.arithmetic.literal f.0 f.1 ks.0 e hs.0) (of_facts_hold fs ks.1 e hs.1)

  of_facts_known : (fs : Facts) → KnownFacts (defs_of S) fs → Each (PolyKnown (defs_of S)) (of_facts S fs)
  of_facts_known [] ks = tt
  of_facts_known (f ∷ fs) ks = each_append (PolyKnown (defs_of S)) (S.arithmetic.of_literal f.0 f.1) (of_facts S fs) (H.arithmetic.literal_known f.0 f.1 ks.0) (of_facts_known fs ks.1)

  has_type : (x : Term) → Known x → (e : Env) → FactsHold (defs_of S) e p.facts → Has (record { 0 = S.types p.facts x }) (val A x e)
  has_type x k e hs = H.types p.facts x fk k e hs (val A x e) (val_is (defs_of S) A ms x k e)

  bounds_hold : (xs : List Term) → Each (λ x. known (defs_of S) x ≡ true) xs → (e : Env) → FactsHold (defs_of S) e p.facts → Each (PolyHolds (defs_of S) e) (bounds S p.facts xs)
  bounds_hold [] ks e hs = tt
  bounds_hold (x ∷ xs) ks e hs = each_append (PolyHolds (defs_of S) e) (S.arithmetic.bound x (S.types p.facts x)) (bounds S p.facts xs)
      (H.arithmetic.bound x (S.types p.facts x) ks.0 e (val A x e) (val_is (defs_of S) A ms x ks.0 e) (has_type x ks.0 e hs)) (bounds_hold xs ks.1 e hs)

  -- polynomials that hold wherever the facts do and the literal has the sign
  module _ (u : Term) (s : Bool) (uk : Known u) where
    abbrev pub AllHold : List Polynomial → Type 0
    AllHold ps = (e : Env) → FactsHold (defs_of S) e p.facts → FactHolds (defs_of S) e (u, s) → Each (PolyHolds (defs_of S) e) ps

    -- where the answer is yes, nowhere do the facts hold and has the literal the sign
    abbrev pub Never : Bool → Type 0
    Never b = b ≡ true → (e : Env) → FactsHold (defs_of S) e p.facts → FactHolds (defs_of S) e (u, s) → ⊥

    more_holds : (ps : List Polynomial) (g : LinearRule) (z : Pairs) → LinearHolds (defs_of S) g → KnownPairs (defs_of S) z → known (defs_of S) (subst_of z g.concl) ≡ true
        → Each (HypHolds S H A ms p.facts z) g.hyps → AllHold ps → AllHold (ps ++ S.arithmetic.of_literal (subst_of z g.concl) g.sign)
    more_holds ps g z holds kz ck hyps all e hs us = each_append (PolyHolds (defs_of S) e) ps (S.arithmetic.of_literal (subst_of z g.concl) g.sign) (all e hs us)
        (H.arithmetic.literal (subst_of z g.concl) g.sign ck e
        (fact_of (defs_of S) A ms e (subst_of z g.concl) g.sign ck
        (subst (Signed g.sign) (sym (val_subst A z g.concl e)) (fact_says (defs_of S) A ms (replaced A z e) g.concl g.sign (holds.same (replaced A z e) (held g.hyps holds.hyps hyps))))))
      where
        held : (ts : List Term) → Each (λ h. known (defs_of S) h ≡ true) ts → Each (HypHolds S H A ms p.facts z) ts → Each (IsHeld (defs_of S) (replaced A z e)) ts
        held [] ks hyps = tt
        held (h ∷ ts) ks hyps = ((val A h (replaced A z e), val_is (defs_of S) A ms h ks.0 (replaced A z e), λ n. hyps.0 e hs (val_subst A z h e ∙ n)), held ts ks.1 hyps.1)

    match_stands : (g : LinearRule) → LinearHolds (defs_of S) g → (ps : List Polynomial) → AllHold ps → (x : Term) → Known x → (o : Option Pairs) → matched g.trigger x [] ≡ o
        → Yields AllHold (at_match S r p g ps o)
    match_stands g holds ps all x xk None m = yields_known AllHold ps all
    match_stands g holds ps all x xk (Some z) m =
        yields_after (When (Relieved S H A ms p.facts g.hyps z)) AllHold (relieve r p g.hyps z) _
        (relieve_stands S H A ms r stood p fk g.hyps z holds.hyps (match_fits (defs_of S) g.trigger x [] z xk tt m).1)
        (λ o q. yields_known AllHold (with_instance S g ps o) (go o q))
      where
        go : (o : Option Pairs) → When (Relieved S H A ms p.facts g.hyps z) o → AllHold (with_instance S g ps o)
        go None q = all
        go (Some y) q = more_holds ps g y holds q.1 (known_subst (defs_of S) y q.1 g.concl holds.concl) (q.2 y (λ w h k. k)) all

    atoms_stand : (g : LinearRule) → LinearHolds (defs_of S) g → (xs : List Term) → Each (λ x. known (defs_of S) x ≡ true) xs → (ps : List Polynomial) → AllHold ps → Yields AllHold (at_atoms S r p g xs ps)
    atoms_stand g holds [] ks ps all = yields_known AllHold ps all
    atoms_stand g holds (x ∷ xs) ks ps all = yields_cond AllHold (nat_le most_polys (length ps)) _ _
        (λ q. yields_known AllHold ps all)
        (λ q. yields_after AllHold AllHold (at_match S r p g ps (matched g.trigger x [])) (at_atoms S r p g xs) (match_stands g holds ps all x ks.0 (matched g.trigger x []) refl)
        (λ qs all. atoms_stand g holds xs ks.1 qs all))

    rules_stand : (gs : List LinearRule) → Each (LinearHolds (defs_of S)) gs → (xs : List Term) → Each (λ x. known (defs_of S) x ≡ true) xs → (ps : List Polynomial) → AllHold ps → Yields AllHold (with_rules S r p gs xs ps)
    rules_stand [] hs xs ks ps all = yields_known AllHold ps all
    rules_stand (g ∷ gs) hs xs ks ps all = yields_after AllHold AllHold (at_atoms S r p g xs ps) (with_rules S r p gs xs) (atoms_stand g hs.0 xs ks ps all)
        (λ qs all. rules_stand gs hs.1 xs ks qs all)

    atoms_known : Each (λ x. known (defs_of S) x ≡ true) (S.arithmetic.atoms_of (given S p.facts u s))
    atoms_known = H.arithmetic.atoms (given S p.facts u s) (each_append (PolyKnown (defs_of S)) (S.arithmetic.of_literal u s) (of_facts S p.facts) (H.arithmetic.literal_known u s uk) (of_facts_known p.facts fk))

    -- so the whole list that is refuted
    pub listed_hold : Yields AllHold (with_rules S r p S.arithmetic.rules (S.arithmetic.atoms_of (given S p.facts u s)) (given S p.facts u s ++ bounds S p.facts (S.arithmetic.atoms_of (given S p.facts u s))))
    listed_hold =
        rules_stand S.arithmetic.rules H.arithmetic.rules (S.arithmetic.atoms_of (given S p.facts u s)) atoms_known (given S p.facts u s ++ bounds S p.facts (S.arithmetic.atoms_of (given S p.facts u s)))
        (λ e hs us. each_append (PolyHolds (defs_of S) e) (given S p.facts u s) (bounds S p.facts (S.arithmetic.atoms_of (given S p.facts u s)))
        (each_append (PolyHolds (defs_of S) e) (S.arithmetic.of_literal u s) (of_facts S p.facts) (H.arithmetic.literal u s uk e us) (of_facts_hold p.facts fk e hs))
        (bounds_hold (S.arithmetic.atoms_of (given S p.facts u s)) atoms_known e hs))

    pub refuted_stands : Yields Never (refuted S r p u s)
    refuted_stands =
        yields_after AllHold Never (with_rules S r p S.arithmetic.rules (S.arithmetic.atoms_of (given S p.facts u s)) (given S p.facts u s ++ bounds S p.facts (S.arithmetic.atoms_of (given S p.facts u s)))) _
        listed_hold
        (λ qs all. yields_known Never (S.arithmetic.refutes (take most_polys qs)) (λ q e hs us. H.arithmetic.refutes (take most_polys qs) q e (each_take (PolyHolds (defs_of S) e) most_polys qs (all e hs us))))

  -- a term that is t or nil, and whose literal never has a sign, leads to the other truth
  abbrev IsTruth : Term → Type 0
  IsTruth u = (e : Env) → (b : Bool) × (val A u e ≡ truth b)

  never_leads : (o : Mode) (u : Term) (s : Bool) → Known u → IsTruth u → ((e : Env) → FactsHold (defs_of S) e p.facts → FactHolds (defs_of S) e (u, s) → ⊥)
      → Leads S H A ms o p.facts u (truth_constant (not s))
  never_leads o u s k is never = leads_same S H A ms o p.facts u (truth_constant (not s)) (truth_known (not s))
      (λ e hs. let (b, q) = is e in q ∙ ap truth (other s b (λ h. never e hs (fact_of (defs_of S) A ms e u s k (subst (Signed s) (sym q) h)))) ∙ sym (val_truth_constant A (not s) e))
    where
      truth_known : (b : Bool) → known (defs_of S) (truth_constant b) ≡ true
      truth_known true = known_quote (defs_of S) _
      truth_known false = known_quote (defs_of S) _

      other : (s b : Bool) → (Signed s (truth b) → ⊥) → b ≡ not s
      other true true h = absurd (h t_isnt_nil)
      other true false h = refl
      other false true h = refl
      other false false h = absurd (h refl)

  module _ (o : Mode) (u : Term) (uk : Known u) (is : IsTruth u) where
    abbrev Decides : Option Term → Type 0
    Decides = When (Leads S H A ms o p.facts u)

    or_stands : (b : Bool) → Never u true uk b → Yields Decides (or_refuted u true b)
    or_stands true h = yields_known Decides (Some (truth_constant false)) (never_leads o u true uk is (h refl))
    or_stands false h = yields_known Decides None tt

    second_stands : Yields Decides (λ n. after (refuted S r p u true n) (or_refuted u true))
    second_stands = yields_after (Never u true uk) Decides (refuted S r p u true) (or_refuted u true) (refuted_stands u true uk) or_stands

    then_stands : (b : Bool) (k : By (Option Term)) → (b ≡ true → Leads S H A ms o p.facts u (truth_constant true)) → Yields Decides k → Yields Decides (then_refuted b k)
    then_stands true k h later = yields_known Decides (Some (truth_constant true)) (h refl)
    then_stands false k h later = later

    less_stands : Yields Decides (by_less S r p u)
    less_stands = yields_after (Never u false uk) Decides (refuted S r p u false) _ (refuted_stands u false uk)
        (λ b h. then_stands b _ (λ q. never_leads o u false uk is (h q)) second_stands)

    -- neither side is less
    equal_stands : (a b : Term) → Known a → Known b → ((e : Env) → val A u e ≡ truth (value_eq (val A a e) (val A b e))) → are_integers S p.facts a b ≡ true → Yields Decides (by_equal S r p u a b)
    equal_stands a b ak bk equation ints =
        yields_after Neither Decides (λ n. after (refuted S r p (less_of a b) true n) (λ c. if_refuted c (refuted S r p (less_of b a) true))) _
        (yields_after (Never (less_of a b) true (less_known a b ak bk)) Neither (refuted S r p (less_of a b) true) (λ c. if_refuted c (refuted S r p (less_of b a) true))
        (refuted_stands (less_of a b) true (less_known a b ak bk)) if_stands)
        (λ c h. then_stands c _ (λ q. same_leads (h q)) second_stands)
      where
        less_known : (a b : Term) → Known a → Known b → Known (Call less_name (a ∷ b ∷ []))
        less_known a b ak bk = known_by (defs_of S) less_name (a ∷ b ∷ []) (rw prim_of_less refl) (true_each (known (defs_of S)) (a ∷ b ∷ []) (ak, (bk, tt)))

        No : Term → Term → Type 0
        No a b = (e : Env) → FactsHold (defs_of S) e p.facts → FactHolds (defs_of S) e (Call less_name (a ∷ b ∷ []), true) → ⊥

        Neither : Bool → Type 0
        Neither c = c ≡ true → No a b × No b a

        if_stands : (c : Bool) → Never (less_of a b) true (less_known a b ak bk) c → Yields Neither (if_refuted c (refuted S r p (less_of b a) true))
        if_stands true h = yields_same (Never (less_of b a) true (less_known b a bk ak)) Neither (refuted S r p (less_of b a) true)
            (λ c k q. (h refl, k q)) (refuted_stands (less_of b a) true (less_known b a bk ak))
        if_stands false h = yields_known Neither false (λ q. absurd (true≢false (sym q)))

        -- an inequality that never holds is false
        not_less : (a b : Term) → Known a → Known b → No a b → (e : Env) → FactsHold (defs_of S) e p.facts → int_lt (int_of (val A a e)) (int_of (val A b e)) ≡ false
        not_less a b ak bk never e hs = go (int_lt (int_of (val A a e)) (int_of (val A b e))) refl
          where
            go : (x : Bool) → int_lt (int_of (val A a e)) (int_of (val A b e)) ≡ x → x ≡ false
            go false q = refl
            go true q = absurd (never e hs (fact_of (defs_of S) A ms e (Call less_name (a ∷ b ∷ [])) true (less_known a b ak bk) (λ z. t_isnt_nil (sym (val_less A a b e ∙ ap truth q) ∙ z))))

        same_leads : No a b × No b a → Leads S H A ms o p.facts u (truth_constant true)
        same_leads n = leads_same S H A ms o p.facts u (truth_constant true) (known_quote (defs_of S) _) (λ e hs.
            let k = both (nat_eq (bit_and (S.types p.facts a) 1016) 0) (nat_eq (bit_and (S.types p.facts b) 1016) 0) ints in
            let left = an_integer (record { 0 = S.types p.facts a }) (val A a e) k.0 (has_type a ak e hs) in
            let right = an_integer (record { 0 = S.types p.facts b }) (val A b e) k.1 (has_type b bk e hs) in
            let same : val A a e ≡ val A b e = left ∙ ap int (neither (int_of (val A a e)) (int_of (val A b e)) (not_less a b ak bk n.0 e hs) (not_less b a bk ak n.1 e hs)) ∙ sym right in
            equation e ∙ ap truth (ap (λ v. value_eq v (val A b e)) same ∙ value_eq-same (val A b e)) ∙ sym (val_truth_constant A true e))

  pair_stands : (o : Mode) (f : Symbol) (a b : Term) → Known (Call f (a ∷ b ∷ [])) → (x : Option Prim) → prim_of f ≡ x
      → Yields (When (Leads S H A ms o p.facts (Call f (a ∷ b ∷ [])))) (by_pair S r p (Call f (a ∷ b ∷ [])) x a b)
  pair_stands o f a b k (Some prim.Less) q =
      less_stands o (Call f (a ∷ b ∷ [])) k (λ e. (int_lt (int_of (val A a e)) (int_of (val A b e)), val_prim A f prim.Less (a ∷ b ∷ []) e q))
  pair_stands o f a b k (Some prim.Equal) q =
      let ks = each_true (known (defs_of S)) (a ∷ b ∷ []) (known_args (defs_of S) f (a ∷ b ∷ []) k) in
      yields_cond (When (Leads S H A ms o p.facts (Call f (a ∷ b ∷ [])))) (are_integers S p.facts a b) _ _
      (λ ints. equal_stands o (Call f (a ∷ b ∷ [])) k (λ e. (value_eq (val A a e) (val A b e), val_prim A f prim.Equal (a ∷ b ∷ []) e q)) a b ks.0 ks.1.0
      (λ e. val_prim A f prim.Equal (a ∷ b ∷ []) e q) ints)
      (λ ints. yields_known (When (Leads S H A ms o p.facts (Call f (a ∷ b ∷ [])))) None tt)
  pair_stands o f a b k x q = yields_known (When (Leads S H A ms o p.facts (Call f (a ∷ b ∷ [])))) None tt

  -- what is tried on a call by arithmetic
  pub arithmetic_stands : (o : Mode) (f : Symbol) (us : List Term) → Known (Call f us) → Yields (When (Leads S H A ms o p.facts (Call f us))) (by_arithmetic S r p f us)
  arithmetic_stands o f (a ∷ b ∷ []) k = pair_stands o f a b k (prim_of f) refl
  arithmetic_stands o f [] k = yields_known (When (Leads S H A ms o p.facts (Call f []))) None tt
  arithmetic_stands o f (a ∷ []) k = yields_known (When (Leads S H A ms o p.facts (Call f (a ∷ [])))) None tt
  arithmetic_stands o f (a ∷ b ∷ c ∷ us) k = yields_known (When (Leads S H A ms o p.facts (Call f (a ∷ b ∷ c ∷ us)))) None tt
