-- Relieved hypotheses: under the pairs that come of it, and under any more, none of their instances is nil.
use Rattle.std.proofs.Common.{◌≡◌, nat_lt, Bool, true, false, cond, List, [], ◌∷◌, Option, None, Some, refl, sym, ap, ◌∙◌, subst}
use Rattle.ap_list.specs.Lists.{Each}
use Rattle.ap_value.specs.Values.{value_eq}
use Rattle.ap_value.proofs.Equals.{value_eq-same}
use Rattle.ap_term.specs.declared.term.Term.{Term}
use Rattle.ap_term.specs.Terms.{subst_of}
use Rattle.ap_world.specs.Names.{not_name}
use Rattle.ap_world.specs.Primitives.{nil, truth}
use Rattle.ap_world.specs.Meaning.{Env}
use Rattle.ap_world.specs.Sound.{known}
use Rattle.ap_world.proofs.TotalMeaning.{Apply, Models, val}
use Rattle.ap_world.proofs.Equations.{t_isnt_nil}
use Rattle.ap_world.proofs.Starting.{val_not}
use Rattle.ap_world.proofs.Written.{subst_call}
use Rattle.ap_kernel.specs.declared.objects.Mode.{Mode}
use Rattle.ap_kernel.specs.declared.objects.Mode.TheVariants.{Iff}
use Rattle.ap_world.specs.Facts.{Facts, KnownFacts, FactsHold}
use Rattle.ap_world.specs.Shapes.{Shape, constant, choice, negation, equation, pair, other, shape_of, is_constant}
use Rattle.ap_world.proofs.Shaped.{Says, shape_says}
use Rattle.ap_world.proofs.Assumed.{Signed, fact_says}
use Rattle.ap_term.specs.Metered.{known as answer}
use Rattle.ap_term.specs.Matching.{Pairs, matched, Extends, is_bound}
use Rattle.ap_world.specs.Rules.{same_bool}
use Rattle.ap_rewrite.specs.Settings.{Setting, Place, Inner, relieving}
use Rattle.ap_rewrite.specs.Relieving.{most_chained, found_or, by_facts, by_sign, if_so, relieve_one, then_more, relieve}
use Rattle.ap_rewrite.specs.SoundSettings.{defs_of, SoundSetting}
use Rattle.ap_rewrite.proofs.Yields.{Yields, When, yields_known, yields_after, yields_cond, yields_same}
use Rattle.ap_world.proofs.Instances.{known_subst, match_fits}
use Rattle.ap_world.specs.Holding.{KnownPairs}
use Rattle.ap_term.proofs.Matches.{extends_more, bound_alike}
use Rattle.ap_rewrite.proofs.Truths.{truth_says, constant_truth}
use Rattle.ap_rewrite.proofs.Leads.{Leads, HypHolds}

module _ (S : Setting) (H : SoundSetting S) (A : Apply) (ms : Models (defs_of S) A) where
  -- a level below that answers what its term leads to
  abbrev pub Stood : Inner → Type 0
  Stood r = (o : Mode) (p : Place) (u : Term) → KnownFacts (defs_of S) p.facts → known (defs_of S) u ≡ true → Yields (Leads S H A ms o p.facts u) (r o p u)

  -- pairs and more, under which each of the hypotheses holds
  abbrev pub Relieved : Facts → List Term → Pairs → Pairs → Type 0
  Relieved fs hs s z = Extends s z × KnownPairs (defs_of S) z × ((y : Pairs) → Extends z y → Each (HypHolds S H A ms fs y) hs)

  -- the facts from here on that have the sign
  abbrev Found : Facts → Term → Bool → Pairs → Pairs → Type 0
  Found fs h b s z = Extends s z × KnownPairs (defs_of S) z × ((y : Pairs) → Extends z y → (e : Env) → FactsHold (defs_of S) e fs → Signed b (val A (subst_of y h) e))

  found : (h : Term) (b : Bool) (s z : Pairs) → KnownPairs (defs_of S) s → (fs : Facts) → KnownFacts (defs_of S) fs → by_facts h b s fs ≡ Some z → Found fs h b s z
  found h b s z ks [] fk k = cc
  found h b s z ks (f ∷ fs) fk k = go (same_bool b f.1) refl (matched h f.0 s) refl (λ l. later (found h b s z ks fs fk.1 l)) k
    where
      later : Found fs h b s z → Found (f ∷ fs) h b s z
      later q = (q.0, q.1, λ y more e hs. q.2 y more e hs.1)

      one : (b r : Bool) → same_bool b r ≡ true → r ≡ b
      one true true q = refl
      one true false q = cc
      one false true q = cc
      one false false q = refl

      go : (x : Bool) → same_bool b f.1 ≡ x → (o : Option Pairs) → matched h f.0 s ≡ o → (by_facts h b s fs ≡ Some z → Found (f ∷ fs) h b s z)
          → found_or (cond x o None) (by_facts h b s fs) ≡ Some z → Found (f ∷ fs) h b s z
      go true p (Some q) m rest k =
          let same : q ≡ z = cc in
          let fits = match_fits (defs_of S) h f.0 s q fk.0 ks m in
          subst (Found (f ∷ fs) h b s) same (
            fits.0,
            fits.1,
            λ y more e hs.
                subst (λ u. Signed b (val A u e)) (sym (fits.2 y more)) (subst (λ r. Signed r (val A f.0 e)) (one b f.1 p) (fact_says (defs_of S) A ms e f.0 f.1 hs.0)),
          )
      go true p None m rest k = rest k
      go false p o m rest k = rest k

  signed : (h : Term) (y : Shape Term) → Says h y → (s z : Pairs) → KnownPairs (defs_of S) s → (fs : Facts) → KnownFacts (defs_of S) fs → by_sign h y s fs ≡ Some z
      → Relieved fs (h ∷ []) s z
  signed h (negation a) q s z ks fs fk k =
      let f = found a false s z ks fs fk k in (
        f.0,
        f.1,
        λ y more. (
          (λ e hs isnil.
              let is : val A (subst_of y h) e ≡ truth (value_eq (val A (subst_of y a) e) nil) =
              ap (λ u. val A (subst_of y u) e) q ∙ ap (λ u. val A u e) (subst_call y not_name (a ∷ [])) ∙ val_not (defs_of S) A ms H.ground (subst_of y a) e in
              t_isnt_nil (sym (is ∙ ap (λ v. truth (value_eq v nil)) (f.2 y more e hs) ∙ ap truth (value_eq-same nil)) ∙ isnil)),
          tt,
        ),
      )
  signed h (constant v) q s z ks fs fk k = let f = found h true s z ks fs fk k in (f.0, f.1, λ y more. (f.2 y more, tt))
  signed h (choice a b c) q s z ks fs fk k = let f = found h true s z ks fs fk k in (f.0, f.1, λ y more. (f.2 y more, tt))
  signed h (equation a b) q s z ks fs fk k = let f = found h true s z ks fs fk k in (f.0, f.1, λ y more. (f.2 y more, tt))
  signed h (pair a b) q s z ks fs fk k = let f = found h true s z ks fs fk k in (f.0, f.1, λ y more. (f.2 y more, tt))
  signed h other q s z ks fs fk k = let f = found h true s z ks fs fk k in (f.0, f.1, λ y more. (f.2 y more, tt))

  module _ (r : Inner) (stood : Stood r) (p : Place) (fk : KnownFacts (defs_of S) p.facts) where
    one_stands : (h : Term) (s : Pairs) → known (defs_of S) h ≡ true → KnownPairs (defs_of S) s → Yields (When (Relieved p.facts (h ∷ []) s)) (relieve_one r p h s)
    one_stands h s k ks = yields_cond (When (Relieved p.facts (h ∷ []) s)) (is_bound s h) _ _
        (λ bound. yields_after (Leads S H A ms Iff p.facts (subst_of s h)) (When (Relieved p.facts (h ∷ []) s)) (r Iff (relieving p) (subst_of s h)) (λ v. answer (if_so (is_constant true v) s))
        (stood Iff (relieving p) (subst_of s h) fk (known_subst (defs_of S) s ks h k))
        (λ v l. yields_known (When (Relieved p.facts (h ∷ []) s)) (if_so (is_constant true v) s) (so bound v l (is_constant true v) refl)))
        (λ free. yields_known (When (Relieved p.facts (h ∷ []) s)) (by_sign h (shape_of h) s p.facts) (by (by_sign h (shape_of h) s p.facts) refl))
      where
        so : is_bound s h ≡ true → (v : Term) → Leads S H A ms Iff p.facts (subst_of s h) v → (b : Bool) → is_constant true v ≡ b → When (Relieved p.facts (h ∷ []) s) (if_so b s)
        so bound v l true q = (
          λ x t e. e,
          ks,
          λ y more. (
            (λ e hs isnil.
                truth_says A e v true (constant_truth v q) ((l.1 e hs).0 (ap (λ u. val A u e) (sym (bound_alike s y h more bound)) ∙ isnil))),
            tt,
          ),
        )
        so bound v l false q = tt

        by : (o : Option Pairs) → by_sign h (shape_of h) s p.facts ≡ o → When (Relieved p.facts (h ∷ []) s) o
        by None q = tt
        by (Some z) q = signed h (shape_of h) (shape_says h) s z ks p.facts fk q

    pub relieve_stands : (hs : List Term) (s : Pairs) → Each (λ h. known (defs_of S) h ≡ true) hs → KnownPairs (defs_of S) s → Yields (When (Relieved p.facts hs s)) (relieve r p hs s)
    relieve_stands [] s hk ks = yields_known (When (Relieved p.facts [] s)) (Some s) (λ x t e. e, ks, λ y more. tt)
    relieve_stands (h ∷ hs) s hk ks = yields_cond (When (Relieved p.facts (h ∷ hs) s)) (nat_lt p.chain most_chained) _ _
        (λ few. yields_after (When (Relieved p.facts (h ∷ []) s)) (When (Relieved p.facts (h ∷ hs) s)) (relieve_one r p h s) (λ o. then_more o (relieve r p hs))
        (one_stands h s hk.0 ks) (λ o q. more o q (λ z kz. relieve_stands hs z hk.1 kz)))
        (λ many. yields_known (When (Relieved p.facts (h ∷ hs) s)) None tt)
      where
        more : (o : Option Pairs) → When (Relieved p.facts (h ∷ []) s) o → ((z : Pairs) → KnownPairs (defs_of S) z → Yields (When (Relieved p.facts hs z)) (relieve r p hs z))
            → Yields (When (Relieved p.facts (h ∷ hs) s)) (then_more o (relieve r p hs))
        more None q later = yields_known (When (Relieved p.facts (h ∷ hs) s)) None tt
        more (Some z) q later = yields_same (When (Relieved p.facts hs z)) (When (Relieved p.facts (h ∷ hs) s)) (relieve r p hs z) both (later z q.1)
          where
            both : (o : Option Pairs) → When (Relieved p.facts hs z) o → When (Relieved p.facts (h ∷ hs) s) o
            both None w = tt
            both (Some x) w = (extends_more s z x q.0 w.0, w.1, λ y more. ((q.2 y (extends_more z x y w.0 more)).0, w.2 y more))
