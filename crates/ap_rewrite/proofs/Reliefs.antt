-- The hypotheses of a rule, relieved one after another.
use Rattle.std.proofs.Common.{◌≡◌, ℕ, ◌<◌, ◌≤◌, nat_lt, Bool, true, false, cond, List, [], ◌∷◌, ◌++◌, Option, Some, None, refl, sym, ap, ◌∙◌, subst, append_assoc, arith}
use Rattle.std.proofs.lemmas.Bool.Decides.{nat_tests}
use Rattle.ap_list.specs.Lists.{Each}
use Rattle.ap_term.specs.declared.term.Term.{Term}
use Rattle.ap_term.specs.Metered.{Got, after, known as answer}
use Rattle.ap_term.specs.Matching.{Pairs, Extends}
use Rattle.ap_term.proofs.Matches.{extends_more}
use Rattle.ap_world.specs.World.{Shown, function_of}
use Rattle.ap_world.specs.Holding.{KnownPairs}
use Rattle.ap_kernel.specs.declared.objects.Ctx.{Ctx}
use Rattle.ap_kernel.specs.declared.objects.Equiv.{Equiv}
use Rattle.ap_kernel.specs.Standing.{Stands}
use Rattle.ap_kernel.specs.Applying.{AllLead}
use Rattle.ap_rewrite.specs.declared.facts.Relieved.{Relieved}
use Rattle.ap_rewrite.specs.declared.rules.Reliefs.{Reliefs}
use Rattle.ap_rewrite.specs.Settings.{Place, Inner}
use Rattle.ap_rewrite.specs.Relieving.{most_chained, relieve_one, then_more, relieve}
use Rattle.ap_rewrite.specs.Relieved.{Relieves, RelievedFrom}
use Rattle.ap_rewrite.specs.Answering.{Shows}
use Rattle.ap_rewrite.proofs.FactsRelieve.{relieves_more}

-- each hypothesis is relieved under the same pairs
abbrev pub AllRelieve : Shown → Ctx → Pairs → List Term → List Equiv → Type 0
AllRelieve w c s [] [] = Unit {0}
AllRelieve w c s (h ∷ hs) (q ∷ qs) = Relieves w c h s q × AllRelieve w c s hs qs
AllRelieve w c s hs qs = ⊥

-- and under more
all_more : (w : Shown) (c : Ctx) (s z : Pairs) (hs : List Term) (qs : List Equiv) → Extends s z → AllRelieve w c s hs qs → AllRelieve w c z hs qs
all_more w c s z [] [] e a = tt
all_more w c s z [] (q ∷ qs) e a = absurd a
all_more w c s z (h ∷ hs) [] e a = absurd a
all_more w c s z (h ∷ hs) (q ∷ qs) e a = (relieves_more w c h s z q e a.0, all_more w c s z hs qs e a.1)

all_snoc : (w : Shown) (c : Ctx) (s : Pairs) (hs : List Term) (qs : List Equiv) (h : Term) (q : Equiv) → AllRelieve w c s hs qs → Relieves w c h s q
    → AllRelieve w c s (hs ++ h ∷ []) (qs ++ q ∷ [])
all_snoc w c s [] [] h q a r = (r, tt)
all_snoc w c s [] (p ∷ qs) h q a r = absurd a
all_snoc w c s (g ∷ hs) [] h q a r = absurd a
all_snoc w c s (g ∷ hs) (p ∷ qs) h q a r = (a.0, all_snoc w c s hs qs h q a.1 r)

all_stand : (w : Shown) (c : Ctx) (s : Pairs) (hs : List Term) (qs : List Equiv) → AllRelieve w c s hs qs → Each (Stands w) qs
all_stand w c s [] [] a = tt
all_stand w c s [] (q ∷ qs) a = absurd a
all_stand w c s (h ∷ hs) [] a = absurd a
all_stand w c s (h ∷ hs) (q ∷ qs) a = (a.0.stands, all_stand w c s hs qs a.1)

all_lead : (w : Shown) (c : Ctx) (s : Pairs) (hs : List Term) (qs : List Equiv) → AllRelieve w c s hs qs → AllLead c s hs qs
all_lead w c s [] [] a = tt
all_lead w c s [] (q ∷ qs) a = absurd a
all_lead w c s (h ∷ hs) [] a = absurd a
all_lead w c s (h ∷ hs) (q ∷ qs) a = (a.0.leads, all_lead w c s hs qs a.1)

-- what the loop keeps: what is left under the pairs so far gives what all give under the first ones
pub record ReliefsDone (w : Shown) (c : Ctx) (g all : Got (Option Pairs)) (rest hs : List Term) (first s : Pairs) (qs : List Equiv) : Type 0 where
  pub is : all ≡ g
  pub done : List Term
  pub front : done ++ rest ≡ hs
  pub shown : AllRelieve w c s done qs
  pub known : KnownPairs (function_of w.entries) s
  pub extends : Extends first s

pub none_relieved : (w : Shown) (c : Ctx) (g : Got (Option Pairs)) (hs : List Term) (s : Pairs) → KnownPairs (function_of w.entries) s → ReliefsDone w c g g hs hs s s []
none_relieved w c g hs s k = record { is = refl; done = []; front = refl; shown = tt; known = k; extends = λ x t e. e }

pub reliefs_begin : (w : Shown) (c : Ctx) (g : Got (Option Pairs)) (hs : List Term) (s : Pairs) (qs : List Equiv) → qs ≡ [] → KnownPairs (function_of w.entries) s → ReliefsDone w c g g hs hs s s qs
reliefs_begin w c g hs s qs e k = subst (ReliefsDone w c g g hs hs s s) (sym e) (none_relieved w c g hs s k)

pub few_around : (n : ℕ) → n < 10 → nat_lt n most_chained ≡ true
few_around n h = grind (arith, nat_tests)

pub many_around : (n : ℕ) → 10 ≤ n → nat_lt n most_chained ≡ false
many_around n h = grind (arith, nat_tests)

few_left : (b : Bool) (g h : Got (Option Pairs)) → b ≡ true → cond b g h ≡ g
few_left true g h e = refl
few_left false g h e = cc

many_left : (b : Bool) (g h : Got (Option Pairs)) → b ≡ false → cond b g h ≡ h
many_left true g h e = cc
many_left false g h e = refl

-- one hypothesis more
module _ (w : Shown) (c : Ctx) (r : Inner) (p : Place) (all : Got (Option Pairs)) (h : Term) (front rest hs : List Term) (first s : Pairs) (qs : List Equiv) (n m : ℕ) (at : front ≡ h ∷ rest)
    (before : ReliefsDone w c (relieve r p front s n) all front hs first s qs) where
  step : all ≡ relieve r p (h ∷ rest) s n
  step = before.is ∙ ap (λ x. relieve r p x s n) at

  pub too_many : nat_lt p.chain most_chained ≡ false → ◌≡◌ {A = Got (Option Pairs)} (Some (None, n)) all
  too_many b = sym (step ∙ many_left (nat_lt p.chain most_chained) (after (relieve_one r p h s n) (λ o. then_more o (relieve r p rest))) (answer None n) b)

  once : nat_lt p.chain most_chained ≡ true → all ≡ after (relieve_one r p h s n) (λ o. then_more o (relieve r p rest))
  once b = step ∙ few_left (nat_lt p.chain most_chained) (after (relieve_one r p h s n) (λ o. then_more o (relieve r p rest))) (answer None n) b

  pub relief_out : nat_lt p.chain most_chained ≡ true → None ≡ relieve_one r p h s n → None ≡ all
  relief_out b e = sym (once b ∙ ap (λ g. after g (λ o. then_more o (relieve r p rest))) (sym e))

  pub relief_none : nat_lt p.chain most_chained ≡ true → ◌≡◌ {A = Got (Option Pairs)} (Some (None, m)) (relieve_one r p h s n) → ◌≡◌ {A = Got (Option Pairs)} (Some (None, m)) all
  relief_none b e = sym (once b ∙ ap (λ g. after g (λ o. then_more o (relieve r p rest))) (sym e))

  pub relief_done : (q : Relieved) (out : List Equiv) → nat_lt p.chain most_chained ≡ true → Some (Some q.pairs.0, m) ≡ relieve_one r p h s n → RelievedFrom w c h s q → out ≡ qs ++ q.shown ∷ []
      → ReliefsDone w c (relieve r p rest q.pairs.0 m) all rest hs first q.pairs.0 out
  relief_done q out b e f k = record {
    is = once b ∙ ap (λ g. after g (λ o. then_more o (relieve r p rest))) (sym e);
    done = before.done ++ h ∷ [];
    front = append_assoc before.done (h ∷ []) rest ∙ ap (λ x. before.done ++ x) (sym at) ∙ before.front;
    shown = subst (AllRelieve w c q.pairs.0 (before.done ++ h ∷ [])) (sym k)
        (all_snoc w c q.pairs.0 before.done qs h q.shown (all_more w c s q.pairs.0 before.done qs f.extends before.shown) f.relieves);
    known = f.known;
    extends = extends_more first s q.pairs.0 before.extends f.extends;
  }

append_none : (hs : List Term) → hs ++ [] ≡ hs
append_none [] = refl
append_none (h ∷ hs) = ap (λ x. h ∷ x) (append_none hs)

-- all are relieved
pub all_relieved : (w : Shown) (c : Ctx) (r : Inner) (p : Place) (all : Got (Option Pairs)) (rest hs : List Term) (first : Pairs) (q : Reliefs) (m : ℕ) → rest ≡ []
    → ReliefsDone w c (relieve r p rest q.pairs.0 m) all rest hs first q.pairs.0 q.shown → (Some (Some q.pairs.0, m) ≡ all) × Shows w c hs first q
all_relieved w c r p all rest hs first q m at d =
    let front : d.done ≡ hs = sym (append_none d.done) ∙ ap (λ x. d.done ++ x) (sym at) ∙ d.front in
    let each : AllRelieve w c q.pairs.0 hs q.shown = subst (λ x. AllRelieve w c q.pairs.0 x q.shown) front d.shown in (
      sym (d.is ∙ ap (λ x. relieve r p x q.pairs.0 m) at),
      record { stand = all_stand w c q.pairs.0 hs q.shown each; lead = all_lead w c q.pairs.0 hs q.shown each; known = d.known; extends = d.extends },
    )

-- from no pairs
pub shows_from : (w : Shown) (c : Ctx) (hs : List Term) (s : Pairs) (q : Reliefs) → Shows w c hs s q → Shows w c hs [] q
shows_from w c hs s q h = record { stand = h.stand; lead = h.lead; known = h.known; extends = λ x t e. absurd (no_pair t e) }
  where
    no_pair : (t : Term) → None ≡ Some t → ⊥
    no_pair t e = cc
