-- A rule whose hypotheses are relieved, and a hypothesis that is relieved by rewriting.
use Rattle.std.proofs.Common.{◌≡◌, ℕ, Bool, true, false, not, cond, List, Option, Some, None, IfSome, refl, sym, ap, ◌∙◌, subst}
use Rattle.ap_list.specs.Lists.{lookup_by}
use Rattle.ap_value.specs.Values.{symbol_eq}
use Rattle.ap_term.specs.declared.term.Subst.{Subst}
use Rattle.ap_term.specs.declared.term.Term.{Term}
use Rattle.ap_term.specs.Metered.{Got, after, known as answer}
use Rattle.ap_term.specs.Matching.{Pairs, is_bound}
use Rattle.ap_term.specs.Terms.{subst_of}
use Rattle.ap_world.specs.World.{Shown, function_of}
use Rattle.ap_world.specs.Holding.{KnownPairs}
use Rattle.ap_world.specs.Recursion.{t_constant}
use Rattle.ap_world.specs.Rules.{Rule}
use Rattle.ap_world.specs.Shapes.{shape_of, is_constant}
use Rattle.ap_kernel.specs.declared.objects.Ctx.{Ctx}
use Rattle.ap_kernel.specs.declared.objects.Mode.{Mode}
use Rattle.ap_kernel.specs.declared.objects.Mode.TheVariants.{Equal, Iff}
use Rattle.ap_kernel.specs.declared.objects.Sequent.{Sequent}
use Rattle.ap_kernel.specs.declared.objects.Equiv.{Equiv}
use Rattle.ap_kernel.specs.Standing.{Stands}
use Rattle.ap_kernel.specs.Applying.{mode_in, AllLead, PartRelieved}
use Rattle.ap_rewrite.specs.declared.facts.Relieved.{Relieved}
use Rattle.ap_rewrite.specs.Settings.{Place, Inner, relieving}
use Rattle.ap_rewrite.specs.Relieving.{if_so, by_sign, relieve_one}
use Rattle.ap_rewrite.specs.Relieved.{RelievedFrom}
use Rattle.ap_rewrite.specs.Rewriting.{fits_mode}
use Rattle.ap_rewrite.specs.Leading.{leads_made, Serves}
use Rattle.ap_rewrite.specs.Answering.{From, pairs_of}

-- a rule that fits a mode serves under it
pub rule_serves : (o : Mode) (g : Rule) → fits_mode o g ≡ true → Serves (mode_in g.iff) o
rule_serves Equal g h = go g.iff h
  where
    go : (b : Bool) → not b ≡ true → Serves (mode_in b) Equal
    go true k = cc
    go false k = tt
rule_serves Iff g h = go g.iff
  where
    go : (b : Bool) → Serves (mode_in b) Iff
    go true = refl
    go false = tt

pub part_relieved : (c : Ctx) (s : Pairs) (o : Option Rule) (g : Rule) (qs : List Equiv) → o ≡ Some g → AllLead c s g.hyps qs → PartRelieved c s o qs
part_relieved c s o g qs e h = subst (λ (x : Option Rule). PartRelieved c s x qs) (sym e) h

pub of_part : (o : Option Rule) (g : Rule) (P : Rule → Type 0) → o ≡ Some g → IfSome o P → P g
of_part o g P e h = subst (λ (x : Option Rule). IfSome x P) e h

pub any_mode_made : (o m : Mode) (c : Ctx) (u v : Term) (p q : Sequent) → p ≡ leads_made c m u v → q ≡ leads_made p.ctx o p.lhs p.rhs → q ≡ leads_made c o u v
any_mode_made o m c u v p q e k = k ∙ ap (λ (x : Sequent). leads_made x.ctx o x.lhs x.rhs) e

-- a hypothesis whose variables have terms
bound_first : (b : Bool) (g h : Got (Option Pairs)) → b ≡ true → g ≡ cond b g h
bound_first true g h e = refl
bound_first false g h e = cc

pub relieved_by : (r : Inner) (p : Place) (h v : Term) (s : Pairs) (n m : ℕ) (x : Option Relieved) → is_bound s h ≡ true → Some (v, m) ≡ r Iff (relieving p) (subst_of s h) n
    → pairs_of x ≡ if_so (is_constant true v) s → Some (pairs_of x, m) ≡ relieve_one r p h s n
relieved_by r p h v s n m x bound e k =
    ap (λ (y : Option Pairs). Some (y, m)) k
    ∙ ap (λ (g : Got Term). after g (λ h'. answer (if_so (is_constant true h') s))) e
    ∙ bound_first (is_bound s h) (after (r Iff (relieving p) (subst_of s h) n) (λ h'. answer (if_so (is_constant true h') s))) (answer (by_sign h (shape_of h) s p.facts) n) bound

pub relieving_out : (r : Inner) (p : Place) (h : Term) (s : Pairs) (n : ℕ) → is_bound s h ≡ true → None ≡ r Iff (relieving p) (subst_of s h) n → None ≡ relieve_one r p h s n
relieving_out r p h s n bound e =
    ap (λ (g : Got Term). after g (λ h'. answer (if_so (is_constant true h') s))) e
    ∙ bound_first (is_bound s h) (after (r Iff (relieving p) (subst_of s h) n) (λ h'. answer (if_so (is_constant true h') s))) (answer (by_sign h (shape_of h) s p.facts) n) bound

one_relieved : (w : Shown) (c : Ctx) (h : Term) (s : Subst) (q : Equiv) (a : Relieved) → From w Iff c (subst_of s.0 h) q → is_bound s.0 h ≡ true → KnownPairs (function_of w.entries) s.0
    → a.pairs ≡ s → Stands w a.shown → a.shown.says ≡ leads_made q.says.ctx Iff q.says.lhs t_constant → RelievedFrom w c h s.0 a
one_relieved w c h s q a f bound ks same stands made =
    let pairs : a.pairs.0 ≡ s.0 = ap (λ (x : Subst). x.0) same in
    record {
      relieves = record {
        stands = stands;
        leads = record {
          facts = ap (λ (x : Sequent). x.ctx) made ∙ f.ctx;
          left = ap (λ (x : Sequent). x.lhs) made ∙ f.lhs ∙ ap (λ (x : Pairs). subst_of x h) (sym pairs);
          right = ap (λ (x : Sequent). x.rhs) made;
        };
        bound = subst (λ (x : Pairs). is_bound x h ≡ true) (sym pairs) bound;
      };
      known = subst (KnownPairs (function_of w.entries)) (sym pairs) ks;
      extends = λ x t e. subst (λ (y : Pairs). lookup_by symbol_eq y x ≡ Some t) (sym pairs) e;
    }

pub relieved_here : (w : Shown) (c : Ctx) (h : Term) (s : Subst) (q : Equiv) (x : Option Relieved) → From w Iff c (subst_of s.0 h) q → is_bound s.0 h ≡ true → KnownPairs (function_of w.entries) s.0
    → IfSome x (λ a. a.pairs ≡ s) → IfSome x (λ a. Stands w a.shown) → IfSome x (λ a. a.shown.says ≡ leads_made q.says.ctx Iff q.says.lhs t_constant) → IfSome x (RelievedFrom w c h s.0)
relieved_here w c h s q None f bound ks same stands made = tt
relieved_here w c h s q (Some a) f bound ks same stands made = one_relieved w c h s q a f bound ks same stands made
