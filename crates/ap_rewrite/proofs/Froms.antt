-- Equivalences from a term, under facts and a mode.
use Rattle.std.proofs.Common.{◌≡◌, ℕ, Bool, true, false, cond, List, [], ◌∷◌, Option, Some, None, is_some, IfSome, IsTrue, refl, sym, ap, ◌∙◌, subst}
use Rattle.std.specs.Option.{option_map}
use Rattle.ap_list.specs.Lists.{Each}
use Rattle.ap_value.specs.declared.symbol.Symbol.{Symbol}
use Rattle.ap_term.specs.declared.term.Term.{Term, Call}
use Rattle.ap_world.specs.Meaning.{Defs}
use Rattle.ap_world.specs.World.{Shown, function_of}
use Rattle.ap_world.specs.Facts.{Facts, KnownFacts}
use Rattle.ap_world.specs.Assume.{assume}
use Rattle.ap_world.specs.Names.{if_name, not_name}
use Rattle.ap_world.specs.Clauses.{not_of}
use Rattle.ap_world.specs.Sound.{known}
use Rattle.ap_world.specs.Shapes.{shape_of, choice, negation}
use Rattle.ap_world.proofs.Knowing.{known_args, each_true}
use Rattle.ap_world.proofs.Shaped.{Says, shape_says}
use Rattle.ap_world.proofs.Assumed.{assume_known}
use Rattle.ap_kernel.specs.declared.objects.Ctx.{Ctx}
use Rattle.ap_kernel.specs.declared.objects.Mode.{Mode}
use Rattle.ap_kernel.specs.declared.objects.Mode.TheVariants.{Equal, Iff}
use Rattle.ap_kernel.specs.declared.objects.Sequent.{Sequent}
use Rattle.ap_kernel.specs.declared.objects.Equiv.{Equiv}
use Rattle.ap_kernel.specs.Standing.{Stands}
use Rattle.ap_kernel.specs.Answers.{if_of, ModeFits, trans_made, branch_made, chosen_made}
use Rattle.ap_rewrite.specs.declared.rewriter.Tried.TheVariants.{Applied}
use Rattle.ap_rewrite.specs.Leading.{leads_made, said_of, Serves}
use Rattle.ap_rewrite.specs.Answering.{From, right_of, got, got_any}
use Rattle.ap_rewrite.specs.Rewriting.{answered}
use Rattle.ap_term.specs.Metered.{Got, known as answer}

-- what a row made
pub from_made : (w : Shown) (o : Mode) (c : Ctx) (u v : Term) (q : Equiv) → Stands w q → q.says ≡ leads_made c o u v → From w o c u q
from_made w o c u v q s e = record { stands = s; ctx = ap (λ (x : Sequent). x.ctx) e; mode = ap (λ (x : Sequent). x.mode) e; lhs = ap (λ (x : Sequent). x.lhs) e }

pub right_made : (c : Ctx) (o : Mode) (u v : Term) (q : Sequent) → q ≡ leads_made c o u v → q.rhs ≡ v
right_made c o u v q e = ap (λ (x : Sequent). x.rhs) e

-- from the term that the left side is
pub from_at : (w : Shown) (o : Mode) (c : Ctx) (u v : Term) (q : Equiv) → u ≡ v → From w o c u q → From w o c v q
from_at w o c u v q e f = subst (λ x. From w o c x q) e f

-- the facts of a context
pub facts_of : (c : Ctx) (fs : Facts) → c ≡ record { 0 = fs } → c.0 ≡ fs
facts_of c fs e = ap (λ (x : Ctx). x.0) e

-- what is answered where something may be
pub right_found : (o : Option Equiv) (c : Ctx) (m : Mode) (u : Term) (x : Option Term) → said_of o ≡ option_map (leads_made c m u) x → right_of o ≡ x
right_found None c m u None e = refl
right_found None c m u (Some v) e = cc
right_found (Some q) c m u None e = cc
right_found (Some q) c m u (Some v) e = let k : q.says ≡ leads_made c m u v = cc in ap Some (right_made c m u v q.says k)

pub from_found : (w : Shown) (q : Equiv) (c : Ctx) (m : Mode) (u : Term) (x : Option Term) → Stands w q → said_of (Some q) ≡ option_map (leads_made c m u) x → From w m c u q
from_found w q c m u None s e = cc
from_found w q c m u (Some v) s e = let k : q.says ≡ leads_made c m u v = cc in from_made w m c u v q s k

-- the parts of a known `if`, a known negation, a known call
pub if_parts : (D : Defs) (u a b c : Term) → known D u ≡ true → shape_of u ≡ choice a b c → (u ≡ if_of a b c) × (known D a ≡ true) × (known D b ≡ true) × (known D c ≡ true)
if_parts D u a b c k e =
    let is : u ≡ if_of a b c = subst (Says u) e (shape_says u) in
    let ks = each_true (known D) (a ∷ b ∷ c ∷ []) (known_args D if_name (a ∷ b ∷ c ∷ []) (subst (λ x. known D x ≡ true) is k)) in
    (is, ks.0, ks.1.0, ks.1.1.0)

pub choice_parts : (D : Defs) (a b c : Term) → known D (if_of a b c) ≡ true → (known D a ≡ true) × (known D b ≡ true) × (known D c ≡ true)
choice_parts D a b c k =
    let ks = each_true (known D) (a ∷ b ∷ c ∷ []) (known_args D if_name (a ∷ b ∷ c ∷ []) k) in
    (ks.0, ks.1.0, ks.1.1.0)

pub not_part : (D : Defs) (u a : Term) → known D u ≡ true → shape_of u ≡ negation a → (u ≡ not_of a) × (known D a ≡ true)
not_part D u a k e =
    let is : u ≡ not_of a = subst (Says u) e (shape_says u) in
    let ks = each_true (known D) (a ∷ []) (known_args D not_name (a ∷ []) (subst (λ x. known D x ≡ true) is k)) in
    (is, ks.0)

pub call_parts : (D : Defs) (f : Symbol) (us : List Term) → known D (Call f us) ≡ true → Each (λ u. IsTrue (known D u)) us
call_parts D f us k = each_true (known D) us (known_args D f us k)

-- equality fits an argument of any call
pub equal_fits : (b : Bool) (m : Mode) → m ≡ Equal → ModeFits b m
equal_fits true m e = tt
equal_fits false m e = e

-- one after another
pub from_followed : (w : Shown) (o : Mode) (c : Ctx) (a b q : Equiv) → From w o c a.says.lhs a → Stands w q → q.says ≡ trans_made a.says b.says → From w o c a.says.lhs q
from_followed w o c a b q f s e = record {
  stands = s;
  ctx = ap (λ (x : Sequent). x.ctx) e ∙ f.ctx;
  mode = ap (λ (x : Sequent). x.mode) e ∙ f.mode;
  lhs = ap (λ (x : Sequent). x.lhs) e;
}

-- an `if` of what its parts lead to
pub from_joined : (w : Shown) (o : Mode) (c : Ctx) (a b d q : Equiv) → From w Iff c a.says.lhs a → Stands w q → q.says ≡ branch_made o a.says b.says d.says
    → From w o c (if_of a.says.lhs b.says.lhs d.says.lhs) q
from_joined w o c a b d q f s e = record {
  stands = s;
  ctx = ap (λ (x : Sequent). x.ctx) e ∙ f.ctx;
  mode = ap (λ (x : Sequent). x.mode) e;
  lhs = ap (λ (x : Sequent). x.lhs) e;
}

-- the branch that the constant chooses to which the test leads
pub from_chosen : (w : Shown) (o : Mode) (c : Ctx) (a : Equiv) (s : Bool) (b d : Term) (q : Equiv) → From w Iff c a.says.lhs a → Stands w q → q.says ≡ chosen_made o a.says s b d
    → From w o c (if_of a.says.lhs b d) q
from_chosen w o c a s b d q f h e = record {
  stands = h;
  ctx = ap (λ (x : Sequent). x.ctx) e ∙ f.ctx;
  mode = ap (λ (x : Sequent). x.mode) e;
  lhs = ap (λ (x : Sequent). x.lhs) e;
}

-- the facts of a branch
pub under_facts : (a b : Equiv) (c : Ctx) (s : Bool) → a.says.ctx ≡ c → b.says.ctx ≡ record { 0 = assume c.0 a.says.rhs s } → b.says.ctx.0 ≡ assume a.says.ctx.0 a.says.rhs s
under_facts a b c s e k = facts_of b.says.ctx (assume c.0 a.says.rhs s) k ∙ ap (λ (x : Ctx). assume x.0 a.says.rhs s) (sym e)

-- the sides and the facts of what comes from a known term are those of the world
pub left_known : (w : Shown) (o : Mode) (c : Ctx) (u : Term) (q : Equiv) → From w o c u q → known (function_of w.entries) u ≡ true
left_known w o c u q f = subst (λ x. known (function_of w.entries) x ≡ true) f.lhs f.stands.says.left

pub right_known : (w : Shown) (o : Mode) (c : Ctx) (u : Term) (q : Equiv) → From w o c u q → known (function_of w.entries) q.says.rhs ≡ true
right_known w o c u q f = f.stands.says.right

-- equality serves under both modes
pub equal_serves : (m o : Mode) → m ≡ Equal → Serves m o
equal_serves m o e = subst (λ x. Serves x o) (sym e) tt

pub mode_made : (o : Mode) (c : Ctx) (u v : Term) (p q : Sequent) → p ≡ leads_made c Equal u v → q ≡ leads_made p.ctx o p.lhs p.rhs → q ≡ leads_made c o u v
mode_made o c u v p q e k = k ∙ ap (λ (x : Sequent). leads_made x.ctx o x.lhs x.rhs) e

-- the answer that there is
pub if_some : {A : Type 0} (o : Option A) (P : A → Type 0) → is_some o ≡ true → IfSome o P → (u : A) × (o ≡ Some u) × P u
if_some None P h k = cc
if_some (Some u) P h k = (u, refl, k)

-- from its own left side
pub from_own : (w : Shown) (o : Mode) (c : Ctx) (u : Term) (q : Equiv) → From w o c u q → From w o c q.says.lhs q
from_own w o c u q f = record { stands = f.stands; ctx = f.ctx; mode = f.mode; lhs = refl }

ctx_of : Facts → Ctx
ctx_of fs = record { 0 = fs }

-- a context by its facts
pub ctx_is : (c : Ctx) (fs : Facts) → c.0 ≡ fs → c ≡ record { 0 = fs }
unfolding ctx_of
ctx_is c fs e = ap ctx_of e

-- what is assumed of a known term is known
pub assumed_known : (D : Defs) (fs : Facts) (u : Term) (s : Bool) (gs : Facts) → gs ≡ assume fs u s → KnownFacts D fs → known D u ≡ true → KnownFacts D gs
assumed_known D fs u s gs e fk k = subst (KnownFacts D) (sym e) (assume_known D fs u s fk k)

-- where the left side is the term
pub followed_from : (w : Shown) (o : Mode) (c : Ctx) (u : Term) (a q : Equiv) → From w o c u a → From w o c a.says.lhs q → From w o c u q
followed_from w o c u a q f h = from_at w o c a.says.lhs u q f.lhs h

-- each of an answer that may not be there
pub each_found : (w : Shown) (o : Option Equiv) (c : Ctx) (m : Mode) (u : Term) (x : Option Term) → IfSome o (λ q. Stands w q) → said_of o ≡ option_map (leads_made c m u) x → IfSome o (From w m c u)
each_found w None c m u x s e = tt
each_found w (Some q) c m u x s e = from_found w q c m u x s e

-- an answer that is there
pub got_answered : (o : Option Equiv) (n : ℕ) → got_any (option_map Applied o) n ≡ answered (got o n)
got_answered None n = refl
got_answered (Some q) n = refl

pub cond_answered : (b : Bool) (u : Term) (n : ℕ) (g : Got Term) → answered (cond b (answer u n) g) ≡ cond b (answer (Some u) n) (answered g)
cond_answered true u n g = refl
cond_answered false u n g = refl
