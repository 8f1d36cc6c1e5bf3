-- What walks over terms and lists of them go by: parts are smaller, a part at a place, the next one of a list.
use Rattle.std.proofs.Common.{◌≡◌, ℕ, suc, ◌+◌, ◌-◌, ◌<◌, ◌≤◌, Bool, true, false, cond, List, [], ◌∷◌, map, length, take, drop, get_or, slice_get, Option, Some, IsTrue, ◌↔◌, refl, ap, sym, ◌∙◌, subst, add-one, drop-cons, arith}
use Rattle.ap_value.specs.declared.symbol.Symbol.{Symbol}
use Rattle.ap_term.specs.declared.term.Term.{Term, out-Term, Call}
use Rattle.ap_term.specs.declared.term.Term.TheOpen.{Term-F}
use Rattle.ap_term.specs.declared.term.Term.TheVariants.{outs-Call}
use Rattle.ap_term.specs.Matching.{Pairs}
use Rattle.ap_term.specs.Terms.{size_step, term_size}
use Rattle.ap_term.proofs.Induction.{fold_call}
use Rattle.ap_world.specs.Names.{if_name, less_name, equal_name}
use Rattle.ap_world.specs.Shapes.{Shape, choice, shape_of}
use Rattle.ap_world.proofs.Shaped.{Says, shape_says}
use Rattle.ap_kernel.specs.declared.objects.Ctx.{Ctx}
use Rattle.ap_kernel.specs.declared.objects.Equiv.{Equiv}
use Rattle.ap_kernel.specs.Applying.{LeadsToTrue, AllLead}
use Rattle.ap_kernel.specs.Equations.{equal_of}
use Rattle.ap_kernel.specs.Linear.{less_of}
use Rattle.ap_kernel.specs.Induction.{count_true}
use Rattle.ap_kernel.specs.Solving.{occurs}
use Rattle.ap_kernel.specs.Splits.{and_then, argument, part_at, with_argument, with_part}

-- the parts of a call are smaller than it
pub pair_smaller : (u : Term) (f : Symbol) (a b : Term) → u ≡ Call f (a ∷ b ∷ []) → (term_size a < term_size u) × (term_size b < term_size u)
pair_smaller u f a b is =
    let size : term_size u ≡ term_size a + (term_size b + 0) + 1 = ap term_size is ∙ fold_call size_step f (a ∷ b ∷ []) in
    (omega arith, omega arith)

pub choice_smaller : (u a b c : Term) → shape_of u ≡ choice a b c → (term_size a < term_size u) × (term_size b < term_size u)
choice_smaller u a b c h =
    let is : u ≡ Call if_name (a ∷ b ∷ c ∷ []) = says (shape_of u) h (shape_says u) in
    let size : term_size u ≡ term_size a + (term_size b + (term_size c + 0)) + 1 = ap term_size is ∙ fold_call size_step if_name (a ∷ b ∷ c ∷ []) in
    (omega arith, omega arith)
  where
    says : (y : Shape Term) → y ≡ choice a b c → Says u y → u ≡ Call if_name (a ∷ b ∷ c ∷ [])
    says y e s = subst (Says u) e s

-- the equation of the sides of a call of `<`
pub equation_is : (call u : Term) (f : Symbol) (sides : List Term) → call ≡ Call f sides → u ≡ Call equal_name sides → (a b : Term) → call ≡ less_of a b → u ≡ equal_of a b
equation_is call u f sides is made a b h =
    let e : Term-F.Call f sides ≡ Term-F.Call less_name (a ∷ b ∷ []) = sym (outs-Call f sides) ∙ ap out-Term (sym is ∙ h) ∙ outs-Call less_name (a ∷ b ∷ []) in
    let same : sides ≡ a ∷ b ∷ [] = cc in
    made ∙ ap (Call equal_name) same

-- the next one that is counted, and one that isn't
abbrev bit : Bool → ℕ
bit b = cond b 1 0

counted_more : (x : Symbol) (ts : List Term) (i count total n : ℕ) (t : Term) → i < length ts → t ≡ get_or ts i t → bit (occurs x t) ≡ n → count + count_true (map (occurs x) (drop i ts)) ≡ total
    → count + n + count_true (map (occurs x) (drop (i + 1) ts)) ≡ total
counted_more x ts i count total n t within at is so_far =
    let next : drop i ts ≡ t ∷ drop (i + 1) ts = drop-cons ts i t within ∙ ap (λ u. u ∷ drop (suc i) ts) (sym at) ∙ ap (λ k. t ∷ drop k ts) (sym (add-one i)) in
    let split : count_true (map (occurs x) (drop i ts)) ≡ n + count_true (map (occurs x) (drop (i + 1) ts)) =
    ap (λ us. count_true (map (occurs x) us)) next ∙ ap (λ k. k + count_true (map (occurs x) (drop (i + 1) ts))) is in
    omega arith

pub counted_one : (x : Symbol) (ts : List Term) (i count total : ℕ) (t : Term) → i < length ts → t ≡ get_or ts i t → occurs x t ≡ true → count + count_true (map (occurs x) (drop i ts)) ≡ total
    → count + 1 + count_true (map (occurs x) (drop (i + 1) ts)) ≡ total
counted_one x ts i count total t within at there so_far = counted_more x ts i count total 1 t within at (ap bit there) so_far

pub counted_none : (x : Symbol) (ts : List Term) (i count total : ℕ) (t : Term) → i < length ts → t ≡ get_or ts i t → occurs x t ≡ false → count + count_true (map (occurs x) (drop i ts)) ≡ total
    → count + 0 + count_true (map (occurs x) (drop (i + 1) ts)) ≡ total
counted_none x ts i count total t within at apart so_far = counted_more x ts i count total 0 t within at (ap bit apart) so_far

-- all but the first
whole : {A : Type 0} (xs : List A) → take (length xs) xs ≡ xs
whole [] = refl
whole (x ∷ xs) = ap (λ ys. x ∷ ys) (whole xs)

rest_is : {A : Type 0} (x : A) (xs : List A) → take (length (x ∷ xs) - 1) xs ≡ xs
rest_is x xs = let e : length (x ∷ xs) - 1 ≡ length xs = omega arith in ap (λ n. take n xs) e ∙ whole xs

-- a part within an argument
pub part_within : (is : List ℕ) (u v : Term) (f : Symbol) (ts : List Term) → 1 ≤ length is → u ≡ Call f ts → slice_get ts (get_or is 0 0) ≡ Some v
    → part_at is u ≡ part_at (take (length is - 1) (drop 1 is)) v
part_within [] u v f ts k e h = absurd (omega arith)
part_within (i ∷ is) u v f ts k e h =
    ap (part_at (i ∷ is)) e ∙ ap (λ y. and_then (argument y i) (part_at is)) (outs-Call f ts) ∙ ap (λ o. and_then o (part_at is)) h ∙ ap (λ js. part_at js v) (sym (rest_is i is))

pub with_within : (is : List ℕ) (r u v : Term) (f : Symbol) (ts : List Term) → 1 ≤ length is → u ≡ Call f ts → slice_get ts (get_or is 0 0) ≡ Some v
    → with_part is r u ≡ and_then (with_part (take (length is - 1) (drop 1 is)) r v) (with_argument (Term-F.Call f ts) (get_or is 0 0))
with_within [] r u v f ts k e h = absurd (omega arith)
with_within (i ∷ is) r u v f ts k e h =
    ap (with_part (i ∷ is) r) e ∙ ap (λ y. and_then (and_then (argument y i) (with_part is r)) (with_argument y i)) (outs-Call f ts)
    ∙ ap (λ o. and_then (and_then o (with_part is r)) (with_argument (Term-F.Call f ts) i)) h
    ∙ ap (λ js. and_then (with_part js r v) (with_argument (Term-F.Call f ts) i)) (sym (rest_is i is))

-- where the first doesn't lead to 'T, not all do; where it does, all do where the others do
pub first_fails : (c : Ctx) (s : Pairs) (hs : List Term) (qs : List Equiv) (h : Term) (q : Equiv) (b : Bool) → 1 ≤ length hs → 1 ≤ length qs → h ≡ get_or hs 0 h → q ≡ get_or qs 0 q
    → IsTrue b ↔ LeadsToTrue c s h q.says → b ≡ false → AllLead c s hs qs → IsTrue false
first_fails c s [] qs h q b k l at at' says fails all = absurd (omega arith)
first_fails c s (x ∷ hs) [] h q b k l at at' says fails all = absurd (omega arith)
first_fails c s (x ∷ hs) (y ∷ qs) h q b k l at at' says fails all =
    subst IsTrue fails (says.1 (subst (λ u. LeadsToTrue c s u q.says) (sym at) (subst (λ (p : Equiv). LeadsToTrue c s x p.says) (sym at') all.0)))

pub first_leads : (c : Ctx) (s : Pairs) (hs : List Term) (qs : List Equiv) (h : Term) (q : Equiv) (b : Bool) → 1 ≤ length hs → 1 ≤ length qs → h ≡ get_or hs 0 h → q ≡ get_or qs 0 q
    → IsTrue b ↔ LeadsToTrue c s h q.says → b ≡ true → AllLead c s (take (length hs - 1) (drop 1 hs)) (take (length qs - 1) (drop 1 qs)) ↔ AllLead c s hs qs
first_leads c s [] qs h q b k l at at' says leads = absurd (omega arith)
first_leads c s (x ∷ hs) [] h q b k l at at' says leads = absurd (omega arith)
first_leads c s (x ∷ hs) (y ∷ qs) h q b k l at at' says leads =
    let first : LeadsToTrue c s x y.says = subst (λ u. LeadsToTrue c s u y.says) at (subst (λ (p : Equiv). LeadsToTrue c s h p.says) at' (says.0 leads)) in (
      λ rest. (first, subst (λ ps. AllLead c s hs ps) (rest_is y qs) (subst (λ us. AllLead c s us (take (length (y ∷ qs) - 1) qs)) (rest_is x hs) rest)),
      λ all. subst (λ us. AllLead c s us (take (length (y ∷ qs) - 1) qs)) (sym (rest_is x hs)) (subst (λ ps. AllLead c s hs ps) (sym (rest_is y qs)) all.1),
    )
