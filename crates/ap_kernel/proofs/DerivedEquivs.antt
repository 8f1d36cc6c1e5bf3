-- What the derivation gives of each row that answers an equivalence.
use Rattle.std.proofs.Common.{◌≡◌, ℕ, suc, Bool, true, false, cond, not, ◌&&◌, ◌||◌, List, [], ◌∷◌, ◌++◌, map, length, Option, Some, None, slice_get, refl, ap, sym, ◌∙◌, subst}
use Rattle.std.specs.Option.{option_map}
use Rattle.ap_list.specs.Lists.{Each, all_true}
use Rattle.ap_value.specs.declared.symbol.Symbol.{Symbol}
use Rattle.ap_value.specs.declared.value.Value.{Value}
use Rattle.ap_value.specs.Values.{symbol_eq, val_of}
use Rattle.ap_value.proofs.Equals.{and_true, symbol_eq-same}
use Rattle.ap_term.specs.declared.term.Term.{Term, Quote, out-Term}
use Rattle.ap_term.specs.declared.term.Term.TheOpen.{Term-F}
use Rattle.ap_term.specs.declared.term.Subst.{Subst}
use Rattle.ap_term.specs.Equal.{term_eq}
use Rattle.ap_term.specs.Matching.{Pairs}
use Rattle.ap_term.proofs.Equals.{term_eq-is}
use Rattle.ap_world.specs.declared.entry.Mask.{Mask}
use Rattle.ap_world.specs.Assume.{assume}
use Rattle.ap_world.specs.Facts.{Facts, KnownFacts}
use Rattle.ap_world.specs.Holding.{KnownPairs, part_of}
use Rattle.ap_world.specs.Meaning.{Defs}
use Rattle.ap_world.specs.Names.{not_name, less_name}
use Rattle.ap_world.specs.Primitives.{prim_of}
use Rattle.ap_world.specs.Rules.{Rule}
use Rattle.ap_world.specs.Shapes.{is_constant, shape_of}
use Rattle.ap_world.specs.Sound.{known, is_head}
use Rattle.ap_world.specs.Typing.{types}
use Rattle.ap_world.specs.Units.{metered}
use Rattle.ap_world.specs.World.{Shown, function_of, theorem_of}
use Rattle.ap_world.proofs.Written.{out_call}
use Rattle.ap_kernel.specs.declared.derivations.Derivation.{Derivation}
use Rattle.ap_kernel.specs.declared.derivations.Row.{Row}
use Rattle.ap_kernel.specs.declared.derivations.Row.TheVariants as row
use Rattle.ap_kernel.specs.declared.objects.Ctx.{Ctx}
use Rattle.ap_kernel.specs.declared.objects.Equiv.{Equiv}
use Rattle.ap_kernel.specs.declared.objects.Mode.{Mode}
use Rattle.ap_kernel.specs.declared.objects.Mode.TheVariants.{Equal, Iff}
use Rattle.ap_kernel.specs.declared.objects.Sequent.{Sequent}
use Rattle.ap_kernel.specs.Answers.{trans_made, weakened, branch_made, chosen_made, ModeFits, IsArgument, said, is_unchanged, cong_made, fact_made}
use Rattle.ap_kernel.specs.Applying.{applied_made, AllLead, PartRelieved, conjunct_at}
use Rattle.ap_kernel.specs.Choices.{bare_test, is_truth, is_choice, choice_made, double_not_made}
use Rattle.ap_kernel.specs.Deriving.{equiv, node, listed, why_of, branch_why, said_of, row_says, row_known}
use Rattle.ap_kernel.specs.Equations.{equation_leads, equation_made}
use Rattle.ap_kernel.specs.Linear.{less_of, is_within_integers, not_less_made, equal_made, NeitherLess}
use Rattle.ap_kernel.specs.Masks.{leads_to, typed_made}
use Rattle.ap_kernel.specs.Opening.{opened, is_constant_call}
use Rattle.ap_kernel.specs.Rows
use Rattle.ap_kernel.specs.Rows.{goes_on, fits_call, is_branch, all_lead, gives_value, is_mask, less_sides, neither_less}
use Rattle.ap_kernel.specs.Sameness.{mode_eq, facts_eq, where_so}
use Rattle.ap_kernel.specs.Splits.{and_then}
use Rattle.ap_kernel.specs.Standing.{Holds, Stands, SameSides}
use Rattle.ap_kernel.proofs.ApplyingStands.{rule_at, part_found, conjunct_made}
use Rattle.ap_kernel.proofs.CallsStand.{branch_same}
use Rattle.ap_kernel.proofs.Derived.{derived_by, listed_by, one_said, two_said, three_said, Gives, all_said, all_stand, equivs_all, facts_eq-is, ctx_eq-is, mode_eq-is, sequent_eq-is, is_mask-is, is_so, facts_known, pairs_known, both_known, stands_by, stands_same}

-- a row that is handed nothing
alone_gives : (w : Shown) (r : Row) (s : Sequent) → row_known w r ≡ true → row_says w r [] ≡ Some (equiv s) → said_of w (node r []) ≡ Some (equiv s)
alone_gives w r s k e = derived_by w r [] [] (equiv s) k refl e

-- trans
pub trans_derived : (w : Shown) (a b : Equiv) → Gives w a → Gives w b → a.says.ctx ≡ b.says.ctx → a.says.mode ≡ b.says.mode → a.says.rhs ≡ b.says.lhs
    → said_of w (node row.Trans (why_of a ∷ why_of b ∷ [])) ≡ Some (equiv (trans_made a.says b.says))
trans_derived w a b h k facts mode middle =
    let so : goes_on a.says b.says ≡ true = and_true _ _ (ctx_eq-is a.says.ctx b.says.ctx facts) (and_true _ _ (mode_eq-is a.says.mode b.says.mode mode) (term_eq-is a.says.rhs b.says.lhs middle)) in
    derived_by w row.Trans (why_of a ∷ why_of b ∷ []) (equiv a.says ∷ equiv b.says ∷ []) (equiv (trans_made a.says b.says)) refl (two_said w (why_of a) (why_of b) (equiv a.says) (equiv b.says) h k)
    (ap (option_map equiv) (is_so (goes_on a.says b.says) (trans_made a.says b.says) so))

-- where the sides of the second are one term, both one after another are the first
pub trans_first : (a b : Equiv) → SameSides b → is_unchanged b ≡ true → a.says.rhs ≡ b.says.lhs → a.says ≡ trans_made a.says b.says
trans_first a b same k middle = ap (λ r. record { ctx = a.says.ctx; mode = a.says.mode; lhs = a.says.lhs; rhs = r }) (middle ∙ same k)

-- where those of the first are, they are the second
pub trans_second : (a b : Equiv) → SameSides a → is_unchanged a ≡ true → a.says.ctx ≡ b.says.ctx → a.says.mode ≡ b.says.mode → a.says.rhs ≡ b.says.lhs → b.says ≡ trans_made a.says b.says
trans_second a b same k facts mode middle =
    ap (λ c. record { ctx = c; mode = b.says.mode; lhs = b.says.lhs; rhs = b.says.rhs }) (sym facts)
    ∙ ap (λ m. record { ctx = a.says.ctx; mode = m; lhs = b.says.lhs; rhs = b.says.rhs }) (sym mode)
    ∙ ap (λ u. record { ctx = a.says.ctx; mode = a.says.mode; lhs = u; rhs = b.says.rhs }) (sym (same k ∙ middle))

-- weaken_mode
pub weaken_derived : (w : Shown) (a : Equiv) → Gives w a → a.says.mode ≡ Equal → said_of w (node row.WeakenMode (why_of a ∷ [])) ≡ Some (equiv (weakened a.says))
weaken_derived w a h mode =
    derived_by w row.WeakenMode (why_of a ∷ []) (equiv a.says ∷ []) (equiv (weakened a.says)) refl (one_said w (why_of a) (equiv a.says) h)
    (ap (option_map equiv) (is_so (mode_eq a.says.mode Equal) (weakened a.says) (mode_eq-is a.says.mode Equal mode)))

-- cong
fits_mode : (f : Symbol) (m : Mode) → ModeFits (symbol_eq f not_name) m → (symbol_eq f not_name || mode_eq m Equal) ≡ true
fits_mode f m h = go (symbol_eq f not_name) h
  where
    go : (b : Bool) → ModeFits b m → (b || mode_eq m Equal) ≡ true
    go true h = refl
    go false h = mode_eq-is m Equal h

all_fit : (w : Shown) (c : Ctx) (f : Symbol) (qs : List Equiv) → Each (IsArgument w c f) qs → all_true (map (fits_call c f) (said qs)) ≡ true
all_fit w c f [] h = refl
all_fit w c f (q ∷ qs) h =
    and_true _ _ (and_true _ _ (ctx_eq-is q.says.ctx c h.0.fits.facts) (fits_mode f q.says.mode h.0.fits.mode)) (all_fit w c f qs h.1)

all_give : (w : Shown) (c : Ctx) (f : Symbol) (qs : List Equiv) → Each (IsArgument w c f) qs → Each (Gives w) qs
all_give w c f [] h = tt
all_give w c f (q ∷ qs) h = (h.0.stands.derived, all_give w c f qs h.1)

as_many : (qs : List Equiv) → length (said qs) ≡ length qs
as_many [] = refl
as_many (q ∷ qs) = ap suc (as_many qs)

pub cong_derived : (w : Shown) (c : Ctx) (f : Symbol) (qs : List Equiv) → KnownFacts (function_of w.entries) c.0 → is_head (function_of w.entries) f (prim_of f) (length qs) ≡ true
    → Each (IsArgument w c f) qs → said_of w (listed (row.Cong c f) (map why_of qs)) ≡ Some (equiv (cong_made c f (said qs)))
cong_derived w c f qs facts head args =
    let D = function_of w.entries in
    let here : is_head D f (prim_of f) (length (said qs)) ≡ true = subst (λ n. is_head D f (prim_of f) n ≡ true) (sym (as_many qs)) head in
    listed_by w (row.Cong c f) (map why_of qs) (map equiv (said qs)) (equiv (cong_made c f (said qs))) (facts_known D c.0 facts) (all_said w qs (all_give w c f qs args))
    (ap (λ o. and_then o (λ ss. option_map equiv (Rows.cong_says D c f ss))) (equivs_all (said qs))
    ∙ ap (option_map equiv) (is_so _ (cong_made c f (said qs)) (and_true _ _ here (all_fit w c f qs args))))

-- branch
abbrev pub Branches : Mode → Equiv → Bool → Equiv → Type 0
Branches m test s q = (q.says.mode ≡ m) × (q.says.ctx.0 ≡ assume test.says.ctx.0 test.says.rhs s)

branches : (m : Mode) (test : Equiv) (s : Bool) (q : Equiv) → Branches m test s q → is_branch m test.says s q.says ≡ true
branches m test s q h = and_true _ _ (mode_eq-is q.says.mode m h.0) (facts_eq-is q.says.ctx.0 (assume test.says.ctx.0 test.says.rhs s) h.1)

branch_derived : (w : Shown) (m : Mode) (test on off : Equiv) → Gives w test → Gives w on → Gives w off → Branches m test true on → Branches m test false off
    → said_of w (node (row.Branch m) (why_of test ∷ why_of on ∷ why_of off ∷ [])) ≡ Some (equiv (branch_made m test.says on.says off.says))
branch_derived w m test on off h k l first second =
    derived_by w (row.Branch m) (why_of test ∷ why_of on ∷ why_of off ∷ []) (equiv test.says ∷ equiv on.says ∷ equiv off.says ∷ []) (equiv (branch_made m test.says on.says off.says)) refl
    (three_said w (why_of test) (why_of on) (why_of off) (equiv test.says) (equiv on.says) (equiv off.says) h k l)
    (ap (option_map equiv) (is_so _ (branch_made m test.says on.says off.says) (and_true _ _ (branches m test true on first) (branches m test false off second))))

pub branch_given : (w : Shown) (m : Mode) (test on off q : Equiv) → Stands w test → Stands w on → Stands w off → Branches m test true on → Branches m test false off
    → q.says ≡ branch_made m test.says on.says off.says → q.why ≡ branch_why m test on off
    → Holds (function_of w.entries) (branch_made m test.says on.says off.says) → Stands w q
branch_given w m test on off q h k l first second e why holds = go (is_unchanged test && (is_unchanged on && is_unchanged off)) refl why
  where
    d : Derivation
    d = node (row.Branch m) (why_of test ∷ why_of on ∷ why_of off ∷ [])

    go : (b : Bool) → (is_unchanged test && (is_unchanged on && is_unchanged off)) ≡ b → q.why ≡ cond b None (Some d) → Stands w q
    go true u why = stands_same w q (branch_made m test.says on.says off.says) e why (branch_same m test on off h.same k.same l.same u) holds
    go false u why = stands_by w q (branch_made m test.says on.says off.says) d e why (branch_derived w m test on off h.derived k.derived l.derived first second) holds

-- choose_branch
pub chosen_derived : (w : Shown) (m : Mode) (test : Equiv) (s : Bool) (b c : Term) → Gives w test → is_constant s test.says.rhs ≡ true
    → known (function_of w.entries) b ≡ true → known (function_of w.entries) c ≡ true
    → said_of w (node (row.ChooseBranch m s b c) (why_of test ∷ [])) ≡ Some (equiv (chosen_made m test.says s b c))
chosen_derived w m test s b c h constant k l =
    derived_by w (row.ChooseBranch m s b c) (why_of test ∷ []) (equiv test.says ∷ []) (equiv (chosen_made m test.says s b c)) (and_true _ _ k (and_true _ _ l refl))
    (one_said w (why_of test) (equiv test.says) h) (ap (option_map equiv) (is_so _ (chosen_made m test.says s b c) constant))

-- open_def
pub open_derived : (w : Shown) (c : Ctx) (u r : Term) → KnownFacts (function_of w.entries) c.0 → known (function_of w.entries) u ≡ true → opened (function_of w.entries) u ≡ Some r
    → said_of w (node (row.OpenDef c u) []) ≡ Some (equiv (equation_made c u r))
open_derived w c u r facts k e =
    alone_gives w (row.OpenDef c u) (equation_made c u r) (and_true _ _ k (facts_known (function_of w.entries) c.0 facts))
    (ap (λ o. option_map equiv (option_map (equation_made c u) o)) e)

-- apply_theorem
all_leading : (c : Ctx) (s : Pairs) (hs : List Term) (qs : List Equiv) → AllLead c s hs qs → all_lead c s hs (said qs) ≡ true
all_leading c s [] [] h = refl
all_leading c s (t ∷ hs) (q ∷ qs) h =
    and_true _ _ (and_true _ _ (ctx_eq-is q.says.ctx c h.0.facts) (and_true _ _ (term_eq-is q.says.lhs _ h.0.left) (term_eq-is q.says.rhs _ h.0.right))) (all_leading c s hs qs h.1)
all_leading c s [] (q ∷ qs) h = absurd h
all_leading c s (t ∷ hs) [] h = absurd h

apply_derived : (w : Shown) (c : Ctx) (f : Symbol) (i : ℕ) (z : Subst) (g : Rule) (qs : List Equiv) → KnownFacts (function_of w.entries) c.0 → KnownPairs (function_of w.entries) z.0 → Each (Stands w) qs
    → part_of w.entries f i ≡ Some g → AllLead c z.0 g.hyps qs → said_of w (listed (row.ApplyTheorem c f i z) (map why_of qs)) ≡ Some (equiv (applied_made c z.0 g))
apply_derived w c f i z g qs facts pairs ss there leads =
    listed_by w (row.ApplyTheorem c f i z) (map why_of qs) (map equiv (said qs)) (equiv (applied_made c z.0 g))
    (both_known _ _ _ (pairs_known (function_of w.entries) z.0 pairs) (facts_known (function_of w.entries) c.0 facts)) (all_said w qs (all_stand w qs ss))
    (ap (λ o. and_then o (λ ss. option_map equiv (Rows.apply_says w c f i z.0 ss))) (equivs_all (said qs))
    ∙ ap (λ o. option_map equiv (and_then o (λ (g : Rule). where_so (all_lead c z.0 g.hyps (said qs)) (applied_made c z.0 g)))) there
    ∙ ap (option_map equiv) (is_so _ (applied_made c z.0 g) (all_leading c z.0 g.hyps qs leads)))

pub conjunct_derived : (w : Shown) (c : Ctx) (f : Symbol) (i : ℕ) (z : Subst) (qs : List Equiv) (u : Term) → conjunct_at i (theorem_of w.entries f) ≡ Some u
    → KnownFacts (function_of w.entries) c.0 → KnownPairs (function_of w.entries) z.0 → Each (Stands w) qs → PartRelieved c z.0 (part_of w.entries f i) qs
    → said_of w (listed (row.ApplyTheorem c f i z) (map why_of qs)) ≡ Some (equiv (conjunct_made c z.0 u))
conjunct_derived w c f i z qs u h facts pairs ss rs =
    let r = part_found f i (theorem_of w.entries f) u h in
    apply_derived w c f i z (rule_at f r.0 r.1 u) qs facts pairs ss r.2 (subst (λ o. PartRelieved c z.0 o qs) r.2 rs)

-- fold
pub fold_derived : (w : Shown) (c : Ctx) (u : Term) (v : Value) → KnownFacts (function_of w.entries) c.0 → known (function_of w.entries) u ≡ true → is_constant_call u ≡ true
    → gives_value v (metered (function_of w.entries) u [] 2000) ≡ true → said_of w (node (row.Fold c u v) []) ≡ Some (equiv (equation_made c u (Quote v)))
fold_derived w c u v facts k constants run =
    alone_gives w (row.Fold c u v) (equation_made c u (Quote v)) (and_true _ _ k (facts_known (function_of w.entries) c.0 facts))
    (ap (option_map equiv) (is_so _ (equation_made c u (Quote v)) (and_true _ _ constants run)))

-- by_type
pub type_derived : (w : Shown) (c : Ctx) (u : Term) (m : Mask) (v : Value) → KnownFacts (function_of w.entries) c.0 → known (function_of w.entries) u ≡ true → m.0 ≡ types w c.0 u
    → leads_to m (val_of v) ≡ true → said_of w (node (row.ByType c u m v) []) ≡ Some (equiv (typed_made c u m v))
type_derived w c u m v facts k exact leads =
    alone_gives w (row.ByType c u m v) (typed_made c u m v) (and_true _ _ k (facts_known (function_of w.entries) c.0 facts))
    (ap (option_map equiv) (is_so _ (typed_made c u m v) (and_true _ _ (is_mask-is w c.0 u m exact) leads)))

-- by_fact
pub fact_derived : (w : Shown) (c : Ctx) (i : ℕ) (u : Term) (s : Bool) → KnownFacts (function_of w.entries) c.0 → slice_get c.0 i ≡ Some (u, s)
    → said_of w (node (row.ByFact c i) []) ≡ Some (equiv (fact_made c u s))
fact_derived w c i u s facts e =
    alone_gives w (row.ByFact c i) (fact_made c u s) (facts_known (function_of w.entries) c.0 facts)
    (ap (λ o. option_map equiv (option_map (λ (f : Term × Bool). fact_made c f.0 f.1) o)) e)

-- cons_equal
pub equal_derived : (w : Shown) (c : Ctx) (u r : Term) → KnownFacts (function_of w.entries) c.0 → known (function_of w.entries) u ≡ true → equation_leads c.0 u ≡ Some r
    → said_of w (node (row.ConsEqual c u) []) ≡ Some (equiv (equation_made c u r))
equal_derived w c u r facts k e =
    alone_gives w (row.ConsEqual c u) (equation_made c u r) (and_true _ _ k (facts_known (function_of w.entries) c.0 facts))
    (ap (λ o. option_map equiv (option_map (equation_made c u) o)) e)

-- if_shape
pub shape_derived : (w : Shown) (c : Ctx) (o : Mode) (u : Term) (m : Mask) → KnownFacts (function_of w.entries) c.0 → known (function_of w.entries) u ≡ true → is_choice (shape_of u) ≡ true
    → m.0 ≡ types w c.0 (bare_test u) → said_of w (node (row.IfShape c o u m) []) ≡ Some (equiv (choice_made c o u m))
shape_derived w c o u m facts k choice exact =
    alone_gives w (row.IfShape c o u m) (choice_made c o u m) (and_true _ _ k (facts_known (function_of w.entries) c.0 facts))
    (ap (option_map equiv) (is_so _ (choice_made c o u m) (and_true _ _ choice (is_mask-is w c.0 (bare_test u) m exact))))

-- double_not
pub double_derived : (w : Shown) (c : Ctx) (o : Mode) (u : Term) (m : Mask) → KnownFacts (function_of w.entries) c.0 → known (function_of w.entries) u ≡ true → m.0 ≡ types w c.0 u
    → is_truth o m ≡ true → said_of w (node (row.DoubleNot c o u m) []) ≡ Some (equiv (double_not_made c o u))
double_derived w c o u m facts k exact truth =
    alone_gives w (row.DoubleNot c o u m) (double_not_made c o u) (and_true _ _ k (facts_known (function_of w.entries) c.0 facts))
    (ap (option_map equiv) (is_so _ (double_not_made c o u) (and_true _ _ (is_mask-is w c.0 u m exact) truth)))

-- both_not_less
less_parts : (a b : Term) → less_sides (out-Term (less_of a b)) ≡ Some (a, b)
less_parts a b = ap less_sides (out_call less_name (a ∷ b ∷ [])) ∙ is_so _ (a, b) (symbol_eq-same less_name)

pub less_one : (a b c d : Term) → less_of a b ≡ less_of c d → (a ≡ c) × (b ≡ d)
less_one a b c d e =
    let same : Some (a, b) ≡ Some (c, d) = sym (less_parts a b) ∙ ap (λ (u : Term). less_sides (out-Term u)) e ∙ less_parts c d in
    (ap left same, ap right same)
  where
    left : Option (Term × Term) → Term
    left None = a
    left (Some p) = p.0

    right : Option (Term × Term) → Term
    right None = b
    right (Some p) = p.1

pub not_less_derived : (w : Shown) (c : Ctx) (p q : Equiv) (m n : Mask) (k : NeitherLess (function_of w.entries) c p.says q.says m n) → Stands w p → Stands w q
    → m.0 ≡ types w c.0 k.left → n.0 ≡ types w c.0 k.right → is_within_integers m ≡ true → is_within_integers n ≡ true
    → said_of w (node (row.BothNotLess c m n) (why_of p ∷ why_of q ∷ [])) ≡ Some (equiv (equal_made c k.left k.right))
not_less_derived w c p q m n k h l left right im in' =
    let facts : KnownFacts (function_of w.entries) c.0 = subst (λ (s : Sequent). KnownFacts (function_of w.entries) s.ctx.0) k.less h.says.facts in
    let so : neither_less w c m n p.says q.says (k.left, k.right) ≡ true =
    and_true _ _ (and_true _ _ (sequent_eq-is p.says _ k.less) (sequent_eq-is q.says _ k.more))
    (and_true _ _ (and_true _ _ (is_mask-is w c.0 k.left m left) (is_mask-is w c.0 k.right n right)) (and_true _ _ im in')) in
    derived_by w (row.BothNotLess c m n) (why_of p ∷ why_of q ∷ []) (equiv p.says ∷ equiv q.says ∷ []) (equiv (equal_made c k.left k.right)) (facts_known (function_of w.entries) c.0 facts)
    (two_said w (why_of p) (why_of q) (equiv p.says) (equiv q.says) h.derived l.derived)
    (ap (λ o. option_map equiv (and_then o (λ (s : Term × Term). where_so (neither_less w c m n p.says q.says s) (equal_made c s.0 s.1))))
    (ap (λ (s : Sequent). less_sides (out-Term s.lhs)) k.less ∙ less_parts k.left k.right)
    ∙ ap (option_map equiv) (is_so _ (equal_made c k.left k.right) so))
