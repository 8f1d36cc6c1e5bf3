-- What a derivation gives, by its last row and what that was handed; and that an object stands by it.
use Rattle.std.proofs.Common.{◌≡◌, ℕ, suc, Bool, true, false, cond, ◌&&◌, List, [], ◌∷◌, ◌++◌, map, length, Option, Some, None, is_none, refl, ap, sym, ◌∙◌, subst}
use Rattle.std.proofs.lemmas.Bool.{false≢true, eq-eqb}
use Rattle.std.specs.Option.{option_map}
use Rattle.ap_list.specs.Lists.{Each, all_true, all_some, with_first}
use Rattle.ap_value.specs.Values.{bool_eq}
use Rattle.ap_value.proofs.Equals.{and_true, bool_eq-same}
use Rattle.ap_term.specs.declared.term.Term.{Term}
use Rattle.ap_term.specs.declared.term.Clause.{Clause}
use Rattle.ap_term.specs.Equal.{term_eq}
use Rattle.ap_term.specs.Matching.{Pairs}
use Rattle.ap_term.proofs.Equals.{term_eq-same, term_eq-is}
use Rattle.ap_world.specs.declared.entry.Mask.{Mask}
use Rattle.ap_world.specs.Facts.{Facts, KnownFacts}
use Rattle.ap_world.specs.Holding.{KnownPairs}
use Rattle.ap_world.specs.Meaning.{Defs}
use Rattle.ap_world.specs.Sound.{known}
use Rattle.ap_world.specs.Typing.{types}
use Rattle.ap_world.specs.World.{Shown, function_of}
use Rattle.ap_world.proofs.Knowing.{true_each}
use Rattle.ap_kernel.specs.declared.derivations.Derivation.{Derivation, fold-Derivation, fold-roll-Derivation, Leaf, One}
use Rattle.ap_kernel.specs.declared.derivations.Derivation.TheOpen.{Derivation-F}
use Rattle.ap_kernel.specs.declared.derivations.Derivation.TheVariants.{rolls-Leaf, rolls-One, rolls-Many}
use Rattle.ap_kernel.specs.declared.derivations.Row.{Row}
use Rattle.ap_kernel.specs.declared.derivations.Row.TheVariants as row
use Rattle.ap_kernel.specs.declared.objects.Ctx.{Ctx}
use Rattle.ap_kernel.specs.declared.objects.Equiv.{Equiv}
use Rattle.ap_kernel.specs.declared.objects.Mode.{Mode}
use Rattle.ap_kernel.specs.declared.objects.Mode.TheVariants.{Equal, Iff}
use Rattle.ap_kernel.specs.declared.objects.Sequent.{Sequent}
use Rattle.ap_kernel.specs.declared.reductions.Inference.{Inference}
use Rattle.ap_kernel.specs.declared.reductions.Reduction.{Reduction}
use Rattle.ap_kernel.specs.Answers.{refl_made, said}
use Rattle.ap_kernel.specs.Deriving.{Said, equiv, reduction, node, listed, why_by, why_of, equivs_in, reductions_in, facts_terms, pairs_terms, row_says, row_known, said_row, said_step, said_of}
use Rattle.ap_kernel.specs.Reductions.{KnownClause, Follows, Reduces, claims}
use Rattle.ap_kernel.specs.Rows.{is_mask}
use Rattle.ap_kernel.specs.Sameness.{mode_eq, facts_eq, terms_eq, clauses_eq, sequent_eq, where_so}
use Rattle.ap_kernel.specs.Splits.{and_then}
use Rattle.ap_kernel.specs.Standing.{Holds, Stands}

-- what a derivation gives, by its row and what that was handed
said_leaf : (w : Shown) (r : Row) → said_of w (Leaf r) ≡ said_row w r []
unfolding said_of
said_leaf w r = ap (fold-Derivation (Option Said) (said_step w)) (sym (rolls-Leaf r)) ∙ fold-roll-Derivation (Option Said) (said_step w) (Derivation-F.Leaf r)

said_one : (w : Shown) (r : Row) (d : Derivation) → said_of w (One r d) ≡ said_row w r (said_of w d ∷ [])
unfolding said_of
said_one w r d = ap (fold-Derivation (Option Said) (said_step w)) (sym (rolls-One r d)) ∙ fold-roll-Derivation (Option Said) (said_step w) (Derivation-F.One r d)

said_listed : (w : Shown) (r : Row) (ds : List Derivation) → said_of w (listed r ds) ≡ said_row w r (map (said_of w) ds)
unfolding said_of
said_listed w r ds = ap (fold-Derivation (Option Said) (said_step w)) (sym (rolls-Many r ds)) ∙ fold-roll-Derivation (Option Said) (said_step w) (Derivation-F.Many r ds)

said_node : (w : Shown) (r : Row) (ds : List Derivation) → said_of w (node r ds) ≡ said_row w r (map (said_of w) ds)
said_node w r [] = said_leaf w r
said_node w r (d ∷ []) = said_one w r d
said_node w r (d ∷ e ∷ ds) = said_listed w r (d ∷ e ∷ ds)

-- a row whose terms are known gives what it answers
row_gives : (w : Shown) (r : Row) (os : List (Option Said)) (ss : List Said) (s : Said) → row_known w r ≡ true → all_some os ≡ Some ss → row_says w r ss ≡ Some s → said_row w r os ≡ Some s
row_gives w r os ss s k h e = ap (λ b. cond b (and_then (all_some os) (row_says w r)) None) k ∙ ap (λ o. and_then o (row_says w r)) h ∙ e

pub derived_by : (w : Shown) (r : Row) (ds : List Derivation) (ss : List Said) (s : Said) → row_known w r ≡ true → all_some (map (said_of w) ds) ≡ Some ss → row_says w r ss ≡ Some s
    → said_of w (node r ds) ≡ Some s
derived_by w r ds ss s k h e = said_node w r ds ∙ row_gives w r (map (said_of w) ds) ss s k h e

pub listed_by : (w : Shown) (r : Row) (ds : List Derivation) (ss : List Said) (s : Said) → row_known w r ≡ true → all_some (map (said_of w) ds) ≡ Some ss → row_says w r ss ≡ Some s
    → said_of w (listed r ds) ≡ Some s
listed_by w r ds ss s k h e = said_listed w r ds ∙ row_gives w r (map (said_of w) ds) ss s k h e

-- what one gives, two and three
pub one_said : (w : Shown) (a : Derivation) (x : Said) → said_of w a ≡ Some x → all_some (map (said_of w) (a ∷ [])) ≡ Some (x ∷ [])
one_said w a x h = ap (λ o. all_some (o ∷ [])) h

pub two_said : (w : Shown) (a b : Derivation) (x y : Said) → said_of w a ≡ Some x → said_of w b ≡ Some y → all_some (map (said_of w) (a ∷ b ∷ [])) ≡ Some (x ∷ y ∷ [])
two_said w a b x y h k = ap (λ o. all_some (o ∷ said_of w b ∷ [])) h ∙ ap (λ o. all_some (Some x ∷ o ∷ [])) k

pub three_said : (w : Shown) (a b c : Derivation) (x y z : Said) → said_of w a ≡ Some x → said_of w b ≡ Some y → said_of w c ≡ Some z
    → all_some (map (said_of w) (a ∷ b ∷ c ∷ [])) ≡ Some (x ∷ y ∷ z ∷ [])
three_said w a b c x y z h k l =
    ap (λ o. all_some (o ∷ said_of w b ∷ said_of w c ∷ [])) h ∙ ap (λ o. all_some (Some x ∷ o ∷ said_of w c ∷ [])) k ∙ ap (λ o. all_some (Some x ∷ Some y ∷ o ∷ [])) l

-- of each of a list
abbrev pub Gives : Shown → Equiv → Type 0
Gives w q = said_of w (why_of q) ≡ Some (equiv q.says)

pub all_said : (w : Shown) (qs : List Equiv) → Each (Gives w) qs → all_some (map (said_of w) (map why_of qs)) ≡ Some (map equiv (said qs))
all_said w [] h = refl
all_said w (q ∷ qs) h = ap (λ o. all_some (o ∷ map (said_of w) (map why_of qs))) h.0 ∙ ap (with_first (equiv q.says)) (all_said w qs h.1)

pub all_stand : (w : Shown) (qs : List Equiv) → Each (Stands w) qs → Each (Gives w) qs
all_stand w [] h = tt
all_stand w (q ∷ qs) h = (h.0.derived, all_stand w qs h.1)

pub equivs_all : (ss : List Sequent) → equivs_in (map equiv ss) ≡ Some ss
equivs_all [] = refl
equivs_all (s ∷ ss) = ap (with_first s) (equivs_all ss)

abbrev pub whys : List Reduction → List Derivation
whys rs = map (λ (r : Reduction). r.why) rs

pub all_reduced : (w : Shown) (rs : List Reduction) → Each (Reduces w) rs → all_some (map (said_of w) (whys rs)) ≡ Some (map reduction (claims rs))
all_reduced w [] h = refl
all_reduced w (r ∷ rs) h = ap (λ o. all_some (o ∷ map (said_of w) (whys rs))) h.0.derived ∙ ap (with_first (reduction r.says)) (all_reduced w rs h.1)

pub reductions_all : (is : List Inference) → reductions_in (map reduction is) ≡ Some is
reductions_all [] = refl
reductions_all (i ∷ is) = ap (with_first i) (reductions_all is)

-- tests of equality are true of what is the same
pub mode_eq-same : (m : Mode) → mode_eq m m ≡ true
mode_eq-same Equal = refl
mode_eq-same Iff = refl

pub facts_eq-same : (fs : Facts) → facts_eq fs fs ≡ true
facts_eq-same [] = refl
facts_eq-same (f ∷ fs) = and_true _ _ (and_true _ _ (term_eq-same f.0) (bool_eq-same f.1)) (facts_eq-same fs)

pub terms_eq-same : (ts : List Term) → terms_eq ts ts ≡ true
terms_eq-same [] = refl
terms_eq-same (t ∷ ts) = and_true _ _ (term_eq-same t) (terms_eq-same ts)

pub clauses_eq-same : (cs : List Clause) → clauses_eq cs cs ≡ true
clauses_eq-same [] = refl
clauses_eq-same (c ∷ cs) = and_true _ _ (terms_eq-same c.0) (clauses_eq-same cs)

pub facts_eq-is : (fs gs : Facts) → fs ≡ gs → facts_eq fs gs ≡ true
facts_eq-is fs gs e = subst (λ hs. facts_eq fs hs ≡ true) e (facts_eq-same fs)

pub ctx_eq-is : (c d : Ctx) → c ≡ d → facts_eq c.0 d.0 ≡ true
ctx_eq-is c d e = facts_eq-is c.0 d.0 (ap (λ (c : Ctx). c.0) e)

pub mode_eq-is : (m n : Mode) → m ≡ n → mode_eq m n ≡ true
mode_eq-is m n e = subst (λ k. mode_eq m k ≡ true) e (mode_eq-same m)

pub sequent_eq-is : (a b : Sequent) → a ≡ b → sequent_eq a b ≡ true
sequent_eq-is a b e = subst (λ s. sequent_eq a s ≡ true) e
    (and_true _ _ (facts_eq-same a.ctx.0) (and_true _ _ (mode_eq-same a.mode) (and_true _ _ (term_eq-same a.lhs) (term_eq-same a.rhs))))

pub is_mask-is : (w : Shown) (fs : Facts) (u : Term) (m : Mask) → m.0 ≡ types w fs u → is_mask w fs u m ≡ true
is_mask-is w fs u m e = eq-eqb m.0 (types w fs u) e

-- what is so is answered
pub is_so : {A : Type 0} (b : Bool) (a : A) → b ≡ true → where_so b a ≡ Some a
is_so b a h = ap (λ k. where_so k a) h

-- the terms of known facts are known, those of known pairs, and those of two lists
pub facts_known : (D : Defs) (fs : Facts) → KnownFacts D fs → all_true (map (known D) (facts_terms fs)) ≡ true
facts_known D [] h = refl
facts_known D (f ∷ fs) h = and_true _ _ h.0 (facts_known D fs h.1)

pub pairs_known : (D : Defs) (s : Pairs) → KnownPairs D s → all_true (map (known D) (pairs_terms s)) ≡ true
pairs_known D [] h = refl
pairs_known D (p ∷ s) h = and_true _ _ h.0 (pairs_known D s h.1)

pub both_known : (D : Defs) (ts us : List Term) → all_true (map (known D) ts) ≡ true → all_true (map (known D) us) ≡ true → all_true (map (known D) (ts ++ us)) ≡ true
both_known D ts us h k = go ts h
  where
    go : (ts : List Term) → all_true (map (known D) ts) ≡ true → all_true (map (known D) (ts ++ us)) ≡ true
    go [] h = k
    go (t ∷ ts) h = next (known D t) h (go ts)
      where
        next : (b : Bool) → (b && all_true (map (known D) ts)) ≡ true → (all_true (map (known D) ts) ≡ true → all_true (map (known D) (ts ++ us)) ≡ true)
            → (b && all_true (map (known D) (ts ++ us))) ≡ true
        next true h k = k h
        next false h k = cc

pub clause_known : (D : Defs) (c : Clause) → KnownClause D c → all_true (map (known D) c.0) ≡ true
clause_known D c k = true_each (known D) c.0 k

-- refl
pub refl_derived : (w : Shown) (c : Ctx) (m : Mode) (u : Term) → KnownFacts (function_of w.entries) c.0 → known (function_of w.entries) u ≡ true
    → said_of w (node (row.Refl c m u) []) ≡ Some (equiv (refl_made c m u))
refl_derived w c m u facts k = derived_by w (row.Refl c m u) [] [] (equiv (refl_made c m u)) (and_true _ _ k (facts_known (function_of w.entries) c.0 facts)) refl refl

-- an equivalence stands where what it says holds, and what is kept of it gives that
pub stands_by : (w : Shown) (q : Equiv) (s : Sequent) (d : Derivation) → q.says ≡ s → q.why ≡ Some d → said_of w d ≡ Some (equiv s) → Holds (function_of w.entries) s → Stands w q
stands_by w q s d e why given h = record {
  says = subst (Holds (function_of w.entries)) (sym e) h;
  same = λ k. absurd (false≢true (sym (ap is_none why) ∙ k));
  derived = ap (λ o. said_of w (why_by q.says.ctx q.says.mode q.says.lhs o)) why ∙ given ∙ ap (λ t. Some (equiv t)) (sym e);
}

-- one of which nothing is kept leads from a term to itself
pub stands_same : (w : Shown) (q : Equiv) (s : Sequent) → q.says ≡ s → q.why ≡ None → s.lhs ≡ s.rhs → Holds (function_of w.entries) s → Stands w q
stands_same w q s e why same h = record {
  says = subst (Holds (function_of w.entries)) (sym e) h;
  same = λ k. subst (λ (x : Sequent). x.lhs ≡ x.rhs) (sym e) same;
  derived = ap (λ o. said_of w (why_by q.says.ctx q.says.mode q.says.lhs o)) why ∙ subst (λ (x : Sequent). said_of w (node (row.Refl x.ctx x.mode x.lhs) []) ≡ Some (equiv x)) (sym e) given;
}
  where
    given : said_of w (node (row.Refl s.ctx s.mode s.lhs) []) ≡ Some (equiv s)
    given = refl_derived w s.ctx s.mode s.lhs h.facts h.left ∙ ap (λ r. Some (equiv (record { ctx = s.ctx; mode = s.mode; lhs = s.lhs; rhs = r }))) same

pub reduces_by : (w : Shown) (r : Reduction) (i : Inference) (d : Derivation) → r ≡ record { says = i; why = d } → said_of w d ≡ Some (reduction i) → Follows (function_of w.entries) i → Reduces w r
reduces_by w r i d e given h = subst (Reduces w) (sym e) (record { says = h; derived = given })
