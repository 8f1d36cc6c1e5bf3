-- The clause that is left, where a literal of it becomes what it leads to.
use Rattle.std.proofs.Common.{◌≡◌, ℕ, zero, suc, ◌+◌, ◌<◌, true, List, [], ◌∷◌, length, take, drop, Option, Some, None, IfSome, slice_get, get_or, sym, ap, ◌∙◌, subst}
use Rattle.ap_list.specs.Lists.{Each}
use Rattle.ap_term.specs.declared.term.Term.{Term}
use Rattle.ap_term.specs.declared.term.Clause.{Clause}
use Rattle.ap_term.specs.Metered.{Got, mapped}
use Rattle.ap_world.specs.Meaning.{Defs}
use Rattle.ap_world.specs.World.{Shown}
use Rattle.ap_kernel.specs.declared.objects.Equiv.{Equiv}
use Rattle.ap_kernel.specs.declared.reductions.Inference.{Inference}
use Rattle.ap_kernel.specs.declared.reductions.Reduction.{Reduction}
use Rattle.ap_kernel.specs.Answers.{is_unchanged}
use Rattle.ap_kernel.specs.Standing.{Stands}
use Rattle.ap_kernel.specs.Reductions.{KnownClause, put_at, others, all_false, to_one, rewritten}
use Rattle.ap_rewrite.specs.Settings.{Setting}
use Rattle.ap_rewrite.specs.Literals.{rewrite_literal}
use Rattle.ap_rewrite.specs.Answering.{got}
use Rattle.ap_rewrite.specs.Simplifying.{got_reduced, FitsLiteral}
use Rattle.ap_rewrite.proofs.Simplified.{put_next}

-- the one clause that is left, read
module _ (cs : List Clause) (us : List Term) (d : Clause) (one : cs ≡ record { 0 = us } ∷ []) (read : d ≡ get_or cs 0 d) where
  pub read_is : d ≡ record { 0 = us }
  read_is = read ∙ ap (λ (xs : List Clause). get_or xs 0 d) one

  pub read_known : (D : Defs) → Each (KnownClause D) cs → KnownClause D d
  read_known D ks =
      let first : Each (KnownClause D) (record { 0 = us } ∷ []) = subst (Each (KnownClause D)) one ks in
      subst (KnownClause D) (sym read_is) first.0

  pub read_within : (i : ℕ) → i < length us → i < length d.0
  read_within i h = subst (λ (x : Clause). i < length x.0) (sym read_is) h

  pub read_got : (S : Setting) (o : Option Equiv) (i n m : ℕ) (u : Term)
      → ((v : Term) → slice_get d.0 i ≡ Some v → got o m ≡ rewrite_literal S (take i d.0) (drop (i + 1) d.0) v n)
      → slice_get us i ≡ Some u → got o m ≡ rewrite_literal S (take i us) (drop (i + 1) us) u n
  read_got S o i n m u h at =
      let there : slice_get d.0 i ≡ Some u = subst (λ (x : Clause). slice_get x.0 i ≡ Some u) (sym read_is) at in
      subst (λ (x : Clause). got o m ≡ rewrite_literal S (take i x.0) (drop (i + 1) x.0) u n) read_is (h u there)

-- one list of literals is left
one_list : (cs : List Clause) (us vs : List Term) → cs ≡ record { 0 = us } ∷ [] → cs ≡ record { 0 = vs } ∷ [] → us ≡ vs
one_list cs us vs e k =
    let same : ◌≡◌ {A = List Clause} (record { 0 = us } ∷ []) (record { 0 = vs } ∷ []) = sym e ∙ k in
    ap first same
  where
    first : List Clause → List Term
    first [] = []
    first (x ∷ xs) = x.0

-- what is known of the literal of the clause that is read fits the clause that is left
pub read_fits : (q : Inference) (vs : List Term) (d : Clause) (i : ℕ) (o : Option Equiv) → q.to ≡ record { 0 = vs } ∷ [] → d ≡ record { 0 = vs }
    → IfSome o (λ e. slice_get d.0 i ≡ Some e.says.lhs) → IfSome o (λ e. e.says.ctx.0 ≡ all_false (others i d.0)) → IfSome o (FitsLiteral q i)
read_fits q vs d i None one is here facts = tt
read_fits q vs d i (Some e) one is here facts = record {
  here = λ us to. subst (λ (xs : List Term). slice_get xs i ≡ Some e.says.lhs) (ap (λ (x : Clause). x.0) is ∙ one_list q.to vs us one to) here;
  facts = λ us to. subst (λ (xs : List Term). e.says.ctx.0 ≡ all_false (others i xs)) (ap (λ (x : Clause). x.0) is ∙ one_list q.to vs us one to) facts;
}

-- a literal in its own place
pub put_same : (i : ℕ) (us : List Term) (u : Term) → slice_get us i ≡ Some u → put_at i (u ∷ []) us ≡ us
put_same i [] u h = cc
put_same zero (t ∷ us) u h = let same : t ≡ u = cc in ap (λ x. x ∷ us) (sym same)
put_same (suc i) (t ∷ us) u h = put_next i (u ∷ []) us t ∙ ap (λ xs. t ∷ xs) (put_same i us u h)

-- the clause that is left, once a literal has become what it leads to
pub put_says : (q n p : Inference) (c : Clause) (us : List Term) (i : ℕ) (v : Term) → us ≡ c.0 → n ≡ rewritten c i v → p ≡ record { from = q.from; to = n.to } → p ≡ to_one q.from (put_at i (v ∷ []) us)
put_says q n p c us i v same e k =
    k ∙ ap (λ (x : Inference). record { from = q.from; to = x.to }) e ∙ ap (λ (xs : List Term). to_one q.from (put_at i (v ∷ []) xs)) (sym same)

-- and where it leads to itself
pub unchanged_says : (w : Shown) (q : Inference) (us : List Term) (i : ℕ) (e : Equiv) → q.to ≡ record { 0 = us } ∷ [] → Stands w e → is_unchanged e ≡ true → FitsLiteral q i e
    → q ≡ to_one q.from (put_at i (e.says.rhs ∷ []) us)
unchanged_says w q us i e to stands flag fits =
    ap (λ (ds : List Clause). record { from = q.from; to = ds }) to
    ∙ ap (λ (xs : List Term). to_one q.from xs) (sym (put_same i us e.says.lhs (fits.here us to)))
    ∙ ap (λ (v : Term). to_one q.from (put_at i (v ∷ []) us)) (stands.same flag)

-- a step's answer, by what the literal leads to
pub step_none : (F : Term → Inference) (g : Got Term) → None ≡ g → None ≡ mapped F g
step_none F g e = ap (mapped F) e

pub step_some : (F : Term → Inference) (g : Got Term) (q : Equiv) (p : Reduction) (m : ℕ) → got (Some q) m ≡ g → p.says ≡ F q.says.rhs → got_reduced (Some p) m ≡ mapped F g
step_some F g q p m e k = ap (λ (x : Inference). Some (x, m)) k ∙ ap (mapped F) e
