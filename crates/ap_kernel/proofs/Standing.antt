-- What stands, as an equation of values in a total world, and the rows that move terms alone.
use Rattle.std.proofs.Common.{◌≡◌, IsTrue, true, false, ◌&&◌, refl, subst, sym, ◌∙◌}
use Rattle.std.proofs.lemmas.Bool.{false≢true}
use Rattle.ap_value.specs.Values.{V}
use Rattle.ap_value.proofs.Equals.{both}
use Rattle.ap_term.specs.declared.term.Term.{Term}
use Rattle.ap_world.specs.Meaning.{Env, Defs, Total}
use Rattle.ap_world.specs.Sound.{known}
use Rattle.ap_world.specs.Facts.{KnownFacts, FactsHold}
use Rattle.ap_world.proofs.TotalMeaning.{Apply, Models, val, val_is, value_is, models}
use Rattle.ap_kernel.specs.declared.objects.Ctx.{Ctx}
use Rattle.ap_kernel.specs.declared.objects.Mode.{Mode}
use Rattle.ap_kernel.specs.declared.objects.Mode.TheVariants.{Equal, Iff}
use Rattle.ap_world.specs.World.{Shown, function_of}
use Rattle.ap_kernel.specs.declared.objects.Sequent.{Sequent}
use Rattle.ap_kernel.specs.declared.objects.Equiv.{Equiv}
use Rattle.ap_kernel.specs.Standing.{Same, Holds, Stands, SameSides}
use Rattle.ap_kernel.specs.Answers.{refl_made, trans_made, weakened}

pub same_refl : (m : Mode) (v : V) → Same m v v
same_refl Equal v = refl
same_refl Iff v = (λ h. h, λ h. h)

pub same_trans : (m : Mode) (u v w : V) → Same m u v → Same m v w → Same m u w
same_trans Equal u v w p q = p ∙ q
same_trans Iff u v w p q = (λ h. q.0 (p.0 h), λ h. p.1 (q.1 h))

pub same_iff : (v w : V) → v ≡ w → Same Iff v w
same_iff v w p = subst (λ x. Same Iff v x) p (same_refl Iff v)

pub same_of : (m : Mode) (v w : V) → v ≡ w → Same m v w
same_of m v w p = subst (λ x. Same m v x) p (same_refl m v)

-- the sides agree, as values
abbrev pub Agree : Apply → Sequent → Env → Type 0
Agree A q e = Same q.mode (val A q.lhs e) (val A q.rhs e)

pub agree : (D : Defs) (A : Apply) → Models D A → (q : Sequent) → Holds D q → (e : Env) → FactsHold D e q.ctx.0 → Agree A q e
agree D A m q s e k =
    let h = s.same e k in
    let left = value_is D A m q.lhs e h.0 h.2 in
    let right = value_is D A m q.rhs e h.1 h.3 in
    subst (λ x. Same q.mode x (val A q.rhs e)) left (subst (λ y. Same q.mode h.0 y) right h.4)

-- it stands where its terms are known and its sides agree wherever the facts hold
pub stand : (D : Defs) (A : Apply) → Models D A → (q : Sequent) → KnownFacts D q.ctx.0 → IsTrue (known D q.lhs) → IsTrue (known D q.rhs)
    → ((e : Env) → FactsHold D e q.ctx.0 → Agree A q e) → Holds D q
stand D A m q facts left right h = record {
  facts = facts;
  left = left;
  right = right;
  same = λ e k. (val A q.lhs e, val A q.rhs e, val_is D A m q.lhs left e, val_is D A m q.rhs right e, h e k);
}

pub refl_stands : (D : Defs) → Total D → (c : Ctx) (m : Mode) (u : Term) → KnownFacts D c.0 → IsTrue (known D u)
    → Holds D (refl_made c m u)
refl_stands D total c m u facts k =
    let (A, models) = models D total in
    stand D A models (refl_made c m u) facts k k (λ e h. same_refl m (val A u e))

pub trans_stands : (D : Defs) → Total D → (a b : Sequent) → Holds D a → Holds D b → a.ctx ≡ b.ctx → a.mode ≡ b.mode → a.rhs ≡ b.lhs
    → Holds D (trans_made a b)
trans_stands D total a b s r facts mode middle =
    let (A, models) = models D total in
    stand D A models (trans_made a b) s.facts s.left r.right
    (λ e h. same_trans a.mode (val A a.lhs e) (val A a.rhs e) (val A b.rhs e) (agree D A models a s e h)
    (subst (λ m. Same m (val A a.rhs e) (val A b.rhs e)) (sym mode)
    (subst (λ u. Same b.mode (val A u e) (val A b.rhs e)) (sym middle)
    (agree D A models b r e (subst (λ (c : Ctx). FactsHold D e c.0) facts h)))))

pub weaken_stands : (D : Defs) → Total D → (a : Sequent) → Holds D a → a.mode ≡ Equal
    → Holds D (weakened a)
weaken_stands D total a s mode =
    let (A, models) = models D total in
    stand D A models (weakened a) s.facts s.left s.right
    (λ e h. same_iff (val A a.lhs e) (val A a.rhs e) (subst (λ m. Same m (val A a.lhs e) (val A a.rhs e)) mode (agree D A models a s e h)))
