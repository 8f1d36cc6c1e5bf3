-- Clauses without later equal ones.
use Rattle.std.proofs.Common.{◌≡◌, Bool, true, false, true≢false, cond, ◌||◌, ◌&&◌, ◌↔◌, IsTrue, List, [], ◌∷◌, ◌++◌, refl, ap, sym, ◌∙◌, subst}
use Rattle.ap_list.specs.Lists.{Each}
use Rattle.ap_value.proofs.Equals.{both}
use Rattle.ap_term.specs.declared.term.Term.{Term}
use Rattle.ap_term.specs.declared.term.Clause.{Clause}
use Rattle.ap_term.specs.Equal.{term_eq}
use Rattle.ap_term.proofs.Equals.{term_eq-true, term_eq-same}
use Rattle.ap_world.specs.Recursion.{args_eq}
use Rattle.ap_kernel.proofs.Reduced.{each_append, each_parts}
use Rattle.ap_strategy.specs.Steps.{is_repeated, unrepeated}

-- lists of terms that are one
pub same_args : (xs ys : List Term) → args_eq xs ys ≡ true → xs ≡ ys
same_args [] [] h = refl
same_args (x ∷ xs) (y ∷ ys) h =
    let p = both (term_eq x y) (args_eq xs ys) h in
    ap (λ u. u ∷ xs) (term_eq-true x y p.0) ∙ ap (λ us. y ∷ us) (same_args xs ys p.1)
same_args [] (y ∷ ys) h = cc
same_args (x ∷ xs) [] h = cc

args_same : (xs : List Term) → args_eq xs xs ≡ true
args_same [] = refl
args_same (x ∷ xs) = ap (λ b. b && args_eq xs xs) (term_eq-same x) ∙ args_same xs

-- a test that tells whether two lists are one
pub args_decided : (r : Bool) (xs ys : List Term) → (IsTrue r ↔ (xs ≡ ys)) → r ≡ args_eq xs ys
args_decided r xs ys h = go r (args_eq xs ys) refl h.0 h.1
  where
    go : (r b : Bool) → args_eq xs ys ≡ b → (IsTrue r → xs ≡ ys) → (xs ≡ ys → IsTrue r) → r ≡ b
    go true true q f g = refl
    go false false q f g = refl
    go true false q f g = absurd (true≢false (sym (ap (args_eq xs) (sym (f refl)) ∙ args_same xs) ∙ q))
    go false true q f g = absurd (true≢false (sym (g (same_args xs ys q))))

-- clauses without later equal ones
repeated_holds : (P : List Term → Type 0) (ds : List Clause) (c : Clause) → is_repeated ds c ≡ true → Each (λ (d : Clause). P d.0) ds → P c.0
repeated_holds P [] c h ps = absurd (true≢false (sym h))
repeated_holds P (d ∷ ds) c h ps = go (args_eq c.0 d.0) refl h (λ q. repeated_holds P ds c q ps.1)
  where
    go : (b : Bool) → args_eq c.0 d.0 ≡ b → (b || is_repeated ds c) ≡ true → (is_repeated ds c ≡ true → P c.0) → P c.0
    go true q h more = subst P (sym (same_args c.0 d.0 q)) ps.0
    go false q h more = more h

pub unrepeated_each : (P : Clause → Type 0) (ds cs : List Clause) → Each P ds → Each P cs → Each P (unrepeated ds cs)
unrepeated_each P ds [] ps qs = ps
unrepeated_each P ds (c ∷ cs) ps qs = unrepeated_each P (cond (is_repeated ds c) ds (ds ++ c ∷ [])) cs (go (is_repeated ds c)) qs.1
  where
    go : (b : Bool) → Each P (cond b ds (ds ++ c ∷ []))
    go true = ps
    go false = each_append P ds (c ∷ []) ps (qs.0, tt)

pub each_unrepeated : (P : List Term → Type 0) (ds cs : List Clause) → Each (λ (d : Clause). P d.0) (unrepeated ds cs) → Each (λ (d : Clause). P d.0) ds × Each (λ (d : Clause). P d.0) cs
each_unrepeated P ds [] h = (h, tt)
each_unrepeated P ds (c ∷ cs) h = let p = each_unrepeated P (cond (is_repeated ds c) ds (ds ++ c ∷ [])) cs h in go (is_repeated ds c) refl p.0 p.1
  where
    go : (b : Bool) → is_repeated ds c ≡ b → Each (λ (d : Clause). P d.0) (cond b ds (ds ++ c ∷ [])) → Each (λ (d : Clause). P d.0) cs
        → Each (λ (d : Clause). P d.0) ds × Each (λ (d : Clause). P d.0) (c ∷ cs)
    go true q ps qs = (ps, (repeated_holds P ds c q ps, qs))
    go false q ps qs = let r = each_parts (λ (d : Clause). P d.0) ds (c ∷ []) ps in (r.0, (r.1.0, qs))
