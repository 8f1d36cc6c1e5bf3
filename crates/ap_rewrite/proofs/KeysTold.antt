-- A place's term tells its facts and its functions.
use Rattle.std.proofs.Common.{◌≡◌, Bool, true, false, List, [], ◌∷◌, reverse, refl, sym, ap, ◌∙◌, true≢false}
use Rattle.std.proofs.lemmas.List.{reverse-reverse}
use Rattle.ap_list.specs.declared.text.Fixed.{Fixed}
use Rattle.ap_value.specs.declared.symbol.Symbol.{Symbol}
use Rattle.ap_value.specs.Values.{symbol_eq}
use Rattle.ap_value.proofs.Equals.{symbol_eq-same}
use Rattle.ap_term.specs.declared.term.Term.{Term, out-Term, Call}
use Rattle.ap_term.specs.declared.term.Term.TheOpen.{Term-F}
use Rattle.ap_term.specs.declared.term.Term.TheVariants.{outs-Quote, outs-Call}
use Rattle.ap_world.specs.Facts.{Facts}
use Rattle.ap_rewrite.specs.Keys.{own_name, no_term, sign_name, facts_back, facts_term, closed_term, place_term}

-- a call tells its function and its arguments, and is no constant
call_told : (f g : Symbol) (xs ys : List Term) → Call f xs ≡ Call g ys → (f ≡ g) × (xs ≡ ys)
call_told f g xs ys e =
    let o : Term-F.Call f xs ≡ Term-F.Call g ys = sym (outs-Call f xs) ∙ ap out-Term e ∙ outs-Call g ys in
    let p : f ≡ g = cc in
    let q : xs ≡ ys = cc in
    (p, q)

no_nil : (f : Symbol) (xs : List Term) → no_term ≡ Call f xs → ⊥
no_nil f xs e =
    let o = sym (outs-Quote _) ∙ ap out-Term e ∙ outs-Call f xs in
    cc

t_told : symbol_eq (own_name Fixed.T) (own_name Fixed.Nil) ≡ false
t_told = refl

t_isnt_nil : own_name Fixed.T ≡ own_name Fixed.Nil → ⊥
t_isnt_nil e = true≢false (sym (symbol_eq-same (own_name Fixed.T)) ∙ ap (symbol_eq (own_name Fixed.T)) e ∙ t_told)

sign_told : (a b : Bool) → sign_name a ≡ sign_name b → a ≡ b
sign_told true true e = refl
sign_told false false e = refl
sign_told true false e = absurd (t_isnt_nil e)
sign_told false true e = absurd (t_isnt_nil (sym e))

back_told : (fs gs : Facts) → facts_back fs ≡ facts_back gs → fs ≡ gs
back_told [] [] e = refl
back_told [] (g ∷ gs) e = absurd (no_nil (sign_name g.1) (facts_back gs ∷ g.0 ∷ []) e)
back_told (f ∷ fs) [] e = absurd (no_nil (sign_name f.1) (facts_back fs ∷ f.0 ∷ []) (sym e))
back_told (f ∷ fs) (g ∷ gs) e =
    let p = call_told (sign_name f.1) (sign_name g.1) (facts_back fs ∷ f.0 ∷ []) (facts_back gs ∷ g.0 ∷ []) e in
    let args = p.1 in
    let rest : facts_back fs ≡ facts_back gs = cc in
    let term : f.0 ≡ g.0 = cc in
    let sign = sign_told f.1 g.1 p.0 in
    let one : f ≡ g = λ i. (term i, sign i) in
    ap (λ x. x ∷ fs) one ∙ ap (λ x. g ∷ x) (back_told fs gs rest)

facts_told : (fs gs : Facts) → facts_term fs ≡ facts_term gs → fs ≡ gs
facts_told fs gs e = sym (reverse-reverse fs) ∙ ap reverse (back_told (reverse fs) (reverse gs) e) ∙ reverse-reverse gs

closed_told : (fs gs : List Symbol) → closed_term fs ≡ closed_term gs → fs ≡ gs
closed_told [] [] e = refl
closed_told [] (g ∷ gs) e = absurd (no_nil g (closed_term gs ∷ no_term ∷ []) e)
closed_told (f ∷ fs) [] e = absurd (no_nil f (closed_term fs ∷ no_term ∷ []) (sym e))
closed_told (f ∷ fs) (g ∷ gs) e =
    let p = call_told f g (closed_term fs ∷ no_term ∷ []) (closed_term gs ∷ no_term ∷ []) e in
    let args = p.1 in
    let rest : closed_term fs ≡ closed_term gs = cc in
    ap (λ x. x ∷ fs) p.0 ∙ ap (λ x. g ∷ x) (closed_told fs gs rest)

pub place_told : (fs gs : Facts) (cl dl : List Symbol) → place_term fs cl ≡ place_term gs dl → (fs ≡ gs) × (cl ≡ dl)
place_told fs gs cl dl e =
    let r = call_told (own_name Fixed.Equal) (own_name Fixed.Equal) (facts_term fs ∷ closed_term cl ∷ []) (facts_term gs ∷ closed_term dl ∷ []) e in
    let inner = r.1 in
    let facts : facts_term fs ≡ facts_term gs = cc in
    let closed : closed_term cl ≡ closed_term dl = cc in
    (facts_told fs gs facts, closed_told cl dl closed)
