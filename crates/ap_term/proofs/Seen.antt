-- What contracts see of a term whose outside code has seen.
use Rattle.std.proofs.Common.{◌≡◌, ◌+◌, ◌*◌, ◌≤◌, List, [], ◌∷◌, sym, ap, ◌∙◌, refl, arith}
use denote.Param.Weighed.{most}
use Rattle.ap_value.specs.declared.symbol.Symbol.{Symbol}
use Rattle.ap_term.specs.declared.term.Term.{Term, out-Term, Call}
use Rattle.ap_term.specs.declared.term.Term.TheOpen.{Term-F}
use Rattle.ap_term.specs.declared.term.Term.TheVariants.{outs-Var, outs-Quote, outs-Call}
use Rattle.ap_term.specs.declared.shape.Shape.{Shape}
use Rattle.ap_term.specs.declared.shape.Shape.TheVariants as shape
use Rattle.ap_term.specs.declared.arguments.Arguments.TheDeep.{size-Term}
use Rattle.ap_term.specs.declared.tree.Term.TheView.{size}
use Rattle.ap_term.specs.Depth.{depth, deepest}
use Rattle.ap_term.specs.Shapes.{plain_of}
use Rattle.ap_term.proofs.Induction.{fold_var, fold_quote, fold_call}
use Rattle.ap_term.specs.Falls.{most_map, depth_call}

pub seen : {s s' : Shape} {t : Term} → plain_of s ≡ t → s ≡ s' → t ≡ plain_of s'
seen view is = sym view ∙ ap plain_of is

lent_deep : (us : List Term) → most size-Term us ≤ 2 * deepest us
lent_deep [] = omega arith
lent_deep (u ∷ us) = let one : size-Term u ≡ 2 * (depth u + 1) + 0 = refl in let more = lent_deep us in omega arith

-- arguments that code has seen, and lends, are less deep than their call
pub deeper : {s : Shape} {t : Term} {f : Symbol} {ts us : List Term} → plain_of s ≡ t → s ≡ shape.Call f ts → us ≡ ts → most size-Term us + 2 ≤ 2 * size t
deeper {s} {t} {f} {ts} {us} view is lent =
    let d : depth t ≡ deepest us + 1 = ap depth (seen view is) ∙ depth_call f ts ∙ ap (λ n. n + 1) (most_map ts) ∙ ap (λ l. deepest l + 1) (sym lent) in
    let l = lent_deep us in
    omega arith

-- of two calls that are one, the arguments are one
pub parts_same : {s s' : Shape} {a b : Term} {f g : Symbol} {xs ys : List Term} → plain_of s ≡ a → s ≡ shape.Call f xs → plain_of s' ≡ b → s' ≡ shape.Call g ys
    → a ≡ b → (f ≡ g) × (xs ≡ ys)
parts_same {s} {s'} {a} {b} {f} {g} {xs} {ys} view is view' is' e =
    let h : Term-F.Call f xs ≡ Term-F.Call g ys = sym (outs-Call f xs) ∙ ap out-Term (sym (seen view is) ∙ e ∙ seen view' is') ∙ outs-Call g ys in
    (cc, cc)

-- and calls of one head on the same arguments are one
pub calls_same : {s s' : Shape} {a b : Term} {f g : Symbol} {xs ys : List Term} → plain_of s ≡ a → s ≡ shape.Call f xs → plain_of s' ≡ b → s' ≡ shape.Call g ys
    → f ≡ g → xs ≡ ys → a ≡ b
calls_same {s} {s'} {a} {b} {f} {g} {xs} {ys} view is view' is' e h = seen view is ∙ ap (λ f. Call f xs) e ∙ ap (Call g) h ∙ sym (seen view' is')

-- what a fold gives at each kind of term, and how deep arguments are
pub ruleset trees = (fold_var, fold_quote, fold_call, most_map, outs-Var, outs-Quote, outs-Call)
