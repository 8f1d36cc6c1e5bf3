-- A call of a defined function and its body's instance, and a call of constants and its value.
use Rattle.std.proofs.Common.{◌≡◌, true, List, [], ◌∷◌, map, length, zip, Option, None, Some, refl, sym, ap, ◌∙◌, subst, eqb-true}
use Rattle.ap_list.specs.Lists.{all_true}
use Rattle.ap_value.specs.declared.symbol.Symbol.{Symbol}
use Rattle.ap_value.specs.declared.value.Value.{Value}
use Rattle.ap_value.specs.Values.{val_of}
use Rattle.ap_value.proofs.Equals.{both}
use Rattle.ap_term.specs.declared.term.Term.{Term, Quote, Call, out-Term}
use Rattle.ap_term.specs.declared.term.Term.TheOpen.{Term-F}
use Rattle.ap_term.proofs.Induction.{OutSays, out_says}
use Rattle.ap_world.specs.declared.entry.Entry.{Entry}
use Rattle.ap_world.specs.declared.entry.Function.{Function}
use Rattle.ap_world.specs.Primitives.{prim_of}
use Rattle.ap_world.specs.Meaning.{Env, Defs, Total, HasValue}
use Rattle.ap_world.specs.Facts.{KnownFacts}
use Rattle.ap_world.specs.Sound.{known, is_head, takes, Sound}
use Rattle.ap_world.specs.World.{function_of, are_distinct}
use Rattle.ap_world.proofs.Knowing.{known_quote, known_head, known_args, each_true}
use Rattle.ap_world.proofs.TotalMeaning.{Apply, models, head_val, val, values_of, value_is, val_quote, val_call}
use Rattle.ap_world.proofs.Looking.{good_of}
use Rattle.ap_world.proofs.Given.{names_hold}
use Rattle.ap_world.proofs.Instances.{known_zip, known_subst}
use Rattle.ap_world.proofs.Coinciding.{val_opened}
use Rattle.ap_kernel.specs.declared.objects.Ctx.{Ctx}
use Rattle.ap_kernel.specs.Standing.{Holds}
use Rattle.ap_kernel.specs.Equations.{equation_made}
use Rattle.ap_kernel.specs.Opening.{body_at, opened_layer, opened, is_quote, is_quoted, has_constants, is_constant_call}
use Rattle.ap_kernel.proofs.Standing.{stand}

-- a call of a defined function leads to its body's instance
pub open_stands : (W : List Entry) → Sound W → are_distinct W ≡ true → (c : Ctx) (u r : Term) → KnownFacts (function_of W) c.0 → known (function_of W) u ≡ true
    → opened (function_of W) u ≡ Some r → Holds (function_of W) (equation_made c u r)
open_stands W sound distinct c u r facts k h = layer (out-Term u) (out_says u) h
  where
    by_call : (f : Symbol) (us : List Term) (g : Function) → known (function_of W) (Call f us) ≡ true → function_of W f ≡ Some g → Holds (function_of W) (equation_made c (Call f us) (body_at g us))
    by_call f us g k here =
        let (A, ms) = models (function_of W) sound.total in
        let good = (good_of W sound f g here).0 in
        let free = names_hold W distinct f g here in
        let takes_so : takes (Some g) (length us) ≡ true = subst (λ x. takes x (length us) ≡ true) here (subst (λ x. is_head (function_of W) f x (length us) ≡ true) free (known_head (function_of W) f us k)) in
        stand (function_of W) A ms (equation_made c (Call f us) (body_at g us)) facts k
        (known_subst (function_of W) (zip g.formals us) (known_zip (function_of W) g.formals us (each_true (known (function_of W)) us (known_args (function_of W) f us k))) g.body good.body_known)
        (λ e h. val_opened (function_of W) A ms f g us e free here (eqb-true (length g.formals) (length us) takes_so) good.body_speaks)

    go : (f : Symbol) (us : List Term) → u ≡ Call f us → (o : Option Function) → function_of W f ≡ o → opened_layer (λ x. o) (Term-F.Call f us) ≡ Some r → Holds (function_of W) (equation_made c u r)
    go f us q None here h = cc
    go f us q (Some g) here h =
        let same : body_at g us ≡ r = cc in
        subst (λ v. Holds (function_of W) (equation_made c v r)) (sym q)
        (subst (λ v. Holds (function_of W) (equation_made c (Call f us) v)) same (by_call f us g (subst (λ v. known (function_of W) v ≡ true) q k) here))

    layer : (y : Term-F Term) → OutSays u y → opened_layer (function_of W) y ≡ Some r → Holds (function_of W) (equation_made c u r)
    layer (Term-F.Var x) q h = cc
    layer (Term-F.Quote v) q h = cc
    layer (Term-F.Call f us) q h = go f us q (function_of W f) refl h

-- constants have the same values everywhere
quoted_alike : (A : Apply) (u : Term) → is_quoted u ≡ true → (d e : Env) → val A u d ≡ val A u e
quoted_alike A u h d e = go (out-Term u) (out_says u) h
  where
    go : (y : Term-F Term) → OutSays u y → is_quote y ≡ true → val A u d ≡ val A u e
    go (Term-F.Var x) q h = cc
    go (Term-F.Quote v) q h = ap (λ w. val A w d) q ∙ val_quote A v d ∙ sym (val_quote A v e) ∙ ap (λ w. val A w e) (sym q)
    go (Term-F.Call f us) q h = cc

quoted_values : (A : Apply) (us : List Term) → all_true (map is_quoted us) ≡ true → (d e : Env) → values_of A us d ≡ values_of A us e
quoted_values A [] h d e = refl
quoted_values A (u ∷ us) h d e =
    let p = both (is_quoted u) (all_true (map is_quoted us)) h in
    ap (λ x. x ∷ values_of A us d) (quoted_alike A u p.0 d e) ∙ ap (λ xs. val A u e ∷ xs) (quoted_values A us p.1 d e)

-- a call of constants leads to the value that it has where no variable is assigned
pub fold_stands : (D : Defs) → Total D → (c : Ctx) (u : Term) (v : Value) → KnownFacts D c.0 → known D u ≡ true → is_constant_call u ≡ true → HasValue D u [] (val_of v)
    → Holds D (equation_made c u (Quote v))
fold_stands D total c u v facts k h value =
    let (A, ms) = models D total in
    stand D A ms (equation_made c u (Quote v)) facts k (known_quote D v) (λ e held. alike A e ∙ sym (value_is D A ms u [] (val_of v) value) ∙ sym (val_quote A v e))
  where
    alike : (A : Apply) (e : Env) → val A u e ≡ val A u []
    alike A e = go (out-Term u) (out_says u) h
      where
        go : (y : Term-F Term) → OutSays u y → has_constants y ≡ true → val A u e ≡ val A u []
        go (Term-F.Var x) q h = cc
        go (Term-F.Quote w) q h = cc
        go (Term-F.Call f us) q h =
            ap (λ w. val A w e) q ∙ val_call A f us e ∙ ap (head_val A f (prim_of f)) (quoted_values A us h e []) ∙ sym (val_call A f us []) ∙ ap (λ w. val A w []) (sym q)
