use Rattle.std.proofs.Common.{◌≡◌, ◌∙◌, Result, Ok, Err, IfOk, Option, Some, ℤ, ◌*ℤ◌, ap, sym, rules}
use Rattle.ap_value.specs.Values.{val_of}
use Rattle.ap_term.specs.declared.term.Term.{Var, Quote, Call, out-Term}
use Rattle.ap_term.specs.declared.term.Term.TheOpen.{Term-F}
use Rattle.ap_term.specs.declared.term.Term.TheVariants.{outs-Quote}
use Rattle.ap_world.specs.Primitives.{prim_of, int_of}
use Rattle.ap_term.proofs.Induction.{para_var, para_quote}
use Rattle.ap_term.proofs.Seen.{seen}
use Rattle.ap_poly.specs.Polynomials.{Polynomial, and_then, narrow}
use Rattle.ap_poly.specs.Literals.{Into, into, into_step, add_atom, add_constant, add_product, add_call, paired}
use Rattle.ap_poly.proofs.LiteralsHold.{into_call}
use Rattle.ap_poly.proofs.literal.+adding.Goals as goal

-- what one way of adding answers another does
as_well : {E : Type 0} (r : Result (Option Polynomial) E) (f g : Into) (k : ℤ) (p : Polynomial) → g ≡ f → IfOk r (λ o. o ≡ f k p) → IfOk r (λ o. o ≡ g k p)
as_well (Ok o) f g k p e h = h ∙ sym (ap (λ (i : Into). i k p) e)
as_well (Err x) f g k p e h = h

pub add_term-returns-in-Var : goal.add_term-returns-in-Var
add_term-returns-in-Var t c =
    let e : c.args.t.now ≡ Var c.in-Var.field-0 = (seen c.t.view_is c.in-Var.is) in
    let h : IfOk c.add_atom.result (λ o. o ≡ add_atom c.args.t.now c.args.k c.args.p) = search rules in
    as_well c.add_atom.result (add_atom c.args.t.now) (into c.args.t.now) c.args.k c.args.p (ap into e ∙ para_var into_step c.in-Var.field-0 ∙ ap add_atom (sym e)) h

pub add_term-returns-in-Quote : goal.add_term-returns-in-Quote
add_term-returns-in-Quote t c =
    let e : c.args.t.now ≡ Quote c.in-Quote.v = (seen c.t.view_is c.in-Quote.is) in
    let h : c.add_constant.result ≡ add_constant (int_of (val_of c.in-Quote.v)) c.args.k c.args.p = search rules in
    let q : into c.args.t.now ≡ add_constant (int_of (val_of c.in-Quote.v)) = ap into e ∙ para_quote into_step c.in-Quote.v in
    h ∙ sym (ap (λ (i : Into). i c.args.k c.args.p) q)

pub add_term-returns-in-Call : goal.add_term-returns-in-Call
add_term-returns-in-Call t c =
    let e : c.args.t.now ≡ Call c.in-Call.f c.in-Call.ts = (seen c.t.view_is c.in-Call.is) in
    let h : IfOk c.add_call.result (λ o. o ≡ add_call (prim_of c.in-Call.f) (paired c.in-Call.ts) (add_atom c.args.t.now) c.args.k c.args.p) = search rules in
    as_well c.add_call.result (add_call (prim_of c.in-Call.f) (paired c.in-Call.ts) (add_atom c.args.t.now)) (into c.args.t.now) c.args.k c.args.p
    (ap into e ∙ into_call c.in-Call.f c.in-Call.ts ∙ ap (λ u. add_call (prim_of c.in-Call.f) (paired c.in-Call.ts) (add_atom u)) (sym e)) h

pub add_product-returns-in-Some : goal.add_product-returns-in-Some
add_product-returns-in-Some t c =
    let out : out-Term c.args.a.now ≡ Term-F.Quote c.in-Quote.v = ap out-Term (seen c.a.view_is c.in-Quote.is) ∙ outs-Quote c.in-Quote.v in
    let some : narrow (c.args.k *ℤ int_of (val_of c.in-Quote.v)) ≡ Some c.in-Some.m = search rules in
    let e : add_product (out-Term c.args.a.now) (into c.args.b.now) (add_atom c.args.t.now) c.args.k c.args.p ≡ into c.args.b.now c.in-Some.m c.args.p =
    ap (λ y. add_product y (into c.args.b.now) (add_atom c.args.t.now) c.args.k c.args.p) out ∙ ap (λ o. and_then o (λ m. into c.args.b.now m c.args.p)) some in
    rw e (search rules)
