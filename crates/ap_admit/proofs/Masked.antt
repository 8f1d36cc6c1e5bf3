-- The law of admission with a kept mask; and what a stub's world knows.
use Rattle.std.proofs.Common.{◌≡◌, ℕ, Bool, true, false, nat_eq, ◌&&◌, List, [], ◌∷◌, map, length, Option, Some, None, refl, sym, ap, ◌∙◌, subst}
use Rattle.ap_list.specs.Lists.{Each, all_true}
use Rattle.ap_value.specs.declared.symbol.Symbol.{Symbol}
use Rattle.ap_value.specs.Values.{symbol_eq}
use Rattle.ap_value.proofs.Equals.{symbol_eq-true}
use Rattle.ap_term.specs.declared.term.Term.{Term, Call}
use Rattle.ap_term.proofs.Induction.{term_ind}
use Rattle.ap_world.specs.declared.primitive.Primitive.{Primitive as Prim}
use Rattle.ap_world.specs.Primitives.{prim_of}
use Rattle.ap_world.specs.Meaning.{Defs}
use Rattle.ap_world.specs.Types.{Has}
use Rattle.ap_world.specs.Sound.{is_head, takes, known}
use Rattle.ap_world.specs.World.{as_function, function_of, has_name}
use Rattle.ap_world.proofs.Knowing.{known_var, known_quote, known_call}
use Rattle.ap_world.proofs.Extending.{not_taken, function_of-here, function_of-other}
use Rattle.ap_types.proofs.KeptHolds.{kept_holds}
use Rattle.ap_admit.specs.Admission.{with_function}
use Rattle.ap_admit.specs.Kept.{AdmissionKeepsSound, StubsKnow}
use Rattle.ap_world.proofs.Grounded.{has_not, given_free}
use Rattle.ap_admit.proofs.Soundness.{obligations_suffice}

pub admission_keeps_sound : AdmissionKeepsSound
admission_keeps_sound w f o m sound functions a measure valid mask =
    obligations_suffice w.entries f o m sound functions a measure valid
    (λ total vs v l h. subst (λ k. Has k v) (sym mask)
    (kept_holds w f sound (has_not (function_of w.entries) functions) a.fresh total a.body_known
    (given_free (function_of w.entries) functions f (ap as_function (not_taken w.entries f.name a.fresh).1)) vs v l h))

pub stubs_know : StubsKnow
stubs_know W f g named same free u = term_ind Goal (λ x. known_var E x ∙ sym (known_var X x)) (λ q. known_quote E q ∙ sym (known_quote X q)) call u
  where
    E : Defs
    E = function_of (with_function W f)

    X : Defs
    X = function_of (with_function W g)

    Goal : Term → Type 0
    Goal u = known (function_of (with_function W f)) u ≡ known (function_of (with_function W g)) u

    args : (ts : List Term) → Each Goal ts → all_true (map (known (function_of (with_function W f))) ts) ≡ all_true (map (known (function_of (with_function W g))) ts)
    args [] es = refl
    args (t ∷ ts) es = let p = es.0 in let q = args ts es.1 in λ i. p i && q i

    taken : (x : Symbol) (n : ℕ) (b : Bool) → symbol_eq x f.name ≡ b → takes (function_of (with_function W f) x) n ≡ takes (function_of (with_function W g) x) n
    taken x n true q =
        let p = symbol_eq-true x f.name q in
        ap (λ o. takes o n) (ap (function_of (with_function W f)) p ∙ function_of-here W f free)
        ∙ ap (λ xs. nat_eq (length xs) n) same
        ∙ sym (ap (λ o. takes o n) (ap (function_of (with_function W g)) (p ∙ named) ∙ function_of-here W g (subst (λ y. has_name W y ≡ false) named free)))
    taken x n false q = ap (λ o. takes o n) (function_of-other W f x q ∙ sym (function_of-other W g x (subst (λ y. symbol_eq x y ≡ false) named q)))

    head : (x : Symbol) (n : ℕ) (o : Option Prim) → is_head (function_of (with_function W f)) x o n ≡ is_head (function_of (with_function W g)) x o n
    head x n (Some p) = refl
    head x n None = taken x n (symbol_eq x f.name) refl

    call : (x : Symbol) (ts : List Term) → Each Goal ts → Goal (Call x ts)
    call x ts es = known_call (function_of (with_function W f)) x ts
        ∙ (let p = head x (length ts) (prim_of x) in let q = args ts es in λ i. p i && q i)
        ∙ sym (known_call (function_of (with_function W g)) x ts)
