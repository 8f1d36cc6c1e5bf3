-- What the tests hand to the kernel's rows: a theorem (implies h h), and polynomials of literals.
use Rattle.std.proofs.Common.{◌≡◌, ◌≢◌, ℕ, Bool, true, false, cond, List, [], ◌∷◌, ◌++◌, length, replicate, slice_get, inl, sym, ap, ◌∙◌, subst}
use Rattle.std.specs.Prelude.{Result, Ok, Err, IfOk, OnOk}
use Rattle.ap_list.specs.Lists.{Each}
use Rattle.ap_list.proofs.Eachs.{each_append}
use Rattle.ap_value.specs.declared.value.Value.{Value}
use Rattle.ap_value.specs.Values.{value_eq}
use Rattle.ap_value.proofs.Constants.{constant_eq-same}
use Rattle.ap_term.specs.declared.term.Term.{Term}
use Rattle.ap_world.specs.declared.entry.Entry.{Entry}
use Rattle.ap_world.specs.declared.entry.Entry.TheVariants as entry
use Rattle.ap_world.specs.declared.entry.Theorem.{Theorem}
use Rattle.ap_world.specs.Names.{implies_name}
use Rattle.ap_world.specs.Primitives.{nil, t}
use Rattle.ap_world.specs.Meaning.{Defs, Total, Valid, FactHolds}
use Rattle.ap_world.specs.Sound.{known, Sound, HasFunctions}
use Rattle.ap_world.specs.Ground.{two, ground, ground_functions, not_function}
use Rattle.ap_world.specs.World.{Shown, added, function_of}
use Rattle.ap_world.proofs.Equations.{t_isnt_nil}
use Rattle.ap_world.proofs.Extending.{function_of-theorem}
use Rattle.ap_world.proofs.Given.{implies_is}
use Rattle.ap_world.proofs.Knowing.{true_each}
use Rattle.ap_world.proofs.TotalMeaning.{models, val, valid_of}
use Rattle.ap_poly.specs.Polynomials.{Polynomial}
use Rattle.ap_poly.specs.Holding.{PolyHolds}
use Rattle.ap_poly.specs.Literals.{of_literal}
use Rattle.ap_poly.proofs.LiteralsHold.{literals_hold}
use Rattle.ap_world.specs.Facts.{Facts}
use Rattle.ap_world.specs.Units.{gives, Assigned, metered}
use Rattle.ap_kernel.specs.declared.linear.Why.{Why}
use Rattle.ap_kernel.specs.declared.linear.Why.TheVariants as why
use Rattle.ap_kernel.specs.declared.objects.Ctx.{Ctx}
use Rattle.ap_kernel.specs.Linear.{PolysHold}
use Rattle.ap_kernel.specs.Reasons.{AllGiven}
use Rattle.ap_kernel.specs.Rows.{gives_value}
use Rattle.ap_kernel.specs.Standing.{DefinesNot}
use Rattle.ap_kernel.proofs.Reasoned.{given_both, literal_given, fact_given}

-- what the kernel asks of a world is the first of its functions
pub kernel_ground : (D : Defs) → HasFunctions D → DefinesNot D
unfolding ground_functions not_function
kernel_ground D functions = functions.0

-- the ground world, which was made, has it
pub begun : {E : Type 0} (r : Result Shown E) (w : Shown) → IfOk r (λ v. v ≡ record { entries = ground; theory = record { disabled = [] } }) → r ≡ Ok w
    → HasFunctions (function_of ground) → DefinesNot (function_of w.entries)
begun r w h is functions = subst (λ (v : Shown). DefinesNot (function_of v.entries)) (sym (made r w h is)) (kernel_ground (function_of ground) functions)
  where
    made : {E : Type 0} (r : Result Shown E) (w : Shown) → IfOk r (λ v. v ≡ record { entries = ground; theory = record { disabled = [] } }) → r ≡ Ok w
        → w ≡ record { entries = ground; theory = record { disabled = [] } }
    made (Ok v) w h is = cc
    made (Err e) w h is = cc

-- a theorem more makes no other functions
pub with_theorem : {A E : Type 0} (r : Result A E) (x : A) (w v : Shown) (u : Theorem) → DefinesNot (function_of w.entries) → OnOk r (v ≡ added w (entry.Theorem u)) → r ≡ Ok x
    → DefinesNot (function_of v.entries)
with_theorem r x w v u ground h is =
    subst DefinesNot (sym (ap (λ (v : Shown). function_of v.entries) (made r x h is) ∙ function_of-theorem w.entries u)) ground
  where
    made : {A E : Type 0} (r : Result A E) (x : A) → OnOk r (v ≡ added w (entry.Theorem u)) → r ≡ Ok x → v ≡ added w (entry.Theorem u)
    made (Ok y) x h is = h
    made (Err e) x h is = cc

itself : (b : Bool) → cond b t (cond b nil t) ≢ nil
itself true h = t_isnt_nil h
itself false h = t_isnt_nil h

-- (implies h h) is valid
pub itself_valid : (W : List Entry) → Sound W → (h : Term) → known (function_of W) (two implies_name h h) ≡ true → Valid (function_of W) (two implies_name h h ∷ [])
itself_valid W sound h k =
    let (A, ms) = models (function_of W) sound.total in
    valid_of (function_of W) A ms (two implies_name h h ∷ []) (true_each (known (function_of W)) (two implies_name h h ∷ []) (k, tt))
    (λ e. inl (subst (λ v. v ≢ nil) (sym (implies_is W sound A ms h h e k)) (itself (value_eq (val A h e) nil))))

-- the polynomials of a literal and of a true fact hold where both are so
pub two_hold : (D : Defs) → Total D → (c : Ctx) (u f : Term) (s : Bool) → c.0 ≡ (f, true) ∷ [] → known D u ≡ true → known D f ≡ true
    → PolysHold D c u s (of_literal u s ++ of_literal f true)
two_hold D total c u f s is uk fk = λ e hs h.
    each_append (PolyHolds D e) (of_literal u s) (of_literal f true) (literals_hold D total e u s uk h)
    (literals_hold D total e f true fk (subst (Each (λ g. FactHolds D e g)) is hs).0)

pub handed : (D : Defs) → Total D → (c : Ctx) (u f : Term) (s : Bool) (ps : List Polynomial) → c.0 ≡ (f, true) ∷ [] → known D u ≡ true → known D f ≡ true
    → ps ≡ of_literal u s ++ of_literal f true → PolysHold D c u s ps
handed D total c u f s ps is uk fk made = subst (PolysHold D c u s) (sym made) (two_hold D total c u f s is uk fk)

-- and each has its reason
pub reasoned : (w : Shown) (c : Ctx) (u f : Term) (s : Bool) (ps : List Polynomial) (ys : List Why) → c.0 ≡ (f, true) ∷ [] → ps ≡ of_literal u s ++ of_literal f true
    → ys ≡ replicate (length (of_literal u s)) why.Literal ++ replicate (length (of_literal f true)) (why.Fact 0) → AllGiven w c u s ps ys
reasoned w c u f s ps ys is made told =
    subst (λ (qs : List Polynomial). AllGiven w c u s qs ys) (sym made)
    (subst (λ (zs : List Why). AllGiven w c u s (of_literal u s ++ of_literal f true) zs) (sym told)
    (given_both w c u s (of_literal u s) (of_literal f true) _ _ (literal_given w c u s) (fact_given w c u s 0 (f, true) (ap (λ (fs : Facts). slice_get fs 0) is))))

-- what running without an assignment gives is the value that is given
pub run_gives : (D : Defs) (u : Term) (e : Assigned) (v : Value) (n : ℕ) → e ≡ [] → metered D u e 2000 ≡ gives v n → gives_value v (metered D u [] 2000) ≡ true
run_gives D u e v n none is = ap (gives_value v) (ap (λ e. metered D u e 2000) (sym none) ∙ is) ∙ constant_eq-same v
