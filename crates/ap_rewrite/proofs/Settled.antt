-- What constants are under a mode, and what masks settle: what the rows on them ask for.
use Rattle.std.proofs.Common.{◌≡◌, Bool, true, false, cond, not, ◌&&◌, ◌||◌, IfSome, List, Option, None, Some, is_some, unwrap_or, pos, eq-eqb, refl, sym, ap, ◌∙◌, subst}
use Rattle.std.specs.Int.Bits.{bit_and}
use Rattle.std.specs.Option.{option_map}
use Rattle.ap_value.specs.declared.value.Value.{Value, Int, Sym}
use Rattle.ap_value.specs.declared.symbol.Symbol.{Symbol}
use Rattle.ap_value.specs.Values.{V, val_of, value_eq}
use Rattle.ap_value.proofs.Equals.{both}
use Rattle.ap_term.specs.declared.term.Term.{Term, Quote, Call, out-Term}
use Rattle.ap_term.specs.declared.term.Term.TheOpen.{Term-F}
use Rattle.ap_term.specs.declared.term.Term.TheVariants.{outs-Quote, outs-Call}
use Rattle.ap_term.specs.Equal.{term_eq}
use Rattle.ap_term.proofs.Equals.{term_eq-same}
use Rattle.ap_world.specs.declared.entry.Mask.{Mask}
use Rattle.ap_world.specs.Names.{nil_name, t_name}
use Rattle.ap_world.specs.Primitives.{nil}
use Rattle.ap_world.specs.Meaning.{Defs}
use Rattle.ap_world.specs.Sound.{known}
use Rattle.ap_world.specs.Recursion.{t_constant}
use Rattle.ap_world.specs.declared.theory.Theory.{Theory}
use Rattle.ap_world.specs.Typing.{types}
use Rattle.ap_world.specs.World.{Shown}
use Rattle.ap_world.specs.Facts.{Facts}
use Rattle.ap_world.specs.Shapes.{Shape, constant, shape_of, constant_says, is_constant}
use Rattle.ap_world.proofs.Knowing.{known_quote}
use Rattle.ap_world.proofs.Equations.{val_of_nil, val_of_t, val_of_int, t-not_nil}
use Rattle.ap_world.proofs.Shaped.{Says, shape_says}
use Rattle.ap_poly.specs.Bounds.{lacks}
use Rattle.ap_kernel.specs.declared.objects.Mode.{Mode}
use Rattle.ap_kernel.specs.declared.objects.Mode.TheVariants.{Equal, Iff}
use Rattle.ap_kernel.specs.declared.objects.Sequent.{Sequent}
use Rattle.ap_kernel.specs.declared.objects.Ctx.{Ctx}
use Rattle.ap_kernel.specs.Masks.{has_only, leads_to, typed_mode, typed_made}
use Rattle.ap_rewrite.specs.Settings.{Setting}
use Rattle.ap_kernel.specs.declared.objects.Equiv.{Equiv}
use Rattle.ap_kernel.specs.Answers.{trans_made}
use Rattle.ap_kernel.specs.Standing.{Stands}
use Rattle.ap_kernel.specs.Equations.{equation_made}
use Rattle.ap_rewrite.specs.Leading.{leads_made, Serves, plain_in, run_by}
use Rattle.ap_rewrite.specs.Rewriting.{is_iff, constant_in, by_mask, changed, settled, run}
use Rattle.ap_rewrite.proofs.ConstantTypes.{quote_lacks, other_kind}
use Rattle.ap_rewrite.proofs.Truths.{others_nil, others_t, others_zero}

-- what is said under a mode that it has already
pub same_mode : (s : Sequent) (o : Mode) → s.mode ≡ o → s ≡ leads_made s.ctx o s.lhs s.rhs
same_mode s o h = ap (λ (m : Mode). leads_made s.ctx m s.lhs s.rhs) h

-- a constant is known
constant_is : (b : Bool) (u : Term) (y : Shape Term) → Says u y → constant_says b y ≡ true → (v : Value) × (u ≡ Quote v)
constant_is true u (constant v) k h = (v, k)
constant_is false u (constant v) k h = (v, k)
constant_is true u y k h = cc
constant_is false u y k h = cc

pub constant_known : (D : Defs) (u : Term) → is_constant true u ≡ true → known D u ≡ true
constant_known D u h = let (v, q) = constant_is true u (shape_of u) (shape_says u) h in subst (λ u. known D u ≡ true) (sym q) (known_quote D v)

pub quote_says : (v : Value) → is_constant true (Quote v) ≡ not (value_eq (val_of v) nil)
quote_says v = rw (outs-Quote v) refl

pub constant_there : (u : Term) (v : Value) → u ≡ Quote v → value_eq (val_of v) nil ≡ false → is_constant true u ≡ true
constant_there u v q h = ap (is_constant true) q ∙ quote_says v ∙ ap not h

-- what a constant is under a mode
pub constant_turns : (o : Mode) (v : Value) → is_iff o ≡ true → value_eq (val_of v) nil ≡ false → constant_in o v ≡ t_constant
constant_turns Equal v p h = cc
constant_turns Iff v p h = ap (λ b. cond b (Quote v) t_constant) h

pub constant_stays : (o : Mode) (v : Value) → (is_iff o && not (value_eq (val_of v) nil)) ≡ false → constant_in o v ≡ Quote v
constant_stays Equal v h = refl
constant_stays Iff v h = go (value_eq (val_of v) nil) h
  where
    go : (b : Bool) → not b ≡ false → cond b (Quote v) t_constant ≡ Quote v
    go true q = refl
    go false q = cc

pub iff_is : (o : Mode) → is_iff o ≡ true → o ≡ Iff
iff_is Equal h = cc
iff_is Iff h = refl

-- a mask that has no other value leads to the value under either mode, and one without nil to 'T under iff
pub only_leads : (k : Mask) (v : V) → has_only k v ≡ true → leads_to k v ≡ true
only_leads k v h = rw h refl

pub only_serves : (k : Mask) (v : V) (o : Mode) → has_only k v ≡ true → Serves (typed_mode k v) o
only_serves k v o h = subst (λ b. Serves (cond b Equal Iff) o) (sym h) tt

pub without_nil_leads : (k : Mask) → lacks k.0 8 ≡ true → leads_to k (val_of (Sym t_name)) ≡ true
without_nil_leads k h = rw (val_of_t, t-not_nil) (go _)
  where
    go : (b : Bool) → (b || lacks k.0 8) ≡ true
    go true = refl
    go false = h

-- so a constant other than nil leads by its types to 'T
pub constant_leads : (w : Shown) (fs : Facts) (u : Term) (k : Mask) → is_constant true u ≡ true → k.0 ≡ types w fs u → leads_to k (val_of (Sym t_name)) ≡ true
constant_leads w fs u k h e =
    let (v, q) = constant_is true u (shape_of u) (shape_says u) h in
    let other : value_eq (val_of v) nil ≡ false = turned_off (value_eq (val_of v) nil) (sym (quote_says v) ∙ sym (ap (is_constant true) q) ∙ h) in
    without_nil_leads k (eq-eqb (bit_and k.0 8) 0 (ap (λ n. bit_and n 8) (e ∙ ap (types w fs) q) ∙ quote_lacks w fs v 8 (other_kind (val_of v) other)))
  where
    turned_off : (b : Bool) → not b ≡ true → b ≡ false
    turned_off true p = cc
    turned_off false p = refl

-- what leads to 'T under some mode does under iff
pub led_under : (s : Sequent) (c : Ctx) (u : Term) (k : Mask) (x : Value) → s ≡ typed_made c u k x → x ≡ Sym t_name → leads_made s.ctx Iff s.lhs s.rhs ≡ leads_made c Iff u t_constant
led_under s c u k x h e = ap (λ (s : Sequent). leads_made s.ctx Iff s.lhs s.rhs) h ∙ ap (λ (v : Value). leads_made c Iff u (Quote v)) e

pub iff_serves : (m o : Mode) → is_iff o ≡ true → Serves m o
iff_serves Equal o h = tt
iff_serves Iff o h = iff_is o h

pub only_nil : (k : Mask) → lacks k.0 1015 ≡ true → has_only k (val_of (Sym nil_name)) ≡ true
only_nil k h = rw (val_of_nil, others_nil) h

pub only_t : (k : Mask) → lacks k.0 1007 ≡ true → has_only k (val_of (Sym t_name)) ≡ true
only_t k h = rw (val_of_t, others_t) h

pub only_zero : (k : Mask) → lacks k.0 1022 ≡ true → has_only k (val_of (Int (pos 0))) ≡ true
only_zero k h = rw (val_of_int (pos 0), others_zero) h

-- what a term is settled to, by what is found for its mask
pub settled_to : (S : Setting) (o : Mode) (fs : Facts) (u : Term) (k : Mask) (x : Option Value) → k ≡ record { 0 = S.types fs u } → option_map Quote x ≡ by_mask o k.0
    → settled S o fs u ≡ unwrap_or (option_map Quote x) u
settled_to S o fs u k x q h = ap (λ (k : Mask). unwrap_or (by_mask o k.0) u) (sym q) ∙ ap (λ x. unwrap_or x u) (sym h)

pub changed_not : (u v : Term) → u ≡ v → changed u v ≡ None
changed_not u v h = ap (changed u) (sym h) ∙ ap (λ b. cond b None (Some u)) (term_eq-same u)

-- an equivalence that stays in its mode, and one that is weakened
pub weaker_is : (has wanted : Mode) → (is_iff wanted && not (is_iff has)) ≡ true → (has ≡ Equal) × (wanted ≡ Iff)
weaker_is Equal Equal h = cc
weaker_is Equal Iff h = (refl, refl)
weaker_is Iff Equal h = cc
weaker_is Iff Iff h = cc

pub serves_same : (has wanted : Mode) → Serves has wanted → (is_iff wanted && not (is_iff has)) ≡ false → has ≡ wanted
serves_same Equal Equal k h = refl
serves_same Equal Iff k h = cc
serves_same Iff wanted k h = sym k

-- a constant that becomes 'T, and one that stays
pub becomes_says : (c : Ctx) (o : Mode) (u : Term) (v : Value) → (is_iff o && not (value_eq (val_of v) nil)) ≡ true → leads_made c Iff u t_constant ≡ leads_made c o u (constant_in o v)
becomes_says c o u v h =
    let p = both (is_iff o) (not (value_eq (val_of v) nil)) h in
    ap (λ (m : Mode). leads_made c m u t_constant) (sym (iff_is o p.0)) ∙ ap (leads_made c o u) (sym (constant_turns o v p.0 (turned_off (value_eq (val_of v) nil) p.1)))
  where
    turned_off : (b : Bool) → not b ≡ true → b ≡ false
    turned_off true q = cc
    turned_off false q = refl

pub becomes_there : (o : Mode) (v : Value) (u : Term) → u ≡ Quote v → (is_iff o && not (value_eq (val_of v) nil)) ≡ true → is_constant true u ≡ true
becomes_there o v u q h = ap (is_constant true) q ∙ quote_says v ∙ (both (is_iff o) (not (value_eq (val_of v) nil)) h).1

pub becomes_iff : (o : Mode) (v : Value) → (is_iff o && not (value_eq (val_of v) nil)) ≡ true → o ≡ Iff
becomes_iff o v h = iff_is o (both (is_iff o) (not (value_eq (val_of v) nil)) h).0

-- what is settled, where it is another term
pub changed_said : (c : Ctx) (o : Mode) (u v : Term) (s : Sequent) (x : Option Sequent) → s ≡ leads_made c o u v → x ≡ cond (term_eq u s.rhs) None (Some s) → x ≡ option_map (leads_made c o u) (changed u v)
changed_said c o u v s x h k = k ∙ ap (λ (s : Sequent). cond (term_eq u s.rhs) None (Some s)) h ∙ go (term_eq u v)
  where
    go : (b : Bool) → cond b None (Some (leads_made c o u v)) ≡ option_map (leads_made c o u) (cond b None (Some v))
    go true = refl
    go false = refl

-- what running a call as a whole gives is what running its head on its arguments does
pub run_says : (w : Shown) (h : Theory) (o : Mode) (f g : Symbol) (u : Term) (ts us : List Term) → u ≡ Call f ts → u ≡ Call g us → run_by w h o f u ≡ run (plain_in w h) o g us
run_says w h o f g u ts us p q =
    let same : f ≡ g = heads_same (sym p ∙ q) in
    ap (λ f. run_by w h o f u) same ∙ ap (run_by w h o g) q
  where
    heads_same : Call f ts ≡ Call g us → f ≡ g
    heads_same e =
        let same : Term-F.Call f ts ≡ Term-F.Call g us = sym (outs-Call f ts) ∙ ap out-Term e ∙ outs-Call g us in
        cc

-- where an equation leads
pub equated_said : (c : Ctx) (o : Mode) (u : Term) (x : Option Term) (s : Sequent) → is_some x ≡ true → IfSome x (λ v. s ≡ equation_made c u v)
    → (s.mode ≡ Equal) × (Some (leads_made s.ctx o s.lhs s.rhs) ≡ option_map (leads_made c o u) x)
equated_said c o u None s h k = cc
equated_said c o u (Some v) s h k = (ap (λ (s : Sequent). s.mode) k, ap (λ (s : Sequent). Some (leads_made s.ctx o s.lhs s.rhs)) k)

pub none_said : (c : Ctx) (o : Mode) (u : Term) (x : Option Term) → is_some x ≡ false → None ≡ option_map (leads_made c o u) x
none_said c o u None h = refl
none_said c o u (Some v) h = cc

pub serves_equal : (m o : Mode) → m ≡ Equal → Serves m o
serves_equal m o h = subst (λ m. Serves m o) (sym h) tt

-- what is the same equivalence stands
pub same_stands : (w : Shown) (o : Option Equiv) (q : Equiv) → IfSome o (λ r. r ≡ q) → Stands w q → IfSome o (λ r. Stands w r)
same_stands w None q h s = tt
same_stands w (Some r) q h s = subst (Stands w) (sym h) s

-- what two say, one after another
pub trans_said : (c : Ctx) (o : Mode) (u v x : Term) (a b : Sequent) → a ≡ leads_made c o u v → b ≡ leads_made c o v x → trans_made a b ≡ leads_made c o u x
trans_said c o u v x a b p q = ap (λ (a : Sequent). trans_made a b) p ∙ ap (λ (b : Sequent). trans_made (leads_made c o u v) b) q
