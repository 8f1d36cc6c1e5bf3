-- A form that is a term where more is known is the same term where less is known, or speaks of a name that isn't known there.
use Rattle.std.proofs.Common.{◌≡◌, ℕ, zero, suc, Bool, true, false, cond, List, [], ◌∷◌, ◌++◌, map, zip, ◌⊎◌, inl, inr, Option, Some, None, Ok, Err, refl, ap, sym, subst}
use Rattle.ap_value.specs.declared.symbol.Symbol.{Symbol}
use Rattle.ap_value.specs.declared.value.Value.{Value}
use Rattle.ap_value.specs.declared.value.Value.TheVariants.{Sym}
use Rattle.ap_term.specs.declared.term.Term.{Term, Quote}
use Rattle.ap_term.specs.Terms.{subst_of}
use Rattle.ap_reader.specs.declared.form.Form.{Form}
use Rattle.ap_reader.specs.declared.form.Body.TheOpen.{Body-F}
use Rattle.ap_world.specs.declared.entry.Entry.{Entry}
use Rattle.ap_world.specs.Names.{cons_name}
use Rattle.ap_world.specs.World.{constant_of}
use Rattle.ap_translate.specs.declared.build.Piece.{Piece}
use Rattle.ap_translate.specs.declared.fault.TransKind.TheVariants as kinds
use Rattle.ap_translate.specs.declared.macros.Macro.{Macro}
use Rattle.ap_translate.specs.Answers.{Answer, refused, ◌>>=◌, shaped, each}
use Rattle.ap_translate.specs.Names.{is_constant, is_starred}
use Rattle.ap_translate.specs.Parts.{Layer, layer_of, symbol_in}
use Rattle.ap_translate.specs.Macros.{macro_of, path_of}
use Rattle.ap_translate.specs.Quoted.{quote_name}
use Rattle.ap_translate.specs.Rows.{call_2, if_term, or_term, made, pieced}
use Rattle.ap_translate.specs.Shapes.{Arm, alone, pair, otherwise, arm_in, Bind, binding_in, Scope, lambda_in}
use Rattle.ap_translate.specs.Plans.{Plan, empty, quotation, build, arms, bind, apply, plan_in, headed_plan, named_by, call_plan, arity_in}
use Rattle.ap_translate.specs.Table.{Bound, with_bound, Readers, constant_term, variable_term, symbol_term, variable, variables, bindings, scope_of, body_of, let_term, lambda_term, arm_term, arms_term, quoted_term, plan_term, term_layer, part_layer, piece_layer, readers, term_in, level, within, translated}

-- A relation of answers that holds of what is put together from answers that it holds of.

-- readers, part by part
record BothRead (R : (A : Type 0) → Answer A → Answer A → Type 0) (r s : Readers) : Type 0 where
  term : (b : Bound) (f : Form) → R Term (r.term b f) (s.term b f)
  part : (b : Bound) (f : Form) → R Term (r.part b f) (s.part b f)
  piece : (b : Bound) (f : Form) → R Piece (r.piece b f) (s.piece b f)
  constant : (f : Form) → R Value (r.constant f) (s.constant f)

abbrev Bindings : Type 0
Bindings = List (Symbol × Term)

module _ (R : (A : Type 0) → Answer A → Answer A → Type 0) (same : (A : Type 0) (r : Answer A) → R A r r)
    (after : (A B : Type 0) (r s : Answer A) (g h : A → Answer B) → R A r s → ((a : A) → R B (g a) (h a)) → R B (r >>= g) (s >>= h))
  where
    -- what is given where both are there
    given : (A B : Type 0) (r s : Answer A) (g : A → B) → R A r s → R B (r >>= λ a. Ok (g a)) (s >>= λ a. Ok (g a))
    given A B r s g k = after A B r s (λ a. Ok (g a)) (λ a. Ok (g a)) k (λ a. same B (Ok (g a)))

    of_shape : (A B : Type 0) (p : ℕ) (o : Option A) (g h : A → Answer B) → ((a : A) → R B (g a) (h a)) → R B (shaped p o g) (shaped p o h)
    of_shape A B p None g h l = same B (refused p kinds.BadForm)
    of_shape A B p (Some a) g h l = l a

    pub of_each : (A B : Type 0) (g h : A → Answer B) → ((x : A) → R B (g x) (h x)) → (xs : List A) → R (List B) (each g xs) (each h xs)
    of_each A B g h l [] = same (List B) (Ok [])
    of_each A B g h l (x ∷ xs) =
        after B (List B) (g x) (h x) (λ y. each g xs >>= λ ys. Ok (y ∷ ys)) (λ y. each h xs >>= λ ys. Ok (y ∷ ys)) (l x)
        (λ y. given (List B) (List B) (each g xs) (each h xs) (λ ys. y ∷ ys) (of_each A B g h l xs))

    of_bindings : (g h : List Symbol → Form → Answer Term) → ((xs : List Symbol) (f : Form) → R Term (g xs f) (h xs f)) → (p : ℕ) (fs : List Form) (before : List Symbol)
        → R Bindings (bindings g p before fs) (bindings h p before fs)
    of_bindings g h l p [] before = same Bindings (Ok [])
    of_bindings g h l p (f ∷ fs) before =
        of_shape Bind Bindings p (binding_in f)
        (λ x. variable x.place before x.name >>= λ v. g before x.value >>= λ u. bindings g p (before ++ v ∷ []) fs >>= λ ss. Ok ((v, u) ∷ ss))
        (λ x. variable x.place before x.name >>= λ v. h before x.value >>= λ u. bindings h p (before ++ v ∷ []) fs >>= λ ss. Ok ((v, u) ∷ ss))
        (λ x. after Symbol Bindings (variable x.place before x.name) (variable x.place before x.name)
        (λ v. g before x.value >>= λ u. bindings g p (before ++ v ∷ []) fs >>= λ ss. Ok ((v, u) ∷ ss))
        (λ v. h before x.value >>= λ u. bindings h p (before ++ v ∷ []) fs >>= λ ss. Ok ((v, u) ∷ ss))
        (same Symbol (variable x.place before x.name))
        (λ v. after Term Bindings (g before x.value) (h before x.value)
        (λ u. bindings g p (before ++ v ∷ []) fs >>= λ ss. Ok ((v, u) ∷ ss))
        (λ u. bindings h p (before ++ v ∷ []) fs >>= λ ss. Ok ((v, u) ∷ ss))
        (l before x.value)
        (λ u. given Bindings Bindings (bindings g p (before ++ v ∷ []) fs) (bindings h p (before ++ v ∷ []) fs) (λ ss. (v, u) ∷ ss) (of_bindings g h l p fs (before ++ v ∷ [])))))

    of_arm : (g h : Form → Answer Term) → ((f : Form) → R Term (g f) (h f)) → (x : Arm) (r s : Answer Term) → R Term r s → R Term (arm_term g x r) (arm_term h x s)
    of_arm g h l (alone f) r s k =
        after Term Term (g f) (h f) (λ a. r >>= λ u. Ok (or_term a u)) (λ a. s >>= λ u. Ok (or_term a u)) (l f) (λ a. given Term Term r s (or_term a) k)
    of_arm g h l (pair f j) r s k =
        after Term Term (g f) (h f) (λ a. g j >>= λ d. r >>= λ u. Ok (if_term a d u)) (λ a. h j >>= λ d. s >>= λ u. Ok (if_term a d u)) (l f)
        (λ a. after Term Term (g j) (h j) (λ d. r >>= λ u. Ok (if_term a d u)) (λ d. s >>= λ u. Ok (if_term a d u)) (l j) (λ d. given Term Term r s (if_term a d) k))
    of_arm g h l (otherwise f) r s k = l f

    of_arms : (g h : Form → Answer Term) → ((f : Form) → R Term (g f) (h f)) → (p : ℕ) (fs : List Form) → R Term (arms_term g p fs) (arms_term h p fs)
    of_arms g h l p [] = same Term (arms_term g p [])
    of_arms g h l p (f ∷ fs) =
        of_shape Arm Term p (arm_in f) (λ x. arm_term g x (arms_term g p fs)) (λ x. arm_term h x (arms_term h p fs))
        (λ x. of_arm g h l x (arms_term g p fs) (arms_term h p fs) (of_arms g h l p fs))

    module _ (r s : Readers) (both : BothRead R r s) (b : Bound) (p : ℕ) where
      of_let : (in_turn : Bool) (x : Scope) → R Term (let_term in_turn r b p x) (let_term in_turn s b p x)
      of_let in_turn x =
          after Bindings Term (bindings (λ before. r.term (scope_of in_turn b before)) p [] x.heads) (bindings (λ before. s.term (scope_of in_turn b before)) p [] x.heads)
          (λ ss. r.term (with_bound b (map (λ y. y.0) ss)) x.body >>= λ u. Ok (body_of in_turn ss u)) (λ ss. s.term (with_bound b (map (λ y. y.0) ss)) x.body >>= λ u. Ok (body_of in_turn ss u))
          (of_bindings (λ before. r.term (scope_of in_turn b before)) (λ before. s.term (scope_of in_turn b before)) (λ xs f. both.term (scope_of in_turn b xs) f) p x.heads [])
          (λ ss. given Term Term (r.term (with_bound b (map (λ y. y.0) ss)) x.body) (s.term (with_bound b (map (λ y. y.0) ss)) x.body)
          (body_of in_turn ss) (both.term (with_bound b (map (λ y. y.0) ss)) x.body))

      of_lambda : (x : Scope) (fs : List Form) → R Term (lambda_term r b p x fs) (lambda_term s b p x fs)
      of_lambda x fs =
          after (List Symbol) Term (variables p [] x.heads) (variables p [] x.heads)
          (λ vs. r.term (with_bound b vs) x.body >>= λ u. each (r.term b) fs >>= λ ts. Ok (subst_of (zip vs ts) u))
          (λ vs. s.term (with_bound b vs) x.body >>= λ u. each (s.term b) fs >>= λ ts. Ok (subst_of (zip vs ts) u))
          (same (List Symbol) (variables p [] x.heads))
          (λ vs. after Term Term (r.term (with_bound b vs) x.body) (s.term (with_bound b vs) x.body)
          (λ u. each (r.term b) fs >>= λ ts. Ok (subst_of (zip vs ts) u)) (λ u. each (s.term b) fs >>= λ ts. Ok (subst_of (zip vs ts) u)) (both.term (with_bound b vs) x.body)
          (λ u. given (List Term) Term (each (r.term b) fs) (each (s.term b) fs) (λ ts. subst_of (zip vs ts) u) (of_each Form Term (r.term b) (s.term b) (both.term b) fs)))

      of_quoted : (x y : Answer Value) → R Value x y → R Term (quoted_term x) (quoted_term y)
      of_quoted x y k = given Value Term x y (λ v. Quote v) k

      of_plan : (x : Plan) → R Term (plan_term r b p x) (plan_term s b p x)
      of_plan empty = same Term (plan_term r b p empty)
      of_plan (quotation f) = of_quoted (r.constant f) (s.constant f) (both.constant f)
      of_plan (build k fs) = given (List Term) Term (each (r.term b) fs) (each (s.term b) fs) (made k) (of_each Form Term (r.term b) (s.term b) (both.term b) fs)
      of_plan (arms fs) = of_arms (r.term b) (s.term b) (both.term b) p fs
      of_plan (bind in_turn x) = of_let in_turn x
      of_plan (apply x fs) = of_lambda x fs

    of_part : (r s : Readers) → BothRead R r s → (b : Bound) (p : ℕ) (y : Layer) → R Term (part_layer (Some r) b p y) (part_layer (Some s) b p y)
    of_part r s k b p (Body-F.Int n) = same Term (part_layer (Some r) b p (Body-F.Int n))
    of_part r s k b p (Body-F.Chr c) = same Term (part_layer (Some r) b p (Body-F.Chr c))
    of_part r s k b p (Body-F.Str x) = same Term (part_layer (Some r) b p (Body-F.Str x))
    of_part r s k b p (Body-F.Sym x) = same Term (part_layer (Some r) b p (Body-F.Sym x))
    of_part r s k b p (Body-F.List fs) = given (List Piece) Term (each (r.piece b) fs) (each (s.piece b) fs) pieced (of_each Form Piece (r.piece b) (s.piece b) (k.piece b) fs)
    of_part r s k b p (Body-F.Dotted fs f) = same Term (refused p kinds.DottedForm)
    of_part r s k b p (Body-F.Quoted f) = given Piece Term (r.piece b f) (s.piece b f) (λ x. call_2 cons_name (Quote (Sym quote_name)) (pieced (x ∷ []))) (k.piece b f)
    of_part r s k b p (Body-F.Quasi f) = same Term (refused p kinds.BadForm)
    of_part r s k b p (Body-F.Comma f) = k.term b f
    of_part r s k b p (Body-F.CommaAt f) = same Term (refused p kinds.BadForm)

    of_piece : (r s : Readers) → BothRead R r s → (b : Bound) (p : ℕ) (y : Layer) → R Piece (piece_layer (Some r) b p y) (piece_layer (Some s) b p y)
    of_piece r s k b p (Body-F.CommaAt f) = given Term Piece (r.term b f) (s.term b f) (λ t. record { spliced = true; term = t }) (k.term b f)
    of_piece r s k b p y = given Term Piece (part_layer (Some r) b p y) (part_layer (Some s) b p y) (λ t. record { spliced = false; term = t }) (of_part r s k b p y)

    -- in two worlds, where it holds of what calls ask for and of constants
    module _ (W U : List Entry) (calls : (p : ℕ) (s : Symbol) (fs : List Form) → R Plan (call_plan p s (arity_in W s) fs) (call_plan p s (arity_in U s) fs))
        (constants : (p : ℕ) (s : Symbol) → R Term (constant_term p (constant_of W s)) (constant_term p (constant_of U s)))
      where
        of_named : (p : ℕ) (s : Symbol) (m : Option Macro) (path : Option (List ℕ)) (fs : List Form) → R Plan (named_by W p s m path fs) (named_by U p s m path fs)
        of_named p s (Some m) path fs = same Plan (named_by W p s (Some m) path fs)
        of_named p s None (Some path) fs = same Plan (named_by W p s None (Some path) fs)
        of_named p s None None fs = calls p s fs

        of_head : (p : ℕ) (o : Option Symbol) (x : Option Scope) (fs : List Form) → R Plan (headed_plan W p o x fs) (headed_plan U p o x fs)
        of_head p None x fs = same Plan (headed_plan W p None x fs)
        of_head p (Some s) x fs = of_named p s (macro_of s) (path_of s) fs

        of_plan_in : (p : ℕ) (fs : List Form) → R Plan (plan_in W p fs) (plan_in U p fs)
        of_plan_in p [] = same Plan (Ok empty)
        of_plan_in p (h ∷ fs) = of_head p (symbol_in h) (lambda_in h) fs

        of_symbol : (p : ℕ) (b : Bound) (s : Symbol) → R Term (symbol_term W p b s) (symbol_term U p b s)
        of_symbol p b s = go (is_constant s) (is_starred s.name)
          where
            go : (c d : Bool) → R Term (cond c (Ok (Quote (Sym s))) (cond d (constant_term p (constant_of W s)) (variable_term p b s)))
                (cond c (Ok (Quote (Sym s))) (cond d (constant_term p (constant_of U s)) (variable_term p b s)))
            go true d = same Term (Ok (Quote (Sym s)))
            go false true = constants p s
            go false false = same Term (variable_term p b s)

        of_term : (r s : Readers) → BothRead R r s → (b : Bound) (p : ℕ) (y : Layer) → R Term (term_layer W (Some r) b p y) (term_layer U (Some s) b p y)
        of_term r s k b p (Body-F.Int n) = same Term (term_layer W (Some r) b p (Body-F.Int n))
        of_term r s k b p (Body-F.Chr c) = same Term (term_layer W (Some r) b p (Body-F.Chr c))
        of_term r s k b p (Body-F.Str x) = same Term (term_layer W (Some r) b p (Body-F.Str x))
        of_term r s k b p (Body-F.Sym x) = of_symbol p b x
        of_term r s k b p (Body-F.List fs) = after Plan Term (plan_in W p fs) (plan_in U p fs) (plan_term r b p) (plan_term s b p) (of_plan_in p fs) (of_plan r s k b p)
        of_term r s k b p (Body-F.Dotted fs f) = same Term (refused p kinds.DottedForm)
        of_term r s k b p (Body-F.Quoted f) = of_quoted r s k b p (r.constant f) (s.constant f) (k.constant f)
        of_term r s k b p (Body-F.Quasi f) = k.part b f
        of_term r s k b p (Body-F.Comma f) = same Term (refused p kinds.CommaOutside)
        of_term r s k b p (Body-F.CommaAt f) = same Term (refused p kinds.CommaOutside)

        none_term : (b : Bound) (p : ℕ) (y : Layer) → R Term (term_layer W None b p y) (term_layer U None b p y)
        none_term b p (Body-F.Sym x) = of_symbol p b x
        none_term b p (Body-F.Int n) = same Term (term_layer W None b p (Body-F.Int n))
        none_term b p (Body-F.Chr c) = same Term (term_layer W None b p (Body-F.Chr c))
        none_term b p (Body-F.Str x) = same Term (term_layer W None b p (Body-F.Str x))
        none_term b p (Body-F.List fs) = same Term (refused p kinds.BadForm)
        none_term b p (Body-F.Dotted fs f) = same Term (refused p kinds.DottedForm)
        none_term b p (Body-F.Quoted f) = same Term (refused p kinds.BadForm)
        none_term b p (Body-F.Quasi f) = same Term (refused p kinds.BadForm)
        none_term b p (Body-F.Comma f) = same Term (refused p kinds.CommaOutside)
        none_term b p (Body-F.CommaAt f) = same Term (refused p kinds.CommaOutside)

        both_at : (n : ℕ) → BothRead R (level W n) (level U n)
        unfolding readers
        both_at zero = record {
          term = λ b f. none_term b f.place (layer_of f);
          part = λ b f. same Term (part_layer None b f.place (layer_of f));
          piece = λ b f. same Piece (piece_layer None b f.place (layer_of f));
          constant = λ f. same Value ((level W zero).constant f);
        }
        both_at (suc n) = record {
          term = λ b f. of_term (level W n) (level U n) (both_at n) b f.place (layer_of f);
          part = λ b f. of_part (level W n) (level U n) (both_at n) b f.place (layer_of f);
          piece = λ b f. of_piece (level W n) (level U n) (both_at n) b f.place (layer_of f);
          constant = λ f. same Value ((level W (suc n)).constant f);
        }

        pub both_translated : (b : Bound) (f : Form) → R Term (translated W b f) (translated U b f)
        both_translated b f = after Term Term (term_in W 400 b f) (term_in U 400 b f) (within f.place) (within f.place) (going 400 b f) (λ t. same Term (within f.place t))
          where
            going : (n : ℕ) (c : Bound) (g : Form) → R Term (term_in W n c g) (term_in U n c g)
            going n c g = (both_at n).term c g

-- What is a term where more is known.

-- a name isn't known, and this holds
pub record Unknown (M : Type 0) (A : Type 0) (r : Answer A) : Type 0 where
  pub place : ℕ
  pub is : r ≡ refused place kinds.UnknownName
  pub holds : M

-- what the second gives, the first gives, unless a name isn't known to it
abbrev pub Near : Type 0 → (A : Type 0) → Answer A → Answer A → Type 0
Near M A r s = (a : A) → s ≡ Ok a → (r ≡ Ok a) ⊎ Unknown M A r

pub near_same : (M : Type 0) (A : Type 0) (r : Answer A) → Near M A r r
near_same M A r a q = inl q

pub near_after : (M : Type 0) (A B : Type 0) (r s : Answer A) (g h : A → Answer B) → Near M A r s → ((a : A) → Near M B (g a) (h a)) → Near M B (r >>= g) (s >>= h)
near_after M A B r (Err e) g h k l b q = absurd (cc q)
near_after M A B r (Ok a) g h k l b q = go (k a refl)
  where
    go : (r ≡ Ok a) ⊎ Unknown M A r → ((r >>= g) ≡ Ok b) ⊎ Unknown M B (r >>= g)
    go (inl e) = subst (λ x. ((x >>= g) ≡ Ok b) ⊎ Unknown M B (x >>= g)) (sym e) (l a b q)
    go (inr n) = inr (record { place = n.place; is = ap (λ x. x >>= g) n.is; holds = n.holds })

-- and where that holds something else does
pub near_since : (M N : Type 0) → (M → N) → (A : Type 0) (r s : Answer A) → Near M A r s → Near N A r s
near_since M N f A r s k a q = go (k a q)
  where
    go : (r ≡ Ok a) ⊎ Unknown M A r → (r ≡ Ok a) ⊎ Unknown N A r
    go (inl e) = inl e
    go (inr n) = inr (record { place = n.place; is = n.is; holds = f n.holds })

-- what is found in the second world is found in the first, or isn't there at all, and then this holds
abbrev pub Finds : Type 0 → {A : Type 0} → Option A → Option A → Type 0
Finds M {A} o n = (a : A) → n ≡ Some a → (o ≡ Some a) ⊎ ((o ≡ None) × M)

module _ (M : Type 0) (W U : List Entry) (arities : (s : Symbol) → Finds M (arity_in W s) (arity_in U s)) (constants : (s : Symbol) → Finds M (constant_of W s) (constant_of U s)) where
  near_call : (p : ℕ) (s : Symbol) (fs : List Form) → Near M Plan (call_plan p s (arity_in W s) fs) (call_plan p s (arity_in U s) fs)
  near_call p s fs = go (arity_in U s) refl
    where
      found : (n : ℕ) (x : Plan) → call_plan p s (Some n) fs ≡ Ok x → (arity_in W s ≡ Some n) ⊎ ((arity_in W s ≡ None) × M)
          → (call_plan p s (arity_in W s) fs ≡ Ok x) ⊎ Unknown M Plan (call_plan p s (arity_in W s) fs)
      found n x q (inl e) = inl (subst (λ o. call_plan p s o fs ≡ Ok x) (sym e) q)
      found n x q (inr m) = inr (record { place = p; is = ap (λ o. call_plan p s o fs) m.0; holds = m.1 })

      go : (o : Option ℕ) → arity_in U s ≡ o → Near M Plan (call_plan p s (arity_in W s) fs) (call_plan p s o fs)
      go None e x q = absurd (cc q)
      go (Some n) e x q = found n x q (arities s n e)

  near_constant : (p : ℕ) (s : Symbol) → Near M Term (constant_term p (constant_of W s)) (constant_term p (constant_of U s))
  near_constant p s = go (constant_of U s) refl
    where
      found : (v : Value) (x : Term) → constant_term p (Some v) ≡ Ok x → (constant_of W s ≡ Some v) ⊎ ((constant_of W s ≡ None) × M)
          → (constant_term p (constant_of W s) ≡ Ok x) ⊎ Unknown M Term (constant_term p (constant_of W s))
      found v x q (inl e) = inl (subst (λ o. constant_term p o ≡ Ok x) (sym e) q)
      found v x q (inr m) = inr (record { place = p; is = ap (constant_term p) m.0; holds = m.1 })

      go : (o : Option Value) → constant_of U s ≡ o → Near M Term (constant_term p (constant_of W s)) (constant_term p o)
      go None e x q = absurd (cc q)
      go (Some v) e x q = found v x q (constants s v e)

  pub near_translated : (b : Bound) (f : Form) → Near M Term (translated W b f) (translated U b f)
  near_translated b f = both_translated (Near M) (near_same M) (near_after M) W U near_call near_constant b f

  pub near_all : (b : Bound) (fs : List Form) → Near M (List Term) (each (translated W b) fs) (each (translated U b) fs)
  near_all b fs = of_each (Near M) (near_same M) (near_after M) Form Term (translated W b) (translated U b) (near_translated b) fs
