-- A form that is a term where less is known is the same term where more is known.
use Rattle.std.proofs.Common.{◌≡◌, ℕ, zero, suc, Bool, true, false, cond, length, List, [], ◌∷◌, ◌++◌, map, zip, Option, Some, None, Ok, Err, refl, ap, ◌∙◌, sym, subst}
use Rattle.ap_value.specs.declared.symbol.Symbol.{Symbol}
use Rattle.ap_value.specs.declared.value.Value.{Value}
use Rattle.ap_value.specs.declared.value.Value.TheVariants.{Sym}
use Rattle.ap_term.specs.declared.term.Term.{Term, Quote}
use Rattle.ap_term.specs.Terms.{subst_of}
use Rattle.ap_reader.specs.declared.form.Form.{Form}
use Rattle.ap_reader.specs.declared.form.Body.TheOpen.{Body-F}
use Rattle.ap_world.specs.declared.entry.Function.{Function}
use Rattle.ap_world.specs.declared.entry.Entry.{Entry}
use Rattle.ap_world.specs.declared.entry.Entry.TheVariants as entry
use Rattle.ap_world.specs.declared.primitive.Primitive.{Primitive}
use Rattle.ap_world.specs.Alike.{SameButMask, Covers}
use Rattle.ap_world.specs.Names.{cons_name}
use Rattle.ap_world.specs.Primitives.{prim_of}
use Rattle.ap_world.specs.World.{entry_of, as_function, function_of, as_constant, constant_of}
use Rattle.ap_translate.specs.declared.build.Piece.{Piece}
use Rattle.ap_translate.specs.declared.macros.Macro.{Macro}
use Rattle.ap_translate.specs.Answers.{Answer, ◌>>=◌, shaped, each}
use Rattle.ap_translate.specs.Names.{is_constant, is_starred}
use Rattle.ap_translate.specs.Parts.{Layer, layer_of, symbol_in}
use Rattle.ap_translate.specs.Macros.{macro_of, path_of}
use Rattle.ap_translate.specs.Quoted.{quote_name}
use Rattle.ap_translate.specs.Rows.{call_2, if_term, or_term, made, pieced}
use Rattle.ap_translate.specs.Shapes.{Arm, alone, pair, otherwise, arm_in, Bind, binding_in, Scope, lambda_in}
use Rattle.ap_translate.specs.Plans.{Plan, empty, quotation, build, arms, bind, apply, plan_in, headed_plan, named_by, call_plan, arity_of, arity_in}
use Rattle.ap_translate.specs.Table.{Bound, with_bound, Readers, constant_term, variable_term, symbol_term, variable, variables, bindings, scope_of, body_of, let_term, lambda_term, arm_term, arms_term, quoted_term, plan_term, term_layer, part_layer, piece_layer, readers, term_in, level, within, translated}
use Rattle.ap_translate.specs.Laws.{KnowsMore}

-- what the first gives, the second gives
abbrev pub Below : (A : Type 0) → Answer A → Answer A → Type 0
Below A r s = (a : A) → r ≡ Ok a → s ≡ Ok a

pub after : (A B : Type 0) (r s : Answer A) (g h : A → Answer B) → Below A r s → ((a : A) → Below B (g a) (h a)) → Below B (r >>= g) (s >>= h)
after A B (Err e) s g h k l b q = cc
after A B (Ok a) s g h k l b q = ap (λ t. t >>= h) (k a refl) ∙ l a b q

-- what an answer that is given by parts is made of
pub then_ok : {A B : Type 0} (r : Answer A) (g : A → Answer B) (b : B) → (r >>= g) ≡ Ok b → (a : A) × (r ≡ Ok a) × (g a ≡ Ok b)
then_ok (Ok a) g b h = (a, refl, h)
then_ok (Err e) g b h = absurd (no h)
  where
    no : Err e ≡ Ok b → ⊥
    no q = cc

of_shape : (A B : Type 0) (p : ℕ) (o : Option A) (g h : A → Answer B) → ((a : A) → Below B (g a) (h a)) → Below B (shaped p o g) (shaped p o h)
of_shape A B p None g h l b q = q
of_shape A B p (Some a) g h l b q = l a b q

of_each : (A B : Type 0) (g h : A → Answer B) → ((x : A) → Below B (g x) (h x)) → (xs : List A) → Below (List B) (each g xs) (each h xs)
of_each A B g h l [] b q = q
of_each A B g h l (x ∷ xs) b q =
    after B (List B) (g x) (h x) (λ y. each g xs >>= λ ys. Ok (y ∷ ys)) (λ y. each h xs >>= λ ys. Ok (y ∷ ys)) (l x)
    (λ y. after (List B) (List B) (each g xs) (each h xs) (λ ys. Ok (y ∷ ys)) (λ ys. Ok (y ∷ ys)) (of_each A B g h l xs) (λ ys c r. r)) b q

-- readers, part by part
record ReadMore (r s : Readers) : Type 0 where
  term : (b : Bound) (f : Form) → Below Term (r.term b f) (s.term b f)
  part : (b : Bound) (f : Form) → Below Term (r.part b f) (s.part b f)
  piece : (b : Bound) (f : Form) → Below Piece (r.piece b f) (s.piece b f)
  constant : (f : Form) → Below Value (r.constant f) (s.constant f)

abbrev Bindings : Type 0
Bindings = List (Symbol × Term)

of_bindings : (g h : List Symbol → Form → Answer Term) → ((xs : List Symbol) (f : Form) → Below Term (g xs f) (h xs f)) → (p : ℕ) (fs : List Form) (before : List Symbol)
    → Below Bindings (bindings g p before fs) (bindings h p before fs)
of_bindings g h l p [] before b q = q
of_bindings g h l p (f ∷ fs) before b q =
    of_shape Bind Bindings p (binding_in f)
    (λ x. variable x.place before x.name >>= λ v. g before x.value >>= λ u. bindings g p (before ++ v ∷ []) fs >>= λ ss. Ok ((v, u) ∷ ss))
    (λ x. variable x.place before x.name >>= λ v. h before x.value >>= λ u. bindings h p (before ++ v ∷ []) fs >>= λ ss. Ok ((v, u) ∷ ss))
    (λ x. after Symbol Bindings (variable x.place before x.name) (variable x.place before x.name)
    (λ v. g before x.value >>= λ u. bindings g p (before ++ v ∷ []) fs >>= λ ss. Ok ((v, u) ∷ ss))
    (λ v. h before x.value >>= λ u. bindings h p (before ++ v ∷ []) fs >>= λ ss. Ok ((v, u) ∷ ss))
    (λ a r. r)
    (λ v. after Term Bindings (g before x.value) (h before x.value)
    (λ u. bindings g p (before ++ v ∷ []) fs >>= λ ss. Ok ((v, u) ∷ ss))
    (λ u. bindings h p (before ++ v ∷ []) fs >>= λ ss. Ok ((v, u) ∷ ss))
    (l before x.value)
    (λ u. after Bindings Bindings (bindings g p (before ++ v ∷ []) fs) (bindings h p (before ++ v ∷ []) fs) (λ ss. Ok ((v, u) ∷ ss)) (λ ss. Ok ((v, u) ∷ ss))
    (of_bindings g h l p fs (before ++ v ∷ [])) (λ ss a r. r)))) b q

of_arm : (g h : Form → Answer Term) → ((f : Form) → Below Term (g f) (h f)) → (x : Arm) (r s : Answer Term) → Below Term r s → Below Term (arm_term g x r) (arm_term h x s)
of_arm g h l (alone f) r s k b q =
    after Term Term (g f) (h f) (λ a. r >>= λ u. Ok (or_term a u)) (λ a. s >>= λ u. Ok (or_term a u)) (l f)
    (λ a. after Term Term r s (λ u. Ok (or_term a u)) (λ u. Ok (or_term a u)) k (λ u c e. e)) b q
of_arm g h l (pair f j) r s k b q =
    after Term Term (g f) (h f) (λ a. g j >>= λ d. r >>= λ u. Ok (if_term a d u)) (λ a. h j >>= λ d. s >>= λ u. Ok (if_term a d u)) (l f)
    (λ a. after Term Term (g j) (h j) (λ d. r >>= λ u. Ok (if_term a d u)) (λ d. s >>= λ u. Ok (if_term a d u)) (l j)
    (λ d. after Term Term r s (λ u. Ok (if_term a d u)) (λ u. Ok (if_term a d u)) k (λ u c e. e))) b q
of_arm g h l (otherwise f) r s k b q = l f b q

of_arms : (g h : Form → Answer Term) → ((f : Form) → Below Term (g f) (h f)) → (p : ℕ) (fs : List Form) → Below Term (arms_term g p fs) (arms_term h p fs)
of_arms g h l p [] b q = q
of_arms g h l p (f ∷ fs) b q =
    of_shape Arm Term p (arm_in f) (λ x. arm_term g x (arms_term g p fs)) (λ x. arm_term h x (arms_term h p fs))
    (λ x. of_arm g h l x (arms_term g p fs) (arms_term h p fs) (of_arms g h l p fs)) b q

module _ (r s : Readers) (more : ReadMore r s) (b : Bound) (p : ℕ) where
  of_let : (in_turn : Bool) (x : Scope) → Below Term (let_term in_turn r b p x) (let_term in_turn s b p x)
  of_let in_turn x =
      after Bindings Term (bindings (λ before. r.term (scope_of in_turn b before)) p [] x.heads) (bindings (λ before. s.term (scope_of in_turn b before)) p [] x.heads)
      (λ ss. r.term (with_bound b (map (λ y. y.0) ss)) x.body >>= λ u. Ok (body_of in_turn ss u)) (λ ss. s.term (with_bound b (map (λ y. y.0) ss)) x.body >>= λ u. Ok (body_of in_turn ss u))
      (of_bindings (λ before. r.term (scope_of in_turn b before)) (λ before. s.term (scope_of in_turn b before)) (λ xs f. more.term (scope_of in_turn b xs) f) p x.heads [])
      (λ ss. after Term Term (r.term (with_bound b (map (λ y. y.0) ss)) x.body) (s.term (with_bound b (map (λ y. y.0) ss)) x.body)
      (λ u. Ok (body_of in_turn ss u)) (λ u. Ok (body_of in_turn ss u)) (more.term (with_bound b (map (λ y. y.0) ss)) x.body) (λ u a e. e))

  of_lambda : (x : Scope) (fs : List Form) → Below Term (lambda_term r b p x fs) (lambda_term s b p x fs)
  of_lambda x fs =
      after (List Symbol) Term (variables p [] x.heads) (variables p [] x.heads)
      (λ vs. r.term (with_bound b vs) x.body >>= λ u. each (r.term b) fs >>= λ ts. Ok (subst_of (zip vs ts) u))
      (λ vs. s.term (with_bound b vs) x.body >>= λ u. each (s.term b) fs >>= λ ts. Ok (subst_of (zip vs ts) u))
      (λ a e. e)
      (λ vs. after Term Term (r.term (with_bound b vs) x.body) (s.term (with_bound b vs) x.body)
      (λ u. each (r.term b) fs >>= λ ts. Ok (subst_of (zip vs ts) u)) (λ u. each (s.term b) fs >>= λ ts. Ok (subst_of (zip vs ts) u)) (more.term (with_bound b vs) x.body)
      (λ u. after (List Term) Term (each (r.term b) fs) (each (s.term b) fs) (λ ts. Ok (subst_of (zip vs ts) u)) (λ ts. Ok (subst_of (zip vs ts) u))
      (of_each Form Term (r.term b) (s.term b) (more.term b) fs) (λ ts a e. e)))

  of_quoted : (x y : Answer Value) → Below Value x y → Below Term (quoted_term x) (quoted_term y)
  of_quoted x y k = after Value Term x y (λ v. Ok (Quote v)) (λ v. Ok (Quote v)) k (λ v a e. e)

  of_plan : (x : Plan) → Below Term (plan_term r b p x) (plan_term s b p x)
  of_plan empty a q = q
  of_plan (quotation f) a q = of_quoted (r.constant f) (s.constant f) (more.constant f) a q
  of_plan (build k fs) a q =
      after (List Term) Term (each (r.term b) fs) (each (s.term b) fs) (λ us. Ok (made k us)) (λ us. Ok (made k us)) (of_each Form Term (r.term b) (s.term b) (more.term b) fs) (λ us c e. e) a q
  of_plan (arms fs) a q = of_arms (r.term b) (s.term b) (more.term b) p fs a q
  of_plan (bind in_turn x) a q = of_let in_turn x a q
  of_plan (apply x fs) a q = of_lambda x fs a q

-- levels that are both there, or neither
ReadersMore : Option Readers → Option Readers → Type 0
ReadersMore None None = Unit {0}
ReadersMore (Some r) (Some s) = ReadMore r s
ReadersMore o n = ⊥

module _ (W U : List Entry) (more : KnowsMore W U) where
  of_call : (p : ℕ) (s : Symbol) (fs : List Form) (o : Option ℕ) → arity_in W s ≡ o → Below Plan (call_plan p s o fs) (call_plan p s (arity_in U s) fs)
  of_call p s fs None e b q = cc
  of_call p s fs (Some n) e b q = ap (λ o. call_plan p s o fs) (more.arities s n e) ∙ q

  of_named : (p : ℕ) (s : Symbol) (m : Option Macro) (path : Option (List ℕ)) (fs : List Form) → Below Plan (named_by W p s m path fs) (named_by U p s m path fs)
  of_named p s (Some m) path fs b q = q
  of_named p s None (Some path) fs b q = q
  of_named p s None None fs b q = of_call p s fs (arity_in W s) refl b q

  of_head : (p : ℕ) (o : Option Symbol) (x : Option Scope) (fs : List Form) → Below Plan (headed_plan W p o x fs) (headed_plan U p o x fs)
  of_head p None x fs b q = q
  of_head p (Some s) x fs b q = of_named p s (macro_of s) (path_of s) fs b q

  of_plan_in : (p : ℕ) (fs : List Form) → Below Plan (plan_in W p fs) (plan_in U p fs)
  of_plan_in p [] b q = q
  of_plan_in p (h ∷ fs) b q = of_head p (symbol_in h) (lambda_in h) fs b q

  of_constant : (p : ℕ) (s : Symbol) (o : Option Value) → constant_of W s ≡ o → Below Term (constant_term p o) (constant_term p (constant_of U s))
  of_constant p s None e b q = cc
  of_constant p s (Some v) e b q = ap (constant_term p) (more.constants s v e) ∙ q

  of_symbol : (p : ℕ) (b : Bound) (s : Symbol) → Below Term (symbol_term W p b s) (symbol_term U p b s)
  of_symbol p b s u q = go (is_constant s) (is_starred s.name) q
    where
      go : (c d : Bool) → cond c (Ok (Quote (Sym s))) (cond d (constant_term p (constant_of W s)) (variable_term p b s)) ≡ Ok u
          → cond c (Ok (Quote (Sym s))) (cond d (constant_term p (constant_of U s)) (variable_term p b s)) ≡ Ok u
      go true d e = e
      go false true e = of_constant p s (constant_of W s) refl u e
      go false false e = e

  of_term : (r s : Readers) → ReadMore r s → (b : Bound) (p : ℕ) (y : Layer) → Below Term (term_layer W (Some r) b p y) (term_layer U (Some s) b p y)
  of_term r s k b p (Body-F.Int n) u q = q
  of_term r s k b p (Body-F.Chr c) u q = q
  of_term r s k b p (Body-F.Str x) u q = q
  of_term r s k b p (Body-F.Sym x) u q = of_symbol p b x u q
  of_term r s k b p (Body-F.List fs) u q =
      after Plan Term (plan_in W p fs) (plan_in U p fs) (plan_term r b p) (plan_term s b p) (of_plan_in p fs) (of_plan r s k b p) u q
  of_term r s k b p (Body-F.Dotted fs f) u q = cc
  of_term r s k b p (Body-F.Quoted f) u q = of_quoted r s k b p (r.constant f) (s.constant f) (k.constant f) u q
  of_term r s k b p (Body-F.Quasi f) u q = k.part b f u q
  of_term r s k b p (Body-F.Comma f) u q = cc
  of_term r s k b p (Body-F.CommaAt f) u q = cc

  none_term : (b : Bound) (p : ℕ) (y : Layer) → Below Term (term_layer W None b p y) (term_layer U None b p y)
  none_term b p (Body-F.Sym x) u q = of_symbol p b x u q
  none_term b p (Body-F.Int n) u q = q
  none_term b p (Body-F.Chr c) u q = q
  none_term b p (Body-F.Str x) u q = q
  none_term b p (Body-F.List fs) u q = cc
  none_term b p (Body-F.Dotted fs f) u q = cc
  none_term b p (Body-F.Quoted f) u q = cc
  none_term b p (Body-F.Quasi f) u q = cc
  none_term b p (Body-F.Comma f) u q = cc
  none_term b p (Body-F.CommaAt f) u q = cc

of_part : (r s : Readers) → ReadMore r s → (b : Bound) (p : ℕ) (y : Layer) → Below Term (part_layer (Some r) b p y) (part_layer (Some s) b p y)
of_part r s k b p (Body-F.Int n) u q = q
of_part r s k b p (Body-F.Chr c) u q = q
of_part r s k b p (Body-F.Str x) u q = q
of_part r s k b p (Body-F.Sym x) u q = q
of_part r s k b p (Body-F.List fs) u q =
    after (List Piece) Term (each (r.piece b) fs) (each (s.piece b) fs) (λ xs. Ok (pieced xs)) (λ xs. Ok (pieced xs)) (of_each Form Piece (r.piece b) (s.piece b) (k.piece b) fs) (λ xs a e. e) u q
of_part r s k b p (Body-F.Dotted fs f) u q = cc
of_part r s k b p (Body-F.Quoted f) u q =
    after Piece Term (r.piece b f) (s.piece b f) (λ x. Ok (call_2 cons_name (Quote (Sym quote_name)) (pieced (x ∷ [])))) (λ x. Ok (call_2 cons_name (Quote (Sym quote_name)) (pieced (x ∷ []))))
    (k.piece b f) (λ x a e. e) u q
of_part r s k b p (Body-F.Quasi f) u q = cc
of_part r s k b p (Body-F.Comma f) u q = k.term b f u q
of_part r s k b p (Body-F.CommaAt f) u q = cc

whole_piece : Term → Answer Piece
whole_piece u = Ok (record { spliced = false; term = u })

of_piece : (r s : Readers) → ReadMore r s → (b : Bound) (p : ℕ) (y : Layer) → Below Piece (piece_layer (Some r) b p y) (piece_layer (Some s) b p y)
of_piece r s k b p (Body-F.CommaAt f) u q =
    after Term Piece (r.term b f) (s.term b f) (λ t. Ok (record { spliced = true; term = t })) (λ t. Ok (record { spliced = true; term = t })) (k.term b f) (λ t a e. e) u q
of_piece r s k b p y u q =
    after Term Piece (part_layer (Some r) b p y) (part_layer (Some s) b p y) (λ t. Ok (record { spliced = false; term = t })) (λ t. Ok (record { spliced = false; term = t })) (of_part r s k b p y) (λ t a e. e) u q

module _ (W U : List Entry) (more : KnowsMore W U) where
  more_at : (n : ℕ) → ReadMore (level W n) (level U n)
  unfolding readers
  more_at zero = record {
    term = λ b f. none_term W U more b f.place (layer_of f);
    part = λ b f u q. q;
    piece = λ b f u q. q;
    constant = λ f u q. q;
  }
  more_at (suc n) = record {
    term = λ b f. of_term W U more (level W n) (level U n) (more_at n) b f.place (layer_of f);
    part = λ b f. of_part (level W n) (level U n) (more_at n) b f.place (layer_of f);
    piece = λ b f. of_piece (level W n) (level U n) (more_at n) b f.place (layer_of f);
    constant = λ f u q. q;
  }

  pub more_translated : (b : Bound) (f : Form) (u : Term) → translated W b f ≡ Ok u → translated U b f ≡ Ok u
  more_translated b f =
      after Term Term (term_in W 400 b f) (term_in U 400 b f) (within f.place) (within f.place) (going 400 b f) (λ t a e. e)
    where
      going : (n : ℕ) (c : Bound) (g : Form) → Below Term (term_in W n c g) (term_in U n c g)
      going n c g = (more_at n).term c g

pub more_all : (W U : List Entry) → KnowsMore W U → (b : Bound) (fs : List Form) (us : List Term) → each (translated W b) fs ≡ Ok us → each (translated U b) fs ≡ Ok us
more_all W U more b fs = of_each Form Term (translated W b) (translated U b) (more_translated W U more b) fs

-- a world that covers another one has its constants, and its functions with as many arguments
constant_there : (W U : List Entry) → Covers W U → (s : Symbol) (v : Value) → constant_of W s ≡ Some v → constant_of U s ≡ Some v
constant_there W U covered s v h = go (entry_of W s) refl h
  where
    same : (c : Symbol) (z : Entry) → entry_of U s ≡ Some z → SameButMask (entry.Constant c v) z → constant_of U s ≡ Some v
    same c (entry.Constant d w) e k = ap as_constant (e ∙ ap (λ y. Some y) (sym k))
    same c (entry.Function g) e k = absurd (cc k)
    same c (entry.Theorem u) e k = absurd (cc k)

    go : (o : Option Entry) → entry_of W s ≡ o → as_constant o ≡ Some v → constant_of U s ≡ Some v
    go None e k = absurd (cc k)
    go (Some (entry.Function g)) e k = absurd (cc k)
    go (Some (entry.Theorem u)) e k = absurd (cc k)
    go (Some (entry.Constant c w)) e k =
        let is : w ≡ v = cc in
        let (z, d, r) = covered s (entry.Constant c w) e in
        same c z d (subst (λ x. SameButMask (entry.Constant c x) z) is r)

arity_there : (W U : List Entry) → Covers W U → (s : Symbol) (n : ℕ) → arity_in W s ≡ Some n → arity_in U s ≡ Some n
arity_there W U covered s n h = by_primitive (prim_of s) h
  where
    by_entry : (z : Entry) → entry_of U s ≡ Some z → (g : Function) → SameButMask (entry.Function g) z → arity_of None (Some g) ≡ Some n → arity_of None (function_of U s) ≡ Some n
    by_entry (entry.Function j) e g r k = ap (λ o. arity_of None (as_function o)) e ∙ ap (λ (xs : List Symbol). Some (length xs)) (sym r.formals) ∙ k
    by_entry (entry.Theorem u) e g r k = absurd (cc r)
    by_entry (entry.Constant c v) e g r k = absurd (cc r)

    by_world : (o : Option Entry) → entry_of W s ≡ o → arity_of None (as_function o) ≡ Some n → arity_of None (function_of U s) ≡ Some n
    by_world (Some (entry.Function g)) e k = let (z, d, r) = covered s (entry.Function g) e in by_entry z d g r k
    by_world (Some (entry.Theorem u)) e k = absurd (cc k)
    by_world (Some (entry.Constant c v)) e k = absurd (cc k)
    by_world None e k = absurd (cc k)

    by_primitive : (p : Option Primitive) → arity_of p (function_of W s) ≡ Some n → arity_of p (function_of U s) ≡ Some n
    by_primitive (Some p) k = k
    by_primitive None k = by_world (entry_of W s) refl k

pub covers_knows : (W U : List Entry) → Covers W U → KnowsMore W U
covers_knows W U covered = record { constants = constant_there W U covered; arities = arity_there W U covered }
