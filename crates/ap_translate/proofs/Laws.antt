-- What the terms of forms have in common: a property of terms that each line of the table keeps holds of
-- each term that a form is.
use Rattle.std.proofs.Common.{◌≡◌, ℕ, zero, suc, Bool, true, false, cond, ◌≤◌, nat_eq, nat_le, List, [], ◌∷◌, ◌++◌, map, zip, length, Option, Some, None, IfSome, option_map, Result, Ok, Err, IfOk, unwrap_or, refl, sym, ap, ◌∙◌, subst, append_assoc, arith}
use Rattle.std.proofs.lemmas.Bool.Decides.{nat_tests}
use Rattle.std.proofs.lemmas.List.{append-nil}
use Rattle.std.proofs.Math.ListN.{length-map}
use Rattle.ap_list.specs.Lists.{Each, is_among, lookup_by}
use Rattle.ap_value.specs.declared.symbol.Symbol.{Symbol}
use Rattle.ap_value.specs.declared.value.Value.{Value}
use Rattle.ap_value.specs.declared.value.Value.TheVariants.{Int, Chr, Str, Sym}
use Rattle.ap_value.specs.Values.{symbol_eq}
use Rattle.ap_reader.specs.declared.form.Form.{Form}
use Rattle.ap_reader.specs.declared.form.Body.TheOpen.{Body-F}
use Rattle.ap_term.specs.declared.term.Term.{Term, Var, Quote, Call}
use Rattle.ap_term.specs.Terms.{term_size, subst_of}
use Rattle.ap_term.proofs.Induction.{term_ind}
use Rattle.ap_world.specs.Names.{nil_name, t_name, if_name, equal_name, cons_name, car_name, cdr_name, plus_name, times_name, minus_name, less_name, not_name, append_name}
use Rattle.ap_world.specs.declared.entry.Entry.{Entry}
use Rattle.ap_world.specs.declared.entry.Function.{Function}
use Rattle.ap_world.specs.declared.primitive.Primitive.{Primitive}
use Rattle.ap_world.specs.Primitives.{prim_of, prim_arity}
use Rattle.ap_world.specs.Meaning.{Defs}
use Rattle.ap_world.specs.Sound.{takes, is_head, known, speaks_of}
use Rattle.ap_world.specs.World.{constant_of, function_of}
use Rattle.ap_world.proofs.Equations.{names_open, prim_of_if, prim_of_equal, prim_of_cons, prim_of_car, prim_of_cdr, prim_of_plus, prim_of_times, prim_of_minus, prim_of_less, prim_of_not}
use Rattle.ap_world.proofs.Knowing.{known_var, known_quote, known_by, known_head, known_args, each_true, true_each}
use Rattle.ap_world.proofs.Written.{subst_var, subst_quote, subst_call}
use Rattle.ap_translate.specs.declared.build.Maker.{Maker}
use Rattle.ap_translate.specs.declared.build.Maker.TheVariants as makers
use Rattle.ap_translate.specs.declared.build.Piece.{Piece}
use Rattle.ap_translate.specs.declared.fault.TransKind.TheVariants as kinds
use Rattle.ap_translate.specs.declared.fault.TransError.{TransError}
use Rattle.ap_translate.specs.declared.macros.Macro.{Macro}
use Rattle.ap_translate.specs.declared.macros.Macro.TheVariants as m
use Rattle.ap_translate.specs.Answers.{Answer, refused, ◌>>=◌, shaped, each, Gives}
use Rattle.ap_translate.specs.Names.{is_constant, is_starred}
use Rattle.ap_translate.specs.Parts.{Layer, layer_of}
use Rattle.ap_translate.specs.Quoted.{quote_name}
use Rattle.ap_translate.specs.Rows.{nil_term, t_term, integer_term, call_1, call_2, if_term, and_term, or_term, chained, joined, summed, built_few, built, accessed, only, made, pieced, instances}
use Rattle.ap_translate.specs.Shapes.{Arm, alone, pair, otherwise, arm_in, Bind, binding_in, Scope}
use Rattle.ap_translate.specs.Plans.{Plan, empty, quotation, build, arms, bind, apply, arity_of, arity_in, plan_in}
use Rattle.ap_translate.specs.Table.{Bound, with_bound, Readers, constant_term, variable_term, symbol_term, variable, variables, bindings, scope_of, body_of, let_term, lambda_term, arm_term, arms_term, quoted_term, plan_term, term_layer, part_layer, piece_layer, readers, term_in, within}
use Rattle.ap_translate.specs.Laws.{HasMacroFunctions}
use Rattle.ap_translate.proofs.Makings.{each_length}
use Rattle.ap_translate.proofs.Bindings.{named_length}
use Rattle.ap_translate.proofs.Planning.{Made, Sensible, sensible}
use Rattle.ap_translate.proofs.Speaking.{speaks_var, speaks_quote, speaks_call, speaks_instance}

-- an answer that is a term has the property
abbrev pub Holds : {A : Type 0} → (A → Type 0) → Answer A → Type 0
Holds P (Ok a) = P a
Holds P (Err e) = Unit {0}

pub then_holds : {A B : Type 0} (P : A → Type 0) (Q : B → Type 0) (r : Answer A) (f : A → Answer B) → Holds P r → ((a : A) → P a → Holds Q (f a)) → Holds Q (r >>= f)
then_holds P Q (Ok a) f h k = k a h
then_holds P Q (Err e) f h k = tt

always : {A : Type 0} (r : Answer A) → Holds (λ a. Unit {0}) r
always (Ok a) = tt
always (Err e) = tt

pub each_holds : {A B : Type 0} (P : B → Type 0) (g : A → Answer B) → ((a : A) → Holds P (g a)) → (xs : List A) → Holds (Each P) (each g xs)
each_holds P g h [] = tt
each_holds P g h (x ∷ xs) =
    then_holds P (Each P) (g x) (λ y. each g xs >>= λ ys. Ok (y ∷ ys)) (h x)
    (λ y k. then_holds (Each P) (Each P) (each g xs) (λ ys. Ok (y ∷ ys)) (each_holds P g h xs) (λ ys l. (k, l)))

-- what is to be kept: by the constants, by the variables that may stand, by calls of the table's functions and
-- of those of the world, and by variables that are replaced
pub record Keeps (W : List Entry) (Takes : Symbol → ℕ → Type 0) (P : Bound → Term → Type 0) : Type 0 where
  pub constant : (b : Bound) (v : Value) → P b (Quote v)
  pub variable : (p : ℕ) (b : Bound) (s : Symbol) → Holds (P b) (variable_term p b s)
  pub call : (b : Bound) (f : Symbol) (us : List Term) → Takes f (length us) → Each (P b) us → P b (Call f us)
  pub replaced : (b : Bound) (ss : List (Symbol × Term)) (u : Term) → Each (λ s. P b s.1) ss → P (with_bound b (map (λ s. s.0) ss)) u → P b (subst_of ss u)
  pub called : (s : Symbol) (n : ℕ) → arity_in W s ≡ Some n → Takes s n
  pub takes_if : Takes if_name 3
  pub takes_equal : Takes equal_name 2
  pub takes_cons : Takes cons_name 2
  pub takes_car : Takes car_name 1
  pub takes_cdr : Takes cdr_name 1
  pub takes_plus : Takes plus_name 2
  pub takes_times : Takes times_name 2
  pub takes_minus : Takes minus_name 1
  pub takes_less : Takes less_name 2
  pub takes_not : Takes not_name 1
  pub takes_append : Takes append_name 2

module _ (W : List Entry) (Takes : Symbol → ℕ → Type 0) (P : Bound → Term → Type 0) (keeps : Keeps W Takes P) where
  -- calls of the table
  module _ (b : Bound) where
    one : (f : Symbol) → Takes f 1 → (a : Term) → P b a → P b (call_1 f a)
    one f k a h = keeps.call b f (a ∷ []) k (h, tt)

    two : (f : Symbol) → Takes f 2 → (a c : Term) → P b a → P b c → P b (call_2 f a c)
    two f k a c h l = keeps.call b f (a ∷ c ∷ []) k (h, (l, tt))

    three : (a c d : Term) → P b a → P b c → P b d → P b (if_term a c d)
    three a c d h l n = keeps.call b if_name (a ∷ c ∷ d ∷ []) keeps.takes_if (h, (l, (n, tt)))

    nil_keeps : P b nil_term
    nil_keeps = keeps.constant b (Sym nil_name)

    chained_keeps : (join : Term → Term → Term) → ((a c : Term) → P b a → P b c → P b (join a c)) → (us : List Term) (e : Term) → Each (P b) us → P b e → P b (chained join us e)
    chained_keeps join k [] e hs h = h
    chained_keeps join k (a ∷ us) e hs h = k a (chained join us e) hs.0 (chained_keeps join k us e hs.1 h)

    joined_keeps : (join : Term → Term → Term) → ((a c : Term) → P b a → P b c → P b (join a c)) → (e : Term) (us : List Term) → P b e → Each (P b) us → P b (joined join e us)
    joined_keeps join k e [] h hs = h
    joined_keeps join k e (a ∷ []) h hs = hs.0
    joined_keeps join k e (a ∷ c ∷ us) h hs = k a (joined join e (c ∷ us)) hs.0 (joined_keeps join k e (c ∷ us) h hs.1)

    summed_keeps : (join : Term → Term → Term) → ((a c : Term) → P b a → P b c → P b (join a c)) → (e : Term) (us : List Term) → P b e → Each (P b) us → P b (summed join e us)
    summed_keeps join k e [] h hs = h
    summed_keeps join k e (a ∷ []) h hs = k e a h hs.0
    summed_keeps join k e (a ∷ c ∷ us) h hs = joined_keeps join k e (a ∷ c ∷ us) h hs

    few_keeps : (k : Macro) (us : List Term) → Each (P b) us → P b (built_few k us)
    few_keeps m.Minus (a ∷ []) hs = one minus_name keeps.takes_minus a hs.0
    few_keeps m.Minus (a ∷ c ∷ []) hs = two plus_name keeps.takes_plus a (call_1 minus_name c) hs.0 (one minus_name keeps.takes_minus c hs.1.0)
    few_keeps m.Greater (a ∷ c ∷ []) hs = two less_name keeps.takes_less c a hs.1.0 hs.0
    few_keeps m.AtMost (a ∷ c ∷ []) hs = one not_name keeps.takes_not (call_2 less_name c a) (two less_name keeps.takes_less c a hs.1.0 hs.0)
    few_keeps m.AtLeast (a ∷ c ∷ []) hs = one not_name keeps.takes_not (call_2 less_name a c) (two less_name keeps.takes_less a c hs.0 hs.1.0)
    few_keeps m.Differs (a ∷ c ∷ []) hs = one not_name keeps.takes_not (call_2 equal_name a c) (two equal_name keeps.takes_equal a c hs.0 hs.1.0)
    few_keeps m.Increment (a ∷ []) hs = two plus_name keeps.takes_plus _ a (keeps.constant b _) hs.0
    few_keeps m.Decrement (a ∷ []) hs = two plus_name keeps.takes_plus _ a (keeps.constant b _) hs.0
    few_keeps k us hs = nil_keeps

    built_keeps : (k : Macro) (us : List Term) → Each (P b) us → P b (built k us)
    built_keeps m.And us hs = joined_keeps and_term (λ a c h l. three a c nil_term h l nil_keeps) t_term us (keeps.constant b (Sym t_name)) hs
    built_keeps m.Or us hs = joined_keeps or_term (λ a c h l. three a a c h h l) nil_term us nil_keeps hs
    built_keeps m.Plus us hs = summed_keeps (call_2 plus_name) (two plus_name keeps.takes_plus) _ us (keeps.constant b _) hs
    built_keeps m.Times us hs = summed_keeps (call_2 times_name) (two times_name keeps.takes_times) _ us (keeps.constant b _) hs
    built_keeps m.List us hs = chained_keeps (call_2 cons_name) (two cons_name keeps.takes_cons) us nil_term hs nil_keeps
    built_keeps m.ListStar us hs = joined_keeps (call_2 cons_name) (two cons_name keeps.takes_cons) nil_term us nil_keeps hs
    built_keeps m.Append us hs = joined_keeps (call_2 append_name) (two append_name keeps.takes_append) nil_term us nil_keeps hs
    built_keeps m.Minus us hs = few_keeps m.Minus us hs
    built_keeps m.Greater us hs = few_keeps m.Greater us hs
    built_keeps m.AtMost us hs = few_keeps m.AtMost us hs
    built_keeps m.AtLeast us hs = few_keeps m.AtLeast us hs
    built_keeps m.Differs us hs = few_keeps m.Differs us hs
    built_keeps m.Increment us hs = few_keeps m.Increment us hs
    built_keeps m.Decrement us hs = few_keeps m.Decrement us hs
    built_keeps m.Quote us hs = few_keeps m.Quote us hs
    built_keeps m.Cond us hs = few_keeps m.Cond us hs
    built_keeps m.Let us hs = few_keeps m.Let us hs
    built_keeps m.LetStar us hs = few_keeps m.LetStar us hs

    turn_keeps : (c : Bool) (u : Term) → P b u → P b (call_1 (cond c car_name cdr_name) u)
    turn_keeps true u h = one car_name keeps.takes_car u h
    turn_keeps false u h = one cdr_name keeps.takes_cdr u h

    accessed_keeps : (path : List ℕ) (u : Term) → P b u → P b (accessed path u)
    accessed_keeps [] u h = h
    accessed_keeps (c ∷ cs) u h = turn_keeps (nat_eq c 65) (accessed cs u) (accessed_keeps cs u h)

    only_keeps : (f : Term → Term) → ((a : Term) → P b a → P b (f a)) → (us : List Term) → Each (P b) us → P b (unwrap_or (option_map f (only us)) nil_term)
    only_keeps f k [] hs = nil_keeps
    only_keeps f k (a ∷ []) hs = k a hs.0
    only_keeps f k (a ∷ c ∷ us) hs = nil_keeps

    made_keeps : (k : Maker) (us : List Term) → Made W k (length us) → Each (P b) us → P b (made k us)
    made_keeps (makers.Macro k) us n hs = built_keeps k us hs
    made_keeps (makers.Literal z) us n hs = only_keeps (call_2 plus_name (integer_term z)) (λ a h. two plus_name keeps.takes_plus (integer_term z) a (keeps.constant b (Int z)) h) us hs
    made_keeps (makers.Path path) us n hs = only_keeps (accessed path) (λ a h. accessed_keeps path a h) us hs
    made_keeps (makers.Call s) us n hs = keeps.call b s us (keeps.called s (length us) n) hs

    piece_keeps : (c : Bool) (u rest : Term) → P b u → P b rest → P b (cond c (call_2 append_name u rest) (call_2 cons_name u rest))
    piece_keeps true u rest h k = two append_name keeps.takes_append u rest h k
    piece_keeps false u rest h k = two cons_name keeps.takes_cons u rest h k

    pieced_keeps : (xs : List Piece) → Each (λ (x : Piece). P b x.term) xs → P b (pieced xs)
    pieced_keeps [] hs = nil_keeps
    pieced_keeps (x ∷ xs) hs = piece_keeps x.spliced x.term (pieced xs) hs.0 (pieced_keeps xs hs.1)

    -- a symbol
    constant_keeps : (p : ℕ) (o : Option Value) → Holds (P b) (constant_term p o)
    constant_keeps p None = tt
    constant_keeps p (Some v) = keeps.constant b v

    symbol_keeps : (p : ℕ) (s : Symbol) → Holds (P b) (symbol_term W p b s)
    symbol_keeps p s = by_kind (is_constant s) (is_starred s.name)
      where
        by_kind : (c d : Bool) → Holds (P b) (cond c (Ok (Quote (Sym s))) (cond d (constant_term p (constant_of W s)) (variable_term p b s)))
        by_kind true d = keeps.constant b (Sym s)
        by_kind false true = constant_keeps p (constant_of W s)
        by_kind false false = keeps.variable p b s

  -- what gives terms that have the property
  record Good (r : Readers) : Type 0 where
    term : (b : Bound) (f : Form) → Holds (P b) (r.term b f)
    part : (b : Bound) (f : Form) → Holds (P b) (r.part b f)
    piece : (b : Bound) (f : Form) → Holds (λ (x : Piece). P b x.term) (r.piece b f)

  module _ (r : Readers) (good : Good r) where
    quoted_keeps : (b : Bound) (q : Answer Value) → Holds (P b) (quoted_term q)
    quoted_keeps b (Ok v) = keeps.constant b v
    quoted_keeps b (Err e) = tt

    -- the clauses of `cond`
    arm_keeps : (b : Bound) (x : Arm) (rest : Answer Term) → Holds (P b) rest → Holds (P b) (arm_term (r.term b) x rest)
    arm_keeps b (alone f) rest h =
        then_holds (P b) (P b) (r.term b f) (λ a. rest >>= λ u. Ok (or_term a u)) (good.term b f)
        (λ a k. then_holds (P b) (P b) rest (λ u. Ok (or_term a u)) h (λ u l. three b a a u k k l))
    arm_keeps b (pair f g) rest h =
        then_holds (P b) (P b) (r.term b f) (λ a. r.term b g >>= λ c. rest >>= λ u. Ok (if_term a c u)) (good.term b f)
        (λ a k. then_holds (P b) (P b) (r.term b g) (λ c. rest >>= λ u. Ok (if_term a c u)) (good.term b g)
        (λ c n. then_holds (P b) (P b) rest (λ u. Ok (if_term a c u)) h (λ u l. three b a c u k n l)))
    arm_keeps b (otherwise g) rest h = good.term b g

    arms_keep : (b : Bound) (p : ℕ) (fs : List Form) → Holds (P b) (arms_term (r.term b) p fs)
    arms_keep b p [] = nil_keeps b
    arms_keep b p (f ∷ fs) = by_arm (arm_in f) (arms_keep b p fs)
      where
        by_arm : (o : Option Arm) → Holds (P b) (arms_term (r.term b) p fs) → Holds (P b) (shaped p o (λ x. arm_term (r.term b) x (arms_term (r.term b) p fs)))
        by_arm None h = tt
        by_arm (Some x) h = arm_keeps b x (arms_term (r.term b) p fs) h

    -- a binding's term has the property among the variables that it sees
    abbrev InTurn : Bool → Bound → List Symbol → List (Symbol × Term) → Type 0
    InTurn t b before [] = Unit {0}
    InTurn t b before (s ∷ ss) = P (scope_of t b before) s.1 × InTurn t b (before ++ s.0 ∷ []) ss

    bindings_keep : (t : Bool) (b : Bound) (p : ℕ) (before : List Symbol) (fs : List Form)
        → Holds (InTurn t b before) (bindings (λ xs. r.term (scope_of t b xs)) p before fs)
    bindings_keep t b p before [] = tt
    bindings_keep t b p before (f ∷ fs) = by_binding (binding_in f) (λ v. bindings_keep t b p (before ++ v ∷ []) fs)
      where
        by_binding : (o : Option Bind) → ((v : Symbol) → Holds (InTurn t b (before ++ v ∷ [])) (bindings (λ xs. r.term (scope_of t b xs)) p (before ++ v ∷ []) fs))
            → Holds (InTurn t b before) (shaped p o (λ x. variable x.place before x.name >>= λ v. r.term (scope_of t b before) x.value >>= λ u.
            bindings (λ xs. r.term (scope_of t b xs)) p (before ++ v ∷ []) fs >>= λ ss. Ok ((v, u) ∷ ss)))
        by_binding None k = tt
        by_binding (Some x) k =
            then_holds (λ v. Unit {0}) (InTurn t b before) (variable x.place before x.name) _ (always (variable x.place before x.name))
            (λ v l. then_holds (P (scope_of t b before)) (InTurn t b before) (r.term (scope_of t b before) x.value) _ (good.term (scope_of t b before) x.value)
            (λ u n. then_holds (InTurn t b (before ++ v ∷ [])) (InTurn t b before) (bindings (λ xs. r.term (scope_of t b xs)) p (before ++ v ∷ []) fs) _ (k v) (λ ss q. (n, q))))

    -- the variables are replaced at once, or the last one first
    at_once : (b : Bound) (before : List Symbol) (ss : List (Symbol × Term)) → InTurn false b before ss → Each (λ s. P b s.1) ss
    at_once b before [] h = tt
    at_once b before (s ∷ ss) h = (h.0, at_once b (before ++ s.0 ∷ []) ss h.1)

    wider : (b : Bound) (xs ys : List Symbol) → with_bound (with_bound b xs) ys ≡ with_bound b (xs ++ ys)
    wider None xs ys = refl
    wider (Some bs) xs ys = ap Some (append_assoc bs xs ys)

    behind : (b : Bound) (before : List Symbol) (v : Symbol) (ss : List (Symbol × Term)) → before ++ v ∷ map (λ s. s.0) ss ≡ (before ++ v ∷ []) ++ map (λ s. s.0) ss
    behind b before v ss = sym (append_assoc before (v ∷ []) (map (λ s. s.0) ss))

    one_by_one : (b : Bound) (before : List Symbol) (ss : List (Symbol × Term)) (u : Term) → InTurn true b before ss → P (with_bound b (before ++ map (λ s. s.0) ss)) u
        → P (with_bound b before) (instances ss u)
    one_by_one b before [] u h k = subst (λ xs. P (with_bound b xs) u) (append-nil before) k
    one_by_one b before (s ∷ ss) u h k =
        keeps.replaced (with_bound b before) (s ∷ []) (instances ss u) (h.0, tt)
        (subst (λ c. P c (instances ss u)) (sym (wider b before (s.0 ∷ [])))
        (one_by_one b (before ++ s.0 ∷ []) ss u h.1 (subst (λ xs. P (with_bound b xs) u) (behind b before s.0 ss) k)))

    no_more : (b : Bound) → with_bound b [] ≡ b
    no_more None = refl
    no_more (Some bs) = ap Some (append-nil bs)

    body_keeps : (t : Bool) (b : Bound) (ss : List (Symbol × Term)) (u : Term) → InTurn t b [] ss → P (with_bound b (map (λ s. s.0) ss)) u → P b (body_of t ss u)
    body_keeps true b ss u h k = subst (λ c. P c (instances ss u)) (no_more b) (one_by_one b [] ss u h k)
    body_keeps false b ss u h k = keeps.replaced b ss u (at_once b [] ss h) k

    let_keeps : (t : Bool) (b : Bound) (p : ℕ) (x : Scope) → Holds (P b) (let_term t r b p x)
    let_keeps t b p x =
        then_holds (InTurn t b []) (P b) (bindings (λ xs. r.term (scope_of t b xs)) p [] x.heads) _ (bindings_keep t b p [] x.heads)
        (λ ss h. then_holds (P (with_bound b (map (λ s. s.0) ss))) (P b) (r.term (with_bound b (map (λ s. s.0) ss)) x.body) _ (good.term (with_bound b (map (λ s. s.0) ss)) x.body)
        (λ u k. body_keeps t b ss u h k))

    -- a `lambda` with as many actuals as variables
    zip_names : (vs : List Symbol) (us : List Term) → length vs ≡ length us → map (λ s. s.0) (zip vs us) ≡ vs
    zip_names [] us h = refl
    zip_names (v ∷ vs) [] h = absurd (omega arith)
    zip_names (v ∷ vs) (u ∷ us) h = ap (λ xs. v ∷ xs) (zip_names vs us (omega arith))

    zip_keeps : (b : Bound) (vs : List Symbol) (us : List Term) → Each (P b) us → Each (λ s. P b s.1) (zip vs us)
    zip_keeps b [] us hs = tt
    zip_keeps b (v ∷ vs) [] hs = tt
    zip_keeps b (v ∷ vs) (u ∷ us) hs = (hs.0, zip_keeps b vs us hs.1)

    lambda_keeps : (b : Bound) (p : ℕ) (x : Scope) (fs : List Form) → length x.heads ≡ length fs → Holds (P b) (lambda_term r b p x fs)
    lambda_keeps b p x fs h =
        then_holds (λ vs. length vs ≡ length x.heads) (P b) (variables p [] x.heads) _ (lengths (variables p [] x.heads) (λ vs e. named_length p [] x.heads vs e))
        (λ vs k. then_holds (P (with_bound b vs)) (P b) (r.term (with_bound b vs) x.body) _ (good.term (with_bound b vs) x.body)
        (λ u l. then_holds (λ us. Each (P b) us × (length us ≡ length fs)) (P b) (each (r.term b) fs) _ (actuals (each (r.term b) fs) (each_holds (P b) (r.term b) (good.term b) fs) (λ us e. each_length (r.term b) fs us e))
        (λ us n. let same : length vs ≡ length us = k ∙ h ∙ sym n.1 in keeps.replaced b (zip vs us) u (zip_keeps b vs us n.0) (subst (λ xs. P (with_bound b xs) u) (sym (zip_names vs us same)) l))))
      where
        lengths : (q : Answer (List Symbol)) → ((vs : List Symbol) → q ≡ Ok vs → length vs ≡ length x.heads) → Holds (λ vs. length vs ≡ length x.heads) q
        lengths (Ok vs) k = k vs refl
        lengths (Err e) k = tt

        actuals : (q : Answer (List Term)) → Holds (Each (P b)) q → ((us : List Term) → q ≡ Ok us → length us ≡ length fs) → Holds (λ us. Each (P b) us × (length us ≡ length fs)) q
        actuals (Ok us) k l = (k, l us refl)
        actuals (Err e) k l = tt

    build_keeps : (b : Bound) (k : Maker) (fs : List Form) → Made W k (length fs) → Holds (P b) (each (r.term b) fs >>= λ us. Ok (made k us))
    build_keeps b k fs n = go (each (r.term b) fs) (each_holds (P b) (r.term b) (good.term b) fs) (λ us e. each_length (r.term b) fs us e)
      where
        go : (q : Answer (List Term)) → Holds (Each (P b)) q → ((us : List Term) → q ≡ Ok us → length us ≡ length fs) → Holds (P b) (q >>= λ us. Ok (made k us))
        go (Ok us) hs l = made_keeps b k us (subst (Made W k) (sym (l us refl)) n) hs
        go (Err e) hs l = tt

    plan_keeps : (b : Bound) (p : ℕ) (x : Plan) → Sensible W x → Holds (P b) (plan_term r b p x)
    plan_keeps b p empty s = nil_keeps b
    plan_keeps b p (quotation f) s = quoted_keeps b (r.constant f)
    plan_keeps b p (build k fs) s = build_keeps b k fs s
    plan_keeps b p (arms fs) s = arms_keep b p fs
    plan_keeps b p (bind t x) s = let_keeps t b p x
    plan_keeps b p (apply x fs) s = lambda_keeps b p x fs s

    list_keeps : (b : Bound) (p : ℕ) (fs : List Form) → Holds (P b) (plan_in W p fs >>= plan_term r b p)
    list_keeps b p fs = go (plan_in W p fs) (λ x e. sensible W x p fs e)
      where
        go : (q : Answer Plan) → ((x : Plan) → q ≡ Ok x → Sensible W x) → Holds (P b) (q >>= plan_term r b p)
        go (Ok x) k = plan_keeps b p x (k x refl)
        go (Err e) k = tt

  -- one level of a form
  abbrev InGood : Option Readers → Type 0
  InGood None = Unit {0}
  InGood (Some r) = Good r

  parts_keep : (o : Option Readers) → InGood o → (b : Bound) (p : ℕ) (g : Readers → Answer Term) → ((r : Readers) → Good r → Holds (P b) (g r)) → Holds (P b) (shaped p o g)
  parts_keep None h b p g k = tt
  parts_keep (Some r) h b p g k = k r h

  term_keeps : (o : Option Readers) → InGood o → (b : Bound) (p : ℕ) (l : Layer) → Holds (P b) (term_layer W o b p l)
  term_keeps o h b p (Body-F.Int n) = keeps.constant b (Int n)
  term_keeps o h b p (Body-F.Chr c) = keeps.constant b (Chr c)
  term_keeps o h b p (Body-F.Str s) = keeps.constant b (Str s)
  term_keeps o h b p (Body-F.Sym s) = symbol_keeps b p s
  term_keeps o h b p (Body-F.List fs) = parts_keep o h b p (λ r. plan_in W p fs >>= plan_term r b p) (λ r g. list_keeps r g b p fs)
  term_keeps o h b p (Body-F.Dotted fs f) = tt
  term_keeps o h b p (Body-F.Quoted f) = parts_keep o h b p (λ r. quoted_term (r.constant f)) (λ r g. quoted_keeps r g b (r.constant f))
  term_keeps o h b p (Body-F.Quasi f) = parts_keep o h b p (λ r. r.part b f) (λ r g. g.part b f)
  term_keeps o h b p (Body-F.Comma f) = tt
  term_keeps o h b p (Body-F.CommaAt f) = tt

  part_keeps : (o : Option Readers) → InGood o → (b : Bound) (p : ℕ) (l : Layer) → Holds (P b) (part_layer o b p l)
  part_keeps o h b p (Body-F.Int n) = keeps.constant b (Int n)
  part_keeps o h b p (Body-F.Chr c) = keeps.constant b (Chr c)
  part_keeps o h b p (Body-F.Str s) = keeps.constant b (Str s)
  part_keeps o h b p (Body-F.Sym s) = keeps.constant b (Sym s)
  part_keeps o h b p (Body-F.List fs) =
      parts_keep o h b p (λ r. each (r.piece b) fs >>= λ xs. Ok (pieced xs))
      (λ r g. then_holds (Each (λ (x : Piece). P b x.term)) (P b) (each (r.piece b) fs) (λ xs. Ok (pieced xs)) (each_holds (λ (x : Piece). P b x.term) (r.piece b) (g.piece b) fs) (λ xs k. pieced_keeps b xs k))
  part_keeps o h b p (Body-F.Dotted fs f) = tt
  part_keeps o h b p (Body-F.Quoted f) =
      parts_keep o h b p (λ r. r.piece b f >>= λ x. Ok (call_2 cons_name (Quote (Sym quote_name)) (pieced (x ∷ []))))
      (λ r g. then_holds (λ (x : Piece). P b x.term) (P b) (r.piece b f) (λ x. Ok (call_2 cons_name (Quote (Sym quote_name)) (pieced (x ∷ [])))) (g.piece b f)
      (λ x k. two b cons_name keeps.takes_cons (Quote (Sym quote_name)) (pieced (x ∷ [])) (keeps.constant b (Sym quote_name)) (pieced_keeps b (x ∷ []) (k, tt))))
  part_keeps o h b p (Body-F.Quasi f) = tt
  part_keeps o h b p (Body-F.Comma f) = parts_keep o h b p (λ r. r.term b f) (λ r g. g.term b f)
  part_keeps o h b p (Body-F.CommaAt f) = tt

  unspliced : (b : Bound) (q : Answer Term) → Holds (P b) q → Holds (λ (x : Piece). P b x.term) (q >>= λ u. Ok (record { spliced = false; term = u }))
  unspliced b (Ok u) h = h
  unspliced b (Err e) h = tt

  piece_keeps_all : (o : Option Readers) → InGood o → (b : Bound) (p : ℕ) (l : Layer) → Holds (λ (x : Piece). P b x.term) (piece_layer o b p l)
  piece_keeps_all None h b p (Body-F.CommaAt f) = tt
  piece_keeps_all (Some r) h b p (Body-F.CommaAt f) = then_holds (P b) (λ (x : Piece). P b x.term) (r.term b f) (λ u. Ok (record { spliced = true; term = u })) (h.term b f) (λ u k. k)
  piece_keeps_all o h b p (Body-F.Int n) = unspliced b (part_layer o b p (Body-F.Int n)) (part_keeps o h b p (Body-F.Int n))
  piece_keeps_all o h b p (Body-F.Chr c) = unspliced b (part_layer o b p (Body-F.Chr c)) (part_keeps o h b p (Body-F.Chr c))
  piece_keeps_all o h b p (Body-F.Str s) = unspliced b (part_layer o b p (Body-F.Str s)) (part_keeps o h b p (Body-F.Str s))
  piece_keeps_all o h b p (Body-F.Sym s) = unspliced b (part_layer o b p (Body-F.Sym s)) (part_keeps o h b p (Body-F.Sym s))
  piece_keeps_all o h b p (Body-F.List fs) = unspliced b (part_layer o b p (Body-F.List fs)) (part_keeps o h b p (Body-F.List fs))
  piece_keeps_all o h b p (Body-F.Dotted fs f) = tt
  piece_keeps_all o h b p (Body-F.Quoted f) = unspliced b (part_layer o b p (Body-F.Quoted f)) (part_keeps o h b p (Body-F.Quoted f))
  piece_keeps_all o h b p (Body-F.Quasi f) = tt
  piece_keeps_all o h b p (Body-F.Comma f) = unspliced b (part_layer o b p (Body-F.Comma f)) (part_keeps o h b p (Body-F.Comma f))

  -- so many levels
  readers_good : (n : ℕ) → InGood (readers W n)
  unfolding readers
  readers_good zero = tt
  readers_good (suc n) = record {
    term = λ b f. term_keeps (readers W n) (readers_good n) b f.place (layer_of f);
    part = λ b f. part_keeps (readers W n) (readers_good n) b f.place (layer_of f);
    piece = λ b f. piece_keeps_all (readers W n) (readers_good n) b f.place (layer_of f);
  }

  pub in_holds : (n : ℕ) (b : Bound) (f : Form) → Holds (P b) (term_in W n b f)
  in_holds n b f = term_keeps (readers W n) (readers_good n) b f.place (layer_of f)

-- what holds of a form's term holds of the term that is given
pub given_holds : (P : Term → Type 0) (r : Answer Term) (p : ℕ) (x : Result Term TransError) → Gives x (r >>= within p) → Holds P r → IfOk x P
given_holds P r p (Err e) g h = tt
given_holds P (Err e) p (Ok u) g h = absurd (no g)
  where
    no : Err e ≡ Ok u → ⊥
    no q = cc
given_holds P (Ok t) p (Ok u) g h = by_size (nat_le (term_size t) 4096) g
  where
    by_size : (b : Bool) → cond b (Ok t) (refused p kinds.TermTooLarge) ≡ Ok u → P u
    by_size true q = let same : t ≡ u = cc in subst P same h
    by_size false q = absurd (no q)
      where
        no : refused p kinds.TermTooLarge ≡ Ok u → ⊥
        no j = cc

pub given_small : (r : Answer Term) (p : ℕ) (x : Result Term TransError) → Gives x (r >>= within p) → IfOk x (λ u. term_size u ≤ 4096)
given_small r p (Err e) g = tt
given_small (Err e) p (Ok u) g = absurd (no g)
  where
    no : Err e ≡ Ok u → ⊥
    no q = cc
given_small (Ok t) p (Ok u) g = by_size (nat_le (term_size t) 4096) refl g
  where
    by_size : (b : Bool) → nat_le (term_size t) 4096 ≡ b → cond b (Ok t) (refused p kinds.TermTooLarge) ≡ Ok u → term_size u ≤ 4096
    by_size true h q =
        let same : t ≡ u = cc in
        let low : term_size t ≤ 4096 = grind (arith, nat_tests) in
        subst (λ w. term_size w ≤ 4096) same low
    by_size false h q = absurd (no q)
      where
        no : refused p kinds.TermTooLarge ≡ Ok u → ⊥
        no j = cc

-- calls of functions that the world has, with their numbers of arguments
known_instance : (D : Defs) (ss : List (Symbol × Term)) → Each (λ s. known D s.1 ≡ true) ss → (u : Term) → known D u ≡ true → known D (subst_of ss u) ≡ true
known_instance D ss hs = term_ind Goal variable constant call
  where
    Goal : Term → Type 0
    Goal u = known D u ≡ true → known D (subst_of ss u) ≡ true

    found : (x : Symbol) (rs : List (Symbol × Term)) → Each (λ s. known D s.1 ≡ true) rs → known D (unwrap_or (lookup_by symbol_eq rs x) (Var x)) ≡ true
    found x [] ks = known_var D x
    found x (r ∷ rs) ks = by_first (symbol_eq x r.0) (found x rs ks.1)
      where
        by_first : (b : Bool) → known D (unwrap_or (lookup_by symbol_eq rs x) (Var x)) ≡ true → known D (unwrap_or (cond b (Some r.1) (lookup_by symbol_eq rs x)) (Var x)) ≡ true
        by_first true k = ks.0
        by_first false k = k

    variable : (x : Symbol) → Goal (Var x)
    variable x = λ k. ap (known D) (subst_var ss x) ∙ found x ss hs

    constant : (v : Value) → Goal (Quote v)
    constant v = λ k. ap (known D) (subst_quote ss v) ∙ known_quote D v

    args : (ts : List Term) → Each Goal ts → Each (λ u. known D u ≡ true) ts → Each (λ u. known D u ≡ true) (map (subst_of ss) ts)
    args [] es ks = tt
    args (t ∷ ts) es ks = (es.0 ks.0, args ts es.1 ks.1)

    call : (f : Symbol) (ts : List Term) → Each Goal ts → Goal (Call f ts)
    call f ts es = λ k.
        ap (known D) (subst_call ss f ts)
        ∙ known_by D f (map (subst_of ss) ts) (ap (is_head D f (prim_of f)) (length-map ts (subst_of ss)) ∙ known_head D f ts k)
        (true_each (known D) (map (subst_of ss) ts) (args ts es (each_true (known D) ts (known_args D f ts k))))

same_number : (m n : ℕ) → Some m ≡ Some n → nat_eq m n ≡ true
same_number m n h = let e : m ≡ n = cc in grind (arith, nat_tests)

head_of : (D : Defs) (s : Symbol) (x : Option Primitive) (g : Option Function) (n : ℕ) → D s ≡ g → arity_of x g ≡ Some n → is_head D s x n ≡ true
head_of D s (Some p) g n e h = same_number (prim_arity p) n h
head_of D s None (Some g) n e h = ap (λ o. takes o n) e ∙ same_number (length g.formals) n h
head_of D s None None n e h = absurd (no h)
  where
    no : None ≡ Some n → ⊥
    no q = cc

prim_of_append : prim_of append_name ≡ None
unfolding names_open
prim_of_append = refl

pub known_keeps : (W : List Entry) → HasMacroFunctions (function_of W)
    → Keeps W (λ f n. is_head (function_of W) f (prim_of f) n ≡ true) (λ b u. known (function_of W) u ≡ true)
known_keeps W has = record {
  constant = λ b v. known_quote D v;
  variable = at_variable;
  call = λ b f us n hs. known_by D f us n (true_each (known D) us hs);
  replaced = λ b ss u hs h. known_instance D ss hs u h;
  called = λ s n e. head_of D s (prim_of s) (D s) n refl e;
  takes_if = ap (λ x. is_head D if_name x 3) prim_of_if;
  takes_equal = ap (λ x. is_head D equal_name x 2) prim_of_equal;
  takes_cons = ap (λ x. is_head D cons_name x 2) prim_of_cons;
  takes_car = ap (λ x. is_head D car_name x 1) prim_of_car;
  takes_cdr = ap (λ x. is_head D cdr_name x 1) prim_of_cdr;
  takes_plus = ap (λ x. is_head D plus_name x 2) prim_of_plus;
  takes_times = ap (λ x. is_head D times_name x 2) prim_of_times;
  takes_minus = ap (λ x. is_head D minus_name x 1) prim_of_minus;
  takes_less = ap (λ x. is_head D less_name x 2) prim_of_less;
  takes_not = ap (λ x. is_head D not_name x 1) prim_of_not ∙ has.negates;
  takes_append = ap (λ x. is_head D append_name x 2) prim_of_append ∙ has.appends;
}
  where
    D : Defs
    D = function_of W

    by_test : (s : Symbol) (p : ℕ) (c : Bool) → Holds (λ u. known D u ≡ true) (cond c (Ok (Var s)) (refused p kinds.UnknownName))
    by_test s p true = known_var D s
    by_test s p false = tt

    at_variable : (p : ℕ) (b : Bound) (s : Symbol) → Holds (λ u. known D u ≡ true) (variable_term p b s)
    at_variable p None s = known_var D s
    at_variable p (Some xs) s = by_test s p (is_among symbol_eq s xs)

-- variables that are bound
abbrev pub SpeaksIn : Bound → Term → Type 0
SpeaksIn None u = Unit {0}
SpeaksIn (Some xs) u = speaks_of xs u ≡ true

pub speaking_keeps : (W : List Entry) → Keeps W (λ f n. Unit {0}) SpeaksIn
speaking_keeps W = record {
  constant = at_constant;
  variable = at_variable;
  call = at_call;
  replaced = at_instance;
  called = λ s n e. tt;
  takes_if = tt;
  takes_equal = tt;
  takes_cons = tt;
  takes_car = tt;
  takes_cdr = tt;
  takes_plus = tt;
  takes_times = tt;
  takes_minus = tt;
  takes_less = tt;
  takes_not = tt;
  takes_append = tt;
}
  where
    at_constant : (b : Bound) (v : Value) → SpeaksIn b (Quote v)
    at_constant None v = tt
    at_constant (Some xs) v = speaks_quote xs v

    by_test : (s : Symbol) (xs : List Symbol) (p : ℕ) (c : Bool) → is_among symbol_eq s xs ≡ c → Holds (SpeaksIn (Some xs)) (cond c (Ok (Var s)) (refused p kinds.UnknownName))
    by_test s xs p true h = speaks_var xs s ∙ h
    by_test s xs p false h = tt

    at_variable : (p : ℕ) (b : Bound) (s : Symbol) → Holds (SpeaksIn b) (variable_term p b s)
    at_variable p None s = tt
    at_variable p (Some xs) s = by_test s xs p (is_among symbol_eq s xs) refl

    at_call : (b : Bound) (f : Symbol) (us : List Term) → Unit {0} → Each (SpeaksIn b) us → SpeaksIn b (Call f us)
    at_call None f us n hs = tt
    at_call (Some xs) f us n hs = speaks_call xs f us ∙ true_each (speaks_of xs) us hs

    at_instance : (b : Bound) (ss : List (Symbol × Term)) (u : Term) → Each (λ s. SpeaksIn b s.1) ss → SpeaksIn (with_bound b (map (λ s. s.0) ss)) u → SpeaksIn b (subst_of ss u)
    at_instance None ss u hs h = tt
    at_instance (Some xs) ss u hs h = speaks_instance xs ss u hs h

pub bound_speaks : {B : Type 0} (now : B → List Symbol) (o : Option B) (b : Bound) (u : Term) → b ≡ option_map now o → SpeaksIn b u → IfSome o (λ xs. speaks_of (now xs) u ≡ true)
bound_speaks {B} now o b u e h = go o (subst (λ c. SpeaksIn c u) e h)
  where
    go : (o : Option B) → SpeaksIn (option_map now o) u → IfSome o (λ xs. speaks_of (now xs) u ≡ true)
    go None k = tt
    go (Some xs) k = k
