-- The linear rules of a sound world hold.
use Rattle.std.proofs.Common.{◌≡◌, ◌≢◌, ℕ, ◌+◌, Bool, true, false, cond, ◌&&◌, List, [], ◌∷◌, ◌++◌, reverse, Option, Some, None, inl, inr, refl, sym, ◌∙◌, subst}
use Rattle.ap_list.specs.Lists.{Each}
use Rattle.ap_list.proofs.Eachs.{each_append, each_parts}
use Rattle.ap_value.specs.declared.symbol.Symbol.{Symbol}
use Rattle.ap_value.specs.declared.value.Value.{Value}
use Rattle.ap_value.specs.Values.{V, symbol_eq, value_eq}
use Rattle.ap_value.proofs.Equals.{symbol_eq-true}
use Rattle.ap_term.specs.declared.term.Term.{Term, Var, Quote, Call, out-Term}
use Rattle.ap_term.specs.declared.term.Term.TheOpen.{Term-F}
use Rattle.ap_term.proofs.Induction.{term_ind, OutSays, out_says}
use Rattle.ap_world.specs.declared.entry.Entry.{Entry}
use Rattle.ap_world.specs.declared.entry.Entry.TheVariants as entry
use Rattle.ap_world.specs.declared.entry.Theorem.{Theorem}
use Rattle.ap_world.specs.Names.{not_name, implies_name}
use Rattle.ap_world.specs.Primitives.{nil, t, truth}
use Rattle.ap_world.specs.Meaning.{Env, IsHeld, HasValue, FactHolds}
use Rattle.ap_world.specs.Clauses.{not_of, conjuncts}
use Rattle.ap_world.specs.Sound.{known, not_function, Good, GoodTheorem, Sound}
use Rattle.ap_world.specs.World.{function_of}
use Rattle.ap_world.specs.Rules.{stated}
use Rattle.ap_world.proofs.Knowing.{known_args, each_true}
use Rattle.ap_world.proofs.TotalMeaning.{Apply, Models, models, val, val_is, value_is, AllTrue, AnyTrue, valid_is}
use Rattle.ap_world.proofs.Equations.{nil-eq, eq-not_nil}
use Rattle.ap_world.proofs.Starting.{val_not}
use Rattle.ap_world.proofs.Given.{implies_is}
use Rattle.ap_world.proofs.RulesStand.{conjuncts_known, conjuncts_alike, stated_at, stated_var, stated_quote, stated_called}
use Rattle.ap_rules.specs.Shapes.{signed_by, signed_in, signed, trigger_of, all_inequalities, is_linear}
use Rattle.ap_rules.specs.Linear.{linear_part, linear_from, linear_of_term, linear_in_entry, all_linear, LinearHolds}
use Rattle.ap_rules.specs.Laws.{LinearRulesHold}
use Rattle.ap_rules.proofs.Merging.{turned}

module _ (W : List Entry) (sound : Sound W) (ground : function_of W not_name ≡ Some not_function) (A : Apply) (ms : Models (function_of W) A) where
  abbrev Known : Term → Type 0
  Known u = known (function_of W) u ≡ true

  abbrev AllKnown : List Term → Type 0
  AllKnown us = Each (λ w. known (function_of W) w ≡ true) us

  -- known, and where a term and its hypotheses are other than nil, so is its conclusion
  abbrev States : Term → List Term × Term → Type 0
  States u p = AllKnown p.0 × Known p.1 × ((e : Env) → val A u e ≢ nil → AllTrue A e p.0 → val A p.1 e ≢ nil)

  itself : (u : Term) → Known u → States u ([], u)
  itself u k = (tt, k, λ e h hs. h)

  -- what an implication gives where its hypothesis is other than nil
  given : (x y : V) → cond (value_eq x nil) t (cond (value_eq y nil) nil t) ≢ nil → x ≢ nil → y ≢ nil
  given x y h k = go (value_eq x nil) refl (value_eq y nil) refl h
    where
      go : (a : Bool) → value_eq x nil ≡ a → (b : Bool) → value_eq y nil ≡ b → cond a t (cond b nil t) ≢ nil → y ≢ nil
      go true p b q h = absurd (k (nil-eq x p))
      go false p true q h = absurd (h refl)
      go false p false q h = eq-not_nil y q

  states : (u : Term) → Known u → States u (stated u)
  states = term_ind Goal variable quoted call
    where
      Goal : Term → Type 0
      Goal u = Known u → States u (stated u)

      variable : (x : Symbol) → Goal (Var x)
      variable x k = rw (stated_var x) (itself (Var x) k)

      quoted : (v : Value) → Goal (Quote v)
      quoted v k = rw (stated_quote v) (itself (Quote v) k)

      parts : (h c : Term) → Goal c → Known (Call implies_name (h ∷ c ∷ [])) → States (Call implies_name (h ∷ c ∷ [])) (conjuncts h ++ (stated c).0, (stated c).1)
      parts h c gc k =
          let ks = each_true (known (function_of W)) (h ∷ c ∷ []) (known_args (function_of W) implies_name (h ∷ c ∷ []) k) in
          let s = gc ks.1.0 in (
            each_append (λ w. known (function_of W) w ≡ true) (conjuncts h) (stated c).0 (conjuncts_known (function_of W) h ks.0) s.0,
            s.1,
            λ e held hs.
                let p = each_parts (λ w. val A w e ≢ nil) (conjuncts h) (stated c).0 hs in
                s.2 e (given (val A h e) (val A c e) (subst (λ v. v ≢ nil) (implies_is W sound A ms h c e k) held) ((conjuncts_alike A e h).1 p.0)) p.1,
          )

      go : (x : Bool) (f : Symbol) (ts : List Term) → symbol_eq f implies_name ≡ x → Each Goal ts → Known (Call f ts) → States (Call f ts) (stated_at x ts (Call f ts))
      go true f (h ∷ c ∷ []) q es k =
          subst (λ g. Known (Call g (h ∷ c ∷ [])) → States (Call g (h ∷ c ∷ [])) (conjuncts h ++ (stated c).0, (stated c).1))
          (sym (symbol_eq-true f implies_name q)) (parts h c es.1.0) k
      go x f ts q es k = itself (Call f ts) k

      call : (f : Symbol) (ts : List Term) → Each Goal ts → Goal (Call f ts)
      call f ts es k = rw (stated_called f ts) (go (symbol_eq f implies_name) f ts refl es k)

  -- where a conjunct is other than nil, its literal has its sign
  abbrev Signs : Term → Term × Bool → Type 0
  Signs u s = Known s.0 × ((e : Env) → val A u e ≢ nil → FactHolds (function_of W) e s)

  plain : (u : Term) → Known u → Signs u (u, true)
  plain u k = (k, λ e h. (val A u e, val_is (function_of W) A ms u k e, h))

  truth_true : (b : Bool) → truth b ≢ nil → b ≡ true
  truth_true true h = refl
  truth_true false h = absurd (h refl)

  nots : (a : Term) → Known (not_of a) → Signs (not_of a) (a, false)
  nots a k =
      let ks = each_true (known (function_of W)) (a ∷ []) (known_args (function_of W) not_name (a ∷ []) k) in (
        ks.0,
        λ e h.
            subst (HasValue (function_of W) a e)
            (nil-eq (val A a e) (truth_true (value_eq (val A a e) nil) (subst (λ v. v ≢ nil) (val_not (function_of W) A ms ground a e) h)))
            (val_is (function_of W) A ms a ks.0 e),
      )

  signs_call : (f : Symbol) (ts : List Term) → Known (Call f ts) → Signs (Call f ts) (signed_by (symbol_eq f not_name) ts (Call f ts))
  signs_call f ts k = go (symbol_eq f not_name) refl ts k
    where
      go : (x : Bool) → symbol_eq f not_name ≡ x → (ts : List Term) → Known (Call f ts) → Signs (Call f ts) (signed_by x ts (Call f ts))
      go true q (a ∷ []) k = subst (λ g. Known (Call g (a ∷ [])) → Signs (Call g (a ∷ [])) (a, false)) (sym (symbol_eq-true f not_name q)) (nots a) k
      go true q [] k = plain (Call f []) k
      go true q (a ∷ b ∷ ts) k = plain (Call f (a ∷ b ∷ ts)) k
      go false q ts k = plain (Call f ts) k

  signs : (u : Term) → Known u → Signs u (signed u)
  signs u k = go (out-Term u) (out_says u)
    where
      go : (y : Term-F Term) → OutSays u y → Signs u (signed_in y u)
      go (Term-F.Var x) q = plain u k
      go (Term-F.Quote v) q = plain u k
      go (Term-F.Call f ts) q = subst (λ w. Known w → Signs w (signed_in (Term-F.Call f ts) w)) (sym q) (signs_call f ts) k

  all_held : (ts : List Term) (e : Env) → Each (IsHeld (function_of W) e) ts → AllTrue A e ts
  all_held [] e hs = tt
  all_held (u ∷ us) e hs = ((λ z. hs.0.2 (value_is (function_of W) A ms u e hs.0.0 hs.0.1 ∙ z)), all_held us e hs.1)

  part_holds : (name : Symbol) (hs : List Term) (i : ℕ) (u : Term) (o : Option Term) → AllKnown hs → Known u → ((e : Env) → AllTrue A e hs → val A u e ≢ nil)
      → Each (LinearHolds (function_of W)) (linear_part name hs i u o)
  part_holds name hs i u None hk uk means = tt
  part_holds name hs i u (Some x) hk uk means = (record { concl = (signs u uk).0; hyps = hk; same = λ e held. (signs u uk).1 e (means e (all_held hs e held)) }, tt)

  -- the rules of conjuncts that are other than nil where the hypotheses are
  from_hold : (name : Symbol) (hs : List Term) → AllKnown hs → (i : ℕ) (us : List Term) → AllKnown us → ((e : Env) → AllTrue A e hs → AllTrue A e us)
      → Each (LinearHolds (function_of W)) (linear_from name hs i us)
  from_hold name hs hk i [] uk means = tt
  from_hold name hs hk i (u ∷ us) uk means =
      each_append (LinearHolds (function_of W)) (linear_part name hs i u (trigger_of u)) (linear_from name hs (i + 1) us)
      (part_holds name hs i u (trigger_of u) hk uk.0 (λ e h. (means e h).0))
      (from_hold name hs hk (i + 1) us uk.1 (λ e h. (means e h).1))

  theorem_rules : (u : Theorem) → GoodTheorem (function_of W) u → Each (LinearHolds (function_of W)) (linear_of_term u.name u.term)
  theorem_rules u good =
      let s = states u.term good.term_known in
      from_hold u.name (stated u.term).0 s.0 0 (conjuncts (stated u.term).1) (conjuncts_known (function_of W) (stated u.term).1 s.1)
      (λ e hs. (conjuncts_alike A e (stated u.term).1).0 (s.2 e (one e (valid_is (function_of W) A ms (u.term ∷ []) good.valid e)) hs))
    where
      one : (e : Env) → AnyTrue A e (u.term ∷ []) → val A u.term e ≢ nil
      one e (inl h) = h
      one e (inr h) = absurd h

  entry_rules : (y : Entry) → Good (function_of W) y → Each (LinearHolds (function_of W)) (linear_in_entry y)
  entry_rules (entry.Theorem u) good = go (is_linear u.classes && all_inequalities (conjuncts (stated u.term).1))
    where
      go : (b : Bool) → Each (LinearHolds (function_of W)) (cond b (linear_of_term u.name u.term) [])
      go true = theorem_rules u good
      go false = tt
  entry_rules (entry.Function f) good = tt
  entry_rules (entry.Constant c v) good = tt

  all_rules : (ys : List Entry) → Each (Good (function_of W)) ys → Each (LinearHolds (function_of W)) (all_linear ys)
  all_rules [] h = tt
  all_rules (y ∷ ys) h = each_append (LinearHolds (function_of W)) (linear_in_entry y) (all_linear ys) (entry_rules y h.0) (all_rules ys h.1)

each_turned : {G : Type 0} (P : G → Type 0) (gs : List G) → Each P gs → Each P (reverse gs)
each_turned P [] h = tt
each_turned P (g ∷ gs) h = subst (Each P) (sym (turned g gs)) (each_append P (reverse gs) (g ∷ []) (each_turned P gs h.1) (h.0, tt))

pub linear_rules_hold : LinearRulesHold
linear_rules_hold W sound ground =
    let (A, ms) = models (function_of W) sound.total in
    each_turned (LinearHolds (function_of W)) (all_linear W) (all_rules W sound ground A ms W sound.good)
