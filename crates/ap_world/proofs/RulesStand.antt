-- The parts of a valid theorem hold wherever its hypotheses are other than nil, and so do the rules of a sound world.
use Rattle.std.proofs.Common.{◌≡◌, ◌≢◌, ℕ, zero, suc, ◌+◌, Bool, true, false, cond, List, [], ◌∷◌, ◌++◌, map, Option, Some, None, slice_get, inl, inr, refl, ap, sym, ◌∙◌, subst}
use Rattle.ap_list.specs.Lists.{Each, all_true}
use Rattle.ap_list.proofs.Eachs.{each_append, each_parts}
use Rattle.ap_value.specs.declared.symbol.Symbol.{Symbol}
use Rattle.ap_value.specs.declared.value.Value.{Value}
use Rattle.ap_value.specs.Values.{V, symbol_eq, value_eq}
use Rattle.ap_value.proofs.Equals.{symbol_eq-true, value_eq-true}
use Rattle.ap_term.specs.declared.term.Term.{Term, Var, Quote, Call, out-Term}
use Rattle.ap_term.specs.declared.term.Term.TheOpen.{Term-F}
use Rattle.ap_term.specs.Terms.{subst_of}
use Rattle.ap_term.specs.Matching.{Pairs}
use Rattle.ap_term.proofs.Induction.{term_ind, para_var, para_quote, para_call, OutSays, out_says}
use Rattle.ap_world.specs.declared.entry.Entry.{Entry}
use Rattle.ap_world.specs.declared.entry.Entry.TheVariants as entry
use Rattle.ap_world.specs.declared.entry.Theorem.{Theorem}
use Rattle.ap_world.specs.Names.{if_name, not_name, equal_name, implies_name, iff_name}
use Rattle.ap_world.specs.Primitives.{nil, t, truth}
use Rattle.ap_world.specs.Meaning.{Env, Defs, IsHeld}
use Rattle.ap_world.specs.Clauses.{not_of, is_nil, conjuncts}
use Rattle.ap_world.specs.Recursion.{nil_constant, t_constant}
use Rattle.ap_world.specs.Sound.{known, not_function, Good, GoodTheorem, Sound}
use Rattle.ap_world.specs.World.{function_of, theorem_of}
use Rattle.ap_world.specs.Rules.{Rule, parted, stated_step, stated, Sides, call_sides, sides_by, sides, rules_from, rules_of_term, is_rule, rewrites, sound_rules, rules_in_entry, newest_first, rules_in}
use Rattle.ap_world.specs.Holding.{AgreeUnder, RuleHolds, part_at, PartsHold, RulesHold}
use Rattle.ap_world.proofs.Knowing.{known_quote, known_args, each_true}
use Rattle.ap_world.proofs.TotalMeaning.{Apply, Models, models, val, val_is, value_is, val_subst, replaced, AllTrue, AnyTrue, valid_is}
use Rattle.ap_world.proofs.Equations.{nil-eq, not_nil-eq, eq-not_nil, t_isnt_nil, val_if, val_equal, val_nil_constant, val_t_constant}
use Rattle.ap_world.proofs.Starting.{val_not}
use Rattle.ap_world.proofs.Written.{conjuncts_var, conjuncts_quote}
use Rattle.ap_world.proofs.Given.{implies_is, iff_is, conjuncts_at, conjuncts_called, constant_nil}
use Rattle.ap_world.proofs.Looking.{theorem_good}

-- what is known of a term is of its conjuncts
pub conjuncts_known : (D : Defs) (u : Term) → known D u ≡ true → Each (λ w. known D w ≡ true) (conjuncts u)
conjuncts_known D = term_ind Goal variable quoted call
  where
    Goal : Term → Type 0
    Goal u = known D u ≡ true → Each (λ w. known D w ≡ true) (conjuncts u)

    variable : (x : Symbol) → Goal (Var x)
    variable x k = rw (conjuncts_var x) (k, tt)

    quoted : (v : Value) → Goal (Quote v)
    quoted v k = rw (conjuncts_quote v) (k, tt)

    parts : (z : Bool) (a b u : Term) → Goal a → Goal b → known D a ≡ true → known D b ≡ true → known D u ≡ true → Each (λ w. known D w ≡ true) (cond z (conjuncts a ++ conjuncts b) (u ∷ []))
    parts true a b u ga gb ka kb k = each_append (λ w. known D w ≡ true) (conjuncts a) (conjuncts b) (ga ka) (gb kb)
    parts false a b u ga gb ka kb k = (k, tt)

    go : (x : Bool) (f : Symbol) (ts : List Term) → Each Goal ts → known D (Call f ts) ≡ true → Each (λ w. known D w ≡ true) (conjuncts_at x ts (Call f ts))
    go true f (a ∷ b ∷ c ∷ []) es k =
        let ks = each_true (known D) (a ∷ b ∷ c ∷ []) (known_args D f (a ∷ b ∷ c ∷ []) k) in
        parts (is_nil c) a b (Call f (a ∷ b ∷ c ∷ [])) es.0 es.1.0 ks.0 ks.1.0 k
    go x f ts es k = (k, tt)

    call : (f : Symbol) (ts : List Term) → Each Goal ts → Goal (Call f ts)
    call f ts es k = rw (conjuncts_called f ts) (go (symbol_eq f if_name) f ts es k)

module _ (A : Apply) (e : Env) where
  -- a term is other than nil exactly where its conjuncts are
  abbrev pub Alike : Term → List Term → Type 0
  Alike u us = (val A u e ≢ nil → AllTrue A e us) × (AllTrue A e us → val A u e ≢ nil)

  alone : (u : Term) → Alike u (u ∷ [])
  alone u = (λ h. (h, tt), λ h. h.0)

  and_true : (x y z : V) → z ≡ nil → cond (value_eq x nil) z y ≢ nil → (x ≢ nil) × (y ≢ nil)
  and_true x y z p h = go (value_eq x nil) refl h
    where
      go : (b : Bool) → value_eq x nil ≡ b → cond b z y ≢ nil → (x ≢ nil) × (y ≢ nil)
      go true q h = absurd (h p)
      go false q h = (eq-not_nil x q, h)

  true_and : (x y z : V) → x ≢ nil → y ≢ nil → cond (value_eq x nil) z y ≢ nil
  true_and x y z h k = subst (λ b. cond b z y ≢ nil) (sym (not_nil-eq x h)) k

  pub conjuncts_alike : (u : Term) → Alike u (conjuncts u)
  conjuncts_alike = term_ind Goal variable quoted call
    where
      Goal : Term → Type 0
      Goal u = Alike u (conjuncts u)

      variable : (x : Symbol) → Goal (Var x)
      variable x = rw (conjuncts_var x) (alone (Var x))

      quoted : (v : Value) → Goal (Quote v)
      quoted v = rw (conjuncts_quote v) (alone (Quote v))

      parts : (z : Bool) (a b c : Term) → Goal a → Goal b → is_nil c ≡ z → Alike (Call if_name (a ∷ b ∷ c ∷ [])) (cond z (conjuncts a ++ conjuncts b) (Call if_name (a ∷ b ∷ c ∷ []) ∷ []))
      parts true a b c ga gb q =
          let is = val_if A a b c e in (
            λ h. let p = and_true (val A a e) (val A b e) (val A c e) (constant_nil A e c q) (subst (λ v. v ≢ nil) is h) in
                each_append (λ u. val A u e ≢ nil) (conjuncts a) (conjuncts b) (ga.0 p.0) (gb.0 p.1),
            λ h. let p = each_parts (λ u. val A u e ≢ nil) (conjuncts a) (conjuncts b) h in
                subst (λ v. v ≢ nil) (sym is) (true_and (val A a e) (val A b e) (val A c e) (ga.1 p.0) (gb.1 p.1)),
          )
      parts false a b c ga gb q = alone (Call if_name (a ∷ b ∷ c ∷ []))

      go : (x : Bool) (f : Symbol) (ts : List Term) → symbol_eq f if_name ≡ x → Each Goal ts → Alike (Call f ts) (conjuncts_at x ts (Call f ts))
      go true f (a ∷ b ∷ c ∷ []) q es =
          subst (λ g. Alike (Call g (a ∷ b ∷ c ∷ [])) (cond (is_nil c) (conjuncts a ++ conjuncts b) (Call g (a ∷ b ∷ c ∷ []) ∷ [])))
          (sym (symbol_eq-true f if_name q)) (parts (is_nil c) a b c es.0 es.1.0 refl)
      go x f ts q es = alone (Call f ts)

      call : (f : Symbol) (ts : List Term) → Each Goal ts → Goal (Call f ts)
      call f ts es = rw (conjuncts_called f ts) (go (symbol_eq f if_name) f ts refl es)

-- the hypotheses and the conclusion of (implies h c)
abbrev pub stated_at : Bool → List Term → Term → List Term × Term
stated_at true (h ∷ c ∷ []) u = (conjuncts h ++ (stated c).0, (stated c).1)
stated_at x ts u = ([], u)

abbrev with_stated : Term → Term × (List Term × Term)
with_stated u = (u, stated u)

firsts : (ts : List Term) → map (λ p. p.0) (map with_stated ts) ≡ ts
firsts [] = refl
firsts (u ∷ us) = ap (λ vs. u ∷ vs) (firsts us)

stated_parts : (x : Bool) (ts : List Term) (u : Term) → parted x (map with_stated ts) ([], u) ≡ stated_at x ts u
stated_parts true (h ∷ c ∷ []) u = refl
stated_parts x ts u = refl

pub stated_var : (x : Symbol) → stated (Var x) ≡ ([], Var x)
stated_var x = para_var stated_step x

pub stated_quote : (v : Value) → stated (Quote v) ≡ ([], Quote v)
stated_quote v = para_quote stated_step v

pub stated_called : (f : Symbol) (ts : List Term) → stated (Call f ts) ≡ stated_at (symbol_eq f implies_name) ts (Call f ts)
stated_called f ts = para_call stated_step f ts
    ∙ ap (λ us. parted (symbol_eq f implies_name) (map with_stated ts) ([], Call f us)) (firsts ts)
    ∙ stated_parts (symbol_eq f implies_name) ts (Call f ts)

module _ (W : List Entry) (sound : Sound W) (ground : function_of W not_name ≡ Some not_function) (A : Apply) (ms : Models (function_of W) A) where
  abbrev Known : Term → Type 0
  Known u = known (function_of W) u ≡ true

  -- known, and where a term and its hypotheses are other than nil, so is its conclusion
  abbrev States : Term → List Term × Term → Type 0
  States u p = Each (λ w. known (function_of W) w ≡ true) p.0 × Known p.1 × ((e : Env) → val A u e ≢ nil → AllTrue A e p.0 → val A p.1 e ≢ nil)

  states_itself : (u : Term) → Known u → States u ([], u)
  states_itself u k = (tt, k, λ e h hs. h)

  modus : (x y : V) → cond (value_eq x nil) t (cond (value_eq y nil) nil t) ≢ nil → x ≢ nil → y ≢ nil
  modus x y h k = go (value_eq x nil) refl (value_eq y nil) refl h
    where
      go : (a : Bool) → value_eq x nil ≡ a → (b : Bool) → value_eq y nil ≡ b → cond a t (cond b nil t) ≢ nil → y ≢ nil
      go true p b q h = absurd (k (nil-eq x p))
      go false p true q h = absurd (h refl)
      go false p false q h = eq-not_nil y q

  states : (u : Term) → Known u → States u (stated u)
  states = term_ind Goal variable quoted call
    where
      Goal : Term → Type 0
      Goal u = Known u → States u (stated u)

      variable : (x : Symbol) → Goal (Var x)
      variable x k = rw (stated_var x) (states_itself (Var x) k)

      quoted : (v : Value) → Goal (Quote v)
      quoted v k = rw (stated_quote v) (states_itself (Quote v) k)

      parts : (h c : Term) → Goal c → Known (Call implies_name (h ∷ c ∷ [])) → States (Call implies_name (h ∷ c ∷ [])) (conjuncts h ++ (stated c).0, (stated c).1)
      parts h c gc k =
          let ks = each_true (known (function_of W)) (h ∷ c ∷ []) (known_args (function_of W) implies_name (h ∷ c ∷ []) k) in
          let s = gc ks.1.0 in (
            each_append (λ w. known (function_of W) w ≡ true) (conjuncts h) (stated c).0 (conjuncts_known (function_of W) h ks.0) s.0,
            s.1,
            λ e held hs.
                let p = each_parts (λ w. val A w e ≢ nil) (conjuncts h) (stated c).0 hs in
                s.2 e (modus (val A h e) (val A c e) (subst (λ v. v ≢ nil) (implies_is W sound A ms h c e k) held) ((conjuncts_alike A e h).1 p.0)) p.1,
          )

      go : (x : Bool) (f : Symbol) (ts : List Term) → symbol_eq f implies_name ≡ x → Each Goal ts → Known (Call f ts) → States (Call f ts) (stated_at x ts (Call f ts))
      go true f (h ∷ c ∷ []) q es k =
          subst (λ g. Known (Call g (h ∷ c ∷ [])) → States (Call g (h ∷ c ∷ [])) (conjuncts h ++ (stated c).0, (stated c).1))
          (sym (symbol_eq-true f implies_name q)) (parts h c es.1.0) k
      go x f ts q es k = states_itself (Call f ts) k

      call : (f : Symbol) (ts : List Term) → Each Goal ts → Goal (Call f ts)
      call f ts es k = rw (stated_called f ts) (go (symbol_eq f implies_name) f ts refl es k)

  -- where a conjunct is other than nil its sides agree
  abbrev Reads : Term → Sides → Type 0
  Reads u s = Known s.1 × Known s.2 × ((e : Env) → val A u e ≢ nil → AgreeUnder s.0 (val A s.1 e) (val A s.2 e))

  plain : (u : Term) → Known u → Reads u (true, u, t_constant)
  plain u k = (k, known_quote (function_of W) _, λ e h. (λ z. absurd (h z), λ z. absurd (t_isnt_nil (sym (val_t_constant A e) ∙ z))))

  truth_true : (b : Bool) → truth b ≢ nil → b ≡ true
  truth_true true h = refl
  truth_true false h = absurd (h refl)

  agree_iff : (x y : V) → cond (value_eq x nil) (cond (value_eq y nil) t nil) (cond (value_eq y nil) nil t) ≢ nil → AgreeUnder true x y
  agree_iff x y h = go (value_eq x nil) refl (value_eq y nil) refl h
    where
      go : (a : Bool) → value_eq x nil ≡ a → (b : Bool) → value_eq y nil ≡ b → cond a (cond b t nil) (cond b nil t) ≢ nil → AgreeUnder true x y
      go true p true q h = (λ z. nil-eq y q, λ z. nil-eq x p)
      go true p false q h = absurd (h refl)
      go false p true q h = absurd (h refl)
      go false p false q h = (λ z. absurd (eq-not_nil x p z), λ z. absurd (eq-not_nil y q z))

  equals : (a b : Term) → Known (Call equal_name (a ∷ b ∷ [])) → Reads (Call equal_name (a ∷ b ∷ [])) (false, a, b)
  equals a b k =
      let ks = each_true (known (function_of W)) (a ∷ b ∷ []) (known_args (function_of W) equal_name (a ∷ b ∷ []) k) in
      (ks.0, ks.1.0, λ e h. value_eq-true (val A a e) (val A b e) (truth_true (value_eq (val A a e) (val A b e)) (subst (λ v. v ≢ nil) (val_equal A a b e) h)))

  iffs : (a b : Term) → Known (Call iff_name (a ∷ b ∷ [])) → Reads (Call iff_name (a ∷ b ∷ [])) (true, a, b)
  iffs a b k =
      let ks = each_true (known (function_of W)) (a ∷ b ∷ []) (known_args (function_of W) iff_name (a ∷ b ∷ []) k) in
      (ks.0, ks.1.0, λ e h. agree_iff (val A a e) (val A b e) (subst (λ v. v ≢ nil) (iff_is W sound A ms a b e k) h))

  nots : (a : Term) → Known (not_of a) → Reads (not_of a) (false, a, nil_constant)
  nots a k =
      let ks = each_true (known (function_of W)) (a ∷ []) (known_args (function_of W) not_name (a ∷ []) k) in (
        ks.0,
        known_quote (function_of W) _,
        λ e h.
            nil-eq (val A a e) (truth_true (value_eq (val A a e) nil) (subst (λ v. v ≢ nil) (val_not (function_of W) A ms ground a e) h)) ∙ sym (val_nil_constant A e),
      )

  reads_call : (f : Symbol) (ts : List Term) → Known (Call f ts) → Reads (Call f ts) (sides_by (Call f ts) (Term-F.Call f ts))
  reads_call f ts k = go (symbol_eq f equal_name) refl (symbol_eq f iff_name) refl (symbol_eq f not_name) refl ts k
    where
      go : (x : Bool) → symbol_eq f equal_name ≡ x → (y : Bool) → symbol_eq f iff_name ≡ y → (z : Bool) → symbol_eq f not_name ≡ z → (ts : List Term) → Known (Call f ts)
          → Reads (Call f ts) (call_sides x y z ts (true, Call f ts, t_constant))
      go true p y q z r (a ∷ b ∷ []) k =
          subst (λ g. Known (Call g (a ∷ b ∷ [])) → Reads (Call g (a ∷ b ∷ [])) (false, a, b)) (sym (symbol_eq-true f equal_name p)) (equals a b) k
      go true p y q z r [] k = plain (Call f []) k
      go true p y q z r (a ∷ []) k = plain (Call f (a ∷ [])) k
      go true p y q z r (a ∷ b ∷ c ∷ ts) k = plain (Call f (a ∷ b ∷ c ∷ ts)) k
      go false p true q z r (a ∷ b ∷ []) k =
          subst (λ g. Known (Call g (a ∷ b ∷ [])) → Reads (Call g (a ∷ b ∷ [])) (true, a, b)) (sym (symbol_eq-true f iff_name q)) (iffs a b) k
      go false p true q z r [] k = plain (Call f []) k
      go false p true q z r (a ∷ []) k = plain (Call f (a ∷ [])) k
      go false p true q z r (a ∷ b ∷ c ∷ ts) k = plain (Call f (a ∷ b ∷ c ∷ ts)) k
      go false p false q true r (a ∷ []) k =
          subst (λ g. Known (Call g (a ∷ [])) → Reads (Call g (a ∷ [])) (false, a, nil_constant)) (sym (symbol_eq-true f not_name r)) (nots a) k
      go false p false q true r [] k = plain (Call f []) k
      go false p false q true r (a ∷ b ∷ ts) k = plain (Call f (a ∷ b ∷ ts)) k
      go false p false q false r ts k = plain (Call f ts) k

  reads : (u : Term) → Known u → Reads u (sides u)
  reads u k = go (out-Term u) (out_says u)
    where
      go : (y : Term-F Term) → OutSays u y → Reads u (sides_by u y)
      go (Term-F.Var x) q = plain u k
      go (Term-F.Quote v) q = plain u k
      go (Term-F.Call f ts) q = subst (λ w. Known w → Reads w (sides_by w (Term-F.Call f ts))) (sym q) (reads_call f ts) k

  -- the rules of conjuncts that are other than nil where the hypotheses are
  from_hold : (name : Symbol) (hs : List Term) → Each (λ w. known (function_of W) w ≡ true) hs → (i : ℕ) (us : List Term) → Each (λ w. known (function_of W) w ≡ true) us
      → ((e : Env) → AllTrue A e hs → AllTrue A e us) → Each (RuleHolds (function_of W)) (rules_from name hs i us)
  from_hold name hs hk i [] uk means = tt
  from_hold name hs hk i (u ∷ us) uk means = (
    record {
      left = (reads u uk.0).0;
      right = (reads u uk.0).1;
      hyps = hk;
      same = λ e held. (
        val A (sides u).1 e,
        val A (sides u).2 e,
        val_is (function_of W) A ms (sides u).1 (reads u uk.0).0 e,
        val_is (function_of W) A ms (sides u).2 (reads u uk.0).1 e,
        (reads u uk.0).2 e (means e (all_held hs e held)).0,
      );
    },
    from_hold name hs hk (i + 1) us uk.1 (λ e h. (means e h).1),
  )
    where
      all_held : (ts : List Term) (e : Env) → Each (IsHeld (function_of W) e) ts → AllTrue A e ts
      all_held [] e hs = tt
      all_held (t ∷ ts) e hs = ((λ z. hs.0.2 (value_is (function_of W) A ms t e hs.0.0 hs.0.1 ∙ z)), all_held ts e hs.1)

  theorem_rules : (x : Symbol) (u : Theorem) → GoodTheorem (function_of W) u → Each (RuleHolds (function_of W)) (rules_of_term x u.term)
  theorem_rules x u good =
      let s = states u.term good.term_known in
      from_hold x (stated u.term).0 s.0 0 (conjuncts (stated u.term).1) (conjuncts_known (function_of W) (stated u.term).1 s.1)
      (λ e hs. (conjuncts_alike A e (stated u.term).1).0 (s.2 e (one e (valid_is (function_of W) A ms (u.term ∷ []) good.valid e)) hs))
    where
      one : (e : Env) → AnyTrue A e (u.term ∷ []) → val A u.term e ≢ nil
      one e (inl h) = h
      one e (inr h) = absurd h

  sound_kept : (rs : List Rule) → Each (RuleHolds (function_of W)) rs → Each (RuleHolds (function_of W)) (sound_rules rs)
  sound_kept rs h = go (all_true (map is_rule rs))
    where
      go : (b : Bool) → Each (RuleHolds (function_of W)) (cond b rs [])
      go true = h
      go false = tt

  entry_rules : (y : Entry) → Good (function_of W) y → Each (RuleHolds (function_of W)) (rules_in_entry y)
  entry_rules (entry.Theorem u) good = go (rewrites u.classes)
    where
      go : (b : Bool) → Each (RuleHolds (function_of W)) (cond b (sound_rules (rules_of_term u.name u.term)) [])
      go true = sound_kept (rules_of_term u.name u.term) (theorem_rules u.name u good)
      go false = tt
  entry_rules (entry.Function f) good = tt
  entry_rules (entry.Constant c v) good = tt

  turned : (rs : List Rule) → Each (RuleHolds (function_of W)) rs → Each (RuleHolds (function_of W)) (newest_first rs)
  turned [] h = tt
  turned (r ∷ rs) h = each_append (RuleHolds (function_of W)) (newest_first rs) (r ∷ []) (turned rs h.1) (h.0, tt)

  all_rules : (ys : List Entry) → Each (Good (function_of W)) ys → Each (RuleHolds (function_of W)) (rules_in ys)
  all_rules [] h = tt
  all_rules (y ∷ ys) h = each_append (RuleHolds (function_of W)) (rules_in ys) (newest_first (rules_in_entry y)) (all_rules ys h.1) (turned (rules_in_entry y) (entry_rules y h.0))

pub rules_hold : RulesHold
rules_hold W sound ground = let (A, ms) = models (function_of W) sound.total in all_rules W sound ground A ms W sound.good

-- an element that is found has what each has
each_found : {B : Type 0} (P : B → Type 0) (xs : List B) (i : ℕ) (x : B) → Each P xs → slice_get xs i ≡ Some x → P x
each_found P [] i x h q = cc
each_found P (y ∷ ys) zero x h q = let same : y ≡ x = cc in subst P same h.0
each_found P (y ∷ ys) (suc i) x h q = each_found P ys i x h.1 q

pub parts_hold : PartsHold
parts_hold W sound ground x i g h = go (theorem_of W x) refl h
  where
    go : (o : Option Theorem) → theorem_of W x ≡ o → part_at x i o ≡ Some g → RuleHolds (function_of W) g
    go None q h = cc
    go (Some u) q h =
        let (A, ms) = models (function_of W) sound.total in
        each_found (RuleHolds (function_of W)) (rules_of_term x u.term) i g (theorem_rules W sound ground A ms x u (theorem_good W sound x u q)) h

-- a rule's instance, where no instance of a hypothesis is nil
pub rule_same : (D : Defs) (A : Apply) → Models D A → (g : Rule) → RuleHolds D g → (s : Pairs) (e : Env) → Each (λ h. val A (subst_of s h) e ≢ nil) g.hyps
    → AgreeUnder g.iff (val A (subst_of s g.lhs) e) (val A (subst_of s g.rhs) e)
rule_same D A ms g holds s e hs =
    let same = holds.same (replaced A s e) (held g.hyps holds.hyps hs) in
    let left = value_is D A ms g.lhs (replaced A s e) same.0 same.2 ∙ sym (val_subst A s g.lhs e) in
    let right = value_is D A ms g.rhs (replaced A s e) same.1 same.3 ∙ sym (val_subst A s g.rhs e) in
    subst (λ x. AgreeUnder g.iff x (val A (subst_of s g.rhs) e)) left (subst (λ y. AgreeUnder g.iff same.0 y) right same.4)
  where
    held : (ts : List Term) → Each (λ h. known D h ≡ true) ts → Each (λ h. val A (subst_of s h) e ≢ nil) ts → Each (IsHeld D (replaced A s e)) ts
    held [] ks hs = tt
    held (t ∷ ts) ks hs = ((val A t (replaced A s e), val_is D A ms t ks.0 (replaced A s e), λ z. hs.0 (val_subst A s t e ∙ z)), held ts ks.1 hs.1)
