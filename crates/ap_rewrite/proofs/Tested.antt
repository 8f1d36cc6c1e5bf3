-- A call that is opened by its test first.
use Rattle.std.proofs.Common.{◌≡◌, ℕ, Bool, ◌*◌, true, false, List, [], ◌∷◌, zip, Option, Some, None, Result, Ok, Err, IfOk, is_some, nat_le, true≢false, sym, ap, ◌∙◌, subst}
use Rattle.std.specs.declared.alloc.AllocError.{AllocError}
use denote.Ref.{Bor}
use Rattle.ap_list.specs.Lists.{Each, is_among}
use Rattle.ap_value.specs.declared.symbol.Symbol.{Symbol}
use Rattle.ap_value.specs.Values.{symbol_eq}
use Rattle.ap_term.specs.declared.term.Term.{Term, Call}
use Rattle.ap_term.specs.Equal.{term_eq}
use Rattle.ap_term.specs.Matching.{Pairs}
use Rattle.ap_term.specs.Metered.{Got}
use Rattle.ap_term.specs.Terms.{subst_of, term_size}
use Rattle.ap_world.specs.declared.entry.Entry.{Entry}
use Rattle.ap_world.specs.declared.entry.Function.{Function}
use Rattle.ap_world.specs.declared.theory.Rune.TheVariants as rune
use Rattle.ap_world.specs.Names.{if_name}
use Rattle.ap_world.specs.Meaning.{Defs}
use Rattle.ap_world.specs.Shapes.{choice, shape_of}
use Rattle.ap_world.specs.Sound.{known, Sound}
use Rattle.ap_world.specs.Theories.{is_enabled}
use Rattle.ap_world.specs.World.{function_of}
use Rattle.ap_world.proofs.Instances.{known_zip, known_subst}
use Rattle.ap_world.proofs.Looking.{good_of}
use Rattle.ap_world.proofs.Shaped.{Says, shape_says}
use Rattle.ap_world.proofs.Written.{subst_call}
use Rattle.ap_kernel.specs.declared.objects.Equiv.{Equiv}
use Rattle.ap_kernel.specs.declared.objects.Mode.{Mode}
use Rattle.ap_kernel.specs.declared.objects.Mode.TheVariants.{Iff}
use Rattle.ap_world.specs.declared.shapes.ShapeRef.{ShapeRef}
use Rattle.ap_world.specs.declared.shapes.ShapeRef.TheVariants as lent
use Rattle.ap_kernel.specs.Answers.{if_of}
use Rattle.ap_kernel.specs.Opening.{body_at, opened}
use Rattle.ap_world.specs.Lent.{seen}
use Rattle.ap_rewrite.specs.declared.rewriter.Tried.{Tried}
use Rattle.ap_rewrite.specs.Settings.{Setting, Place, Inner, closing}
use Rattle.ap_rewrite.specs.Rewriting.{most_nodes, truth_of, none, walk, walk_on, open_instance, opened as opening}
use Rattle.ap_rewrite.specs.Answering.{got_any}
use Rattle.ap_rewrite.proofs.Froms.{choice_parts, call_parts}
use Rattle.ap_rewrite.proofs.InstanceSizes.{small_at}
use Rattle.ap_rewrite.proofs.Opened.{opened_at, is_opened, recurring, walked_down}
use Rattle.ap_rewrite.proofs.Truths.{shape_if}
use Rattle.ap_rewrite.proofs.Walked.{branches_there, no_branches, past_open, walk_out, walk_past}

-- the instance of an `if` is the `if` of the instances
pub instance_if : (s : Pairs) (u a b c : Term) → u ≡ if_of a b c → subst_of s u ≡ if_of (subst_of s a) (subst_of s b) (subst_of s c)
instance_if s u a b c e = ap (subst_of s) e ∙ subst_call s if_name (a ∷ b ∷ c ∷ [])

-- the parts of an `if`, by its shape
pub if_there : (u a b c : Term) → choice a b c ≡ shape_of u → u ≡ if_of a b c
if_there u a b c e = subst (Says u) (sym e) (shape_says u)

pub same_test : (u v x y z a b c : Term) → u ≡ v → v ≡ if_of x y z → choice a b c ≡ shape_of u → v ≡ if_of x b c
same_test u v x y z a b c same e h =
    let k : choice a b c ≡ choice x y z = h ∙ ap shape_of (same ∙ e) ∙ shape_if x y z in
    let more : b ≡ y = cc in
    let last : c ≡ z = cc in
    e ∙ ap (λ (d : Term). if_of x d z) (sym more) ∙ ap (λ (d : Term). if_of x b d) (sym last)

pub has_branches : (u v x y z : Term) (s : ShapeRef) → u ≡ v → v ≡ if_of x y z → seen s ≡ shape_of u → ((a b c : Bor Term) → s ≡ lent.If a b c → ⊥) → ⊥
has_branches u v x y z s same e h never =
    true≢false (sym (ap branches_there (ap shape_of (same ∙ e) ∙ shape_if x y z)) ∙ no_branches u s h never)

-- the test in a function's body, and the arguments of a call, are known
pub test_known : (W : List Entry) → Sound W → (f : Symbol) (g : Function) (a b c : Term) → function_of W f ≡ Some g → g.body ≡ if_of a b c → known (function_of W) a ≡ true
test_known W sound f g a b c here is =
    (choice_parts (function_of W) a b c (subst (λ (x : Term). known (function_of W) x ≡ true) is (good_of W sound f g here).0.body_known)).0

pub arguments_known : (D : Defs) (t : Term) (f : Symbol) (us : List Term) → t ≡ Call f us → known D t ≡ true → Each (λ u. known D u ≡ true) us
arguments_known D t f us e k = call_parts D f us (subst (λ (x : Term). known D x ≡ true) e k)

pub part_known : (D : Defs) (xs : List Symbol) (us : List Term) (a v : Term) → v ≡ subst_of (zip xs us) a → Each (λ u. known D u ≡ true) us → known D a ≡ true → known D v ≡ true
part_known D xs us a v is ks k = subst (λ (x : Term). known D x ≡ true) (sym is) (known_subst D (zip xs us) (known_zip D xs us ks) a k)

-- where the body is an `if`, a call leads to the `if` of what its test's instance is and of its branches' instances
pub opened_if : (D : Defs) (t : Term) (f : Symbol) (us : List Term) (g : Function) (a b c v : Term) → t ≡ Call f us → D f ≡ Some g → g.body ≡ if_of a b c → v ≡ subst_of (zip g.formals us) a
    → (y : Term) × (z : Term) × (opened D t ≡ Some (if_of v y z))
opened_if D t f us g a b c v call here is test =
    let s = zip g.formals us in
    let made : subst_of s g.body ≡ if_of v (subst_of s b) (subst_of s c) = instance_if s g.body a b c is ∙ ap (λ (x : Term). if_of x (subst_of s b) (subst_of s c)) (sym test) in
    (subst_of s b, subst_of s c, opened_at D t f us g call here ∙ ap Some made)

-- the body's instance by the call's, which is made
pub is_made : (D : Defs) (t u : Term) → opened D t ≡ Some u → is_some (opened D t) ≡ true
is_made D t u e = ap is_some e

pub made_choice : (o : Option Term) (u w x y : Term) → Some u ≡ o → o ≡ Some (if_of w x y) → (b : Term) × (c : Term) × (u ≡ if_of w b c)
made_choice o u w x y e h = let same : ◌≡◌ {A = Option Term} (Some u) (Some (if_of w x y)) = e ∙ h in let made : u ≡ if_of w x y = cc in (x, y, made)

module _ (S : Setting) (r : Inner) (o : Mode) (p : Place) where
  -- the walk from the steps from which its test led to this
  abbrev pub From_steps : Result (Option (Tried Equiv)) AllocError → ℕ → Place → Term → Term → Term → ℕ → Type 0
  From_steps x k q u a v m = IfOk x (λ y. (n : ℕ) → Some (v, m) ≡ r Iff p a n → got_any y k ≡ walk S r o p q u false n)

  pub past_steps : (q : Place) (u a b c v : Term) (taken : Bool) (m k : ℕ) (x : Result (Option (Tried Equiv)) AllocError) → u ≡ if_of a b c
      → IfOk x (λ y. got_any y k ≡ walk_on S r o p q taken v (truth_of v) (b, walk S r o p q b) (c, walk S r o p q c) m)
      → IfOk x (λ y. (n : ℕ) → Some (v, m) ≡ r Iff p a n → got_any y k ≡ walk S r o p q u taken n)
  past_steps q u a b c v taken m k (Ok y) is h = λ n e. h ∙ walk_past S r o p q u a b c v taken n m is e
  past_steps q u a b c v taken m k (Err e) is h = tt

  same_instance : (x : Option Term) (u w : Term) → Some u ≡ x → x ≡ Some w → u ≡ w
  same_instance x u w e h = let same : ◌≡◌ {A = Option Term} (Some u) (Some w) = e ∙ h in cc

  -- where the function is closed
  pub closed_steps : (f : Symbol) (fs : List Symbol) (D : Defs) (t u a v : Term) (m k : ℕ) (x : Result (Option (Tried Equiv)) AllocError) → fs ≡ f ∷ p.closed → Some u ≡ opened D t
      → From_steps x k (record { facts = p.facts; closed = fs; chain = p.chain }) u a v m
      → IfOk x (λ y. (w : Term) (n : ℕ) → opened D t ≡ Some w → Some (v, m) ≡ r Iff p a n → got_any y k ≡ walk S r o p (closing f p) w false n)
  closed_steps f fs D t u a v m k (Ok y) is made h = λ w n e s.
      h n s
      ∙ ap (λ (gs : List Symbol). walk S r o p (record { facts = p.facts; closed = gs; chain = p.chain }) u false n) is
      ∙ ap (λ (z : Term). walk S r o p (closing f p) z false n) (same_instance (opened D t) u w made e)
  closed_steps f fs D t u a v m k (Err e) is made h = tt

  -- from these steps
  pub from_steps : (f : Symbol) (D : Defs) (t w a d v : Term) (m k n : ℕ) (x : Result (Option (Tried Equiv)) AllocError) → opened D t ≡ Some w → d ≡ a → Some (v, m) ≡ r Iff p a n
      → IfOk x (λ y. (w : Term) (n : ℕ) → opened D t ≡ Some w → Some (v, m) ≡ r Iff p d n → got_any y k ≡ walk S r o p (closing f p) w false n)
      → IfOk x (λ y. got_any y k ≡ walk S r o p (closing f p) w false n)
  from_steps f D t w a d v m k n (Ok y) made same e h = h w n made (e ∙ ap (λ (z : Term). r Iff p z n) (sym same))
  from_steps f D t w a d v m k n (Err z) made same e h = tt

  -- the steps run out in the test, or it becomes no constant
  module _ (f : Symbol) (us : List Term) (g : Function) (a b c : Term) (n : ℕ) (is : g.body ≡ if_of a b c) where
    abbrev at : Term → Term
    at u = subst_of (zip g.formals us) u

    pub test_out : ◌≡◌ {A = Got Term} None (r Iff p (at a) n) → ◌≡◌ {A = Got (Option Term)} None (walk S r o p (closing f p) (body_at g us) false n)
    test_out e = walk_out S r o p (closing f p) (body_at g us) (at a) (at b) (at c) false n (instance_if (zip g.formals us) g.body a b c is) e

    pub test_open : (v : Term) (m : ℕ) → Some (v, m) ≡ r Iff p (at a) n → truth_of v ≡ None → none m ≡ walk S r o p (closing f p) (body_at g us) false n
    test_open v m e h =
        past_open S r o p (closing f p) false v (at b) (at c) m h
        ∙ walk_past S r o p (closing f p) (body_at g us) (at a) (at b) (at c) v false n m (instance_if (zip g.formals us) g.body a b c is) e

  -- a call that may be opened is walked down, where it isn't to be opened and a bound says that its instance is small
  pub by_test : (t : Term) (f : Symbol) (us : List Term) (g : Function) (n : ℕ) → is_enabled S.theory (rune.Definition f) ≡ true → is_among symbol_eq f p.closed ≡ false
      → is_some g.measure ≡ true → is_among term_eq t S.expand ≡ false → t ≡ Call f us → nat_le (term_size g.body * term_size t) most_nodes ≡ true
      → walk S r o p (closing f p) (body_at g us) false n ≡ opening S r o p t f us (Some g) n
  by_test t f us g n on free again plain call few =
      walked_down S r o p (closing f p) t (body_at g us) n plain
      ∙ recurring S r o p f t (body_at g us) n g again
      ∙ is_opened (is_enabled S.theory (rune.Definition f)) (is_among symbol_eq f p.closed) (nat_le (term_size (body_at g us)) most_nodes) (open_instance S r o p t f g (body_at g us) n) (none n)
      on free (small_at g.formals f us g.body t most_nodes call few)
