-- The literals of a clause, rewritten one after another, and what is left of it.
use Rattle.std.proofs.Common.{◌≡◌, ℕ, zero, suc, ◌+◌, ◌<◌, Bool, true, false, cond, List, [], ◌∷◌, ◌++◌, length, take, drop, Option, Some, None, IfSome, slice_get, refl, sym, ap, ◌∙◌, subst, add-one, arith}
use Rattle.std.specs.Option.{option_map}
use Rattle.ap_list.specs.Lists.{Each}
use Rattle.ap_term.specs.declared.term.Term.{Term}
use Rattle.ap_term.specs.declared.term.Clause.{Clause}
use Rattle.ap_term.specs.Metered.{Got, known as answer, after, mapped}
use Rattle.ap_world.specs.Meaning.{Defs}
use Rattle.ap_world.specs.World.{Shown}
use Rattle.ap_world.specs.Facts.{Facts}
use Rattle.ap_world.specs.Shapes.{is_constant}
use Rattle.ap_kernel.specs.declared.objects.Ctx.{Ctx}
use Rattle.ap_kernel.specs.declared.objects.Equiv.{Equiv}
use Rattle.ap_kernel.specs.declared.objects.Mode.TheVariants.{Iff}
use Rattle.ap_kernel.specs.declared.reductions.Inference.{Inference}
use Rattle.ap_kernel.specs.declared.reductions.Reduction.{Reduction}
use Rattle.ap_kernel.specs.Standing.{Stands}
use Rattle.ap_kernel.specs.Reductions.{KnownClause, Reduces, put_at, others, all_false, to_one}
use Rattle.ap_kernel.specs.Tidying.{tidied, holds_by_itself, tidy_goals, tidy_made}
use Rattle.ap_clausify.specs.Splitting.{steps_left, settled_left}
use Rattle.ap_rewrite.specs.Settings.{Setting}
use Rattle.ap_rewrite.specs.Rewriting.{rewrite_of}
use Rattle.ap_rewrite.specs.Literals.{rewrite_literal, rewrite_literals, left_of, rewritten_to, split_left}
use Rattle.ap_rewrite.specs.Answering.{From}
use Rattle.ap_rewrite.specs.Simplifying.{got_reduced, literals_left, HasPlace, LeavesTrue}
use Rattle.ap_rewrite.proofs.Sure.{sure_holds}

-- a list with another element at a place
drop_next : {A : Type 0} (i : ℕ) (x : A) (xs : List A) → drop (suc i + 1) (x ∷ xs) ≡ drop (i + 1) xs
drop_next i x xs = ap (λ k. drop k (x ∷ xs)) (add-one (suc i)) ∙ ap (λ k. drop k xs) (sym (add-one i))

take_next : {A : Type 0} (i : ℕ) (x : A) (xs : List A) → take (suc i + 1) (x ∷ xs) ≡ x ∷ take (i + 1) xs
take_next i x xs = ap (λ k. take k (x ∷ xs)) (add-one (suc i)) ∙ ap (λ k. x ∷ take k xs) (sym (add-one i))

pub put_next : {A : Type 0} (i : ℕ) (ys xs : List A) (x : A) → put_at (suc i) ys (x ∷ xs) ≡ x ∷ put_at i ys xs
put_next i ys xs x = ap (λ zs. x ∷ (take i xs ++ (ys ++ zs))) (drop_next i x xs)

module _ (v : Term) where
  put_get : (i : ℕ) (us : List Term) (u : Term) → slice_get us i ≡ Some u → slice_get (put_at i (v ∷ []) us) i ≡ Some v
  put_get i [] u h = cc
  put_get zero (t ∷ us) u h = refl
  put_get (suc i) (t ∷ us) u h = ap (λ xs. slice_get xs (suc i)) (put_next i (v ∷ []) us t) ∙ put_get i us u h

  put_take : (i : ℕ) (us : List Term) (u : Term) → slice_get us i ≡ Some u → take (i + 1) (put_at i (v ∷ []) us) ≡ take i us ++ v ∷ []
  put_take i [] u h = cc
  put_take zero (t ∷ us) u h = refl
  put_take (suc i) (t ∷ us) u h = ap (take (suc i + 1)) (put_next i (v ∷ []) us t) ∙ take_next i t (put_at i (v ∷ []) us) ∙ ap (λ xs. t ∷ xs) (put_take i us u h)

  put_drop : (i : ℕ) (us : List Term) (u : Term) → slice_get us i ≡ Some u → drop (i + 1) (put_at i (v ∷ []) us) ≡ drop (i + 1) us
  put_drop i [] u h = cc
  put_drop zero (t ∷ us) u h = refl
  put_drop (suc i) (t ∷ us) u h = ap (drop (suc i + 1)) (put_next i (v ∷ []) us t) ∙ drop_next i t (put_at i (v ∷ []) us) ∙ put_drop i us u h ∙ sym (drop_next i t us)

  put_many : (i : ℕ) (us : List Term) (u : Term) → slice_get us i ≡ Some u → length (put_at i (v ∷ []) us) ≡ length us
  put_many i [] u h = cc
  put_many zero (t ∷ us) u h = refl
  put_many (suc i) (t ∷ us) u h = ap length (put_next i (v ∷ []) us t) ∙ ap suc (put_many i us u h)

drop_at : (i : ℕ) (us : List Term) (u : Term) → slice_get us i ≡ Some u → drop i us ≡ u ∷ drop (i + 1) us
drop_at i [] u h = cc
drop_at zero (t ∷ us) u h = let same : t ≡ u = cc in ap (λ x. x ∷ us) same
drop_at (suc i) (t ∷ us) u h = drop_at i us u h ∙ ap (λ xs. u ∷ xs) (sym (drop_next i t us))

at_place : (i : ℕ) (us : List Term) → i < length us → (u : Term) × (slice_get us i ≡ Some u)
at_place i [] h = absurd (omega (arith, h))
at_place zero (t ∷ us) h = (t, refl)
at_place (suc i) (t ∷ us) h = at_place i us (omega (arith, h))

-- the clause that is left
pub one_left : (cs : List Clause) (us : List Term) → cs ≡ record { 0 = us } ∷ [] → literals_left cs ≡ Some us
one_left cs us e = ap literals_left e

pub first_there : (cs : List Clause) (us : List Term) → cs ≡ record { 0 = us } ∷ [] → 0 < length cs
first_there cs us e = subst (λ (ds : List Clause). 0 < length ds) (sym e) (omega arith)

pub first_is : (cs : List Clause) (us : List Term) (c : Clause) → cs ≡ record { 0 = us } ∷ [] → literals_left cs ≡ Some c.0 → us ≡ c.0
first_is cs us c e h = let k : ◌≡◌ {A = Option (List Term)} (Some us) (Some c.0) = sym (one_left cs us e) ∙ h in cc

pub first_known : (D : Defs) (cs : List Clause) (us : List Term) (c : Clause) → cs ≡ record { 0 = us } ∷ [] → literals_left cs ≡ Some c.0 → Each (KnownClause D) cs → KnownClause D c
first_known D cs us c e h k =
    let first : Each (KnownClause D) (record { 0 = us } ∷ []) = subst (Each (KnownClause D)) e k in
    subst (λ (vs : List Term). KnownClause D (record { 0 = vs })) (first_is cs us c e h) first.0

-- a step that gives a reduction, and one that gives none
pub got_some : (g : Got Term) (F : Term → Inference) (q : Reduction) (m : ℕ) → got_reduced (Some q) m ≡ mapped F g → (v : Term) × (Some (v, m) ≡ g) × (q.says ≡ F v)
got_some None F q m e = cc
got_some (Some p) F q m e =
    let pair : ◌≡◌ {A = Inference × ℕ} (q.says, m) (F p.0, p.1) = cc in
    (p.0, ap (λ (x : Inference × ℕ). Some (p.0, x.1)) pair, ap (λ (x : Inference × ℕ). x.0) pair)

pub got_none : (g : Got Term) (F : Term → Inference) (m : ℕ) → got_reduced None m ≡ mapped F g → None ≡ g
got_none None F m e = refl
got_none (Some p) F m e = cc

-- the clause that is left is the one that the next reduction is from
pub joins : (cs : List Clause) (us : List Term) (c d : Clause) → cs ≡ record { 0 = us } ∷ [] → us ≡ c.0 → d ≡ c → cs ≡ d ∷ []
joins cs us c d e same from = e ∙ ap (λ (ts : List Term). record { 0 = ts } ∷ []) same ∙ ap (λ (x : Clause). x ∷ []) (sym from)

-- a clause that holds by itself is left out
pub closed_says : (q : Inference) (us : List Term) (c : Clause) (n p : Inference) → us ≡ c.0 → holds_by_itself (tidied us) ≡ true → n ≡ tidy_made c → p ≡ record { from = q.from; to = n.to }
    → p ≡ record { from = q.from; to = [] }
closed_says q us c n p same h e k =
    let none : tidy_goals (tidied c.0) ≡ [] = ap (λ (ts : List Term). tidy_goals (tidied ts)) (sym same) ∙ ap (λ b. cond b [] (record { 0 = tidied us } ∷ [])) h in
    k ∙ ap (λ (x : Inference). record { from = q.from; to = x.to }) e ∙ ap (λ (ds : List Clause). record { from = q.from; to = ds }) none

-- each answer that there is
each_some : {A : Type 0} {P Q : A → Type 0} (o : Option A) → ((x : A) → P x → Q x) → IfSome o P → IfSome o Q
each_some None f h = tt
each_some (Some x) f h = f x h

-- the literal that is rewritten, and what it leads to
module _ (w : Shown) (x : Ctx) (t : Term) (o : Option Equiv) (from : IfSome o (From w Iff x t)) where
  pub each_stands : IfSome o (λ q. Stands w q)
  each_stands = each_some o (λ q f. f.stands) from

  pub each_here : (ts : List Term) (i : ℕ) → slice_get ts i ≡ Some t → IfSome o (λ q. slice_get ts i ≡ Some q.says.lhs)
  each_here ts i at = each_some o (λ q f. at ∙ ap Some (sym f.lhs)) from

  pub each_facts : (fs : Facts) → x.0 ≡ fs → IfSome o (λ q. q.says.ctx.0 ≡ fs)
  each_facts fs e = each_some o (λ q f. ap (λ (y : Ctx). y.0) f.ctx ∙ e) from

module _ (S : Setting) (c : Clause) (fs : Facts) (t u : Term) (i n : ℕ) (facts : fs ≡ all_false (others i c.0)) (here : slice_get c.0 i ≡ Some t) (there : slice_get c.0 i ≡ Some u) where
  pub same_literal : rewrite_of S Iff (record { facts = fs; closed = []; chain = 0 }) t n ≡ rewrite_literal S (take i c.0) (drop (i + 1) c.0) u n
  same_literal =
      let same : ◌≡◌ {A = Option Term} (Some t) (Some u) = sym here ∙ there in
      let is : t ≡ u = cc in
      ap (λ (gs : Facts). rewrite_of S Iff (record { facts = gs; closed = []; chain = 0 }) t n) facts
      ∙ ap (λ x. rewrite_of S Iff (record { facts = all_false (others i c.0); closed = []; chain = 0 }) x n) is

-- what the loop keeps: the literals before the place are rewritten, and those from there on give what all of them give
pub record Stage (w : Shown) (S : Setting) (c : Clause) (all : Got (Option (List Term))) (i n : ℕ) (q : Reduction) : Type 0 where
  pub literals : List Term
  pub says : q.says ≡ to_one c literals
  pub is : all ≡ rewrite_literals S (take i literals) (drop i literals) n
  pub many : length literals ≡ length c.0
  pub stands : Reduces w q

pub stage_begin : (w : Shown) (S : Setting) (c : Clause) (n : ℕ) (q : Reduction) → q.says ≡ record { from = c; to = c ∷ [] } → Reduces w q → Stage w S c (rewrite_literals S [] c.0 n) 0 n q
stage_begin w S c n q e s = record { literals = c.0; says = e; is = refl; many = refl; stands = s }

-- the literal at the place is rewritten, and it isn't looked at yet
pub record Turned (w : Shown) (S : Setting) (c : Clause) (all : Got (Option (List Term))) (i n : ℕ) (q : Reduction) : Type 0 where
  pub literals : List Term
  pub literal : Term
  pub says : q.says ≡ to_one c literals
  pub at : slice_get literals i ≡ Some literal
  pub is : all ≡ cond (is_constant true literal) (answer None n) (rewrite_literals S (take (i + 1) literals) (drop (i + 1) literals) n)
  pub many : length literals ≡ length c.0
  pub stands : Reduces w q

module _ (w : Shown) (S : Setting) (c : Clause) (all : Got (Option (List Term))) (i n : ℕ) (q : Reduction) (fits : i < length c.0) (stage : Stage w S c all i n q) where
  within : i < length stage.literals
  within = subst (λ k. i < k) (sym stage.many) fits

  alone : q.says.to ≡ record { 0 = stage.literals } ∷ []
  alone = ap (λ (x : Inference). x.to) stage.says

  pub stage_place : HasPlace q.says i
  stage_place = record { literals = stage.literals; one = alone; within = within }

  here : (u : Term) × (slice_get stage.literals i ≡ Some u)
  here = at_place i stage.literals within

  abbrev next_by : Got Term → Got (Option (List Term))
  next_by g = after g (λ v k. cond (is_constant true v) (answer None k) (rewrite_literals S (take i stage.literals ++ v ∷ []) (drop (i + 1) stage.literals) k))

  next_is : all ≡ next_by (rewrite_literal S (take i stage.literals) (drop (i + 1) stage.literals) here.0 n)
  next_is = stage.is ∙ ap (λ xs. rewrite_literals S (take i stage.literals) xs n) (drop_at i stage.literals here.0 here.1)

  -- what a step answers
  abbrev Steps : Option Reduction → ℕ → Type 0
  Steps o m =
      (us : List Term) (u : Term) → q.says.to ≡ record { 0 = us } ∷ [] → slice_get us i ≡ Some u
      → got_reduced o m ≡ mapped (λ v. to_one q.says.from (put_at i (v ∷ []) us)) (rewrite_literal S (take i us) (drop (i + 1) us) u n)

  pub stage_out : (m : ℕ) → Steps None m → None ≡ all
  stage_out m e =
      let g = got_none (rewrite_literal S (take i stage.literals) (drop (i + 1) stage.literals) here.0 n) _ m (e stage.literals here.0 alone here.1) in
      sym (next_is ∙ ap next_by (sym g))

  pub stage_turned : (p : Reduction) (m : ℕ) → Steps (Some p) m → Reduces w p → Turned w S c all i m p
  stage_turned p m e s =
      let got = got_some (rewrite_literal S (take i stage.literals) (drop (i + 1) stage.literals) here.0 n) (λ v. to_one q.says.from (put_at i (v ∷ []) stage.literals)) p m (e stage.literals here.0 alone here.1) in
      let from : q.says.from ≡ c = ap (λ (x : Inference). x.from) stage.says in
      record {
        literals = put_at i (got.0 ∷ []) stage.literals;
        literal = got.0;
        says = got.2 ∙ ap (λ (d : Clause). to_one d (put_at i (got.0 ∷ []) stage.literals)) from;
        at = put_get got.0 i stage.literals here.0 here.1;
        is =
            next_is
            ∙ ap next_by (sym got.1)
            ∙ ap (λ xs. cond (is_constant true got.0) (answer None m) (rewrite_literals S xs (drop (i + 1) stage.literals) m)) (sym (put_take got.0 i stage.literals here.0 here.1))
            ∙ ap (λ xs. cond (is_constant true got.0) (answer None m) (rewrite_literals S (take (i + 1) (put_at i (got.0 ∷ []) stage.literals)) xs m)) (sym (put_drop got.0 i stage.literals here.0 here.1));
        many = put_many got.0 i stage.literals here.0 here.1 ∙ stage.many;
        stands = s;
      }

module _ (w : Shown) (S : Setting) (c : Clause) (all : Got (Option (List Term))) (i n : ℕ) (q : Reduction) (turned : Turned w S c all i n q) where
  one : q.says.to ≡ record { 0 = turned.literals } ∷ []
  one = ap (λ (x : Inference). x.to) turned.says

  pub turned_place : i < length c.0 → HasPlace q.says i
  turned_place fits = record { literals = turned.literals; one = one; within = subst (λ k. i < k) (sym turned.many) fits }

  -- what a look at the literal answers
  module _ (b : Bool) (looked : (us : List Term) (v : Term) → q.says.to ≡ record { 0 = us } ∷ [] → slice_get us i ≡ Some v → b ≡ is_constant true v) where
    sure : b ≡ true → is_constant true turned.literal ≡ true
    sure e = sym (looked turned.literals turned.literal one turned.at) ∙ e

    pub turned_true : b ≡ true → LeavesTrue q.says
    turned_true e = record { literals = turned.literals; one = one; holds = sure_holds turned.literals i turned.literal turned.at (sure e) }

    pub turned_proved : (p : Reduction) → b ≡ true → p.says ≡ record { from = q.says.from; to = [] } → got_reduced (Some p) n ≡ mapped (rewritten_to c) all
    turned_proved p e k =
        let from : q.says.from ≡ c = ap (λ (x : Inference). x.from) turned.says in
        let says : p.says ≡ rewritten_to c None = k ∙ ap (λ (d : Clause). rewritten_to d None) from in
        let is : all ≡ answer None n =
        turned.is ∙ ap (λ x. cond x (answer None n) (rewrite_literals S (take (i + 1) turned.literals) (drop (i + 1) turned.literals) n)) (sure e) in
        ap (λ x. Some (x, n)) says ∙ ap (mapped (rewritten_to c)) (sym is)

    pub turned_stage : b ≡ false → Stage w S c all (i + 1) n q
    turned_stage e = record {
      literals = turned.literals;
      says = turned.says;
      is =
          turned.is
          ∙ ap (λ x. cond x (answer None n) (rewrite_literals S (take (i + 1) turned.literals) (drop (i + 1) turned.literals) n)) (sym (looked turned.literals turned.literal one turned.at) ∙ e);
      many = turned.many;
      stands = turned.stands;
    }

all_taken : (us : List Term) → take (length us) us ≡ us
all_taken [] = refl
all_taken (u ∷ us) = ap (λ x. u ∷ x) (all_taken us)

all_dropped : (us : List Term) → drop (length us) us ≡ []
all_dropped [] = refl
all_dropped (u ∷ us) = all_dropped us

-- all are rewritten
pub stage_end : (w : Shown) (S : Setting) (c : Clause) (all : Got (Option (List Term))) (i n : ℕ) (q : Reduction) → i ≡ length c.0 → Stage w S c all i n q → got_reduced (Some q) n ≡ mapped (rewritten_to c) all
stage_end w S c all i n q at stage =
    let us = stage.literals in
    let end : i ≡ length us = at ∙ sym stage.many in
    let is : all ≡ Some (Some us, n) =
    stage.is
    ∙ ap (λ k. rewrite_literals S (take k us) (drop k us) n) end
    ∙ ap (λ xs. rewrite_literals S xs (drop (length us) us) n) (all_taken us)
    ∙ ap (λ xs. rewrite_literals S us xs n) (all_dropped us) in
    ap (λ x. Some (x, n)) stage.says ∙ ap (mapped (rewritten_to c)) (sym is)

-- what is left of it
left_back : (o : Option (List Term)) → literals_left (left_of o) ≡ o
left_back None = refl
left_back (Some us) = refl

pub left_says : (c : Clause) (g : Got (Option (List Term))) (q : Reduction) (m : ℕ) → got_reduced (Some q) m ≡ mapped (rewritten_to c) g → (o : Option (List Term)) × (g ≡ Some (o, m)) × (q.says ≡ rewritten_to c o)
left_says c None q m e = cc
left_says c (Some p) q m e =
    let pair : ◌≡◌ {A = Inference × ℕ} (q.says, m) (rewritten_to c p.0, p.1) = cc in
    (p.0, ap (λ (x : Inference × ℕ). Some (p.0, x.1)) (sym pair), ap (λ (x : Inference × ℕ). x.0) pair)

pub left_one : (c : Clause) (g : Got (Option (List Term))) (q : Reduction) (m : ℕ) → got_reduced (Some q) m ≡ mapped (rewritten_to c) g → q.says ≡ rewritten_to q.says.from (literals_left q.says.to)
left_one c g q m e =
    let (o, is, says) = left_says c g q m e in
    let back : literals_left q.says.to ≡ o = ap (λ (x : Inference). literals_left x.to) says ∙ left_back o in
    says ∙ ap (λ (d : Clause). rewritten_to d o) (sym (ap (λ (x : Inference). x.from) says)) ∙ ap (rewritten_to q.says.from) (sym back)

abbrev reduced_to : Clause → List Clause × ℕ → Inference
reduced_to c p = record { from = c; to = p.0 }

pub left_split : (c : Clause) (g : Got (Option (List Term))) (q : Reduction) (m : ℕ) (x : Option Inference) → got_reduced (Some q) m ≡ mapped (rewritten_to c) g
    → x ≡ option_map (λ (p : List Clause × ℕ). record { from = q.says.from; to = p.0 }) (settled_left (split_left (literals_left q.says.to) m))
    → x ≡ option_map (λ (p : List Clause × ℕ). record { from = c; to = p.0 }) (settled_left (after g split_left))
left_split c g q m x e k =
    let (o, is, says) = left_says c g q m e in
    let back : literals_left q.says.to ≡ o = ap (λ (y : Inference). literals_left y.to) says ∙ left_back o in
    k
    ∙ ap (λ (d : Clause). option_map (reduced_to d) (settled_left (split_left (literals_left q.says.to) m))) (ap (λ (y : Inference). y.from) says)
    ∙ ap (λ o. option_map (reduced_to c) (settled_left (split_left o m))) back
    ∙ ap (λ g. option_map (reduced_to c) (settled_left (after g split_left))) (sym is)

pub left_out : (c : Clause) (g : Got (Option (List Term))) (m : ℕ) → got_reduced None m ≡ mapped (rewritten_to c) g
    → ◌≡◌ {A = Option Inference} None (option_map (λ (p : List Clause × ℕ). record { from = c; to = p.0 }) (settled_left (after g split_left)))
left_out c None m e = refl
left_out c (Some p) m e = cc

-- the steps that are left: by the clause that is left, and none where they ran out
pub left_steps : (c : Clause) (g : Got (Option (List Term))) (q : Reduction) (m k : ℕ) → got_reduced (Some q) m ≡ mapped (rewritten_to c) g
    → k ≡ steps_left (split_left (literals_left q.says.to) m) → k ≡ steps_left (after g split_left)
left_steps c g q m k e is =
    let (o, left, says) = left_says c g q m e in
    let back : literals_left q.says.to ≡ o = ap (λ (y : Inference). literals_left y.to) says ∙ left_back o in
    is ∙ ap (λ o. steps_left (split_left o m)) back ∙ ap (λ g. steps_left (after g split_left)) (sym left)

pub out_steps : (c : Clause) (g : Got (Option (List Term))) → None ≡ mapped (rewritten_to c) g → 0 ≡ steps_left (after g split_left)
out_steps c None e = refl
out_steps c (Some p) e = cc
