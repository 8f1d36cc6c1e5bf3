-- What a memo keeps, as entries come and places are entered and left, and what an entry says.
use Rattle.std.proofs.Common.{◌≡◌, ℕ, ◌-◌, ◌≤◌, ◌<◌, Bool, true, false, cond, nat_eq, nat_le, List, [], ◌∷◌, ◌++◌, map, reverse, Option, Some, None, ◌⊎◌, inl, inr, Result, Ok, Err, IfOk, OnOk, OnErr, refl, sym, ap, ◌∙◌, subst, arith}
use Rattle.std.proofs.lemmas.Bool.Decides.{nat_tests}
use Rattle.std.proofs.lemmas.List.{reverse-append}
use Rattle.std.specs.Map.{lookup}
use Rattle.indexmap.specs.IndexMap.{insert_entry}
use Rattle.ap_list.specs.Lists.{Each}
use Rattle.ap_value.specs.declared.symbol.Symbol.{Symbol}
use Rattle.ap_term.specs.declared.term.Term.{Term}
use Rattle.ap_world.specs.declared.theory.Theory.{Theory}
use Rattle.ap_world.specs.World.{Shown}
use Rattle.ap_world.specs.Facts.{Facts}
use Rattle.ap_kernel.specs.declared.objects.Mode.{Mode}
use Rattle.ap_kernel.specs.declared.objects.Ctx.{Ctx}
use Rattle.ap_kernel.specs.declared.objects.Equiv.{Equiv}
use Rattle.ap_rewrite.specs.declared.known.Known.{Known}
use Rattle.ap_rewrite.specs.declared.known.Recalled.{Recalled}
use Rattle.ap_rewrite.specs.declared.known.Recalled.TheVariants as recalled
use Rattle.ap_rewrite.specs.declared.table.Table.{Table}
use Rattle.ap_rewrite.specs.declared.rewriter.Place.{Place}
use Rattle.ap_rewrite.specs.ByCost.{Fits, charged}
use Rattle.ap_rewrite.specs.Rewriting.{rewrite_to}
use Rattle.ap_rewrite.specs.InWorld.{world_setting}
use Rattle.ap_rewrite.specs.Keys.{place_term}
use Rattle.ap_rewrite.specs.Shown.{MemoShown}
use Rattle.ap_rewrite.specs.Remembers.{place_in, shown, IsKnown, IsTable, Remembers, Puts, IsFor, Leaves}
use Rattle.ap_rewrite.specs.Serving.{Suits, Serves}
use Rattle.ap_rewrite.specs.Answering.{From, seen_at}
use Rattle.ap_rewrite.specs.Remembering.{RecalledIs}
use Rattle.ap_rewrite.proofs.CheapStands.{cheap_exact}
use Rattle.ap_rewrite.proofs.KeysTold.{place_told}

module _ (P : Known → Type 0) where
  put_one : (k : Known) (x : ℕ × Known) (n : ℕ) (es fs : List (ℕ × Known)) (b : Bool) → P k → P x.1 → Each (λ e. P e.1) es → Each (λ e. P e.1) fs
      → Each (λ e. P e.1) (cond b ((x.0, k) ∷ es) (x ∷ fs))
  put_one k x n es fs true p q r s = (p, r)
  put_one k x n es fs false p q r s = (q, s)

  -- an entry more, or another in its place
  each_put : (n : ℕ) (k : Known) → P k → (es : List (ℕ × Known)) → Each (λ e. P e.1) es → Each (λ e. P e.1) (insert_entry nat_eq es n k)
  each_put n k p [] r = (p, tt)
  each_put n k p (x ∷ es) r = put_one k x n es (insert_entry nat_eq es n k) (nat_eq n x.0) p r.0 r.1 (each_put n k p es r.1)

  got_one : (k : Known) (x : ℕ × Known) (o : Option Known) (b : Bool) → P x.1 → (o ≡ Some k → P k) → cond b (Some x.1) o ≡ Some k → P k
  got_one k x o true p f e = let s : x.1 ≡ k = cc in subst P s p
  got_one k x o false p f e = f e

  -- what is found
  each_found : (es : List (ℕ × Known)) → Each (λ e. P e.1) es → (n : ℕ) (k : Known) → lookup (nat_eq n) es ≡ Some k → P k
  each_found [] r n k e = cc
  each_found (x ∷ es) r n k e = got_one k x (lookup (nat_eq n) es) (nat_eq n x.0) r.0 (each_found es r.1 n k) e

module _ {A : Type 0} where
  each_last : (P : A → Type 0) (xs : List A) (x : A) → Each P xs → P x → Each P (xs ++ x ∷ [])
  each_last P [] x e p = (p, tt)
  each_last P (y ∷ xs) x e p = (e.0, each_last P xs x e.1 p)

  each_parts : (P : A → Type 0) (xs : List A) (x : A) → Each P (xs ++ x ∷ []) → Each P xs × P x
  each_parts P [] x e = (tt, e.0)
  each_parts P (y ∷ xs) x e = let r = each_parts P xs x e.1 in ((e.0, r.0), r.1)

  -- a list that isn't empty has a last element
  ends : (x : A) (xs : List A) → (y : A) × (ys : List A) × (x ∷ xs ≡ ys ++ y ∷ [])
  ends x [] = (x, [], refl)
  ends x (y ∷ ys) = let r = ends y ys in (r.0, x ∷ r.1, ap (λ z. x ∷ z) r.2)

-- the last of a list is the first of its reverse
turned : (xs : List (Option Table)) (x : Option Table) → reverse (map place_in (xs ++ x ∷ [])) ≡ place_in x ∷ reverse (map place_in xs)
turned xs x = ap reverse (map_last xs) ∙ reverse-append (map place_in xs) (place_in x ∷ [])
  where
    map_last : (ys : List (Option Table)) → map place_in (ys ++ x ∷ []) ≡ map place_in ys ++ place_in x ∷ []
    map_last [] = refl
    map_last (y ∷ ys) = ap (λ z. place_in y ∷ z) (map_last ys)

pub has_last : (xs : List (Option Table)) (p : Option Term) (rest : List (Option Term)) → reverse (map place_in xs) ≡ p ∷ rest → (o : Option Table) × (os : List (Option Table)) × (xs ≡ os ++ o ∷ [])
has_last [] p rest e = cc
has_last (x ∷ xs) p rest e = ends x xs

-- by what is left a charge is an answer, or none
cond_yes : {A : Type 0} (b : Bool) (x y : A) → b ≡ true → cond b x y ≡ x
cond_yes true x y e = refl
cond_yes false x y e = cc

cond_no : {A : Type 0} (b : Bool) (x y : A) → b ≡ false → cond b x y ≡ y
cond_no true x y e = cc
cond_no false x y e = refl

le_true : (a b : ℕ) → a ≤ b → nat_le a b ≡ true
le_true a b h = grind (arith, nat_tests)

le_false : (a b : ℕ) → b < a → nat_le a b ≡ false
le_false a b h = grind (arith, nat_tests)

charged_some : {A : Type 0} (a : A) (cost n : ℕ) → cost ≤ n → charged a cost n ≡ Some (a, n - cost)
charged_some {A} a cost n l = cond_yes {A = Option (A × ℕ)} (nat_le cost n) (Some (a, n - cost)) None (le_true cost n l)

charged_none : {A : Type 0} (a : A) (cost n : ℕ) → n < cost → charged a cost n ≡ None
charged_none {A} a cost n l = cond_no {A = Option (A × ℕ)} (nat_le cost n) (Some (a, n - cost)) None (le_false cost n l)

puts_place : (t u : Option Table) (n : ℕ) (k : Known) → Puts t u n k → place_in u ≡ place_in t
puts_place None u n k e = ap place_in e
puts_place (Some t) None n k e = elim e [ ]
puts_place (Some t) (Some u) n k e = ap (λ (z : Ctx). Some (place_term z.0 u.closed)) e.0 ∙ ap (λ z. Some (place_term t.ctx.0 z)) e.1

module _ (w : Shown) (h : Theory) (us : List Term) where
  -- a table with an entry more
  puts_is : (t u : Option Table) (n : ℕ) (k : Known) → Puts t u n k → IsTable w h us t → ((x : Table) → t ≡ Some x → IsKnown w h us x.ctx.0 x.closed k) → IsTable w h us u
  puts_is None None n k e r f = tt
  puts_is None (Some u) n k e r f = cc
  puts_is (Some t) None n k e r f = elim e [ ]
  puts_is (Some t) (Some u) n k e r f =
      subst (λ (z : Ctx). Each (λ x. IsKnown w h us z.0 u.closed x.1) u.entries.entries) (sym e.0)
      (subst (λ z. Each (λ x. IsKnown w h us t.ctx.0 z x.1) u.entries.entries) (sym e.1) (go e.2))
    where
      go : (u.entries.entries ≡ insert_entry nat_eq t.entries.entries n k) ⊎ (u.entries.entries ≡ t.entries.entries) → Each (λ x. IsKnown w h us t.ctx.0 t.closed x.1) u.entries.entries
      go (inl q) = subst (Each (λ x. IsKnown w h us t.ctx.0 t.closed x.1)) (sym q) (each_put (IsKnown w h us t.ctx.0 t.closed) n k (f t refl) t.entries.entries r)
      go (inr q) = subst (Each (λ x. IsKnown w h us t.ctx.0 t.closed x.1)) (sym q) r

  -- what a term became at a place is known there
  known_made : (k : Known) (o : Mode) (p : Place) (u : Term) → From w o p.ctx.now u k.answer → k.chain ≡ p.chain → (d before after : ℕ)
      → rewrite_to (world_setting w h us) d o (seen_at p) u before ≡ Some (k.answer.says.rhs, after) → k.cost ≡ before - after → k.cost ≤ d → IsKnown w h us p.ctx.now.0 p.closed.now k
  known_made k o p u l c d before after r cost le = record {
    ctx = ap (λ (z : Ctx). z.0) l.ctx;
    stands = l.stands;
    exact = λ f b m fit j.
        subst (λ (z : Mode). rewrite_to (world_setting w h us) f z (record { facts = p.ctx.now.0; closed = p.closed.now; chain = b }) k.answer.says.lhs j ≡ charged k.answer.says.rhs k.cost j) (sym l.mode)
        (subst (λ (z : Term). rewrite_to (world_setting w h us) f o (record { facts = p.ctx.now.0; closed = p.closed.now; chain = b }) z j ≡ charged k.answer.says.rhs k.cost j) (sym l.lhs)
        (cheap_exact (world_setting w h us) d f o (seen_at p) b u before k.answer.says.rhs after r (subst (λ z. z ≤ d) cost le) (subst (λ z. z ≤ f) cost m) (subst (λ z. Fits (before - after) z b) c (subst (λ z. Fits z k.chain b) cost fit)) j
        ∙ ap (λ z. charged k.answer.says.rhs z j) (sym cost)));
  }

  -- the table at which rewriting stands is of that place
  stood : (x : Table) (here : Option Table) (outer : List (Option Table)) (m : MemoShown) (p : Place) → shown w h us here outer ≡ m → m.place ≡ Some (place_term p.ctx.now.0 p.closed.now) → here ≡ Some x
      → (x.ctx.0 ≡ p.ctx.now.0) × (x.closed ≡ p.closed.now)
  stood x here outer m p e at s =
      let q : Some (place_term x.ctx.0 x.closed) ≡ Some (place_term p.ctx.now.0 p.closed.now) = ap place_in (sym s) ∙ ap (λ (z : MemoShown). z.place) e ∙ at in
      let r : place_term x.ctx.0 x.closed ≡ place_term p.ctx.now.0 p.closed.now = cc in
      place_told x.ctx.0 p.ctx.now.0 x.closed p.closed.now r

  pub keep_remembers : (here here' : Option Table) (outer : List (Option Table)) (past : Option Table) (n : ℕ) (o : Mode) (p : Place) (u : Term) (d before after cost : ℕ) (a : Equiv) (k : Known) (m : MemoShown)
      → Remembers w h us here outer past → shown w h us here outer ≡ m → m.place ≡ Some (place_term p.ctx.now.0 p.closed.now)
      → rewrite_to (world_setting m.world m.theory m.expand) d o (seen_at p) u before ≡ Some (a.says.rhs, after) → From m.world o p.ctx.now u a
      → cost ≡ before - after → cost ≤ d → k ≡ record { answer = a; cost = cost; chain = p.chain } → Puts here here' n k → Remembers w h us here' outer past
  keep_remembers here here' outer past n o p u d before after cost a k m rem e at is leads c le known puts =
      let i : rewrite_to (world_setting w h us) d o (seen_at p) u before ≡ Some (a.says.rhs, after) = subst (λ (z : MemoShown). rewrite_to (world_setting z.world z.theory z.expand) d o (seen_at p) u before ≡ Some (a.says.rhs, after)) (sym e) is in
      let l : From w o p.ctx.now u a = subst (λ (z : MemoShown). From z.world o p.ctx.now u a) (sym e) leads in
      let made : IsKnown w h us p.ctx.now.0 p.closed.now k =
      subst (IsKnown w h us p.ctx.now.0 p.closed.now) (sym known) (known_made (record { answer = a; cost = cost; chain = p.chain }) o p u l refl d before after i c le) in
      record {
        now = puts_is here here' n k puts rem.now (λ x s. let q = stood x here outer m p e at s in
            subst (λ z. IsKnown w h us z x.closed k) (sym q.0) (subst (λ z. IsKnown w h us p.ctx.now.0 z k) (sym q.1) made));
        around = rem.around;
        last = rem.last;
      }

  pub keep_shown : (here here' : Option Table) (outer : List (Option Table)) (n : ℕ) (k : Known) (m : MemoShown) → shown w h us here outer ≡ m → Puts here here' n k → shown w h us here' outer ≡ m
  keep_shown here here' outer n k m e puts =
      let q = puts_place here here' n k puts in
      (λ i. record { world = w; theory = h; expand = us; place = q i; around = reverse (map place_in outer) }) ∙ e

  -- what an entry says of its term
  said : (fs : Facts) (cl : List Symbol) (o : Mode) (p : Place) (u : Term) (d : ℕ) (k : Known) → fs ≡ p.ctx.now.0 → cl ≡ p.closed.now → IsKnown w h us fs cl k → Suits k d o p.chain u
      → (j : ℕ) → rewrite_to (world_setting w h us) d o (seen_at p) u j ≡ charged k.answer.says.rhs k.cost j
  said fs cl o p u d k ef ec i s j =
      subst (λ (z : Mode). rewrite_to (world_setting w h us) d z (seen_at p) u j ≡ charged k.answer.says.rhs k.cost j) s.mode
      (subst (λ (z : Term). rewrite_to (world_setting w h us) d k.answer.says.mode (seen_at p) z j ≡ charged k.answer.says.rhs k.cost j) s.lhs
      (subst (λ (z : List Symbol). rewrite_to (world_setting w h us) d k.answer.says.mode (record { facts = p.ctx.now.0; closed = z; chain = p.chain }) k.answer.says.lhs j ≡ charged k.answer.says.rhs k.cost j) ec
      (subst (λ (z : Facts). rewrite_to (world_setting w h us) d k.answer.says.mode (record { facts = z; closed = cl; chain = p.chain }) k.answer.says.lhs j ≡ charged k.answer.says.rhs k.cost j) ef
      (i.exact d p.chain s.cost s.fits j))))

  -- what is served is the definition's
  serves_is : (fs : Facts) (cl : List Symbol) (o : Mode) (p : Place) (u : Term) (d left : ℕ) (x : Option Known) (r : Recalled) (place : Option Term) (around : List (Option Term))
      → fs ≡ p.ctx.now.0 → cl ≡ p.closed.now → ((k : Known) → x ≡ Some k → IsKnown w h us fs cl k) → Serves x d o p.chain u left r
      → RecalledIs (record { world = w; theory = h; expand = us; place = place; around = around }) d o p u left r
  serves_is fs cl o p u d left x recalled.Unknown l a ef ec f s = tt
  serves_is fs cl o p u d left None recalled.Out l a ef ec f s = elim s [ ]
  serves_is fs cl o p u d left None (recalled.Known q m) l a ef ec f s = elim s [ ]
  serves_is fs cl o p u d left (Some k) recalled.Out l a ef ec f s = said fs cl o p u d k ef ec (f k refl) s.0 left ∙ charged_none k.answer.says.rhs k.cost left s.1
  serves_is fs cl o p u d left (Some k) (recalled.Known q m) l a ef ec f s =
      let i = f k refl in
      let answer : q ≡ k.answer = s.1.1 in
      let rest : m ≡ left - k.cost = s.1.2 in
      let ctx : k.answer.says.ctx ≡ p.ctx.now = λ z. record { 0 = (i.ctx ∙ ef) z } in
      let from : From w o p.ctx.now u k.answer = record { stands = i.stands; ctx = ctx; mode = s.0.mode; lhs = s.0.lhs } in
      (said fs cl o p u d k ef ec i s.0 left ∙ charged_some k.answer.says.rhs k.cost left s.1.0 ∙ ap (λ (z : Equiv × ℕ). Some (z.0.says.rhs, z.1)) (λ j. (sym answer j, sym rest j)), subst (From w o p.ctx.now u) (sym answer) from)

  pub find_is : (here : Option Table) (outer : List (Option Table)) (past : Option Table) (m : MemoShown) (o : Mode) (p : Place) (u : Term) (d left key : ℕ) (x : Option Known) (r : Recalled)
      → Remembers w h us here outer past → shown w h us here outer ≡ m → m.place ≡ Some (place_term p.ctx.now.0 p.closed.now) → (t : Table) → here ≡ Some t
      → x ≡ lookup (nat_eq key) t.entries.entries → Serves x d o p.chain u left r → RecalledIs m d o p u left r
  find_is here outer past m o p u d left key x r rem e at t is got s =
      let q = stood t here outer m p e at is in
      subst (λ z. RecalledIs z d o p u left r) e
      (serves_is t.ctx.0 t.closed o p u d left x r (place_in here) (reverse (map place_in outer)) q.0 q.1
      (λ k y. each_found (IsKnown w h us t.ctx.0 t.closed) t.entries.entries (subst (IsTable w h us) is rem.now) key k (sym got ∙ y)) s)

  -- a table that is empty, or was left last
  for_is : (c : Ctx) (cl : List Symbol) (past : Option Table) (t : Table) → IsFor c cl past t → IsTable w h us past → IsTable w h us (Some t)
  for_is c cl past t f r = go f.entries
    where
      go : (t.entries.entries ≡ []) ⊎ (past ≡ Some t) → IsTable w h us (Some t)
      go (inl e) = subst (Each (λ z. IsKnown w h us t.ctx.0 t.closed z.1)) (sym e) tt
      go (inr e) = subst (IsTable w h us) e r

  last_is : (past past' : Option Table) → (past' ≡ None) ⊎ (past' ≡ past) → IsTable w h us past → IsTable w h us past'
  last_is past past' (inl e) r = subst (IsTable w h us) (sym e) tt
  last_is past past' (inr e) r = subst (IsTable w h us) (sym e) r

  -- where no memory is left for a table
  pub still_remembers : (here : Option Table) (outer : List (Option Table)) (past past' : Option Table) → Remembers w h us here outer past → (past' ≡ None) ⊎ (past' ≡ past) → Remembers w h us here outer past'
  still_remembers here outer past past' rem l = record { now = rem.now; around = rem.around; last = last_is past past' l rem.last }

  -- a place is entered, or for want of memory isn't
  pub enter_remembers : {A E : Type 0} (r : Result A E) (here here' : Option Table) (outer outer' : List (Option Table)) (past past' : Option Table) (c : Ctx) (cl : List Symbol) (t : Table)
      → Remembers w h us here outer past → IsFor c cl past t → (past' ≡ None) ⊎ (past' ≡ past)
      → OnOk r ((here' ≡ Some t) × (outer' ≡ outer ++ here ∷ [])) → OnErr r ((here' ≡ here) × (outer' ≡ outer)) → Remembers w h us here' outer' past'
  enter_remembers (Ok a) here here' outer outer' past past' c cl t rem f l y n = record {
    now = subst (IsTable w h us) (sym y.0) (for_is c cl past t f rem.last);
    around = subst (Each (IsTable w h us)) (sym y.1) (each_last (IsTable w h us) outer here rem.around rem.now);
    last = last_is past past' l rem.last;
  }
  enter_remembers (Err a) here here' outer outer' past past' c cl t rem f l y n = record {
    now = subst (IsTable w h us) (sym n.0) rem.now;
    around = subst (Each (IsTable w h us)) (sym n.1) rem.around;
    last = last_is past past' l rem.last;
  }

  pub enter_ok : {A E : Type 0} (r : Result A E) (here here' : Option Table) (outer outer' : List (Option Table)) (past : Option Table) (c : Ctx) (cl : List Symbol) (t : Table) (m : MemoShown)
      → shown w h us here outer ≡ m → IsFor c cl past t → OnOk r ((here' ≡ Some t) × (outer' ≡ outer ++ here ∷ []))
      → OnOk r (shown w h us here' outer' ≡ record m { place = Some (place_term c.0 cl); around = m.place ∷ m.around })
  enter_ok (Ok a) here here' outer outer' past c cl t m e f y =
      let p : place_in here' ≡ Some (place_term c.0 cl) =
      ap place_in y.0 ∙ ap (λ (z : Ctx). Some (place_term z.0 t.closed)) f.ctx ∙ ap (λ z. Some (place_term c.0 z)) f.closed in
      let a : reverse (map place_in outer') ≡ place_in here ∷ reverse (map place_in outer) = ap (λ z. reverse (map place_in z)) y.1 ∙ turned outer here in
      (λ i. record { world = w; theory = h; expand = us; place = p i; around = a i }) ∙ ap (λ (z : MemoShown). record z { place = Some (place_term c.0 cl); around = z.place ∷ z.around }) e
  enter_ok (Err a) here here' outer outer' past c cl t m e f y = tt

  pub enter_err : {A E : Type 0} (r : Result A E) (here here' : Option Table) (outer outer' : List (Option Table)) (m : MemoShown)
      → shown w h us here outer ≡ m → OnErr r ((here' ≡ here) × (outer' ≡ outer)) → OnErr r (shown w h us here' outer' ≡ m)
  enter_err (Ok a) here here' outer outer' m e n = tt
  enter_err (Err a) here here' outer outer' m e n = ap (λ z. shown w h us z outer') n.0 ∙ ap (shown w h us here) n.1 ∙ e

  -- a place is left
  pub leave_remembers : (here here' : Option Table) (outer outer' : List (Option Table)) (past past' : Option Table) → Remembers w h us here outer past → Leaves here here' outer outer' past past' → Remembers w h us here' outer' past'
  leave_remembers here here' outer outer' past past' rem l =
      let r = each_parts (IsTable w h us) outer' here' (subst (Each (IsTable w h us)) l.outer_is rem.around) in
      record { now = r.1; around = r.0; last = go l.last }
    where
      go : (past' ≡ here) ⊎ (past' ≡ past) → IsTable w h us past'
      go (inl e) = subst (IsTable w h us) (sym e) rem.now
      go (inr e) = subst (IsTable w h us) (sym e) rem.last

  pub leave_shown : (here here' : Option Table) (outer outer' : List (Option Table)) (past past' : Option Table) (m : MemoShown) → shown w h us here outer ≡ m → Leaves here here' outer outer' past past'
      → (p : Option Term) (rest : List (Option Term)) → m.around ≡ p ∷ rest → shown w h us here' outer' ≡ record m { place = p; around = rest }
  leave_shown here here' outer outer' past past' m e l p rest is =
      let a : place_in here' ∷ reverse (map place_in outer') ≡ p ∷ rest = sym (turned outer' here') ∙ ap (λ z. reverse (map place_in z)) (sym l.outer_is) ∙ ap (λ (z : MemoShown). z.around) e ∙ is in
      let q : place_in here' ≡ p = cc in
      let b : reverse (map place_in outer') ≡ rest = cc in
      (λ i. record { world = w; theory = h; expand = us; place = q i; around = b i }) ∙ ap (λ (z : MemoShown). record z { place = p; around = rest }) e

  -- a place that may be left has one around it
  pub can_leave : (here : Option Table) (outer : List (Option Table)) (m : MemoShown) → shown w h us here outer ≡ m → (p : Option Term) × (rest : List (Option Term)) × (m.around ≡ p ∷ rest)
      → (o : Option Table) × (os : List (Option Table)) × (outer ≡ os ++ o ∷ [])
  can_leave here outer m e q = has_last outer q.0 q.1 (ap (λ (z : MemoShown). z.around) e ∙ q.2)

pub mapped_ok : {A E : Type 0} (P Q : A → Type 0) (x : Result A E) → ((a : A) → P a → Q a) → IfOk x P → IfOk x Q
mapped_ok P Q (Ok a) f h = f a h
mapped_ok P Q (Err e) f h = tt

-- the same facts, in lists that are shared
pub same_ctx : (a b : Ctx) → a.0 ≡ b.0 → a ≡ b
same_ctx a b e = λ i. record { 0 = e i }
