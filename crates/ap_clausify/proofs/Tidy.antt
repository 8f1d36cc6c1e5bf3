-- Literals that tidying leaves as they are, one after another.
use Rattle.std.proofs.Common.{◌≡◌, ℕ, zero, suc, ◌+◌, ◌<◌, ◌≤◌, Bool, true, false, true≢false, ◌&&◌, not, cond, ◌||◌, List, [], ◌∷◌, ◌++◌, map, length, take, get_or, ◌⊎◌, inl, inr, refl, ap, sym, ◌∙◌, subst, append_assoc, add-one, arith}
use Rattle.ap_list.specs.Lists.{Each, is_among}
use Rattle.ap_term.specs.declared.term.Term.{Term}
use Rattle.ap_term.specs.declared.term.Clause.{Clause}
use Rattle.ap_term.specs.Equal.{term_eq}
use Rattle.ap_term.proofs.Equals.{term_eq-true}
use Rattle.ap_world.specs.Shapes.{Shape, constant, choice, negation, equation, pair, other, shape_of, constant_says, is_constant}
use Rattle.ap_kernel.specs.Tidying.{plain, kept, tidied, is_bare, is_plain, is_opposed, decides, holds_by_itself, tidy_goals, negates, is_denied}
use Rattle.ap_kernel.proofs.PlainForm.{plain_is}
use Rattle.ap_kernel.proofs.Reduced.{each_append}
use Rattle.ap_clausify.specs.Scanning.{closed_by, is_kept, IsTidy}
use Rattle.ap_clausify.proofs.Framed.{append_nil}
use Rattle.ap_clausify.proofs.Seen.{and_both, not_so, take_all}
use Rattle.ap_clausify.proofs.Vanished.{or_left, or_right, either, nowhere, decider, decided_by, among_end}

-- one that is kept behind others
kept_end : (before xs : List Term) (u : Term) → kept before (xs ++ u ∷ []) ≡ kept before xs ++ kept (before ++ kept before xs) (u ∷ [])
kept_end before [] u = ap (λ ys. kept ys (u ∷ [])) (sym (append_nil before))
kept_end before (x ∷ xs) u = go (is_constant false x || is_among term_eq x before) (kept_end before xs u) (kept_end (before ++ x ∷ []) xs u)
  where
    go : (b : Bool) → kept before (xs ++ u ∷ []) ≡ kept before xs ++ kept (before ++ kept before xs) (u ∷ [])
        → kept (before ++ x ∷ []) (xs ++ u ∷ []) ≡ kept (before ++ x ∷ []) xs ++ kept ((before ++ x ∷ []) ++ kept (before ++ x ∷ []) xs) (u ∷ [])
        → cond b (kept before (xs ++ u ∷ [])) (x ∷ kept (before ++ x ∷ []) (xs ++ u ∷ []))
        ≡ cond b (kept before xs) (x ∷ kept (before ++ x ∷ []) xs) ++ kept (before ++ cond b (kept before xs) (x ∷ kept (before ++ x ∷ []) xs)) (u ∷ [])
    go true p q = p
    go false p q = ap (λ ys. x ∷ ys) (q ∙ ap (λ ys. kept (before ++ x ∷ []) xs ++ kept ys (u ∷ [])) (append_assoc before (x ∷ []) (kept (before ++ x ∷ []) xs)))

plain_end : (ts : List Term) (u : Term) → plain u ≡ u → map plain (ts ++ u ∷ []) ≡ map plain ts ++ u ∷ []
plain_end [] u e = ap (λ v. v ∷ []) e
plain_end (t ∷ ts) u e = ap (λ us. plain t ∷ us) (plain_end ts u e)

tidied_end : (ts : List Term) (u : Term) → tidied ts ≡ ts → is_plain (shape_of u) ≡ true → is_constant false u ≡ false → is_among term_eq u ts ≡ false → tidied (ts ++ u ∷ []) ≡ ts ++ u ∷ []
tidied_end ts u s p c a =
    ap (kept []) (plain_end ts u (plain_is u p))
    ∙ kept_end [] (map plain ts) u
    ∙ ap (λ ys. ys ++ kept ys (u ∷ [])) s
    ∙ ap (λ b. ts ++ cond (b || is_among term_eq u ts) [] (u ∷ [])) c
    ∙ ap (λ b. ts ++ cond b [] (u ∷ [])) a

-- what would close it
contrary : {P : Type 0} (b : Bool) → b ≡ true → b ≡ false → P
contrary b h k = absurd (true≢false (sym h ∙ k))

each_among : (ts : List Term) (s : Term) → Each (λ u. is_plain (shape_of u) ≡ true) ts → is_among term_eq s ts ≡ true → is_plain (shape_of s) ≡ true
each_among [] s ps h = nowhere h
each_among (t ∷ ts) s ps h = go (either (term_eq s t) (is_among term_eq s ts) h) (each_among ts s ps.1)
  where
    go : (term_eq s t ≡ true) ⊎ (is_among term_eq s ts ≡ true) → (is_among term_eq s ts ≡ true → is_plain (shape_of s) ≡ true) → is_plain (shape_of s) ≡ true
    go (inl k) later = subst (λ v. is_plain (shape_of v) ≡ true) (sym (term_eq-true s t k)) ps.0
    go (inr k) later = later k

denied_by : (ts : List Term) (s u : Term) → is_among term_eq s ts ≡ true → negates (shape_of s) u ≡ true → is_denied ts u ≡ true
denied_by [] s u h n = nowhere h
denied_by (t ∷ ts) s u h n = go (either (term_eq s t) (is_among term_eq s ts) h) (denied_by ts s u)
  where
    go : (term_eq s t ≡ true) ⊎ (is_among term_eq s ts ≡ true) → (is_among term_eq s ts ≡ true → negates (shape_of s) u ≡ true → is_denied ts u ≡ true) → (negates (shape_of t) u || is_denied ts u) ≡ true
    go (inl k) later = or_left (negates (shape_of t) u) (is_denied ts u) (subst (λ v. negates (shape_of v) u ≡ true) (term_eq-true s t k) n)
    go (inr k) later = or_right (negates (shape_of t) u) (is_denied ts u) (later k n)

denied_closes : (ts : List Term) (u : Term) (y : Shape Term) → is_bare y ≡ true → is_denied ts u ≡ true → closed_by ts u y ≡ true
denied_closes ts u (constant v) b h = nowhere b
denied_closes ts u (negation a) b h = nowhere b
denied_closes ts u (choice a b c) k h = h
denied_closes ts u (equation a b) k h = h
denied_closes ts u (pair a b) k h = h
denied_closes ts u other k h = h

true_closes : (ts : List Term) (u : Term) (y : Shape Term) → shape_of u ≡ y → is_constant true u ≡ true → closed_by ts u y ≡ true
true_closes ts u (constant v) e h = h
true_closes ts u (choice a b c) e h = nowhere (sym (ap (constant_says true) e) ∙ h)
true_closes ts u (negation a) e h = nowhere (sym (ap (constant_says true) e) ∙ h)
true_closes ts u (equation a b) e h = nowhere (sym (ap (constant_says true) e) ∙ h)
true_closes ts u (pair a b) e h = nowhere (sym (ap (constant_says true) e) ∙ h)
true_closes ts u other e h = nowhere (sym (ap (constant_says true) e) ∙ h)

module _ (ts : List Term) (u : Term) (ps : Each (λ v. is_plain (shape_of v) ≡ true) ts) (p : is_plain (shape_of u) ≡ true) where
  -- one of those before decides: among them, or since the new one is denied
  old_opposed : (s : Term) → is_among term_eq s ts ≡ true → (y : Shape Term) → shape_of s ≡ y → is_opposed (ts ++ u ∷ []) y ≡ true → (holds_by_itself ts ≡ true) ⊎ (closed_by ts u (shape_of u) ≡ true)
  old_opposed s m (negation a) e h = go (among_end a u ts h)
    where
      go : (is_among term_eq a ts ≡ true) ⊎ (term_eq a u ≡ true) → (holds_by_itself ts ≡ true) ⊎ (closed_by ts u (shape_of u) ≡ true)
      go (inl k) = inl (decided_by ts ts s m (or_right (is_constant true s) (is_opposed ts (shape_of s)) (ap (is_opposed ts) e ∙ k)))
      go (inr k) =
          let bare : is_bare (shape_of u) ≡ true = subst (λ v. is_bare (shape_of v) ≡ true) (term_eq-true a u k) (sym (ap is_plain e) ∙ each_among ts s ps m) in
          inr (denied_closes ts u (shape_of u) bare (denied_by ts s u m (ap (λ y. negates y u) e ∙ k)))
  old_opposed s m (constant v) e h = nowhere h
  old_opposed s m (choice a b c) e h = nowhere h
  old_opposed s m (equation a b) e h = nowhere h
  old_opposed s m (pair a b) e h = nowhere h
  old_opposed s m other e h = nowhere h

  -- the new one decides
  new_opposed : (y : Shape Term) → shape_of u ≡ y → is_opposed (ts ++ u ∷ []) y ≡ true → closed_by ts u y ≡ true
  new_opposed (negation a) e h = go (among_end a u ts h)
    where
      bare : is_bare (shape_of a) ≡ true
      bare = sym (ap is_plain e) ∙ p

      both : (b c : Bool) → b ≡ true → c ≡ true → (b && c) ≡ true
      both true true h k = refl
      both true false h k = nowhere k
      both false c h k = nowhere h

      go : (is_among term_eq a ts ≡ true) ⊎ (term_eq a u ≡ true) → closed_by ts u (negation a) ≡ true
      go (inl k) = both (is_bare (shape_of a)) (is_among term_eq a ts) bare k
      go (inr k) =
          let same : shape_of a ≡ negation a = ap shape_of (term_eq-true a u k) ∙ e in
          nowhere (sym (ap is_bare same) ∙ bare)
  new_opposed (constant v) e h = nowhere h
  new_opposed (choice a b c) e h = nowhere h
  new_opposed (equation a b) e h = nowhere h
  new_opposed (pair a b) e h = nowhere h
  new_opposed other e h = nowhere h

  decided_end : (s : Term) → (is_among term_eq s ts ≡ true) ⊎ (term_eq s u ≡ true) → decides (ts ++ u ∷ []) s ≡ true → (holds_by_itself ts ≡ true) ⊎ (closed_by ts u (shape_of u) ≡ true)
  decided_end s (inl m) d = go (either (is_constant true s) (is_opposed (ts ++ u ∷ []) (shape_of s)) d)
    where
      go : (is_constant true s ≡ true) ⊎ (is_opposed (ts ++ u ∷ []) (shape_of s) ≡ true) → (holds_by_itself ts ≡ true) ⊎ (closed_by ts u (shape_of u) ≡ true)
      go (inl k) = inl (decided_by ts ts s m (or_left (is_constant true s) (is_opposed ts (shape_of s)) k))
      go (inr k) = old_opposed s m (shape_of s) refl k
  decided_end s (inr m) d = go (either (is_constant true u) (is_opposed (ts ++ u ∷ []) (shape_of u)) (subst (λ v. decides (ts ++ u ∷ []) v ≡ true) (term_eq-true s u m) d))
    where
      go : (is_constant true u ≡ true) ⊎ (is_opposed (ts ++ u ∷ []) (shape_of u) ≡ true) → (holds_by_itself ts ≡ true) ⊎ (closed_by ts u (shape_of u) ≡ true)
      go (inl k) = inr (true_closes ts u (shape_of u) refl k)
      go (inr k) = inr (new_opposed (shape_of u) refl k)

unclosed_end : (ts : List Term) (u : Term) → Each (λ v. is_plain (shape_of v) ≡ true) ts → holds_by_itself ts ≡ false → is_plain (shape_of u) ≡ true → closed_by ts u (shape_of u) ≡ false → holds_by_itself (ts ++ u ∷ []) ≡ false
unclosed_end ts u ps o p n = go (holds_by_itself (ts ++ u ∷ [])) refl
  where
    neither : (holds_by_itself ts ≡ true) ⊎ (closed_by ts u (shape_of u) ≡ true) → true ≡ false
    neither (inl k) = contrary (holds_by_itself ts) k o
    neither (inr k) = contrary (closed_by ts u (shape_of u)) k n

    go : (b : Bool) → holds_by_itself (ts ++ u ∷ []) ≡ b → b ≡ false
    go false e = refl
    go true e = let (s, among, d) = decider (ts ++ u ∷ []) (ts ++ u ∷ []) e in neither (decided_end ts u ps p s (among_end s u ts among) d)

pub tidy_none : IsTidy []
tidy_none = record { plain = tt; same = refl; unclosed = refl }

tidy_end : (ts : List Term) (u : Term) → IsTidy ts → is_kept ts u ≡ true → closed_by ts u (shape_of u) ≡ false → IsTidy (ts ++ u ∷ [])
tidy_end ts u t k n =
    let q = and_both (is_plain (shape_of u) && not (is_constant false u)) (not (is_among term_eq u ts)) k in
    let r = and_both (is_plain (shape_of u)) (not (is_constant false u)) q.0 in
    record {
      plain = each_append (λ v. is_plain (shape_of v) ≡ true) ts (u ∷ []) t.plain (r.0, tt);
      same = tidied_end ts u t.same r.0 (not_so (is_constant false u) r.1) (not_so (is_among term_eq u ts) q.1);
      unclosed = unclosed_end ts u t.plain t.unclosed r.0 n;
    }

-- the literals up to the next place
take_end : (ts : List Term) (i : ℕ) (t : Term) → i < length ts → t ≡ get_or ts i t → take (i + 1) ts ≡ take i ts ++ t ∷ []
take_end ts i t within at = ap (λ k. take k ts) (add-one i) ∙ go ts i within at
  where
    go : (ts : List Term) (i : ℕ) → i < length ts → t ≡ get_or ts i t → take (suc i) ts ≡ take i ts ++ t ∷ []
    go [] i within at = absurd (omega arith)
    go (u ∷ ts) zero within at = ap (λ v. v ∷ []) (sym at)
    go (u ∷ ts) (suc i) within at = ap (λ us. u ∷ us) (go ts i (omega arith) at)

pub next_tidy : (ts : List Term) (i : ℕ) (t : Term) (b new : Bool) → i < length ts → t ≡ get_or ts i t → (b ≡ true → IsTidy (take i ts)) → closed_by (take i ts) t (shape_of t) ≡ false → new ≡ (b && is_kept (take i ts) t) → new ≡ true → IsTidy (take (i + 1) ts)
next_tidy ts i t b new within at so_far n is h =
    let p = and_both b (is_kept (take i ts) t) (sym is ∙ h) in
    subst IsTidy (sym (take_end ts i t within at)) (tidy_end (take i ts) t (so_far p.0) p.1 n)

pub all_tidy : (ts : List Term) (k : ℕ) (b : Bool) → length ts ≤ k → (b ≡ true → IsTidy (take k ts)) → b ≡ true → IsTidy ts
all_tidy ts k b past so_far h = subst IsTidy (take_all ts k past) (so_far h)

-- a tidy clause is kept
pub kept_made : (c : Clause) → IsTidy c.0 → tidy_goals (tidied c.0) ≡ c ∷ []
kept_made c t = ap tidy_goals t.same ∙ ap (λ b. cond b [] (c ∷ [])) t.unclosed
