-- The best of some candidates is the first of those with the highest score.
use Rattle.std.proofs.Common.{◌≡◌, ◌<◌, ◌≤◌, ◌↔◌, nat_le, Bool, true, false, cond, List, [], ◌∷◌, ◌++◌, length, Option, Some, None, refl, ap, sym, ◌∙◌, subst, arith}
use Rattle.std.proofs.lemmas.Bool.{leb-true, leb-false, le-leb, lt-leb}
use Rattle.std.specs.Option.{option_map}
use Rattle.ap_list.specs.Lists.{Each}
use Rattle.ap_value.specs.declared.symbol.Symbol.{Symbol}
use Rattle.ap_term.specs.declared.term.Term.{Term}
use Rattle.ap_induct.specs.Choosing.{candidates, score, better, best, best_call, looked_at, chosen}
use Rattle.ap_induct.specs.Laws.{IsFirstBest, FirstOfTheBest, NoneIsLeft}

abbrev Candidate : Type 0
Candidate = Term × List Symbol

module _ (qs : List Candidate) where
  abbrev AtMost : Candidate → Candidate → Type 0
  AtMost p q = score qs q.1 ≤ score qs p.1

  abbrev Below : Candidate → Candidate → Type 0
  Below p q = score qs q.1 < score qs p.1

  record Parts (ps : List Candidate) (p : Candidate) : Type 0 where
    front : List Candidate
    back : List Candidate
    stands : ps ≡ front ++ p ∷ back
    before : Each (Below p) front
    behind : Each (AtMost p) back

  none_left : (ps : List Candidate) → best qs ps ≡ None → ps ≡ []
  none_left [] h = refl
  none_left (p ∷ ps) h = absurd (go (best qs ps) h)
    where
      pick : (q : Candidate) (b : Bool) → cond b (Some p) (Some q) ≡ None → ⊥
      pick q true k = cc
      pick q false k = cc

      go : (o : Option Candidate) → better qs p o ≡ None → ⊥
      go None k = cc
      go (Some q) k = pick q (nat_le (score qs q.1) (score qs p.1)) k

  lower : (p q : Candidate) (ps : List Candidate) → score qs q.1 ≤ score qs p.1 → Each (AtMost q) ps → Each (AtMost p) ps
  lower p q [] l es = tt
  lower p q (r ∷ rs) l es = let h = es.0 in (omega arith, lower p q rs l es.1)

  closer : (p q : Candidate) (ps : List Candidate) → Each (Below q) ps → Each (AtMost q) ps
  closer p q [] es = tt
  closer p q (r ∷ rs) es = let h = es.0 in (omega arith, closer p q rs es.1)

  joined : (p : Candidate) (xs ys : List Candidate) → Each (AtMost p) xs → Each (AtMost p) ys → Each (AtMost p) (xs ++ ys)
  joined p [] ys h k = k
  joined p (x ∷ xs) ys h k = (h.0, joined p xs ys h.1 k)

  -- all that a best one stands among score at most as much
  all_at_most : (q : Candidate) (ps : List Candidate) → Parts ps q → Each (AtMost q) ps
  all_at_most q ps parts =
      subst (Each (AtMost q)) (sym parts.stands)
      (joined q parts.front (q ∷ parts.back) (closer q q parts.front parts.before) (let h : score qs q.1 ≤ score qs q.1 = omega arith in (h, parts.behind)))

  best_parts : (ps : List Candidate) (p : Candidate) → best qs ps ≡ Some p → Parts ps p
  best_parts [] p h = cc
  best_parts (x ∷ xs) p h = go (best qs xs) refl (best_parts xs) h
    where
      this : Each (AtMost x) xs → Some x ≡ Some p → Parts (x ∷ xs) p
      this es k =
          let same : x ≡ p = cc in
          subst (Parts (x ∷ xs)) same (record { front = []; back = xs; stands = refl; before = tt; behind = es })

      pick : (q : Candidate) → Parts xs q → (b : Bool) → nat_le (score qs q.1) (score qs x.1) ≡ b → cond b (Some x) (Some q) ≡ Some p → Parts (x ∷ xs) p
      pick q parts true e k = this (lower x q xs (leb-true (score qs q.1) (score qs x.1) e) (all_at_most q xs parts)) k
      pick q parts false e k =
          let same : q ≡ p = cc in
          subst (Parts (x ∷ xs)) same (record {
            front = x ∷ parts.front;
            back = parts.back;
            stands = ap (λ ys. x ∷ ys) parts.stands;
            before = (leb-false (score qs q.1) (score qs x.1) e, parts.before);
            behind = parts.behind;
          })

      go : (o : Option Candidate) → best qs xs ≡ o → ((q : Candidate) → best qs xs ≡ Some q → Parts xs q) → better qs x o ≡ Some p → Parts (x ∷ xs) p
      go None e rest k = this (subst (Each (AtMost x)) (sym (none_left xs e)) tt) k
      go (Some q) e rest k = pick q (rest q e) (nat_le (score qs q.1) (score qs x.1)) refl k

  -- what holds of each holds of the best
  best_holds : (P : Candidate → Type 0) (ps : List Candidate) (q : Candidate) → Each P ps → best qs ps ≡ Some q → P q
  best_holds P [] q es h = cc
  best_holds P (x ∷ xs) q es h = go (best qs xs) (best_holds P xs q es.1) h
    where
      this : Some x ≡ Some q → P q
      this k = let same : x ≡ q = cc in subst P same es.0

      pick : (r : Candidate) → (Some r ≡ Some q → P q) → (b : Bool) → cond b (Some x) (Some r) ≡ Some q → P q
      pick r later true k = this k
      pick r later false k = later k

      go : (o : Option Candidate) → (o ≡ Some q → P q) → better qs x o ≡ Some q → P q
      go None later k = this k
      go (Some r) later k = pick r later (nat_le (score qs r.1) (score qs x.1)) k

  parts_best : (front : List Candidate) (p : Candidate) (back : List Candidate) → Each (Below p) front → Each (AtMost p) back → best qs (front ++ p ∷ back) ≡ Some p
  parts_best [] p back es ls = go (best qs back) (λ q e. best_holds (AtMost p) back q ls e)
    where
      go : (o : Option Candidate) → ((q : Candidate) → o ≡ Some q → AtMost p q) → better qs p o ≡ Some p
      go None low = refl
      go (Some q) low = ap (λ b. cond b (Some p) (Some q)) (le-leb (score qs q.1) (score qs p.1) (low q refl))
  parts_best (x ∷ xs) p back es ls =
      ap (better qs x) (parts_best xs p back es.1 ls) ∙ ap (λ b. cond b (Some x) (Some p)) (lt-leb (score qs p.1) (score qs x.1) es.0)

  call_best : (u : Term) → best_call qs ≡ Some u → IsFirstBest qs u
  call_best u h = go (best qs qs) refl h
    where
      go : (o : Option Candidate) → best qs qs ≡ o → option_map (λ (q : Candidate). q.0) o ≡ Some u → IsFirstBest qs u
      go None e k = cc
      go (Some q) e k =
          let same : q.0 ≡ u = cc in
          let parts = best_parts qs q e in
          subst (IsFirstBest qs) same (record {
            names = q.1;
            front = parts.front;
            back = parts.back;
            stands = parts.stands;
            before = parts.before;
            behind = parts.behind;
          })

  best_call_is : (u : Term) → IsFirstBest qs u → best_call qs ≡ Some u
  best_call_is u b =
      ap (option_map (λ (q : Candidate). q.0)) (ap (best qs) b.stands ∙ parts_best b.front (u, b.names) b.back b.before b.behind)

  no_call : best_call qs ≡ None → qs ≡ []
  no_call h = go (best qs qs) refl h
    where
      go : (o : Option Candidate) → best qs qs ≡ o → option_map (λ (q : Candidate). q.0) o ≡ None → qs ≡ []
      go None e k = none_left qs e
      go (Some q) e k = cc

  no_call_of : qs ≡ [] → best_call qs ≡ None
  no_call_of h = ap (λ ps. option_map (λ (q : Candidate). q.0) (best qs ps)) h

pub first_of_the_best : FirstOfTheBest
first_of_the_best D h ts o u =
    let qs = candidates D h (length ts) (looked_at ts o) in
    (call_best qs u, best_call_is qs u)

pub none_is_left : NoneIsLeft
none_is_left D h ts o =
    let qs = candidates D h (length ts) (looked_at ts o) in
    (no_call qs, no_call_of qs)
