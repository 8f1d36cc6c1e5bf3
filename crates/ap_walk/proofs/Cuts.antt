-- The laws of `and_then`, and the cut law: cutting twice is cutting once.
use Rattle.std.proofs.Common.{◌≡◌, List, [], ◌∷◌, ◌++◌, length, take, append_assoc, append-nil, refl, sym, ◌∙◌, ap}
use Rattle.ap_walk.specs.declared.rule.Tally.{Tally}
use Rattle.ap_walk.specs.declared.rule.Rule.{Rule}
use Rattle.ap_walk.specs.declared.rule.End.{End}
use Rattle.ap_walk.specs.declared.mark.Walked.{Walked}
use Rattle.ap_walk.specs.Visits.{Visit}
use Rattle.ap_walk.specs.Tallies.{AtMost, tally_at, mark_end}
use Rattle.ap_walk.specs.Walks.{nothing, before, and_then, one_mark, cut}
use Rattle.ap_walk.proofs.Ends.{at_most_at, earlier_mark}

module _ {T : Type 0} where
  -- a walk by its three parts
  abbrev walked : List (Visit T) → Tally → End → Walked T
  walked ms t e = record { marks = ms; tally = t; end = e }

  and_then_before_at : (ms xs : List (Visit T)) (t : Tally) (e : End) (g : Tally → Walked T) → and_then (before ms (walked xs t e)) g ≡ before ms (and_then (walked xs t e) g)
  and_then_before_at ms xs t End.Through g = ap (λ l. walked l (g t).tally (g t).end) (append_assoc ms xs (g t).marks)
  and_then_before_at ms xs t End.Revert g = refl
  and_then_before_at ms xs t End.Limit g = refl
  and_then_before_at ms xs t (End.Stopped r) g = refl

  -- marks that stand before a walk stay before what follows it
  pub and_then_before : (ms : List (Visit T)) (w : Walked T) (g : Tally → Walked T) → and_then (before ms w) g ≡ before ms (and_then w g)
  and_then_before ms w g = and_then_before_at ms w.marks w.tally w.end g

  and_then_assoc_at : (ms : List (Visit T)) (t : Tally) (e : End) (f g : Tally → Walked T) → and_then (and_then (walked ms t e) f) g ≡ and_then (walked ms t e) (λ u. and_then (f u) g)
  and_then_assoc_at ms t End.Through f g = and_then_before ms (f t) g
  and_then_assoc_at ms t End.Revert f g = refl
  and_then_assoc_at ms t End.Limit f g = refl
  and_then_assoc_at ms t (End.Stopped r) f g = refl

  pub and_then_assoc : (w : Walked T) (f g : Tally → Walked T) → and_then (and_then w f) g ≡ and_then w (λ u. and_then (f u) g)
  and_then_assoc w f g = and_then_assoc_at w.marks w.tally w.end f g

  and_then_same_at : (ms : List (Visit T)) (t : Tally) (e : End) (f g : Tally → Walked T) → (e ≡ End.Through → f t ≡ g t) → and_then (walked ms t e) f ≡ and_then (walked ms t e) g
  and_then_same_at ms t End.Through f g h = ap (before ms) (h refl)
  and_then_same_at ms t End.Revert f g h = refl
  and_then_same_at ms t End.Limit f g h = refl
  and_then_same_at ms t (End.Stopped r) f g h = refl

  -- what follows a walk counts only from the tally that it left, and only where it goes through
  pub and_then_same : (w : Walked T) (f g : Tally → Walked T) → (w.end ≡ End.Through → f w.tally ≡ g w.tally) → and_then w f ≡ and_then w g
  and_then_same w f g h = and_then_same_at w.marks w.tally w.end f g h

  and_then_nothing_at : (ms : List (Visit T)) (t : Tally) (e : End) → and_then (walked ms t e) nothing ≡ walked ms t e
  and_then_nothing_at ms t End.Through = ap (λ l. walked l t End.Through) (append-nil ms)
  and_then_nothing_at ms t End.Revert = refl
  and_then_nothing_at ms t End.Limit = refl
  and_then_nothing_at ms t (End.Stopped r) = refl

  pub and_then_nothing : (w : Walked T) → and_then w nothing ≡ w
  and_then_nothing w = and_then_nothing_at w.marks w.tally w.end

module _ {T : Type 0} (rule : Rule) where
  -- the cut of joined marks is the cut of the first, and then of the others
  pub cut_append : (t : Tally) (xs ys : List (Visit T)) → cut rule t (xs ++ ys) ≡ and_then (cut rule t xs) (λ u. cut rule u ys)
  unfolding cut
  cut_append t [] ys = refl
  cut_append t (x ∷ xs) ys =
      and_then_same (one_mark rule t x) (λ u. cut rule u (xs ++ ys)) (λ u. and_then (cut rule u xs) (λ v. cut rule v ys))
      (λ _. cut_append (tally_at x t) xs ys)
      ∙ sym (and_then_assoc (one_mark rule t x) (λ u. cut rule u xs) (λ v. cut rule v ys))

  -- the cut from the later tally of what the cut from the earlier one keeps, by how the first mark ends there
  kept_at : (z t : Tally) (x : Visit T) (xs : List (Visit T)) (ez : End)
      → (mark_end rule x (tally_at x t) ≡ End.Through → ez ≡ End.Through)
      → cut rule (tally_at x t) (cut rule (tally_at x z) xs).marks ≡ cut rule (tally_at x t) xs
      → cut rule t (and_then (walked (x ∷ []) (tally_at x z) ez) (λ u. cut rule u xs)).marks ≡ cut rule t (x ∷ xs)
  unfolding cut
  kept_at z t x xs End.Through earlier h = and_then_same (one_mark rule t x) _ _ (λ _. h)
  kept_at z t x xs End.Revert earlier h = and_then_same (one_mark rule t x) _ _ (λ e. absurd (let ends = earlier e in cc))
  kept_at z t x xs End.Limit earlier h = and_then_same (one_mark rule t x) _ _ (λ e. absurd (let ends = earlier e in cc))
  kept_at z t x xs (End.Stopped r) earlier h = and_then_same (one_mark rule t x) _ _ (λ e. absurd (let ends = earlier e in cc))

  -- a cut from a tally may be made of what a cut from an earlier one keeps
  pub cut_again : (z t : Tally) (xs : List (Visit T)) → AtMost z t → cut rule t (cut rule z xs).marks ≡ cut rule t xs
  unfolding cut
  cut_again z t [] m = refl
  cut_again z t (x ∷ xs) m =
      kept_at z t x xs (mark_end rule x (tally_at x z)) (earlier_mark rule x z t m)
      (cut_again (tally_at x z) (tally_at x t) xs (at_most_at rule x z t m))

  pub cut_cut : (z t : Tally) (xs ys : List (Visit T)) → AtMost z t → cut rule t ((cut rule z xs).marks ++ ys) ≡ cut rule t (xs ++ ys)
  cut_cut z t xs ys m =
      cut_append t (cut rule z xs).marks ys
      ∙ ap (λ w. and_then w (λ u. cut rule u ys)) (cut_again z t xs m)
      ∙ sym (cut_append t xs ys)

  takes_at : (x : Visit T) (xs : List (Visit T)) (t : Tally) (e : End) (f : Tally → Walked T) → (f t).marks ≡ take (length (f t).marks) xs
      → (and_then (walked (x ∷ []) t e) f).marks ≡ take (length (and_then (walked (x ∷ []) t e) f).marks) (x ∷ xs)
  takes_at x xs t End.Through f h = ap (λ l. x ∷ l) h
  takes_at x xs t End.Revert f h = refl
  takes_at x xs t End.Limit f h = refl
  takes_at x xs t (End.Stopped r) f h = refl

  -- a cut is a prefix
  pub cut_takes : (t : Tally) (xs : List (Visit T)) → (cut rule t xs).marks ≡ take (length (cut rule t xs).marks) xs
  unfolding cut
  cut_takes t [] = refl
  cut_takes t (x ∷ xs) =
      let u = tally_at x t in
      takes_at x xs u (mark_end rule x u) (λ v. cut rule v xs) (cut_takes u xs)
