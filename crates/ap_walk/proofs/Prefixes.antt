-- A cut, part of whose marks have been counted.
use Rattle.std.proofs.Common.{◌≡◌, ◌≢◌, ℕ, suc, ◌+◌, ◌<◌, ◌≤◌, List, [], ◌∷◌, ◌++◌, length, get_or, take, drop, append_assoc, append-nil, drop-cons, add-one, sym, ◌∙◌, ap}
use Rattle.std.proofs.Math.Seq.{take-length}
use Rattle.std.proofs.Math.ListN.{drop_of_length-le}
use Rattle.std.proofs.lemmas.List.{take_more, take_all}
use Rattle.ap_walk.specs.declared.rule.Tally.{Tally}
use Rattle.ap_walk.specs.declared.rule.Rule.{Rule}
use Rattle.ap_walk.specs.declared.rule.End.{End}
use Rattle.ap_walk.specs.declared.mark.Walked.{Walked}
use Rattle.ap_walk.specs.Visits.{Visit}
use Rattle.ap_walk.specs.Tallies.{tally_at, mark_end}
use Rattle.ap_walk.specs.Walks.{before, one_mark, cut}
use Rattle.ap_walk.proofs.GoOn.{through, ended}

module _ {T : Type 0} (rule : Rule) where
  before_before : (xs ys : List (Visit T)) (w : Walked T) → before xs (before ys w) ≡ before (xs ++ ys) w
  before_before xs ys w = ap (λ l. record { marks = l; tally = w.tally; end = w.end }) (sym (append_assoc xs ys w.marks))

  one_more : (t : Tally) (xs ys : List (Visit T)) (m : Visit T) → mark_end rule m (tally_at m t) ≡ End.Through
      → before xs (cut rule t (m ∷ ys)) ≡ before (xs ++ m ∷ []) (cut rule (tally_at m t) ys)
  unfolding cut
  one_more t xs ys m h =
      ap (before xs) (through (one_mark rule t m) (λ u. cut rule u ys) h)
      ∙ before_before xs (m ∷ []) (cut rule (tally_at m t) ys)

  last_one : (t : Tally) (xs ys : List (Visit T)) (m : Visit T) → mark_end rule m (tally_at m t) ≢ End.Through
      → before xs (cut rule t (m ∷ ys)) ≡ record { marks = xs ++ m ∷ []; tally = tally_at m t; end = mark_end rule m (tally_at m t) }
  unfolding cut
  last_one t xs ys m h = ap (before xs) (ended (one_mark rule t m) (λ u. cut rule u ys) h)

  module _ (start t : Tally) (marks : List (Visit T)) (place : ℕ) (m : Visit T) (within : place < length marks) (is : m ≡ get_or marks place m)
      (so_far : cut rule start marks ≡ before (take place marks) (cut rule t (drop place marks))) (next : Tally) (e : End)
      (counted : next ≡ tally_at m t) (ends : e ≡ mark_end rule m next) where
    at_place : cut rule start marks ≡ before (take place marks) (cut rule t (m ∷ drop (place + 1) marks))
    at_place =
        so_far
        ∙ ap (λ l. before (take place marks) (cut rule t l))
        (drop-cons marks place m within ∙ ap (λ x. x ∷ drop (suc place) marks) (sym is) ∙ ap (λ n. m ∷ drop n marks) (sym (add-one place)))

    taken : take (place + 1) marks ≡ take place marks ++ m ∷ []
    taken = take_more marks place m within ∙ ap (λ x. take place marks ++ x ∷ []) (sym is)

    ends_there : e ≡ mark_end rule m (tally_at m t)
    ends_there = ends ∙ ap (mark_end rule m) counted

    -- a mark at which the walk goes through is counted
    pub mark_passed : e ≡ End.Through → cut rule start marks ≡ before (take (place + 1) marks) (cut rule next (drop (place + 1) marks))
    mark_passed h =
        at_place
        ∙ one_more t (take place marks) (drop (place + 1) marks) m (sym ends_there ∙ h)
        ∙ ap (λ l. before l (cut rule (tally_at m t) (drop (place + 1) marks))) (sym taken)
        ∙ ap (λ u. before (take (place + 1) marks) (cut rule u (drop (place + 1) marks))) (sym counted)

    -- at the first other mark the cut ends
    pub mark_stops : e ≢ End.Through → cut rule start marks ≡ record { marks = take (place + 1) marks; tally = next; end = e }
    mark_stops other =
        at_place
        ∙ last_one t (take place marks) (drop (place + 1) marks) m (λ h. other (ends_there ∙ h))
        ∙ ap (λ l. record { marks = l; tally = tally_at m t; end = mark_end rule m (tally_at m t) }) (sym taken)
        ∙ ap (λ u. record { marks = take (place + 1) marks; tally = u; end = mark_end rule m u }) (sym counted)
        ∙ ap (λ x. record { marks = take (place + 1) marks; tally = next; end = x }) (sym ends)

  -- where no mark ends it the cut keeps them all
  pub all_passed : (start t : Tally) (marks : List (Visit T)) (place : ℕ) → length marks ≤ place
      → cut rule start marks ≡ before (take place marks) (cut rule t (drop place marks))
      → cut rule start marks ≡ record { marks = take (length marks) marks; tally = t; end = End.Through }
  unfolding cut
  all_passed start t marks place past so_far =
      so_far
      ∙ ap (λ l. before (take place marks) (cut rule t l)) (drop_of_length-le marks past)
      ∙ ap (λ l. record { marks = l; tally = t; end = End.Through })
      (append-nil (take place marks) ∙ take_all place marks past ∙ sym (take-length marks))
