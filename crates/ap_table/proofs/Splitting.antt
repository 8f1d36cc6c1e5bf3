-- The first mark of a task's walk tells how many children its step has.
use Rattle.std.proofs.Common.{◌≡◌, ◌≢◌, ℕ, ◌≤◌, ◌<◌, min, List, [], ◌∷◌, ◌++◌, length, Some, None, Bool, true, false, refl, sym, ap, ◌∙◌, arith}
use Rattle.std.specs.List.{slice_get}
use Rattle.ap_list.specs.Lists.{Each}
use Rattle.ap_walk.specs.declared.act.Stepped.{Stepped}
use Rattle.ap_walk.specs.declared.act.Process.{Process}
use Rattle.ap_walk.specs.declared.act.Out.{Out}
use Rattle.ap_walk.specs.declared.rule.Rule.{Rule}
use Rattle.ap_walk.specs.declared.rule.End.{End}
use Rattle.ap_walk.specs.declared.rule.Tally.{Tally}
use Rattle.ap_walk.specs.declared.mark.Walked.{Walked}
use Rattle.ap_walk.specs.Visits.{Visit, Tells, out_children, child_count, reason_number, visit_of}
use Rattle.ap_walk.specs.Tallies.{zero_tally, mark_end, tally_at}
use Rattle.ap_walk.specs.Walks.{continued, one_mark, cut, full, full_marks}
use Rattle.ap_walk.proofs.Trees.{full_is_cut_of_family}
use Rattle.ap_table.specs.Settled.{split_count}
use Rattle.ap_table.proofs.Keeping.{some_is}

pub not_both : (b : Bool) → b ≡ false → b ≡ true → ⊥
not_both true f t = cc
not_both false f t = cc

-- what has two children or more is a split
pub split_only : {T : Type 0} (o : Out T) → 2 ≤ length (out_children o) → ((cs : List T) → o ≡ Out.Split cs → ⊥) → ⊥
split_only (Out.Split cs) two other = other cs refl
split_only Out.Push two other = let z : 2 ≤ 0 = two in omega arith
split_only (Out.Stop r) two other = let z : 2 ≤ 0 = two in omega arith

split_kept : (p : Process) (n : ℕ) → p ≢ Process.Push → p ≢ Process.Stop → split_count p n ≡ n
split_kept Process.Push n d e = absurd (d refl)
split_kept Process.Stop n d e = absurd (e refl)
split_kept Process.Hint n d e = refl
split_kept Process.Simplify n d e = refl
split_kept Process.Elim n d e = refl
split_kept Process.Fertilize n d e = refl
split_kept Process.Generalize n d e = refl
split_kept Process.Irrelevance n d e = refl
split_kept Process.Induct n d e = refl

count_is : {T : Type 0} (p : Process) (o : Out T) → Tells p o → split_count p (child_count o) ≡ min (length (out_children o)) 4294967295
count_is p (Out.Split cs) t = split_kept p (min (length cs) 4294967295) t.0 t.1
count_is p Out.Push t = ap (λ q. split_count q 0) t
count_is p (Out.Stop r) t = ap (λ q. split_count q (reason_number r)) t

first_of : {T : Type 0} (e : End) (m : Visit T) (w : Walked T) (ms : List (Visit T)) (next : Tally → Walked T) → w.marks ≡ m ∷ ms → slice_get (continued e w next).marks 0 ≡ Some m
first_of End.Through m w ms next is = ap (λ l. slice_get (l ++ (next w.tally).marks) 0) is
first_of End.Revert m w ms next is = ap (λ l. slice_get l 0) is
first_of End.Limit m w ms next is = ap (λ l. slice_get l 0) is
first_of (End.Stopped r) m w ms next is = ap (λ l. slice_get l 0) is

module _ {T : Type 0} (step : T → Stepped T) (depth : T → ℕ) (tells : (t : T) → Tells (step t).act.process (step t).out) (deeper : (t : T) → Each (λ c. depth c < depth t) (out_children (step t).out)) where
  pub first_mark : (rule : Rule) (t : T) (w : Walked T) → w ≡ full step depth rule t → slice_get w.marks 0 ≡ Some (visit_of t (step t))
  unfolding cut
  first_mark rule t w e =
      let v = visit_of t (step t) in
      ap (λ (x : Walked T). slice_get x.marks 0) (e ∙ full_is_cut_of_family step depth tells rule deeper t)
      ∙ first_of (mark_end rule v (tally_at v zero_tally)) v (one_mark rule zero_tally v) [] (λ u. cut rule u (full_marks step depth rule (out_children (step t).out))) refl

  pub told_count : (rule : Rule) (t : T) (w : Walked T) (m : Visit T) → w ≡ full step depth rule t → Some m ≡ slice_get w.marks 0 → split_count m.act.process m.children ≡ min (length (out_children (step t).out)) 4294967295
  told_count rule t w m e at =
      ap (λ (v : Visit T). split_count v.act.process v.children) (some_is m (visit_of t (step t)) (at ∙ first_mark rule t w e)) ∙ count_is (step t).act.process (step t).out (tells t)

  pub no_mark_none : (rule : Rule) (t : T) (w : Walked T) → w ≡ full step depth rule t → None ≡ slice_get w.marks 0 → ⊥
  no_mark_none rule t w e at = (let x = at ∙ first_mark rule t w e in cc)

module _ {T : Type 0} (step : T → Stepped T) where
  -- an expanded node's own mark
  pub own_is : (t x : T) (stepped : Stepped T) (cs : List T) (count : ℕ) → stepped ≡ step t → t ≡ x → stepped.out ≡ Out.Split cs → count ≡ length cs → length cs ≤ 1000000 → Some (let v : Visit T = record { task = t; act = stepped.act; children = count } in v) ≡ Some (visit_of x (step x))
  own_is t x stepped cs count is same split long few =
      let least : count ≡ min (length cs) 4294967295 = omega arith in
      let own : count ≡ child_count stepped.out = least ∙ sym (ap child_count split) in
      ap (λ (n : ℕ). Some (let v : Visit T = record { task = t; act = stepped.act; children = n } in v)) own
      ∙ (ap (λ (s : Stepped T). Some (visit_of t s)) is ∙ ap (λ (y : T). Some (visit_of y (step y))) same)
