-- The lines of an attempt: one or two for each mark of its walks, and its checkpoints.
use Rattle.std.specs.Prelude.{ℕ, ◌+◌, Bool, true, false, cond, ◌&&◌, not, nat_eq, List, [], ◌∷◌, ◌++◌, map, codes, decimal, Option, Some, None}
use Rattle.ap_names.specs.Names.{Name, pushed_of}
use Rattle.ap_names.specs.Printed.{name_text}
use Rattle.ap_term.specs.declared.term.Term.{Term}
use Rattle.ap_term.specs.Printed.{clause_text, term_text}
use Rattle.ap_walk.specs.declared.act.Process.{Process}
use Rattle.ap_walk.specs.declared.rule.End.{End}
use Rattle.ap_walk.specs.declared.mark.Walked.{Walked}
use Rattle.ap_walk.specs.Visits.{Visit}
use Rattle.ap_walk.specs.Tallies.{is_push}
use Rattle.ap_induct.specs.Choosing.{chosen}
use Rattle.ap_strategy.specs.Goals.{Goal, defs_of}
use Rattle.ap_stated.specs.Texts.{line}

-- why a walk stopped, by the number that the mark has
unfoldable pub stop_text : ℕ → List ℕ
stop_text n =
    cond (nat_eq n 1) (codes "noscheme") (cond (nat_eq n 2) (codes "empty") (cond (nat_eq n 4) (codes "deep") (codes "toodeep")))

-- a process and its number of children
abbrev pub counted_text : List ℕ → ℕ → List ℕ
counted_text word n = word ++ decimal n

-- the name that the k-th push of a walk gets
abbrev pub push_text : Name → ℕ → List ℕ
push_text name k = codes "push " ++ name_text (pushed_of name k)

-- the call that an induction goes by
abbrev pub call_text : Option Term → List ℕ
call_text None = []
call_text (Some u) = codes " " ++ term_text u

-- the number of cases of a goal's induction, and the call that it goes by
abbrev pub induct_text : Goal → ℕ → List ℕ
induct_text g n = counted_text (codes "induct ") n ++ call_text (chosen (defs_of g.plan) g.settings.theory g.clause.0 g.scheme)

-- what a process did to a goal: its number of children, the name that the k-th push gets, or why the walk stopped
unfoldable pub process_text : Goal → ℕ → Process → ℕ → List ℕ
process_text g k Process.Hint n = counted_text (codes "hint ") n
process_text g k Process.Simplify n = counted_text (codes "simplify ") n
process_text g k Process.Elim n = counted_text (codes "elim ") n
process_text g k Process.Fertilize n = counted_text (codes "fertilize ") n
process_text g k Process.Generalize n = counted_text (codes "generalize ") n
process_text g k Process.Irrelevance n = counted_text (codes "irrelevance ") n
process_text g k Process.Induct n = induct_text g n
process_text g k Process.Push n = push_text g.name k
process_text g k Process.Stop n = stop_text n

-- a goal's line, and before it one where simplification ran out of steps
unfoldable pub limited_text : Name → Bool → List ℕ
limited_text name false = []
limited_text name true = name_text name ++ line (codes " steplimit")

abbrev pub mark_text : ℕ → Visit Goal → List ℕ
mark_text k m =
    limited_text m.task.name m.act.limited
    ++ name_text m.task.name ++ codes " " ++ line (process_text m.task k m.act.process m.children)

-- the number of the next push, after this mark
abbrev pub next_push : ℕ → Visit Goal → ℕ
next_push k m = cond (is_push m.act.process) (k + 1) k

-- the lines of a walk's marks, the first push being the k-th
abbrev pub marks_text : ℕ → List (Visit Goal) → List ℕ
marks_text k [] = []
marks_text k (m ∷ ms) = mark_text k m ++ marks_text (next_push k m) ms

-- a line where the walk reverted, which it does where its pushes are the revert count, or came to the limit on goals
unfoldable pub end_text : ℕ → End → List ℕ
end_text pushes End.Through = []
end_text pushes End.Revert = line (counted_text (codes "Revert ") pushes)
end_text pushes End.Limit = line (codes "Goal limit")
end_text pushes (End.Stopped r) = []

abbrev pub walk_text : Walked Goal → List ℕ
walk_text w = marks_text 1 w.marks ++ end_text w.tally.pushes w.end

abbrev pub walks_text : List (Walked Goal) → List ℕ
walks_text [] = []
walks_text (w ∷ ws) = walk_text w ++ walks_text ws

-- a checkpoint is the first goal on a path that simplification left as it was
abbrev pub is_checkpoint : Visit Goal → Bool
is_checkpoint m = m.act.missed && not m.task.under

abbrev pub checkpoint_text : Visit Goal → List ℕ
checkpoint_text m = cond (is_checkpoint m) (name_text m.task.name ++ codes ": " ++ line (clause_text (map term_text m.task.clause.0))) []

abbrev pub checkpoints_of : List (Visit Goal) → List ℕ
checkpoints_of [] = []
checkpoints_of (m ∷ ms) = checkpoint_text m ++ checkpoints_of ms

abbrev pub checkpoints_in : List (Walked Goal) → List ℕ
checkpoints_in [] = []
checkpoints_in (w ∷ ws) = checkpoints_of w.marks ++ checkpoints_in ws

-- a heading, which is left out where nothing stands below it
abbrev pub headed : List ℕ → List ℕ → List ℕ
headed heading [] = []
headed heading (b ∷ bs) = line heading ++ b ∷ bs

-- those of the first walk, and those of the inductions
unfoldable pub checkpoints_text : List (Walked Goal) → List ℕ
checkpoints_text [] = []
checkpoints_text (w ∷ ws) =
    headed (codes "Checkpoints before induction") (checkpoints_of w.marks)
    ++ headed (codes "Checkpoints under induction") (checkpoints_in ws)
