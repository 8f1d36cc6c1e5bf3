-- What a table's notes tell of the tree below its root.
use Rattle.std.proofs.Common.{◌≡◌, ℕ, ◌<◌, List, [], ◌∷◌, ◌++◌, Option, Some, None, refl, sym, ap, subst, ◌∙◌, inl, inr}
use Rattle.std.specs.List.{slice_get}
use Rattle.ap_list.specs.Lists.{Each, AnyOf}
use Rattle.ap_names.specs.Names.{Name}
use Rattle.ap_walk.specs.declared.act.Stepped.{Stepped}
use Rattle.ap_walk.specs.declared.rule.Rule.{Rule}
use Rattle.ap_walk.specs.declared.mark.Walked.{Walked}
use Rattle.ap_walk.specs.Visits.{Tells, out_children}
use Rattle.ap_table.specs.declared.link.Link.{Link}
use Rattle.ap_table.specs.declared.link.License.{License}
use Rattle.ap_table.specs.declared.link.DropNote.{DropNote}
use Rattle.ap_table.specs.declared.stored.Entry.{Entry}
use Rattle.ap_table.specs.declared.stored.Entry.TheVariants as entry
use Rattle.ap_table.specs.Core.{Node, Stops}
use Rattle.ap_table.specs.Sound.{Names, Up, Sound}
use Rattle.ap_table.specs.Shown.{Run, turns, nodes_of}
use Rattle.ap_table.specs.Ended.{AreNotes, IsLicensedNote}
use Rattle.ap_table.specs.Locked.{WasAllowed}
use Rattle.ap_table.proofs.Keeping.{some_is}
use Rattle.ap_table.proofs.After.{after_sound}
use Rattle.ap_attempt.specs.Drops.{where_some, task_at, IsLicensed}
use Rattle.ap_attempt.proofs.Topping.{top_is_root}

-- notes of which each is such a one
pub each_note : (one : ℕ → License → DropNote → Type 0) (P : DropNote → Type 0) (es : List Entry) (ds : List DropNote) → ((k : ℕ) (l : License) (d : DropNote) → one k l d → P d) → AreNotes one es ds → Each P ds
each_note one P [] [] is notes = tt
each_note one P [] (d ∷ ds) is notes = absurd notes
each_note one P (entry.Dropped k l ∷ es) [] is notes = absurd notes
each_note one P (entry.Dropped k l ∷ es) (d ∷ ds) is notes = (is k l d notes.0, each_note one P es ds is notes.1)
each_note one P (entry.Claimed k ∷ es) ds is notes = each_note one P es ds is notes
each_note one P (entry.Expanded k ∷ es) ds is notes = each_note one P es ds is notes
each_note one P (entry.Put k ∷ es) ds is notes = each_note one P es ds is notes
each_note one P (entry.Marked f i ∷ es) ds is notes = each_note one P es ds is notes

module _ {T : Type 0} (step : T → Stepped T) where
  at_next : (o : Option T) (x : T) (f : T → Option T) → o ≡ Some x → where_some o f ≡ f x
  at_next o x f is = ap (λ p. where_some p f) is

  at_some : (o : Option T) (f g : T → Option T) → ((x : T) → f x ≡ g x) → where_some o f ≡ where_some o g
  at_some None f g same = refl
  at_some (Some x) f g same = same x

  at_twice : (o : Option T) (f g : T → Option T) → where_some (where_some o f) g ≡ where_some o (λ x. where_some (f x) g)
  at_twice None f g = refl
  at_twice (Some x) f g = refl

  -- places one below the other, and then more
  at_more : (t : T) (xs ys : List ℕ) → task_at step t (xs ++ ys) ≡ where_some (task_at step t xs) (λ u. task_at step u ys)
  unfolding task_at
  at_more t [] ys = refl
  at_more t (x ∷ xs) ys =
      at_some (slice_get (out_children (step t).out) x) (λ c. task_at step c (xs ++ ys)) (λ c. where_some (task_at step c xs) (λ u. task_at step u ys)) (λ c. at_more c xs ys)
      ∙ sym (at_twice (slice_get (out_children (step t).out) x) (λ c. task_at step c xs) (λ u. task_at step u ys))

  at_child : (t c : T) (x : ℕ) → slice_get (out_children (step t).out) x ≡ Some c → task_at step t (x ∷ []) ≡ Some c
  unfolding task_at
  at_child t c x is = at_next (slice_get (out_children (step t).out) x) c (λ u. Some u) is

  -- one place more
  at_below : (t u c : T) (xs : List ℕ) (x : ℕ) → task_at step t xs ≡ Some u → slice_get (out_children (step u).out) x ≡ Some c → task_at step t (xs ++ x ∷ []) ≡ Some c
  at_below t u c xs x is child = at_more t xs (x ∷ []) ∙ at_next (task_at step t xs) u (λ v. task_at step v (x ∷ [])) is ∙ at_child u c x child

-- the places of a path, from the root on
abbrev places : List Link → List ℕ
places [] = []
places (l ∷ ls) = places ls ++ l.place ∷ []

module _ {T : Type 0} (step : T → Stepped T) (depth : T → ℕ) (rule : Rule) (ns : List (Node T)) (sound : Sound step depth rule ns) where
  -- the node's path leads to it from the root
  from_root : (t : T) (path : List Link) (k : ℕ) (n : Node T) → ((j : ℕ) (m : Node T) → slice_get ns j ≡ Some m → m.path ≡ [] → m.task ≡ t)
      → slice_get ns k ≡ Some n → n.path ≡ path → task_at step t (places path) ≡ Some n.task
  unfolding task_at
  from_root t [] k n top at is = ap Some (sym (top k n at is))
  from_root t (l ∷ ls) k n top at is =
      let u : Up step depth rule ns (l ∷ ls) n.task = subst (λ (p : List Link). Up step depth rule ns p n.task) is (sound k n at).up in
      at_below step t u.0.task n.task (places ls) l.place (from_root t ls l.family u.0 top u.1 u.2) u.3

  -- a node below a family that a licence names, behind the licence's place
  record Below (l : License) (t : T) : Type 0 where
    pub parent : Node T
    pub parent_at : slice_get ns l.family ≡ Some parent
    pub place : ℕ
    pub later : l.index < place
    pub below : List ℕ
    pub there : task_at step parent.task (place ∷ below) ≡ Some t

  below_named : (l : License) (path : List Link) (k : ℕ) (n : Node T) → slice_get ns k ≡ Some n → n.path ≡ path → AnyOf (Names l) path → Below l n.task
  below_named l [] k n at is named = absurd named
  below_named l (x ∷ xs) k n at is named =
      let u : Up step depth rule ns (x ∷ xs) n.task = subst (λ (p : List Link). Up step depth rule ns p n.task) is (sound k n at).up in
      elim named [
        | inl here ↦ record {
          parent = u.0;
          parent_at = ap (slice_get ns) (sym here.0) ∙ u.1;
          place = x.place;
          later = here.1;
          below = [];
          there = at_child step u.0.task n.task x.place u.3;
        }
        | inr more ↦
            let b = below_named l xs x.family u.0 u.1 u.2 more in
            record {
              parent = b.parent;
              parent_at = b.parent_at;
              place = b.place;
              later = b.later;
              below = b.below ++ x.place ∷ [];
              there = at_below step b.parent.task u.0.task n.task (b.place ∷ b.below) x.place b.there u.3;
            }
      ]

module _ {T : Type 0} (step : T → Stepped T) (depth : T → ℕ) (name : T → Name) (tells : (t : T) → Tells (step t).act.process (step t).out) (deeper : (t : T) → Each (λ c. depth c < depth t) (out_children (step t).out)) where
  note_licensed : (r : Run T) (w : Walked T) (k : ℕ) (l : License) (d : DropNote) → WasAllowed step depth r → IsLicensedNote step depth r.rule name (nodes_of step depth r) k l d
      → IsLicensed step depth name (record { root = r.root; rule = r.rule; walked = w }) d
  note_licensed r w k l d allowed note =
      let ns = nodes_of step depth r in
      let sound = after_sound step depth r.rule tells deeper r.root (turns r.history) allowed in
      let b = below_named step depth r.rule ns sound l note.node.path k note.node note.at refl note.licensed.0 in
      let stop = note.licensed.1 in
      let same : b.parent ≡ note.parent = some_is b.parent note.parent (sym b.parent_at ∙ note.parent_at) in
      let stopping : stop.0 ≡ b.parent = some_is stop.0 b.parent (sym stop.1 ∙ b.parent_at) in
      record {
        above = places b.parent.path;
        parent = b.parent.task;
        parent_at = from_root step depth r.rule ns sound r.root b.parent.path l.family b.parent (top_is_root r.root step depth r.rule (turns r.history)) b.parent_at refl;
        stopped = l.index;
        sibling = note.sibling;
        sibling_at = at_child step b.parent.task note.sibling l.index (ap (λ (m : Node T). slice_get (out_children (step m.task).out) l.index) same ∙ note.sibling_at);
        stops = subst (λ (m : Node T). Stops step depth r.rule m.task l.index) stopping stop.2;
        place = b.place;
        later = b.later;
        below = b.below;
        task = note.node.task;
        dropped_at = b.there;
        dropped = ap (λ (x : DropNote). x.dropped) note.is;
        named = ap (λ (x : DropNote). x.stopped) note.is;
      }

  -- the notes of a table each of whose steps was allowed are licensed in the walk of its root
  pub notes_licensed : (r : Run T) (w : Walked T) (ds : List DropNote) → WasAllowed step depth r → AreNotes (IsLicensedNote step depth r.rule name (nodes_of step depth r)) r.history ds
      → Each (IsLicensed step depth name (record { root = r.root; rule = r.rule; walked = w })) ds
  notes_licensed r w ds allowed notes =
      each_note (IsLicensedNote step depth r.rule name (nodes_of step depth r)) (IsLicensed step depth name (record { root = r.root; rule = r.rule; walked = w })) r.history ds
      (λ k l d note. note_licensed r w k l d allowed note) notes

  -- the same, of a table of this task under this rule
  pub drops_licensed : (r : Run T) (t : T) (rule : Rule) (w : Walked T) (ds : List DropNote) → r.root ≡ t → r.rule ≡ rule → WasAllowed step depth r
      → AreNotes (IsLicensedNote step depth r.rule name (nodes_of step depth r)) r.history ds → Each (IsLicensed step depth name (record { root = t; rule = rule; walked = w })) ds
  drops_licensed r t rule w ds root under allowed notes =
      subst (λ (u : T). Each (IsLicensed step depth name (record { root = u; rule = rule; walked = w })) ds) root
      (subst (λ (x : Rule). Each (IsLicensed step depth name (record { root = r.root; rule = x; walked = w })) ds) under (notes_licensed r w ds allowed notes))

module _ {T : Type 0} (step : T → Stepped T) (depth : T → ℕ) (name : T → Name) (rule : Rule) where
  -- what is licensed in the walk of an only child is licensed in that of the task above it
  licensed_above : (task child : T) (v w : Walked T) (d : DropNote) → out_children (step task).out ≡ child ∷ []
      → IsLicensed step depth name (record { root = child; rule = rule; walked = v }) d → IsLicensed step depth name (record { root = task; rule = rule; walked = w }) d
  unfolding task_at
  licensed_above task child v w d only l = record {
    above = 0 ∷ l.above;
    parent = l.parent;
    parent_at = at_next step (slice_get (out_children (step task).out) 0) child (λ c. task_at step c l.above) (ap (λ cs. slice_get cs 0) only) ∙ l.parent_at;
    stopped = l.stopped;
    sibling = l.sibling;
    sibling_at = l.sibling_at;
    stops = l.stops;
    place = l.place;
    later = l.later;
    below = l.below;
    task = l.task;
    dropped_at = l.dropped_at;
    dropped = l.dropped;
    named = l.named;
  }

  pub each_licensed_above : (task child : T) (v w : Walked T) (ds : List DropNote) → out_children (step task).out ≡ child ∷ []
      → Each (IsLicensed step depth name (record { root = child; rule = rule; walked = v })) ds → Each (IsLicensed step depth name (record { root = task; rule = rule; walked = w })) ds
  each_licensed_above task child v w [] only all = tt
  each_licensed_above task child v w (d ∷ ds) only all = (licensed_above task child v w d only all.0, each_licensed_above task child v w ds only all.1)
