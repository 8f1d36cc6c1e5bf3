-- The notes that are made of the kept nodes are those of the drops of the history, each licensed.
use Rattle.std.proofs.Common.{◌≡◌, ℕ, zero, suc, ◌+◌, ◌≤◌, ◌<◌, List, [], ◌∷◌, ◌++◌, Option, Some, None, length, take, get_or, refl, sym, ap, subst, ◌∙◌, arith, inl, inr}
use Rattle.std.proofs.lemmas.List.{take_more, take_all}
use Rattle.std.specs.List.{slice_get}
use Rattle.ap_list.specs.Lists.{AnyOf}
use Rattle.ap_names.specs.Names.{Name}
use Rattle.ap_walk.specs.declared.act.Stepped.{Stepped}
use Rattle.ap_walk.specs.declared.rule.Rule.{Rule}
use Rattle.ap_walk.specs.Visits.{out_children}
use Rattle.ap_table.specs.declared.link.Link.{Link}
use Rattle.ap_table.specs.declared.link.License.{License}
use Rattle.ap_table.specs.declared.link.DropNote.{DropNote}
use Rattle.ap_table.specs.declared.stored.Entry.{Entry}
use Rattle.ap_table.specs.declared.stored.Entry.TheVariants as entry
use Rattle.ap_table.specs.declared.stored.Stored.{Stored}
use Rattle.ap_table.specs.Core.{Node, children, Stops, apply, replay_from}
use Rattle.ap_table.specs.Sound.{Names, Family, Up, Licensed, Sound, CanDrop, AreAllowed}
use Rattle.ap_table.specs.Shown.{AllShow, turns, turn_of}
use Rattle.ap_table.specs.Sums.{HasKids, Placed, Kids}
use Rattle.ap_table.specs.Ended.{AreNotes, IsLicensedNote, IsKeptNote, CanNote, CanNoteAll}
use Rattle.ap_table.proofs.Keeping.{some_is}
use Rattle.ap_table.proofs.Replay.{Keeps, replay_keeps}
use Rattle.ap_table.proofs.Showing.{kept_at}
use Rattle.ap_table.proofs.Families.{kids_count, kid_family, child_at}

pub same_note : (a b u v : Name) (l : License) → a ≡ b → u ≡ v → (let x : DropNote = record { dropped = a; stopped = u; license = l } in x) ≡ (let y : DropNote = record { dropped = b; stopped = v; license = l } in y)
same_note a b u v l e f = cc

module _ {T : Type 0} (step : T → Stepped T) (depth : T → ℕ) (rule : Rule) (name : T → Name) (cs : List (Stored T)) (ns : List (Node T)) (a : AllShow step cs ns) (s : Sound step depth rule ns) (kids : Kids rule None cs) where
  -- the family of a licence, and the sibling at its index
  record Sibling (l : License) : Type 0 where
    pub kept : Stored T
    pub kept_there : slice_get cs l.family ≡ Some kept
    pub node : Node T
    pub node_there : slice_get ns l.family ≡ Some node
    pub sibling : Stored T
    pub sibling_there : slice_get cs (kept.first + l.index) ≡ Some sibling
    pub child : slice_get (children step depth rule node.task) l.index ≡ Some sibling.task

  family_of : (l : License) (path : List Link) (k : ℕ) (n : Node T) → slice_get ns k ≡ Some n → n.path ≡ path → AnyOf (Names l) path
      → (m : Node T) × (c : Stored T) × (slice_get ns l.family ≡ Some m) × (slice_get cs l.family ≡ Some c) × (c.first ≡ m.first) × Family ns l.family m.path m.first 0 (children step depth rule m.task) × (l.index < length (children step depth rule m.task))
  family_of l [] k n at is h = absurd h
  family_of l (x ∷ xs) k n at is h =
      let u : Up step depth rule ns (x ∷ xs) n.task = subst (λ (p : List Link). Up step depth rule ns p n.task) is (s k n at).up in
      elim h [
        | inl here ↦
            let own = kept_at step cs ns k n a at in
            let p : Placed cs k (x ∷ xs) = subst (Placed cs k) (own.2.path ∙ is) (kids.placed k own.0 own.1) in
            let c = kept_at step cs ns x.family u.0 a u.1 in
            let same : p.0 ≡ c.0 = some_is p.0 c.0 (sym p.1 ∙ c.1) in
            let has : HasKids c.0.stage = subst (λ (y : Stored T). HasKids y.stage) same p.2 in
            let w = length (out_children (step u.0.task).out) in
            let count : c.0.count ≡ w = kids_count u.0.task c.0.count w c.0.stage u.0.phase c.2.stage has in
            let within : x.place < c.0.count = subst (λ (y : Stored T). x.place < y.count) same p.4 in
            let fam = kid_family step depth rule None ns x.family u.0 u.0.task c.0.count w c.0.stage u.0.phase c.2.stage has (s x.family u.0 u.1).phase in
            let lt : l.index < length (children step depth rule u.0.task) = omega (arith, here.1) in
            (u.0, c.0, ap (slice_get ns) (sym here.0) ∙ u.1, ap (slice_get cs) (sym here.0) ∙ c.1, c.2.first, subst (λ (f : ℕ). Family ns f u.0.path u.0.first 0 (children step depth rule u.0.task)) here.0 fam, lt)
        | inr there ↦ family_of l xs x.family u.0 u.1 u.2 there
      ]

  sibling_of : (l : License) (k : ℕ) (n : Node T) → slice_get ns k ≡ Some n → AnyOf (Names l) n.path → Sibling l
  sibling_of l k n at h =
      let f = family_of l n.path k n at refl h in
      let x = child_at ns l.family f.0.path f.0.first 0 l.index (children step depth rule f.0.task) f.5 f.6 in
      let c = kept_at step cs ns (f.0.first + l.index) x.0 a x.1 in
      record {
        kept = f.1;
        kept_there = f.3;
        node = f.0;
        node_there = f.2;
        sibling = c.0;
        sibling_there = ap (λ (y : ℕ). slice_get cs (y + l.index)) f.4 ∙ c.1;
        child = x.2 ∙ ap Some (sym c.2.task);
      }

  can_note : (k : ℕ) (l : License) (n : Node T) → slice_get ns k ≡ Some n → AnyOf (Names l) n.path → CanNote cs k l
  can_note k l n at h =
      let x = sibling_of l k n at h in
      let c = kept_at step cs ns k n a at in
      record { node = c.0; at = c.1; parent = x.kept; parent_at = x.kept_there; sibling = x.sibling; sibling_at = x.sibling_there }

  note_shown : (k : ℕ) (l : License) (d : DropNote) (n : Node T) → slice_get ns k ≡ Some n → Licensed step depth rule ns n.path l → IsKeptNote name cs k l d → IsLicensedNote step depth rule name ns k l d
  note_shown k l d n at h is =
      let x = sibling_of l k n at h.0 in
      let c = kept_at step cs ns k n a at in
      let own : is.node ≡ c.0 = some_is is.node c.0 (sym is.at ∙ c.1) in
      let parent : is.parent ≡ x.kept = some_is is.parent x.kept (sym is.parent_at ∙ x.kept_there) in
      let sibling : is.sibling ≡ x.sibling = some_is is.sibling x.sibling (sym is.sibling_at ∙ (ap (λ (p : Stored T). slice_get cs (p.first + l.index)) parent ∙ x.sibling_there)) in
      record {
        node = n;
        at = at;
        licensed = h;
        parent = x.node;
        parent_at = x.node_there;
        sibling = x.sibling.task;
        sibling_at = x.child;
        is = is.is ∙ same_note (name is.node.task) (name n.task) (name is.sibling.task) (name x.sibling.task) l (ap name (ap (λ (y : Stored T). y.task) own ∙ c.2.task)) (ap (λ (y : Stored T). name y.task) sibling);
      }

  dropped_at : (ms : List (Node T)) (k : ℕ) (l : License) (o : Option (Node T)) → slice_get ms k ≡ o → CanDrop step depth rule ms o l → Keeps ms ns → (n : Node T) × (slice_get ns k ≡ Some n) × Licensed step depth rule ns n.path l
  dropped_at ms k l None at can keeps = absurd can
  dropped_at ms k l (Some m) at can keeps =
      let x = keeps k m at in
      let p = keeps l.family can.1.1.0 can.1.1.1 in
      (x.0, x.1, (subst (AnyOf (Names l)) (sym x.3) can.1.0, (p.0, p.1, subst (λ (t : T). Stops step depth rule t l.index) (sym p.2) can.1.1.2)))

  -- what was dropped stays licensed
  drop_stays : (ms : List (Node T)) (k : ℕ) (l : License) (es : List Entry) → AreAllowed step depth rule ms (turns (entry.Dropped k l ∷ es)) → replay_from step depth rule ms (turns (entry.Dropped k l ∷ es)) ≡ ns → (n : Node T) × (slice_get ns k ≡ Some n) × Licensed step depth rule ns n.path l
  drop_stays ms k l es allowed is = dropped_at ms k l (slice_get ms k) refl allowed.0 (subst (Keeps ms) is (replay_keeps step depth rule ms (turns (entry.Dropped k l ∷ es))))

  pub can_note_all : (ms : List (Node T)) (es : List Entry) → AreAllowed step depth rule ms (turns es) → replay_from step depth rule ms (turns es) ≡ ns → CanNoteAll cs es
  unfolding replay_from
  can_note_all ms [] allowed is = tt
  can_note_all ms (entry.Claimed k ∷ es) allowed is = can_note_all (apply step depth rule ms (turn_of (entry.Claimed k))) es allowed.1 is
  can_note_all ms (entry.Expanded k ∷ es) allowed is = can_note_all (apply step depth rule ms (turn_of (entry.Expanded k))) es allowed.1 is
  can_note_all ms (entry.Put k ∷ es) allowed is = can_note_all (apply step depth rule ms (turn_of (entry.Put k))) es allowed.1 is
  can_note_all ms (entry.Marked f i ∷ es) allowed is = can_note_all (apply step depth rule ms (turn_of (entry.Marked f i))) es allowed.1 is
  can_note_all ms (entry.Dropped k l ∷ es) allowed is =
      let x = drop_stays ms k l es allowed is in
      (can_note k l x.0 x.1 x.2.0, can_note_all (apply step depth rule ms (turn_of (entry.Dropped k l))) es allowed.1 is)

  pub notes_shown : (ms : List (Node T)) (es : List Entry) (ds : List DropNote) → AreAllowed step depth rule ms (turns es) → replay_from step depth rule ms (turns es) ≡ ns → AreNotes (IsKeptNote name cs) es ds → AreNotes (IsLicensedNote step depth rule name ns) es ds
  unfolding replay_from
  notes_shown ms [] [] allowed is h = tt
  notes_shown ms [] (d ∷ ds) allowed is h = absurd h
  notes_shown ms (entry.Claimed k ∷ es) ds allowed is h = notes_shown (apply step depth rule ms (turn_of (entry.Claimed k))) es ds allowed.1 is h
  notes_shown ms (entry.Expanded k ∷ es) ds allowed is h = notes_shown (apply step depth rule ms (turn_of (entry.Expanded k))) es ds allowed.1 is h
  notes_shown ms (entry.Put k ∷ es) ds allowed is h = notes_shown (apply step depth rule ms (turn_of (entry.Put k))) es ds allowed.1 is h
  notes_shown ms (entry.Marked f i ∷ es) ds allowed is h = notes_shown (apply step depth rule ms (turn_of (entry.Marked f i))) es ds allowed.1 is h
  notes_shown ms (entry.Dropped k l ∷ es) [] allowed is h = absurd h
  notes_shown ms (entry.Dropped k l ∷ es) (d ∷ ds) allowed is h =
      let x = drop_stays ms k l es allowed is in
      (note_shown k l d x.0 x.1 x.2 h.0, notes_shown (apply step depth rule ms (turn_of (entry.Dropped k l))) es ds allowed.1 is h.1)

module _ (one : ℕ → License → DropNote → Type 0) where
  pub none_noted : (es : List Entry) → AreNotes one (take 0 es) []
  none_noted es = tt

  pub one_noted : (es : List Entry) (ds : List DropNote) (k : ℕ) (l : License) (d : DropNote) → AreNotes one es ds → one k l d → AreNotes one (es ++ entry.Dropped k l ∷ []) (ds ++ d ∷ [])
  one_noted [] [] k l d h o = (o, tt)
  one_noted [] (x ∷ ds) k l d h o = absurd h
  one_noted (entry.Claimed j ∷ es) ds k l d h o = one_noted es ds k l d h o
  one_noted (entry.Expanded j ∷ es) ds k l d h o = one_noted es ds k l d h o
  one_noted (entry.Put j ∷ es) ds k l d h o = one_noted es ds k l d h o
  one_noted (entry.Marked f i ∷ es) ds k l d h o = one_noted es ds k l d h o
  one_noted (entry.Dropped j m ∷ es) [] k l d h o = absurd h
  one_noted (entry.Dropped j m ∷ es) (x ∷ ds) k l d h o = (h.0, one_noted es ds k l d h.1 o)

  other_alone : (e : Entry) → ((k : ℕ) (l : License) → e ≡ entry.Dropped k l → ⊥) → AreNotes one (e ∷ []) []
  other_alone (entry.Claimed j) isnt = tt
  other_alone (entry.Expanded j) isnt = tt
  other_alone (entry.Put j) isnt = tt
  other_alone (entry.Marked f i) isnt = tt
  other_alone (entry.Dropped k l) isnt = absurd (isnt k l refl)

  pub other_noted : (es : List Entry) (ds : List DropNote) (e : Entry) → ((k : ℕ) (l : License) → e ≡ entry.Dropped k l → ⊥) → AreNotes one es ds → AreNotes one (es ++ e ∷ []) ds
  other_noted [] [] e isnt h = other_alone e isnt
  other_noted [] (x ∷ ds) e isnt h = absurd h
  other_noted (entry.Claimed j ∷ es) ds e isnt h = other_noted es ds e isnt h
  other_noted (entry.Expanded j ∷ es) ds e isnt h = other_noted es ds e isnt h
  other_noted (entry.Put j ∷ es) ds e isnt h = other_noted es ds e isnt h
  other_noted (entry.Marked f i ∷ es) ds e isnt h = other_noted es ds e isnt h
  other_noted (entry.Dropped j m ∷ es) [] e isnt h = absurd h
  other_noted (entry.Dropped j m ∷ es) (x ∷ ds) e isnt h = (h.0, other_noted es ds e isnt h.1)

  -- one entry more of a history
  pub drop_next : (es : List Entry) (ds new : List DropNote) (i k : ℕ) (l : License) (d : DropNote) (e : Entry) → i < length es → get_or es i e ≡ entry.Dropped k l → AreNotes one (take i es) ds → one k l d → new ≡ ds ++ d ∷ [] → AreNotes one (take (i + 1) es) new
  drop_next es ds new i k l d e lt is h o more =
      subst (AreNotes one (take (i + 1) es)) (sym more)
      (subst (λ xs. AreNotes one xs (ds ++ d ∷ [])) (sym (take_more es i e lt ∙ ap (λ x. take i es ++ x ∷ []) is)) (one_noted (take i es) ds k l d h o))

  pub other_next : (es : List Entry) (ds new : List DropNote) (i : ℕ) (e : Entry) → i < length es → ((k : ℕ) (l : License) → get_or es i e ≡ entry.Dropped k l → ⊥) → AreNotes one (take i es) ds → new ≡ ds → AreNotes one (take (i + 1) es) new
  other_next es ds new i e lt isnt h same =
      subst (AreNotes one (take (i + 1) es)) (sym same)
      (subst (λ xs. AreNotes one xs ds) (sym (take_more es i e lt)) (other_noted (take i es) ds (get_or es i e) isnt h))

  pub all_noted : (es : List Entry) (ds : List DropNote) (i : ℕ) → length es ≤ i → AreNotes one (take i es) ds → AreNotes one es ds
  all_noted es ds i le h = subst (λ xs. AreNotes one xs ds) (take_all i es le) h

module _ {T : Type 0} where
  -- a drop of the history can be noted
  pub can_note_at : (cs : List (Stored T)) (es : List Entry) (i k : ℕ) (l : License) (e : Entry) → i < length es → get_or es i e ≡ entry.Dropped k l → CanNoteAll cs es → CanNote cs k l
  can_note_at cs [] i k l e lt is h = absurd (omega arith)
  can_note_at cs (entry.Dropped j m ∷ es) zero k l e lt is h =
      let y : j ≡ k = cc in
      let z : m ≡ l = cc in
      subst (λ (n : ℕ). CanNote cs n l) y (subst (CanNote cs j) z h.0)
  can_note_at cs (entry.Claimed j ∷ es) zero k l e lt is h = absurd (cc)
  can_note_at cs (entry.Expanded j ∷ es) zero k l e lt is h = absurd (cc)
  can_note_at cs (entry.Put j ∷ es) zero k l e lt is h = absurd (cc)
  can_note_at cs (entry.Marked f m ∷ es) zero k l e lt is h = absurd (cc)
  can_note_at cs (entry.Dropped j m ∷ es) (suc i) k l e lt is h = can_note_at cs es i k l e (omega arith) is h.1
  can_note_at cs (entry.Claimed j ∷ es) (suc i) k l e lt is h = can_note_at cs es i k l e (omega arith) is h
  can_note_at cs (entry.Expanded j ∷ es) (suc i) k l e lt is h = can_note_at cs es i k l e (omega arith) is h
  can_note_at cs (entry.Put j ∷ es) (suc i) k l e lt is h = can_note_at cs es i k l e (omega arith) is h
  can_note_at cs (entry.Marked f m ∷ es) (suc i) k l e lt is h = can_note_at cs es i k l e (omega arith) is h
