-- What the kept nodes show, and single steps on them.
use Rattle.std.proofs.Common.{◌≡◌, ℕ, zero, suc, ◌+◌, ◌*◌, ◌≤◌, ◌<◌, nat_lt, IsTrue, List, [], ◌∷◌, ◌++◌, Some, None, length, take, get_or, set, refl, sym, ap, subst, ◌∙◌, arith, inl, inr}
use Rattle.std.proofs.lemmas.Bool.Decides.{nat_tests}
use Rattle.std.specs.List.{slice_get}
use Rattle.ap_walk.specs.declared.act.Stepped.{Stepped}
use Rattle.ap_walk.specs.Visits.{out_children}
use Rattle.ap_table.specs.declared.link.Link.{Link}
use Rattle.ap_table.specs.Sums.{nothing_told}
use Rattle.ap_table.specs.declared.stored.Stored.{Stored}
use Rattle.ap_table.specs.declared.stored.Stage.{Stage}
use Rattle.ap_table.specs.declared.stored.Stage.TheVariants as stage
use Rattle.ap_table.specs.declared.stored.Entry.{Entry}
use Rattle.ap_table.specs.Core.{Phase, Node, free, claimed, expanded, put, closed, dropped, change, new_nodes}
use Rattle.ap_list.specs.Lists.{AnyOf}
use Rattle.ap_table.specs.declared.link.License.{License}
use Rattle.ap_table.specs.Sound.{Names}
use Rattle.ap_table.specs.Shown.{turn_of, turns, StageShows, alter, stage_room, rooms, fresh, Shows, AllShow}
use Rattle.ap_word.specs.Stops.{NONE}

pub get_at : {A : Type 0} (xs : List A) (k : ℕ) (x : A) → k < length xs → x ≡ get_or xs k x → slice_get xs k ≡ Some x
get_at [] k x h e = absurd (omega arith)
get_at (y ∷ ys) zero x h e = ap Some (sym e)
get_at (y ∷ ys) (suc k) x h e = get_at ys k x (omega arith) e

pub below_length : {A : Type 0} (xs : List A) (k : ℕ) (x : A) → slice_get xs k ≡ Some x → k < length xs
below_length [] k x e = absurd (cc)
below_length (y ∷ ys) zero x e = omega arith
below_length (y ∷ ys) (suc k) x e = let h = below_length ys k x e in omega arith

pub some_same : {A : Type 0} (a b : A) → Some a ≡ Some b → a ≡ b
some_same a b e = cc

pub lt_is : (a b : ℕ) → IsTrue (nat_lt a b) → a < b
lt_is a b h = grind (arith, nat_tests)

pub lt_to : (a b : ℕ) → a < b → IsTrue (nat_lt a b)
lt_to a b h = grind (arith, nat_tests)

module _ {T : Type 0} where
  pub set_is : (xs : List (Stored T)) (k : ℕ) (x : Stored T) (f : Stored T → Stored T) → slice_get xs k ≡ Some x → set xs k (f x) ≡ alter xs k f
  unfolding alter
  set_is [] k x f e = refl
  set_is (y ∷ ys) zero x f e = ap (λ z. f z ∷ ys) (sym (some_same y x e))
  set_is (y ∷ ys) (suc k) x f e = ap (λ zs. y ∷ zs) (set_is ys k x f e)

  abbrev fresh_one : ℕ → List Link → ℕ → T → Stored T
  fresh_one k path p t = record { task = t; path = record { family = k; place = p } ∷ path; own = None; first = 0; count = 0; stage = stage.Free t; word = NONE; told = nothing_told }

  fresh_next : (k : ℕ) (path : List Link) (p i j : ℕ) (ts : List T) (t : T) → j ≡ i + 1 → i < length ts → t ≡ get_or ts i t
      → fresh k path p (take j ts) ≡ fresh k path p (take i ts) ++ fresh_one k path (p + i) t ∷ []
  unfolding fresh
  fresh_next k path p i j [] t is h e = absurd (omega arith)
  fresh_next k path p i zero (x ∷ ts) t is h e = absurd (omega arith)
  fresh_next k path p zero (suc j) (x ∷ ts) t is h e =
      ap (λ (n : ℕ). fresh k path p (take (suc n) (x ∷ ts))) (let z : j ≡ 0 = omega arith in z)
      ∙ (ap (λ (y : T). fresh_one k path p y ∷ []) (sym e)
      ∙ ap (λ (n : ℕ). fresh_one k path n t ∷ []) (let z : p ≡ p + 0 = omega arith in z))
  fresh_next k path p (suc i) (suc j) (x ∷ ts) t is h e =
      ap (λ l. fresh_one k path p x ∷ l)
      (fresh_next k path (p + 1) i j ts t (omega arith) (omega arith) e
      ∙ ap (λ (n : ℕ). fresh k path (p + 1) (take i ts) ++ fresh_one k path n t ∷ []) (let z : p + 1 + i ≡ p + suc i = omega arith in z))

  pub length_alter : (xs : List (Stored T)) (k : ℕ) (f : Stored T → Stored T) → length (alter xs k f) ≡ length xs
  unfolding alter
  length_alter [] k f = refl
  length_alter (x ∷ xs) zero f = refl
  length_alter (x ∷ xs) (suc k) f = ap suc (length_alter xs k f)

  pub room_alter : (xs : List (Stored T)) (k : ℕ) (x : Stored T) (f : Stored T → Stored T) → slice_get xs k ≡ Some x → rooms (alter xs k f) + stage_room x.stage ≡ rooms xs + stage_room (f x).stage
  unfolding alter
  room_alter [] k x f e = absurd (cc)
  room_alter (y ∷ ys) zero x f e =
      let h : stage_room y.stage ≡ stage_room x.stage = ap (λ (z : Stored T). stage_room z.stage) (some_same y x e) in
      let i : stage_room (f y).stage ≡ stage_room (f x).stage = ap (λ (z : Stored T). stage_room (f z).stage) (some_same y x e) in
      omega arith
  room_alter (y ∷ ys) (suc k) x f e = let h = room_alter ys k x f e in omega arith

  pub room_append : (xs ys : List (Stored T)) → rooms (xs ++ ys) ≡ rooms xs + rooms ys
  room_append [] ys = omega arith
  room_append (x ∷ xs) ys = let h = room_append xs ys in omega arith

  pub room_fresh : (k : ℕ) (path : List Link) (p : ℕ) (ts : List T) → rooms (fresh k path p ts) ≡ 5 * length ts
  unfolding fresh
  room_fresh k path p [] = omega arith
  room_fresh k path p (t ∷ ts) = let h = room_fresh k path (p + 1) ts in omega arith

  pub length_fresh : (k : ℕ) (path : List Link) (p : ℕ) (ts : List T) → length (fresh k path p ts) ≡ length ts
  unfolding fresh
  length_fresh k path p [] = refl
  length_fresh k path p (t ∷ ts) = ap suc (length_fresh k path (p + 1) ts)

  pub alter_left : (xs ys : List (Stored T)) (k : ℕ) (f : Stored T → Stored T) → k < length xs → alter (xs ++ ys) k f ≡ alter xs k f ++ ys
  unfolding alter
  alter_left [] ys k f h = absurd (omega arith)
  alter_left (x ∷ xs) ys zero f h = refl
  alter_left (x ∷ xs) ys (suc k) f h = ap (λ l. x ∷ l) (alter_left xs ys k f (omega arith))

pub turns_more : (es : List Entry) (e : Entry) → turns (es ++ e ∷ []) ≡ turns es ++ turn_of e ∷ []
turns_more [] e = refl
turns_more (x ∷ es) e = ap (λ l. turn_of x ∷ l) (turns_more es e)

module _ {T : Type 0} (step : T → Stepped T) where
  pub shown_at : (cs : List (Stored T)) (ns : List (Node T)) (k : ℕ) (c : Stored T) → AllShow step cs ns → slice_get cs k ≡ Some c → (n : Node T) × (slice_get ns k ≡ Some n) × Shows step c n
  shown_at [] ns k c a e = absurd (cc)
  shown_at (x ∷ cs) [] k c a e = absurd a
  shown_at (x ∷ cs) (n ∷ ns) zero c a e = (n, refl, subst (λ (y : Stored T). Shows step y n) (some_same x c e) a.0)
  shown_at (x ∷ cs) (n ∷ ns) (suc k) c a e = shown_at cs ns k c a.1 e

  pub kept_at : (cs : List (Stored T)) (ns : List (Node T)) (k : ℕ) (n : Node T) → AllShow step cs ns → slice_get ns k ≡ Some n → (c : Stored T) × (slice_get cs k ≡ Some c) × Shows step c n
  kept_at cs [] k n a e = absurd (cc)
  kept_at [] (m ∷ ns) k n a e = absurd a
  kept_at (c ∷ cs) (m ∷ ns) zero n a e = (c, refl, subst (Shows step c) (some_same m n e) a.0)
  kept_at (c ∷ cs) (m ∷ ns) (suc k) n a e = kept_at cs ns k n a.1 e

  pub show_length : (cs : List (Stored T)) (ns : List (Node T)) → AllShow step cs ns → length cs ≡ length ns
  show_length [] [] a = refl
  show_length [] (n ∷ ns) a = absurd a
  show_length (c ∷ cs) [] a = absurd a
  show_length (c ∷ cs) (n ∷ ns) a = ap suc (show_length cs ns a.1)

  pub show_append : (cs ds : List (Stored T)) (ns ms : List (Node T)) → AllShow step cs ns → AllShow step ds ms → AllShow step (cs ++ ds) (ns ++ ms)
  show_append [] ds [] ms a b = b
  show_append [] ds (n ∷ ns) ms a b = absurd a
  show_append (c ∷ cs) ds [] ms a b = absurd a
  show_append (c ∷ cs) ds (n ∷ ns) ms a b = (a.0, show_append cs ds ns ms a.1 b)

  pub show_alter : (cs : List (Stored T)) (ns : List (Node T)) (k : ℕ) (c : Stored T) (n : Node T) (f : Stored T → Stored T) (g : Node T → Node T) → AllShow step cs ns → slice_get cs k ≡ Some c → slice_get ns k ≡ Some n → Shows step (f c) (g n) → AllShow step (alter cs k f) (change ns k g)
  unfolding alter change
  show_alter [] ns k c n f g a ec en h = absurd (cc)
  show_alter (x ∷ cs) [] k c n f g a ec en h = absurd a
  show_alter (x ∷ cs) (m ∷ ns) zero c n f g a ec en h = (subst (λ y. Shows step (f y) (g m)) (sym (some_same x c ec)) (subst (λ y. Shows step (f c) (g y)) (sym (some_same m n en)) h), a.1)
  show_alter (x ∷ cs) (m ∷ ns) (suc k) c n f g a ec en h = (a.0, show_alter cs ns k c n f g a.1 ec en h)

  pub show_fresh : (k : ℕ) (path : List Link) (p : ℕ) (ts : List T) → AllShow step (fresh k path p ts) (new_nodes k path p ts)
  unfolding fresh
  show_fresh k path p [] = tt
  show_fresh k path p (t ∷ ts) = (record { task = refl; path = refl; first = refl; word = refl; stage = refl; own = tt }, show_fresh k path (p + 1) ts)

module _ {T : Type 0} where
  claimed_phase : (t : T) (c w : ℕ) (p : Phase T) → StageShows t c w stage.Claimed p → p ≡ claimed
  claimed_phase t c w free h = absurd h
  claimed_phase t c w claimed h = refl
  claimed_phase t c w expanded h = absurd h
  claimed_phase t c w (put v) h = absurd h
  claimed_phase t c w (closed v) h = absurd h
  claimed_phase t c w (dropped l) h = absurd h

  claimed_stage : (t : T) (c w : ℕ) (s : Stage T) → StageShows t c w s claimed → s ≡ stage.Claimed
  claimed_stage t c w (stage.Free x) h = absurd h
  claimed_stage t c w stage.Claimed h = refl
  claimed_stage t c w stage.Expanded h = absurd h
  claimed_stage t c w (stage.Put v) h = absurd h
  claimed_stage t c w (stage.Closed s) h = absurd h
  claimed_stage t c w (stage.Dropped l) h = absurd h

module _ {T : Type 0} (step : T → Stepped T) (depth : T → ℕ) where
  pub claimed_node : (cs : List (Stored T)) (ns : List (Node T)) (i : ℕ) (c : Stored T) → AllShow step cs ns → slice_get cs i ≡ Some c → c.stage ≡ stage.Claimed → (n : Node T) × (slice_get ns i ≡ Some n) × (n.phase ≡ claimed) × (c.task ≡ n.task) × (c.path ≡ n.path)
  claimed_node cs ns i c a at is =
      let n = shown_at step cs ns i c a at in
      let w = length (out_children (step n.0.task).out) in
      (n.0, n.1, claimed_phase n.0.task c.count w n.0.phase (subst (λ s. StageShows n.0.task c.count w s n.0.phase) is n.2.stage), n.2.task, n.2.path)

  pub claimed_kept : (cs : List (Stored T)) (ns : List (Node T)) (i : ℕ) (n : Node T) → AllShow step cs ns → slice_get ns i ≡ Some n → n.phase ≡ claimed → (c : Stored T) × (slice_get cs i ≡ Some c) × (c.stage ≡ stage.Claimed) × (c.task ≡ n.task) × (c.path ≡ n.path)
  claimed_kept cs ns i n a at is =
      let c = kept_at step cs ns i n a at in
      let w = length (out_children (step n.task).out) in
      (c.0, c.1, claimed_stage n.task c.0.count w c.0.stage (subst (StageShows n.task c.0.count w c.0.stage) is c.2.stage), c.2.task, c.2.path)

  -- the job of a kept node is that of the node it shows
  pub job_shown : (cs : List (Stored T)) (ns : List (Node T)) (k : ℕ) (t : T) → AllShow step cs ns → ((c : Stored T) × (slice_get cs k ≡ Some c) × (c.stage ≡ stage.Claimed) × (t ≡ c.task)) → (n : Node T) × (slice_get ns k ≡ Some n) × (n.phase ≡ claimed) × (t ≡ n.task)
  job_shown cs ns k t a j =
      let n = claimed_node cs ns k j.0 a j.1 j.2 in
      (n.0, n.1, n.2, j.3 ∙ n.3)

  pub job_kept : (cs : List (Stored T)) (ns : List (Node T)) (k : ℕ) (t : T) → AllShow step cs ns → ((n : Node T) × (slice_get ns k ≡ Some n) × (n.phase ≡ claimed) × (t ≡ n.task)) → (c : Stored T) × (slice_get cs k ≡ Some c) × (c.stage ≡ stage.Claimed) × (t ≡ c.task)
  job_kept cs ns k t a j =
      let c = claimed_kept cs ns k j.0 a j.1 j.2 in
      (c.0, c.1, c.2, j.3 ∙ sym c.3)

  pub room_kept : (cs : List (Stored T)) (ns : List (Node T)) (k count count' : ℕ) → count ≡ count' → AllShow step cs ns → ((n : Node T) × (slice_get ns k ≡ Some n) × (length n.path < 3) × (length ns + count ≤ 1000000)) → (c : Stored T) × (slice_get cs k ≡ Some c) × (length c.path < 3) × (length cs + count' ≤ 1000000)
  room_kept cs ns k count count' e a j =
      let c = kept_at step cs ns k j.0 a j.1 in
      (c.0, c.1, subst (λ p. length p < 3) (sym c.2.path) j.2, (let l = show_length step cs ns a in let m = j.3 in omega arith))

  pub room_shown : (cs : List (Stored T)) (ns : List (Node T)) (k count count' : ℕ) → count ≡ count' → AllShow step cs ns → ((c : Stored T) × (slice_get cs k ≡ Some c) × (length c.path < 3) × (length cs + count' ≤ 1000000)) → (n : Node T) × (slice_get ns k ≡ Some n) × (length n.path < 3) × (length ns + count ≤ 1000000)
  room_shown cs ns k count count' e a j =
      let n = shown_at step cs ns k j.0 a j.1 in
      (n.0, n.1, subst (λ p. length p < 3) n.2.path j.2, (let l = show_length step cs ns a in let m = j.3 in omega arith))

module _ {T : Type 0} where
  pub fresh_none : (k : ℕ) (path : List Link) (p : ℕ) → fresh {T = T} k path p [] ≡ []
  unfolding fresh
  fresh_none k path p = refl

  pub fresh_push : (k : ℕ) (path : List Link) (i : ℕ) (ts : List T) (t t' u v : T) (q : List Link) (items new : List (Stored T)) → i < length ts → t ≡ get_or ts i t → t' ≡ get_or ts i t' → u ≡ t → v ≡ t' → q ≡ record { family = k; place = i } ∷ path
      → items ≡ fresh k path 0 (take i ts) → new ≡ items ++ (let c : Stored T = record { task = u; path = q; own = None; first = 0; count = 0; stage = stage.Free v; word = NONE; told = nothing_told } in c) ∷ [] → new ≡ fresh k path 0 (take (i + 1) ts)
  fresh_push k path i ts t t' u v q items new h et et' eu ev eq ei en =
      let same : v ≡ u = ev ∙ (some_same t' t (sym (get_at ts i t' h et') ∙ get_at ts i t h et) ∙ sym eu) in
      en
      ∙ (ap (λ l. l ++ (let c : Stored T = record { task = u; path = q; own = None; first = 0; count = 0; stage = stage.Free v; word = NONE; told = nothing_told } in c) ∷ []) ei
      ∙ (ap (λ x. fresh k path 0 (take i ts) ++ (let c : Stored T = record { task = u; path = q; own = None; first = 0; count = 0; stage = stage.Free x; word = NONE; told = nothing_told } in c) ∷ []) same
      ∙ (ap (λ x. fresh k path 0 (take i ts) ++ (let c : Stored T = record { task = x; path = q; own = None; first = 0; count = 0; stage = stage.Free x; word = NONE; told = nothing_told } in c) ∷ []) eu
      ∙ (ap (λ x. fresh k path 0 (take i ts) ++ (let c : Stored T = record { task = t; path = x; own = None; first = 0; count = 0; stage = stage.Free t; word = NONE; told = nothing_told } in c) ∷ []) eq
      ∙ (ap (λ (n : ℕ). fresh k path 0 (take i ts) ++ (let c : Stored T = record { task = t; path = record { family = k; place = n } ∷ path; own = None; first = 0; count = 0; stage = stage.Free t; word = NONE; told = nothing_told } in c) ∷ []) (let z : i ≡ 0 + i = omega arith in z)
      ∙ sym (fresh_next k path 0 i (i + 1) ts t refl h et))))))

any_zero : (l : License) (j : ℕ) (ys : List Link) → j ≡ 0 → AnyOf (Names l) (take j ys) → ⊥
any_zero l zero ys e a = a
any_zero l (suc j) ys e a = absurd (omega arith)

pub any_next : (l : License) (i j : ℕ) (path : List Link) (x : Link) → j ≡ i + 1 → i < length path → x ≡ get_or path i x → (Names l x → ⊥) → (AnyOf (Names l) (take i path) → ⊥) → AnyOf (Names l) (take j path) → ⊥
any_next l i zero path x is h e none before a = absurd (omega arith)
any_next l i (suc j) [] x is h e none before a = absurd (omega arith)
any_next l zero (suc j) (y ∷ ys) x is h e none before a = elim a [ inl b ↦ none (subst (Names l) (sym e) b) | inr b ↦ any_zero l j ys (omega arith) b ]
any_next l (suc i) (suc j) (y ∷ ys) x is h e none before a = elim a [ inl b ↦ before (inl b) | inr b ↦ any_next l i j ys x (omega arith) (omega arith) e none (λ z. before (inr z)) b ]

pub any_here : (l : License) (i : ℕ) (path : List Link) (x : Link) → i < length path → x ≡ get_or path i x → Names l x → AnyOf (Names l) path
any_here l i [] x h e n = absurd (omega arith)
any_here l zero (y ∷ ys) x h e n = inl (subst (Names l) e n)
any_here l (suc i) (y ∷ ys) x h e n = inr (any_here l i ys x (omega arith) e n)

same_there : (path : List Link) (i : ℕ) (d : Link) → i < length path → get_or path i d ≡ get_or path i (get_or path i d)
same_there [] i d h = absurd (omega arith)
same_there (y ∷ ys) zero d h = refl
same_there (y ∷ ys) (suc i) d h = same_there ys i d (omega arith)

pub any_there : (l : License) (i : ℕ) (path : List Link) (d : Link) → i < length path → Names l (get_or path i d) → AnyOf (Names l) path
any_there l i path d h n = any_here l i path (get_or path i d) h (same_there path i d h) n

pub any_past : (l : License) (i : ℕ) (path : List Link) (d : Link) → i < length path → (Names l (get_or path i d) → ⊥) → (AnyOf (Names l) (take i path) → ⊥) → AnyOf (Names l) (take (i + 1) path) → ⊥
any_past l i path d h none before = any_next l i (i + 1) path (get_or path i d) refl h (same_there path i d h) none before

pub any_all : (l : License) (i : ℕ) (path : List Link) → length path ≤ i → (AnyOf (Names l) (take i path) → ⊥) → AnyOf (Names l) path → ⊥
any_all l i [] h none a = a
any_all l zero (y ∷ ys) h none a = absurd (omega arith)
any_all l (suc i) (y ∷ ys) h none a = elim a [ inl b ↦ none (inl b) | inr b ↦ any_all l i ys (omega arith) (λ z. none (inr z)) b ]

module _ {T : Type 0} (step : T → Stepped T) where
  pub license_kept : (cs : List (Stored T)) (ns : List (Node T)) (k : ℕ) (l : License) → AllShow step cs ns → (((n : Node T) × (slice_get ns k ≡ Some n) × AnyOf (Names l) n.path) × ((m : Node T) × (slice_get ns l.family ≡ Some m) × (m.word ≤ l.index)))
      → ((c : Stored T) × (slice_get cs k ≡ Some c) × AnyOf (Names l) c.path) × ((m : Stored T) × (slice_get cs l.family ≡ Some m) × (m.word ≤ l.index))
  license_kept cs ns k l a h =
      let c = kept_at step cs ns k h.0.0 a h.0.1 in
      let m = kept_at step cs ns l.family h.1.0 a h.1.1 in
      ((c.0, c.1, subst (AnyOf (Names l)) (sym c.2.path) h.0.2), (m.0, m.1, subst (λ w. w ≤ l.index) (sym m.2.word) h.1.2))

  pub license_shown : (cs : List (Stored T)) (ns : List (Node T)) (k : ℕ) (l : License) → AllShow step cs ns → (((c : Stored T) × (slice_get cs k ≡ Some c) × AnyOf (Names l) c.path) × ((m : Stored T) × (slice_get cs l.family ≡ Some m) × (m.word ≤ l.index)))
      → ((n : Node T) × (slice_get ns k ≡ Some n) × AnyOf (Names l) n.path) × ((m : Node T) × (slice_get ns l.family ≡ Some m) × (m.word ≤ l.index))
  license_shown cs ns k l a h =
      let n = shown_at step cs ns k h.0.0 a h.0.1 in
      let m = shown_at step cs ns l.family h.1.0 a h.1.1 in
      ((n.0, n.1, subst (AnyOf (Names l)) n.2.path h.0.2), (m.0, m.1, subst (λ w. w ≤ l.index) m.2.word h.1.2))
