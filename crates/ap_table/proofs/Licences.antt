-- A licence by a family's word is one by the place at which the family is known to stop.
use Rattle.std.proofs.Common.{◌≡◌, ℕ, ◌≤◌, ◌<◌, List, [], ◌∷◌, Option, Some, None, length, cond, refl, sym, ap, subst, ◌∙◌, arith, inl, inr}
use Rattle.std.specs.List.{slice_get}
use Rattle.ap_list.specs.Lists.{Each, AnyOf}
use Rattle.ap_walk.specs.declared.act.Stepped.{Stepped}
use Rattle.ap_walk.specs.Visits.{Tells, out_children}
use Rattle.ap_word.specs.Stops.{NONE}
use Rattle.ap_table.specs.declared.link.Link.{Link}
use Rattle.ap_table.specs.declared.link.License.{License}
use Rattle.ap_table.specs.declared.stored.Stored.{Stored}
use Rattle.ap_table.specs.Core.{Node, known_of}
use Rattle.ap_table.specs.Sound.{Names, Sound}
use Rattle.ap_table.specs.Shown.{Run, turns, nodes_of, IsTable}
use Rattle.ap_table.specs.Sums.{sums_of, IsTold, HasKids}
use Rattle.ap_table.specs.Calls.{IsLicense}
use Rattle.ap_table.proofs.Keeping.{some_is}
use Rattle.ap_table.proofs.Showing.{kept_at}
use Rattle.ap_table.proofs.Moving.{shown_same}
use Rattle.ap_table.proofs.Heard.{stop_place, not_none, told_known}
use Rattle.ap_table.proofs.Families.{kids_count, kid_family}
use Rattle.ap_table.proofs.Marked.{none_or, AllThere, path_there}
use Rattle.ap_table.proofs.After.{after_sound}

stop_some : (s : ℕ) → s < NONE → stop_place s ≡ Some s
stop_some s h = ap (λ b. cond b None (Some s)) (not_none s h)

stop_only : (s i : ℕ) → stop_place s ≡ Some i → s ≡ i
stop_only s i e =
    elim (none_or s) [
      | inl n ↦ absurd (let x : ◌≡◌ {A = Option ℕ} None (Some i) = sym (ap (λ b. cond b None (Some s)) n.1) ∙ e in cc)
      | inr y ↦ some_is s i (sym (ap (λ b. cond b None (Some s)) y.1) ∙ e)
    ]

module _ {T : Type 0} (step : T → Stepped T) (depth : T → ℕ) (tells : (t : T) → Tells (step t).act.process (step t).out) (deeper : (t : T) → Each (λ c. depth c < depth t) (out_children (step t).out)) (r : Run T) (cs : List (Stored T)) (live : List ℕ) (capacity : ℕ) (t : IsTable step depth r cs live capacity) where
  abbrev ns : List (Node T)
  ns = nodes_of step depth r

  sound : Sound step depth r.rule ns
  sound = after_sound step depth r.rule tells deeper r.root (turns r.history) t.allowed

  family_there : (l : License) (path : List Link) → AllThere step depth cs path → AnyOf (Names l) path → (m : Stored T) × (slice_get cs l.family ≡ Some m) × HasKids m.stage
  family_there l [] all h = absurd h
  family_there l (x ∷ xs) all h =
      elim h [
        | inl here ↦ subst (λ (f : ℕ). (m : Stored T) × (slice_get cs f ≡ Some m) × HasKids m.stage) here.0 all.0
        | inr there ↦ family_there l xs all.1 there
      ]

  -- the word of a family above a node is the place at which it is known to stop
  known_word : (k : ℕ) (n m : Node T) (l : License) → slice_get ns k ≡ Some n → AnyOf (Names l) n.path → slice_get ns l.family ≡ Some m → known_of step depth r.rule ns m ≡ stop_place m.word
  known_word k n m l at h there =
      let own = kept_at step cs ns k n t.shows at in
      let all = path_there step depth r.rule None cs ns own.0.path k own.0 t.shows sound t.kids own.1 refl in
      let f = family_there l n.path (subst (AllThere step depth cs) own.2.path all) h in
      let c = f.0 in
      let sh = shown_same step depth cs ns l.family c m t.shows f.1 there in
      let fk = t.kids.family l.family c f.1 f.2 in
      let w = length (out_children (step m.task).out) in
      let count = kids_count m.task c.count w c.stage m.phase sh.stage f.2 in
      let fam = kid_family step depth r.rule None ns l.family m m.task c.count w c.stage m.phase sh.stage f.2 (sound l.family m there).phase in
      let fits = fk.fits in
      let few = t.few in
      let known = told_known step depth r.rule None cs ns l.family m c.first c.told sound t.shows fam sh.first (omega arith) (subst (λ (x : ℕ). IsTold r.rule (sums_of None cs c.first x) c.told) count fk.told) in
      let word : c.word ≡ c.told.stop = elim (t.words l.family c f.1 f.2) [ inl same ↦ same | inr x ↦ absurd x.2 ] in
      known ∙ ap stop_place (sym word ∙ sh.word)

  -- the licence's family is above the node, and its word isn't above the index
  abbrev pub ByWord : ℕ → License → Type 0
  ByWord k l =
      ((n : Node T) × (slice_get ns k ≡ Some n) × AnyOf (Names l) n.path)
      × ((m : Node T) × (slice_get ns l.family ≡ Some m) × (m.word ≤ l.index))

  pub by_known : (k : ℕ) (l : License) → l.index < 4294967296 → ByWord k l → IsLicense step depth r k l
  by_known k l small h =
      let m = h.1.0 in
      let le = h.1.2 in
      (h.0, (m, m.word, h.1.1, known_word k h.0.0 m l h.0.1 h.0.2 h.1.1 ∙ stop_some m.word (omega arith), le))

  pub by_word : (k : ℕ) (l : License) → IsLicense step depth r k l → ByWord k l
  by_word k l h =
      let m = h.1.0 in
      let i = h.1.1 in
      let same : m.word ≡ i = stop_only m.word i (sym (known_word k h.0.0 m l h.0.1 h.0.2 h.1.2) ∙ h.1.3) in
      (h.0, (m, h.1.2, subst (λ (x : ℕ). x ≤ l.index) (sym same) h.1.4))
