-- What the function reads is what the grammar says, and it ends no earlier.
use Rattle.std.proofs.Common.{◌≡◌, ℕ, ◌<◌, ◌≤◌, Bool, true, false, [], ◌∷◌, length, Result, Ok, Err, zero, suc, refl, arith}
use Rattle.ap_tokens.specs.Gaps.{At}
use Rattle.ap_tokens.specs.Tokens.{Seen, next_of}
use Rattle.ap_reader.specs.declared.fault.ReadKind.{ReadKind}
use Rattle.ap_reader.specs.declared.fault.ReadKind.TheVariants as faults
use Rattle.ap_reader.specs.declared.form.Form.{Form}
use Rattle.ap_reader.specs.declared.form.Body.{Body}
use Rattle.ap_reader.specs.declared.leaf.Leaf.{Leaf}
use Rattle.ap_reader.specs.declared.reading.Mark.{Mark}
use Rattle.ap_reader.specs.declared.reading.Head.{Head}
use Rattle.ap_reader.specs.declared.reading.Head.TheVariants as heads
use Rattle.ap_reader.specs.declared.reading.Item.{Item}
use Rattle.ap_reader.specs.declared.reading.Item.TheVariants as items
use Rattle.ap_reader.specs.Faults.{ReadFault, fault, at_place}
use Rattle.ap_reader.specs.Leaves.{leaf_of}
use Rattle.ap_reader.specs.Heads.{head_of, item_of, is_close, under, token_in, Parts, flat}
use Rattle.ap_reader.specs.Reading.{◌>>=◌, Reader, at_item, closing_by, closing_of, tail_by, with_forms, with_tail, items_by, lists, placed, body_by, reader_of, form_of}
use Rattle.ap_reader.specs.Grammar.{Comes, Spells, SpellsAll, SpellsLast, Reads}
use Rattle.ap_reader.specs.Grammar as spells
use Rattle.ap_reader.specs.Breaks.{Missing, Breaks, BreaksAll, BreaksLast, Faults}
use Rattle.ap_reader.specs.Breaks as breaks
use Rattle.ap_reader.proofs.Tokens.{came, missed, comes_less}

abbrev pub FormIs : ℕ → Seen → At → Result (Form × At) ReadFault → Type 0
FormIs n s a (Ok x) = Spells n s a x.0 x.1 × (length x.1.rest ≤ length a.rest)
FormIs n s a (Err e) = Breaks n s a e

abbrev pub PartsIs : ℕ → Bool → ℕ → At → Result (Parts × At) ReadFault → Type 0
PartsIs n some p a (Ok x) = SpellsAll n some a x.0 x.1 × (length x.1.rest ≤ length a.rest)
PartsIs n some p a (Err e) = BreaksAll n some p a e

abbrev pub LastIs : ℕ → ℕ → ℕ → At → Result (Form × At) ReadFault → Type 0
LastIs n p d a (Ok x) = SpellsLast n a x.0 x.1 × (length x.1.rest ≤ length a.rest)
LastIs n p d a (Err e) = BreaksLast n p d a e

same_close : (h : Head) → is_close h ≡ true → h ≡ heads.Close
same_close heads.Close e = refl
same_close heads.Dot e = absurd cc
same_close heads.Open e = absurd cc
same_close (heads.Under m) e = absurd cc
same_close (heads.Leaf l) e = absurd cc

module _ (n : ℕ) (r : Reader) (ih : (s : Seen) (a : At) → FormIs n s a (r s a)) where
  last_closed : (p d : ℕ) (s t : Seen) (a b c u : At) (f : Form) → Comes a s b → item_of true (head_of s.kind) ≡ items.Form → Spells n s b f c
      → length c.rest ≤ length b.rest → Comes c t u → (k : Bool) → is_close (head_of t.kind) ≡ k → LastIs n p d a (closing_by d k u >>= λ v. Ok (f, v))
  last_closed p d s t a b c u f w i x less y true k = (spells.last n s t a b c u f w i x y (same_close (head_of t.kind) k), omega (arith, comes_less a b s w, comes_less c u t y))
  last_closed p d s t a b c u f w i x less y false k = breaks.two_forms n p d s t a b c u f w i x y k

  last_after : (p d : ℕ) (s : Seen) (a b c : At) (f : Form) → Comes a s b → item_of true (head_of s.kind) ≡ items.Form → Spells n s b f c
      → length c.rest ≤ length b.rest → (o : Result (Seen × At) ReadFault) → token_in p (next_of c) ≡ o
      → LastIs n p d a ((o >>= λ t. closing_by d (is_close (head_of t.0.kind)) t.1) >>= λ v. Ok (f, v))
  last_after p d s a b c f w i x less (Ok t) q = last_closed p d s t.0 a b c t.1 f w i x less (came p c t q) (is_close (head_of t.0.kind)) refl
  last_after p d s a b c f w i x less (Err e) q = breaks.after_last n p d s a b c f e w i x (missed p c e q)

  last_form : (p d : ℕ) (s : Seen) (a b : At) → Comes a s b → item_of true (head_of s.kind) ≡ items.Form
      → (o : Result (Form × At) ReadFault) → FormIs n s b o → LastIs n p d a (o >>= λ x. closing_of p d x.1 >>= λ v. Ok (x.0, v))
  last_form p d s a b w i (Ok x) g = last_after p d s a b x.1 x.0 w i g.0 g.1 (token_in p (next_of x.1)) refl
  last_form p d s a b w i (Err e) g = breaks.in_last n p d s a b e w i g

  last_item : (p d : ℕ) (s : Seen) (a b : At) → Comes a s b → (i : Item) → item_of true (head_of s.kind) ≡ i
      → LastIs n p d a (at_item i (Err (fault d faults.BadDot)) (Err (fault d faults.BadDot)) (r s b >>= λ x. closing_of p d x.1 >>= λ v. Ok (x.0, v)))
  last_item p d s a b w items.Close i = breaks.no_form n p d s a b w i
  last_item p d s a b w items.Dot i = breaks.two_dots n p d s a b w i
  last_item p d s a b w items.Form i = last_form p d s a b w i (r s b) (ih s b)

  last_sound : (p d : ℕ) (a : At) → LastIs n p d a (tail_by r p d a)
  unfolding tail_by
  last_sound p d a = by_token (token_in p (next_of a)) refl
    where
      by_token : (o : Result (Seen × At) ReadFault) → token_in p (next_of a) ≡ o
          → LastIs n p d a (o >>= λ t. at_item (item_of true (head_of t.0.kind)) (Err (fault d faults.BadDot)) (Err (fault d faults.BadDot)) (r t.0 t.1 >>= λ x. closing_of p d x.1 >>= λ v. Ok (x.0, v)))
      by_token (Err e) q = breaks.after_dot n p d a e (missed p a e q)
      by_token (Ok t) q = last_item p d t.0 a t.1 (came p a t q) (item_of true (head_of t.0.kind)) refl

  more_parts : (some : Bool) (p : ℕ) (s : Seen) (a b c : At) (f : Form) → Comes a s b → item_of some (head_of s.kind) ≡ items.Form → Spells n s b f c
      → length c.rest ≤ length b.rest → (o : Result (Parts × At) ReadFault) → PartsIs n true p c o → PartsIs n some p a (with_forms (f ∷ []) o)
  more_parts some p s a b c f w i x less (Ok y) g = (spells.more n some s a b c y.1 f y.0 w i x g.0, omega (arith, comes_less a b s w, g.1))
  more_parts some p s a b c f w i x less (Err e) g = breaks.later n some p s a b c f e w i x g

  form_parts : (some : Bool) (p : ℕ) (s : Seen) (a b : At) → Comes a s b → item_of some (head_of s.kind) ≡ items.Form → (most : ℕ) → length b.rest < most
      → ((c : At) → length c.rest < most → PartsIs n true p c (items_by r true most p c))
      → (o : Result (Form × At) ReadFault) → FormIs n s b o → PartsIs n some p a (o >>= λ x. with_forms (x.0 ∷ []) (items_by r true most p x.1))
  form_parts some p s a b w i most room later (Ok x) g =
      let less : length x.1.rest ≤ length b.rest = g.1 in
      more_parts some p s a b x.1 x.0 w i g.0 less (items_by r true most p x.1) (later x.1 (omega arith))
  form_parts some p s a b w i most room later (Err e) g = breaks.here n some p s a b e w i g

  tail_parts : (some : Bool) (p : ℕ) (s : Seen) (a b : At) → Comes a s b → item_of some (head_of s.kind) ≡ items.Dot
      → (o : Result (Form × At) ReadFault) → LastIs n p s.start b o → PartsIs n some p a (with_tail o)
  tail_parts some p s a b w i (Ok x) g = (spells.dot n some s a b x.1 x.0 w i g.0, omega (arith, comes_less a b s w, g.1))
  tail_parts some p s a b w i (Err e) g = breaks.dot n some p s a b e w i g

  item_parts : (some : Bool) (p : ℕ) (s : Seen) (a b : At) → Comes a s b → (most : ℕ) → length b.rest < most
      → ((c : At) → length c.rest < most → PartsIs n true p c (items_by r true most p c))
      → (i : Item) → item_of some (head_of s.kind) ≡ i
      → PartsIs n some p a (at_item i (Ok (flat [], b)) (with_tail (tail_by r p s.start b)) (r s b >>= λ x. with_forms (x.0 ∷ []) (items_by r true most p x.1)))
  item_parts some p s a b w most room later items.Close i = (spells.close n some s a b w i, omega (arith, comes_less a b s w))
  item_parts some p s a b w most room later items.Dot i = tail_parts some p s a b w i (tail_by r p s.start b) (last_sound p s.start b)
  item_parts some p s a b w most room later items.Form i = form_parts some p s a b w i most room later (r s b) (ih s b)

  parts_sound : (some : Bool) (most p : ℕ) (a : At) → length a.rest < most → PartsIs n some p a (items_by r some most p a)
  unfolding items_by
  parts_sound some zero p a room = absurd (omega arith)
  parts_sound some (suc most) p a room = by_token (token_in p (next_of a)) refl (λ c h. parts_sound true most p c h)
    where
      by_token : (o : Result (Seen × At) ReadFault) → token_in p (next_of a) ≡ o
          → ((c : At) → length c.rest < most → PartsIs n true p c (items_by r true most p c))
          → PartsIs n some p a (o >>= λ t. at_item (item_of some (head_of t.0.kind)) (Ok (flat [], t.1)) (with_tail (tail_by r p t.0.start t.1)) (r t.0 t.1 >>= λ x. with_forms (x.0 ∷ []) (items_by r true most p x.1)))
      by_token (Err e) q later = breaks.in_list n some p a e (missed p a e q)
      by_token (Ok t) q later =
          let w : Comes a t.0 t.1 = came p a t q in
          item_parts some p t.0 a t.1 w most (omega (arith, comes_less a t.1 t.0 w)) later (item_of some (head_of t.0.kind)) refl

  mark_form : (s t : Seen) (a b : At) (m : Mark) → head_of s.kind ≡ heads.Under m → Comes a t b → (o : Result (Form × At) ReadFault) → FormIs n t b o
      → FormIs (suc n) s a (placed s.start (o >>= λ x. Ok (under m x.0, x.1)))
  mark_form s t a b m h w (Ok x) g = (spells.marked n s t a b x.1 m x.0 h w g.0, omega (arith, comes_less a b t w, g.1))
  mark_form s t a b m h w (Err e) g = breaks.marked n s t a b m e h w g

  mark_sound : (s : Seen) (a : At) (m : Mark) → head_of s.kind ≡ heads.Under m → (o : Result (Seen × At) ReadFault) → token_in s.start (next_of a) ≡ o
      → FormIs (suc n) s a (placed s.start (o >>= λ t. r t.0 t.1 >>= λ x. Ok (under m x.0, x.1)))
  mark_sound s a m h (Err e) q = breaks.after_mark n s a m e h (missed s.start a e q)
  mark_sound s a m h (Ok t) q = mark_form s t.0 a t.1 m h (came s.start a t q) (r t.0 t.1) (ih t.0 t.1)

  list_sound : (s : Seen) (a : At) → head_of s.kind ≡ heads.Open → (o : Result (Parts × At) ReadFault) → PartsIs n false s.start a o
      → FormIs (suc n) s a (placed s.start (lists o))
  list_sound s a h (Ok x) g = (spells.list n s a x.1 x.0 h g.0, g.1)
  list_sound s a h (Err e) g = breaks.list n s a e h g

leaf_sound : (n : ℕ) (s : Seen) (a : At) (l : Leaf) → head_of s.kind ≡ heads.Leaf l → (o : Result Body ReadKind) → leaf_of l s.text ≡ o
    → FormIs n s a (placed s.start (at_place s.start o >>= λ v. Ok (v, a)))
leaf_sound n s a l h (Ok v) q = (spells.leaf n s a l v h q, omega arith)
leaf_sound n s a l h (Err k) q = breaks.bad_leaf n s a l k h q

head_sound : (n : ℕ) → ((m : ℕ) → n ≡ suc m → (s : Seen) (a : At) → FormIs m s a (form_of m s a)) → (s : Seen) (a : At) (h : Head) → head_of s.kind ≡ h
    → FormIs n s a (placed s.start (body_by h (reader_of n) s a))
unfolding reader_of
head_sound n ih s a (heads.Leaf l) h = leaf_sound n s a l h (leaf_of l s.text) refl
head_sound zero ih s a (heads.Under m) h = breaks.deep_mark s a m h
head_sound (suc n) ih s a (heads.Under m) h = mark_sound n (form_of n) (ih n refl) s a m h (token_in s.start (next_of a)) refl
head_sound zero ih s a heads.Open h = breaks.deep_list s a h
head_sound (suc n) ih s a heads.Open h = list_sound n (form_of n) (ih n refl) s a h _ (parts_sound n (form_of n) (ih n refl) false (suc (length a.rest)) s.start a (omega arith))
head_sound n ih s a heads.Close h = breaks.stray n s a h
head_sound n ih s a heads.Dot h = breaks.lone_dot n s a h

pub form_sound : (n : ℕ) (s : Seen) (a : At) → FormIs n s a (form_of n s a)
form_sound zero s a = head_sound zero (λ m e. absurd (omega arith)) s a (head_of s.kind) refl
form_sound (suc n) s a = head_sound (suc n) (λ m e t b. let i : n ≡ m = omega arith in rw (← i) (form_sound n t b)) s a (head_of s.kind) refl

pub items_sound : (n : ℕ) (some : Bool) (most p : ℕ) (a : At) → length a.rest < most → PartsIs n some p a (items_by (form_of n) some most p a)
items_sound n some most p a room = parts_sound n (form_of n) (form_sound n) some most p a room

pub tail_sound : (n p d : ℕ) (a : At) → LastIs n p d a (tail_by (form_of n) p d a)
tail_sound n p d a = last_sound n (form_of n) (form_sound n) p d a
