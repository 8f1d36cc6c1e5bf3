-- What the grammar says is what the function reads.
use Rattle.std.proofs.Common.{◌≡◌, ℕ, ◌-◌, ◌<◌, ◌≤◌, Bool, true, false, [], ◌∷◌, length, Result, Ok, Err, zero, suc, ap, subst, ◌∙◌, arith}
use Rattle.ap_tokens.specs.Gaps.{At}
use Rattle.ap_tokens.specs.Tokens.{Seen, next_of}
use Rattle.ap_reader.specs.declared.fault.ReadKind.{ReadKind}
use Rattle.ap_reader.specs.declared.fault.ReadKind.TheVariants as faults
use Rattle.ap_reader.specs.declared.form.Form.{Form}
use Rattle.ap_reader.specs.declared.form.Body.{Body}
use Rattle.ap_reader.specs.declared.reading.Mark.{Mark}
use Rattle.ap_reader.specs.declared.reading.Head.{Head}
use Rattle.ap_reader.specs.declared.reading.Head.TheVariants as heads
use Rattle.ap_reader.specs.declared.reading.Item.{Item}
use Rattle.ap_reader.specs.declared.reading.Item.TheVariants as items
use Rattle.ap_reader.specs.Faults.{ReadFault, fault, at_place}
use Rattle.ap_reader.specs.Heads.{head_of, item_of, is_close, under, token_in, Parts, flat}
use Rattle.ap_reader.specs.Reading.{◌>>=◌, at_item, closing_by, closing_of, tail_by, with_forms, with_tail, items_by, lists, placed, body_by, reader_of, form_of, tail_of}
use Rattle.ap_reader.specs.Grammar.{Comes, Spells, SpellsAll, SpellsLast}
use Rattle.ap_reader.specs.Grammar as spells
use Rattle.ap_reader.specs.Breaks.{Missing, Breaks, BreaksAll, BreaksLast}
use Rattle.ap_reader.specs.Breaks as breaks
use Rattle.ap_reader.proofs.Tokens.{comes, misses, comes_less}
use Rattle.ap_reader.proofs.Sound.{FormIs, form_sound}

abbrev FormRead : Type 0
FormRead = Result (Form × At) ReadFault

abbrev PartsRead : Type 0
PartsRead = Result (Parts × At) ReadFault

-- a form leaves no more than it found
pub form_less : (n : ℕ) (s : Seen) (a b : At) (f : Form) → ◌≡◌ {A = FormRead} (form_of n s a) (Ok (f, b)) → length b.rest ≤ length a.rest
form_less n s a b f e = (subst (λ (r : FormRead). FormIs n s a r) e (form_sound n s a)).1

-- one step of each function
pub form_step : (n : ℕ) (s : Seen) (a : At) (h : Head) → head_of s.kind ≡ h → form_of n s a ≡ placed s.start (body_by h (reader_of n) s a)
form_step n s a h e = ap (λ (k : Head). placed s.start (body_by k (reader_of n) s a)) e

pub items_step : (n : ℕ) (some : Bool) (p m : ℕ) (s : Seen) (a b : At) (i : Item) → Comes a s b → item_of some (head_of s.kind) ≡ i
    → items_by (form_of n) some (suc m) p a ≡ at_item i (Ok (flat [], b)) (with_tail (tail_of n p s.start b)) (form_of n s b >>= λ x. with_forms (x.0 ∷ []) (items_by (form_of n) true m p x.1))
unfolding items_by
items_step n some p m s a b i w e =
    ap (λ (o : Result (Seen × At) ReadFault). o >>= λ t. at_item (item_of some (head_of t.0.kind)) (Ok (flat [], t.1)) (with_tail (tail_of n p t.0.start t.1)) (form_of n t.0 t.1 >>= λ x. with_forms (x.0 ∷ []) (items_by (form_of n) true m p x.1))) (comes p a b s w)
    ∙ ap (λ (k : Item). at_item k (Ok (flat [], b)) (with_tail (tail_of n p s.start b)) (form_of n s b >>= λ x. with_forms (x.0 ∷ []) (items_by (form_of n) true m p x.1))) e

pub items_missing : (n : ℕ) (some : Bool) (p m : ℕ) (a : At) (e : ReadFault) → token_in p (next_of a) ≡ Err e → items_by (form_of n) some (suc m) p a ≡ Err e
unfolding items_by
items_missing n some p m a e q =
    ap (λ (o : Result (Seen × At) ReadFault). o >>= λ t. at_item (item_of some (head_of t.0.kind)) (Ok (flat [], t.1)) (with_tail (tail_of n p t.0.start t.1)) (form_of n t.0 t.1 >>= λ x. with_forms (x.0 ∷ []) (items_by (form_of n) true m p x.1))) q

tail_step : (n p d : ℕ) (s : Seen) (a b : At) (i : Item) → Comes a s b → item_of true (head_of s.kind) ≡ i
    → tail_of n p d a ≡ at_item i (Err (fault d faults.BadDot)) (Err (fault d faults.BadDot)) (form_of n s b >>= λ x. closing_of p d x.1 >>= λ v. Ok (x.0, v))
unfolding tail_by
tail_step n p d s a b i w e =
    ap (λ (o : Result (Seen × At) ReadFault). o >>= λ t. at_item (item_of true (head_of t.0.kind)) (Err (fault d faults.BadDot)) (Err (fault d faults.BadDot)) (form_of n t.0 t.1 >>= λ x. closing_of p d x.1 >>= λ v. Ok (x.0, v))) (comes p a b s w)
    ∙ ap (λ (k : Item). at_item k (Err (fault d faults.BadDot)) (Err (fault d faults.BadDot)) (form_of n s b >>= λ x. closing_of p d x.1 >>= λ v. Ok (x.0, v))) e

tail_missing : (n p d : ℕ) (a : At) (e : ReadFault) → Missing p a e → tail_of n p d a ≡ Err e
unfolding tail_by
tail_missing n p d a e q =
    ap (λ (o : Result (Seen × At) ReadFault). o >>= λ t. at_item (item_of true (head_of t.0.kind)) (Err (fault d faults.BadDot)) (Err (fault d faults.BadDot)) (form_of n t.0 t.1 >>= λ x. closing_of p d x.1 >>= λ v. Ok (x.0, v))) (misses q)

-- after the form behind a dot
last_step : (n p d : ℕ) (s : Seen) (a b c : At) (f : Form) → Comes a s b → item_of true (head_of s.kind) ≡ items.Form → ◌≡◌ {A = FormRead} (form_of n s b) (Ok (f, c))
    → ◌≡◌ {A = FormRead} (tail_of n p d a) (closing_of p d c >>= λ v. Ok (f, v))
last_step n p d s a b c f w i g = tail_step n p d s a b items.Form w i ∙ ap (λ (o : FormRead). o >>= λ x. closing_of p d x.1 >>= λ v. Ok (x.0, v)) g

closing_comes : (p d : ℕ) (t : Seen) (c u : At) (k : Bool) → Comes c t u → is_close (head_of t.kind) ≡ k → closing_of p d c ≡ closing_by d k u
closing_comes p d t c u k w e =
    ap (λ (o : Result (Seen × At) ReadFault). o >>= λ x. closing_by d (is_close (head_of x.0.kind)) x.1) (comes p c u t w) ∙ ap (λ (q : Bool). closing_by d q u) e

closing_misses : (p d : ℕ) (c : At) (e : ReadFault) → Missing p c e → closing_of p d c ≡ Err e
closing_misses p d c e q = ap (λ (o : Result (Seen × At) ReadFault). o >>= λ x. closing_by d (is_close (head_of x.0.kind)) x.1) (misses q)

-- a bound that is large enough, as a successor
lowered : (n : ℕ) (some : Bool) (p m : ℕ) (c : At) → length c.rest < m → items_by (form_of n) some m p c ≡ items_by (form_of n) some (suc (m - 1)) p c
lowered n some p m c room = let e : m ≡ suc (m - 1) = omega arith in ap (λ k. items_by (form_of n) some k p c) e

mark_step : (n : ℕ) (s t : Seen) (a b : At) (m : Mark) → head_of s.kind ≡ heads.Under m → Comes a t b
    → ◌≡◌ {A = FormRead} (form_of (suc n) s a) (placed s.start (form_of n t b >>= λ x. Ok (under m x.0, x.1)))
unfolding reader_of
mark_step n s t a b m h w =
    form_step (suc n) s a (heads.Under m) h
    ∙ ap (λ (o : Result (Seen × At) ReadFault). placed s.start (o >>= λ u. form_of n u.0 u.1 >>= λ x. Ok (under m x.0, x.1))) (comes s.start a b t w)

mark_missing : (n : ℕ) (s : Seen) (a : At) (m : Mark) (e : ReadFault) → head_of s.kind ≡ heads.Under m → Missing s.start a e → ◌≡◌ {A = FormRead} (form_of (suc n) s a) (Err e)
unfolding reader_of
mark_missing n s a m e h q =
    form_step (suc n) s a (heads.Under m) h
    ∙ ap (λ (o : Result (Seen × At) ReadFault). placed s.start (o >>= λ u. form_of n u.0 u.1 >>= λ x. Ok (under m x.0, x.1))) (misses q)

list_step : (n : ℕ) (s : Seen) (a : At) → head_of s.kind ≡ heads.Open → ◌≡◌ {A = FormRead} (form_of (suc n) s a) (placed s.start (lists (items_by (form_of n) false (suc (length a.rest)) s.start a)))
unfolding reader_of
list_step n s a h = form_step (suc n) s a heads.Open h

deep_mark_step : (s : Seen) (a : At) (m : Mark) → head_of s.kind ≡ heads.Under m → ◌≡◌ {A = FormRead} (form_of zero s a) (Err (fault s.start faults.TooDeep))
unfolding reader_of
deep_mark_step s a m h = form_step zero s a (heads.Under m) h

deep_list_step : (s : Seen) (a : At) → head_of s.kind ≡ heads.Open → ◌≡◌ {A = FormRead} (form_of zero s a) (Err (fault s.start faults.TooDeep))
unfolding reader_of
deep_list_step s a h = form_step zero s a heads.Open h

mutual
  pub form_complete : {n : ℕ} {s : Seen} {a b : At} {f : Form} → Spells n s a f b → ◌≡◌ {A = FormRead} (form_of n s a) (Ok (f, b))
  form_complete (spells.leaf n s a l v h e) =
      form_step n s a (heads.Leaf l) h ∙ ap (λ (o : Result Body ReadKind). placed s.start (at_place s.start o >>= λ v. Ok (v, a))) e
  form_complete (spells.marked n s t a b c m f h w g) =
      mark_step n s t a b m h w ∙ ap (λ (o : FormRead). placed s.start (o >>= λ x. Ok (under m x.0, x.1))) (form_complete g)
  form_complete (spells.list n s a b x h g) =
      list_step n s a h ∙ ap (λ (o : PartsRead). placed s.start (lists o)) (items_complete g s.start (length a.rest) (omega arith))

  pub items_complete : {n : ℕ} {some : Bool} {a b : At} {x : Parts} → SpellsAll n some a x b → (p m : ℕ) → length a.rest ≤ m
      → ◌≡◌ {A = PartsRead} (items_by (form_of n) some (suc m) p a) (Ok (x, b))
  items_complete (spells.close n some s a b w i) p m room = items_step n some p m s a b items.Close w i
  items_complete (spells.dot n some s a b c f w i g) p m room =
      items_step n some p m s a b items.Dot w i ∙ ap (λ (o : FormRead). with_tail o) (last_complete g p s.start)
  items_complete (spells.more n some s a b c d f x w i g rest) p m room =
      let e : ◌≡◌ {A = FormRead} (form_of n s b) (Ok (f, c)) = form_complete g in
      let less : length c.rest ≤ length b.rest = form_less n s b c f e in
      let fewer : length b.rest < length a.rest = comes_less a b s w in
      items_step n some p m s a b items.Form w i
      ∙ (ap (λ (o : FormRead). o >>= λ x. with_forms (x.0 ∷ []) (items_by (form_of n) true m p x.1)) e
      ∙ ap (λ (o : PartsRead). with_forms (f ∷ []) o) (lowered n true p m c (omega arith) ∙ items_complete rest p (m - 1) (omega arith)))

  pub last_complete : {n : ℕ} {a d : At} {f : Form} → SpellsLast n a f d → (p dot : ℕ) → ◌≡◌ {A = FormRead} (tail_of n p dot a) (Ok (f, d))
  last_complete (spells.last n s t a b c d f w i g y h) p dot =
      last_step n p dot s a b c f w i (form_complete g) ∙ ap (λ (o : Result At ReadFault). o >>= λ v. Ok (f, v)) (closing_comes p dot t c d true y (ap is_close h))

mutual
  pub form_breaks : {n : ℕ} {s : Seen} {a : At} {e : ReadFault} → Breaks n s a e → ◌≡◌ {A = FormRead} (form_of n s a) (Err e)
  form_breaks (breaks.bad_leaf n s a l k h e) =
      form_step n s a (heads.Leaf l) h ∙ ap (λ (o : Result Body ReadKind). placed s.start (at_place s.start o >>= λ v. Ok (v, a))) e
  form_breaks (breaks.stray n s a h) = form_step n s a heads.Close h
  form_breaks (breaks.lone_dot n s a h) = form_step n s a heads.Dot h
  form_breaks (breaks.deep_mark s a m h) = deep_mark_step s a m h
  form_breaks (breaks.deep_list s a h) = deep_list_step s a h
  form_breaks (breaks.after_mark n s a m e h q) = mark_missing n s a m e h q
  form_breaks (breaks.marked n s t a b m e h w g) =
      mark_step n s t a b m h w ∙ ap (λ (o : FormRead). placed s.start (o >>= λ x. Ok (under m x.0, x.1))) (form_breaks g)
  form_breaks (breaks.list n s a e h g) =
      list_step n s a h ∙ ap (λ (o : PartsRead). placed s.start (lists o)) (items_breaks g (length a.rest) (omega arith))

  pub items_breaks : {n : ℕ} {some : Bool} {p : ℕ} {a : At} {e : ReadFault} → BreaksAll n some p a e → (m : ℕ) → length a.rest ≤ m
      → ◌≡◌ {A = PartsRead} (items_by (form_of n) some (suc m) p a) (Err e)
  items_breaks (breaks.in_list n some p a e q) m room = items_missing n some p m a e (misses q)
  items_breaks (breaks.dot n some p s a b e w i g) m room =
      items_step n some p m s a b items.Dot w i ∙ ap (λ (o : FormRead). with_tail o) (last_breaks g)
  items_breaks (breaks.here n some p s a b e w i g) m room =
      items_step n some p m s a b items.Form w i
      ∙ ap (λ (o : FormRead). o >>= λ x. with_forms (x.0 ∷ []) (items_by (form_of n) true m p x.1)) (form_breaks g)
  items_breaks (breaks.later n some p s a b c f e w i g rest) m room =
      let q : ◌≡◌ {A = FormRead} (form_of n s b) (Ok (f, c)) = form_complete g in
      let less : length c.rest ≤ length b.rest = form_less n s b c f q in
      let fewer : length b.rest < length a.rest = comes_less a b s w in
      items_step n some p m s a b items.Form w i
      ∙ (ap (λ (o : FormRead). o >>= λ x. with_forms (x.0 ∷ []) (items_by (form_of n) true m p x.1)) q
      ∙ ap (λ (o : PartsRead). with_forms (f ∷ []) o) (lowered n true p m c (omega arith) ∙ items_breaks rest (m - 1) (omega arith)))

  pub last_breaks : {n p d : ℕ} {a : At} {e : ReadFault} → BreaksLast n p d a e → ◌≡◌ {A = FormRead} (tail_of n p d a) (Err e)
  last_breaks (breaks.after_dot n p d a e q) = tail_missing n p d a e q
  last_breaks (breaks.no_form n p d s a b w i) = tail_step n p d s a b items.Close w i
  last_breaks (breaks.two_dots n p d s a b w i) = tail_step n p d s a b items.Dot w i
  last_breaks (breaks.in_last n p d s a b e w i g) =
      tail_step n p d s a b items.Form w i ∙ ap (λ (o : FormRead). o >>= λ x. closing_of p d x.1 >>= λ v. Ok (x.0, v)) (form_breaks g)
  last_breaks (breaks.after_last n p d s a b c f e w i g q) =
      last_step n p d s a b c f w i (form_complete g) ∙ ap (λ (o : Result At ReadFault). o >>= λ v. Ok (f, v)) (closing_misses p d c e q)
  last_breaks (breaks.two_forms n p d s t a b c u f w i g y k) =
      last_step n p d s a b c f w i (form_complete g) ∙ ap (λ (o : Result At ReadFault). o >>= λ v. Ok (f, v)) (closing_comes p d t c u false y k)
