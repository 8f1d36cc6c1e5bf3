-- Parts of printed texts one after another: what opens them, what follows them, and what closes a list.
use Rattle.std.proofs.Common.{◌≡◌, ℕ, ◌<◌, ◌⊎◌, inl, inr, Bool, true, false, ◌==◌, ◌||◌, ◌&&◌, not, List, [], ◌∷◌, ◌++◌, Option, Some, None, refl, sym, ap, subst, ◌∙◌, arith}
use Rattle.std.proofs.lemmas.Bool.Decides.{nat_tests}
use Rattle.std.specs.Ordering.{nat_cmp, ordering_then}
use Rattle.std.specs.declared.cmp.Ordering.{Ordering}
use Rattle.std.specs.declared.cmp.Ordering.TheVariants.{Less, Equal, Greater}
use mathlib.Core.List.{append_assoc}
use Rattle.ap_term.specs.Atoms.{is_plain, ends_atom, is_empty}
use Rattle.ap_term.specs.Printed.{list_text, spaced}
use Rattle.ap_term.specs.Compared.{bytes_order, follow, IsEnd, EndsPart, Decided, IsAtom, IsWhole, stands_alone, FirstIs, IsStart, start_of, OpensApart}
use Rattle.ap_term.specs.Starts.{arguments_text}
use Rattle.ap_term.proofs.Compares.{order-same, order-differ, decided, cmp-other, compared, then-kept, three, plain_atom, cmp-less, cmp-greater}

-- a byte that opens both texts is passed
pub behind_byte : (c : ℕ) (r : Ordering) (p : List ℕ) (x : Option ℕ) (q : List ℕ) (y : Option ℕ) → Decided r p x q y → Decided r (c ∷ p) x (c ∷ q) y
behind_byte c r p x q y h = (λ s t. order-same c c (p ++ follow x s) (q ++ follow y t) refl ∙ h.0 s t, h.1)

-- texts whose first bytes differ
first_differ : (c d c' d' : ℕ) (v p : List ℕ) (x : Option ℕ) (w q : List ℕ) (y : Option ℕ) → c' ≡ c → d' ≡ d → (c ≡ d → ⊥)
    → Decided (bytes_order (c ∷ v) (d ∷ w)) (c' ∷ p) x (d' ∷ q) y
first_differ c d c' d' v p x w q y e f ne =
    decided (nat_cmp c d) (bytes_order (c ∷ v) (d ∷ w)) (c' ∷ p) x (d' ∷ q) y (order-differ c d v w ne) (cmp-other c d ne)
    (λ s t. rw (e, f) (order-differ c d (p ++ follow x s) (q ++ follow y t) ne))

pub bytes_differ : (c d : ℕ) (r : Ordering) (p : List ℕ) (x : Option ℕ) (q : List ℕ) (y : Option ℕ) → (c ≡ d → ⊥) → r ≡ nat_cmp c d → Decided r (c ∷ p) x (d ∷ q) y
bytes_differ c d r p x q y ne e =
    decided (nat_cmp c d) r (c ∷ p) x (d ∷ q) y e (cmp-other c d ne) (λ s t. order-differ c d (p ++ follow x s) (q ++ follow y t) ne)

-- the same of texts that are equal to these
pub along : (r : Ordering) (p p' : List ℕ) (x : Option ℕ) (q q' : List ℕ) (y : Option ℕ) → p ≡ p' → q ≡ q' → Decided r p' x q' y → Decided r p x q y
along r p p' x q q' y e f h = subst (λ l. Decided r l x q y) (sym e) (subst (λ l. Decided r p' x l y) (sym f) h)

-- a part and what follows it
through : (r : Ordering) (p : List ℕ) (c' : ℕ) (p' : List ℕ) (q : List ℕ) (d' : ℕ) (q' : List ℕ) (c d : ℕ) → Decided r p (Some c) q (Some d)
    → c' ≡ c → d' ≡ d → (s t : List ℕ) → bytes_order ((p ++ c' ∷ p') ++ s) ((q ++ d' ∷ q') ++ t) ≡ ordering_then r (bytes_order (p' ++ s) (q' ++ t))
through r p c' p' q d' q' c d h e f s t =
    ap (λ l. bytes_order l ((q ++ d' ∷ q') ++ t)) (append_assoc p (c' ∷ p') s)
    ∙ ap (bytes_order (p ++ c' ∷ (p' ++ s))) (append_assoc q (d' ∷ q') t)
    ∙ ap (λ n. bytes_order (p ++ n ∷ (p' ++ s)) (q ++ d' ∷ (q' ++ t))) e
    ∙ ap (λ n. bytes_order (p ++ c ∷ (p' ++ s)) (q ++ n ∷ (q' ++ t))) f
    ∙ h.0 (p' ++ s) (q' ++ t)

-- where the parts are the same, what follows them decides
pub passed : (r : Ordering) (p p' q q' : List ℕ) (c d : ℕ) → Decided r p (Some c) q (Some d) → FirstIs c p' → FirstIs d q' → r ≡ Equal
    → (s t : List ℕ) → bytes_order ((p ++ p') ++ s) ((q ++ q') ++ t) ≡ bytes_order (p' ++ s) (q' ++ t)
passed r p [] q q' c d h f g e s t = absurd f
passed r p (c' ∷ p') q [] c d h f g e s t = absurd g
passed r p (c' ∷ p') q (d' ∷ q') c d h f g e s t =
    let ends : Some c ≡ Some d = h.1 e in
    let bytes : c ≡ d = cc in
    through r p c' p' q d' q' c d h f g s t
    ∙ ap (λ o. ordering_then o (bytes_order (p' ++ s) (q' ++ t))) e
    ∙ sym (order-same c' d' (p' ++ s) (q' ++ t) (f ∙ bytes ∙ sym g))

pub parts_same : (r r' : Ordering) (p p' q q' : List ℕ) (c d : ℕ) (x y : Option ℕ) → Decided r p (Some c) q (Some d) → FirstIs c p' → FirstIs d q' → r ≡ Equal
    → Decided r' p' x q' y → Decided r' (p ++ p') x (q ++ q') y
parts_same r r' p p' q q' c d x y h f g e k = (λ s t. passed r p p' q q' c d h f g e (follow x s) (follow y t) ∙ k.0 s t, k.1)

-- where they differ, they decide
pub parts_apart : (r : Ordering) (p p' q q' : List ℕ) (c d : ℕ) (x y : Option ℕ) → Decided r p (Some c) q (Some d) → FirstIs c p' → FirstIs d q' → (r ≡ Equal → ⊥)
    → Decided r (p ++ p') x (q ++ q') y
parts_apart r p [] q q' c d x y h f g ne = absurd f
parts_apart r p (c' ∷ p') q [] c d x y h f g ne = absurd g
parts_apart r p (c' ∷ p') q (d' ∷ q') c d x y h f g ne =
    decided r r (p ++ c' ∷ p') x (q ++ d' ∷ q') y refl ne
    (λ s t. through r p c' p' q d' q' c d h f g (follow x s) (follow y t) ∙ sym (then-kept r (bytes_order (p' ++ follow x s) (q' ++ follow y t)) ne))

-- a text that is an atom, or is told by its opening byte
abbrev pub Unopened : List ℕ → Type 0
Unopened [] = ⊥
Unopened (c ∷ cs) = (c ≡ 39 → ⊥) × (c ≡ 40 → ⊥)

abbrev IsPart : Option ℕ → List ℕ → Type 0
IsPart None p = IsAtom p × Unopened p
IsPart (Some c) p = ((c ≡ 39) ⊎ (c ≡ 40)) × FirstIs c p

pub alone_unopened : (p : List ℕ) → stands_alone p ≡ true → Unopened p
alone_unopened [] h = absurd (cc)
alone_unopened (c ∷ cs) h = (λ e. by c (is_empty cs) (inl e) h, λ e. by c (is_empty cs) (inr e) h)
  where
    by : (c : ℕ) (b : Bool) → (c ≡ 39) ⊎ (c ≡ 40) → not (c == 39 || c == 40 || (c == 46 && b)) ≡ true → ⊥
    by c b e k = grind (arith, nat_tests)

start_part : (o : Option ℕ) (p : List ℕ) → IsStart o p → IsPart o p
start_part None p h = (h.atom, alone_unopened p h.alone)
start_part (Some c) p h = h

other_byte : (c d : ℕ) → (c ≡ 39 → ⊥) × (c ≡ 40 → ⊥) → (d ≡ 39) ⊎ (d ≡ 40) → c ≡ d → ⊥
other_byte c d h (inl e) k = h.0 (k ∙ e)
other_byte c d h (inr e) k = h.1 (k ∙ e)

parts_compared : (o : Option ℕ) (p : List ℕ) (x : Option ℕ) (u : Option ℕ) (q : List ℕ) (y : Option ℕ) → IsPart o p → IsPart u q → OpensApart o u → EndsPart x → EndsPart y
    → Decided (bytes_order (start_of o p ++ follow x []) (start_of u q ++ follow y [])) p x q y
parts_compared None p x None q y h k apart ex ey = compared p x q y h.0 k.0 ex ey
parts_compared None [] x (Some d) q y h k apart ex ey = absurd h.1
parts_compared None (c ∷ p) x (Some d) [] y h k apart ex ey = absurd k.1
parts_compared None (c ∷ p) x (Some d) (e ∷ q) y h k apart ex ey =
    first_differ c d c e (p ++ follow x []) p x (follow y []) q y refl k.1 (other_byte c d h.1 k.0)
parts_compared (Some c) [] x u q y h k apart ex ey = absurd h.1
parts_compared (Some c) (e ∷ p) x None [] y h k apart ex ey = absurd k.1
parts_compared (Some c) (e ∷ p) x None (d ∷ q) y h k apart ex ey =
    first_differ c d e d (follow x []) p x (q ++ follow y []) q y h.1 refl (λ n. other_byte d c k.1 h.0 (sym n))
parts_compared (Some c) (e ∷ p) x (Some d) [] y h k apart ex ey = absurd k.1
parts_compared (Some c) (e ∷ p) x (Some d) (f ∷ q) y h k apart ex ey =
    first_differ c d e f (follow x []) p x (follow y []) q y h.1 k.1 apart

-- texts that open with different bytes, or are atoms, compare by what they open with
pub starts_compared : (r : Ordering) (v w : List ℕ) (o : Option ℕ) (p : List ℕ) (x : Option ℕ) (u : Option ℕ) (q : List ℕ) (y : Option ℕ)
    → r ≡ bytes_order v w → v ≡ start_of o p ++ follow x [] → w ≡ start_of u q ++ follow y []
    → IsStart o p → IsStart u q → OpensApart o u → EndsPart x → EndsPart y → Decided r p x q y
starts_compared r v w o p x u q y e f g h k apart ex ey =
    subst (λ z. Decided z p x q y) (sym (e ∙ ap (λ l. bytes_order l w) f ∙ ap (bytes_order (start_of o p ++ follow x [])) g))
    (parts_compared o p x u q y (start_part o p h) (start_part u q k) apart ex ey)

-- the text of an atom, and one that its first byte opens
pub whole_start : (o : Option ℕ) (p q : List ℕ) → o ≡ None → p ≡ q → IsWhole q → IsStart o p
whole_start o p q e f h = subst (λ u. IsStart u p) (sym e) (subst IsWhole (sym f) h)

pub opened_start : (o : Option ℕ) (p : List ℕ) (c : ℕ) (more : List ℕ) → o ≡ Some c → p ≡ c ∷ more → (c ≡ 39) ⊎ (c ≡ 40) → IsStart o p
opened_start o p c more e f h = subst (λ u. IsStart u p) (sym e) (h, subst (FirstIs c) (sym f) refl)

dot_part : IsPart None (46 ∷ [])
unfolding is_plain ends_atom
dot_part = (plain_atom 46 [] refl refl, (λ e. omega (arith, e), λ e. omega (arith, e)))

apart_none : (o : Option ℕ) → OpensApart o None
apart_none None = tt
apart_none (Some c) = tt

-- a text against a dot and a space
pub dot_right : (r : Ordering) (v w : List ℕ) (o : Option ℕ) (p : List ℕ) (c : ℕ) → r ≡ bytes_order v w → v ≡ start_of o p ++ c ∷ [] → w ≡ 46 ∷ 32 ∷ [] → IsStart o p → IsEnd c
    → Decided r p (Some c) (46 ∷ []) (Some 32)
dot_right r v w o p c e f g h end =
    subst (λ z. Decided z p (Some c) (46 ∷ []) (Some 32)) (sym (e ∙ ap (λ l. bytes_order l w) f ∙ ap (bytes_order (start_of o p ++ c ∷ [])) g))
    (parts_compared o p (Some c) None (46 ∷ []) (Some 32) (start_part o p h) dot_part (apart_none o) end (inl refl))

pub dot_left : (r : Ordering) (v w : List ℕ) (o : Option ℕ) (p : List ℕ) (c : ℕ) → r ≡ bytes_order v w → v ≡ 46 ∷ 32 ∷ [] → w ≡ start_of o p ++ c ∷ [] → IsStart o p → IsEnd c
    → Decided r (46 ∷ []) (Some 32) p (Some c)
dot_left r v w o p c e f g h end =
    subst (λ z. Decided z (46 ∷ []) (Some 32) p (Some c)) (sym (e ∙ ap (λ l. bytes_order l w) f ∙ ap (bytes_order (46 ∷ 32 ∷ [])) g))
    (parts_compared None (46 ∷ []) (Some 32) o p (Some c) dot_part (start_part o p h) tt (inl refl) end)

bytes_order-equal : (xs ys : List ℕ) → bytes_order xs ys ≡ Equal → xs ≡ ys
bytes_order-equal [] [] h = refl
bytes_order-equal [] (y ∷ ys) h = absurd (cc)
bytes_order-equal (x ∷ xs) [] h = absurd (cc)
bytes_order-equal (x ∷ xs) (y ∷ ys) h = by (three x y) (bytes_order-equal xs ys)
  where
    by : (x < y) ⊎ ((x ≡ y) ⊎ (y < x)) → (bytes_order xs ys ≡ Equal → xs ≡ ys) → x ∷ xs ≡ y ∷ ys
    by (inl k) next = let e : Less ≡ Equal = sym (ap (λ o. ordering_then o (bytes_order xs ys)) (cmp-less x y k)) ∙ h in absurd (cc)
    by (inr (inl k)) next = let rest : xs ≡ ys = next (sym (order-same x y xs ys k) ∙ h) in cc
    by (inr (inr k)) next = let e : Greater ≡ Equal = sym (ap (λ o. ordering_then o (bytes_order xs ys)) (cmp-greater x y k)) ∙ h in absurd (cc)

no_dot : (o : Option ℕ) (p : List ℕ) (c : ℕ) → IsStart o p → start_of o p ++ c ∷ [] ≡ 46 ∷ 32 ∷ [] → ⊥
no_dot None [] c h e = let k : false ≡ true = h.alone in cc
no_dot None (a ∷ []) c h e =
    let first : a ≡ 46 = cc in
    let k : stands_alone (46 ∷ []) ≡ true = subst (λ n. stands_alone (n ∷ []) ≡ true) first h.alone in
    let m : false ≡ true = k in cc
no_dot None (a ∷ b ∷ []) c h e = cc
no_dot None (a ∷ b ∷ d ∷ p) c h e = cc
no_dot (Some d) p c h e = let first : d ≡ 46 = cc in by h.0 first
  where
    by : (d ≡ 39) ⊎ (d ≡ 40) → d ≡ 46 → ⊥
    by (inl k) f = omega arith
    by (inr k) f = omega arith

-- no value prints as a dot
pub not_dot_right : (r : Ordering) (v w : List ℕ) (o : Option ℕ) (p : List ℕ) (c : ℕ) → r ≡ bytes_order v w → v ≡ start_of o p ++ c ∷ [] → w ≡ 46 ∷ 32 ∷ [] → IsStart o p → r ≡ Equal → ⊥
not_dot_right r v w o p c e f g h k = no_dot o p c h (sym f ∙ bytes_order-equal v w (sym e ∙ k) ∙ g)

pub not_dot_left : (r : Ordering) (v w : List ℕ) (o : Option ℕ) (p : List ℕ) (c : ℕ) → r ≡ bytes_order v w → v ≡ 46 ∷ 32 ∷ [] → w ≡ start_of o p ++ c ∷ [] → IsStart o p → r ≡ Equal → ⊥
not_dot_left r v w o p c e f g h k = no_dot o p c h (sym g ∙ sym (bytes_order-equal v w (sym e ∙ k)) ∙ f)

-- two rests that stand after dots
pub dotted_same : (r r' : Ordering) (p q : List ℕ) (x y : Option ℕ) → Decided r p (Some 41) q (Some 41) → r ≡ Equal → Decided r' (41 ∷ []) x (41 ∷ []) y
    → Decided r' (32 ∷ 46 ∷ 32 ∷ (p ++ 41 ∷ [])) x (32 ∷ 46 ∷ 32 ∷ (q ++ 41 ∷ [])) y
dotted_same r r' p q x y h e k =
    behind_byte 32 r' (46 ∷ 32 ∷ (p ++ 41 ∷ [])) x (46 ∷ 32 ∷ (q ++ 41 ∷ [])) y
    (behind_byte 46 r' (32 ∷ (p ++ 41 ∷ [])) x (32 ∷ (q ++ 41 ∷ [])) y
    (behind_byte 32 r' (p ++ 41 ∷ []) x (q ++ 41 ∷ []) y
    (parts_same r r' p (41 ∷ []) q (41 ∷ []) 41 41 x y h refl refl e k)))

pub dotted_apart : (r : Ordering) (p q : List ℕ) (x y : Option ℕ) → Decided r p (Some 41) q (Some 41) → (r ≡ Equal → ⊥)
    → Decided r (32 ∷ 46 ∷ 32 ∷ (p ++ 41 ∷ [])) x (32 ∷ 46 ∷ 32 ∷ (q ++ 41 ∷ [])) y
dotted_apart r p q x y h ne =
    behind_byte 32 r (46 ∷ 32 ∷ (p ++ 41 ∷ [])) x (46 ∷ 32 ∷ (q ++ 41 ∷ [])) y
    (behind_byte 46 r (32 ∷ (p ++ 41 ∷ [])) x (32 ∷ (q ++ 41 ∷ [])) y
    (behind_byte 32 r (p ++ 41 ∷ []) x (q ++ 41 ∷ []) y
    (parts_apart r p (41 ∷ []) q (41 ∷ []) 41 41 x y h refl refl ne)))

-- a rest that goes on, and one that stands after a dot
pub on_dotted : (r : Ordering) (p p' q : List ℕ) (c : ℕ) (x y : Option ℕ) → Decided r p (Some c) (46 ∷ []) (Some 32) → FirstIs c p' → (r ≡ Equal → ⊥)
    → Decided r (32 ∷ (p ++ p')) x (32 ∷ 46 ∷ 32 ∷ (q ++ 41 ∷ [])) y
on_dotted r p p' q c x y h f ne =
    behind_byte 32 r (p ++ p') x (46 ∷ 32 ∷ (q ++ 41 ∷ [])) y (parts_apart r p p' (46 ∷ []) (32 ∷ (q ++ 41 ∷ [])) c 32 x y h f refl ne)

pub dotted_on : (r : Ordering) (p q q' : List ℕ) (c : ℕ) (x y : Option ℕ) → Decided r (46 ∷ []) (Some 32) q (Some c) → FirstIs c q' → (r ≡ Equal → ⊥)
    → Decided r (32 ∷ 46 ∷ 32 ∷ (p ++ 41 ∷ [])) x (32 ∷ (q ++ q')) y
dotted_on r p q q' c x y h f ne =
    behind_byte 32 r (46 ∷ 32 ∷ (p ++ 41 ∷ [])) x (q ++ q') y (parts_apart r (46 ∷ []) (32 ∷ (p ++ 41 ∷ [])) q q' 32 c x y h refl f ne)

spaced_closed : (ts : List (List ℕ)) → spaced ts ++ 41 ∷ [] ≡ arguments_text ts
spaced_closed [] = refl
spaced_closed (t ∷ ts) = ap (λ l. 32 ∷ l) (append_assoc t (spaced ts) (41 ∷ []) ∙ ap (λ l. t ++ l) (spaced_closed ts))

-- a call is its head and its arguments between parentheses
pub list_text-arguments : (head : List ℕ) (ts : List (List ℕ)) → list_text head ts ≡ 40 ∷ (head ++ arguments_text ts)
unfolding list_text
list_text-arguments head ts = ap (λ l. 40 ∷ l) (append_assoc head (spaced ts) (41 ∷ []) ∙ ap (λ l. head ++ l) (spaced_closed ts))
