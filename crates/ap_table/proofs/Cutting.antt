-- Seats that are cut, one after another.
use Rattle.std.proofs.Common.{◌≡◌, ℕ, zero, suc, ◌+◌, ◌≤◌, List, [], ◌∷◌, ◌++◌, Some, None, length, take, refl, sym, ap, subst, ◌∙◌, arith, inl, inr, length-append}
use Rattle.std.proofs.lemmas.Bool.{cases_lt}
use Rattle.std.specs.List.{slice_get}
use Rattle.ap_table.specs.declared.link.Link.{Link}
use Rattle.ap_table.specs.declared.seats.AncestorSeat.{AncestorSeat}
use Rattle.ap_table.specs.declared.seats.Beside.{Beside}
use Rattle.ap_table.specs.Kept.{Kept}
use Rattle.ap_table.specs.Seated.{IsCut, kept_at, AreCut, AreRows}
use Rattle.ap_table.proofs.Keeping.{some_is}
use Rattle.ap_table.proofs.Sitting.{at_left, at_right, is_below}

abbrev CutFrom : List Beside → Link → AncestorSeat → Type 0
CutFrom bs l s = (v : Kept) × (kept_at bs l.family ≡ Some v) × IsCut v l s

cut_none : (bs : List Beside) (j : ℕ) (ls : List Link) (ss : List AncestorSeat) → j ≡ 0 → AreCut bs [] ss → AreCut bs (take j ls) ss
cut_none bs zero ls ss e a = a
cut_none bs (suc j) ls ss e a = absurd (omega arith)

cut_after : (bs : List Beside) (i j : ℕ) (ls : List Link) (l : Link) (ss : List AncestorSeat) (s : AncestorSeat) → j ≡ i + 1 → slice_get ls i ≡ Some l → CutFrom bs l s → AreCut bs (take i ls) ss → AreCut bs (take j ls) (ss ++ s ∷ [])
cut_after bs i zero ls l ss s is e c a = absurd (omega arith)
cut_after bs i (suc j) [] l ss s is e c a = absurd (cc)
cut_after bs zero (suc j) (y ∷ ys) l [] s is e c a = (subst (λ k. CutFrom bs k s) (sym (some_is y l e)) c, cut_none bs j ys [] (omega arith) tt)
cut_after bs zero (suc j) (y ∷ ys) l (t ∷ ts) s is e c a = absurd a
cut_after bs (suc i) (suc j) (y ∷ ys) l [] s is e c a = absurd a
cut_after bs (suc i) (suc j) (y ∷ ys) l (t ∷ ts) s is e c a = (a.0, cut_after bs i j ys l ts s (omega arith) e c a.1)

pub cut_next : (bs : List Beside) (i : ℕ) (ls : List Link) (l : Link) (first : AncestorSeat) (cut new : List AncestorSeat) (s : AncestorSeat) → slice_get ls i ≡ Some l
    → CutFrom bs l s → ((rest : List AncestorSeat) × (cut ≡ first ∷ rest) × AreCut bs (take i ls) rest) → new ≡ cut ++ s ∷ []
    → (rest : List AncestorSeat) × (new ≡ first ∷ rest) × AreCut bs (take (i + 1) ls) rest
cut_next bs i ls l first cut new s e c a n =
    (a.0 ++ s ∷ [], n ∙ ap (λ (x : List AncestorSeat). x ++ s ∷ []) a.1, cut_after bs i (i + 1) ls l a.0 s refl e c a.2)

cut_whole : (bs : List Beside) (i : ℕ) (ls : List Link) (ss : List AncestorSeat) → length ls ≤ i → AreCut bs (take i ls) ss → AreCut bs ls ss
cut_whole bs zero [] ss h a = a
cut_whole bs (suc i) [] ss h a = a
cut_whole bs zero (y ∷ ys) ss h a = absurd (omega arith)
cut_whole bs (suc i) (y ∷ ys) [] h a = absurd a
cut_whole bs (suc i) (y ∷ ys) (s ∷ ss) h a = (a.0, cut_whole bs i ys ss (omega arith) a.1)

pub cut_every : (bs : List Beside) (i : ℕ) (ls : List Link) (first : AncestorSeat) (cut : List AncestorSeat) → length ls ≤ i → ((rest : List AncestorSeat) × (cut ≡ first ∷ rest) × AreCut bs (take i ls) rest)
    → (rest : List AncestorSeat) × (cut ≡ first ∷ rest) × AreCut bs ls rest
cut_every bs i ls first cut h a = (a.0, a.1, cut_whole bs i ls a.0 h a.2)

pub no_rows : (bs : List Beside) (path : List Link) (family : ℕ) (own : Kept) (rows : List Beside) → rows ≡ [] → AreRows bs path family own rows
no_rows bs path family own [] e i b at = absurd (cc)
no_rows bs path family own (x ∷ xs) e i b at = absurd (cc)

pub row_next : (bs : List Beside) (path : List Link) (family : ℕ) (own : Kept) (rows new : List Beside) (place : ℕ) (s : AncestorSeat) (job : List AncestorSeat) (b : Beside)
    → length rows ≡ place → new ≡ rows ++ b ∷ [] → b.kept ≡ None → b.job ≡ Some job → IsCut own (record { family = family; place = place }) s
    → ((rest : List AncestorSeat) × (job ≡ s ∷ rest) × AreCut bs path rest) → AreRows bs path family own rows → AreRows bs path family own new
row_next bs path family own rows new place s job b long is none has cut rest all i c at =
    let at' : slice_get (rows ++ b ∷ []) i ≡ Some c = ap (λ (xs : List Beside). slice_get xs i) (sym is) ∙ at in
    let low = is_below (rows ++ b ∷ []) i c at' in
    let more = length-append rows (b ∷ []) in
    elim (cases_lt i (length rows)) [
      | inl h ↦ all i c (sym (at_left rows (b ∷ []) i h) ∙ at')
      | inr h ↦
          let here : i ≡ length rows + 0 = omega arith in
          let same : b ≡ c = some_is b c (sym (at_right rows (b ∷ []) 0 i here) ∙ at') in
          let place_is : place ≡ i = omega arith in (
            ap (λ (y : Beside). y.kept) (sym same) ∙ none,
            (s, rest.0, ap (λ (y : Beside). y.job) (sym same) ∙ (has ∙ ap (λ (x : List AncestorSeat). Some x) rest.1), subst (λ (p : ℕ). IsCut own (record { family = family; place = p }) s) place_is cut, rest.2),
          )
    ]
