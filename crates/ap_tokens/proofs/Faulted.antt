-- Where a fault is answered, and what is wrong there.
use Rattle.std.proofs.Common.{◌≡◌, ◌≢◌, ℕ, ◌+◌, ◌<◌, ◌≤◌, ◌==◌, ◌&&◌, ◌||◌, Bool, true, false, List, [], ◌∷◌, ◌++◌, length, take, drop, Option, Some, None, Result, Ok, Err, zero, suc, refl, sym, ap, subst, ◌∙◌, arith, append_assoc, length-append}
use Rattle.std.specs.Prelude.{if◌then◌else◌, is_some}
use Rattle.std.proofs.lemmas.List.{take-append-drop, length-take-le, length-drop}
use Rattle.ap_tokens.specs.declared.token.Kind.{Kind}
use Rattle.ap_tokens.specs.declared.token.Kind.TheVariants as kinds
use Rattle.ap_tokens.specs.declared.token.FaultKind.{FaultKind}
use Rattle.ap_tokens.specs.declared.token.FaultKind.TheVariants as faults
use Rattle.ap_tokens.specs.declared.token.TokenFault.{TokenFault}
use Rattle.ap_tokens.specs.declared.gap.Start.{Start}
use Rattle.ap_tokens.specs.declared.gap.Start.TheVariants as start
use Rattle.ap_tokens.specs.declared.gap.Step.{Step}
use Rattle.ap_tokens.specs.declared.gap.Step.TheVariants.{Pass, Stay, Open}
use Rattle.ap_tokens.specs.declared.hash.Base.{Base}
use Rattle.ap_tokens.specs.declared.hash.Hash.{Hash}
use Rattle.ap_tokens.specs.declared.hash.Hash.TheVariants as hash
use Rattle.ap_tokens.specs.declared.tokens.Lead.{Lead}
use Rattle.ap_tokens.specs.declared.tokens.Lead.TheVariants as lead
use Rattle.ap_tokens.specs.Scans.{run_len, string_len, comment_len, atom_len}
use Rattle.ap_tokens.specs.Hashes.{hash_of, char_name, is_number_of, where_true, hashed_by, hashed_of}
use Rattle.ap_tokens.specs.Gaps.{At, start_of, block_step, step_by, step_of, gap}
use Rattle.ap_tokens.specs.Tokens.{Seen, lead_of, text_by, atom_by, token_by, token_of, cut, token_here, then_token, next_of}
use Rattle.ap_tokens.specs.Grammar.{Comment, nothing, Quoted, Passes}
use Rattle.ap_tokens.specs.Laws.{Broken, Faulty}
use Rattle.ap_tokens.proofs.Passes.{gap_pass, gap_stay, gap_open}
use Rattle.ap_tokens.proofs.Gapped.{Started, started, Extends, extends, passes}
use Rattle.ap_tokens.proofs.Complete.{comment_complete, string_complete}
use Rattle.ap_tokens.proofs.Lexemes.{Led, led, Hashed, hashed}

-- a comment without an end
open_comment : (s : Start) (c : ℕ) (t : List ℕ) → Started s c t → step_by s (c ∷ t) ≡ Open → Broken faults.OpenComment (c ∷ t)
open_comment start.Block c t (p, (v, q)) e = (v, (ap (λ x. x ∷ t) p ∙ ap (λ y. 35 ∷ y) q, λ u h. no_end u h))
  where
    no_end : (u : List ℕ) → Comment 0 v u → ⊥
    no_end u h =
        let (n, (o, s)) = comment_complete h in
        let f : block_step (comment_len 0 (drop 1 t)) ≡ Pass (2 + n) = ap (λ y. block_step (comment_len 0 (drop 1 y))) q ∙ ap block_step o in
        let g : ◌≡◌ {A = Step} (Pass (2 + n)) Open = sym f ∙ e in
        cc
open_comment start.Line c t w e = absurd cc
open_comment start.Blank c t w e = absurd cc
open_comment start.Other c t w e = absurd cc

opened : (t : List ℕ) → step_of t ≡ Open → Broken faults.OpenComment t
opened [] e = absurd cc
opened (c ∷ t) e = open_comment (start_of (c ∷ t)) c t (started c t) e

pub gap_fault : (most p : ℕ) (t : List ℕ) (f : TokenFault) → length t < most → gap 0 p t ≡ Err f → Faulty p t f
gap_fault zero p t f h e = absurd (omega arith)
gap_fault (suc most) p t f h e =
    by_step (step_of t) refl (λ u. extends t u)
    (λ n low high s. gap_fault most (p + n) (drop n t) f (omega (arith, length-drop n t)) (sym (gap_pass n p t s low high) ∙ e))
  where
    by_step : (s : Step) → step_of t ≡ s → ((u : List ℕ) → Extends t u s) → ((n : ℕ) → 1 ≤ n → n ≤ length t → step_of t ≡ Pass n → Faulty (p + n) (drop n t) f) → Faulty p t f
    by_step (Pass n) s x later =
        let y = x [] in
        let q = later n y.1.0 y.0 s in
        let z = x q.rest in
        record {
          rest = q.rest;
          between = z.1.1 q.between;
          gone = take n t ++ q.gone;
          slice = sym (take-append-drop n t) ∙ (ap (λ u. take n t ++ u) q.slice ∙ sym (append_assoc (take n t) q.gone q.rest));
          place = q.place ∙ omega (arith, length-append (take n t) q.gone, length-take-le n t y.0);
          broken = q.broken;
        }
    by_step Stay s x later = let g = sym (gap_stay p t s) ∙ e in absurd cc
    by_step Open s x later =
        let g : ◌≡◌ {A = Result At TokenFault} (Err (record { place = p; kind = faults.OpenComment })) (Err f) = sym (gap_open p t s) ∙ e in
        let w : ◌≡◌ {A = TokenFault} (record { place = p; kind = faults.OpenComment }) f = cc in
        subst (λ i. Faulty p t i) w (record { rest = t; between = nothing t; gone = []; slice = refl; place = omega arith; broken = opened t s })

string_fault : (o : Option ℕ) (t : List ℕ) (k : FaultKind) → string_len false t ≡ o → text_by o ≡ Err k → Broken k (34 ∷ t)
string_fault (Some n) t k s e = absurd cc
string_fault None t k s e =
    let w : faults.OpenString ≡ k = cc in
    subst (λ i. Broken i (34 ∷ t)) w (t, (refl, λ u h. no_end u h))
  where
    no_end : (u : List ℕ) → Quoted t u → ⊥
    no_end u h =
        let (n, (o, q)) = string_complete h in
        let g : ◌≡◌ {A = Option ℕ} (Some n) None = sym o ∙ s in
        cc

abbrev Here : ℕ → List ℕ → Type 0
Here c t = start_of (c ∷ t) ≡ start.Other

atom_fault : (o : Option ℕ) (c : ℕ) (t : List ℕ) (k : FaultKind) → Here c t → lead_of c ≡ lead.Atom → atom_by c o ≡ Err k → Broken k (c ∷ t)
atom_fault (Some n) c t k h d e = absurd (by_test (n == 0 && c == 46) e)
  where
    by_test : (x : Bool) → ◌≡◌ {A = Result (Kind × ℕ) FaultKind} (if x then Ok (kinds.Dot, 1) else Ok (kinds.Atom, 1 + n)) (Err k) → ⊥
    by_test true h = cc
    by_test false h = cc
atom_fault None c t k h d e = let w : faults.OpenBar ≡ k = cc in subst (λ i. Broken i (c ∷ t)) w (h, (c, (t, (refl, d))))

bad_hash : (t : List ℕ) (k : FaultKind) → Here 35 t → ((c : ℕ) (u : List ℕ) → t ≢ 92 ∷ c ∷ u) → faults.BadHash ≡ k → Broken k (35 ∷ t)
bad_hash t k h n w = subst (λ i. Broken i (35 ∷ t)) w (h, (t, (refl, n)))

where_fault : (b : Bool) (k : Kind) (n : ℕ) (f g : FaultKind) → where_true b k n f ≡ Err g → f ≡ g
where_fault true k n f g e = absurd cc
where_fault false k n f g e = cc

-- no backslash follows
no_character : (c : ℕ) (t : List ℕ) → c ≢ 92 → (d : ℕ) (u : List ℕ) → c ∷ t ≢ 92 ∷ d ∷ u
no_character c t n d u e = let p : c ≡ 92 = cc in n p

no_base : (b : Base) (c : ℕ) → hash_of (c ∷ []) ≡ hash.Number b → c ≢ 92
no_base b c w e = let p : hash.Character ≡ hash.Number b = ap (λ x. hash_of (x ∷ [])) (sym e) ∙ w in cc

hash_fault : (h : Hash) (c : ℕ) (t : List ℕ) (k : FaultKind) → Here 35 (c ∷ t) → Hashed h c → hashed_by h t ≡ Err k → Broken k (35 ∷ c ∷ t)
hash_fault hash.Character c [] k h w e = bad_hash (c ∷ []) k h (λ d u x. cc) cc
hash_fault hash.Character c (d ∷ t) k h w e =
    let z = where_fault (run_len t == 0 || is_some (char_name (take (1 + run_len t) (d ∷ t)))) kinds.Character (3 + run_len t) faults.BadCharName k e in
    subst (λ i. Broken i (35 ∷ c ∷ d ∷ t)) z (d, (t, ap (λ x. 35 ∷ x ∷ d ∷ t) w))
hash_fault (hash.Number b) c t k h w e =
    bad_hash (c ∷ t) k h (no_character c t (no_base b c w)) (where_fault (is_number_of b (take (run_len t) t)) kinds.Based (2 + run_len t) faults.BadHash k e)
hash_fault hash.Bad c t k h w e = bad_hash (c ∷ t) k h (no_character c t w) cc

lead_fault : (d : Lead) (c : ℕ) (t : List ℕ) (k : FaultKind) → Here c t → lead_of c ≡ d → Led d c → token_by d c t ≡ Err k → Broken k (c ∷ t)
unfolding hashed_of
lead_fault lead.LeftParen c t k h s p e = absurd cc
lead_fault lead.RightParen c t k h s p e = absurd cc
lead_fault lead.Quote c t k h s p e = absurd cc
lead_fault lead.Backquote c t k h s p e = absurd cc
lead_fault lead.Comma c t k h s p e = absurd cc
lead_fault lead.Text c t k h s p e = subst (λ x. Broken k (x ∷ t)) (sym p) (string_fault (string_len false t) t k refl e)
lead_fault lead.Hash c [] k h s p e = subst (λ x. Broken k (x ∷ [])) (sym p) (bad_hash [] k (subst (λ x. Here x []) p h) (λ d u x. cc) cc)
lead_fault lead.Hash c (d ∷ t) k h s p e =
    subst (λ x. Broken k (x ∷ d ∷ t)) (sym p)
    (hash_fault (hash_of (d ∷ [])) d t k (subst (λ x. Here x (d ∷ t)) p h) (hashed (hash_of (d ∷ [])) d refl) e)
lead_fault lead.Atom c t k h s p e = atom_fault (atom_len (c == 124) (c == 92) t) c t k h s e

token_fault : (c : ℕ) (t : List ℕ) (k : FaultKind) → Here c t → token_of c t ≡ Err k → Broken k (c ∷ t)
unfolding token_of
token_fault c t k h e = lead_fault (lead_of c) c t k h refl (led c) e

abbrev Next : Type 0
Next = Result (Option (Seen × At)) TokenFault

cut_fault : (a h : At) (f : TokenFault) (c : ℕ) (t : List ℕ) (r : Result (Kind × ℕ) FaultKind) → Passes a.place a.rest h → h.rest ≡ c ∷ t
    → ((k : FaultKind) → r ≡ Err k → Broken k (c ∷ t)) → ◌≡◌ {A = Next} (cut h.place (c ∷ t) r) (Err f) → Faulty a.place a.rest f
cut_fault a h f c t (Ok (k, n)) p w broken e = absurd cc
cut_fault a h f c t (Err k) p w broken e =
    let z : ◌≡◌ {A = TokenFault} (record { place = h.place; kind = k }) f = cc in
    subst (λ i. Faulty a.place a.rest i) z (record {
      rest = h.rest;
      between = p.between;
      gone = p.gone;
      slice = p.slice;
      place = p.place;
      broken = subst (λ x. Broken k x) (sym w) (broken k refl);
    })

here_fault : (a h : At) (f : TokenFault) (t : List ℕ) → h.rest ≡ t → Passes a.place a.rest h → ◌≡◌ {A = Next} (token_here h.place t) (Err f) → Faulty a.place a.rest f
here_fault a h f [] w p e = absurd cc
here_fault a h f (c ∷ t) w p e = cut_fault a h f c t (token_of c t) p w (λ k g. token_fault c t k (subst (λ x. start_of x ≡ start.Other) w p.here) g) e

pub faulted : (a : At) (f : TokenFault) → next_of a ≡ Err f → Faulty a.place a.rest f
unfolding next_of
faulted a f e = by_gap (gap 0 a.place a.rest) refl e
  where
    by_gap : (r : Result At TokenFault) → gap 0 a.place a.rest ≡ r → ◌≡◌ {A = Next} (then_token r) (Err f) → Faulty a.place a.rest f
    by_gap (Err g) s e =
        let z : g ≡ f = cc in
        subst (λ i. Faulty a.place a.rest i) z (gap_fault (suc (length a.rest)) a.place a.rest g (omega arith) s)
    by_gap (Ok h) s e = here_fault a h f h.rest refl (passes a.place a.rest h s) e
