-- The next token and what lies before it.
use Rattle.std.proofs.Common.{◌≡◌, ℕ, ◌+◌, List, [], ◌∷◌, length, take, drop, Option, Some, None, Result, Ok, Err, refl, sym, ap, subst, ◌∙◌, arith}
use Rattle.std.proofs.lemmas.List.{take-append-drop, length-take-le}
use Rattle.ap_tokens.specs.declared.token.Kind.{Kind}
use Rattle.ap_tokens.specs.declared.token.FaultKind.{FaultKind}
use Rattle.ap_tokens.specs.declared.token.TokenFault.{TokenFault}
use Rattle.ap_tokens.specs.Gaps.{At, at, gap}
use Rattle.ap_tokens.specs.Grammar.{Between, Passes, Spells}
use Rattle.ap_tokens.specs.Tokens.{Seen, token_of, cut, token_here, then_token, next_of}
use Rattle.ap_tokens.specs.Laws.{Found, Stands, Answered}
use Rattle.ap_tokens.proofs.Unique.{Finds, gap_complete, spells_finds}
use Rattle.ap_tokens.proofs.Gapped.{passes}
use Rattle.ap_tokens.proofs.Lexemes.{token_spelled}
use Rattle.ap_tokens.proofs.Within.{Fits, token_fits}

abbrev Next : Type 0
Next = Result (Option (Seen × At)) TokenFault

cut_found : (a h b : At) (s : Seen) (c : ℕ) (t : List ℕ) (r : Result (Kind × ℕ) FaultKind) → Passes a.place a.rest h → h.rest ≡ c ∷ t
    → ((k : Kind) (n : ℕ) → r ≡ Ok (k, n) → Fits (c ∷ t) n × Spells k (c ∷ t) (drop n (c ∷ t))) → ◌≡◌ {A = Next} (cut h.place (c ∷ t) r) (Ok (Some (s, b))) → Found a s b
cut_found a h b s c t (Err f) p w fits e = absurd cc
cut_found a h b s c t (Ok (k, n)) p w fits e =
    let (u, v) = fits k n refl in
    let token : Seen = record { start = h.place; text = take n (c ∷ t); kind = k } in
    let after : At = at (h.place + n) (drop n (c ∷ t)) in
    let same : ◌≡◌ {A = Seen × At} (token, after) (s, b) = cc in
    let length_is : length (take n (c ∷ t)) ≡ n = length-take-le n (c ∷ t) u.1 in
    let here : Found a token after = record {
      before = h;
      passes = p;
      start = refl;
      slice = w ∙ sym (take-append-drop n (c ∷ t));
      place = ap (λ m. h.place + m) (sym length_is);
      spelled = subst (λ x. Spells k x (drop n (c ∷ t))) (sym w) v;
      some = omega (arith, length_is, u.0);
    } in
    subst (λ (z : Seen × At). Found a z.0 z.1) same here

here_found : (a h b : At) (s : Seen) (t : List ℕ) → h.rest ≡ t → Passes a.place a.rest h → ◌≡◌ {A = Next} (token_here h.place t) (Ok (Some (s, b))) → Found a s b
here_found a h b s [] w p e = absurd cc
here_found a h b s (c ∷ t) w p e = cut_found a h b s c t (token_of c t) p w (λ k n f. (token_fits c t k n f, token_spelled c t k n f)) e

pub found : (a b : At) (s : Seen) → next_of a ≡ Ok (Some (s, b)) → Found a s b
unfolding next_of
found a b s e = by_gap (gap 0 a.place a.rest) refl e
  where
    by_gap : (r : Result At TokenFault) → gap 0 a.place a.rest ≡ r → ◌≡◌ {A = Next} (then_token r) (Ok (Some (s, b))) → Found a s b
    by_gap (Err f) g e = absurd cc
    by_gap (Ok h) g e = here_found a h b s h.rest refl (passes a.place a.rest h g) e

cut_none : (p : ℕ) (u : List ℕ) (r : Result (Kind × ℕ) FaultKind) → ◌≡◌ {A = Next} (cut p u r) (Ok None) → ⊥
cut_none p u (Err f) e = cc
cut_none p u (Ok (k, n)) e = cc

here_none : (p : ℕ) (t : List ℕ) → ◌≡◌ {A = Next} (token_here p t) (Ok None) → t ≡ []
here_none p [] e = refl
here_none p (c ∷ t) e = absurd (cut_none p (c ∷ t) (token_of c t) e)

pub none_left : (a : At) → next_of a ≡ Ok None → Between a.rest []
unfolding next_of
none_left a e = by_gap (gap 0 a.place a.rest) refl e
  where
    by_gap : (r : Result At TokenFault) → gap 0 a.place a.rest ≡ r → ◌≡◌ {A = Next} (then_token r) (Ok None) → Between a.rest []
    by_gap (Err f) g e = absurd cc
    by_gap (Ok h) g e = subst (λ u. Between a.rest u) (here_none h.place h.rest e) (passes a.place a.rest h g).between

-- the token of the grammar is answered
finds_here : (a : At) (k : Kind) (t u : List ℕ) (q : ℕ) → gap 0 a.place a.rest ≡ Ok (at q t) → Finds k t u → Answered a k u
unfolding next_of
finds_here a k [] u q g h = absurd h
finds_here a k (c ∷ t) u q g (n, (e, s)) = record {
  token = record { start = q; text = take n (c ∷ t); kind = k };
  after = at (q + n) (drop n (c ∷ t));
  answer = ap then_token g ∙ ap (cut q (c ∷ t)) e;
  kind = refl;
  rest = s;
}

pub answered : (a : At) (k : Kind) (t u : List ℕ) → Stands a k t u → Answered a k u
answered a k t u h =
    let (q, g) = gap_complete h.between h.here a.place in
    finds_here a k t u q g (spells_finds h.spelled)

pub none_answered : (a : At) → Between a.rest [] → next_of a ≡ Ok None
unfolding next_of
none_answered a h = let (q, g) = gap_complete h refl a.place in ap then_token g

pub no_token : (a : At) (f : TokenFault) (k : Kind) (t u : List ℕ) → next_of a ≡ Err f → Stands a k t u → ⊥
no_token a f k t u e h =
    let w = answered a k t u h in
    let z : ◌≡◌ {A = Next} (Ok (Some (w.token, w.after))) (Err f) = sym w.answer ∙ e in
    cc
