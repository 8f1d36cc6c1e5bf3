-- The token of the grammar is the next one.
use Rattle.std.proofs.Common.{◌≡◌, ◌+◌, ◌++◌, length, Some, Result, Ok, sym, ap, ◌∙◌, arith, length-append}
use Rattle.std.proofs.lemmas.List.{append_cancel_right}
use Rattle.ap_tokens.specs.declared.token.TokenFault.{TokenFault}
use Rattle.ap_tokens.specs.Gaps.{At, at}
use Rattle.ap_tokens.specs.Tokens.{Seen, next_of}
use Rattle.ap_tokens.specs.Laws.{Found}
use Rattle.ap_tokens.proofs.Found.{found, answered}
use Rattle.ap_tokens.proofs.Unique.{gap_complete}

same_seen : (s t : Seen) → s.start ≡ t.start → s.text ≡ t.text → s.kind ≡ t.kind → s ≡ t
same_seen s t p q r =
    ap (λ x. record { start = x; text = s.text; kind = s.kind }) p
    ∙ (ap (λ x. record { start = t.start; text = x; kind = s.kind }) q ∙ ap (λ x. record { start = t.start; text = t.text; kind = x }) r)

same_at : (a b : At) → a.place ≡ b.place → a.rest ≡ b.rest → a ≡ b
same_at a b p q = ap (λ x. at x a.rest) p ∙ ap (λ x. at b.place x) q

module _ (a b c : At) (s t : Seen) (h : Found a s b) (g : Found a t c) (kinds : t.kind ≡ s.kind) (rests : c.rest ≡ b.rest) where
  same_before : h.before.rest ≡ g.before.rest
  same_before =
      let (p, d) = gap_complete h.passes.between h.passes.here a.place in
      let (q, e) = gap_complete g.passes.between g.passes.here a.place in
      let f : ◌≡◌ {A = Result At TokenFault} (Ok (at p h.before.rest)) (Ok (at q g.before.rest)) = sym d ∙ e in
      let k : at p h.before.rest ≡ at q g.before.rest = cc in
      ap (λ x. x.rest) k

  same_start : t.start ≡ s.start
  same_start =
      let p : length a.rest ≡ length h.passes.gone + length h.before.rest = ap length h.passes.slice ∙ length-append h.passes.gone h.before.rest in
      let q : length a.rest ≡ length g.passes.gone + length g.before.rest = ap length g.passes.slice ∙ length-append g.passes.gone g.before.rest in
      let r : length h.before.rest ≡ length g.before.rest = ap length same_before in
      omega (arith, p, q, r, h.passes.place, g.passes.place, h.start, g.start)

  same_text : t.text ≡ s.text
  same_text =
      let p : t.text ++ c.rest ≡ s.text ++ b.rest = sym g.slice ∙ (sym same_before ∙ h.slice) in
      append_cancel_right t.text s.text b.rest (ap (λ x. t.text ++ x) (sym rests) ∙ p)

  same_place : c.place ≡ b.place
  same_place = omega (arith, h.place, g.place, same_start, ap length same_text)

  same_token : t ≡ s
  same_token = same_seen t s same_start same_text kinds

  same_after : c ≡ b
  same_after = same_at c b same_place rests

pub found_next : (a b : At) (s : Seen) → Found a s b → next_of a ≡ Ok (Some (s, b))
found_next a b s h =
    let w = answered a s.kind h.before.rest b.rest (record { between = h.passes.between; here = h.passes.here; spelled = h.spelled }) in
    let g = found a w.after w.token w.answer in
    w.answer
    ∙ (ap (λ x. Ok (Some (x, w.after))) (same_token a b w.after s w.token h g w.kind w.rest)
    ∙ ap (λ x. Ok (Some (s, x))) (same_after a b w.after s w.token h g w.kind w.rest))
