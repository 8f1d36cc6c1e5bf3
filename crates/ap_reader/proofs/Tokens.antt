-- A token that comes, and one that doesn't.
use Rattle.std.proofs.Common.{◌≡◌, ℕ, ◌+◌, ◌<◌, length, Option, Some, None, Result, Ok, Err, refl, ap, ◌∙◌, arith, length-append}
use Rattle.ap_tokens.specs.declared.token.TokenFault.{TokenFault}
use Rattle.ap_tokens.specs.Gaps.{At}
use Rattle.ap_tokens.specs.Tokens.{Seen, next_of}
use Rattle.ap_tokens.proofs.Found.{found, none_left, none_answered}
use Rattle.ap_reader.specs.declared.fault.ReadKind.TheVariants as faults
use Rattle.ap_reader.specs.Faults.{ReadFault, fault, broken}
use Rattle.ap_reader.specs.Heads.{token_in}
use Rattle.ap_reader.specs.Grammar.{Comes}
use Rattle.ap_reader.specs.Breaks.{Missing, ended, broken_token}
use Rattle.ap_reader.proofs.Nexts.{found_next}

pub came : (p : ℕ) (a : At) (x : Seen × At) → token_in p (next_of a) ≡ Ok x → Comes a x.0 x.1
came p a x e = found a x.1 x.0 (by_next (next_of a) refl e)
  where
    by_next : (r : Result (Option (Seen × At)) TokenFault) → next_of a ≡ r → token_in p r ≡ Ok x → next_of a ≡ Ok (Some x)
    by_next (Err f) q e = absurd cc
    by_next (Ok None) q e = absurd cc
    by_next (Ok (Some y)) q e = let h : y ≡ x = cc in cc

pub missed : (p : ℕ) (a : At) (e : ReadFault) → token_in p (next_of a) ≡ Err e → Missing p a e
missed p a e h = by_next (next_of a) refl h
  where
    by_next : (r : Result (Option (Seen × At)) TokenFault) → next_of a ≡ r → token_in p r ≡ Err e → Missing p a e
    by_next (Err f) q h = let w : fault f.place (broken f.kind) ≡ e = cc in rw (← w) (broken_token p a f q)
    by_next (Ok None) q h = let w : fault p faults.OpenList ≡ e = cc in rw (← w) (ended p a (none_left a q))
    by_next (Ok (Some y)) q h = absurd cc

pub comes : (p : ℕ) (a b : At) (s : Seen) → Comes a s b → token_in p (next_of a) ≡ Ok (s, b)
comes p a b s e = ap (token_in p) (found_next a b s e)

pub misses : {p : ℕ} {a : At} {e : ReadFault} → Missing p a e → token_in p (next_of a) ≡ Err e
misses (ended p a q) = ap (token_in p) (none_answered a q)
misses (broken_token p a f q) = ap (token_in p) q

-- a token has a byte
pub comes_less : (a b : At) (s : Seen) → Comes a s b → length b.rest < length a.rest
comes_less a b s f =
    let p : length a.rest ≡ length f.passes.gone + length f.before.rest = ap length f.passes.slice ∙ length-append f.passes.gone f.before.rest in
    let q : length f.before.rest ≡ length s.text + length b.rest = ap length f.slice ∙ length-append s.text b.rest in
    omega (arith, p, q, f.some)
