-- Whether a call is known, by what is known of its head and of its arguments.
use Rattle.std.proofs.Common.{◌≡◌, ◌∙◌, ℕ, Bool, true, false, ◌&&◌, List, map, length, ap, sym}
use Rattle.ap_list.specs.Lists.{all_true}
use Rattle.ap_value.specs.declared.symbol.Symbol.{Symbol}
use Rattle.ap_term.specs.declared.term.Term.{Term, Call}
use Rattle.ap_world.specs.Meaning.{Defs}
use Rattle.ap_world.specs.Primitives.{prim_of}
use Rattle.ap_world.specs.Sound.{is_head, known}
use Rattle.ap_world.proofs.Knowing.{known_call}

-- where its head is known, the arguments decide
pub by_arguments : (D : Defs) (f : Symbol) (ts us : List Term) (u : Term) (n : ℕ) (head rest : Bool) → u ≡ Call f ts → n ≡ length ts → us ≡ ts → head ≡ is_head D f (prim_of f) n → head ≡ true
    → rest ≡ all_true (map (known D) us) → rest ≡ known D u
by_arguments D f ts us u n head rest is count lent tested holds all =
    all ∙ ap (λ vs. all_true (map (known D) vs)) lent ∙ ap (λ b. b && all_true (map (known D) ts)) (sym holds ∙ tested ∙ ap (is_head D f (prim_of f)) count)
    ∙ sym (known_call D f ts) ∙ ap (known D) (sym is)

-- and where it isn't, the call isn't either
pub by_head : (D : Defs) (f : Symbol) (ts : List Term) (u : Term) (n : ℕ) (head : Bool) → u ≡ Call f ts → n ≡ length ts → head ≡ is_head D f (prim_of f) n → head ≡ false → head ≡ known D u
by_head D f ts u n head is count tested fails =
    fails ∙ ap (λ b. b && all_true (map (known D) ts)) (sym fails ∙ tested ∙ ap (is_head D f (prim_of f)) count) ∙ sym (known_call D f ts) ∙ ap (known D) (sym is)
