-- What the conjuncts of a term are at each kind of term.
use Rattle.std.proofs.Common.{◌≡◌, ◌<◌, ◌≤◌, true, List, [], ◌∷◌, ◌++◌, refl, ap, sym, ◌∙◌, append_assoc, length, get_or, arith}
use Rattle.ap_value.specs.declared.symbol.Symbol.{Symbol}
use Rattle.ap_value.specs.Values.{symbol_eq}
use Rattle.ap_term.specs.declared.term.Term.{Term, Call}
use Rattle.ap_world.specs.Names.{if_name}
use Rattle.ap_world.specs.Clauses.{is_nil, conjuncts}
use Rattle.ap_world.proofs.Written.{conjuncts_var, conjuncts_quote}
use Rattle.ap_world.proofs.Given.{conjuncts_called}

-- a list by its length and its elements
pub pair_is : (ts us : List Term) (a b : Term) → ts ≡ us → 2 ≤ length ts → length ts < 3 → a ≡ get_or ts 0 a → b ≡ get_or ts 1 b → us ≡ a ∷ b ∷ []
pair_is [] us a b e h k p q = absurd (omega arith)
pair_is (x ∷ []) us a b e h k p q = absurd (omega arith)
pair_is (x ∷ y ∷ []) us a b e h k p q = sym e ∙ ap (λ z. z ∷ y ∷ []) (sym p) ∙ ap (λ z. a ∷ z ∷ []) (sym q)
pair_is (x ∷ y ∷ z ∷ ts) us a b e h k p q = absurd (omega arith)

pub triple_is : (ts us : List Term) (a b c : Term) → ts ≡ us → 3 ≤ length ts → length ts < 4 → a ≡ get_or ts 0 a → b ≡ get_or ts 1 b → c ≡ get_or ts 2 c → us ≡ a ∷ b ∷ c ∷ []
triple_is [] us a b c e h k p q r = absurd (omega arith)
triple_is (x ∷ []) us a b c e h k p q r = absurd (omega arith)
triple_is (x ∷ y ∷ []) us a b c e h k p q r = absurd (omega arith)
triple_is (x ∷ y ∷ z ∷ []) us a b c e h k p q r = sym e ∙ ap (λ w. w ∷ y ∷ z ∷ []) (sym p) ∙ ap (λ w. a ∷ w ∷ z ∷ []) (sym q) ∙ ap (λ w. a ∷ b ∷ w ∷ []) (sym r)
triple_is (x ∷ y ∷ z ∷ w ∷ ts) us a b c e h k p q r = absurd (omega arith)

pub ruleset conjoining = (conjuncts_var, conjuncts_quote, conjuncts_called)

-- the conjuncts of a conjunction are those of its parts
pub conjuncts_pair : (u : Term) (f : Symbol) (a b c : Term) → u ≡ Call f (a ∷ b ∷ c ∷ []) → symbol_eq f if_name ≡ true → is_nil c ≡ true → conjuncts u ≡ conjuncts a ++ conjuncts b
conjuncts_pair u f a b c h q z = ap conjuncts h ∙ conjuncts_called f (a ∷ b ∷ c ∷ []) ∙ rw (q, z) refl

-- what is added by two steps
pub by_steps : (out new xs ys zs : List Term) → zs ≡ xs ++ ys → new ≡ out ++ xs → out ++ zs ≡ new ++ ys
by_steps out new xs ys zs e h = ap (λ us. out ++ us) e ∙ sym (append_assoc out xs ys) ∙ ap (λ us. us ++ ys) (sym h)
