-- Constants as they are written.
use Rattle.std.proofs.Common.{◌≡◌, ℕ, Bool, true, false, cond, nat_le, Option, Some, None, option_map, Result, Ok, Err, refl, sym, ap, ◌∙◌, subst}
use Rattle.ap_value.specs.declared.value.Value.{Value}
use Rattle.ap_value.specs.Counts.{node_count}
use Rattle.ap_reader.specs.declared.form.Form.{Form}
use Rattle.ap_translate.specs.declared.fault.TransKind.TheVariants as kinds
use Rattle.ap_translate.specs.declared.fault.TransError.{TransError}
use Rattle.ap_translate.specs.Answers.{Answer, refused, ◌>>=◌, Fails, Gives}
use Rattle.ap_translate.specs.Sizes.{small_value, capped}
use Rattle.ap_translate.specs.Quoted.{constant_in}
use Rattle.ap_translate.specs.Written.{value_within, written_by, kept_within}
use Rattle.ap_translate.proofs.Fails.{then_fails, fails_capped}

-- what is kept of a value tells whether it has too many nodes
value_kept : (p : ℕ) (v : Value) → Gives (kept_within p (small_value v)) (value_within p v)
value_kept p v = by_size (nat_le (node_count v) 4096) refl
  where
    by_size : (b : Bool) → nat_le (node_count v) 4096 ≡ b → Gives (kept_within p (cond b (Some v) None)) (value_within p v)
    by_size true h = ap (λ b. cond b (Ok (Some v)) (refused p kinds.TermTooLarge)) h
    by_size false h = ap (λ b. cond b (Ok (Some v)) (refused p kinds.TermTooLarge)) h

pub written_quoted : (p : ℕ) (q : Option Form) (l : Option Value) (g : Form) (o : Option Value) (r : Result (Option Value) TransError) → q ≡ Some g → capped small_value (constant_in 399 g) ≡ Ok o → r ≡ kept_within p o
    → Gives r (written_by p q l)
written_quoted p q l g o r is read same =
    subst (λ x. Gives r (written_by p x l)) (sym is) (subst (λ s. Gives s (written_by p (Some g) l)) (sym same) (go (constant_in 399 g) read))
  where
    go : (a : Answer Value) → capped small_value a ≡ Ok o → Gives (kept_within p o) (a >>= value_within p)
    go (Err e) k = absurd (no k)
      where
        no : Err e ≡ Ok o → ⊥
        no j = cc
    go (Ok v) k = let s : small_value v ≡ o = cc in subst (λ x. Gives (kept_within p x) (value_within p v)) s (value_kept p v)

pub written_fails : (p : ℕ) (q : Option Form) (l : Option Value) (g : Form) (e : TransError) → q ≡ Some g → Fails e (capped small_value (constant_in 399 g)) → Fails e (written_by p q l)
written_fails p q l g e is bad =
    subst (λ x. Fails e (written_by p x l)) (sym is) (then_fails e (constant_in 399 g) (value_within p) (fails_capped small_value e (constant_in 399 g) bad))

pub written_literal : (p : ℕ) (q : Option Form) (l : Option Value) (o : Option Value) (r : Result (Option Value) TransError) → q ≡ None → Some o ≡ option_map small_value l → r ≡ kept_within p o
    → Gives r (written_by p q l)
written_literal p q l o r is kept same =
    subst (λ x. Gives r (written_by p x l)) (sym is) (subst (λ s. Gives s (written_by p None l)) (sym same) (go l kept))
  where
    go : (l : Option Value) → Some o ≡ option_map small_value l → Gives (kept_within p o) (written_by p None l)
    go None k = absurd (no k)
      where
        no : Some o ≡ None → ⊥
        no j = cc
    go (Some v) k = let s : o ≡ small_value v = cc in subst (λ x. Gives (kept_within p x) (value_within p v)) (sym s) (value_kept p v)

pub written_none : (p : ℕ) (q : Option Form) (l : Option Value) → q ≡ None → None ≡ option_map small_value l → written_by p q l ≡ Ok None
written_none p q l is kept = ap (λ x. written_by p x l) is ∙ go l kept
  where
    go : (l : Option Value) → None ≡ option_map small_value l → written_by p None l ≡ Ok None
    go None k = refl
    go (Some v) k = absurd (no k)
      where
        no : None ≡ Some (small_value v) → ⊥
        no j = cc

pub ruleset writings = (written_quoted, written_fails, written_literal, written_none)
