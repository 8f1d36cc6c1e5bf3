-- Each linear rule of a world is that of a conjunct of the theorem that it names.
use Rattle.std.proofs.Common.{◌≡◌, ℕ, suc, ◌+◌, Bool, true, false, cond, ◌&&◌, List, [], ◌∷◌, ◌++◌, Option, Some, None, slice_get, is_some, refl, sym, ap, ◌∙◌, subst}
use Rattle.ap_list.specs.Lists.{Each}
use Rattle.ap_list.proofs.Eachs.{each_append}
use Rattle.ap_value.specs.declared.symbol.Symbol.{Symbol}
use Rattle.ap_value.specs.Values.{symbol_eq}
use Rattle.ap_value.proofs.Equals.{both, symbol_eq-true, symbol_eq-same}
use Rattle.ap_term.specs.declared.term.Term.{Term, out-Term}
use Rattle.ap_term.specs.declared.term.Term.TheOpen.{Term-F}
use Rattle.ap_world.specs.declared.entry.Entry.{Entry}
use Rattle.ap_world.specs.declared.entry.Entry.TheVariants as entry
use Rattle.ap_world.specs.declared.entry.RuleClass.{RuleClass}
use Rattle.ap_world.specs.declared.entry.RuleClass.TheVariants as class
use Rattle.ap_world.specs.declared.entry.Theorem.{Theorem}
use Rattle.ap_world.specs.Clauses.{conjuncts}
use Rattle.ap_world.specs.Names.{not_name}
use Rattle.ap_world.specs.Rules.{stated}
use Rattle.ap_world.specs.World.{name_in, as_theorem, entry_of, theorem_of, has_name, are_distinct}
use Rattle.ap_world.proofs.Knowing.{each_same}
use Rattle.ap_world.proofs.Places.{free_entry, first_free}
use Rattle.ap_rules.specs.declared.linear.LinearRule.{LinearRule}
use Rattle.ap_rules.specs.Shapes as shapes
use Rattle.ap_rules.specs.Shapes.{trigger_of, all_inequalities}
use Rattle.ap_rules.specs.Linear.{linear_part, linear_from, linear_of_term, linear_in_entry, all_linear}
use Rattle.ap_kernel.specs.Certificates.{signed_by, signed_in, signed, is_linear}
use Rattle.ap_rewrite.specs.Refuting.{IsToldBy}

-- the words of rules and of certificates are the same
same_by : (b : Bool) (ts : List Term) (u : Term) → shapes.signed_by b ts u ≡ signed_by b ts u
same_by true (a ∷ []) u = refl
same_by true [] u = refl
same_by true (a ∷ b ∷ ts) u = refl
same_by false ts u = refl

same_signed : (u : Term) → shapes.signed u ≡ signed u
same_signed u = go (out-Term u)
  where
    go : (y : Term-F Term) → shapes.signed_in y u ≡ signed_in y u
    go (Term-F.Call f ts) = same_by (symbol_eq f not_name) ts u
    go (Term-F.Var x) = refl
    go (Term-F.Quote v) = refl

same_linear : (cs : List RuleClass) → shapes.is_linear cs ≡ is_linear cs
same_linear [] = refl
same_linear (class.Linear ∷ cs) = refl
same_linear (c ∷ cs) = same_linear cs

-- the rule of the conjunct at a place
record OfConjunct (x : Symbol) (hs us : List Term) (g : LinearRule) : Type 0 where
  pub named : g.theorem ≡ x
  pub hyps : g.hyps ≡ hs
  pub place : ℕ
  pub conjunct : Term
  pub at : slice_get us place ≡ Some conjunct
  pub concl : g.concl ≡ (signed conjunct).0
  pub sign : g.sign ≡ (signed conjunct).1

module _ (x : Symbol) (hs : List Term) where
  of_part : (i : ℕ) (u : Term) (us : List Term) (o : Option Term) → Each (OfConjunct x hs (u ∷ us)) (linear_part x hs i u o)
  of_part i u us None = tt
  of_part i u us (Some t) =
      (record { named = refl; hyps = refl; place = 0; conjunct = u; at = refl; concl = ap (λ (p : Term × Bool). p.0) (same_signed u); sign = ap (λ (p : Term × Bool). p.1) (same_signed u) }, tt)

  later : (u : Term) (us : List Term) (g : LinearRule) → OfConjunct x hs us g → OfConjunct x hs (u ∷ us) g
  later u us g h = record { named = h.named; hyps = h.hyps; place = suc h.place; conjunct = h.conjunct; at = h.at; concl = h.concl; sign = h.sign }

  of_conjuncts : (i : ℕ) (us : List Term) → Each (OfConjunct x hs us) (linear_from x hs i us)
  of_conjuncts i [] = tt
  of_conjuncts i (u ∷ us) =
      each_append (OfConjunct x hs (u ∷ us)) (linear_part x hs i u (trigger_of u)) (linear_from x hs (i + 1) us) (of_part i u us (trigger_of u))
      (each_same {P = OfConjunct x hs us} {Q = OfConjunct x hs (u ∷ us)} (linear_from x hs (i + 1) us) (later u us) (of_conjuncts (i + 1) us))

of_first : (u : Theorem) (ys : List Entry) → shapes.is_linear u.classes ≡ true → (g : LinearRule)
    → OfConjunct u.name (stated u.term).0 (conjuncts (stated u.term).1) g → IsToldBy (entry.Theorem u ∷ ys) g
of_first u ys linear g h = record {
  theorem = u;
  place = h.place;
  conjunct = h.conjunct;
  there = ap (theorem_of (entry.Theorem u ∷ ys)) h.named ∙ ap (λ b. as_theorem (cond b (Some (entry.Theorem u)) (entry_of ys u.name))) (symbol_eq-same u.name);
  linear = sym (same_linear u.classes) ∙ linear;
  hyps = h.hyps;
  at = h.at;
  concl = h.concl;
  sign = h.sign;
}

in_first : (y : Entry) (ys : List Entry) → Each (IsToldBy (y ∷ ys)) (linear_in_entry y)
in_first (entry.Theorem u) ys = go (shapes.is_linear u.classes && all_inequalities (conjuncts (stated u.term).1)) refl
  where
    go : (b : Bool) → (shapes.is_linear u.classes && all_inequalities (conjuncts (stated u.term).1)) ≡ b → Each (IsToldBy (entry.Theorem u ∷ ys)) (cond b (linear_of_term u.name u.term) [])
    go true e =
        each_same {P = OfConjunct u.name (stated u.term).0 (conjuncts (stated u.term).1)} {Q = IsToldBy (entry.Theorem u ∷ ys)} (linear_of_term u.name u.term) (of_first u ys (both _ _ e).0)
        (of_conjuncts u.name (stated u.term).0 0 (conjuncts (stated u.term).1))
    go false e = tt
in_first (entry.Function f) ys = tt
in_first (entry.Constant c v) ys = tt

-- where the first entry has another name
of_rest : (y : Entry) (ys : List Entry) → has_name ys (name_in y) ≡ false → (g : LinearRule) → IsToldBy ys g → IsToldBy (y ∷ ys) g
of_rest y ys free g h = record {
  theorem = h.theorem;
  place = h.place;
  conjunct = h.conjunct;
  there = go (symbol_eq g.theorem (name_in y)) refl;
  linear = h.linear;
  hyps = h.hyps;
  at = h.at;
  concl = h.concl;
  sign = h.sign;
}
  where
    missing : (o : Option Entry) → is_some o ≡ false → as_theorem o ≡ None
    missing None e = refl
    missing (Some z) e = absurd (cc e)

    go : (b : Bool) → symbol_eq g.theorem (name_in y) ≡ b → as_theorem (cond b (Some y) (entry_of ys g.theorem)) ≡ Some h.theorem
    go true e =
        let same : g.theorem ≡ name_in y = symbol_eq-true g.theorem (name_in y) e in
        let none : is_some (entry_of ys g.theorem) ≡ false = ap (λ x. is_some (entry_of ys x)) same ∙ free_entry ys (name_in y) free in
        let gone : theorem_of ys g.theorem ≡ None = missing (entry_of ys g.theorem) none in
        absurd (cc (gone, h.there))
    go false e = h.there

pub all_told : (W : List Entry) → are_distinct W ≡ true → Each (IsToldBy W) (all_linear W)
all_told [] h = tt
all_told (y ∷ ys) h =
    let names = first_free y ys h in
    each_append (IsToldBy (y ∷ ys)) (linear_in_entry y) (all_linear ys) (in_first y ys)
    (each_same {P = IsToldBy ys} {Q = IsToldBy (y ∷ ys)} (all_linear ys) (of_rest y ys names.0) (all_told ys names.1))
