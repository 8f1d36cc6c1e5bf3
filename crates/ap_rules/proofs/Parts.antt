-- Each rule of a world is a part of the theorem that it names.
use Rattle.std.proofs.Common.{◌≡◌, ℕ, suc, ◌+◌, Bool, true, false, cond, List, [], ◌∷◌, map, Option, Some, None, slice_get, is_some, refl, ap, ◌∙◌, arith}
use Rattle.ap_list.specs.Lists.{Each, all_true}
use Rattle.ap_list.proofs.Eachs.{each_append}
use Rattle.ap_value.specs.declared.symbol.Symbol.{Symbol}
use Rattle.ap_value.specs.Values.{symbol_eq}
use Rattle.ap_value.proofs.Equals.{symbol_eq-true, symbol_eq-same}
use Rattle.ap_term.specs.declared.term.Term.{Term}
use Rattle.ap_world.specs.declared.entry.Entry.{Entry}
use Rattle.ap_world.specs.declared.entry.Entry.TheVariants as entry
use Rattle.ap_world.specs.declared.entry.Theorem.{Theorem}
use Rattle.ap_world.specs.Clauses.{conjuncts}
use Rattle.ap_world.specs.Rules.{Rule, stated, sides, rules_from, rules_of_term, is_rule, rewrites, sound_rules, rules_in_entry, newest_first, rules_in}
use Rattle.ap_world.specs.World.{name_in, as_theorem, entry_of, has_name, are_distinct}
use Rattle.ap_world.specs.Holding.{part_at, part_of}
use Rattle.ap_world.proofs.Places.{free_entry}
use Rattle.ap_rules.specs.Laws.{RulesAreParts}

each_by : {A : Type 0} (P Q : A → Type 0) → ((a : A) → P a → Q a) → (xs : List A) → Each P xs → Each Q xs
each_by P Q give [] h = tt
each_by P Q give (x ∷ xs) h = (give x h.0, each_by P Q give xs h.1)

-- it is the part with its number of the theorem with its name
abbrev IsPart : List Entry → Rule → Type 0
IsPart W g = part_of W g.theorem g.part ≡ Some g

-- it has this name, and stands at its number, counted from n
record IsAt (x : Symbol) (rs : List Rule) (n : ℕ) (g : Rule) : Type 0 where
  pub named : g.theorem ≡ x
  pub place : ℕ
  pub numbered : g.part ≡ n + place
  pub there : slice_get rs place ≡ Some g

later : (x : Symbol) (rs : List Rule) (n : ℕ) (r g : Rule) → IsAt x rs (n + 1) g → IsAt x (r ∷ rs) n g
later x rs n r g h = record { named = h.named; place = suc h.place; numbered = h.numbered ∙ omega arith; there = h.there }

numbered_from : (x : Symbol) (hs : List Term) (n : ℕ) (us : List Term) → Each (IsAt x (rules_from x hs n us) n) (rules_from x hs n us)
numbered_from x hs n [] = tt
numbered_from x hs n (u ∷ us) =
    let r : Rule = record { theorem = x; part = n; iff = (sides u).0; lhs = (sides u).1; rhs = (sides u).2; hyps = hs } in
    let rs = rules_from x hs (n + 1) us in (
      record { named = refl; place = 0; numbered = omega arith; there = refl },
      each_by (IsAt x rs (n + 1)) (IsAt x (r ∷ rs) n) (later x rs n r) rs (numbered_from x hs (n + 1) us),
    )

module _ (P : Rule → Type 0) where
  sounded : (rs : List Rule) → Each P rs → Each P (sound_rules rs)
  sounded rs h = go (all_true (map is_rule rs))
    where
      go : (b : Bool) → Each P (cond b rs [])
      go true = h
      go false = tt

  turned : (rs : List Rule) → Each P rs → Each P (newest_first rs)
  turned [] h = tt
  turned (r ∷ rs) h = each_append P (newest_first rs) (r ∷ []) (turned rs h.1) (h.0, tt)

-- of the first entry
of_first : (u : Theorem) (ys : List Entry) (g : Rule) → IsAt u.name (rules_of_term u.name u.term) 0 g → IsPart (entry.Theorem u ∷ ys) g
of_first u ys g h =
    let n : g.part ≡ h.place = h.numbered ∙ omega arith in
    ap (λ x. part_of (entry.Theorem u ∷ ys) x g.part) h.named
    ∙ ap (λ b. part_at u.name g.part (as_theorem (cond b (Some (entry.Theorem u)) (entry_of ys u.name)))) (symbol_eq-same u.name)
    ∙ ap (slice_get (rules_of_term u.name u.term)) n ∙ h.there

in_first : (y : Entry) (ys : List Entry) → Each (IsPart (y ∷ ys)) (rules_in_entry y)
in_first (entry.Theorem u) ys = go (rewrites u.classes)
  where
    all : Each (IsPart (entry.Theorem u ∷ ys)) (rules_of_term u.name u.term)
    all = each_by (IsAt u.name (rules_of_term u.name u.term) 0) (IsPart (entry.Theorem u ∷ ys)) (of_first u ys) (rules_of_term u.name u.term)
        (numbered_from u.name (stated u.term).0 0 (conjuncts (stated u.term).1))

    go : (b : Bool) → Each (IsPart (entry.Theorem u ∷ ys)) (cond b (sound_rules (rules_of_term u.name u.term)) [])
    go true = sounded (IsPart (entry.Theorem u ∷ ys)) (rules_of_term u.name u.term) all
    go false = tt
in_first (entry.Function f) ys = tt
in_first (entry.Constant c v) ys = tt

-- of a further entry, where the first one has another name
of_rest : (y : Entry) (ys : List Entry) → has_name ys (name_in y) ≡ false → (g : Rule) → IsPart ys g → IsPart (y ∷ ys) g
of_rest y ys free g h = go (symbol_eq g.theorem (name_in y)) refl
  where
    missing : (o : Option Entry) → is_some o ≡ false → part_at g.theorem g.part (as_theorem o) ≡ None
    missing None e = refl
    missing (Some z) e = absurd (cc e)

    go : (b : Bool) → symbol_eq g.theorem (name_in y) ≡ b → part_at g.theorem g.part (as_theorem (cond b (Some y) (entry_of ys g.theorem))) ≡ Some g
    go true e =
        let same : g.theorem ≡ name_in y = symbol_eq-true g.theorem (name_in y) e in
        let none : is_some (entry_of ys g.theorem) ≡ false = ap (λ x. is_some (entry_of ys x)) same ∙ free_entry ys (name_in y) free in
        let gone : part_of ys g.theorem g.part ≡ None = missing (entry_of ys g.theorem) none in
        absurd (cc (gone, h))
    go false e = h

parted_names : (y : Entry) (ys : List Entry) → are_distinct (y ∷ ys) ≡ true → (has_name ys (name_in y) ≡ false) × (are_distinct ys ≡ true)
parted_names y ys h = go (has_name ys (name_in y)) refl h
  where
    go : (b : Bool) → has_name ys (name_in y) ≡ b → cond b false (are_distinct ys) ≡ true → (has_name ys (name_in y) ≡ false) × (are_distinct ys ≡ true)
    go true e l = absurd (cc l)
    go false e l = (e, l)

pub rules_are_parts : RulesAreParts
rules_are_parts [] h = tt
rules_are_parts (y ∷ ys) h =
    let names = parted_names y ys h in
    each_append (IsPart (y ∷ ys)) (rules_in ys) (newest_first (rules_in_entry y))
    (each_by (IsPart ys) (IsPart (y ∷ ys)) (of_rest y ys names.0) (rules_in ys) (rules_are_parts ys names.1))
    (turned (IsPart (y ∷ ys)) (rules_in_entry y) (in_first y ys))
