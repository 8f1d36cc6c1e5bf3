-- The test of runes is equality, and a theory disables the runes of its list.
use Rattle.std.proofs.Common.{◌≡◌, zero, suc, Bool, true, false, cond, not, ◌&&◌, ◌||◌, ◌↔◌, List, [], ◌∷◌, ◌++◌, Some, unwrap_or, refl, sym, ap, ◌∙◌, subst, arith}
use Rattle.std.specs.Map.{lookup}
use Rattle.std.proofs.lemmas.List.{append-nil}
use Rattle.ap_world.specs.declared.runes.Kinds.{Kinds}
use Rattle.ap_world.specs.RuneTables.{RuneTable, has_kind, with_kind, no_kinds, has_rune}
use Rattle.ap_world.proofs.Places.{symbol_eq-turned}
use Rattle.std.proofs.lemmas.List.Elements.{Contains-get_or, Contains-append_right}
use Rattle.std.specs.Prelude.{Contains}
use Rattle.ap_list.specs.Lists.{is_among}
use Rattle.ap_value.specs.declared.symbol.Symbol.{Symbol}
use Rattle.ap_value.specs.Values.{symbol_eq}
use Rattle.ap_value.proofs.Equals.{symbol_eq-true, symbol_eq-same}
use Rattle.ap_world.specs.declared.theory.Rune.{Rune}
use Rattle.ap_world.specs.declared.theory.Rune.TheVariants as rune
use Rattle.ap_world.specs.declared.theory.RuneKind.{RuneKind}
use Rattle.ap_world.specs.declared.theory.RuneKind.TheVariants as kind
use Rattle.ap_world.specs.Including.{besides, merged}
use Rattle.ap_world.specs.Theories.{rune_of, kind_in, symbol_in, kind_eq, rune_eq, ShownTheory, is_enabled}

pub kind_of_rune : (k : RuneKind) (f : Symbol) → kind_in (rune_of k f) ≡ k
kind_of_rune kind.Definition f = refl
kind_of_rune kind.Executable f = refl
kind_of_rune kind.TypePrescription f = refl
kind_of_rune kind.Induction f = refl
kind_of_rune kind.Rewrite f = refl
kind_of_rune kind.Linear f = refl
kind_of_rune kind.Elim f = refl

pub symbol_of_rune : (k : RuneKind) (f : Symbol) → symbol_in (rune_of k f) ≡ f
symbol_of_rune kind.Definition f = refl
symbol_of_rune kind.Executable f = refl
symbol_of_rune kind.TypePrescription f = refl
symbol_of_rune kind.Induction f = refl
symbol_of_rune kind.Rewrite f = refl
symbol_of_rune kind.Linear f = refl
symbol_of_rune kind.Elim f = refl

-- a rune is that of its kind and name
pub rune_of_parts : (r : Rune) → rune_of (kind_in r) (symbol_in r) ≡ r
rune_of_parts (rune.Definition f) = refl
rune_of_parts (rune.Executable f) = refl
rune_of_parts (rune.TypePrescription f) = refl
rune_of_parts (rune.Induction f) = refl
rune_of_parts (rune.Rewrite f) = refl
rune_of_parts (rune.Linear f) = refl
rune_of_parts (rune.Elim f) = refl

pub kind_eq-true : (k l : RuneKind) → kind_eq k l ≡ true → k ≡ l
kind_eq-true kind.Definition kind.Definition h = refl
kind_eq-true kind.Executable kind.Executable h = refl
kind_eq-true kind.TypePrescription kind.TypePrescription h = refl
kind_eq-true kind.Induction kind.Induction h = refl
kind_eq-true kind.Rewrite kind.Rewrite h = refl
kind_eq-true kind.Linear kind.Linear h = refl
kind_eq-true kind.Elim kind.Elim h = refl
kind_eq-true k l h = absurd (cc h)

pub kind_eq-same : (k : RuneKind) → kind_eq k k ≡ true
kind_eq-same kind.Definition = refl
kind_eq-same kind.Executable = refl
kind_eq-same kind.TypePrescription = refl
kind_eq-same kind.Induction = refl
kind_eq-same kind.Rewrite = refl
kind_eq-same kind.Linear = refl
kind_eq-same kind.Elim = refl

pub rune_eq-same : (r : Rune) → rune_eq r r ≡ true
rune_eq-same r = ap (λ b. b && symbol_eq (symbol_in r) (symbol_in r)) (kind_eq-same (kind_in r)) ∙ symbol_eq-same (symbol_in r)

pub rune_eq-true : (r s : Rune) → rune_eq r s ≡ true → r ≡ s
rune_eq-true r s h = go (kind_eq (kind_in r) (kind_in s)) refl h
  where
    go : (b : Bool) → kind_eq (kind_in r) (kind_in s) ≡ b → (b && symbol_eq (symbol_in r) (symbol_in s)) ≡ true → r ≡ s
    go true e k =
        sym (rune_of_parts r) ∙ ap (λ x. rune_of x (symbol_in r)) (kind_eq-true (kind_in r) (kind_in s) e)
        ∙ ap (rune_of (kind_in s)) (symbol_eq-true (symbol_in r) (symbol_in s) k) ∙ rune_of_parts s
    go false e k = absurd (cc k)

-- a rune is among those of a list exactly where the list contains it
pub contains_among : (rs : List Rune) (r : Rune) → Contains rs r → is_among rune_eq r rs ≡ true
contains_among [] r (k, lt, e) = absurd (omega (arith, lt))
contains_among (s ∷ ss) r (zero, lt, e) = ap (λ b. b || is_among rune_eq r ss) (ap (rune_eq r) e ∙ rune_eq-same r)
contains_among (s ∷ ss) r (suc k, lt, e) = go (rune_eq r s) (contains_among ss r (k, omega (arith, lt), e))
  where
    go : (b : Bool) → is_among rune_eq r ss ≡ true → (b || is_among rune_eq r ss) ≡ true
    go true h = refl
    go false h = h

pub among_contains : (rs : List Rune) (r : Rune) → is_among rune_eq r rs ≡ true → Contains rs r
among_contains [] r h = absurd (cc h)
among_contains (s ∷ ss) r h = go (rune_eq r s) refl (among_contains ss r) h
  where
    go : (b : Bool) → rune_eq r s ≡ b → (is_among rune_eq r ss ≡ true → Contains ss r) → (b || is_among rune_eq r ss) ≡ true → Contains (s ∷ ss) r
    go true e rest k = subst (Contains (s ∷ ss)) (sym (rune_eq-true r s e)) (Contains-get_or (s ∷ ss) 0 s (omega arith))
    go false e rest k = Contains-append_right (s ∷ []) ss r (rest k)

-- so it isn't enabled exactly there
pub disabled_listed : (rs : List Rune) (r : Rune) → (not (is_among rune_eq r rs) ≡ false) ↔ Contains rs r
disabled_listed rs r = (λ h. among_contains rs r (turned (is_among rune_eq r rs) h), λ h. ap not (contains_among rs r h))
  where
    turned : (b : Bool) → not b ≡ false → b ≡ true
    turned true h = refl
    turned false h = absurd (cc h)

-- what is told of a rune's kind and name is told of the rune
pub enabled_is : (h : ShownTheory) (r : Rune) (k : RuneKind) (f : Symbol) → k ≡ kind_in r → f ≡ symbol_in r → is_enabled h (rune_of k f) ≡ is_enabled h r
enabled_is h r k f kind_is name_is = ap (is_enabled h) (ap (λ x. rune_of x f) kind_is ∙ ap (rune_of (kind_in r)) name_is ∙ rune_of_parts r)

-- what holds of each kind
all_kinds : (P : RuneKind → Type 0) → P kind.Definition → P kind.Executable → P kind.TypePrescription → P kind.Induction → P kind.Rewrite → P kind.Linear → P kind.Elim → (k : RuneKind) → P k
all_kinds P a b c d e f g kind.Definition = a
all_kinds P a b c d e f g kind.Executable = b
all_kinds P a b c d e f g kind.TypePrescription = c
all_kinds P a b c d e f g kind.Induction = d
all_kinds P a b c d e f g kind.Rewrite = e
all_kinds P a b c d e f g kind.Linear = f
all_kinds P a b c d e f g kind.Elim = g

-- a kind that is marked is among the kinds, and so is each one that was
pub marked : (ks : Kinds) (j k : RuneKind) → has_kind (with_kind ks j) k ≡ (kind_eq k j || has_kind ks k)
marked ks kind.Definition = all_kinds (λ k. has_kind (with_kind ks kind.Definition) k ≡ (kind_eq k kind.Definition || has_kind ks k)) refl refl refl refl refl refl refl
marked ks kind.Executable = all_kinds (λ k. has_kind (with_kind ks kind.Executable) k ≡ (kind_eq k kind.Executable || has_kind ks k)) refl refl refl refl refl refl refl
marked ks kind.TypePrescription = all_kinds (λ k. has_kind (with_kind ks kind.TypePrescription) k ≡ (kind_eq k kind.TypePrescription || has_kind ks k)) refl refl refl refl refl refl refl
marked ks kind.Induction = all_kinds (λ k. has_kind (with_kind ks kind.Induction) k ≡ (kind_eq k kind.Induction || has_kind ks k)) refl refl refl refl refl refl refl
marked ks kind.Rewrite = all_kinds (λ k. has_kind (with_kind ks kind.Rewrite) k ≡ (kind_eq k kind.Rewrite || has_kind ks k)) refl refl refl refl refl refl refl
marked ks kind.Linear = all_kinds (λ k. has_kind (with_kind ks kind.Linear) k ≡ (kind_eq k kind.Linear || has_kind ks k)) refl refl refl refl refl refl refl
marked ks kind.Elim = all_kinds (λ k. has_kind (with_kind ks kind.Elim) k ≡ (kind_eq k kind.Elim || has_kind ks k)) refl refl refl refl refl refl refl

pub none_marked : (k : RuneKind) → has_kind no_kinds k ≡ false
none_marked = all_kinds (λ k. has_kind no_kinds k ≡ false) refl refl refl refl refl refl refl

-- the table with one rune more has that rune, and those that it had
pub rune_added : (old new : RuneTable) (j : RuneKind) (x : Symbol) (ks : Kinds)
    → ((k : RuneKind) → has_kind ks k ≡ has_rune old k x)
    → ((q : Symbol) → lookup (symbol_eq q) new ≡ cond (symbol_eq x q) (Some (with_kind ks j)) (lookup (symbol_eq q) old))
    → (k : RuneKind) (f : Symbol) → has_rune new k f ≡ (kind_eq k j && symbol_eq f x || has_rune old k f)
rune_added old new j x ks had written k f = ap (λ o. has_kind (unwrap_or o no_kinds) k) (written f) ∙ go (symbol_eq x f) refl
  where
    go : (b : Bool) → symbol_eq x f ≡ b
        → has_kind (unwrap_or (cond b (Some (with_kind ks j)) (lookup (symbol_eq f) old)) no_kinds) k ≡ (kind_eq k j && symbol_eq f x || has_rune old k f)
    go true e =
        marked ks j k ∙ ap (λ b. kind_eq k j || b) (had k ∙ ap (has_rune old k) (symbol_eq-true x f e))
        ∙ ap (λ b. b || has_rune old k f) (sym (and_true (kind_eq k j)) ∙ ap (λ b. kind_eq k j && b) (sym e ∙ symbol_eq-turned x f))
      where
        and_true : (b : Bool) → (b && true) ≡ b
        and_true true = refl
        and_true false = refl
    go false e = ap (λ b. b || has_rune old k f) (sym (and_false (kind_eq k j)) ∙ ap (λ b. kind_eq k j && b) (sym e ∙ symbol_eq-turned x f))
      where
        and_false : (b : Bool) → (b && false) ≡ false
        and_false true = refl
        and_false false = refl

-- a rune is among those of a list and one more
pub among_more : (r : Rune) (rs : List Rune) (s : Rune) → is_among rune_eq r (rs ++ s ∷ []) ≡ (rune_eq r s || is_among rune_eq r rs)
among_more r [] s = refl
among_more r (x ∷ rs) s = go (rune_eq r x) (rune_eq r s) (among_more r rs s)
  where
    go : (b c : Bool) → is_among rune_eq r (rs ++ s ∷ []) ≡ (c || is_among rune_eq r rs) → (b || is_among rune_eq r (rs ++ s ∷ [])) ≡ (c || (b || is_among rune_eq r rs))
    go true true h = refl
    go true false h = refl
    go false c h = h

-- what is added by a rune's kind and name is added by the rune
pub rune_copied : (table more : RuneTable) (s : Rune) (j : RuneKind) (x : Symbol) → j ≡ kind_in s → x ≡ symbol_in s
    → ((k : RuneKind) (f : Symbol) → has_rune more k f ≡ (kind_eq k j && symbol_eq f x || has_rune table k f))
    → (k : RuneKind) (f : Symbol) → has_rune more k f ≡ (kind_eq k (kind_in s) && symbol_eq f (symbol_in s) || has_rune table k f)
rune_copied table more s j x kind_is name_is added k f =
    added k f ∙ ap (λ l. kind_eq k l && symbol_eq f x || has_rune table k f) kind_is
    ∙ ap (λ y. kind_eq k (kind_in s) && symbol_eq f y || has_rune table k f) name_is

-- the rune of a copied name
pub copied_rune : (r s : Rune) (k : RuneKind) (x : Symbol) → s ≡ rune_of k x → k ≡ kind_in r → x ≡ symbol_in r → s ≡ r
copied_rune r s k x is kind_is name_is = is ∙ ap (λ l. rune_of l x) kind_is ∙ ap (rune_of (kind_in r)) name_is ∙ rune_of_parts r

-- the table of a list, one rune after another
pub rune_next : (table more : RuneTable) (rs : List Rune) (s : Rune) (j : RuneKind) (x : Symbol) → j ≡ kind_in s → x ≡ symbol_in s
    → ((k : RuneKind) (f : Symbol) → has_rune table k f ≡ is_among rune_eq (rune_of k f) rs)
    → ((k : RuneKind) (f : Symbol) → has_rune more k f ≡ (kind_eq k j && symbol_eq f x || has_rune table k f))
    → (k : RuneKind) (f : Symbol) → has_rune more k f ≡ is_among rune_eq (rune_of k f) (rs ++ s ∷ [])
rune_next table more rs s j x kind_is name_is had added k f =
    added k f ∙ ap (λ b. kind_eq k j && symbol_eq f x || b) (had k f)
    ∙ ap (λ b. b || is_among rune_eq (rune_of k f) rs) same
    ∙ sym (among_more (rune_of k f) rs s)
  where
    same : (kind_eq k j && symbol_eq f x) ≡ rune_eq (rune_of k f) s
    same = ap (λ l. kind_eq k l && symbol_eq f x) kind_is ∙ ap (λ y. kind_eq k (kind_in s) && symbol_eq f y) name_is
        ∙ ap (λ l. kind_eq l (kind_in s) && symbol_eq f (symbol_in s)) (sym (kind_of_rune k f))
        ∙ ap (λ y. kind_eq (kind_in (rune_of k f)) (kind_in s) && symbol_eq y (symbol_in s)) (sym (symbol_of_rune k f))

-- what a list has besides is found one rune after another
besides_append : (rs ss ts : List Rune) → besides rs (ss ++ ts) ≡ besides rs ss ++ besides rs ts
besides_append rs [] ts = refl
besides_append rs (s ∷ ss) ts = go (is_among rune_eq s rs) (besides_append rs ss ts)
  where
    go : (b : Bool) → besides rs (ss ++ ts) ≡ besides rs ss ++ besides rs ts → cond b (besides rs (ss ++ ts)) (s ∷ besides rs (ss ++ ts)) ≡ cond b (besides rs ss) (s ∷ besides rs ss) ++ besides rs ts
    go true h = h
    go false h = ap (λ us. s ∷ us) h

pub besides_more : (rs ss ts out : List Rune) (s : Rune) → ts ≡ ss ++ s ∷ [] → out ≡ besides rs ss → out ++ besides rs (s ∷ []) ≡ besides rs ts
besides_more rs ss ts out s is h = ap (λ us. us ++ besides rs (s ∷ [])) h ∙ sym (besides_append rs ss (s ∷ [])) ∙ ap (besides rs) (sym is)

-- a rune that is enabled comes behind the others, another one doesn't
pub besides_enabled : (h : ShownTheory) (out : List Rune) (s : Rune) (b : Bool) → b ≡ is_enabled h s → b ≡ true → out ++ s ∷ [] ≡ out ++ besides h.disabled (s ∷ [])
besides_enabled h out s b is e = go (is_among rune_eq s h.disabled) (sym is ∙ e)
  where
    go : (c : Bool) → not c ≡ true → out ++ s ∷ [] ≡ out ++ cond c [] (s ∷ [])
    go true k = absurd (cc k)
    go false k = refl

pub besides_disabled : (h : ShownTheory) (out : List Rune) (s : Rune) (b : Bool) → b ≡ is_enabled h s → b ≡ false → out ≡ out ++ besides h.disabled (s ∷ [])
besides_disabled h out s b is e = go (is_among rune_eq s h.disabled) (sym is ∙ e)
  where
    go : (c : Bool) → not c ≡ false → out ≡ out ++ cond c [] (s ∷ [])
    go true k = sym (append-nil out)
    go false k = absurd (cc k)

-- where a theory disables nothing besides, merging leaves the first
pub merged_none : (h k : ShownTheory) → besides h.disabled k.disabled ≡ [] → h ≡ merged h k
merged_none h k none = ap (λ rs. record { disabled = rs }) (sym (append-nil h.disabled) ∙ ap (λ rs. h.disabled ++ rs) (sym none))

-- and else what it disables besides comes behind
pub merged_some : (h k : ShownTheory) (rs ss all : List Rune) → rs ≡ h.disabled → ss ≡ besides h.disabled k.disabled → all ≡ rs ++ ss → record { disabled = all } ≡ merged h k
merged_some h k rs ss all first rest both =
    ap (λ us. record { disabled = us }) (both ∙ ap (λ us. us ++ ss) first ∙ ap (λ us. h.disabled ++ us) rest)
