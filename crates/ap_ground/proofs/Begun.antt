-- A rule that is the next one finds its name free, and the names of the ground world are distinct.
use Rattle.std.proofs.Common.{◌≡◌, Bool, true, false, cond, List, [], ◌∷◌, ◌++◌, map, is_some, refl, sym, ap, ◌∙◌, subst}
use Rattle.std.proofs.lemmas.List.{append_assoc}
use Rattle.ap_list.specs.Lists.{Each}
use Rattle.ap_value.specs.Values.{symbol_eq}
use Rattle.ap_world.specs.declared.entry.Function.{Function}
use Rattle.ap_world.specs.declared.entry.Theorem.{Theorem}
use Rattle.ap_world.specs.declared.entry.Entry.{Entry}
use Rattle.ap_world.specs.declared.entry.Entry.TheVariants as entry
use Rattle.ap_world.specs.Primitives.{prim_of}
use Rattle.ap_world.specs.Sound.{GoodTheorem, Sound}
use Rattle.ap_world.specs.World.{Shown, name_in, entry_of, has_name, are_distinct, are_taken, added_all, function_of}
use Rattle.ap_world.specs.Ground.{ground, ground_functions, ground_rules, car_cons, cdr_cons, car_cdr_elim, commutativity_of_plus, associativity_of_plus, commutativity_2_of_plus, unicity_of_0, commutativity_of_times, associativity_of_times, commutativity_2_of_times, unicity_of_1, times_zero, distributivity, code_char_char_code, coerce_inverse}
use Rattle.ap_world.proofs.Extending.{has_name-append, function_of-theorem}
use Rattle.ap_world.proofs.Places.{neither, not_either, free_prim, free_entry, free_rest, free_both, symbol_eq-false}
use Rattle.ap_ground.proofs.Totality.{G}
use Rattle.ap_ground.proofs.There.{functions_open}
use Rattle.ap_ground.proofs.Good.{functions_sound, ground_rules_good}

parts : (b c : Bool) → cond b false c ≡ true → (b ≡ false) × (c ≡ true)
parts true c h = cc
parts false c h = (refl, h)

-- of entries with distinct names, none has that of a later one
pub free_there : (W : List Entry) (y : Entry) (ys : List Entry) → are_distinct (W ++ y ∷ ys) ≡ true → has_name W (name_in y) ≡ false
free_there [] y ys d = not_either (is_some (prim_of (name_in y))) false (free_prim ys (name_in y) (parts (has_name ys (name_in y)) (are_distinct ys) d).0) refl
free_there (z ∷ zs) y ys d =
    let own = parts (has_name (zs ++ y ∷ ys) (name_in z)) (are_distinct (zs ++ y ∷ ys)) d in
    let later : is_some (entry_of (y ∷ ys) (name_in z)) ≡ false =
    (neither (has_name zs (name_in z)) (is_some (entry_of (y ∷ ys) (name_in z))) (sym (has_name-append zs (y ∷ ys) (name_in z)) ∙ own.0)).1 in
    let apart : symbol_eq (name_in z) (name_in y) ≡ false = (free_rest y ys (name_in z) later).0 in
    let rest = free_there zs y ys own.1 in
    not_either (is_some (prim_of (name_in y))) (is_some (entry_of (z ∷ zs) (name_in y))) (free_prim zs (name_in y) rest)
    (free_both z zs (name_in y) (symbol_eq-false (name_in z) (name_in y) apart) (free_entry zs (name_in y) rest))

pub ground_distinct : are_distinct ground ≡ true
unfolding functions_open ground_rules car_cons cdr_cons car_cdr_elim commutativity_of_plus associativity_of_plus commutativity_2_of_plus unicity_of_0 commutativity_of_times associativity_of_times commutativity_2_of_times unicity_of_1 times_zero distributivity code_char_char_code coerce_inverse
ground_distinct = refl

pub functions_free : are_taken [] ground_functions ≡ false
unfolding functions_open
functions_free = refl

-- the world with the functions alone, and every rule to come
pub functions_fit : (W : List Entry) (fs : List Function) → W ≡ [] → fs ≡ ground_functions → Sound (W ++ map entry.Function fs)
functions_fit W fs none is = rw (none, is) functions_sound

pub none_taken : (W : List Entry) (fs : List Function) → W ≡ [] → fs ≡ ground_functions → are_taken W fs ≡ false
none_taken W fs none is = rw (none, is) functions_free

pub whole_begun : (v w : Shown) (fs : List Function) (us : List Theorem) → v.entries ≡ [] → w ≡ added_all v fs → fs ≡ ground_functions → us ≡ ground_rules
    → w.entries ++ map entry.Theorem us ≡ ground
whole_begun v w fs us none made is rules = rw (made, none, is, rules) refl

pub defined_begun : (v w : Shown) (fs : List Function) → v.entries ≡ [] → w ≡ added_all v fs → fs ≡ ground_functions → function_of w.entries ≡ G
defined_begun v w fs none made is = rw (made, none, is) refl

pub good_begun : (us : List Theorem) → us ≡ ground_rules → Each (GoodTheorem G) us
good_begun us is = rw is ground_rules_good

-- the first rule to come is good and its name is free, and when it is added the others are to come
pub whole_next : (V W : List Entry) (u : Theorem) (us rest : List Theorem) → W ≡ V ++ entry.Theorem u ∷ [] → us ≡ u ∷ rest → V ++ map entry.Theorem us ≡ ground
    → W ++ map entry.Theorem rest ≡ ground
whole_next V W u us rest made is whole =
    ap (λ Z. Z ++ map entry.Theorem rest) made ∙ append_assoc V (entry.Theorem u ∷ []) (map entry.Theorem rest)
    ∙ ap (λ ts. V ++ map entry.Theorem ts) (sym is) ∙ whole

pub defined_next : (V W : List Entry) (u : Theorem) → W ≡ V ++ entry.Theorem u ∷ [] → function_of V ≡ G → function_of W ≡ G
defined_next V W u made defined = ap function_of made ∙ function_of-theorem V u ∙ defined

pub good_next : (u : Theorem) (us rest : List Theorem) → us ≡ u ∷ rest → Each (GoodTheorem G) us → Each (GoodTheorem G) rest
good_next u us rest is good = (subst (Each (GoodTheorem G)) is good).1

pub good_first : (V : List Entry) (u : Theorem) (us rest : List Theorem) → us ≡ u ∷ rest → function_of V ≡ G → Each (GoodTheorem G) us → GoodTheorem (function_of V) u
good_first V u us rest is defined good = subst (λ D. GoodTheorem D u) (sym defined) (subst (Each (GoodTheorem G)) is good).0

pub free_first : (V : List Entry) (u : Theorem) (us rest : List Theorem) → us ≡ u ∷ rest → V ++ map entry.Theorem us ≡ ground → has_name V u.name ≡ false
free_first V u us rest is whole =
    free_there V (entry.Theorem u) (map entry.Theorem rest) (ap (λ ts. are_distinct (V ++ map entry.Theorem ts)) (sym is) ∙ ap are_distinct whole ∙ ground_distinct)
