-- The functions as their table writes them are those of the ground world: the cases are those of the bodies.
use Rattle.std.proofs.Common.{◌≡◌, List, [], ◌∷◌, ◌++◌, refl, ap, sym}
use Rattle.std.specs.Prelude.{Result, Ok, Err, IfOk}
use Rattle.ap_world.specs.declared.entry.Case.{Case}
use Rattle.ap_term.specs.declared.term.Term.{Term}
use Rattle.ap_world.specs.declared.entry.Function.{Function}
use Rattle.ap_world.specs.Names.{a_name, car_name, cdr_name, consp_name, endp_name, equal_name, not_name}
use Rattle.ap_world.specs.Ground.{one, two, a, x, y, ground_functions, true_listp_function, len_function, length_function, acl2_count_function, append_function, member_equal_function, make_character_list_function}
use Rattle.ap_ground.specs.Tabled.{truths_and_equality, recognisers, comparisons, lists}
use Rattle.ap_ground.proofs.Obligations.{true_listp_cases, len_cases, acl2_count_cases, append_cases, member_equal_cases, make_character_list_cases}

-- what is one of two equal lists is the other
pub if_is : {E A : Type 0} (r : Result (List A) E) (xs ys : List A) → IfOk r (λ l. l ≡ xs) → xs ≡ ys → IfOk r (λ l. l ≡ ys)
if_is (Ok l) xs ys h is = rw (← is) h
if_is (Err e) xs ys h is = h

-- a case with these tests and calls
abbrev pub with : List Term → List (List Term) → Case
with tests calls = record { tests = tests; calls = calls }

-- a function with cases in place of its own
abbrev pub of_cases : Function → List Case → Function
of_cases f ks = record f { cases = ks }

-- with its own it is itself
pub own_cases : (f : Function) (ks : List Case) → f.cases ≡ ks → of_cases f ks ≡ f
own_cases f ks h = ap (of_cases f) (sym h)

-- the tests of the bodies
abbrev conses : Term
conses = one consp_name x

abbrev ends : Term
ends = one endp_name x

abbrev rest : Term
rest = one cdr_name x

abbrev found : Term
found = two equal_name a (one car_name x)

abbrev no : Term → Term
no u = one not_name u

-- those of lists, with the cases written out
abbrev pub written : List Function
written =
    of_cases true_listp_function (with (conses ∷ []) ((rest ∷ []) ∷ []) ∷ with (no conses ∷ []) [] ∷ [])
    ∷ of_cases len_function (with (conses ∷ []) ((rest ∷ []) ∷ []) ∷ with (no conses ∷ []) [] ∷ [])
    ∷ length_function
    ∷ of_cases acl2_count_function (with (conses ∷ []) ((one car_name x ∷ []) ∷ (rest ∷ []) ∷ []) ∷ with (no conses ∷ []) [] ∷ [])
    ∷ of_cases append_function (with (ends ∷ []) [] ∷ with (no ends ∷ []) ((rest ∷ y ∷ []) ∷ []) ∷ [])
    ∷ of_cases member_equal_function (with (ends ∷ []) [] ∷ with (no ends ∷ found ∷ []) [] ∷ with (no ends ∷ no found ∷ []) ((a ∷ rest ∷ []) ∷ []) ∷ [])
    ∷ of_cases make_character_list_function (with (ends ∷ []) [] ∷ with (no ends ∷ []) ((rest ∷ []) ∷ []) ∷ [])
    ∷ []

pub written_is : written ≡ lists
written_is = rw (
  own_cases true_listp_function _ true_listp_cases,
  own_cases len_function _ len_cases,
  own_cases acl2_count_function _ acl2_count_cases,
  own_cases append_function _ append_cases,
  own_cases member_equal_function _ member_equal_cases,
  own_cases make_character_list_function _ make_character_list_cases,
) refl

-- the four parts are all
pub parts_are_all : ((truths_and_equality ++ recognisers) ++ comparisons) ++ lists ≡ ground_functions
unfolding ground_functions
parts_are_all = refl

pub joined_parts : (a b c d ab abc all : List Function) → a ≡ truths_and_equality → b ≡ recognisers → c ≡ comparisons → d ≡ lists
    → ab ≡ a ++ b → abc ≡ ab ++ c → all ≡ abc ++ d → all ≡ ground_functions
joined_parts a b c d ab abc all ha hb hc hd first second third = rw (third, second, first, ha, hb, hc, hd) parts_are_all
