-- Each function of the ground world is good, and so the ground world is sound.
use Rattle.std.proofs.Common.{◌≡◌, ℕ, Bool, true, false, cond, List, [], ◌∷◌, ◌++◌, map, length, IfSome, Some, refl, sym, ap, ◌∙◌, subst}
use Rattle.std.proofs.lemmas.List.{append-nil, append_assoc}
use Rattle.ap_list.specs.Lists.{Each}
use Rattle.ap_value.specs.declared.symbol.Symbol.{Symbol}
use Rattle.ap_value.specs.Values.{V, symbol_eq}
use Rattle.ap_world.specs.declared.entry.Function.{Function}
use Rattle.ap_world.specs.declared.entry.Theorem.{Theorem}
use Rattle.ap_world.specs.declared.entry.Entry.{Entry}
use Rattle.ap_world.specs.declared.entry.Entry.TheVariants as entry
use Rattle.ap_world.specs.Meaning.{Defs, Total, CallValue}
use Rattle.ap_world.specs.Types.{Has, all_types}
use Rattle.ap_world.specs.Sound.{given_function, DefinedAlike, GoodFunction, GoodTheorem, Good, Sound}
use Rattle.ap_world.specs.World.{as_function, entry_of, function_of}
use Rattle.ap_world.specs.Ground.{not_function, implies_function, iff_function, atom_function, endp_function, null_function, eq_function, eql_function, numeric_equal_function, acl2_numberp_function, rationalp_function, booleanp_function, fix_function, ifix_function, natp_function, posp_function, nfix_function, zp_function, zip_function, zerop_function, plusp_function, minusp_function, max_function, min_function, abs_function, integer_abs_function, true_listp_function, len_function, length_function, acl2_count_function, append_function, member_equal_function, make_character_list_function, ground_functions, ground_rules, ground, named_in}
use Rattle.ap_world.proofs.TotalMeaning.{Apply, Models, models}
use Rattle.ap_world.proofs.Equations.{names_open, knowing}
use Rattle.ap_world.proofs.Written.{speaking, recursion}
use Rattle.ap_world.proofs.Starting.{has_all}
use Rattle.ap_world.proofs.Extending.{function_of-theorem}
use Rattle.ap_world.proofs.Adding.{each_append}
use Rattle.ap_ground.proofs.Meanings.{ground_heads}
use Rattle.ap_ground.proofs.Totality.{G, ground_total}
use Rattle.ap_ground.proofs.There.{has_not, has_implies, has_iff, has_atom, has_endp, has_null, has_eq, has_eql, has_numeric_equal, has_acl2_numberp, has_rationalp, has_booleanp, has_fix, has_ifix, has_natp, has_posp, has_nfix, has_zp, has_zip, has_zerop, has_plusp, has_minusp, has_max, has_min, has_abs, has_integer_abs, has_true_listp, has_len, has_length, has_acl2_count, has_append, has_member_equal, has_make_character_list}
use Rattle.ap_ground.proofs.Obligations.{natural, true_listp_falls, len_falls, acl2_count_falls, append_falls, member_equal_falls, make_character_list_falls}
use Rattle.ap_ground.proofs.Masked.{by_body, by_calls, not_masked, implies_masked, iff_masked, atom_masked, endp_masked, null_masked, eq_masked, eql_masked, numeric_equal_masked, acl2_numberp_masked, rationalp_masked, booleanp_masked, fix_masked, ifix_masked, natp_masked, posp_masked, zp_masked, zip_masked, zerop_masked, plusp_masked, minusp_masked, abs_masked, integer_abs_masked, true_listp_masked, len_masked, length_masked, acl2_count_masked, make_character_list_masked}
use Rattle.ap_ground.proofs.Axioms.{rules_good}

-- a list of functions defines what its names stand for
listed : (fs : List Function) (f : Symbol) → function_of (map entry.Function fs) f ≡ named_in fs f
listed [] f = refl
listed (g ∷ gs) f = go (symbol_eq f g.name) (listed gs f)
  where
    go : (b : Bool) → as_function (entry_of (map entry.Function gs) f) ≡ named_in gs f → as_function (cond b (Some (entry.Function g)) (entry_of (map entry.Function gs) f)) ≡ cond b (Some g) (named_in gs f)
    go true h = refl
    go false h = h

-- what stands there is defined as it is given
given_there : (f : Symbol) (g : Function) → G f ≡ Some g → IfSome (given_function f) (DefinedAlike g)
given_there f g here = subst (λ o. IfSome o (DefinedAlike g)) (sym here ∙ listed ground_functions f) (record { formals = refl; body = refl; measure = refl })

-- any value is in the mask of all ten types
any_value : (f : Symbol) (n : ℕ) (vs : List V) (v : V) → n ≡ length vs → CallValue G f vs v → Has all_types v
any_value f n vs v l h = has_all v

module _ (A : Apply) (m : Models G A) where
  not_good : GoodFunction G not_function
  unfolding not_function names_open
  not_good = record {
    formals = refl;
    body_speaks = simp speaking;
    measure_speaks = refl;
    body_known = simp (knowing);
    measure_known = refl;
    given = given_there _ not_function has_not;
    recursion = record { plain = simp recursion; cases = refl };
    mask = by_body A m not_function has_not (not_masked A m);
  }

  implies_good : GoodFunction G implies_function
  unfolding implies_function names_open
  implies_good = record {
    formals = refl;
    body_speaks = simp speaking;
    measure_speaks = refl;
    body_known = simp (knowing);
    measure_known = refl;
    given = given_there _ implies_function has_implies;
    recursion = record { plain = simp recursion; cases = refl };
    mask = by_body A m implies_function has_implies (implies_masked A m);
  }

  iff_good : GoodFunction G iff_function
  unfolding iff_function names_open
  iff_good = record {
    formals = refl;
    body_speaks = simp speaking;
    measure_speaks = refl;
    body_known = simp (knowing);
    measure_known = refl;
    given = given_there _ iff_function has_iff;
    recursion = record { plain = simp recursion; cases = refl };
    mask = by_body A m iff_function has_iff (iff_masked A m);
  }

  atom_good : GoodFunction G atom_function
  unfolding atom_function not_function names_open
  atom_good = record {
    formals = refl;
    body_speaks = simp speaking;
    measure_speaks = refl;
    body_known = simp (has_not, knowing, ground_heads);
    measure_known = refl;
    given = given_there _ atom_function has_atom;
    recursion = record { plain = simp recursion; cases = refl };
    mask = by_body A m atom_function has_atom (atom_masked A m);
  }

  endp_good : GoodFunction G endp_function
  unfolding endp_function not_function names_open
  endp_good = record {
    formals = refl;
    body_speaks = simp speaking;
    measure_speaks = refl;
    body_known = simp (has_not, knowing, ground_heads);
    measure_known = refl;
    given = given_there _ endp_function has_endp;
    recursion = record { plain = simp recursion; cases = refl };
    mask = by_body A m endp_function has_endp (endp_masked A m);
  }

  null_good : GoodFunction G null_function
  unfolding null_function names_open
  null_good = record {
    formals = refl;
    body_speaks = simp speaking;
    measure_speaks = refl;
    body_known = simp (knowing);
    measure_known = refl;
    given = given_there _ null_function has_null;
    recursion = record { plain = simp recursion; cases = refl };
    mask = by_body A m null_function has_null (null_masked A m);
  }

  eq_good : GoodFunction G eq_function
  unfolding eq_function names_open
  eq_good = record {
    formals = refl;
    body_speaks = simp speaking;
    measure_speaks = refl;
    body_known = simp (knowing);
    measure_known = refl;
    given = given_there _ eq_function has_eq;
    recursion = record { plain = simp recursion; cases = refl };
    mask = by_body A m eq_function has_eq (eq_masked A m);
  }

  eql_good : GoodFunction G eql_function
  unfolding eql_function names_open
  eql_good = record {
    formals = refl;
    body_speaks = simp speaking;
    measure_speaks = refl;
    body_known = simp (knowing);
    measure_known = refl;
    given = given_there _ eql_function has_eql;
    recursion = record { plain = simp recursion; cases = refl };
    mask = by_body A m eql_function has_eql (eql_masked A m);
  }

  numeric_equal_good : GoodFunction G numeric_equal_function
  unfolding numeric_equal_function names_open
  numeric_equal_good = record {
    formals = refl;
    body_speaks = simp speaking;
    measure_speaks = refl;
    body_known = simp (knowing);
    measure_known = refl;
    given = given_there _ numeric_equal_function has_numeric_equal;
    recursion = record { plain = simp recursion; cases = refl };
    mask = by_body A m numeric_equal_function has_numeric_equal (numeric_equal_masked A m);
  }

  acl2_numberp_good : GoodFunction G acl2_numberp_function
  unfolding acl2_numberp_function names_open
  acl2_numberp_good = record {
    formals = refl;
    body_speaks = simp speaking;
    measure_speaks = refl;
    body_known = simp (knowing);
    measure_known = refl;
    given = given_there _ acl2_numberp_function has_acl2_numberp;
    recursion = record { plain = simp recursion; cases = refl };
    mask = by_body A m acl2_numberp_function has_acl2_numberp (acl2_numberp_masked A m);
  }

  rationalp_good : GoodFunction G rationalp_function
  unfolding rationalp_function names_open
  rationalp_good = record {
    formals = refl;
    body_speaks = simp speaking;
    measure_speaks = refl;
    body_known = simp (knowing);
    measure_known = refl;
    given = given_there _ rationalp_function has_rationalp;
    recursion = record { plain = simp recursion; cases = refl };
    mask = by_body A m rationalp_function has_rationalp (rationalp_masked A m);
  }

  booleanp_good : GoodFunction G booleanp_function
  unfolding booleanp_function names_open
  booleanp_good = record {
    formals = refl;
    body_speaks = simp speaking;
    measure_speaks = refl;
    body_known = simp (knowing);
    measure_known = refl;
    given = given_there _ booleanp_function has_booleanp;
    recursion = record { plain = simp recursion; cases = refl };
    mask = by_body A m booleanp_function has_booleanp (booleanp_masked A m);
  }

  fix_good : GoodFunction G fix_function
  unfolding fix_function names_open
  fix_good = record {
    formals = refl;
    body_speaks = simp speaking;
    measure_speaks = refl;
    body_known = simp (knowing);
    measure_known = refl;
    given = given_there _ fix_function has_fix;
    recursion = record { plain = simp recursion; cases = refl };
    mask = by_body A m fix_function has_fix (fix_masked A m);
  }

  ifix_good : GoodFunction G ifix_function
  unfolding ifix_function names_open
  ifix_good = record {
    formals = refl;
    body_speaks = simp speaking;
    measure_speaks = refl;
    body_known = simp (knowing);
    measure_known = refl;
    given = given_there _ ifix_function has_ifix;
    recursion = record { plain = simp recursion; cases = refl };
    mask = by_body A m ifix_function has_ifix (ifix_masked A m);
  }

  natp_good : GoodFunction G natp_function
  unfolding natp_function not_function names_open
  natp_good = record {
    formals = refl;
    body_speaks = simp speaking;
    measure_speaks = refl;
    body_known = simp (has_not, knowing, ground_heads);
    measure_known = refl;
    given = given_there _ natp_function has_natp;
    recursion = record { plain = simp recursion; cases = refl };
    mask = by_body A m natp_function has_natp (natp_masked A m);
  }

  posp_good : GoodFunction G posp_function
  unfolding posp_function names_open
  posp_good = record {
    formals = refl;
    body_speaks = simp speaking;
    measure_speaks = refl;
    body_known = simp (knowing);
    measure_known = refl;
    given = given_there _ posp_function has_posp;
    recursion = record { plain = simp recursion; cases = refl };
    mask = by_body A m posp_function has_posp (posp_masked A m);
  }

  nfix_good : GoodFunction G nfix_function
  unfolding natp_function nfix_function names_open
  nfix_good = record {
    formals = refl;
    body_speaks = simp speaking;
    measure_speaks = refl;
    body_known = simp (has_natp, knowing, ground_heads);
    measure_known = refl;
    given = given_there _ nfix_function has_nfix;
    recursion = record { plain = simp recursion; cases = refl };
    mask = any_value _ _;
  }

  zp_good : GoodFunction G zp_function
  unfolding not_function zp_function names_open
  zp_good = record {
    formals = refl;
    body_speaks = simp speaking;
    measure_speaks = refl;
    body_known = simp (has_not, knowing, ground_heads);
    measure_known = refl;
    given = given_there _ zp_function has_zp;
    recursion = record { plain = simp recursion; cases = refl };
    mask = by_body A m zp_function has_zp (zp_masked A m);
  }

  zip_good : GoodFunction G zip_function
  unfolding zip_function names_open
  zip_good = record {
    formals = refl;
    body_speaks = simp speaking;
    measure_speaks = refl;
    body_known = simp (knowing);
    measure_known = refl;
    given = given_there _ zip_function has_zip;
    recursion = record { plain = simp recursion; cases = refl };
    mask = by_body A m zip_function has_zip (zip_masked A m);
  }

  zerop_good : GoodFunction G zerop_function
  unfolding zerop_function names_open
  zerop_good = record {
    formals = refl;
    body_speaks = simp speaking;
    measure_speaks = refl;
    body_known = simp (knowing);
    measure_known = refl;
    given = given_there _ zerop_function has_zerop;
    recursion = record { plain = simp recursion; cases = refl };
    mask = by_body A m zerop_function has_zerop (zerop_masked A m);
  }

  plusp_good : GoodFunction G plusp_function
  unfolding plusp_function names_open
  plusp_good = record {
    formals = refl;
    body_speaks = simp speaking;
    measure_speaks = refl;
    body_known = simp (knowing);
    measure_known = refl;
    given = given_there _ plusp_function has_plusp;
    recursion = record { plain = simp recursion; cases = refl };
    mask = by_body A m plusp_function has_plusp (plusp_masked A m);
  }

  minusp_good : GoodFunction G minusp_function
  unfolding minusp_function names_open
  minusp_good = record {
    formals = refl;
    body_speaks = simp speaking;
    measure_speaks = refl;
    body_known = simp (knowing);
    measure_known = refl;
    given = given_there _ minusp_function has_minusp;
    recursion = record { plain = simp recursion; cases = refl };
    mask = by_body A m minusp_function has_minusp (minusp_masked A m);
  }

  max_good : GoodFunction G max_function
  unfolding max_function names_open
  max_good = record {
    formals = refl;
    body_speaks = simp speaking;
    measure_speaks = refl;
    body_known = simp (knowing);
    measure_known = refl;
    given = given_there _ max_function has_max;
    recursion = record { plain = simp recursion; cases = refl };
    mask = any_value _ _;
  }

  min_good : GoodFunction G min_function
  unfolding min_function names_open
  min_good = record {
    formals = refl;
    body_speaks = simp speaking;
    measure_speaks = refl;
    body_known = simp (knowing);
    measure_known = refl;
    given = given_there _ min_function has_min;
    recursion = record { plain = simp recursion; cases = refl };
    mask = any_value _ _;
  }

  abs_good : GoodFunction G abs_function
  unfolding abs_function names_open
  abs_good = record {
    formals = refl;
    body_speaks = simp speaking;
    measure_speaks = refl;
    body_known = simp (knowing);
    measure_known = refl;
    given = given_there _ abs_function has_abs;
    recursion = record { plain = simp recursion; cases = refl };
    mask = by_body A m abs_function has_abs (abs_masked A m);
  }

  integer_abs_good : GoodFunction G integer_abs_function
  unfolding integer_abs_function names_open
  integer_abs_good = record {
    formals = refl;
    body_speaks = simp speaking;
    measure_speaks = refl;
    body_known = simp (knowing);
    measure_known = refl;
    given = given_there _ integer_abs_function has_integer_abs;
    recursion = record { plain = simp recursion; cases = refl };
    mask = by_body A m integer_abs_function has_integer_abs (integer_abs_masked A m);
  }

  true_listp_good : GoodFunction G true_listp_function
  unfolding acl2_count_function true_listp_function names_open
  true_listp_good = record {
    formals = refl;
    body_speaks = simp speaking;
    measure_speaks = simp speaking;
    body_known = simp (has_true_listp, knowing, ground_heads);
    measure_known = simp (has_acl2_count, knowing, ground_heads);
    given = given_there _ true_listp_function has_true_listp;
    recursion = record { recurs = simp recursion; unnested = simp recursion; cases = refl; natural = natural A m; falls = true_listp_falls A m };
    mask = by_calls A m true_listp_function has_true_listp (true_listp_masked A m);
  }

  len_good : GoodFunction G len_function
  unfolding acl2_count_function len_function names_open
  len_good = record {
    formals = refl;
    body_speaks = simp speaking;
    measure_speaks = simp speaking;
    body_known = simp (has_len, knowing, ground_heads);
    measure_known = simp (has_acl2_count, knowing, ground_heads);
    given = given_there _ len_function has_len;
    recursion = record { recurs = simp recursion; unnested = simp recursion; cases = refl; natural = natural A m; falls = len_falls A m };
    mask = by_calls A m len_function has_len (len_masked A m);
  }

  length_good : GoodFunction G length_function
  unfolding len_function length_function names_open
  length_good = record {
    formals = refl;
    body_speaks = simp speaking;
    measure_speaks = refl;
    body_known = simp (has_len, knowing, ground_heads);
    measure_known = refl;
    given = given_there _ length_function has_length;
    recursion = record { plain = simp recursion; cases = refl };
    mask = by_body A m length_function has_length (length_masked A m);
  }

  acl2_count_good : GoodFunction G acl2_count_function
  unfolding acl2_count_function integer_abs_function length_function names_open
  acl2_count_good = record {
    formals = refl;
    body_speaks = simp speaking;
    measure_speaks = simp speaking;
    body_known = simp (has_acl2_count, has_integer_abs, has_length, knowing, ground_heads);
    measure_known = simp (has_acl2_count, knowing, ground_heads);
    given = given_there _ acl2_count_function has_acl2_count;
    recursion = record { recurs = simp recursion; unnested = simp recursion; cases = refl; natural = natural A m; falls = acl2_count_falls A m };
    mask = by_calls A m acl2_count_function has_acl2_count (acl2_count_masked A m);
  }

  append_good : GoodFunction G append_function
  unfolding acl2_count_function append_function endp_function names_open
  append_good = record {
    formals = refl;
    body_speaks = simp speaking;
    measure_speaks = simp speaking;
    body_known = simp (has_endp, has_append, knowing, ground_heads);
    measure_known = simp (has_acl2_count, knowing, ground_heads);
    given = given_there _ append_function has_append;
    recursion = record { recurs = simp recursion; unnested = simp recursion; cases = refl; natural = natural A m; falls = append_falls A m };
    mask = any_value _ _;
  }

  member_equal_good : GoodFunction G member_equal_function
  unfolding acl2_count_function endp_function member_equal_function names_open
  member_equal_good = record {
    formals = refl;
    body_speaks = simp speaking;
    measure_speaks = simp speaking;
    body_known = simp (has_endp, has_member_equal, knowing, ground_heads);
    measure_known = simp (has_acl2_count, knowing, ground_heads);
    given = given_there _ member_equal_function has_member_equal;
    recursion = record { recurs = simp recursion; unnested = simp recursion; cases = refl; natural = natural A m; falls = member_equal_falls A m };
    mask = any_value _ _;
  }

  make_character_list_good : GoodFunction G make_character_list_function
  unfolding acl2_count_function endp_function make_character_list_function names_open
  make_character_list_good = record {
    formals = refl;
    body_speaks = simp speaking;
    measure_speaks = simp speaking;
    body_known = simp (has_endp, has_make_character_list, knowing, ground_heads);
    measure_known = simp (has_acl2_count, knowing, ground_heads);
    given = given_there _ make_character_list_function has_make_character_list;
    recursion = record { recurs = simp recursion; unnested = simp recursion; cases = refl; natural = natural A m; falls = make_character_list_falls A m };
    mask = by_calls A m make_character_list_function has_make_character_list (make_character_list_masked A m);
  }

  functions_good : Each (GoodFunction G) ground_functions
  unfolding ground_functions
  functions_good = (not_good, (implies_good, (iff_good, (atom_good, (endp_good, (null_good, (eq_good, (eql_good, (numeric_equal_good, (acl2_numberp_good, (rationalp_good, (booleanp_good, (fix_good, (ifix_good, (natp_good, (posp_good, (nfix_good, (zp_good, (zip_good, (zerop_good, (plusp_good, (minusp_good, (max_good, (min_good, (abs_good, (integer_abs_good, (true_listp_good, (len_good, (length_good, (acl2_count_good, (append_good, (member_equal_good, (make_character_list_good, tt)))))))))))))))))))))))))))))))))

-- the functions as entries, and the theorems
each_function : (D : Defs) (fs : List Function) → Each (GoodFunction D) fs → Each (Good D) (map entry.Function fs)
each_function D [] gs = tt
each_function D (f ∷ fs) gs = (gs.0, each_function D fs gs.1)

each_theorem : (D : Defs) (us : List Theorem) → Each (GoodTheorem D) us → Each (Good D) (map entry.Theorem us)
each_theorem D [] gs = tt
each_theorem D (u ∷ us) gs = (gs.0, each_theorem D us gs.1)

-- theorems define nothing
pub defined_with : (W : List Entry) (us : List Theorem) → function_of (W ++ map entry.Theorem us) ≡ function_of W
defined_with W [] = ap function_of (append-nil W)
defined_with W (u ∷ us) = ap function_of (sym (append_assoc W (entry.Theorem u ∷ []) (map entry.Theorem us))) ∙ defined_with (W ++ entry.Theorem u ∷ []) us ∙ function_of-theorem W u

ground_models : (A : Apply) × Models G A
ground_models = models G ground_total

pub functions_sound : Sound (map entry.Function ground_functions)
functions_sound = record { total = ground_total; good = each_function G ground_functions (functions_good ground_models.0 ground_models.1) }

pub ground_rules_good : Each (GoodTheorem G) ground_rules
ground_rules_good = rules_good ground_models.0 ground_models.1

pub ground_sound : Sound ground
ground_sound = record {
  total = subst Total (sym (defined_with (map entry.Function ground_functions) ground_rules)) ground_total;
  good = subst (λ D. Each (Good D) ground) (sym (defined_with (map entry.Function ground_functions) ground_rules))
      (each_append (Good G) (map entry.Function ground_functions) (map entry.Theorem ground_rules) functions_sound.good (each_theorem G ground_rules ground_rules_good));
}
