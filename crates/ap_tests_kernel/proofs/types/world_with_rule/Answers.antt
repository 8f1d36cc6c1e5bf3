use Rattle.std.proofs.Common.{◌≡◌, ◌≢◌, Bool, true, false, cond, [], ◌∷◌, map, pos, inl, refl, sym, ap, ◌∙◌, subst, rules}
use Rattle.ap_value.specs.Values.{V, int, value_eq}
use Rattle.ap_world.specs.declared.entry.Entry.TheVariants as entry
use Rattle.ap_world.specs.Names.{integerp_name, natp_name, nfix_name, x_name}
use Rattle.ap_world.specs.Primitives.{nil, is_integer, truth}
use Rattle.ap_world.specs.Meaning.{Env, Valid}
use Rattle.ap_world.specs.Sound.{known, HasFunctions}
use Rattle.ap_world.specs.Ground.{one, x, ground, ground_functions, ground_rules, natp_function, nfix_function}
use Rattle.ap_world.specs.World.{Shown, added, function_of}
use Rattle.ap_world.specs.declared.entry.Theorem.{Theorem}
use Rattle.ap_strategy.specs.Laws.{kernel_ground}
use Rattle.ap_world.proofs.TotalMeaning.{Apply, Models, val, models, apply_is, valid_of}
use Rattle.ap_world.proofs.Equations.{vals, knowing, t_isnt_nil, val_integerp, val_defined, val_of_int}
use Rattle.ap_world.proofs.Extending.{function_of-theorem}
use Rattle.ap_kernel.specs.Standing.{DefinesNot}
use Rattle.ap_ground.proofs.Meanings.{ground_heads, prim_of_nfix}
use Rattle.ap_ground.proofs.Meant.{val_natp}
use Rattle.ap_ground.proofs.There.{has_natp, has_nfix}
use Rattle.ap_ground.proofs.Totality.{G, ground_total}
use Rattle.ap_ground.proofs.Good.{defined_with}
use Rattle.ap_ground.proofs.Valued.{nil-is_nil}
use Rattle.ap_tests_kernel.proofs.types.world_with_rule.Goals as goal

module _ (A : Apply) (m : Models G A) where
  natp_other : (v : V) → is_integer v ≡ false → A natp_name (v ∷ []) ≡ nil
  unfolding natp_function x_name
  natp_other v h = apply_is G A m natp_name natp_function (v ∷ []) has_natp refl ∙ simp (vals, h, nil-is_nil)

  nfix_is : (v : V) → A nfix_name (v ∷ []) ≡ cond (value_eq (A natp_name (v ∷ [])) nil) (int (pos 0)) v
  unfolding nfix_function x_name
  nfix_is v = apply_is G A m nfix_name nfix_function (v ∷ []) has_nfix refl ∙ simp (vals, val_natp, val_of_int)

  nfix_integer : (v : V) → is_integer (A nfix_name (v ∷ [])) ≡ true
  nfix_integer v = go (is_integer v) refl
    where
      chosen : (b : Bool) → is_integer v ≡ true → is_integer (cond b (int (pos 0)) v) ≡ true
      chosen true h = refl
      chosen false h = h

      go : (b : Bool) → is_integer v ≡ b → is_integer (A nfix_name (v ∷ [])) ≡ true
      go true h = ap is_integer (nfix_is v) ∙ chosen (value_eq (A natp_name (v ∷ [])) nil) h
      go false h = rw (nfix_is v, natp_other v h, nil-is_nil) refl

  true_at : (e : Env) → val A (one integerp_name (one nfix_name x)) e ≢ nil
  true_at e n =
      t_isnt_nil (sym (val_integerp A (one nfix_name x) e ∙ ap (λ v. truth (is_integer v)) (val_defined A nfix_name (x ∷ []) e prim_of_nfix)
      ∙ ap truth (nfix_integer (val A x e))) ∙ n)

known_in : known G (one integerp_name (one nfix_name x)) ≡ true
unfolding nfix_function
known_in = simp (knowing, ground_heads, has_nfix)

valid_in : Valid G (one integerp_name (one nfix_name x) ∷ [])
valid_in = let (A, m) = models G ground_total in valid_of G A m (one integerp_name (one nfix_name x) ∷ []) (rw known_in refl) (λ e. inl (true_at A m e))

-- the ground world's functions are the same in that world
defined_as : (w : Shown) → w ≡ record { entries = ground; theory = record { disabled = [] } } → function_of w.entries ≡ G
defined_as w is = ap (λ (v : Shown). function_of v.entries) is ∙ defined_with (map entry.Function ground_functions) ground_rules

with_ground : (w v : Shown) (u : Theorem) → w ≡ record { entries = ground; theory = record { disabled = [] } } → v ≡ added w (entry.Theorem u) → HasFunctions (function_of ground) → DefinesNot (function_of v.entries)
with_ground w v u w_is v_is functions =
    subst DefinesNot (sym (ap (λ (v : Shown). function_of v.entries) v_is ∙ function_of-theorem w.entries u ∙ ap (λ (v : Shown). function_of v.entries) w_is))
    (kernel_ground (function_of ground) functions)

pub add_theorem-requires-clause-known : goal.add_theorem-requires-clause-known
add_theorem-requires-clause-known c = rw (defined_as c.in_ok-world.world c.in_ok-world.ensures, c.in_ok-t.ensures) known_in

pub add_theorem-requires-clause-valid : goal.add_theorem-requires-clause-valid
add_theorem-requires-clause-valid c = rw (defined_as c.in_ok-world.world c.in_ok-world.ensures, c.in_ok-t.ensures) valid_in

pub returns-in-Ok : goal.returns-in-Ok
returns-in-Ok c = with_ground c.in_ok-world.world c.add_theorem.new.self (record { name = c.in_ok-name.name; term = c.in_ok-t.t; classes = c.push.new.self }) c.in_ok-world.ensures (search rules) c.ground_has_its_functions.ensures
