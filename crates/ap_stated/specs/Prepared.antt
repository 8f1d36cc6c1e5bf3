-- What is known of a definition whose parts are translated.
use Rattle.std.specs.Prelude.{◌≡◌, true, List, map}
use Rattle.ap_list.specs.Lists.{all_true, is_distinct}
use Rattle.ap_value.specs.Values.{symbol_eq}
use Rattle.ap_world.specs.declared.entry.Defun.{Defun}
use Rattle.ap_world.specs.declared.entry.Entry.{Entry}
use Rattle.ap_world.specs.Recursion.{cases_of}
use Rattle.ap_world.specs.Sound.{known, speaks_of, components}
use Rattle.ap_world.specs.World.{function_of}
use Rattle.ap_admit.specs.Admission.{with_function}
use Rattle.ap_stated.specs.Translating.{stub}

-- it speaks of its formals, and of the world: its body also of the function itself
pub record IsPrepared (W : List Entry) (d : Defun) : Type 0 where
  pub formals : is_distinct symbol_eq d.formals ≡ true
  pub body_speaks : speaks_of d.formals d.body ≡ true
  pub body_known : known (function_of (with_function W (stub d.name d.formals))) d.body ≡ true
  pub measure_speaks : all_true (map (speaks_of d.formals) (components d.measure)) ≡ true
  pub measure_known : all_true (map (known (function_of W)) (components d.measure)) ≡ true
  pub cases : d.cases ≡ cases_of d.name d.body
