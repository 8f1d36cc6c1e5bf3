use Rattle.std.proofs.Common.{◌≡◌, true, [], drop}
use Rattle.ap_list.specs.Lists.{is_distinct}
use Rattle.ap_value.specs.Values.{symbol_eq}
use Rattle.ap_stated.specs.Translating.{formal_names}
use Rattle.ap_stated.proofs.translating.formal_names.Given as goal

-- what is left tells, and the formals so far are distinct
abbrev pub invariant-loop-form : goal.invariant-loop-form
invariant-loop-form l = record {
  told : formal_names l.names (drop l.form-index l.forms) ≡ formal_names [] l.forms;
  distinct : is_distinct symbol_eq l.names ≡ true;
}
