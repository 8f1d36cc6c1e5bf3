-- The rule classes of a theorem.
use Rattle.std.specs.Prelude.{cond, List, [], ◌∷◌, map, Option, Some, None, codes}
use Rattle.ap_reader.specs.declared.form.Form.{Form}
use Rattle.ap_reader.specs.Tops.{items_in, is_keyword}
use Rattle.ap_world.specs.declared.entry.RuleClass.{RuleClass}
use Rattle.ap_world.specs.declared.entry.RuleClass.TheVariants as class

abbrev pub class_of : Form → RuleClass
class_of f =
    cond (is_keyword (codes "LINEAR") f) class.Linear
    (cond (is_keyword (codes "TYPE-PRESCRIPTION") f) class.TypePrescription class.Rewrite)

-- those of a list, or the one
abbrev pub classes_listed : Option (List Form) → Form → List RuleClass
classes_listed (Some fs) f = map class_of fs
classes_listed None f = class_of f ∷ []

-- where none are given it is that of rewrite rules
abbrev pub classes_in : Option Form → List RuleClass
classes_in None = class.Rewrite ∷ []
classes_in (Some f) = classes_listed (items_in f) f
