-- The event of a constant.
use Rattle.std.specs.Prelude.{ℕ, List, [], Option, Some, None, Ok, Err, codes}
use Rattle.ap_value.specs.declared.symbol.Symbol.{Symbol}
use Rattle.ap_value.specs.declared.value.Value.{Value}
use Rattle.ap_world.specs.declared.entry.Entry.TheVariants as entry
use Rattle.ap_world.specs.World.{Shown, added, has_name}
use Rattle.ap_reader.specs.declared.form.Form.{Form}
use Rattle.ap_translate.specs.Answers as translation
use Rattle.ap_translate.specs.Written.{written}
use Rattle.ap_stated.specs.declared.refusing.Refusal.{Refusal}
use Rattle.ap_plain.specs.Ends.{Done, admitted, refused_alone}
use Rattle.ap_stated.specs.Refusals.{Answer, unless}
use Rattle.ap_stated.specs.Texts.{title, said_line}

abbrev pub constant_title : Symbol → List ℕ
constant_title n = title (codes "DEFCONST") n

-- its event has the last line alone
abbrev pub valued_constant : Shown → Symbol → Answer Value → Done
valued_constant w n (Ok v) = admitted (added w (entry.Constant n v)) (said_line (constant_title n) (codes " admitted")) []
valued_constant w n (Err r) = refused_alone (constant_title n) r

-- its name is looked up before its form is
abbrev pub stated_constant : Shown → Symbol → Answer Value → Answer Value
stated_constant w n value = unless (has_name w.entries n) Refusal.NameTaken value

-- a form that is none of a constant isn't the shape
unfoldable pub written_constant : Shown → Symbol → translation.Answer (Option Value) → Done
written_constant w n (Ok None) = refused_alone (codes "DEFCONST") Refusal.BadEvent
written_constant w n (Ok (Some v)) = valued_constant w n (stated_constant w n (Ok v))
written_constant w n (Err e) = valued_constant w n (stated_constant w n (Err (Refusal.Translation e.kind)))

unfoldable pub constant_event : Shown → Option (Symbol × Form) → Done
constant_event w None = refused_alone (codes "DEFCONST") Refusal.BadEvent
constant_event w (Some p) = written_constant w p.0 (written p.1)
