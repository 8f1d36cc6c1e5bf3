-- What an event of a book comes to, by its head.
use Rattle.std.specs.Prelude.{Bool, true, false, cond, Option, Some, None, codes}
use Rattle.ap_value.specs.declared.symbol.Symbol.{Symbol}
use Rattle.ap_value.specs.Values.{acl2, symbol_eq}
use Rattle.ap_term.specs.Printed.{symbol_text}
use Rattle.ap_world.specs.World.{Shown}
use Rattle.ap_reader.specs.declared.form.Form.{Form}
use Rattle.ap_plain.specs.declared.kinds.Kind.{Kind}
use Rattle.ap_plain.specs.declared.kinds.Kind.TheVariants as kind
use Rattle.ap_plain.specs.declared.limits.Limits.{Limits}
use Rattle.ap_stated.specs.declared.refusing.Refusal.{Refusal}
use Rattle.ap_plain.specs.Changes.{changes_of, theory_event}
use Rattle.ap_plain.specs.Constants.{constant_event}
use Rattle.ap_plain.specs.Ends.{Done, refused_alone}
use Rattle.ap_plain.specs.Proposals.{proposed_theorem, proposed_definition, proposed_event}
use Rattle.ap_stated.specs.Shapes.{Stated, Defined, head_of, statement_of, definition_of, constant_of}
use Rattle.ap_stated.specs.Texts.{title}

-- the kind of an event by the symbol at its head; None: it isn't built
unfoldable pub kind_of : Symbol → Option Kind
kind_of h =
    cond (symbol_eq h (acl2 (codes "DEFTHM"))) (Some kind.Theorem)
    (cond (symbol_eq h (acl2 (codes "DEFTHMD"))) (Some kind.DisabledTheorem)
    (cond (symbol_eq h (acl2 (codes "DEFUN"))) (Some kind.Function)
    (cond (symbol_eq h (acl2 (codes "DEFUND"))) (Some kind.DisabledFunction)
    (cond (symbol_eq h (acl2 (codes "DEFCONST"))) (Some kind.Constant)
    (cond (symbol_eq h (acl2 (codes "IN-THEORY"))) (Some kind.Theory) None)))))

-- `defthmd` and `defund` print as `defthm` and `defun`
abbrev pub stated_event : Limits → Shown → Bool → Stated → Done
stated_event limits w enabled s = proposed_event limits s.chosen.otf w (title (codes "DEFTHM") s.name) enabled s.chosen.hints (proposed_theorem w s)

unfoldable pub theorem_event : Limits → Shown → Bool → Option Stated → Done
theorem_event limits w enabled None = refused_alone (codes "DEFTHM") Refusal.BadEvent
theorem_event limits w enabled (Some s) = stated_event limits w enabled s

abbrev pub defined_event : Limits → Shown → Bool → Defined → Done
defined_event limits w enabled d = proposed_event limits d.xargs.otf w (title (codes "DEFUN") d.name) enabled d.xargs.hints (proposed_definition w d)

unfoldable pub definition_event : Limits → Shown → Bool → Option Defined → Done
definition_event limits w enabled None = refused_alone (codes "DEFUN") Refusal.BadEvent
definition_event limits w enabled (Some d) = defined_event limits w enabled d

-- an event of a kind, by its shape
unfoldable pub event_by : Limits → Shown → Form → Kind → Done
event_by limits w f kind.Theorem = theorem_event limits w true (statement_of f)
event_by limits w f kind.DisabledTheorem = theorem_event limits w false (statement_of f)
event_by limits w f kind.Function = definition_event limits w true (definition_of f)
event_by limits w f kind.DisabledFunction = definition_event limits w false (definition_of f)
event_by limits w f kind.Constant = constant_event w (constant_of f)
event_by limits w f kind.Theory = theory_event w (changes_of f)

unfoldable pub headed_event : Limits → Shown → Form → Symbol → Option Kind → Done
headed_event limits w f h None = refused_alone (symbol_text h) Refusal.NotSupported
headed_event limits w f h (Some k) = event_by limits w f k

-- a form with no symbol at its head is none
unfoldable pub event_with : Limits → Shown → Form → Option Symbol → Done
event_with limits w f None = refused_alone (codes "FORM") Refusal.NotSupported
event_with limits w f (Some h) = headed_event limits w f h (kind_of h)

unfoldable pub event_of : Limits → Shown → Form → Done
event_of limits w f = event_with limits w f (head_of f)
