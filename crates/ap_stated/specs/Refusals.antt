-- Why an event is refused, and how that is printed: by a number and a word.
use Rattle.std.specs.Prelude.{ℕ, Bool, true, false, List, [], ◌++◌, Result, Ok, Err, codes, decimal}
use Rattle.ap_hints.specs.declared.fault.HintError.{HintError}
use Rattle.ap_hints.specs.Answers as hinting
use Rattle.ap_rules.specs.declared.refusing.RuleError.{RuleError}
use Rattle.ap_terminate.specs.declared.measures.TerminateError.{TerminateError}
use Rattle.ap_translate.specs.declared.fault.TransKind.{TransKind}
use Rattle.ap_translate.specs.declared.fault.TransKind.TheVariants as kinds
use Rattle.ap_translate.specs.Answers as translation
use Rattle.ap_walk.specs.declared.act.Reason.{Reason}
use Rattle.ap_walk.specs.Visits.{reason_number}
use Rattle.ap_stated.specs.declared.refusing.Refusal.{Refusal}

-- a form that is no term
unfoldable pub kind_text : TransKind → List ℕ
kind_text kinds.UnknownName = codes "UnknownName"
kind_text kinds.WrongArity = codes "WrongArity"
kind_text kinds.BadForm = codes "BadForm"
kind_text kinds.DottedForm = codes "DottedForm"
kind_text kinds.TermTooLarge = codes "TermTooLarge"
kind_text kinds.NotAVariable = codes "NotAVariable"
kind_text kinds.CommaOutside = codes "CommaOutside"

unfoldable pub translation_text : TransKind → List ℕ
translation_text k = codes "4." ++ decimal (translation.number_of k) ++ codes " " ++ kind_text k

-- a theorem that gives no rules of its classes
unfoldable pub rule_text : RuleError → List ℕ
rule_text RuleError.LhsVariable = codes "5.1 LhsVariable"
rule_text RuleError.LhsConstant = codes "5.2 LhsConstant"
rule_text RuleError.FreeInRhs = codes "5.3 FreeInRhs"
rule_text RuleError.NotInequality = codes "5.4 NotInequality"
rule_text RuleError.NotTypeForm = codes "5.5 NotTypeForm"
rule_text RuleError.NoMemory = []

-- hints
unfoldable pub hint_text : HintError → List ℕ
hint_text HintError.BadGoalName = codes "6.1 BadGoalName"
hint_text HintError.UnknownKeyword = codes "6.2 UnknownKeyword"
hint_text HintError.UnknownRune = codes "6.3 UnknownRune"
hint_text HintError.BadInstance = codes "6.4 BadInstance"
hint_text HintError.Repeated = codes "6.5 Repeated"
hint_text HintError.NoMemory = []

-- a function that calls itself, and has no measure
unfoldable pub termination_text : TerminateError → List ℕ
termination_text TerminateError.NoMeasure = codes "7.1 NoMeasure"
termination_text TerminateError.NestedRecursion = codes "7.2 NestedRecursion"
termination_text TerminateError.BadMeasure = codes "7.3 BadMeasure"
termination_text TerminateError.NoMemory = []

-- an attempt that failed
unfoldable pub reason_text : Reason → List ℕ
reason_text Reason.NoScheme = codes "NoScheme"
reason_text Reason.EmptyClause = codes "EmptyClause"
reason_text Reason.GoalLimit = codes "GoalLimit"
reason_text Reason.PathDepth = codes "PathDepth"
reason_text Reason.InductionDepth = codes "InductionDepth"
reason_text Reason.DoNotInduct = codes "DoNotInduct"

unfoldable pub failure_text : Reason → List ℕ
failure_text r = codes "8." ++ decimal (reason_number r) ++ codes " " ++ reason_text r

unfoldable pub refusal_text : Refusal → List ℕ
refusal_text Refusal.NotSupported = codes "1 NotSupported"
refusal_text Refusal.BadEvent = codes "2 BadEvent"
refusal_text Refusal.NameTaken = codes "3 NameTaken"
refusal_text (Refusal.Translation k) = translation_text k
refusal_text (Refusal.Rule e) = rule_text e
refusal_text (Refusal.Hint e) = hint_text e
refusal_text (Refusal.Termination e) = termination_text e
refusal_text (Refusal.Attempt r) = failure_text r
refusal_text Refusal.NoSuchBook = codes "9 NoSuchBook"
refusal_text Refusal.GuardsAsked = codes "11 GuardsAsked"

-- what is looked for, or the first refusal
abbrev pub Answer : Type 0 → Type 0
Answer A = Result A Refusal

infixl 10 ◌>>=◌
-- one after another, up to the first refusal
abbrev pub ◌>>=◌ : {A B : Type 0} → Answer A → (A → Answer B) → Answer B
(Ok a) >>= g = g a
(Err r) >>= g = Err r

-- refused where a test holds
abbrev pub unless : {A : Type 0} → Bool → Refusal → Answer A → Answer A
unless true r a = Err r
unless false r a = a

-- what translation answers, and what the reading of hints does
abbrev pub as_translated : {A : Type 0} → translation.Answer A → Answer A
as_translated (Ok a) = Ok a
as_translated (Err e) = Err (Refusal.Translation e.kind)

abbrev pub as_hinted : {A : Type 0} → hinting.Answer A → Answer A
as_hinted (Ok a) = Ok a
as_hinted (Err e) = Err (Refusal.Hint e)
