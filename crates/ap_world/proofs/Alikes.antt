-- The test of entries that are one but for a mask, and worlds that cover each other's entries.
use Rattle.std.proofs.Common.{◌≡◌, Bool, true, false, ◌&&◌, ◌↔◌, List, [], ◌∷◌, Option, Some, None, refl, ap, ◌∙◌, subst}
use Rattle.std.specs.Prelude.{IsTrue}
use Rattle.ap_value.specs.Values.{symbol_eq}
use Rattle.ap_value.specs.Equal.{constant_eq}
use Rattle.ap_value.proofs.Constants.{constant_eq-true, constant_eq-same}
use Rattle.ap_value.proofs.Equals.{both, and_true, symbol_eq-true, symbol_eq-same}
use Rattle.ap_term.specs.declared.term.Term.{Term}
use Rattle.ap_term.specs.Equal.{term_eq}
use Rattle.ap_term.proofs.Equals.{term_eq-true, term_eq-same, tests_same}
use Rattle.ap_world.specs.declared.entry.Case.{Case}
use Rattle.ap_world.specs.declared.entry.Measure.{Measure}
use Rattle.ap_world.specs.declared.entry.Function.{Function}
use Rattle.ap_world.specs.declared.entry.Theorem.{Theorem}
use Rattle.ap_world.specs.declared.entry.RuleClass.{RuleClass}
use Rattle.ap_world.specs.declared.entry.RuleClass.TheVariants as class
use Rattle.ap_world.specs.declared.entry.Entry.{Entry}
use Rattle.ap_world.specs.declared.entry.Entry.TheVariants as entry
use Rattle.ap_world.specs.Alike.{SameFunction, SameButMask, lists_eq, measure_eq, case_eq, class_eq, alike_entry}
use Rattle.ap_world.specs.Recursion.{args_eq}
use Rattle.ap_world.proofs.Repeats.{args_eq-true}

module _ {A : Type 0} (same : A → A → Bool) where
  lists_eq-true : ((x y : A) → same x y ≡ true → x ≡ y) → (xs ys : List A) → lists_eq same xs ys ≡ true → xs ≡ ys
  lists_eq-true k [] [] h = refl
  lists_eq-true k (x ∷ xs) (y ∷ ys) h =
      let p = both (same x y) (lists_eq same xs ys) h in
      ap (λ z. z ∷ xs) (k x y p.0) ∙ ap (λ zs. y ∷ zs) (lists_eq-true k xs ys p.1)
  lists_eq-true k [] (y ∷ ys) h = cc
  lists_eq-true k (x ∷ xs) [] h = cc

  lists_eq-same : ((x : A) → same x x ≡ true) → (xs : List A) → lists_eq same xs xs ≡ true
  lists_eq-same k [] = refl
  lists_eq-same k (x ∷ xs) = and_true (same x x) (lists_eq same xs xs) (k x) (lists_eq-same k xs)

args_eq-same : (xs : List Term) → args_eq xs xs ≡ true
args_eq-same [] = refl
args_eq-same (x ∷ xs) = and_true (term_eq x x) (args_eq xs xs) (term_eq-same x) (args_eq-same xs)

measure_eq-true : (o p : Option Measure) → measure_eq o p ≡ true → o ≡ p
measure_eq-true None None h = refl
measure_eq-true (Some m) (Some n) h = ap (λ us. Some (record { 0 = us })) (args_eq-true m.0 n.0 h)
measure_eq-true None (Some n) h = cc
measure_eq-true (Some m) None h = cc

measure_eq-same : (o : Option Measure) → measure_eq o o ≡ true
measure_eq-same None = refl
measure_eq-same (Some m) = args_eq-same m.0

case_eq-true : (j k : Case) → case_eq j k ≡ true → j ≡ k
case_eq-true j k h =
    let p = both (args_eq j.tests k.tests) (lists_eq args_eq j.calls k.calls) h in
    ap (λ ts. record { tests = ts; calls = j.calls }) (args_eq-true j.tests k.tests p.0)
    ∙ ap (λ cs. record { tests = k.tests; calls = cs }) (lists_eq-true args_eq args_eq-true j.calls k.calls p.1)

case_eq-same : (k : Case) → case_eq k k ≡ true
case_eq-same k = and_true (args_eq k.tests k.tests) (lists_eq args_eq k.calls k.calls) (args_eq-same k.tests) (lists_eq-same args_eq args_eq-same k.calls)

class_eq-true : (c d : RuleClass) → class_eq c d ≡ true → c ≡ d
class_eq-true class.Rewrite class.Rewrite h = refl
class_eq-true class.Linear class.Linear h = refl
class_eq-true class.TypePrescription class.TypePrescription h = refl
class_eq-true class.Elim class.Elim h = refl
class_eq-true c d h = absurd (cc h)

class_eq-same : (c : RuleClass) → class_eq c c ≡ true
class_eq-same class.Rewrite = refl
class_eq-same class.Linear = refl
class_eq-same class.TypePrescription = refl
class_eq-same class.Elim = refl

-- the test of two functions, five tests one after another
five : (a b c d e : Bool) → (a && b && c && d && e) ≡ true → (a ≡ true) × (b ≡ true) × (c ≡ true) × (d ≡ true) × (e ≡ true)
five true true true true true h = (refl, refl, refl, refl, refl)
five false b c d e h = cc
five true false c d e h = cc
five true true false d e h = cc
five true true true false e h = cc
five true true true true false h = cc

all_five : (a b c d e : Bool) → a ≡ true → b ≡ true → c ≡ true → d ≡ true → e ≡ true → (a && b && c && d && e) ≡ true
all_five true true true true true h i j k l = refl
all_five false b c d e h i j k l = cc
all_five true false c d e h i j k l = cc
all_five true true false d e h i j k l = cc
all_five true true true false e h i j k l = cc
all_five true true true true false h i j k l = cc

three : (a b c : Bool) → (a && b && c) ≡ true → (a ≡ true) × (b ≡ true) × (c ≡ true)
three true true true h = (refl, refl, refl)
three false b c h = cc
three true false c h = cc
three true true false h = cc

all_three : (a b c : Bool) → a ≡ true → b ≡ true → c ≡ true → (a && b && c) ≡ true
all_three true true true h i j = refl
all_three false b c h i j = cc
all_three true false c h i j = cc
all_three true true false h i j = cc

function-same : (f g : Function) → alike_entry (entry.Function f) (entry.Function g) ≡ true → SameFunction f g
function-same f g h =
    let p = five (symbol_eq f.name g.name) (lists_eq symbol_eq f.formals g.formals) (term_eq f.body g.body) (measure_eq f.measure g.measure) (lists_eq case_eq f.cases g.cases) h in
    record {
      name = symbol_eq-true f.name g.name p.0;
      formals = lists_eq-true symbol_eq symbol_eq-true f.formals g.formals p.1;
      body = term_eq-true f.body g.body p.2;
      measure = measure_eq-true f.measure g.measure p.3;
      cases = lists_eq-true case_eq case_eq-true f.cases g.cases p.4;
    }

same-function : (f g : Function) → SameFunction f g → alike_entry (entry.Function f) (entry.Function g) ≡ true
same-function f g s =
    all_five (symbol_eq f.name g.name) (lists_eq symbol_eq f.formals g.formals) (term_eq f.body g.body) (measure_eq f.measure g.measure) (lists_eq case_eq f.cases g.cases)
    (subst (λ x. symbol_eq f.name x ≡ true) s.name (symbol_eq-same f.name))
    (subst (λ x. lists_eq symbol_eq f.formals x ≡ true) s.formals (lists_eq-same symbol_eq symbol_eq-same f.formals))
    (subst (λ x. term_eq f.body x ≡ true) s.body (term_eq-same f.body))
    (subst (λ x. measure_eq f.measure x ≡ true) s.measure (measure_eq-same f.measure))
    (subst (λ x. lists_eq case_eq f.cases x ≡ true) s.cases (lists_eq-same case_eq case_eq-same f.cases))

theorem-same : (t u : Theorem) → alike_entry (entry.Theorem t) (entry.Theorem u) ≡ true → entry.Theorem t ≡ entry.Theorem u
theorem-same t u h =
    let p = three (symbol_eq t.name u.name) (term_eq t.term u.term) (lists_eq class_eq t.classes u.classes) h in
    ap (λ x. entry.Theorem (record { name = x; term = t.term; classes = t.classes })) (symbol_eq-true t.name u.name p.0)
    ∙ ap (λ x. entry.Theorem (record { name = u.name; term = x; classes = t.classes })) (term_eq-true t.term u.term p.1)
    ∙ ap (λ x. entry.Theorem (record { name = u.name; term = u.term; classes = x })) (lists_eq-true class_eq class_eq-true t.classes u.classes p.2)

same-theorem : (t : Theorem) → alike_entry (entry.Theorem t) (entry.Theorem t) ≡ true
same-theorem t = all_three (symbol_eq t.name t.name) (term_eq t.term t.term) (lists_eq class_eq t.classes t.classes)
    (symbol_eq-same t.name) (term_eq-same t.term) (lists_eq-same class_eq class_eq-same t.classes)

-- an entry is alike itself
pub alike_self : (y : Entry) → alike_entry y y ≡ true
alike_self (entry.Function f) = same-function f f (record { name = refl; formals = refl; body = refl; measure = refl; cases = refl })
alike_self (entry.Theorem t) = same-theorem t
alike_self (entry.Constant c v) = and_true (symbol_eq c c) (constant_eq v v) (symbol_eq-same c) (constant_eq-same v)

-- the test is true exactly where two entries are one but for a mask
pub alike-same : (y z : Entry) → alike_entry y z ≡ true → SameButMask y z
alike-same (entry.Function f) (entry.Function g) h = function-same f g h
alike-same (entry.Theorem t) (entry.Theorem u) h = theorem-same t u h
alike-same (entry.Constant c v) (entry.Constant d w) h =
    let p = both (symbol_eq c d) (constant_eq v w) h in
    ap (λ x. entry.Constant x v) (symbol_eq-true c d p.0) ∙ ap (entry.Constant d) (constant_eq-true v w p.1)
alike-same y z h = absurd (cc h)

pub same-alike : (y z : Entry) → SameButMask y z → alike_entry y z ≡ true
same-alike (entry.Function f) (entry.Function g) s = same-function f g s
same-alike (entry.Theorem t) (entry.Theorem u) s = subst (λ x. alike_entry (entry.Theorem t) x ≡ true) s (alike_self (entry.Theorem t))
same-alike (entry.Constant c v) (entry.Constant d w) s = subst (λ x. alike_entry (entry.Constant c v) x ≡ true) s (alike_self (entry.Constant c v))
same-alike y z s = absurd (cc s)

pub alike_is : (y z : Entry) → (alike_entry y z ≡ true) ↔ SameButMask y z
alike_is y z = (alike-same y z, same-alike y z)

-- what tells whether two entries are one but for a mask is the test
pub alike_told : (r : Bool) (y z : Entry) → (IsTrue r ↔ SameButMask y z) → r ≡ alike_entry y z
alike_told r y z h = tests_same r (alike_entry y z) (λ p. same-alike y z (h.0 p)) (λ q. h.1 (alike-same y z q))
