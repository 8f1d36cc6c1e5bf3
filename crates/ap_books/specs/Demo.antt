-- The demo's book: functions that copy a list, and that each copies it.
use Rattle.std.specs.Prelude.{ℕ, zero, suc, List, [], ◌++◌, codes, decimal}
use Rattle.ap_books.specs.Texts.{line}

-- the i-th function, and the theorem about it
unfoldable pub demo_function : ℕ → List ℕ
demo_function i =
    codes "(defun d-" ++ decimal i ++ codes " (x) (if (consp x) (cons (car x) (d-" ++ decimal i ++ line (codes " (cdr x))) nil))")

unfoldable pub demo_theorem : ℕ → List ℕ
demo_theorem i =
    codes "(defthm d-" ++ decimal i ++ codes "-same (implies (true-listp x) (equal (d-" ++ decimal i ++ line (codes " x) x)))")

-- the first n of both, in turn
abbrev pub demo_events : ℕ → List ℕ
demo_events zero = []
demo_events (suc n) = demo_events n ++ demo_function (suc n) ++ demo_theorem (suc n)

unfoldable pub package_line : List ℕ
package_line = line (codes "(in-package \"ACL2\")")

abbrev pub demo_text : ℕ → List ℕ
demo_text n = package_line ++ demo_events n
