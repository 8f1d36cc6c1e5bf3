-- What each step needs to keep, of these trees.
use Rattle.std.specs.Prelude.{ℕ, zero, suc, ◌+◌, ◌*◌, ◌%◌, ◌<◌, Bool, true, false, nat_eq, if◌then◌else◌, [], ◌∷◌}
use Rattle.std.proofs.Common.{rules, arith}
use Rattle.ap_list.specs.Lists.{Each}
use Rattle.ap_walk.specs.Visits.{Tells, out_children}
use Rattle.ap_walk.specs.declared.act.Stepped.{Stepped}
use Rattle.ap_tests_workers.specs.declared.tree.Task.{Task}
use Rattle.ap_tests_workers.specs.Trees.{task, split, pushed, stopped, step_at}

abbrev Told : Stepped Task → Type 0
Told s = Tells s.act.process s.out

abbrev Below : ℕ → Stepped Task → Type 0
Below level s = Each (λ (c : Task). c.level < level) (out_children s.out)

split_told : Told (split [])
split_told = ((λ e. Prim.cc), (λ e. Prim.cc))

chosen : (P : Stepped Task → Type 0) (b : Bool) (x y : Stepped Task) → P x → P y → P (if b then x else y)
chosen P true x y p q = p
chosen P false x y p q = q

pub tells : (level number : ℕ) → Told (step_at level number)
tells zero number =
    let k = number % 16 in
    chosen Told (nat_eq k 3) pushed (if nat_eq k 9 then pushed else if nat_eq k 13 then stopped else split []) (Prim.search rules)
    (chosen Told (nat_eq k 9) pushed (if nat_eq k 13 then stopped else split []) (Prim.search rules)
    (chosen Told (nat_eq k 13) stopped (split []) (Prim.search rules) split_told))
tells (suc level) number = ((λ e. Prim.cc), (λ e. Prim.cc))

each_chosen : (P : Task → Type 0) (b : Bool) (x y : _) → Each P x → Each P y → Each P (if b then x else y)
each_chosen P true x y p q = p
each_chosen P false x y p q = q

pub deeper : (level number : ℕ) → Below level (step_at level number)
deeper zero number =
    let k = number % 16 in
    chosen (Below 0) (nat_eq k 3) pushed (if nat_eq k 9 then pushed else if nat_eq k 13 then stopped else split []) tt
    (chosen (Below 0) (nat_eq k 9) pushed (if nat_eq k 13 then stopped else split []) tt
    (chosen (Below 0) (nat_eq k 13) stopped (split []) tt tt))
deeper (suc level) number =
    let k = number % 4 in
    let n = number % 1000 * 3 in
    let P = λ (c : Task). c.level < suc level in
    each_chosen P (nat_eq k 1) (task level n ∷ task level (n + 1) ∷ []) (if nat_eq k 2 then task level n ∷ [] else task level n ∷ task level (n + 1) ∷ task level (n + 2) ∷ [])
    (Prim.omega arith, (Prim.omega arith, tt))
    (each_chosen P (nat_eq k 2) (task level n ∷ []) (task level n ∷ task level (n + 1) ∷ task level (n + 2) ∷ [])
    (Prim.omega arith, tt) (Prim.omega arith, (Prim.omega arith, (Prim.omega arith, tt))))
