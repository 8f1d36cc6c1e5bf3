-- A task with 64 equal cases.
use Rattle.std.specs.Prelude.{ℕ, zero, suc, ◌<◌, false, List, [], replicate}
use Rattle.std.proofs.Common.{arith}
use Rattle.ap_list.specs.Lists.{Each}
use Rattle.ap_walk.specs.declared.act.Process.{Process}
use Rattle.ap_walk.specs.declared.act.Out.{Out}
use Rattle.ap_walk.specs.declared.act.Stepped.{Stepped}
use Rattle.ap_tests_workers.specs.declared.tree.Cased.{Cased}
use Rattle.ap_tests_workers.specs.declared.tree.Cased.TheVariants.{Whole, Case}

abbrev pub cases : Cased → List Cased
cases Whole = replicate 64 Case
cases Case = []

abbrev pub step_of : Cased → Stepped Cased
step_of t = record { act = record { process = Process.Simplify; missed = false; limited = false }; out = Out.Split (cases t) }

abbrev pub levels : Cased → ℕ
levels Whole = 1
levels Case = 0

pub all_below : (n : ℕ) → Each (λ c. levels c < 1) (replicate n Case)
all_below zero = tt
all_below (suc n) = (Prim.omega arith, all_below n)
