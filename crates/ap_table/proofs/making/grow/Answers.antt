use Rattle.std.proofs.Common.{arith, ◌≡◌, ◌++◌, List, Ok, Err, is_ok, if◌then◌else◌, OnOk, OnErr}
use Rattle.std.specs.declared.result.Result.{Result}
use Rattle.std.specs.declared.alloc.AllocError.{AllocError}
use Rattle.ap_table.proofs.making.grow.Goals as goal

all_there : {A : Type 0} (r : Result (Unit {0}) AllocError) (new a b : List A) → new ≡ (if is_ok r then a else b) → OnOk r (new ≡ a)
all_there (Ok u) new a b e = e
all_there (Err x) new a b e = tt

none_there : {A : Type 0} {P : Type 0} (r : Result (Unit {0}) AllocError) (new a b : List A) → new ≡ (if is_ok r then a else b) → P → OnErr r ((new ≡ b) × P)
none_there (Ok u) new a b e p = tt
none_there (Err x) new a b e p = (e, p)

when_ok : {P : Type 0} (r : Result (Unit {0}) AllocError) → P → OnOk r P
when_ok (Ok u) p = p
when_ok (Err x) p = tt

pub returns-clause-nodes : goal.returns-clause-nodes
returns-clause-nodes g c = all_there c.append.result c.append.new.self.items (c.args.nodes.now.items ++ c.args.more.items) c.args.nodes.now.items c.append.ensures.items

pub returns-clause-capacity : goal.returns-clause-capacity
returns-clause-capacity g c = when_ok c.append.result (omega (arith, c.in_ok-reserve-2.ensures.ok, c.len-2.ensures, c.len-3.ensures))

pub returns-clause-kept : goal.returns-clause-kept
returns-clause-kept g c = none_there c.append.result c.append.new.self.items (c.args.nodes.now.items ++ c.args.more.items) c.args.nodes.now.items c.append.ensures.items (omega (arith, c.in_ok-reserve-2.ensures.capacity))

pub returns-clause-spare : goal.returns-clause-spare
returns-clause-spare g c = when_ok c.append.result (omega (arith, c.in_ok-reserve.ensures.ok, c.len.ensures))
