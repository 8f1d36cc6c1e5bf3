-- That worlds cross threads: each type from its parts. Of a term and a value the caller's proof knows it.
use denote.RattleType.{RattleType}
use denote.Param.Send.{IsSend, IsSync, sendable}
use denote.Param.SendFields.{declared_send, declared_sync, variants_send, variants_sync}
use Rattle.std.proofs.Crossing.{crosses}
use Rattle.ap_list.specs.contracts.seq.Seq as seq
use Rattle.ap_list.specs.contracts.shared.Shared as shared
use Rattle.ap_value.specs.contracts.symbol.Symbol as symbol
use Rattle.ap_value.specs.contracts.value.Value as value
use Rattle.ap_term.specs.contracts.tree.Term as term
use Rattle.ap_world.specs.contracts.entry.Measure as measure
use Rattle.ap_world.specs.contracts.entry.Case as case
use Rattle.ap_world.specs.contracts.entry.Function as function
use Rattle.ap_world.specs.contracts.entry.RuleClass as class
use Rattle.ap_world.specs.contracts.entry.Theorem as theorem
use Rattle.ap_world.specs.contracts.entry.Entry as entry
use Rattle.ap_world.specs.contracts.names.NameTable as names
use Rattle.ap_world.specs.contracts.prescribing.PlaceTable as places
use Rattle.ap_world.specs.contracts.runes.RuneTable as runes
use Rattle.ap_world.specs.contracts.runes.Disabled as disabled
use Rattle.ap_world.specs.contracts.theory.Rune as rune
use Rattle.ap_world.specs.contracts.theory.Theory as theory
use Rattle.ap_world.specs.contracts.world.World as world
use Rattle.ap_rules.specs.contracts.rule.RewriteRule as rule
use Rattle.ap_rules.specs.contracts.linear.LinearRule as linear_rule
use Rattle.ap_rules.specs.contracts.linears.Linears as linears
use Rattle.ap_rules.specs.contracts.group.Group as group
use Rattle.ap_rules.specs.contracts.table.Groups as groups
use Rattle.ap_rules.specs.contracts.table.RuleIndex as index
use Rattle.ap_rules.specs.contracts.carrying.Carrier as carrier
use Rattle.ap_rules.specs.contracts.worlds.Ruled as ruled
use Rattle.ap_rules.specs.contracts.worlds.Ruled.TheInside as ruled_inside
use Rattle.ap_walk.specs.contracts.act.Process as process
use Rattle.ap_hints.specs.contracts.hint.Hint as hint
use Rattle.ap_hints.specs.contracts.hint.Hints as hints
use Rattle.ap_strategy.specs.contracts.plan.Plan as plan
use Rattle.ap_strategy.specs.contracts.plan.Settings as settings
use Rattle.ap_names.specs.contracts.name.GoalName as name
use Rattle.ap_term.specs.contracts.term.Clause as clause
use Rattle.ap_term.specs.contracts.term.Subst as replacing
use Rattle.ap_strategy.specs.contracts.task.Task as task
use Rattle.ap_strategy.specs.contracts.task.Task.TheInside as inside

pub seq_send : (R : RattleType) → IsSend R → IsSend (seq.the_row R)
seq_send R r = search (sendable, crosses) depth 40 fits 100000

shared_send : (R : RattleType) → IsSend R → IsSync R → IsSend (shared.the_row R)
shared_send R r s = search (sendable, crosses) depth 40 fits 100000

symbol_send : IsSend symbol.the_row
symbol_send = search (sendable, crosses) depth 40 fits 100000

seq_sync : (R : RattleType) → IsSync R → IsSync (seq.the_row R)
seq_sync R r = search (sendable, crosses) depth 40 fits 100000

shared_sync : (R : RattleType) → IsSend R → IsSync R → IsSync (shared.the_row R)
shared_sync R r s = search (sendable, crosses) depth 40 fits 100000

symbol_sync : IsSync symbol.the_row
symbol_sync = search (sendable, crosses) depth 40 fits 100000

rune_send : IsSend rune.the_row
rune_send = search (variants_send, symbol_send) depth 40

runes_send : IsSend runes.the_row
runes_send = search (sendable, crosses, symbol_send) depth 40 fits 100000

disabled_send : IsSend disabled.the_row
disabled_send = search (sendable, crosses, seq_send, rune_send, runes_send) depth 40 fits 100000

rune_sync : IsSync rune.the_row
rune_sync = search (variants_sync, symbol_sync) depth 40

runes_sync : IsSync runes.the_row
runes_sync = search (sendable, crosses, symbol_sync) depth 40 fits 100000

disabled_sync : IsSync disabled.the_row
disabled_sync = search (sendable, crosses, seq_sync, rune_sync, runes_sync) depth 40 fits 100000

pub theory_send : IsSend theory.the_row
theory_send = search (sendable, crosses, shared_send, disabled_send, disabled_sync) depth 40

measure_send : IsSend term.the_row → IsSend measure.the_row
measure_send t = declared_send measure.the_type (seq_send _ t, tt)

case_send : IsSend term.the_row → IsSend case.the_row
case_send t = declared_send case.the_type (seq_send _ t, (seq_send _ (seq_send _ t), tt))

function_send : IsSend term.the_row → IsSend function.the_row
function_send t = let m = measure_send t in
    declared_send function.the_type (symbol_send, (seq_send _ symbol_send, (t, (search (sendable, crosses) depth 40 fits 100000, (seq_send _ (case_send t), (search (sendable, crosses) depth 40 fits 100000, tt))))))

class_send : IsSend class.the_row
class_send = search (sendable, crosses) depth 40 fits 100000

theorem_send : IsSend term.the_row → IsSend theorem.the_row
theorem_send t = declared_send theorem.the_type (symbol_send, (t, (seq_send _ class_send, tt)))

entry_send : IsSend term.the_row → IsSend value.the_row → IsSend entry.the_row
entry_send t v =
    let f = function_send t in
    let h = theorem_send t in
    search (variants_send, symbol_send) depth 40

names_send : IsSend names.the_row
names_send = search (sendable, crosses, symbol_send) depth 40 fits 100000

places_send : IsSend places.the_row
places_send = search (sendable, crosses, symbol_send, seq_send) depth 40 fits 100000

pub world_send : IsSend term.the_row → IsSend value.the_row → IsSend world.the_row
world_send t v = let e = entry_send t v in search (sendable, crosses, names_send, places_send, theory_send) depth 60 fits 100000

pub theory_sync : IsSync theory.the_row
theory_sync = search (sendable, crosses, shared_sync, disabled_send, disabled_sync) depth 40

measure_sync : IsSync term.the_row → IsSync measure.the_row
measure_sync t = declared_sync measure.the_type (seq_sync _ t, tt)

case_sync : IsSync term.the_row → IsSync case.the_row
case_sync t = declared_sync case.the_type (seq_sync _ t, (seq_sync _ (seq_sync _ t), tt))

function_sync : IsSync term.the_row → IsSync function.the_row
function_sync t = let m = measure_sync t in
    declared_sync function.the_type (symbol_sync, (seq_sync _ symbol_sync, (t, (search (sendable, crosses) depth 40 fits 100000, (seq_sync _ (case_sync t), (search (sendable, crosses) depth 40 fits 100000, tt))))))

class_sync : IsSync class.the_row
class_sync = search (sendable, crosses) depth 40 fits 100000

theorem_sync : IsSync term.the_row → IsSync theorem.the_row
theorem_sync t = declared_sync theorem.the_type (symbol_sync, (t, (seq_sync _ class_sync, tt)))

entry_sync : IsSync term.the_row → IsSync value.the_row → IsSync entry.the_row
entry_sync t v =
    let f = function_sync t in
    let h = theorem_sync t in
    search (variants_sync, symbol_sync) depth 40

names_sync : IsSync names.the_row
names_sync = search (sendable, crosses, symbol_sync) depth 40 fits 100000

places_sync : IsSync places.the_row
places_sync = search (sendable, crosses, symbol_sync, seq_sync) depth 40 fits 100000

pub world_sync : IsSync term.the_row → IsSync value.the_row → IsSync world.the_row
world_sync t v = let e = entry_sync t v in search (sendable, crosses, names_sync, places_sync, theory_sync) depth 60 fits 100000

rule_send : IsSend term.the_row → IsSend rule.the_row
rule_send t = declared_send rule.the_type (symbol_send, (search (sendable, crosses) depth 40, (search (sendable, crosses) depth 40, (t, (t, (seq_send _ t, (search (sendable, crosses) depth 40, (search (sendable, crosses) depth 40, tt))))))))

group_send : IsSend term.the_row → IsSend group.the_row
group_send t = let r = rule_send t in search (sendable, crosses) depth 40 fits 100000

groups_send : IsSend term.the_row → IsSend groups.the_row
groups_send t = let g = group_send t in search (sendable, crosses, symbol_send) depth 40 fits 100000

linear_rule_send : IsSend term.the_row → IsSend linear_rule.the_row
linear_rule_send t = declared_send linear_rule.the_type (symbol_send, (search (sendable, crosses) depth 40, (t, (t, (search (sendable, crosses) depth 40, (seq_send _ t, tt))))))

linears_send : IsSend term.the_row → IsSend linears.the_row
linears_send t = let r = linear_rule_send t in search (sendable, crosses, symbol_send, seq_send) depth 40 fits 100000

index_send : IsSend term.the_row → IsSend index.the_row
index_send t = declared_send index.the_type (groups_send t, (linears_send t, tt))

carrier_send : IsSend term.the_row → IsSend carrier.the_row
carrier_send t = declared_send carrier.the_type (index_send t, (seq_send _ symbol_send, (search (sendable, crosses, seq_send) depth 40 fits 100000, (search (sendable, crosses, seq_send) depth 40 fits 100000, tt))))

ruled_send : IsSend term.the_row → IsSend value.the_row → IsSend ruled.the_row
ruled_send t v =
    let i : IsSend ruled_inside.the_row = declared_send ruled_inside.the_type (world_send t v, (carrier_send t, tt)) in
    search (sendable, crosses) depth 40

rule_sync : IsSync term.the_row → IsSync rule.the_row
rule_sync t = declared_sync rule.the_type (symbol_sync, (search (sendable, crosses) depth 40, (search (sendable, crosses) depth 40, (t, (t, (seq_sync _ t, (search (sendable, crosses) depth 40, (search (sendable, crosses) depth 40, tt))))))))

group_sync : IsSync term.the_row → IsSync group.the_row
group_sync t = let r = rule_sync t in search (sendable, crosses) depth 40 fits 100000

groups_sync : IsSync term.the_row → IsSync groups.the_row
groups_sync t = let g = group_sync t in search (sendable, crosses, symbol_sync) depth 40 fits 100000

linear_rule_sync : IsSync term.the_row → IsSync linear_rule.the_row
linear_rule_sync t = declared_sync linear_rule.the_type (symbol_sync, (search (sendable, crosses) depth 40, (t, (t, (search (sendable, crosses) depth 40, (seq_sync _ t, tt))))))

linears_sync : IsSync term.the_row → IsSync linears.the_row
linears_sync t = let r = linear_rule_sync t in search (sendable, crosses, symbol_sync, seq_sync) depth 40 fits 100000

index_sync : IsSync term.the_row → IsSync index.the_row
index_sync t = declared_sync index.the_type (groups_sync t, (linears_sync t, tt))

carrier_sync : IsSync term.the_row → IsSync carrier.the_row
carrier_sync t = declared_sync carrier.the_type (index_sync t, (seq_sync _ symbol_sync, (search (sendable, crosses, seq_sync) depth 40 fits 100000, (search (sendable, crosses, seq_sync) depth 40 fits 100000, tt))))

ruled_sync : IsSync term.the_row → IsSync value.the_row → IsSync ruled.the_row
ruled_sync t v =
    let i : IsSync ruled_inside.the_row = declared_sync ruled_inside.the_type (world_sync t v, (carrier_sync t, tt)) in
    search (sendable, crosses) depth 40

pub name_send : IsSend name.the_row
name_send = search (sendable, crosses, seq_send) depth 40

name_sync : IsSync name.the_row
name_sync = search (sendable, crosses, seq_sync) depth 40

replacing_send : IsSend term.the_row → IsSend replacing.the_row
replacing_send t = declared_send replacing.the_type (search (sendable, crosses, seq_send, symbol_send) depth 40 fits 100000, tt)

hint_send : IsSend term.the_row → IsSend hint.the_row
hint_send t =
    let p : IsSend process.the_row = search (sendable, crosses) depth 40 in
    let r = replacing_send t in
    declared_send hint.the_type (name_send, (search (sendable, crosses, theory_send) depth 40, (seq_send _ t, (seq_send _ p, (search (sendable, crosses, seq_send, symbol_send) depth 40, (seq_send _ t, (search (sendable, crosses) depth 40, tt)))))))

hints_send : IsSend term.the_row → IsSend hints.the_row
hints_send t = declared_send hints.the_type (seq_send _ (hint_send t), (search (sendable, crosses) depth 40, tt))

replacing_sync : IsSync term.the_row → IsSync replacing.the_row
replacing_sync t = declared_sync replacing.the_type (search (sendable, crosses, seq_sync, symbol_sync) depth 40 fits 100000, tt)

hint_sync : IsSync term.the_row → IsSync hint.the_row
hint_sync t =
    let p : IsSync process.the_row = search (sendable, crosses) depth 40 in
    let r = replacing_sync t in
    declared_sync hint.the_type (name_sync, (search (sendable, crosses, theory_sync) depth 40, (seq_sync _ t, (seq_sync _ p, (search (sendable, crosses, seq_sync, symbol_sync) depth 40, (seq_sync _ t, (search (sendable, crosses) depth 40, tt)))))))

hints_sync : IsSync term.the_row → IsSync hints.the_row
hints_sync t = declared_sync hints.the_type (seq_sync _ (hint_sync t), (search (sendable, crosses) depth 40, tt))

plan_send : IsSend term.the_row → IsSend value.the_row → IsSend plan.the_row
plan_send t v = declared_send plan.the_type (ruled_send t v, (hints_send t, (search (sendable, crosses) depth 40, tt)))

pub plan_sync : IsSync term.the_row → IsSync value.the_row → IsSync plan.the_row
plan_sync t v = declared_sync plan.the_type (ruled_sync t v, (hints_sync t, (search (sendable, crosses) depth 40, tt)))

pub settings_send : IsSend term.the_row → IsSend settings.the_row
settings_send t = let p : IsSend process.the_row = search (sendable, crosses) depth 40 in
    declared_send settings.the_type (theory_send, (seq_send _ t, (seq_send _ p, tt)))

pub clause_send : IsSend term.the_row → IsSend clause.the_row
clause_send t = declared_send clause.the_type (seq_send _ t, tt)

inside_send : (κ : _) (J : RattleType) (g : _) → IsSend J → IsSend term.the_row → IsSync term.the_row → IsSync value.the_row → IsSend (inside.the_row κ J g)
inside_send κ J g j t ts vs =
    let p = plan_sync ts vs in
    declared_send (inside.the_type κ J g) (search (sendable, crosses) depth 40, (name_send, (clause_send t, (search (sendable, crosses) depth 40, (search (sendable, crosses) depth 40, (settings_send t, (search (sendable, crosses) depth 40, (search (sendable, crosses) depth 40, (search (sendable, crosses) depth 40, tt)))))))))

-- a task of the plan that J is, where J may cross
pub task_send : (κ : _) (J : RattleType) (g : _) → IsSend J → IsSend term.the_row → IsSync term.the_row → IsSync value.the_row → IsSend (task.the_row κ J g)
task_send κ J g j t ts vs = let i = inside_send κ J g j t ts vs in search (sendable, crosses) depth 40
