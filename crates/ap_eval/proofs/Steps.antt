-- The steps of the machine, over plain variables.
use Rattle.std.proofs.Common.{◌≡◌, ◌≢◌, ℕ, ◌+◌, ◌-◌, ◌<◌, ◌≤◌, List, [], ◌∷◌, ◌++◌, map, length, zip, Bool, true, false, cond, Some, None, Result, eq-eqb, refl, ap, sym, ◌∙◌, subst, append_assoc, arith}
use Rattle.std.proofs.lemmas.List.{append-nil}
use Rattle.ap_value.specs.declared.symbol.Symbol.{Symbol}
use Rattle.ap_value.specs.declared.value.Value.{Value, fold-roll-Value, roll-Value, out-Value, roll-out-Value}
use Rattle.ap_value.specs.declared.value.Value.TheOpen.{Value-F}
use Rattle.ap_value.specs.Counts.{node_step, node_count}
use Rattle.ap_term.specs.declared.term.Term.{Term}
use Rattle.ap_world.specs.declared.entry.Function.{Function}
use Rattle.ap_world.specs.declared.primitive.Primitive.{Primitive}
use Rattle.ap_value.specs.Values.{val_of, value_eq}
use Rattle.ap_world.specs.Primitives.{nil, prim_of}
use Rattle.ap_world.specs.Meaning.{Defs}
use Rattle.ap_world.specs.Units.{Outcome, gives, wide, spent, large, after, Assigned, prim_value, Run, Runs, in_order, chosen, settled, is_choice, head_run, run, body_run, calls_run}
use Rattle.ap_eval.specs.declared.stop.EvalStop.{EvalStop}
use Rattle.ap_eval.specs.declared.machine.State.{State}
use Rattle.ap_eval.specs.declared.machine.Task.{Task}
use Rattle.ap_eval.specs.declared.machine.Task.TheVariants as task
use Rattle.ap_eval.specs.declared.machine.Frame.{Frame}
use Rattle.ap_eval.specs.declared.machine.Frame.TheVariants as frame
use Rattle.ap_eval.specs.Answers.{Stopped}
use Rattle.ap_eval.specs.Machine.{Point, ready, branched, called, called_with, through, resumed, point, task_outcome, whole, Follows}
use Rattle.ap_eval.proofs.Runs.{stopped_after, calls_below}

-- where this runs under an assignment, with calls nested so deep
abbrev pub at : Assigned → ℕ → Outcome Value → Point
at e d o = record { variables = e; depth = d; outcome = o }

-- one frame more, which is gone through first
pub resumed_more : (D : Defs) (fs : List Frame) (f : Frame) (p : Point) → resumed D (fs ++ f ∷ []) p ≡ resumed D fs (through D f p)
resumed_more D [] f p = refl
resumed_more D (g ∷ fs) f p = ap (through D g) (resumed_more D fs f p)

-- a stop goes through every frame
stopped_through : (D : Defs) (s : EvalStop) (f : Frame) (p : Point) → Stopped s p.outcome → Stopped s (through D f p).outcome
stopped_through D s (frame.Test on off) p h = stopped_after s p.outcome _ h
stopped_through D s (frame.Argument call head rest values) p h = stopped_after s p.outcome _ h
stopped_through D s (frame.Body bindings depth) p h = h

pub stopped_resumed : (D : Defs) (s : EvalStop) (fs : List Frame) (p : Point) → Stopped s p.outcome → Stopped s (resumed D fs p).outcome
stopped_resumed D s [] p h = h
stopped_resumed D s (f ∷ fs) p h = stopped_through D s f (resumed D fs p) (stopped_resumed D s fs p h)

-- a call whose last argument has its value is ready
pub called_none : (c : Runs) (t : Term) (f : Symbol) (vs : List Value) (e : Assigned) (n : ℕ) → called c t f [] vs e n ≡ ready c t f (prim_of f) vs n
called_none c t f vs e n = ap (λ ws. ready c t f (prim_of f) ws n) (append-nil vs)

-- else it goes on with the next argument
pub called_more : (c : Runs) (t : Term) (f : Symbol) (u : Term) (us : List Term) (vs : List Value) (e : Assigned) (n : ℕ)
    → after (run c u e n) (called_with c t f us vs e) ≡ called c t f (u ∷ us) vs e n
called_more c t f u us vs e n = first (run c u e n)
  where
    rest : (v : Value) (o : Outcome (List Value)) → after o (λ ws k. ready c t f (prim_of f) ((vs ++ v ∷ []) ++ ws) k)
        ≡ after (after o (λ ws k. gives (v ∷ ws) k)) (λ ws k. ready c t f (prim_of f) (vs ++ ws) k)
    rest v (gives ws k) = ap (λ xs. ready c t f (prim_of f) xs k) (append_assoc vs (v ∷ []) ws)
    rest v (wide t ws) = refl
    rest v spent = refl
    rest v large = refl

    first : (o : Outcome Value) → after o (called_with c t f us vs e)
        ≡ after (after o (λ v j. after (in_order (map (run c) us) e j) (λ ws k. gives (v ∷ ws) k))) (λ ws k. ready c t f (prim_of f) (vs ++ ws) k)
    first (gives v j) = rest v (in_order (map (run c) us) e j)
    first (wide t ws) = refl
    first spent = refl
    first large = refl

-- each value has a node
pub some_node : (v : Value) → 0 < node_count v
some_node v = subst (λ w. 0 < node_count w) (roll-out-Value v) (level (out-Value v))
  where
    level : (y : Value-F Value) → 0 < node_count (roll-Value y)
    level (Value-F.Int n) = let e : node_count (roll-Value (Value-F.Int n)) ≡ 1 = fold-roll-Value ℕ node_step (Value-F.Int n) in omega arith
    level (Value-F.Chr c) = let e : node_count (roll-Value (Value-F.Chr c)) ≡ 1 = fold-roll-Value ℕ node_step (Value-F.Chr c) in omega arith
    level (Value-F.Str s) = let e : node_count (roll-Value (Value-F.Str s)) ≡ length s + 1 = fold-roll-Value ℕ node_step (Value-F.Str s) in omega arith
    level (Value-F.Sym s) = let e : node_count (roll-Value (Value-F.Sym s)) ≡ 1 = fold-roll-Value ℕ node_step (Value-F.Sym s) in omega arith
    level (Value-F.Cons a b) = let e : node_count (roll-Value (Value-F.Cons a b)) ≡ node_count a + node_count b + 1 = fold-roll-Value ℕ node_step (Value-F.Cons a b) in omega arith

-- what follows for a point follows for the same point
pub follows_same : (D : Defs) (fs : List Frame) (p q : Point) (r : Result State EvalStop) → p ≡ q → Follows D fs p r → Follows D fs q r
follows_same D fs p q r same h = subst (λ x. Follows D fs x r) same h

-- an `if` runs as the branches that its test chooses
pub choice_run : (c : Runs) (t : Term) (f : Symbol) (p : Primitive) (ms : List Run) (e : Assigned) (n : ℕ) → prim_of f ≡ Some p → is_choice p ≡ true
    → chosen ms e n ≡ head_run c t f (prim_of f) ms e n
choice_run c t f p ms e n some choice =
    ap (λ b. cond b (chosen ms e n) (after (in_order ms e n) (λ vs k. settled t vs (prim_value p vs) k))) (sym choice) ∙ ap (λ o. head_run c t f o ms e n) (sym some)

-- another primitive's call takes its arguments in order, and so does that of a function
pub strict_run : (c : Runs) (t : Term) (f : Symbol) (p : Primitive) (ts : List Term) (vs : List Value) (e : Assigned) (n : ℕ) → vs ≡ [] → prim_of f ≡ Some p → is_choice p ≡ false
    → called c t f ts vs e n ≡ head_run c t f (prim_of f) (map (run c) ts) e n
strict_run c t f p ts vs e n none some strict =
    ap (λ us. called c t f ts us e n) none ∙ ap (λ o. after (in_order (map (run c) ts) e n) (ready c t f o)) some
    ∙ sym (ap (λ b. cond b (chosen (map (run c) ts) e n) (after (in_order (map (run c) ts) e n) (λ us k. settled t us (prim_value p us) k))) strict)
    ∙ ap (λ o. head_run c t f o (map (run c) ts) e n) (sym some)

pub function_run : (c : Runs) (t : Term) (f : Symbol) (ts : List Term) (vs : List Value) (e : Assigned) (n : ℕ) → vs ≡ [] → prim_of f ≡ None
    → called c t f ts vs e n ≡ head_run c t f (prim_of f) (map (run c) ts) e n
function_run c t f ts vs e n none other =
    ap (λ us. called c t f ts us e n) none ∙ ap (λ o. after (in_order (map (run c) ts) e n) (ready c t f o)) other
    ∙ ap (λ o. head_run c t f o (map (run c) ts) e n) (sym other)

-- a test's value chooses the branch that runs
pub branch_run : (c : Runs) (on off branch : Term) (e : Assigned) (v : Value) (n : ℕ) (b : Bool) → b ≡ value_eq (val_of v) nil → branch ≡ cond b off on
    → run c branch e n ≡ branched c on off e v n
branch_run c on off branch e v n b tested chosen = ap (λ u. run c u e n) chosen ∙ go b ∙ ap (λ b. cond b (run c off e n) (run c on e n)) tested
  where
    go : (b : Bool) → run c (cond b off on) e n ≡ cond b (run c off e n) (run c on e n)
    go true = refl
    go false = refl

-- through a frame that is put last
through_last : (D : Defs) (fs gs : List Frame) (g : Frame) (p q : Point) → gs ≡ fs ++ g ∷ [] → through D g p ≡ q → (resumed D gs p).outcome ≡ (resumed D fs q).outcome
through_last D fs gs g p q last made =
    ap (λ hs. (resumed D hs p).outcome) last ∙ ap (λ (x : Point). x.outcome) (resumed_more D fs g p) ∙ ap (λ x. (resumed D fs x).outcome) made

-- the test of an `if` runs, its branches wait
pub test_step : (D : Defs) (fs gs : List Frame) (g : Frame) (a x y : Term) (ts : List Term) (e : Assigned) (d n : ℕ) → gs ≡ fs ++ g ∷ [] → ts ≡ a ∷ x ∷ y ∷ []
    → through D g (at e d (run (calls_run d D) a e n)) ≡ at e d (after (run (calls_run d D) a e n) (branched (calls_run d D) x y e))
    → (resumed D gs (at e d (run (calls_run d D) a e n))).outcome ≡ (resumed D fs (at e d (chosen (map (run (calls_run d D)) ts) e n))).outcome
test_step D fs gs g a x y ts e d n last three made =
    through_last D fs gs g _ _ last (made ∙ ap (λ us. at e d (chosen (map (run (calls_run d D)) us) e n)) (sym three))

-- an argument runs, its call waits
pub argument_step : (D : Defs) (fs gs : List Frame) (g : Frame) (t : Term) (f : Symbol) (u : Term) (us ts : List Term) (vs : List Value) (e : Assigned) (d n : ℕ)
    → gs ≡ fs ++ g ∷ [] → ts ≡ u ∷ us
    → through D g (at e d (run (calls_run d D) u e n)) ≡ at e d (after (run (calls_run d D) u e n) (called_with (calls_run d D) t f us vs e))
    → (resumed D gs (at e d (run (calls_run d D) u e n))).outcome ≡ (resumed D fs (at e d (called (calls_run d D) t f ts vs e n))).outcome
argument_step D fs gs g t f u us ts vs e d n last more made =
    through_last D fs gs g _ _ last (made ∙ ap (at e d) (called_more (calls_run d D) t f u us vs e n)
    ∙ ap (λ ws. at e d (called (calls_run d D) t f ws vs e n)) (sym more))

-- a body runs, its caller's variables wait
pub body_step : (D : Defs) (fs gs : List Frame) (g : Frame) (f : Symbol) (k : Function) (xs : List Symbol) (vs : List Value) (e : Assigned) (d n : ℕ)
    → gs ≡ fs ++ g ∷ [] → d ≢ 0 → D f ≡ Some k → xs ≡ k.formals → length k.formals ≡ length vs
    → through D g (at (zip xs vs) (d - 1) (run (calls_run (d - 1) D) k.body (zip xs vs) n)) ≡ at e d (run (calls_run (d - 1) D) k.body (zip xs vs) n)
    → (resumed D gs (at (zip xs vs) (d - 1) (run (calls_run (d - 1) D) k.body (zip xs vs) n))).outcome ≡ (resumed D fs (at e d (calls_run d D f vs n))).outcome
body_step D fs gs g f k xs vs e d n last deep defined formals fits made =
    through_last D fs gs g _ _ last (made ∙ ap (at e d) (ap (λ ys. run (calls_run (d - 1) D) k.body (zip ys vs) n) formals
    ∙ ap (λ b. cond b (run (calls_run (d - 1) D) k.body (zip k.formals vs) n) spent) (sym (eq-eqb (length k.formals) (length vs) fits))
    ∙ ap (λ o. body_run (calls_run (d - 1) D) o vs n) (sym defined) ∙ sym (calls_below d D f vs n deep)))

-- an `if` of another number of arguments doesn't run
pub few_chosen : (c : Runs) (ts : List Term) (e : Assigned) (n : ℕ) → length ts < 3 → chosen (map (run c) ts) e n ≡ spent
few_chosen c [] e n h = refl
few_chosen c (x ∷ []) e n h = refl
few_chosen c (x ∷ y ∷ []) e n h = refl
few_chosen c (x ∷ y ∷ z ∷ ts) e n h = absurd (omega arith)

pub many_chosen : (c : Runs) (ts : List Term) (e : Assigned) (n : ℕ) → 4 ≤ length ts → chosen (map (run c) ts) e n ≡ spent
many_chosen c [] e n h = refl
many_chosen c (x ∷ []) e n h = refl
many_chosen c (x ∷ y ∷ []) e n h = refl
many_chosen c (x ∷ y ∷ z ∷ []) e n h = absurd (omega arith)
many_chosen c (x ∷ y ∷ z ∷ w ∷ ts) e n h = refl

-- a state that stops is where the whole stops
pub run_stops : (D : Defs) (s : State) (k : Task) (e : EvalStop) (o : Outcome Value) → s.task ≡ k → Stopped e (task_outcome D s.machine k) → whole D s ≡ o → Stopped e o
run_stops D s k e o is stop same = subst (Stopped e) same
    (stopped_resumed D e s.machine.frames (point s.machine (task_outcome D s.machine s.task)) (subst (λ j. Stopped e (task_outcome D s.machine j)) (sym is) stop))

-- a value goes through the last frame
handed : (D : Defs) (s : State) (v : Value) (g : Frame) (fs : List Frame) → s.task ≡ task.Back v → s.machine.frames ≡ fs ++ g ∷ []
    → whole D s ≡ (resumed D fs (through D g (point s.machine (gives v s.machine.units)))).outcome
handed D s v g fs is last = ap (λ k. (resumed D s.machine.frames (point s.machine (task_outcome D s.machine k))).outcome) is
    ∙ through_last D fs s.machine.frames g (point s.machine (gives v s.machine.units)) _ last refl

pub back_stops : (D : Defs) (s : State) (v : Value) (g : Frame) (fs : List Frame) (e : EvalStop) (o : Outcome Value) → s.task ≡ task.Back v → s.machine.frames ≡ fs ++ g ∷ []
    → Stopped e (through D g (point s.machine (gives v s.machine.units))).outcome → whole D s ≡ o → Stopped e o
back_stops D s v g fs e o is last stop same = subst (Stopped e) (sym (handed D s v g fs is last) ∙ same)
    (stopped_resumed D e fs (through D g (point s.machine (gives v s.machine.units))) stop)

pub back_goes : (D : Defs) (s next : State) (v : Value) (g : Frame) (fs : List Frame) (o : Outcome Value) → s.task ≡ task.Back v → s.machine.frames ≡ fs ++ g ∷ []
    → whole D next ≡ (resumed D fs (through D g (point s.machine (gives v s.machine.units)))).outcome → whole D s ≡ o → whole D next ≡ o
back_goes D s next v g fs o is last goes same = goes ∙ sym (handed D s v g fs is last) ∙ same
