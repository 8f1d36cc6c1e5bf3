-- The command's words: the names of books, behind the options `--workers N`, `--steps N`, `--goals N`, `--revert N` and
-- `--trace` where these are given, in any order; or `--demo N`, and `--workers N` before or behind it where that is given.
use Rattle.std.specs.Prelude.{ℕ, ◌+◌, ◌*◌, ◌-◌, Bool, true, false, cond, not, ◌&&◌, nat_eq, nat_le, List, [], ◌∷◌, map, Option, Some, None, is_none, unwrap_or, Result, Ok, Err, codes, string_bytes}
use Rattle.std.specs.List.{list_all}
use Rattle.ap_value.specs.Values.{bytes_eq}
use Rattle.ap_value.specs.declared.symbol.BookName.{BookName}
use Rattle.ap_books.specs.declared.planning.PlanError.{PlanError}
use Rattle.ap_cert.specs.Cert.{is_between}
use Rattle.ap_books.specs.Plan.{plan_of}
use Rattle.ap_plain.specs.declared.limits.Limits.{Limits}
use Rattle.ap_plain.specs.Limits.{limits_of}
use Rattle.ap_session.specs.declared.command.Order as orders
use Rattle.ap_session.specs.declared.command.Demo as demos
use Rattle.ap_session.specs.declared.command.Command as commands
use Rattle.ap_session.specs.declared.command.Command.TheVariants as command
use Rattle.ap_session.specs.declared.command.Counted.{Counted}
use Rattle.ap_session.specs.declared.command.Counted.TheVariants.{Workers, Steps, Goals, Revert, Functions}
use Rattle.ap_session.specs.declared.command.Flag.{Flag}
use Rattle.ap_session.specs.declared.command.Flag.TheVariants.{Number, Trace}
use Rattle.ap_session.specs.declared.command.Options.{Options}

abbrev pub is_digit : ℕ → Bool
is_digit b = is_between 48 57 b

-- a number is decimal digits without a sign or a leading zero
abbrev pub leads : List ℕ → Bool
leads [] = false
leads (b ∷ bs) = not (nat_eq b 48)

abbrev pub is_number : List ℕ → Bool
is_number w = leads w && list_all is_digit w

-- digits behind a number, read on
abbrev pub read_on : ℕ → List ℕ → ℕ
read_on n [] = n
read_on n (b ∷ bs) = read_on (10 * n + (b - 48)) bs

-- a number up to a greatest one
abbrev pub number_in : ℕ → List ℕ → Option ℕ
number_in most w = cond (is_number w && nat_le (read_on 0 w) most) (Some (read_on 0 w)) None

-- what words that name books command: the books in order, the limits of their attempts, how many goals may be worked at a
-- time, and whether what was dropped is told
pub record Order : Type 0 where
  pub books : List (List ℕ)
  pub limits : Limits
  pub workers : ℕ
  pub trace : Bool

-- the demo: of how many functions, under which limits, and how many goals may be worked at a time
pub record Demo : Type 0 where
  pub number : ℕ
  pub limits : Limits
  pub workers : ℕ

pub data Command : Type 0 where
  of_books : Order → Command
  of_demo : Demo → Command

-- the option that a word is, if it is one
abbrev pub flag_of : List ℕ → Option Flag
flag_of w =
    cond (bytes_eq w (codes "--workers")) (Some (Number Workers))
    (cond (bytes_eq w (codes "--steps")) (Some (Number Steps))
    (cond (bytes_eq w (codes "--goals")) (Some (Number Goals))
    (cond (bytes_eq w (codes "--revert")) (Some (Number Revert))
    (cond (bytes_eq w (codes "--demo")) (Some (Number Functions))
    (cond (bytes_eq w (codes "--trace")) (Some Trace) None)))))

abbrev pub no_options : Options
no_options = record { workers = None; steps = None; goals = None; revert = None; demo = None; trace = false }

-- an option's number, where there is one and the option comes for the first time
abbrev pub once : Option ℕ → Option ℕ → Option ℕ
once None n = n
once (Some k) n = None

abbrev pub with_workers : Options → Option ℕ → Option Options
with_workers p None = None
with_workers p (Some n) = Some (record p { workers = Some n })

abbrev pub with_steps : Options → Option ℕ → Option Options
with_steps p None = None
with_steps p (Some n) = Some (record p { steps = Some n })

abbrev pub with_goals : Options → Option ℕ → Option Options
with_goals p None = None
with_goals p (Some n) = Some (record p { goals = Some n })

abbrev pub with_revert : Options → Option ℕ → Option Options
with_revert p None = None
with_revert p (Some n) = Some (record p { revert = Some n })

abbrev pub with_demo : Options → Option ℕ → Option Options
with_demo p None = None
with_demo p (Some n) = Some (record p { demo = Some n })

-- one option more that has a number, which this word gives
abbrev pub with_number : Options → Counted → List ℕ → Option Options
with_number p Workers w = with_workers p (once p.workers (number_in 64 w))
with_number p Steps w = with_steps p (once p.steps (number_in 1000000 w))
with_number p Goals w = with_goals p (once p.goals (number_in 100000 w))
with_number p Revert w = with_revert p (once p.revert (number_in 100 w))
with_number p Functions w = with_demo p (once p.demo (number_in 1000 w))

-- one option more that has none
abbrev pub with_trace : Options → Option Options
with_trace p = cond p.trace None (Some (record p { trace = true }))

-- where the words don't say how many, a clause may spend 100,000 steps, an attempt visit 10,000 goals and revert at two
-- pushes, and one goal is worked at a time
abbrev pub limits_in : Options → Option Limits
limits_in p = limits_of (unwrap_or p.steps 100000) (unwrap_or p.goals 10000) (unwrap_or p.revert 2)

abbrev pub books_by : Options → List (List ℕ) → Option Limits → Option Command
books_by p ws None = None
books_by p ws (Some limits) = Some (of_books (record { books = ws; limits = limits; workers = unwrap_or p.workers 1; trace = p.trace }))

-- behind these options the words that are to name books
abbrev pub books_command : Options → List (List ℕ) → Option Command
books_command p ws = cond (is_none p.demo) (books_by p ws (limits_in p)) None

abbrev pub demo_by : Options → Option ℕ → Option Limits → Option Command
demo_by p None limits = None
demo_by p (Some n) None = None
demo_by p (Some n) (Some limits) = Some (of_demo (record { number = n; limits = limits; workers = unwrap_or p.workers 1 }))

-- a demo has no option but how many goals are worked at a time
abbrev pub is_bare : Options → Bool
is_bare p = is_none p.steps && is_none p.goals && is_none p.revert && not p.trace

-- behind these options nothing
abbrev pub demo_command : Options → Option Command
demo_command p = cond (is_bare p) (demo_by p p.demo (limits_in p)) None

-- with options that a flag gave, if it gave some
abbrev pub with_options : Option Options → (Options → Option Command) → Option Command
with_options None more = None
with_options (Some p) more = more p

-- a last word
abbrev pub last_word : Option Flag → Options → List ℕ → Option Command
last_word None p w = books_command p (w ∷ [])
last_word (Some f) p w = None

-- a word with others behind it: `next` goes on behind it, `later` behind the next word
abbrev pub first_word : Option Flag → Options → List ℕ → List ℕ → List (List ℕ) → (Options → Option Command) → (Options → Option Command) → Option Command
first_word None p w v ws next later = books_command p (w ∷ v ∷ ws)
first_word (Some Trace) p w v ws next later = with_options (with_trace p) next
first_word (Some (Number c)) p w v ws next later = with_options (with_number p c v) later

-- options, each at most once, and then words that are to name books, or none where the demo is asked for
abbrev pub command_from : List (List ℕ) → Options → Option Command
command_from [] p = demo_command p
command_from (w ∷ []) p = last_word (flag_of w) p w
command_from (w ∷ v ∷ ws) p = first_word (flag_of w) p w v ws (command_from (v ∷ ws)) (command_from ws)

-- these name books: a name at least
abbrev pub are_some : Result (List BookName) PlanError → Bool
are_some (Err e) = false
are_some (Ok []) = false
are_some (Ok (n ∷ ns)) = true

-- words that name books, 1 to 64 of them, each once
abbrev pub are_books : List (List ℕ) → Bool
are_books ws = are_some (plan_of ws)

abbrev pub where_books : Option Command → Option Command
where_books None = None
where_books (Some (of_books o)) = cond (are_books o.books) (Some (of_books o)) None
where_books (Some (of_demo d)) = Some (of_demo d)

abbrev pub command_of : List (List ℕ) → Option Command
command_of ws = where_books (command_from ws no_options)

-- the books that the words name
abbrev pub books_in : Option Command → List (List ℕ)
books_in None = []
books_in (Some (of_books o)) = o.books
books_in (Some (of_demo d)) = []

-- how many goals the words let be worked at a time
abbrev pub workers_in : Option Command → ℕ
workers_in None = 1
workers_in (Some (of_books o)) = o.workers
workers_in (Some (of_demo d)) = d.workers

-- a command as the program holds it
abbrev pub shown_order : orders.Order → Order
shown_order o = record { books = map string_bytes o.books.now; limits = o.limits; workers = o.workers; trace = o.trace }

abbrev pub shown_demo : demos.Demo → Demo
shown_demo d = record { number = d.number; limits = d.limits; workers = d.workers }

abbrev pub shown_command : commands.Command → Command
shown_command (command.Certify o) = of_books (shown_order o)
shown_command (command.Show d) = of_demo (shown_demo d)
