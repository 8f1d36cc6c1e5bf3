-- The books that words name.
use Rattle.std.specs.Prelude.{ℕ, cond, not, nat_le, List, [], ◌∷◌, ◌++◌, length, Result, Ok, Err}
use Rattle.std.specs.List.{list_any}
use Rattle.ap_value.specs.Values.{bytes_eq}
use Rattle.ap_value.specs.declared.symbol.BookName.{BookName}
use Rattle.ap_cert.specs.Cert.{is_book_name}
use Rattle.ap_books.specs.declared.planning.PlanError.{PlanError}

-- a word behind names: it is a name too, it doesn't stand already, and it is at most the 64th
abbrev pub one_more : List BookName → List ℕ → Result (List BookName) PlanError
one_more ns w =
    cond (not (is_book_name w)) (Err (PlanError.BadName w))
    (cond (list_any (λ n. bytes_eq n.0 w) ns) (Err (PlanError.Twice w))
    (cond (nat_le 64 (length ns)) (Err (PlanError.TooMany w)) (Ok (ns ++ record { 0 = w } ∷ []))))

abbrev pub go_on : Result (List BookName) PlanError → (List BookName → Result (List BookName) PlanError) → Result (List BookName) PlanError
go_on (Err e) more = Err e
go_on (Ok ns) more = more ns

-- words in order, the first that is refused counting
abbrev pub planned : List (List ℕ) → List BookName → Result (List BookName) PlanError
planned [] ns = Ok ns
planned (w ∷ ws) ns = go_on (one_more ns w) (planned ws)

abbrev pub plan_of : List (List ℕ) → Result (List BookName) PlanError
plan_of ws = planned ws []
