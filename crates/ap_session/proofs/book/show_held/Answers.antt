use Rattle.std.proofs.lemmas.Result.{err_from_is_err_and}
use Rattle.ap_session.proofs.Showing.{puts_whole, puts_all, puts_same}
use Rattle.ap_session.proofs.book.show_held.Goals as goal

pub returns-in_err-show_body-clause-puts : goal.returns-in_err-show_body-clause-puts
returns-in_err-show_body-clause-puts g c =
    let p = err_from_is_err_and c.from_residual.result c.from_residual.ensures.1 in
    puts_same _ _ _ _ c.from_residual.result _ p.0 _ p.1 p.2 c.in_err-show_body.ensures.puts

pub returns-then-not-branch-clause-puts : goal.returns-then-not-branch-clause-puts
returns-then-not-branch-clause-puts g c = puts_whole _ _ _ _ _ _ c.in_ok-show_body.ensures.puts.text c.in_ok-show_body.ensures.puts.later

pub returns-in_err-held-clause-puts : goal.returns-in_err-held-clause-puts
returns-in_err-held-clause-puts g c =
    let p = err_from_is_err_and c.from_residual-in_err-held.result c.from_residual-in_err-held.ensures.1 in
    puts_all _ _ _ _ c.from_residual-in_err-held.result p.0 _ p.1 (λ failed. absurd (cc (p.2, failed))) c.in_ok-show_body.ensures.puts.text c.in_ok-show_body.ensures.puts.later

pub returns-clause-puts : goal.returns-clause-puts
returns-clause-puts g c = puts_whole _ _ _ _ _ _ c.in_ok-show_body.ensures.puts.text c.in_ok-show_body.ensures.puts.later
