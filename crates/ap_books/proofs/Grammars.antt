-- What is read of a book is what the grammar has.
use Rattle.std.proofs.Common.{◌≡◌, ◌↔◌, ℕ, List, Result, Ok, Err, subst}
use Rattle.std.specs.Prelude.{IfOk, IfErr}
use Rattle.ap_tokens.specs.Gaps.{at}
use Rattle.ap_reader.specs.declared.form.Form.{Form}
use Rattle.ap_reader.specs.declared.fault.ReadError.{ReadError}
use Rattle.ap_reader.specs.declared.fault.ReadError.TheVariants as errors
use Rattle.ap_reader.specs.Faults.{ReadFault, Gives, OnFault, fault}
use Rattle.ap_reader.specs.Grammar.{Reads}
use Rattle.ap_reader.specs.Breaks.{Faults}
use Rattle.ap_reader.proofs.Whole.{FormsRead, ReadsIs}
use Rattle.ap_reader.proofs.Answered.{read_is, read_ok, read_err}
use Rattle.ap_books.specs.Bodies.{forms_in}

pub gives : (t : List ℕ) (r : Result (List Form) ReadError) → IfOk r (λ fs. Reads (at 0 t) fs) → IfErr r (λ e. OnFault e (λ f. Faults (at 0 t) f))
    → Gives (λ fs. fs) r (forms_in t)
gives t (Ok fs) found broken = read_ok (at 0 t) fs found
gives t (Err errors.NoMemory) found broken = tt
gives t (Err (errors.Fault p k)) found broken = read_err (at 0 t) (fault p k) broken

pub reads_so : (t : List ℕ) (fs : List Form) → Reads (at 0 t) fs ↔ (◌≡◌ {A = FormsRead} (forms_in t) (Ok fs))
reads_so t fs = (λ h. read_ok (at 0 t) fs h, λ e. subst (λ (r : FormsRead). ReadsIs (at 0 t) r) e (read_is (at 0 t)))

pub breaks_so : (t : List ℕ) (e : ReadFault) → Faults (at 0 t) e ↔ (◌≡◌ {A = FormsRead} (forms_in t) (Err e))
breaks_so t f = (λ h. read_err (at 0 t) f h, λ e. subst (λ (r : FormsRead). ReadsIs (at 0 t) r) e (read_is (at 0 t)))

pub ruleset grammars = (gives, reads_so, breaks_so)
