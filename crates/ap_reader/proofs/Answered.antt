-- The answer is the grammar's, and the grammar has one.
use Rattle.std.proofs.Common.{◌≡◌, ◌⊎◌, inl, inr, List, length, Result, Ok, Err, suc, sym, subst, ◌∙◌, arith}
use Rattle.ap_tokens.specs.Gaps.{At}
use Rattle.ap_reader.specs.declared.form.Form.{Form}
use Rattle.ap_reader.specs.declared.fault.ReadError.{ReadError}
use Rattle.ap_reader.specs.declared.fault.ReadError.TheVariants as errors
use Rattle.ap_reader.specs.Faults.{ReadFault, Fails, Gives, OnFault}
use Rattle.ap_reader.specs.Reading.{forms_from}
use Rattle.ap_reader.specs.Grammar.{Reads}
use Rattle.ap_reader.specs.Breaks.{Faults}
use Rattle.ap_reader.proofs.Whole.{FormsRead, ReadsIs, forms_sound, forms_complete, forms_breaks}

-- what the function reads is the grammar's
pub read_is : (a : At) → ReadsIs a (forms_from a)
read_is a = forms_sound (suc (length a.rest)) a (omega arith)

pub read_ok : (a : At) (fs : List Form) → Reads a fs → ◌≡◌ {A = FormsRead} (forms_from a) (Ok fs)
read_ok a fs h = forms_complete h (length a.rest) (omega arith)

pub read_err : (a : At) (e : ReadFault) → Faults a e → ◌≡◌ {A = FormsRead} (forms_from a) (Err e)
read_err a e h = forms_breaks h (length a.rest) (omega arith)

pub found : (a : At) (fs : List Form) → ◌≡◌ {A = FormsRead} (forms_from a) (Ok fs) → Reads a fs
found a fs e = subst (λ (r : FormsRead). ReadsIs a r) e (read_is a)

pub only : (a : At) (fs : List Form) (r : Result (List Form) ReadError) → Gives (λ gs. gs) r (forms_from a) → Reads a fs → Gives (λ gs. gs) r (Ok fs)
only a fs r g h = subst (λ (x : FormsRead). Gives (λ gs. gs) r x) (read_ok a fs h) g

pub faulty : (a : At) (e : ReadError) → Fails e (forms_from a) → OnFault e (λ f. Faults a f)
faulty a errors.NoMemory h = tt
faulty a (errors.Fault p k) h = subst (λ (r : FormsRead). ReadsIs a r) h (read_is a)

pub only_fault : (a : At) (e : ReadFault) (r : Result (List Form) ReadError) → Gives (λ gs. gs) r (forms_from a) → Faults a e → Gives (λ gs. gs) r (Err e)
only_fault a e r g h = subst (λ (x : FormsRead). Gives (λ gs. gs) r x) (read_err a e h) g

pub once : (a : At) (fs gs : List Form) → Reads a fs → Reads a gs → fs ≡ gs
once a fs gs h k = let e : ◌≡◌ {A = FormsRead} (Ok fs) (Ok gs) = sym (read_ok a fs h) ∙ read_ok a gs k in cc

pub first : (a : At) (e f : ReadFault) → Faults a e → Faults a f → e ≡ f
first a e f h k = let q : ◌≡◌ {A = FormsRead} (Err e) (Err f) = sym (read_err a e h) ∙ read_err a f k in cc

pub apart : (a : At) (fs : List Form) (e : ReadFault) → Reads a fs → Faults a e → ⊥
apart a fs e h k = let q : ◌≡◌ {A = FormsRead} (Ok fs) (Err e) = sym (read_ok a fs h) ∙ read_err a e k in cc

pub some : (a : At) → ((fs : List Form) × Reads a fs) ⊎ ((e : ReadFault) × Faults a e)
some a = by_read (forms_from a) (read_is a)
  where
    by_read : (r : Result (List Form) ReadFault) → ReadsIs a r → ((fs : List Form) × Reads a fs) ⊎ ((e : ReadFault) × Faults a e)
    by_read (Ok fs) h = inl (fs, h)
    by_read (Err e) h = inr (e, h)

pub ruleset answered = (found, only, faulty, only_fault)
