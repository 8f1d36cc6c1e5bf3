-- The clauses of `cond`, one after another.
use Rattle.std.proofs.Common.{◌≡◌, ℕ, ◌+◌, ◌<◌, ◌≤◌, Bool, true, false, cond, nat_le, List, [], ◌∷◌, ◌++◌, length, drop, Option, Some, None, option_map, unwrap_or, Ok, Err, refl, sym, ap, ◌∙◌, arith}
use Rattle.std.proofs.lemmas.List.{drop_all}
use Rattle.ap_term.specs.declared.term.Term.{Term}
use Rattle.ap_term.specs.Terms.{term_size}
use Rattle.ap_reader.specs.declared.form.Form.{Form}
use Rattle.ap_translate.specs.declared.arms.Arm.{Arm}
use Rattle.ap_translate.specs.declared.fault.TransKind.TheVariants as kinds
use Rattle.ap_translate.specs.declared.fault.TransError.{TransError}
use Rattle.ap_translate.specs.declared.fault.TransError.TheVariants as errors
use Rattle.ap_translate.specs.Answers.{Refusal, Answer, refused, ◌>>=◌, shaped, Fails}
use Rattle.ap_translate.specs.Rows.{nil_term, if_term, or_term}
use Rattle.ap_world.specs.Names.{nil_name}
use Rattle.ap_translate.specs.Shapes.{Arm as Clause', arm_in, last_in, alone, pair, otherwise}
use Rattle.ap_translate.specs.Sizes.{small, total, more_by, capped}
use Rattle.ap_translate.specs.Kept.{arm_size, arm_alone, arm_pair, clause_kept, armed_by, armed, arms_before, kept_arms}
use Rattle.ap_translate.specs.Table.{arm_term, arms_term}
use Rattle.ap_translate.proofs.Kept.{past, total_more}
use Rattle.ap_translate.proofs.Smalls.{small_none, symbol_kept}
use Rattle.ap_translate.proofs.Chains.{arms_last}
use Rattle.ap_translate.proofs.Makings.{size_if}
use Rattle.ap_translate.proofs.Fails.{then_fails, fails_then, fails_capped, same_fails}

-- what is kept of clauses before a term, and before the answer for the rest
abbrev pub kept_before : Option (List Arm) → Term → Option Term
kept_before None u = None
kept_before (Some xs) u = small (arms_before xs u)

abbrev pub armed_onto : Option (List Arm) → Answer Term → Answer (Option Term)
armed_onto out (Ok u) = Ok (kept_before out u)
armed_onto out (Err e) = Err e

armed_fails : (e : TransError) (out : Option (List Arm)) (r : Answer Term) → Fails e r → Fails e (armed_onto out r)
armed_fails errors.NoMemory out r h = tt
armed_fails (errors.Fault p k) out (Err q) h = cc
armed_fails (errors.Fault p k) out (Ok u) h = absurd (no h)
  where
    no : Ok u ≡ refused p k → ⊥
    no q = cc

-- clauses before a term have no fewer nodes
one_size : (a : Term) (o : Option Term) (u : Term) → term_size a + unwrap_or (option_map term_size o) 0 + term_size u ≤ term_size (armed_by a o u)
one_size a None u = omega (arith, size_if a a u)
one_size a (Some b) u = omega (arith, size_if a b u)

arms_size : (xs : List Arm) (u : Term) → total arm_size xs + term_size u ≤ term_size (arms_before xs u)
arms_size [] u = omega arith
arms_size (x ∷ xs) u = let h = arms_size xs u in let k = one_size x.test x.value (arms_before xs u) in omega arith

-- one clause more, where it is kept; else the whole has too many nodes
with_arm : (out : Option (List Arm)) (x : Arm) (u : Term) → kept_before (more_by arm_size out (Some x)) u ≡ kept_before out (armed x u)
with_arm None x u = refl
with_arm (Some xs) x u = by_total (nat_le (total arm_size (xs ++ x ∷ [])) 4096) refl
  where
    front : total arm_size (xs ++ x ∷ []) ≡ total arm_size xs + (arm_size x + 0)
    front = total_more arm_size xs (x ∷ [])

    whole : total arm_size xs + arm_size x ≤ term_size (arms_before xs (armed x u))
    whole = let h = arms_size xs (armed x u) in let k = one_size x.test x.value u in omega arith

    by_total : (b : Bool) → nat_le (total arm_size (xs ++ x ∷ [])) 4096 ≡ b → kept_before (cond b (Some (xs ++ x ∷ [])) None) u ≡ small (arms_before xs (armed x u))
    by_total true h = ap small (arms_last xs x u)
    by_total false h =
        let over = past (total arm_size (xs ++ x ∷ [])) h in
        sym (small_none (arms_before xs (armed x u)) (omega (arith, front, whole, over)))

without_arm : (out : Option (List Arm)) (x : Arm) (u : Term) → 4096 < arm_size x → kept_before (more_by arm_size out None) u ≡ kept_before out (armed x u)
without_arm None x u h = refl
without_arm (Some xs) x u h =
    let k = arms_size xs (armed x u) in
    let l = one_size x.test x.value u in
    sym (small_none (arms_before xs (armed x u)) (omega arith))

alone_kept : (out : Option (List Arm)) (a u : Term) → kept_before (more_by arm_size out (arm_alone (small a))) u ≡ kept_before out (or_term a u)
alone_kept out a u = by_size (nat_le (term_size a) 4096) refl
  where
    x : Arm
    x = record { test = a; value = None }

    by_size : (b : Bool) → nat_le (term_size a) 4096 ≡ b → kept_before (more_by arm_size out (arm_alone (cond b (Some a) None))) u ≡ kept_before out (or_term a u)
    by_size true h = with_arm out x u
    by_size false h = let over = past (term_size a) h in without_arm out x u (omega arith)

pair_kept : (out : Option (List Arm)) (a b u : Term) → kept_before (more_by arm_size out (arm_pair (small a) (small b))) u ≡ kept_before out (if_term a b u)
pair_kept out a b u = by_sizes (nat_le (term_size a) 4096) (nat_le (term_size b) 4096) refl refl
  where
    x : Arm
    x = record { test = a; value = Some b }

    by_sizes : (c d : Bool) → nat_le (term_size a) 4096 ≡ c → nat_le (term_size b) 4096 ≡ d
        → kept_before (more_by arm_size out (arm_pair (cond c (Some a) None) (cond d (Some b) None))) u ≡ kept_before out (if_term a b u)
    by_sizes true true h k = with_arm out x u
    by_sizes true false h k = let over = past (term_size b) k in without_arm out x u (omega arith)
    by_sizes false d h k = let over = past (term_size a) h in without_arm out x u (omega arith)

-- the same of answers
alone_step : (out : Option (List Arm)) (r q : Answer Term) (o : Option Term) → capped small r ≡ Ok o
    → armed_onto (more_by arm_size out (arm_alone o)) q ≡ armed_onto out (r >>= λ t. q >>= λ u. Ok (or_term t u))
alone_step out (Err e) q o k = absurd (no k)
  where
    no : Err e ≡ Ok o → ⊥
    no j = cc
alone_step out (Ok t) (Err e) o k = refl
alone_step out (Ok t) (Ok u) o k =
    let s : small t ≡ o = cc in
    ap (λ x. Ok (kept_before (more_by arm_size out (arm_alone x)) u)) (sym s) ∙ ap Ok (alone_kept out t u)

pair_step : (out : Option (List Arm)) (r s q : Answer Term) (o n : Option Term) → capped small r ≡ Ok o → capped small s ≡ Ok n
    → armed_onto (more_by arm_size out (arm_pair o n)) q ≡ armed_onto out (r >>= λ t. s >>= λ v. q >>= λ u. Ok (if_term t v u))
pair_step out (Err e) s q o n k l = absurd (no k)
  where
    no : Err e ≡ Ok o → ⊥
    no j = cc
pair_step out (Ok t) (Err e) q o n k l = absurd (no l)
  where
    no : Err e ≡ Ok n → ⊥
    no j = cc
pair_step out (Ok t) (Ok v) (Err e) o n k l = refl
pair_step out (Ok t) (Ok v) (Ok u) o n k l =
    let a : small t ≡ o = cc in
    let b : small v ≡ n = cc in
    ap (λ x. Ok (kept_before (more_by arm_size out (arm_pair x n)) u)) (sym a) ∙ ap (λ x. Ok (kept_before (more_by arm_size out (arm_pair (small t) x)) u)) (sym b)
    ∙ ap Ok (pair_kept out t v u)

-- of a clause that isn't the last
clause_step : (out : Option (List Arm)) (g : Form → Answer Term) (k : Clause') (q : Answer Term) (o : Option Arm) → last_in k ≡ None → clause_kept g k ≡ Ok o
    → armed_onto (more_by arm_size out o) q ≡ armed_onto out (arm_term g k q)
clause_step out g (alone f) q o before read = go (g f) read
  where
    go : (r : Answer Term) → (capped small r >>= λ x. Ok (arm_alone x)) ≡ Ok o → armed_onto (more_by arm_size out o) q ≡ armed_onto out (r >>= λ t. q >>= λ u. Ok (or_term t u))
    go (Err e) k = absurd (no k)
      where
        no : Err e ≡ Ok o → ⊥
        no j = cc
    go (Ok t) k = let s : arm_alone (small t) ≡ o = cc in ap (λ x. armed_onto (more_by arm_size out x) q) (sym s) ∙ alone_step out (Ok t) q (small t) refl
clause_step out g (pair f h) q o before read = go (g f) (g h) read
  where
    go : (r s : Answer Term) → (capped small r >>= λ x. capped small s >>= λ y. Ok (arm_pair x y)) ≡ Ok o
        → armed_onto (more_by arm_size out o) q ≡ armed_onto out (r >>= λ t. s >>= λ v. q >>= λ u. Ok (if_term t v u))
    go (Err e) s k = absurd (no k)
      where
        no : Err e ≡ Ok o → ⊥
        no j = cc
    go (Ok t) (Err e) k = absurd (no k)
      where
        no : Err e ≡ Ok o → ⊥
        no j = cc
    go (Ok t) (Ok v) k =
        let s : arm_pair (small t) (small v) ≡ o = cc in
        ap (λ x. armed_onto (more_by arm_size out x) q) (sym s) ∙ pair_step out (Ok t) (Ok v) q (small t) (small v) refl refl
clause_step out g (otherwise f) q o before read = absurd (no before)
  where
    no : Some f ≡ None → ⊥
    no j = cc

clause_fails : (e : TransError) (g : Form → Answer Term) (k : Clause') (q : Answer Term) → last_in k ≡ None → Fails e (clause_kept g k) → Fails e (arm_term g k q)
clause_fails e g (alone f) q before bad = then_fails e (g f) (λ t. q >>= λ u. Ok (or_term t u)) (fails_capped small e (g f) (fails_then e (capped small (g f)) arm_alone bad))
clause_fails e g (pair f h) q before bad = go (g f) (g h) bad
  where
    same : (a : TransError) (x : Refusal) → Fails {A = Option Arm} a (Err x) → Fails {A = Term} a (Err x)
    same errors.NoMemory x l = tt
    same (errors.Fault p k) x l = cc

    go : (r s : Answer Term) → Fails e (capped small r >>= λ x. capped small s >>= λ y. Ok (arm_pair x y)) → Fails e (r >>= λ t. s >>= λ v. q >>= λ u. Ok (if_term t v u))
    go (Err x) s l = same e x l
    go (Ok t) s l = then_fails e s (λ v. q >>= λ u. Ok (if_term t v u)) (fails_capped small e s (fails_then e (capped small s) (arm_pair (small t)) l))
clause_fails e g (otherwise f) q before bad = absurd (no before)
  where
    no : Some f ≡ None → ⊥
    no j = cc

last_kept : (out : Option (List Arm)) (u : Term) → kept_before out u ≡ kept_arms out (small u)
last_kept None u = refl
last_kept (Some xs) u = by_size (nat_le (term_size u) 4096) refl
  where
    by_size : (b : Bool) → nat_le (term_size u) 4096 ≡ b → small (arms_before xs u) ≡ kept_arms (Some xs) (cond b (Some u) None)
    by_size true h = refl
    by_size false h =
        let over = past (term_size u) h in
        let k = arms_size xs u in
        small_none (arms_before xs u) (omega arith)

last_step : (out : Option (List Arm)) (r : Answer Term) (o : Option Term) → capped small r ≡ Ok o → armed_onto out r ≡ Ok (kept_arms out o)
last_step out (Err e) o k = absurd (no k)
  where
    no : Err e ≡ Ok o → ⊥
    no j = cc
last_step out (Ok u) o k = let s : small u ≡ o = cc in ap Ok (last_kept out u ∙ ap (kept_arms out) s)

pub last_is : (k : Clause') (a : Form) → Some a ≡ last_in k → k ≡ otherwise a
last_is (alone f) a h = absurd (no h)
  where
    no : Some a ≡ None → ⊥
    no j = cc
last_is (pair f g) a h = absurd (no h)
  where
    no : Some a ≡ None → ⊥
    no j = cc
last_is (otherwise f) a h = cc

module _ (g : Form → Answer Term) (p : ℕ) (fs : List Form) (i : ℕ) (f : Form) (out : Option (List Arm)) (whole : Answer (Option Term)) (here : drop i fs ≡ f ∷ drop (i + 1) fs)
    (told : armed_onto out (arms_term g p (drop i fs)) ≡ whole) where
  by_arm : (o : Option Clause') → arm_in f ≡ o → armed_onto out (shaped p o (λ x. arm_term g x (arms_term g p (drop (i + 1) fs)))) ≡ whole
  by_arm o is =
      ap (λ o. armed_onto out (shaped p o (λ x. arm_term g x (arms_term g p (drop (i + 1) fs))))) (sym is) ∙ ap (λ hs. armed_onto out (arms_term g p hs)) (sym here) ∙ told

  -- one turn of the loop: at (t b) it ends
  pub arm_next : (k : Clause') (o : Option Arm) (after : Option (List Arm)) → arm_in f ≡ Some k → last_in k ≡ None → clause_kept g k ≡ Ok o → after ≡ more_by arm_size out o
      → armed_onto after (arms_term g p (drop (i + 1) fs)) ≡ whole
  arm_next k o after is before read same =
      ap (λ x. armed_onto x (arms_term g p (drop (i + 1) fs))) same ∙ clause_step out g k (arms_term g p (drop (i + 1) fs)) o before read ∙ by_arm (Some k) is

  pub last_next : (a : Form) (o found : Option Term) → arm_in f ≡ Some (otherwise a) → capped small (g a) ≡ Ok o → found ≡ kept_arms out o → whole ≡ Ok found
  last_next a o found is read same = sym (by_arm (Some (otherwise a)) is) ∙ last_step out (g a) o read ∙ ap Ok (sym same)

  pub none_next : arm_in f ≡ None → whole ≡ refused p kinds.BadForm
  none_next is = sym (by_arm None is)

  -- what fails there
  pub arm_fails : (k : Clause') (e : TransError) → arm_in f ≡ Some k → last_in k ≡ None → Fails e (clause_kept g k) → Fails e whole
  arm_fails k e is before bad = same_fails e whole _ (sym (by_arm (Some k) is)) (armed_fails e out _ (clause_fails e g k (arms_term g p (drop (i + 1) fs)) before bad))

  pub last_fails : (a : Form) (e : TransError) → arm_in f ≡ Some (otherwise a) → Fails e (capped small (g a)) → Fails e whole
  last_fails a e is bad = same_fails e whole _ (sym (by_arm (Some (otherwise a)) is)) (armed_fails e out (g a) (fails_capped small e (g a) bad))

-- at the end the last term is 'NIL
pub arms_ended : (g : Form → Answer Term) (p : ℕ) (fs : List Form) (i : ℕ) (out : Option (List Arm)) (whole : Answer (Option Term)) (u : Term) (found : Option Term) → length fs ≤ i
    → armed_onto out (arms_term g p (drop i fs)) ≡ whole → u ≡ nil_term → found ≡ kept_arms out (Some u) → whole ≡ Ok found
arms_ended g p fs i out whole u found past told is same =
    sym (ap (λ hs. armed_onto out (arms_term g p hs)) (sym (drop_all i fs past)) ∙ told)
    ∙ ap Ok (last_kept out nil_term ∙ ap (kept_arms out) (nil_kept ∙ ap Some (sym is)) ∙ sym same)
  where
    nil_kept : small nil_term ≡ Some nil_term
    nil_kept = symbol_kept nil_name

-- at the start there is none
pub arms_begun : (r : Answer Term) → armed_onto (Some []) r ≡ capped small r
arms_begun (Ok u) = refl
arms_begun (Err e) = refl
