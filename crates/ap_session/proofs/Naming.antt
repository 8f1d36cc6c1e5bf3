-- Words name books exactly where they are 1 to 64 names, each once.
use Rattle.std.proofs.Common.{◌≡◌, ◌∙◌, ◌≤◌, ◌+◌, ℕ, suc, Bool, true, false, true≢false, cond, not, ◌||◌, nat_le, List, [], ◌∷◌, ◌++◌, length, length-append, Ok, Err, IsTrue, refl, ap, sym, subst, arith}
use Rattle.std.specs.Prelude.{Result}
use Rattle.std.specs.List.{list_any}
use Rattle.std.proofs.lemmas.Bool.{leb-false, lt-leb}
use Rattle.ap_list.specs.Lists.{Each}
use Rattle.ap_value.specs.Values.{bytes_eq}
use Rattle.ap_value.specs.declared.symbol.BookName.{BookName}
use Rattle.ap_value.proofs.Equals.{bytes_eq-true, bytes_eq-same}
use Rattle.ap_books.specs.declared.planning.PlanError.{PlanError}
use Rattle.ap_cert.specs.Cert.{is_book_name}
use Rattle.ap_books.specs.Plan.{one_more, go_on, planned, plan_of}
use Rattle.ap_session.specs.Command.{are_some, are_books}
use Rattle.ap_session.specs.CommandLines.{Apart, AreNames}

abbrev stands : List ℕ → List BookName → Bool
stands w ns = list_any (λ n. bytes_eq n.0 w) ns

abbrev named : List ℕ → BookName
named w = record { 0 = w }

-- w doesn't stand among more names
stands_not : (ns : List BookName) (v w : List ℕ) → stands v (ns ++ named w ∷ []) ≡ false → (stands v ns ≡ false) × ¬ (v ≡ w)
stands_not [] v w h = (refl, λ e. go (bytes_eq w v) (ap (λ u. bytes_eq w u) e ∙ bytes_eq-same w) h)
  where
    go : (t : Bool) → t ≡ true → (t || false) ≡ false → ⊥
    go true e h = true≢false h
    go false e h = true≢false (sym e)
stands_not (n ∷ ns) v w h = go (stands_not ns v w) (bytes_eq n.0 v) h
  where
    go : (stands v (ns ++ named w ∷ []) ≡ false → (stands v ns ≡ false) × ¬ (v ≡ w)) → (t : Bool) → (t || stands v (ns ++ named w ∷ [])) ≡ false
        → ((t || stands v ns) ≡ false) × ¬ (v ≡ w)
    go more true h = absurd (true≢false h)
    go more false h = more h

stands_yet : (ns : List BookName) (v w : List ℕ) → stands v ns ≡ false → ¬ (v ≡ w) → stands v (ns ++ named w ∷ []) ≡ false
stands_yet [] v w h n = go (bytes_eq w v) refl
  where
    go : (t : Bool) → bytes_eq w v ≡ t → (t || false) ≡ false
    go true e = absurd (n (sym (bytes_eq-true w v e)))
    go false e = refl
stands_yet (m ∷ ns) v w h n = go (λ k. stands_yet ns v w k n) (bytes_eq m.0 v) h
  where
    go : (stands v ns ≡ false → stands v (ns ++ named w ∷ []) ≡ false) → (t : Bool) → (t || stands v ns) ≡ false → (t || stands v (ns ++ named w ∷ [])) ≡ false
    go more true h = absurd (true≢false h)
    go more false h = more h

-- what each word behind names is
record Plans (ns : List BookName) (ws : List (List ℕ)) : Type 0 where
  names : Each (λ w. IsTrue (is_book_name w)) ws
  new : Each (λ w. stands w ns ≡ false) ws
  once : Apart (λ (w : List ℕ). w) ws
  few : length ns + length ws ≤ 64

-- one word more behind names
record Adds (ns ms : List BookName) (w : List ℕ) : Type 0 where
  name : is_book_name w ≡ true
  new : stands w ns ≡ false
  few : suc (length ns) ≤ 64
  next : ns ++ named w ∷ [] ≡ ms

abbrev one_by : List BookName → List ℕ → (name twice many : Bool) → Result (List BookName) PlanError
one_by ns w name twice many =
    cond (not name) (Err (PlanError.BadName w)) (cond twice (Err (PlanError.Twice w)) (cond many (Err (PlanError.TooMany w)) (Ok (ns ++ named w ∷ []))))

adds : (ns ms : List BookName) (w : List ℕ) → one_more ns w ≡ Ok ms → Adds ns ms w
adds ns ms w h = go (is_book_name w) (stands w ns) (nat_le 64 (length ns)) refl refl refl h
  where
    go : (a b c : Bool) → is_book_name w ≡ a → stands w ns ≡ b → nat_le 64 (length ns) ≡ c → one_by ns w a b c ≡ Ok ms → Adds ns ms w
    go false b c i j k h = cc
    go true true c i j k h = cc
    go true false true i j k h = cc
    go true false false i j k h = record { name = i; new = j; few = omega (arith, leb-false 64 (length ns) k); next = cc }

added : (ns : List BookName) (w : List ℕ) → is_book_name w ≡ true → stands w ns ≡ false → suc (length ns) ≤ 64 → one_more ns w ≡ Ok (ns ++ named w ∷ [])
added ns w i j few =
    let k : nat_le 64 (length ns) ≡ false = lt-leb 64 (length ns) few in
    ap (λ a. one_by ns w a (stands w ns) (nat_le 64 (length ns))) i ∙ ap (λ b. one_by ns w true b (nat_le 64 (length ns))) j ∙ ap (λ c. one_by ns w true false c) k

longer : (ns : List BookName) (w : List ℕ) → length (ns ++ named w ∷ []) ≡ length ns + 1
longer ns w = length-append ns (named w ∷ [])

planned_given : (ws : List (List ℕ)) (ns ms : List BookName) → length ns ≤ 64 → planned ws ns ≡ Ok ms → Plans ns ws × (length ms ≡ length ns + length ws)
planned_given [] ns ms few h =
    let same : ns ≡ ms = cc in
    (record { names = tt; new = tt; once = tt; few = omega arith }, omega (arith, ap (λ (x : List BookName). length x) same))
planned_given (w ∷ ws) ns ms few h = go (planned_given ws) (one_more ns w) refl h
  where
    behind : (v : List (List ℕ)) → Each (λ u. stands u (ns ++ named w ∷ []) ≡ false) v → Each (λ u. stands u ns ≡ false) v × Each (λ u. ¬ (u ≡ w)) v
    behind [] h = (tt, tt)
    behind (u ∷ v) h = let k = stands_not ns u w h.0 in let more = behind v h.1 in ((k.0, more.0), (k.1, more.1))

    go : ((ks ms : List BookName) → length ks ≤ 64 → planned ws ks ≡ Ok ms → Plans ks ws × (length ms ≡ length ks + length ws))
        → (r : Result (List BookName) PlanError) → one_more ns w ≡ r → go_on r (planned ws) ≡ Ok ms → Plans ns (w ∷ ws) × (length ms ≡ length ns + length (w ∷ ws))
    go more (Err e) i h = cc
    go more (Ok ks) i h =
        let a = adds ns ks w i in
        let l : length ks ≡ length ns + 1 = ap (λ (x : List BookName). length x) (sym a.next) ∙ longer ns w in
        let b = more ks ms (omega (arith, l, a.few)) h in
        let c = behind ws (subst (λ x. Each (λ u. stands u x ≡ false) ws) (sym a.next) b.0.new) in (
          record { names = (a.name, b.0.names); new = (a.new, c.0); once = (c.1, b.0.once); few = omega (arith, l, b.0.few) },
          omega (arith, l, b.1),
        )

planned_made : (ws : List (List ℕ)) (ns : List BookName) → Plans ns ws → (ms : List BookName) × ((planned ws ns ≡ Ok ms) × (length ms ≡ length ns + length ws))
planned_made [] ns h = (ns, (refl, omega arith))
planned_made (w ∷ ws) ns h =
    let is = added ns w h.names.0 h.new.0 (omega (arith, h.few)) in
    let l = longer ns w in
    let more = planned_made ws (ns ++ named w ∷ []) (record { names = h.names.1; new = behind ws h.new.1 h.once.0; once = h.once.1; few = omega (arith, l, h.few) }) in
    (more.0, (ap (λ r. go_on r (planned ws)) is ∙ more.1.0, omega (arith, l, more.1.1)))
  where
    behind : (v : List (List ℕ)) → Each (λ u. stands u ns ≡ false) v → Each (λ u. ¬ (u ≡ w)) v → Each (λ u. stands u (ns ++ named w ∷ []) ≡ false) v
    behind [] h k = tt
    behind (u ∷ v) h k = (stands_yet ns u w h.0 k.0, behind v h.1 k.1)

pub names_are : (ws : List (List ℕ)) → are_books ws ≡ true → AreNames ws
names_are ws h = go (plan_of ws) refl h
  where
    go : (r : Result (List BookName) PlanError) → plan_of ws ≡ r → are_some r ≡ true → AreNames ws
    go (Err e) i h = absurd (true≢false (sym h))
    go (Ok []) i h = absurd (true≢false (sym h))
    go (Ok (m ∷ ms)) i h =
        let k = planned_given ws [] (m ∷ ms) (omega arith) i in
        record { names = k.0.names; once = k.0.once; some = omega (arith, k.1); few = omega (arith, k.0.few) }

-- none stand among no names
none_stand : (ws : List (List ℕ)) → Each (λ u. stands u [] ≡ false) ws
none_stand [] = tt
none_stand (w ∷ ws) = (refl, none_stand ws)

pub are_named : (ws : List (List ℕ)) → AreNames ws → are_books ws ≡ true
are_named ws h =
    let k = planned_made ws [] (record { names = h.names; new = none_stand ws; once = h.once; few = omega (arith, h.few) }) in
    ap are_some k.1.0 ∙ some k.0 (omega (arith, k.1.1, h.some))
  where
    some : (ms : List BookName) → 1 ≤ length ms → are_some (Ok ms) ≡ true
    some [] h = absurd (omega arith)
    some (m ∷ ms) h = refl
