-- What the macros stand for, once their arguments are terms.
use Rattle.std.specs.Prelude.{ℕ, Bool, true, cond, ◌==◌, nat_eq, ℤ, pos, negsuc, List, [], ◌∷◌, Option, Some, None, option_map, unwrap_or}
use Rattle.ap_value.specs.declared.symbol.Symbol.{Symbol}
use Rattle.ap_value.specs.declared.value.Value.TheVariants.{Int, Sym}
use Rattle.ap_term.specs.declared.term.Term.{Term, Quote, Call}
use Rattle.ap_term.specs.Terms.{subst_of}
use Rattle.ap_world.specs.Names.{nil_name, t_name, if_name, equal_name, cons_name, car_name, cdr_name, plus_name, times_name, minus_name, less_name, not_name, append_name}
use Rattle.ap_translate.specs.declared.build.Piece.{Piece}
use Rattle.ap_translate.specs.declared.build.Join.{Join}
use Rattle.ap_translate.specs.declared.build.Join.TheVariants as joins
use Rattle.ap_translate.specs.declared.build.Maker.{Maker}
use Rattle.ap_translate.specs.declared.build.Maker.TheVariants as makers
use Rattle.ap_translate.specs.declared.macros.Macro.{Macro}
use Rattle.ap_translate.specs.declared.macros.Macro.TheVariants as m
use Rattle.ap_translate.specs.Macros.{fits}

abbrev pub nil_term : Term
nil_term = Quote (Sym nil_name)

abbrev pub t_term : Term
t_term = Quote (Sym t_name)

abbrev pub integer_term : ℤ → Term
integer_term n = Quote (Int n)

abbrev pub call_1 : Symbol → Term → Term
call_1 f a = Call f (a ∷ [])

abbrev pub call_2 : Symbol → Term → Term → Term
call_2 f a b = Call f (a ∷ b ∷ [])

abbrev pub if_term : Term → Term → Term → Term
if_term a b c = Call if_name (a ∷ b ∷ c ∷ [])

-- (and a b) is (if a b 'NIL), (or a b) is (if a a b)
abbrev pub and_term : Term → Term → Term
and_term a b = if_term a b nil_term

abbrev pub or_term : Term → Term → Term
or_term a b = if_term a a b

-- what the program joins terms by
abbrev pub join_of : Join → Term → Term → Term
join_of joins.And = and_term
join_of joins.Or = or_term
join_of joins.Plus = call_2 plus_name
join_of joins.Times = call_2 times_name
join_of joins.Cons = call_2 cons_name
join_of joins.Append = call_2 append_name

-- `last` stands behind the others, which are put in front of it from the right
abbrev pub chained : (Term → Term → Term) → List Term → Term → Term
chained join [] last = last
chained join (a ∷ us) last = join a (chained join us last)

-- none gives `empty`, one itself, more are joined from the right
abbrev pub joined : (Term → Term → Term) → Term → List Term → Term
joined join empty [] = empty
joined join empty (a ∷ []) = a
joined join empty (a ∷ b ∷ us) = join a (joined join empty (b ∷ us))

-- (+) is '0, (+ a) is (binary-+ '0 a); likewise with `*` and 1
abbrev pub summed : (Term → Term → Term) → Term → List Term → Term
summed join unit [] = unit
summed join unit (a ∷ []) = join unit a
summed join unit (a ∷ b ∷ us) = joined join unit (a ∷ b ∷ us)

-- what a macro's arguments make, where it takes one or two
abbrev pub built_few : Macro → List Term → Term
built_few m.Minus (a ∷ []) = call_1 minus_name a
built_few m.Minus (a ∷ b ∷ []) = call_2 plus_name a (call_1 minus_name b)
built_few m.Greater (a ∷ b ∷ []) = call_2 less_name b a
built_few m.AtMost (a ∷ b ∷ []) = call_1 not_name (call_2 less_name b a)
built_few m.AtLeast (a ∷ b ∷ []) = call_1 not_name (call_2 less_name a b)
built_few m.Differs (a ∷ b ∷ []) = call_1 not_name (call_2 equal_name a b)
built_few m.Increment (a ∷ []) = call_2 plus_name (integer_term (pos 1)) a
built_few m.Decrement (a ∷ []) = call_2 plus_name (integer_term (negsuc 0)) a
built_few m us = nil_term

-- and where it takes any number
abbrev pub built : Macro → List Term → Term
built m.And us = joined and_term t_term us
built m.Or us = joined or_term nil_term us
built m.Plus us = summed (call_2 plus_name) (integer_term (pos 0)) us
built m.Times us = summed (call_2 times_name) (integer_term (pos 1)) us
built m.List us = chained (call_2 cons_name) us nil_term
built m.ListStar us = joined (call_2 cons_name) nil_term us
built m.Append us = joined (call_2 append_name) nil_term us
built m us = built_few m us

-- nested `car` and `cdr`
abbrev pub turn_name : ℕ → Symbol
turn_name c = cond (c == 65) car_name cdr_name

abbrev pub accessed : List ℕ → Term → Term
accessed [] u = u
accessed (c ∷ cs) u = call_1 (turn_name c) (accessed cs u)

-- the term that is alone
abbrev pub only : List Term → Option Term
only (a ∷ []) = Some a
only us = None

abbrev pub plus_literal : ℤ → List Term → Term
plus_literal n us = unwrap_or (option_map (call_2 plus_name (integer_term n)) (only us)) nil_term

abbrev pub accessed_one : List ℕ → List Term → Term
accessed_one path us = unwrap_or (option_map (accessed path) (only us)) nil_term

-- what is made of terms
abbrev pub made : Maker → List Term → Term
made (makers.Macro m) us = built m us
made (makers.Literal n) us = plus_literal n us
made (makers.Path path) us = accessed_one path us
made (makers.Call s) us = Call s us

-- of so many
abbrev pub admits : Maker → ℕ → Bool
admits (makers.Macro m) n = fits m n
admits (makers.Literal k) n = nat_eq n 1
admits (makers.Path path) n = nat_eq n 1
admits (makers.Call s) n = true

-- the parts of a backquoted list: a part is one element, or a list that is spliced in
abbrev pub piece_term : Piece → Term → Term
piece_term x rest = cond x.spliced (call_2 append_name x.term rest) (call_2 cons_name x.term rest)

abbrev pub pieced : List Piece → Term
pieced [] = nil_term
pieced (x ∷ xs) = piece_term x (pieced xs)

-- the instances one after another, the last pair's first
abbrev pub instances : List (Symbol × Term) → Term → Term
instances [] u = u
instances (s ∷ ss) u = subst_of (s ∷ []) (instances ss u)
