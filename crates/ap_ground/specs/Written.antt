-- The terms that a row of the table writes: Lisp without its parentheses, each head with the number of its
-- arguments.
use Rattle.std.specs.Prelude.{pos, List, [], ◌∷◌}
use Rattle.ap_value.specs.declared.value.Value.TheVariants.{Int, Sym}
use Rattle.ap_value.specs.Values.{acl2}
use Rattle.ap_term.specs.declared.term.Term.{Term, Var, Quote, Call}
use Rattle.ap_ground.specs.declared.written.Word.{Word}
use Rattle.ap_ground.specs.declared.written.Word.TheVariants as word

-- the first of the terms that are written further on, or 0 where none is, and those after it
abbrev pub first_of : List Term → Term
first_of [] = Quote (Int (pos 0))
first_of (u ∷ us) = u

abbrev pub after_first : List Term → List Term
after_first [] = []
after_first (u ∷ us) = us

-- a word before the terms that are written after it
abbrev pub with_word : Word → List Term → List Term
with_word (word.Var x) us = Var (acl2 x.now) ∷ us
with_word (word.Int n) us = Quote (Int n) ∷ us
with_word (word.Sym s) us = Quote (Sym (acl2 s.now)) ∷ us
with_word (word.One f) us = Call (acl2 f.now) (first_of us ∷ []) ∷ after_first us
with_word (word.Two f) us = Call (acl2 f.now) (first_of us ∷ first_of (after_first us) ∷ []) ∷ after_first (after_first us)
with_word (word.Three f) us = Call (acl2 f.now) (first_of us ∷ first_of (after_first us) ∷ first_of (after_first (after_first us)) ∷ []) ∷ after_first (after_first (after_first us))

abbrev pub terms_of : List Word → List Term
terms_of [] = []
terms_of (w ∷ ws) = with_word w (terms_of ws)

-- the term that the words write
abbrev pub term_of : List Word → Term
term_of ws = first_of (terms_of ws)
