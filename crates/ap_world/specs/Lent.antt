-- What is lent of a term's shape, and what a head is, as the program has it.
use Rattle.ap_term.specs.declared.term.Term.{Term}
use Rattle.ap_world.specs.Shapes.{Shape, constant, choice, negation, equation, pair, other, Head, if_head, not_head, equal_head, cons_head, other_head}
use Rattle.ap_world.specs.declared.shapes.Head.{Head as Owned}
use Rattle.ap_world.specs.declared.shapes.Head.TheVariants as head
use Rattle.ap_world.specs.declared.shapes.ShapeRef.{ShapeRef}
use Rattle.ap_world.specs.declared.shapes.ShapeRef.TheVariants as lent

-- a head
abbrev pub seen_head : Owned → Head
seen_head head.If = if_head
seen_head head.Not = not_head
seen_head head.Equal = equal_head
seen_head head.Cons = cons_head
seen_head head.Other = other_head

-- the shape that is lent
abbrev pub seen : ShapeRef → Shape Term
seen (lent.Constant v) = constant v.now
seen (lent.If a b c) = choice a.now b.now c.now
seen (lent.Not a) = negation a.now
seen (lent.Equal a b) = equation a.now b.now
seen (lent.Cons a b) = pair a.now b.now
seen lent.Other = other
