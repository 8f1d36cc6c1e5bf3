-- What contracts see of a term's outside.
use Rattle.ap_term.specs.declared.term.Term.{Term, Var, Quote, Call}
use Rattle.ap_term.specs.declared.shape.Shape.{Shape}
use Rattle.ap_term.specs.declared.shape.Shape.TheVariants as shape

abbrev pub plain_of : Shape → Term
plain_of (shape.Var x) = Var x
plain_of (shape.Quote v) = Quote v
plain_of (shape.Call f ts) = Call f ts
