-- A term by which a bank's number is found: equality is that of terms, and what is hashed is the number that they keep.
use Rattle.std.specs.Prelude.{Bool}
use Rattle.std.specs.Hash as fed
use Rattle.std.specs.Hash.{HashWrites}
use Rattle.ap_term.specs.Equal.{term_eq}
use Rattle.ap_term.specs.Hashes.{term_hash}
use Rattle.ap_bank.specs.declared.whole.Whole.{Whole}

abbrev pub whole_eq : Whole → Whole → Bool
whole_eq a b = term_eq a.term b.term

abbrev pub whole_writes : Whole → HashWrites
whole_writes w = fed.u64 (term_hash w.term)
