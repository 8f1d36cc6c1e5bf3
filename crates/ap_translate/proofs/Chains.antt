-- What stands last may be joined first.
use Rattle.std.proofs.Common.{◌≡◌, List, [], ◌∷◌, ◌++◌, refl, ap}
use Rattle.ap_term.specs.declared.term.Term.{Term}
use Rattle.ap_translate.specs.declared.arms.Arm.{Arm}
use Rattle.ap_translate.specs.declared.build.Piece.{Piece}
use Rattle.ap_translate.specs.Kept.{armed, arms_before}
use Rattle.ap_translate.specs.Rows.{nil_term, chained, joined, summed, piece_term, pieced}

pub chained_last : (join : Term → Term → Term) (us : List Term) (u e : Term) → chained join (us ++ u ∷ []) e ≡ chained join us (join u e)
chained_last join [] u e = refl
chained_last join (a ∷ us) u e = ap (join a) (chained_last join us u e)

pub joined_last : (join : Term → Term → Term) (e : Term) (us : List Term) (u : Term) → joined join e (us ++ u ∷ []) ≡ chained join us u
joined_last join e [] u = refl
joined_last join e (a ∷ []) u = refl
joined_last join e (a ∷ b ∷ us) u = ap (join a) (joined_last join e (b ∷ us) u)

-- a sum of more than one
pub summed_more : (join : Term → Term → Term) (e a : Term) (us : List Term) (u : Term) → summed join e ((a ∷ us) ++ u ∷ []) ≡ chained join (a ∷ us) u
summed_more join e a [] u = refl
summed_more join e a (b ∷ us) u = joined_last join e (a ∷ b ∷ us) u

-- parts in front of a last term
abbrev pub pieces_onto : List Piece → Term → Term
pieces_onto [] u = u
pieces_onto (x ∷ xs) u = piece_term x (pieces_onto xs u)

pub pieces_last : (xs : List Piece) (x : Piece) (u : Term) → pieces_onto (xs ++ x ∷ []) u ≡ pieces_onto xs (piece_term x u)
pieces_last [] x u = refl
pieces_last (y ∷ xs) x u = ap (piece_term y) (pieces_last xs x u)

pub pieces_all : (xs : List Piece) → pieces_onto xs nil_term ≡ pieced xs
pieces_all [] = refl
pieces_all (x ∷ xs) = ap (piece_term x) (pieces_all xs)

-- by what stands before the last
abbrev pub by_front : (Term → Term → Term) → Term → List Term → Term → Term
by_front join e [] u = join e u
by_front join e (a ∷ us) u = chained join (a ∷ us) u

pub summed_last : (join : Term → Term → Term) (e : Term) (us : List Term) (u : Term) → summed join e (us ++ u ∷ []) ≡ by_front join e us u
summed_last join e [] u = refl
summed_last join e (a ∷ us) u = summed_more join e a us u

pub arms_last : (xs : List Arm) (x : Arm) (u : Term) → arms_before (xs ++ x ∷ []) u ≡ arms_before xs (armed x u)
arms_last [] x u = refl
arms_last (y ∷ xs) x u = ap (armed y) (arms_last xs x u)
