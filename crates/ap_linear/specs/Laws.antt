-- The laws of the test that there is no certificate.
use Rattle.std.specs.Prelude.{◌≡◌, ℕ, Bool, true, List, None}
use Rattle.ap_poly.specs.Polynomials.{Polynomial}
use Rattle.ap_poly.specs.Elimination.{lin}
use Rattle.ap_poly.specs.Holding.{IsCertificate}
use Rattle.ap_linear.specs.OneSign.{is_hopeless, none_negative, NoCertificate, chosen, StruckIn, UnusedIn}

-- in each certificate those with an atom of one sign have the multiplier 0
abbrev pub LoneAreUnused : Type 0
LoneAreUnused = (ps : List Polynomial) (by : List ℕ) → IsCertificate ps by → UnusedIn ps by ps

-- some of them may be struck: where what is left has no certificate, the whole has none
abbrev pub StrikingIsSafe : Type 0
StrikingIsSafe = (bs : List Bool) (ps : List Polynomial) → StruckIn ps bs ps → NoCertificate (chosen bs ps) → NoCertificate ps

-- without a negative constant there is none
abbrev pub NoneNegative : Type 0
NoneNegative = (ps : List Polynomial) → none_negative ps ≡ true → NoCertificate ps

-- what has none isn't refuted
abbrev pub NoneFound : Type 0
NoneFound = (ps : List Polynomial) → NoCertificate ps → lin ps ≡ None

-- the whole test, after any number of rounds
abbrev pub HopelessIsNone : Type 0
HopelessIsNone = (n : ℕ) (ps : List Polynomial) → is_hopeless n ps ≡ true → lin ps ≡ None
