-- Linear arithmetic is right: that which decides nothing, that of polynomials, and that of a world by its own rules.
use Rattle.std.proofs.Common.{◌≡◌, ℕ, true, true≢false, List, Option, Some, None, is_some, refl, sym}
use Rattle.ap_list.specs.Lists.{Each}
use Rattle.ap_world.specs.Meaning.{Env}
use Rattle.ap_poly.specs.Polynomials.{Polynomial}
use Rattle.ap_poly.specs.Elimination.{lin}
use Rattle.ap_poly.specs.Holding.{PolyHolds}
use Rattle.ap_poly.proofs.AtomsKnown.{literals_known, atoms_known}
use Rattle.ap_poly.proofs.BoundsHold.{bounds_hold}
use Rattle.ap_poly.proofs.Certified.{lin_certifies, certificates_refute}
use Rattle.ap_poly.proofs.LiteralsHold.{literals_hold}
use Rattle.ap_world.specs.World.{function_of}
use Rattle.ap_rules.specs.Linear.{linear_rules_in, LinearHolds}
use Rattle.ap_rules.proofs.LinearStands.{linear_rules_hold}
use Rattle.ap_rewrite.specs.Arithmetic.{is_usable}
use Rattle.ap_rewrite.specs.Laws.{NothingIsSound, PolynomialsAreSound, WorldsIsSound}
use Rattle.ap_rewrite.proofs.Indexing.{each_kept}

pub nothing_sound : NothingIsSound
nothing_sound D = record {
  literal = λ u s k e h. tt;
  literal_known = λ u s k. tt;
  atoms = λ ps ks. tt;
  bound = λ x m k e v is has. tt;
  refutes = λ ps h e hs. true≢false (sym h);
  rules = tt;
}

pub polynomials_sound : PolynomialsAreSound
polynomials_sound D total gs hold = record {
  literal = λ u s k e h. literals_hold D total e u s k h;
  literal_known = λ u s k. literals_known D u s k;
  atoms = λ ps ks. atoms_known D ps ks;
  bound = λ x m k e v is has. bounds_hold D x m e v is has;
  refutes = λ ps h e hs. found ps (lin ps) refl h e hs;
  rules = hold;
}
  where
    found : (ps : List Polynomial) (o : Option (List ℕ)) → lin ps ≡ o → is_some o ≡ true → (e : Env) → Each (PolyHolds D e) ps → ⊥
    found ps None q h e hs = true≢false (sym h)
    found ps (Some by) q h e hs = certificates_refute D total e ps by (lin_certifies ps by q) hs

pub worlds_sound : WorldsIsSound
worlds_sound w h sound ground =
    polynomials_sound (function_of w.entries) sound.total _
    (each_kept (LinearHolds (function_of w.entries)) (is_usable h) (linear_rules_in w.entries) (linear_rules_hold w.entries sound ground))
