use Rattle.std.proofs.Common.{arith, refl}
use Rattle.ap_names.proofs.Parts.{false_true, read_few, read_many}
use Rattle.ap_names.proofs.parsing.primes.Goals as goal
use Rattle.ap_names.proofs.parsing.primes.Goals.{else-len-lt4-via-then-len-lt4+else-is_same, else-len-lt4-via-else-len-lt4}

pub returns-then-is_same : goal.returns-then-is_same
returns-then-is_same c = read_few c.args.text.now c.if-len-lt4.true (c.if-is_same.ensures.0 refl)

pub returns : goal.returns
returns c =
    read_many c.args.text.now
    (elim c.else-len-lt4.branch [ else-len-lt4-via-then-len-lt4+else-is_same w ↦ (λ h e. false_true (w.if-is_same.ensures.1 e)) | else-len-lt4-via-else-len-lt4 w ↦ (λ h e. omega (arith, h, w.if-len-lt4.false)) ])
    c.counted_primes.result c.counted_primes.ensures
