-- The hash under which a memo's table has a number.
use Rattle.std.specs.Prelude.{ℕ, ◌*◌, ◌%◌, ◌^◌, List, fold, bit_xor}
use Rattle.ap_rewrite.specs.declared.table.Folded.{Folded}

-- a round for each byte, as in FNV-1a
abbrev pub folded : Folded → List ℕ → Folded
folded s bytes = record { 0 = fold (λ h b. (bit_xor h b * 0x100000001b3) % 2 ^ 64) s.0 bytes }
