use Rattle.std.proofs.Common.{◌≡◌, ◌*◌, ◌%◌, ◌^◌, take, fold}
use lib.Bits.{bit_xor}
use Rattle.ap_rewrite.proofs.table.FoldedHasher.write.Given as goal

-- the bytes so far are folded in
abbrev pub invariant-loop-b : goal.invariant-loop-b
invariant-loop-b l = l.self.0 ≡ fold (λ h b. (bit_xor h b * 0x100000001b3) % 2 ^ 64) l.initial.self.0 (take l.b-index l.bytes)
