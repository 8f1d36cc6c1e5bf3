-- The reader of parts, where some more may be nested.
use Rattle.std.proofs.Common.{◌≡◌, ◌≢◌, ℕ, ◌-◌, Some, None, zero, suc, refl, ap, sym, arith}
use Rattle.ap_reader.specs.Reading.{reader_of, form_of}

pub reader_none : (n : ℕ) → n ≡ 0 → reader_of n ≡ None
unfolding reader_of
reader_none zero e = refl
reader_none (suc n) e = absurd (omega arith)

pub reader_some : (n : ℕ) → n ≢ 0 → reader_of n ≡ Some (λ s a. form_of (n - 1) s a)
unfolding reader_of
reader_some zero e = absurd (e refl)
reader_some (suc n) e = let h : suc n - 1 ≡ n = omega arith in ap (λ k. Some (λ s a. form_of k s a)) (sym h)

pub ruleset readers = (reader_none, reader_some)
