-- What gives parts, where some more may be nested.
use Rattle.std.proofs.Common.{◌≡◌, ◌≢◌, ℕ, ◌+◌, ◌-◌, List, Some, None, zero, suc, refl, ap, sym, arith}
use Rattle.ap_world.specs.declared.entry.Entry.{Entry}
use Rattle.ap_translate.specs.Quoted.{constants, constant_in}
use Rattle.ap_translate.specs.Table.{readers, level}

pub constants_none : (n : ℕ) → n ≡ 0 → constants n ≡ None
unfolding constants
constants_none zero e = refl
constants_none (suc n) e = absurd (omega arith)

pub constants_some : (n : ℕ) → n ≢ 0 → constants n ≡ Some (λ f. constant_in (n - 1) f)
unfolding constants
constants_some zero e = absurd (e refl)
constants_some (suc n) e = let h : suc n - 1 ≡ n = omega arith in ap (λ k. Some (λ f. constant_in k f)) (sym h)

pub ruleset nestings = (constants_none, constants_some)

pub readers_none : (W : List Entry) (n : ℕ) → n ≡ 0 → readers W n ≡ None
unfolding readers
readers_none W zero e = refl
readers_none W (suc n) e = absurd (omega arith)

pub readers_some : (W : List Entry) (n m : ℕ) → n ≡ m + 1 → readers W n ≡ Some (level W m)
unfolding readers
readers_some W zero m e = absurd (omega arith)
readers_some W (suc n) m e = let h : n ≡ m = omega arith in ap (λ k. Some (level W k)) h
