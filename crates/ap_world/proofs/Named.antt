-- A table by names of package ACL2 is one by the names' bytes, and no keyword is in it.
use Rattle.std.proofs.Common.{◌≡◌, ℕ, Bool, true, false, cond, List, [], ◌∷◌, map, Option, Some, None, refl, ap, sym, subst}
use Rattle.ap_list.specs.Lists.{lookup_by}
use Rattle.ap_value.specs.declared.symbol.Symbol.{Symbol}
use Rattle.ap_value.specs.Values.{bytes_eq, symbol_eq, acl2}

module _ {A : Type 0} (name : A → List ℕ) (mask : A → ℕ) where
  -- what stands beside a symbol of this package and name, and beside the bytes
  abbrev by_symbol : List A → Bool → List ℕ → Option ℕ
  by_symbol ps k xs = lookup_by symbol_eq (map (λ p. (acl2 (name p), mask p)) ps) (record { keyword = k; name = xs })

  abbrev by_bytes : List A → List ℕ → Option ℕ
  by_bytes ps xs = lookup_by bytes_eq (map (λ p. (name p, mask p)) ps) xs

  none : (ps : List A) (xs : List ℕ) → by_symbol ps true xs ≡ None
  none [] xs = refl
  none (p ∷ ps) xs = none ps xs

  same : (ps : List A) (xs : List ℕ) → by_symbol ps false xs ≡ by_bytes ps xs
  same [] xs = refl
  same (p ∷ ps) xs = ap (cond (bytes_eq xs (name p)) (Some (mask p))) (same ps xs)

  pub no_keyword : (ps : List A) (s : Symbol) → s.keyword ≡ true → by_symbol ps s.keyword s.name ≡ None
  no_keyword ps s h = subst (λ k. by_symbol ps k s.name ≡ None) (sym h) (none ps s.name)

  pub found_by_bytes : (ps : List A) (s : Symbol) → s.keyword ≡ false → by_symbol ps s.keyword s.name ≡ by_bytes ps s.name
  found_by_bytes ps s h = subst (λ k. by_symbol ps k s.name ≡ by_bytes ps s.name) (sym h) (same ps s.name)
