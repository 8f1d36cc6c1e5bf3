-- What is looked up among earlier books, and what is put into a world.
use Rattle.std.proofs.Common.{◌≡◌, ℕ, Bool, true, false, cond, List, [], ◌∷◌, ◌++◌, Some, refl, subst}
use Rattle.std.proofs.lemmas.Option.{none-some, same_Some}
use Rattle.ap_list.specs.Lists.{Each, lookup_by}
use Rattle.ap_value.specs.Values.{bytes_eq}
use Rattle.ap_world.specs.World.{Shown}
use Rattle.ap_plain.specs.declared.proposing.Proposal.{Proposal}
use Rattle.ap_plain.specs.Proposals.{entry_in, put}
use Rattle.ap_events.specs.Books.{Earlier}

-- what holds of each book's world holds of the one that is found
pub found_book : (P : Shown → Type 0) (earlier : Earlier) (n : List ℕ) (k : Shown) → Each (λ p. P p.1) earlier → lookup_by bytes_eq earlier n ≡ Some k → P k
found_book P [] n k ps h = absurd (none-some k h)
found_book P (p ∷ earlier) n k ps h = go (bytes_eq n p.0) h (λ q. found_book P earlier n k ps.1 q)
  where
    go : (b : Bool) → cond b (Some p.1) (lookup_by bytes_eq earlier n) ≡ Some k → (lookup_by bytes_eq earlier n ≡ Some k → P k) → P k
    go true q rest = subst P (same_Some p.1 k q) ps.0
    go false q rest = rest q

pub put_entries : (enabled : Bool) (w : Shown) (p : Proposal) → (put enabled w p).entries ≡ w.entries ++ entry_in w p ∷ []
put_entries true w p = refl
put_entries false w p = refl
