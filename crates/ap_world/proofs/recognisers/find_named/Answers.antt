use Rattle.std.proofs.Common.{◌∙◌, sym, ap, ℕ, List, map, Bor}
use Rattle.ap_list.specs.Lists.{lookup_by}
use Rattle.ap_value.specs.Values.{bytes_eq}
use Rattle.ap_world.proofs.Named.{no_keyword, found_by_bytes}
use Rattle.ap_world.proofs.recognisers.find_named.Goals as goal

pub returns-then-symbol : goal.returns-then-symbol
returns-then-symbol c = sym (no_keyword (λ (p : Bor (List ℕ) × ℕ). p.0.now) (λ (p : Bor (List ℕ) × ℕ). p.1) c.args.table.now c.args.symbol.now c.if-symbol.true)

pub returns : goal.returns
returns c =
    c.find_bytes.ensures
    ∙ ap (λ xs. lookup_by bytes_eq (map (λ p. (p.0.now, p.1)) c.args.table.now) xs) c.as_slice.ensures
    ∙ sym (found_by_bytes (λ (p : Bor (List ℕ) × ℕ). p.0.now) (λ (p : Bor (List ℕ) × ℕ). p.1) c.args.table.now c.args.symbol.now c.if-symbol.false)
