use Rattle.std.proofs.Common.{rules, ◌≡◌, ◌↔◌, IsTrue, ◌&&◌, nat_eq, true, sym, ap, ◌∙◌, take}
use Rattle.ap_list.specs.Rooms.{word}
use Rattle.ap_list.proofs.Words.{same_room, one_room}
use Rattle.ap_list.proofs.text.Short.same.Goals as goal

pub returns : goal.returns
returns c =
    let a = c.self.inside in
    let b = c.other.inside in
    let low_a = c.word.ensures in
    let low_b = c.word-2.ensures in
    let high_a = c.word-3.ensures in
    let high_b = c.word-4.ensures in
    let told : IsTrue (nat_eq a.length b.length && nat_eq c.word.result c.word-2.result && nat_eq c.word-3.result c.word-4.result)
    → (a.length ≡ b.length) × (c.word.result ≡ c.word-2.result) × (c.word-3.result ≡ c.word-4.result) = search rules in
    let tells : (a.length ≡ b.length) × (c.word.result ≡ c.word-2.result) × (c.word-3.result ≡ c.word-4.result)
    → IsTrue (nat_eq a.length b.length && nat_eq c.word.result c.word-2.result && nat_eq c.word-3.result c.word-4.result) = search rules in (
      (λ t.
          let h = told t in
          let room : a.bytes ≡ b.bytes = same_room a.bytes b.bytes low_a.small low_b.small low_a.room low_b.room
          (sym low_a.value ∙ h.1 ∙ low_b.value) (sym high_a.value ∙ h.2 ∙ high_b.value) in
          sym c.self.view_is ∙ ap (λ n. take n a.bytes) h.0 ∙ ap (take b.length) room ∙ c.other.view_is),
      (λ e.
          let one = one_room a.bytes b.bytes a.length b.length c.self.invariant c.other.invariant low_a.room low_b.room
          (c.self.view_is ∙ e ∙ sym c.other.view_is) in
          tells (one.0, low_a.value ∙ ap (λ r. word r 0) one.1 ∙ sym low_b.value, high_a.value ∙ ap (λ r. word r 7) one.1 ∙ sym high_b.value)),
    )
