use Rattle.std.proofs.Common.{◌≡◌, ◌<◌, ◌∙◌, ◌*◌, Bool, List, ℕ, ap, get_or, length, take, drop, arith, rules}
use Rattle.alloc_map.proofs.MapLaws.{map_body}
use Rattle.alloc_map.proofs.slots.Slots.map_page.Goals as goal

pub returns-clause-only : goal.returns-clause-only
returns-clause-only c = λ page map range.
    let body = c.region-body.result in
    let len : length body ≡ 496 = omega arith in
    let small : (i : ℕ) → get_or body i 0 < 256 = λ i. search (rules, c.region-body.type_inv) in
    let bits = c.region-body.ensures ∙ ap (λ (used : List Bool). take 3968 (drop (3968 * c.args.r) used)) (c.bits.ensures ∙ c.self.view_is) in
    c.seal.ensures.only page (rw c.start_of-ib.ensures (map_body c.args.self.now c.args.r body page len small bits map range)) range
