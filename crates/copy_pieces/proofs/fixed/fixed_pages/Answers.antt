use Rattle.std.proofs.Common.{◌∙◌, ◌++◌, ℕ, List, take, sym, ap, subst}
use Rattle.std.proofs.lemmas.List.{take_at}
use Rattle.alloc_map.specs.Maps.{IsMapPage}
use Rattle.copy_pieces.proofs.fixed.fixed_pages.Goals as goal

pub returns-clause-maps : goal.returns-clause-maps
returns-clause-maps c =
    let more = c.in_ok-push_further.ensures in
    let map = c.map_page.ensures.map in
    let front = ap (take 512) (more.1 ∙ ap (λ (l : List ℕ). l ++ more.0) c.in_ok-bytes.ensures.items) ∙ take_at c.map_page.result more.0 512 map.sealed.0 in
    subst (IsMapPage c.args.slots.now c.args.r) (sym front) map
