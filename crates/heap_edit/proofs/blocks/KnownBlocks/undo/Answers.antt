use Rattle.std.proofs.Common.{◌≡◌, ℕ, List, refl, subst}
use Rattle.heap_edit.specs.Known.{AreKnown, Known, blocks_now}
use Rattle.heap_edit.proofs.KnownLaws.{undone}
use Rattle.heap_edit.proofs.blocks.KnownBlocks.undo.Goals as goal

pub returns : goal.returns
returns c =
    let new : Known = record { was = c.self.inside.was; known = c.self.inside.known; puts = c.new.result; len = c.self.inside.was } in
    subst (λ (e : Known). (old : List (List ℕ)) → AreKnown e old → AreKnown new old × (blocks_now new old ≡ old)) c.self.view_is
    (undone (record { was = c.self.inside.was; known = c.self.inside.known; puts = c.self.inside.puts; len = c.self.inside.len }) new refl refl c.new.ensures refl)
