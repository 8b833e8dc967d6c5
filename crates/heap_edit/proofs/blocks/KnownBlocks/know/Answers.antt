use Rattle.std.proofs.Common.{◌≡◌, List, ℕ, Some, refl, slice_get, subst}
use Rattle.std.proofs.lemmas.Result.{on_ok_weaker}
use Rattle.heap_edit.specs.Edits.{PutsOne}
use Rattle.heap_edit.specs.Known.{AreKnown, Known}
use Rattle.heap_edit.proofs.KnownLaws.{knows-more}
use Rattle.heap_edit.proofs.blocks.KnownBlocks.know.Goals as goal

pub returns-clause-known : goal.returns-clause-known
returns-clause-known c =
    let was : Known = record { was = c.self.inside.was; known = c.self.inside.known; puts = c.self.inside.puts; len = c.self.inside.len } in
    let new : Known = record { was = c.self.inside.was; known = c.put.new.self; puts = c.self.inside.puts; len = c.self.inside.len } in
    let more : PutsOne c.args.position c.args.block c.self.inside.known c.put.new.self → (old : List (List ℕ)) → AreKnown c.args.self.now old → slice_get old c.args.position ≡ Some c.args.block → AreKnown new old = λ puts.
    subst (λ (e : Known). (old : List (List ℕ)) → AreKnown e old → slice_get old c.args.position ≡ Some c.args.block → AreKnown new old) c.self.view_is (knows-more was new c.args.position c.args.block refl puts) in
    on_ok_weaker c.put.result more c.put.ensures.ok
