use Rattle.std.proofs.Common.{rules, ◌≡◌, ℕ, None, Some, take, drop, refl, sym, ap, ◌∙◌, arith}
use Rattle.pst_base.specs.Ids.{key_of}
use Rattle.pst_outside.specs.World.{Image}
use Rattle.file_blocks.specs.Blocks.{data_at, data_of, entry_key, file_of}
use Rattle.file_blocks.proofs.EntryLaws.{stands-with}
use Rattle.file_blocks.proofs.StandLaws.{content-is, never-both, stop-is, tells-still}
use Rattle.file_layout.proofs.Underway.{untouched_then}
use Rattle.tree_edit.specs.Edits.{entry_with}
use Rattle.file_pages.proofs.SourceLaws.{caches-still}
use Rattle.node_store.proofs.BlockLaws.{entry-same, tells-on}
use Rattle.node_store.proofs.blocks.TreeBlocksBlockSource.block.Goals as goal

pub returns-in-Ok-None-clause-later : goal.returns-in-Ok-None-clause-later
returns-in-Ok-None-clause-later g c =
    let same = c.entry_at.ensures.same in
    record { fails = same.counts.disk_faults; changes = omega arith; eof = refl; told = tells-on same c.entry_at.ensures.caches; since = λ first s. (s.0, s.1, s.2, untouched_then s.3 same) }

pub returns-in-Err-clause-later : goal.returns-in-Err-clause-later
returns-in-Err-clause-later g c =
    let same = c.entry_at.ensures.same in
    let more = c.saturating_add-self.ensures in
    let most = c.args.self.now.changes in
    record { fails = same.counts.disk_faults; changes = search (rules, arith); eof = refl; told = tells-on same c.entry_at.ensures.caches; since = λ first s. (s.0, s.1, s.2, untouched_then s.3 same) }

pub returns-in-Ok-clause-later : goal.returns-in-Ok-clause-later
returns-in-Ok-clause-later g c =
    let same = untouched_then c.entry_at.ensures.same c.read_block.ensures.same in
    record { fails = same.counts.disk_faults; changes = omega arith; eof = refl; told = tells-on same (λ caches. caches-still c.read_block.ensures.same (c.entry_at.ensures.caches caches)); since = λ first s. (s.0, s.1, s.2, untouched_then s.3 same) }

pub returns-in-Err-Memory-clause-later : goal.returns-in-Err-Memory-clause-later
returns-in-Err-Memory-clause-later g c =
    let same = untouched_then c.entry_at.ensures.same c.read_block.ensures.same in
    record { fails = same.counts.disk_faults; changes = omega arith; eof = refl; told = tells-on same (λ caches. caches-still c.read_block.ensures.same (c.entry_at.ensures.caches caches)); since = λ first s. (s.0, s.1, s.2, untouched_then s.3 same) }

pub returns-in-Err-Refused-Failed-clause-later : goal.returns-in-Err-Refused-Failed-clause-later
returns-in-Err-Refused-Failed-clause-later g c =
    let same = untouched_then c.entry_at.ensures.same c.read_block.ensures.same in
    record { fails = same.counts.disk_faults; changes = omega arith; eof = refl; told = tells-on same (λ caches. caches-still c.read_block.ensures.same (c.entry_at.ensures.caches caches)); since = λ first s. (s.0, s.1, s.2, untouched_then s.3 same) }

pub returns-in-Err-Refused-Refused-clause-later : goal.returns-in-Err-Refused-Refused-clause-later
returns-in-Err-Refused-Refused-clause-later g c =
    let same = untouched_then c.entry_at.ensures.same c.read_block.ensures.same in
    let more = c.saturating_add-self-in-Err-Refused-Refused.ensures in
    record { fails = same.counts.disk_faults; changes = search (rules, arith); eof = refl; told = tells-on same (λ caches. caches-still c.read_block.ensures.same (c.entry_at.ensures.caches caches)); since = λ first s. (s.0, s.1, s.2, untouched_then s.3 same) }

pub returns-in-Ok-None-clause-found : goal.returns-in-Ok-None-clause-found
returns-in-Ok-None-clause-found g c = λ find h.
    let old = g.W.Outside.view c.args.self.now.world.now in
    let key = key_of c.args.bid.bits in
    let here : None ≡ entry_with entry_key key h.entries = sym c.in-Ok-None.field-0-is ∙ c.in-Ok-None.ensures.found h.caches h.entries h.has_tree ∙ ap (λ (k : ℕ). entry_with entry_key k h.entries) c.key.ensures in
    sym (h.found key ∙ ap (data_of (file_of old.here)) (sym (entry-same key h.entries) ∙ sym here))

pub returns-in-Ok-clause-found : goal.returns-in-Ok-clause-found
returns-in-Ok-clause-found g c = λ find h.
    let old = g.W.Outside.view c.args.self.now.world.now in
    let same = untouched_then c.entry_at.ensures.same c.read_block.ensures.same in
    let key = key_of c.args.bid.bits in
    let entry = c.in-Ok-Some.entry in
    let told = tells-still same h.caches.told in
    let here : Some entry ≡ entry_with entry_key key h.entries = sym c.in-Ok-Some.field-0-is ∙ c.in-Ok-Some.ensures.found h.caches h.entries h.has_tree ∙ ap (λ (k : ℕ). entry_with entry_key k h.entries) c.key.ensures in
    let content = content-is _ c.args.self.now.tree.eof entry c.in-Ok.data (c.in-Ok.ensures.content told) in
    let file = ap (λ (i : Image). take entry.cb (drop entry.at.ib (file_of i))) (same.stays.here told.tells) in
    sym (h.found key ∙ ap (data_of (file_of old.here)) (sym (entry-same key h.entries) ∙ sym here) ∙ ap Some (sym (content ∙ file)))

pub returns-in-Err-Refused-Refused-clause-stopped : goal.returns-in-Err-Refused-Refused-clause-stopped
returns-in-Err-Refused-Refused-clause-stopped g c =
    let p = c.changed.ensures in
    let more = c.saturating_add-self-in-Err-Refused-Refused.ensures in
    rw p.2 (
      omega (arith, more),
      λ find h.
          let old = g.W.Outside.view c.args.self.now.world.now in
          let same = untouched_then c.entry_at.ensures.same c.read_block.ensures.same in
          let key = key_of c.args.bid.bits in
          let entry = c.in-Ok-Some.entry in
          let told = tells-still same h.caches.told in
          let here : Some entry ≡ entry_with entry_key key h.entries = sym c.in-Ok-Some.field-0-is ∙ c.in-Ok-Some.ensures.found h.caches h.entries h.has_tree ∙ ap (λ (k : ℕ). entry_with entry_key k h.entries) c.key.ensures in
          let stands = stands-with (file_of old.here) c.args.self.now.tree.eof key h.entries entry h.stand (sym (entry-same key h.entries) ∙ sym here) in
          let file = ap (λ (i : Image). data_at (file_of i) c.args.self.now.tree.eof entry) (same.stays.here told.tells) in
          never-both _ stands.0 c.in-Err-Refused-Refused.refusal (file ∙ stands.1) (stop-is _ _ _ _ c.in-Err-Refused-Refused.field-0-is c.in-Err-Refused-Refused.field-0-0-is (c.in-Err-Refused-Refused.ensures.refused told)),
    )
