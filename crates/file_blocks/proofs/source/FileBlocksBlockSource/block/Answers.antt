use Rattle.std.proofs.Common.{◌≡◌, Some, take, drop, sym, ap, ◌∙◌, arith}
use Rattle.pst_base.specs.Ids.{key_of}
use Rattle.pst_outside.specs.World.{Image}
use Rattle.file_blocks.specs.Blocks.{file_of, data_at, data_of, entry_with}
use Rattle.file_blocks.proofs.EntryLaws.{stands-with}
use Rattle.file_blocks.proofs.StandLaws.{content-is, tells-still, never-both, stop-is}
use Rattle.file_blocks.proofs.source.FileBlocksBlockSource.block.Goals as goal

pub returns-in-Ok-clause-found : goal.returns-in-Ok-clause-found
returns-in-Ok-clause-found g c = λ find holds.
    let old = g.W.Outside.view c.args.self.now.world.now in
    let same = c.in-Ok.ensures.same in
    let key = key_of c.args.bid.bits in
    let entry = c.in-Some.entry in
    let told = tells-still same holds.told in
    let here : entry_with key c.args.self.now.entries.now ≡ Some entry = sym (c.find_entry.ensures holds.ascend) ∙ c.in-Some.is in
    let content = content-is _ c.args.self.now.eof entry c.in-Ok.data (c.in-Ok.ensures.content told) in
    let file = ap (λ (i : Image). take entry.cb (drop entry.at.ib (file_of i))) (same.stays.here told.tells) in
    sym (holds.found key ∙ ap (data_of (file_of old.here)) here ∙ ap Some (sym (content ∙ file)))

pub returns-in-Err-Refused-Refused-clause-stopped : goal.returns-in-Err-Refused-Refused-clause-stopped
returns-in-Err-Refused-Refused-clause-stopped g c =
    let p = c.changed.ensures in
    let more = c.saturating_add-self.ensures in
    rw p.2 (
      omega (arith, more),
      λ find holds.
          let old = g.W.Outside.view c.args.self.now.world.now in
          let same = c.in-Err-Refused-Refused.ensures.same in
          let entry = c.in-Some.entry in
          let told = tells-still same holds.told in
          let here : entry_with (key_of c.args.bid.bits) c.args.self.now.entries.now ≡ Some entry = sym (c.find_entry.ensures holds.ascend) ∙ c.in-Some.is in
          let stands = stands-with (file_of old.here) c.args.self.now.eof (key_of c.args.bid.bits) c.args.self.now.entries.now entry holds.stand here in
          let file = ap (λ (i : Image). data_at (file_of i) c.args.self.now.eof entry) (same.stays.here told.tells) in
          never-both _ stands.0 c.in-Err-Refused-Refused.refusal (file ∙ stands.1) (stop-is _ _ _ _ c.in-Err-Refused-Refused.field-0-is c.in-Err-Refused-Refused.field-0-0-is (c.in-Err-Refused-Refused.ensures.refused told)),
    )
