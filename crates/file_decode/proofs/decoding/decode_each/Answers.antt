use Rattle.std.proofs.Common.{◌≡◌, ◌∙◌, ◌<◌, ℕ, List, [], length, drop, get_or, ap, sym, arith}
use Rattle.std.proofs.lemmas.List.{drop_all}
use Rattle.pst_outside.specs.World.{after_write}
use Rattle.file_blocks.specs.Blocks.{file_of}
use Rattle.file_decode.specs.Decoding.{bytes_at, decoded_block, with_blocks}
use Rattle.file_decode.proofs.BlockLaws.{copy-data, copy-none, count-data, count-none, holds-data, holds-none, no_block, placed-here, same-file, stands-here}
use Rattle.file_decode.proofs.CopyLaws.{none-left}
use Rattle.copy_part.proofs.Keeping.{keeps_along}
use Rattle.file_decode.proofs.decoding.decode_each.Goals.{then-not-internal+in_ok-decode_block, else-not-internal}
use Rattle.file_decode.proofs.decoding.decode_each.Goals as goal

pub returns-in_err-decode_block-clause-keeps : goal.returns-in_err-decode_block-clause-keeps
returns-in_err-decode_block-clause-keeps g c = keeps_along c.loop-entry.invariant.keeps c.in_err-decode_block.ensures.keeps

pub loop-entry-preserved : goal.loop-entry-preserved
loop-entry-preserved g c =
    let inv = c.loop-entry.invariant in
    let i = c.loop-entry.entry-index in
    let blocks = c.args.blocks.now in
    let eof = c.args.eof in
    let test = c.loop-entry-test.true in
    let within : i < length blocks = omega (arith, test) in
    let old = g.W.Outside.view c.args.w.now in
    let file : List ℕ = file_of old.here in
    let few = inv.few in
    elim c.if-not-internal.branch [
      | then-not-internal+in_ok-decode_block w ↦
          let keeps = w.in_ok-decode_block.ensures.keeps in
          let is = holds-data (get_or blocks i no_block) w.if-not-internal.ensures in
          rw (w.w-is, w.count-is) (record {
            keeps = keeps_along inv.keeps keeps;
            placed = (placed-here eof blocks i within inv.placed).1;
            stand = λ told. (stands-here file eof blocks i within (inv.stand told)).1;
            few = omega (arith, few);
            count = count-data blocks i within c.loop-entry.count is inv.count;
            copy = λ told.
                let before = keeps.told told in
                let there = same-file (inv.keeps.same before) in
                copy-data blocks i within c.args.method file _ _ _ is
                (w.in_ok-decode_block.ensures.copy told ∙ ap (λ (f : List ℕ). after_write (g.W.Outside.view c.loop-entry.w).here.copy (get_or blocks i no_block).at.ib (decoded_block c.args.method (get_or blocks i no_block) (bytes_at (get_or blocks i no_block) f))) there)
                (inv.copy before);
          })
      | else-not-internal w ↦
          let is = holds-none (get_or blocks i no_block) w.if-not-internal.ensures in
          rw (w.w-is, w.count-is) (record {
            keeps = inv.keeps;
            placed = (placed-here eof blocks i within inv.placed).1;
            stand = λ told. (stands-here file eof blocks i within (inv.stand told)).1;
            few = omega (arith, few);
            count = count-none blocks i within c.loop-entry.count is inv.count;
            copy = λ told. copy-none blocks i within c.args.method file _ _ is (inv.copy told);
          })
    ]

pub returns-clause-copy : goal.returns-clause-copy
returns-clause-copy g c = λ told.
    let test = c.loop-entry-test.false in
    let old = g.W.Outside.view c.args.w.now in
    let file : List ℕ = file_of old.here in
    let blocks = c.args.blocks.now in
    let i = c.loop-entry.entry-index in
    let end : drop i blocks ≡ [] = drop_all i blocks (omega (arith, test)) in
    let copy = (g.W.Outside.view c.loop-entry.w).here.copy in
    sym (ap (λ (l : List _). with_blocks c.args.method file l copy) end ∙ none-left c.args.method file copy) ∙ c.loop-entry.invariant.copy told
