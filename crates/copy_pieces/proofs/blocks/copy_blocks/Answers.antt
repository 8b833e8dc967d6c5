use Rattle.std.proofs.Common.{◌+◌, ◌<◌, ◌≤◌, ◌++◌, ◌∷◌, [], ℕ, List, length, take, get_or, sym, subst, arith}
use Rattle.std.proofs.lemmas.List.{take_all, take_more}
use Rattle.btree_pages.specs.declared.entry.BlockEntry.{BlockEntry}
use Rattle.copy_part.proofs.Keeping.{keeps_along}
use Rattle.file_blocks.specs.Blocks.{Stands, file_of}
use Rattle.copy_pieces.specs.Writes.{AddsBlocks, IsCopied}
use Rattle.copy_pieces.proofs.AddLaws.{blocks-more}
use Rattle.copy_pieces.proofs.PlaceLaws.{moved-at, moved-count, no_block, same-file, short-at, stand-at}
use Rattle.copy_pieces.proofs.blocks.copy_blocks.Goals as goal

pub bounds-news-i : goal.bounds-news-i
bounds-news-i g c =
    let m = c.requires.moved in
    let count = moved-count m.0 c.args.olds.now c.args.news.now m.1 in
    let test = c.loop-i-test.true in
    omega (arith, count, test)

pub copy_block-requires-clause-whole : goal.copy_block-requires-clause-whole
copy_block-requires-clause-whole g c = λ told.
    let keeps = c.loop-i.invariant.keeps in
    subst (λ (l : List ℕ). c.args.eof ≤ length l) (sym (keeps.same told).main) (c.requires.whole (keeps.told told))

pub copy_block-requires-clause-stands : goal.copy_block-requires-clause-stands
copy_block-requires-clause-stands g c = λ told.
    let keeps = c.loop-i.invariant.keeps in
    let old = g.W.Outside.view c.args.w.now in
    let e : BlockEntry = get_or c.args.olds.now c.loop-i.i no_block in
    subst (λ (f : List ℕ). Stands f c.args.eof e) (sym (same-file (keeps.same told)))
    (stand-at (file_of old.here) c.args.eof c.args.olds.now c.loop-i.i no_block (c.requires.stand (keeps.told told)) c.loop-i-test.true)

pub copy_block-requires-clause-short : goal.copy_block-requires-clause-short
copy_block-requires-clause-short g c = short-at c.args.olds.now c.loop-i.i no_block c.requires.short c.loop-i-test.true

pub copy_block-requires-clause-bid : goal.copy_block-requires-clause-bid
copy_block-requires-clause-bid g c = let m = c.requires.moved in (moved-at m.0 c.args.olds.now c.args.news.now c.loop-i.i no_block no_block m.1 c.loop-i-test.true).bid

pub copy_block-requires-clause-size : goal.copy_block-requires-clause-size
copy_block-requires-clause-size g c = let m = c.requires.moved in (moved-at m.0 c.args.olds.now c.args.news.now c.loop-i.i no_block no_block m.1 c.loop-i-test.true).size

pub returns-in_err-copy_block-clause-keeps : goal.returns-in_err-copy_block-clause-keeps
returns-in_err-copy_block-clause-keeps g c = keeps_along c.loop-i.invariant.keeps c.in_err-copy_block.ensures.keeps

pub loop-i-preserved : goal.loop-i-preserved
loop-i-preserved g c =
    let inv = c.loop-i.invariant in
    let keeps = c.in_ok-copy_block.ensures.keeps in
    let old = g.W.Outside.view c.args.w.now in
    let mid = g.W.Outside.view c.loop-i.w in
    let new = g.W.Outside.view c.copy_block.new.w in
    let olds = c.args.olds.now in
    let news = c.args.news.now in
    let i = c.loop-i.i in
    let m = c.requires.moved in
    let count = moved-count m.0 olds news m.1 in
    let test = c.loop-i-test.true in
    let within : i < length news = omega (arith, count, test) in
    let e : BlockEntry = get_or olds i no_block in
    let f : BlockEntry = get_or news i no_block in
    record {
      keeps = keeps_along inv.keeps keeps;
      copy = λ told.
          let before = keeps.told told in
          let made = c.in_ok-copy_block.ensures.copy told in
          let there = subst (λ (file : List ℕ). IsCopied file e f made.0) (same-file (inv.keeps.same before)) made.1 in
          let more = blocks-more (file_of old.here) (take i olds) (take i news) old.here.copy mid.here.copy new.here.copy e f made.0 (inv.copy before) there made.2 in
          subst (λ (l : List BlockEntry). AddsBlocks (file_of old.here) l (take (i + 1) news) old.here.copy new.here.copy) (sym (take_more olds i no_block test))
          (subst (λ (l : List BlockEntry). AddsBlocks (file_of old.here) (take i olds ++ e ∷ []) l old.here.copy new.here.copy) (sym (take_more news i no_block within)) more);
    }

pub returns-clause-copy : goal.returns-clause-copy
returns-clause-copy g c = λ told.
    let old = g.W.Outside.view c.args.w.now in
    let new = g.W.Outside.view c.loop-i.w in
    let m = c.requires.moved in
    let count = moved-count m.0 c.args.olds.now c.args.news.now m.1 in
    let test = c.loop-i-test.false in
    subst (λ (l : List BlockEntry). AddsBlocks (file_of old.here) l c.args.news.now old.here.copy new.here.copy) (take_all c.loop-i.i c.args.olds.now (omega (arith, test)))
    (subst (λ (l : List BlockEntry). AddsBlocks (file_of old.here) (take c.loop-i.i c.args.olds.now) l old.here.copy new.here.copy) (take_all c.loop-i.i c.args.news.now (omega (arith, test, count))) (c.loop-i.invariant.copy told))
