use Rattle.std.proofs.Common.{◌≡◌, ◌∙◌, ℕ, List, Ok, ap, subst, sym, length}
use Rattle.std.proofs.lemmas.Result.{err_from_is_err_and}
use Rattle.pst_outside.specs.World.{Image, after_write}
use Rattle.file_blocks.specs.Blocks.{file_of}
use Rattle.block_frame.specs.Block.{reading}
use Rattle.file_decode.specs.Decoding.{decoded_block}
use Rattle.file_decode.proofs.BlockLaws.{frame-holds, read-again}
use Rattle.copy_part.proofs.Keeping.{keeps_along, keeps_untouched}
use Rattle.file_decode.proofs.StopLaws.{change-writing}
use Rattle.file_decode.proofs.decoding.decode_block.Goals as goal

pub returns-in_err-check_frame-clause-stops : goal.returns-in_err-check_frame-clause-stops
returns-in_err-check_frame-clause-stops g c =
    let p = err_from_is_err_and c.from_residual-in_err-check_frame.result c.from_residual-in_err-check_frame.ensures.1 in
    let new = g.W.Outside.view c.read_part.new.w in
    let old = g.W.Outside.view c.args.w.now in
    let e = c.args.entry in
    rw (p.1, p.2) (change-writing c.in_err-check_frame.field-0.0 new c.in_err-check_frame.ensures.change (λ told.
    let same = c.in_ok-read_part.ensures.same.stays in
    let before = same.told told in
    let stands = c.requires.stands before in
    let is = read-again old.here new.here c.read_part.new.buf c.args.eof (length c.split_at_mut-block.result.0.now) e (same.here told) c.requires.placed (c.requires.whole before) (c.split_at_mut-block.ensures.front_len ∙ c.disk_size.ensures) (c.in_ok-read_part.ensures.whole told) in
    c.in_err-check_frame.ensures.refused stands.0 (subst (λ (b : List ℕ). reading e.cb e.at b ≡ Ok stands.0) (sym is) (frame-holds (file_of old.here) c.args.eof e stands.0 stands.1))))

pub returns-in_err-put-clause-keeps : goal.returns-in_err-put-clause-keeps
returns-in_err-put-clause-keeps g c = keeps_along (keeps_untouched c.in_ok-read_part.ensures.same) c.in_err-put.ensures.keeps

pub returns-clause-keeps : goal.returns-clause-keeps
returns-clause-keeps g c = keeps_along (keeps_untouched c.in_ok-read_part.ensures.same) c.in_ok-put.ensures.keeps

pub returns-clause-copy : goal.returns-clause-copy
returns-clause-copy g c = λ told.
    let new = g.W.Outside.view c.read_part.new.w in
    let old = g.W.Outside.view c.args.w.now in
    let e = c.args.entry in
    let mid = c.in_ok-put.ensures.keeps.told told in
    let same = c.in_ok-read_part.ensures.same.stays in
    let before = same.told mid in
    let is = read-again old.here new.here c.read_part.new.buf c.args.eof (length c.split_at_mut-block.result.0.now) e (same.here mid) c.requires.placed (c.requires.whole before) (c.split_at_mut-block.ensures.front_len ∙ c.disk_size.ensures) (c.in_ok-read_part.ensures.whole mid) in
    let made = c.decode_bytes.ensures ∙ ap (decoded_block c.args.method e) is in
    let copy = ap (λ (i : Image). i.copy) (same.here mid) in
    c.in_ok-put.ensures.copy told ∙ (λ i. after_write (copy i) e.at.ib (made i))
