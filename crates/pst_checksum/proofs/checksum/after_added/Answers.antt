use Rattle.std.proofs.Common.{◌≡◌, ◌+◌, get_or, drop, length, ap, ◌∷◌, arith}
use Rattle.std.proofs.lemmas.List.{drop_all, drop_more, length-drop, take_rest}
use Rattle.pst_checksum.proofs.TakenLaws.{crc_added-none, crc_added-word}
use Rattle.pst_checksum.proofs.checksum.after_added.Goals as goal

pub loop-word-preserved : goal.loop-word-preserved
loop-word-preserved c =
    let ws = c.args.words in
    let i = c.loop-word.word-index in
    let rest = c.loop-word.rest.now in
    let next : drop i ws ≡ get_or ws i 0 ∷ drop (i + 1) ws = drop_more ws i 0 (omega arith) in
    let part = take_rest rest 8 in
    let size = length-drop 8 rest in
    let part_size = ap length part in
    record { long = omega arith; same = cc (next, part, crc_added-word c.loop-word.register (get_or ws i 0) (drop (i + 1) ws) rest) }

pub returns : goal.returns
returns c =
    let none = drop_all c.loop-word.word-index c.args.words (omega arith) in
    cc (none, crc_added-none c.loop-word.register c.loop-word.rest.now)
