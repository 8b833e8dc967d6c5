use Rattle.std.proofs.lemmas.List.{drop-drop, take_rest}
use Rattle.pst_checksum.proofs.checksum.Taken.take_words.Goals as goal

pub returns : goal.returns
returns c =
    let bs = c.args.bytes.now in
    cc (take_rest bs 8, take_rest bs 16, take_rest bs 24, take_rest bs 32, drop-drop 8 8 bs, drop-drop 8 16 bs, drop-drop 8 24 bs, drop-drop 8 32 bs)
