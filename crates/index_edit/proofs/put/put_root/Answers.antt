use Rattle.std.proofs.Common.{ℕ, List}
use Rattle.byteorder.specs.Endian.{little_bytes}
use Rattle.mapi_values.specs.Keyed.{put_key}
use Rattle.index_edit.specs.Rows.{key_of}
use Rattle.index_edit.proofs.KeyLaws.{put-some}
use Rattle.index_edit.proofs.PutSteps.{index-after}
use Rattle.index_edit.proofs.put.put_root.Goals as goal

pub returns-in-Ok-add_top-clause-adds : goal.returns-in-Ok-add_top-clause-adds
returns-in-Ok-add_top-clause-adds g c = λ was get told recs h.
    let x : ℕ × List ℕ = (c.args.key, little_bytes 4 c.args.entry) in
    let a = c.in-Ok.ensures.adds was get told recs h in
    index-after (g.H.HeapItems.tells c.add_top.new.heap was) get a.get c.in-Ok-add_top.header (put_key key_of x recs) a.kept (c.in-Ok-add_top.ensures.adds was a.get a.told (put_key key_of x recs) a.reads (put-some x recs) a.top)
