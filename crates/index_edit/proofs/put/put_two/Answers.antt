use Rattle.byteorder.specs.Endian.{little_bytes}
use Rattle.mapi_values.specs.Keyed.{put_key}
use Rattle.index_edit.specs.Rows.{key_of}
use Rattle.index_edit.proofs.PutSteps.{two-levels}
use Rattle.index_edit.proofs.put.put_two.Goals as goal

pub returns-in-Ok-add_header-clause-adds : goal.returns-in-Ok-add_header-clause-adds
returns-in-Ok-add_header-clause-adds g c = λ was get told recs h.
    two-levels (g.H.HeapItems.tells c.put_below.new.heap was) (g.H.HeapItems.tells c.add_header.new.heap was) get c.in-Ok.root c.in-Ok-add_header.header (put_key key_of (c.args.key, little_bytes 4 c.args.entry) recs)
    (c.in-Ok.ensures.adds was get told recs h) (c.in-Ok-add_header.ensures.adds was)
