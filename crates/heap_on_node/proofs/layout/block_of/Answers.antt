use Rattle.std.proofs.Common.{length, arith}
use Rattle.std.specs.List.{concat}
use Rattle.heap_on_node.proofs.LayoutLaws.{block-pieces, total-lengths}
use Rattle.heap_on_node.proofs.PackingLaws.{room-parts}
use Rattle.heap_on_node.proofs.layout.block_of.Goals as goal

pub push_map-requires-clause-fits : goal.push_map-requires-clause-fits
push_map-requires-clause-fits c =
    let room = room-parts c.args.k (length c.args.draft.now) (length (concat c.args.draft.now)) c.requires in
    rw c.sizes.ensures (omega (arith, room.1, c.head_len-head.ensures, total-lengths c.args.draft.now))

pub returns : goal.returns
returns c =
    rw (
      c.from_vec.ensures,
      c.in_ok-push_map.ensures,
      c.in_ok-push_items.ensures,
      c.in_ok-push_head_rest.ensures,
      c.in_ok-extend_from_slice.ensures.items,
      c.in_ok-out.ensures.items,
      c.to_le_bytes.ensures,
      c.sizes.ensures,
      c.head_len-head.ensures,
      c.size-size.ensures,
    )
    (block-pieces c.args.k c.args.client c.args.root c.args.draft.now)
