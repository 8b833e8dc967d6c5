use Rattle.std.proofs.Common.{◌≡◌, ◌∙◌, ◌<◌, get_or, length, sym, ap}
use Rattle.std.proofs.lemmas.List.Elements.{All-same, All-push}
use Rattle.pst_base.specs.declared.places.Place.{Place}
use Rattle.btree_pages.specs.declared.entry.BlockEntry.{BlockEntry}
use Rattle.file_layout.specs.Nodes.{place_of}
use Rattle.node_layout.specs.Pieces.{piece_place}
use Rattle.plan_pieces.specs.Blocks.{slots_of}
use Rattle.plan_pieces.proofs.BlockLaws.{fills, more-sealed, place-sized, sized-at}
use Rattle.plan_pieces.proofs.ListLaws.{more-same}
use Rattle.plan_pieces.proofs.blocks.seal_blocks.Goals as goal

pub loop-i-preserved : goal.loop-i-preserved
loop-i-preserved c =
    let i = c.loop-i.i in
    let none : Place = record { ib = 0; len = 0 } in
    let blocks = c.args.blocks.now in
    let places = c.args.places.now in
    let b = c.index-blocks-i.result in
    let lt : i < length blocks = c.loop-i-test.true in
    let at = sized-at blocks places i b none lt c.requires.sized in
    let p : Place = get_or places i none in
    let laid = c.requires.laid.1 i none at.0 in
    let len = place-sized b p laid.whole (at.1 ∙ ap slots_of (sym c.index-blocks-i.is)) in
    let f = fills b c.in_ok-entry.entry c.in_ok-entry.piece p c.in_ok-entry.ensures.sealed c.in_ok-entry.ensures.place len in
    let inv = c.loop-i.invariant in
    record {
      sealed = more-sealed blocks i b c.loop-i.entries.items c.push.new.self.items c.loop-i.pieces.items c.push-in-loop-i.new.self.items c.in_ok-entry.entry c.in_ok-entry.piece lt c.index-blocks-i.is inv.sealed c.in_ok-entry.ensures.sealed c.in_ok-push.ensures.items c.in_ok-push-2.ensures.items;
      placed = more-same piece_place places i none c.loop-i.pieces.items c.push-in-loop-i.new.self.items c.in_ok-entry.piece at.0 inv.placed c.in_ok-push-2.ensures.items f.0;
      entries = more-same place_of places i none c.loop-i.entries.items c.push.new.self.items c.in_ok-entry.entry at.0 inv.entries c.in_ok-push.ensures.items f.1;
      refs = All-same (λ (e : BlockEntry). e.refs ≡ 2) c.push.new.self.items _ c.in_ok-push.ensures.items (All-push (λ (e : BlockEntry). e.refs ≡ 2) c.loop-i.entries.items c.in_ok-entry.entry inv.refs c.in_ok-entry.ensures.refs);
    }
