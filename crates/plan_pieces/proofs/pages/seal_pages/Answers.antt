use Rattle.std.proofs.Common.{◌<◌, length, arith}
use Rattle.pst_base.specs.declared.places.Place.{Place}
use Rattle.node_layout.specs.Pieces.{piece_place}
use Rattle.plan_pieces.specs.Names.{named}
use Rattle.plan_pieces.proofs.ListLaws.{more-same}
use Rattle.plan_pieces.proofs.PageLaws.{more-written, page-fills, writable-at}
use Rattle.plan_pieces.proofs.pages.seal_pages.Goals as goal

pub seal_page-requires-clause-writable : goal.seal_page-requires-clause-writable
seal_page-requires-clause-writable g c = writable-at g.E.Entry.key g.E.Entry.rule g.E.Entry.size c.args.pages.now c.loop-i.i c.index-pages-i.result c.requires.writable c.loop-i-test.true c.index-pages-i.is

pub loop-i-preserved : goal.loop-i-preserved
loop-i-preserved g c =
    let i = c.loop-i.i in
    let places = c.args.places.now in
    let none : Place = record { ib = 0; len = 0 } in
    let lt : i < length c.args.pages.now = c.loop-i-test.true in
    let within : i < length places = (let long = c.requires.long in omega (arith, long, lt)) in
    let q = c.in_ok-seal_page.field-0 in
    let is = c.in_ok-seal_page.ensures.written in
    record {
      written = more-written g.E.Entry.rule g.E.Entry.size g.E.Entry.entry_of c.args.kind (named c.args.first places) c.args.pages.now i c.index-pages-i.result c.loop-i.pieces.items c.push.new.self.items q lt c.index-pages-i.is c.loop-i.invariant.written is c.in_ok-push.ensures.items;
      placed = more-same piece_place places i none c.loop-i.pieces.items c.push.new.self.items q within c.loop-i.invariant.placed c.in_ok-push.ensures.items (page-fills c.args.first places i q within c.requires.whole is.place c.in_ok-seal_page.ensures.size);
    }
