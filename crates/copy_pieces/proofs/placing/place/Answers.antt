use Rattle.std.proofs.Common.{◌≡◌, ◌∙◌, ◌+◌, ◌<◌, ℕ, get_or, length, sym, subst, ap, arith}
use Rattle.std.proofs.lemmas.List.{take_all, take_more}
use Rattle.block_frame.specs.Size.{disk_size_of}
use Rattle.copy_layout.specs.Order.{IsNext}
use Rattle.file_layout.specs.Nodes.{place_of}
use Rattle.file_scan.specs.Parts.{AllShort}
use Rattle.ref_counts.specs.Tables.{refs_in}
use Rattle.copy_pieces.proofs.PlaceLaws.{moved-more, no_block, order-more, short-at, short-more}
use Rattle.copy_pieces.proofs.placing.place.Goals as goal

pub returns-then-entry-gt-LONGEST-clause-stops : goal.returns-then-entry-gt-LONGEST-clause-stops
returns-then-entry-gt-LONGEST-clause-stops c = λ all.
    let test = c.loop-entry-test.true in
    let short = short-at c.args.entries.now c.loop-entry.entry-index no_block all (omega (arith, test)) in
    let long = c.if-entry-gt-LONGEST.true in
    absurd (omega (arith, short, long))

pub loop-entry-preserved : goal.loop-entry-preserved
loop-entry-preserved c =
    let test = c.loop-entry-test.true in
    let inv = c.loop-entry.invariant in
    let uses = refs_in c.args.refs.now in
    let entries = c.args.entries.now in
    let i = c.loop-entry.entry-index in
    let within : i < length entries = omega (arith, test) in
    let new = c.moved.result in
    let own = c.moved.ensures.moved in
    let place = c.moved.ensures.place in
    let next = c.next_block-ib.ensures.next in
    let items = c.in_ok-push.ensures.items in
    let low = inv.low in
    let behind = next.holds.behind in
    let fit = c.if-entry-gt-LONGEST.false in
    let size = own.size in
    let lens : (place_of new).len ≡ c.disk_size-len.result = ap disk_size_of own.size ∙ sym c.disk_size-len.ensures in
    let stands : IsNext 64 c.loop-entry.end (place_of new).len (new.at).ib = subst (λ (n : ℕ). IsNext 64 c.loop-entry.end n (new.at).ib) (sym lens) (subst (λ (p : ℕ). IsNext 64 c.loop-entry.end c.disk_size-len.result p) (sym place) next) in
    record {
      moved = moved-more uses entries c.loop-entry.placed.items c.push.new.self.items i no_block new within inv.moved own items;
      order = order-more 64 17408 c.loop-entry.end (c.next_block-ib.result + c.disk_size-len.result) c.loop-entry.placed.items c.push.new.self.items new inv.order stands (omega (arith, place, lens)) items;
      low = omega (arith, low, behind);
      short = short-more c.loop-entry.placed.items c.push.new.self.items new inv.short (omega (arith, fit, size)) items;
      fits = short-more _ _ (get_or entries i no_block) inv.fits (omega (arith, fit)) (take_more entries i no_block within);
    }

pub returns-clause-fits : goal.returns-clause-fits
returns-clause-fits c =
    let test = c.loop-entry-test.false in
    subst AllShort (take_all c.loop-entry.entry-index c.args.entries.now (omega (arith, test))) c.loop-entry.invariant.fits
