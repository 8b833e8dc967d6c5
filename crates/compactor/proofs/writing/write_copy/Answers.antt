use Rattle.std.proofs.Common.{◌≡◌, ◌-◌, ◌/◌, ℕ, List, refl, sym, subst, arith}
use Rattle.alloc_map.specs.Slots.{regions_of}
use Rattle.alloc_map.specs.Standing.{IsCovered, occupied}
use Rattle.copy_part.proofs.Keeping.{keeps_along}
use Rattle.copy_pieces.specs.Moved.{reached}
use Rattle.file_blocks.specs.Blocks.{file_of}
use Rattle.file_scan.specs.Parts.{AllShort}
use Rattle.compactor.specs.Layout.{layout_places}
use Rattle.compactor.specs.Steps.{HasRegions, layout_of}
use Rattle.compactor.specs.Written.{AddsAll}
use Rattle.compactor.proofs.ReadyLaws.{has-regions, moved-short}
use Rattle.compactor.proofs.writing.write_copy.Goals as goal

pub slots_in-requires-clause-short : goal.slots_in-requires-clause-short
slots_in-requires-clause-short g c =
    let ready = c.requires.ready in
    moved-short ready.uses (reached ready.uses ready.blocks) c.args.plan.now.blocks.items ready.planned.layout.moved (subst AllShort ready.planned.chosen ready.short)

pub slots_in-requires-clause-some : goal.slots_in-requires-clause-some
slots_in-requires-clause-some g c =
    let ends = c.requires.ready.planned.layout.ends.ends in
    let some = c.requires.ready.planned.layout.ends.some in
    omega (arith, ends, some)

pub slots_in-requires-clause-regions : goal.slots_in-requires-clause-regions
slots_in-requires-clause-regions g c =
    let ready = c.requires.ready in
    let plan = c.args.plan.now in
    has-regions ready.uses ready.blocks c.args.nodes.now ready.need ready.first plan ((plan.eof - 17408) / 253952) ready.planned c.requires.small refl

pub put_all-requires-clause-regions : goal.put_all-requires-clause-regions
put_all-requires-clause-regions g c =
    let ready = c.requires.ready in
    let plan = c.args.plan.now in
    let size = c.in_ok-slots.ensures.size in
    has-regions ready.uses ready.blocks c.args.nodes.now ready.need ready.first plan (regions_of c.in_ok-slots.slots) ready.planned c.requires.small (omega (arith, size))

pub put_all-requires-clause-size : goal.put_all-requires-clause-size
put_all-requires-clause-size g c = let size = c.in_ok-slots.ensures.size in omega (arith, size)

pub header_of-requires-clause-regions : goal.header_of-requires-clause-regions
header_of-requires-clause-regions g c =
    let ready = c.requires.ready in
    let plan = c.args.plan.now in
    let size = c.in_ok-slots.ensures.size in
    has-regions ready.uses ready.blocks c.args.nodes.now ready.need ready.first plan (regions_of c.in_ok-slots.slots) ready.planned c.requires.small (omega (arith, size))

pub returns-in_err-put_header-clause-keeps : goal.returns-in_err-put_header-clause-keeps
returns-in_err-put_header-clause-keeps g c = keeps_along c.in_ok-put_all.ensures.keeps c.in_err-put_header.ensures.keeps

pub returns-clause-keeps : goal.returns-clause-keeps
returns-clause-keeps g c = keeps_along c.in_ok-put_all.ensures.keeps c.in_ok-put_header.ensures.keeps

pub returns-clause-copy : goal.returns-clause-copy
returns-clause-copy g c = λ told.
    let there = c.in_ok-put_header.ensures.keeps.told told in
    let first = c.in_ok-put_all.ensures.keeps.told there in
    let ready = c.requires.ready in
    let plan = c.args.plan.now in
    let slots = c.in_ok-slots.slots in
    let size = c.in_ok-slots.ensures.size in
    let count : (plan.eof - 17408) / 253952 ≡ regions_of slots = omega (arith, size) in
    let own : HasRegions plan (regions_of slots) = has-regions ready.uses ready.blocks c.args.nodes.now ready.need ready.first plan (regions_of slots) ready.planned c.requires.small (sym count) in
    let is = c.header_of.ensures.header in
    let shown = (g.W.Outside.view c.put_all.new.w).here.copy in
    record {
      header = c.header_of.result;
      used = slots;
      regions = regions_of slots;
      made = record {
        some = own.some;
        ends = own.ends;
        small = c.requires.small;
        size = omega (arith, size);
        covered = subst (λ (n : ℕ). IsCovered (occupied (layout_places (layout_of plan)) n) slots) count c.in_ok-slots.ensures.used;
        succeeds = is.succeeds;
        nbt = is.nbt;
        bbt = is.bbt;
        free = is.free;
        last = is.last;
      };
      written = record {
        shown = shown;
        all = subst (λ (l : List ℕ). AddsAll (file_of (g.W.Outside.view c.args.w.now).here) plan.chosen.items c.args.nodes.now (layout_of plan) slots (regions_of slots) l shown) (c.requires.empty first) (c.in_ok-put_all.ensures.copy there);
        head = c.in_ok-put_header.ensures.copy told;
      };
    }
