use Rattle.std.proofs.Common.{◌≡◌, ◌∙◌, ◌++◌, List, ap, map, refl, subst, sym}
use Rattle.pst_base.specs.declared.places.Place.{Place}
use Rattle.pst_base.specs.declared.stops.MemOr.{MemOr}
use Rattle.alloc_map.specs.declared.overlap.Overlap.{Overlap}
use Rattle.alloc_map.specs.Standing.{standing, IsMeeting, IsOverlap, StopsAtOverlap}
use Rattle.file_layout.specs.Nodes.{place_of, regions_to}
use Rattle.file_layout.specs.Trees.{page_place}
use Rattle.file_scan.proofs.BlockSteps.{all-short, laid-in}
use Rattle.file_scan.proofs.WideLaws.{few-regions, laid-wide, wide, overlap-narrow}
use Rattle.file_scan.proofs.places.used_slots.Goals as goal

pub push_blocks-requires : goal.push_blocks-requires
push_blocks-requires c = all-short c.args.eof c.args.blocks.now c.requires.placed

pub rebuild-requires-clause-laid : goal.rebuild-requires-clause-laid
rebuild-requires-clause-laid c =
    let pages : c.push_pages.new.places.items ≡ map page_place c.args.pages.now = c.in_ok-push_pages.ensures ∙ ap (λ (l : List Place). l ++ map page_place c.args.pages.now) c.new-places.ensures.items in
    laid-wide (regions_to c.args.eof) 8192 c.as_slice.result.now (few-regions c.args.eof c.requires.small)
    (laid-in c.args.eof (regions_to c.args.eof) c.args.pages.now c.args.blocks.now c.as_slice.result.now c.requires.small c.requires.pages c.requires.placed
    (c.as_slice.ensures.value ∙ c.in_ok-push_blocks.ensures ∙ ap (λ (l : List Place). l ++ map place_of c.args.blocks.now) pages) refl)

pub returns-in-Ok-clause-apart : goal.returns-in-Ok-clause-apart
returns-in-Ok-clause-apart c = λ slot meets.
    let pages : c.push_pages.new.places.items ≡ map page_place c.args.pages.now = c.in_ok-push_pages.ensures ∙ ap (λ (l : List Place). l ++ map page_place c.args.pages.now) c.new-places.ensures.items in
    let is : c.as_slice.result.now ≡ map page_place c.args.pages.now ++ map place_of c.args.blocks.now = c.as_slice.ensures.value ∙ c.in_ok-push_blocks.ensures ∙ ap (λ (l : List Place). l ++ map place_of c.args.blocks.now) pages in
    c.in-Ok.ensures.apart slot (wide (regions_to c.args.eof) 8192 slot c.as_slice.result.now (few-regions c.args.eof c.requires.small)
    (subst (λ (ps : List Place). IsMeeting (standing ps (regions_to c.args.eof)) slot) (sym is) meets))

pub returns-clause-overlap : goal.returns-clause-overlap
returns-clause-overlap c =
    let pages : c.push_pages.new.places.items ≡ map page_place c.args.pages.now = c.in_ok-push_pages.ensures ∙ ap (λ (l : List Place). l ++ map page_place c.args.pages.now) c.new-places.ensures.items in
    let is : c.as_slice.result.now ≡ map page_place c.args.pages.now ++ map place_of c.args.blocks.now = c.as_slice.ensures.value ∙ c.in_ok-push_blocks.ensures ∙ ap (λ (l : List Place). l ++ map place_of c.args.blocks.now) pages in
    subst (λ (ps : List Place). IsOverlap (standing ps (regions_to c.args.eof)) c.in-Err-Refused.overlap.ib) is
    (overlap-narrow (regions_to c.args.eof) 8192 c.in-Err-Refused.overlap.ib c.as_slice.result.now (few-regions c.args.eof c.requires.small)
    (laid-in c.args.eof (regions_to c.args.eof) c.args.pages.now c.args.blocks.now c.as_slice.result.now c.requires.small c.requires.pages c.requires.placed is refl)
    (subst (λ (r : MemOr Overlap). StopsAtOverlap (standing c.as_slice.result.now 8192) r) c.in-Err-Refused.field-0-is c.in-Err-Refused.ensures.overlap))
