use Rattle.std.proofs.Common.{◌≡◌, ◌∙◌, Some, sym, ap}
use Rattle.std.specs.Option.{option_copied}
use Rattle.heap_edit.specs.Known.{blocks_now}
use Rattle.bth_tree.proofs.OptionLaws.{some-injective}
use Rattle.mail_objects.specs.table_context.Header.{index_in}
use Rattle.content_glance.proofs.RowLaws.{index-fits, known-head}
use Rattle.content_glance.proofs.looking.index_of.Goals as goal

pub u32_at-requires : goal.u32_at-requires
u32_at-requires c = index-fits c.in-Ok-Some.head.now (sym c.names_index.ensures ∙ c.if-not-names_index.false)

pub returns : goal.returns
returns c = λ old known subs t d.
    let blocks = blocks_now c.args.heap.now old in
    let same : c.in-Ok-Some.head.now ≡ d.head = some-injective c.in-Ok-Some.head.now d.head (known-head blocks c.in_ok-root.root (Some c.in-Ok-Some.head.now) subs t (c.in_ok-root.ensures old known (d.heap).start) (ap option_copied (sym c.in-Ok-Some.field-0-is) ∙ c.in-Ok-Some.ensures.found old known (d.heap).start) d) in
    c.u32_at.ensures ∙ ap index_in same
