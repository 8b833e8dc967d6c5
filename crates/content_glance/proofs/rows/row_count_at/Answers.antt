use Rattle.std.proofs.Common.{◌≡◌, ◌∙◌, ℕ, List, Option, Some, length, map, sym, ap, subst, arith}
use Rattle.std.proofs.lemmas.List.{length-map}
use Rattle.bth_tree.specs.Answers.{seen}
use Rattle.bth_tree.specs.Tree.{bth}
use Rattle.heap_on_node.specs.Heap.{item}
use Rattle.mail_objects.specs.table_context.Header.{index_in}
use Rattle.content_glance.specs.Rows.{TellsCount}
use Rattle.content_glance.proofs.RowLaws.{index-fits, tells-count}
use Rattle.content_glance.proofs.rows.row_count_at.Goals as goal

pub u32_at-requires : goal.u32_at-requires
u32_at-requires c = index-fits c.in-Some-item.head.now (sym c.names_index.ensures ∙ c.if-not-names_index.false)

pub returns-in-Ok-bth_read : goal.returns-in-Ok-bth_read
returns-in-Ok-bth_read c =
    let view = c.in-Ok.view in
    let head = c.in-Some-item.head.now in
    let records = c.in-Ok-bth_read.records.items in
    let found : bth (item view) (index_in head) 4 4 ≡ Some (map seen records) = ap (λ (hid : ℕ). bth (item view) hid 4 4) (sym c.u32_at.ensures) ∙ c.in-Ok-bth_read.ensures.exact in
    let tells : TellsCount view (Some (length (map seen records))) = tells-count view c.in-Some.root head (map seen records) c.in-Some.ensures (sym c.in-Some-item.ensures) found in
    let count : length records ≡ c.len.result = omega (arith, c.in-Ok-bth_read.records.ok, c.len.ensures) in
    let told : Some (length (map seen records)) ≡ Some c.len.result = ap Some (length-map records seen ∙ count) in
    rw (← c.in-Ok.ensures.same) (subst (λ (o : Option ℕ). TellsCount view o) told tells)
