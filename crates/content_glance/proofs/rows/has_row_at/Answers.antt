use Rattle.std.proofs.Common.{◌≡◌, ◌∙◌, ℕ, Bool, List, Option, Some, None, is_some, refl, sym, ap, subst}
use Rattle.std.specs.Option.{option_copied}
use denote.Bor.{Bor}
use Rattle.bth_tree.specs.Records.{entry_of}
use Rattle.bth_tree.specs.Tree.{any_bth}
use Rattle.heap_on_node.specs.Heap.{item}
use Rattle.mail_objects.specs.table_context.Header.{index_in}
use Rattle.content_glance.specs.Rows.{TellsRow}
use Rattle.content_glance.proofs.RowLaws.{index-fits, tells-none, tells-row}
use Rattle.content_glance.proofs.rows.has_row_at.Goals as goal

-- an entry is there wherever it stands
copied-some : (o : Option (Bor (List ℕ))) → is_some o ≡ is_some (option_copied o)
copied-some None = refl
copied-some (Some x) = refl

pub u32_at-requires : goal.u32_at-requires
u32_at-requires c = index-fits c.in_ok-head.head.now (sym c.names_index.ensures ∙ c.if-not-names_index.false)

pub returns-in-Ok-bth_find : goal.returns-in-Ok-bth_find
returns-in-Ok-bth_find c =
    let view = c.in-Ok.view in
    let head = c.in_ok-head.head.now in
    let looked = c.in-Ok-bth_find.ensures in
    let found : any_bth (item view) (index_in head) ≡ Some looked.0 = ap (any_bth (item view)) (sym c.u32_at.ensures) ∙ looked.1 in
    let tells : TellsRow view c.args.id (Some (is_some (entry_of c.args.id looked.0))) = tells-row view c.in_ok-root.root c.args.id head looked.0 c.in_ok-root.ensures (sym c.in_ok-head.ensures) found in
    let told : Some (is_some (entry_of c.args.id looked.0)) ≡ Some c.is_some.result = ap Some (sym (c.is_some.ensures ∙ copied-some c.in-Ok-bth_find.entry ∙ ap is_some looked.2)) in
    rw (← c.in-Ok.ensures.same) (subst (λ (o : Option Bool). TellsRow view c.args.id o) told tells)

pub returns-in-Err : goal.returns-in-Err
returns-in-Err c =
    let view = c.in-Ok.view in
    let head = c.in_ok-head.head.now in
    let none : any_bth (item view) (index_in head) ≡ None = ap (any_bth (item view)) (sym c.u32_at.ensures) ∙ c.in-Err.ensures in
    rw (← c.in-Ok.ensures.same) (tells-none view c.in_ok-root.root c.args.id head c.in_ok-root.ensures (sym c.in_ok-head.ensures) none)
