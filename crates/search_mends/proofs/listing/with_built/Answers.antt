use Rattle.std.proofs.Common.{◌≡◌, ◌∙◌, ap, subst, sym}
use Rattle.mapi_values.specs.Tables.{IsTable, Tab}
use Rattle.search_mending.specs.Mending.{with_stood}
use Rattle.search_mending.proofs.RowLaws.{stood_table}
use Rattle.search_mends.proofs.ListLaws.{Rows, node_on}
use Rattle.search_mends.proofs.listing.with_built.Goals as goal

pub with_rows-requires : goal.with_rows-requires
with_rows-requires c =
    let stood = c.into_table-stood.result in
    let same : c.args.built.now.columns ≡ stood.columns = c.requires ∙ ap (λ (t : Tab). t.columns) (sym c.into_table-stood.ensures.table) in
    let rows : c.in_ok-rows.rows.items ≡ with_stood stood.rows c.args.built.now.rows = c.in_ok-rows.ensures ∙ ap (with_stood stood.rows) c.rows.ensures.value in
    subst (λ (x : Rows). IsTable (record stood { rows = x })) (sym rows) (stood_table stood c.args.built.now same (subst IsTable c.stood.view_is c.stood.invariant) c.rows.ensures.table)

pub returns : goal.returns
returns c =
    node_on c.args.node c.new.result c.into_table-stood.result c.with_rows.result _ (c.new.ensures.parent ∙ c.parent-parent.ensures) c.into_table-stood.ensures.table
    (c.with_rows.ensures ∙ ap (λ (x : Rows). record c.into_table-stood.result { rows = x })
    (c.in_ok-rows.ensures ∙ ap (λ (t : Tab). with_stood t.rows c.rows.result.now) c.into_table-stood.ensures.table ∙ ap (with_stood c.args.node.table.rows) c.rows.ensures.value)) c.new.ensures.table
