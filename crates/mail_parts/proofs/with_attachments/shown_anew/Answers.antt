use Rattle.std.proofs.Common.{◌≡◌, ◌∙◌, ℕ, List, map, arith, sym, ap}
use Rattle.mapi_values.specs.Tables.{Tab}
use Rattle.mapi_values.specs.Values.{Val}
use Rattle.mail_tree.specs.Parts.{part_row}
use Rattle.mail_parts.proofs.PartTables.{all_rows, ascend_alike, rows_named}
use Rattle.mail_parts.proofs.with_attachments.shown_anew.Goals as goal

pub from_parts-requires : goal.from_parts-requires
from_parts-requires c =
    let id : ℕ × List Val → ℕ = λ r. r.0 in
    let columns = c.table.inside.columns.items in let parts = c.args.parts.now in let rows = c.loop-part.rows.items in
    let all : rows ≡ map (part_row columns) parts = all_rows (part_row columns) rows parts c.loop-part.part-index c.loop-part.invariant.all (omega arith) in
    let alike : map id rows ≡ map id c.table.inside.rows.items =
    ap (λ (rs : List (ℕ × List Val)). map id rs) all ∙ sym (rows_named columns parts) ∙ c.requires ∙ sym (ap (λ (t : Tab). map id t.rows) c.table.view_is) in
    record {
      layout = c.table.invariant.layout;
      ascend = ascend_alike id id 0 rows c.table.inside.rows.items alike c.table.invariant.ascend;
      suit = c.loop-part.invariant.suit;
    }
