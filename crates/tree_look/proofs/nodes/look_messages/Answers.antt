use Rattle.std.proofs.Common.{◌≡◌, inl, inr, ⊎_elim, ◌%◌, ℕ, List, ap, sym, subst, ◌∙◌, IsSome, get_or}
use Rattle.mapi_values.specs.Messages.{Mes}
use Rattle.mapi_values.specs.Tables.{Tab, find_row}
use Rattle.mapi_values.specs.Values.{Val}
use Rattle.mail_tree.specs.Standing.{HasMail}
use Rattle.tree_look.specs.Seeing.{IsKnown}
use Rattle.tree_look.proofs.Found.{looks_then, next_row, row_here, stops_on}
use Rattle.tree_look.proofs.nodes.look_messages.Goals as goal

pub returns-in_err-look_row-clause-found : goal.returns-in_err-look_row-clause-found
returns-in_err-look_row-clause-found g c = λ N held opened has.
    let I = c.loop-row.invariant in
    let rows = c.rows-row-items.result.now in
    let rows_are : rows ≡ c.args.table.now.table.rows = c.rows-row-items.ensures.value ∙ ap (λ (t : Tab). t.rows) c.table.ensures.table in
    stops_on N _ c.in_err-look_row.field-0.0 _ c.from_residual.ensures.1
    (c.in_err-look_row.ensures.found N (I.looks.stays N held) opened c.args.table.now has
    (subst (λ (x : ℕ × List Val). IsSome (find_row x.0 c.args.table.now.table.rows)) (sym c.row-item.is)
    (subst (λ (x : List (ℕ × List Val)). IsSome (find_row ((get_or rows c.loop-row.row-index c.row-item.result).0) x)) rows_are (row_here rows c.loop-row.row-index c.row-item.result c.loop-row-test.true))))

pub loop-row-preserved : goal.loop-row-preserved
loop-row-preserved g c =
    let I = c.loop-row.invariant in
    let rows = c.rows-row-items.result.now in
    let rows_are : rows ≡ c.args.table.now.table.rows = c.rows-row-items.ensures.value ∙ ap (λ (t : Tab). t.rows) c.table.ensures.table in
    record {
      looks = looks_then I.looks c.in_ok-look_row.ensures.looks;
      so_far = λ N held opened has.
          let P : ℕ → Type 0 = λ m. m % 32 ≡ 4 → (M : Mes) × HasMail N m M × (M.folder ≡ c.args.folder.bits) in
          next_row P rows c.loop-row.row-index c.row-item.result c.loop-row-test.true (I.so_far N held opened has)
          (subst (λ (x : ℕ × List Val). P x.0) c.row-item.is
          (c.in_ok-look_row.ensures.found N (I.looks.stays N held) opened c.args.table.now has
          (subst (λ (x : ℕ × List Val). IsSome (find_row x.0 c.args.table.now.table.rows)) (sym c.row-item.is)
          (subst (λ (x : List (ℕ × List Val)). IsSome (find_row ((get_or rows c.loop-row.row-index c.row-item.result).0) x)) rows_are (row_here rows c.loop-row.row-index c.row-item.result c.loop-row-test.true)))));
      learns = λ N held opened has seen.
          c.in_ok-look_row.ensures.flags N (I.looks.stays N held) opened c.args.table.now has
          (subst (λ (x : ℕ × List Val). IsSome (find_row x.0 c.args.table.now.table.rows)) (sym c.row-item.is)
          (subst (λ (x : List (ℕ × List Val)). IsSome (find_row ((get_or rows c.loop-row.row-index c.row-item.result).0) x)) rows_are (row_here rows c.loop-row.row-index c.row-item.result c.loop-row-test.true)))
          (I.learns N held opened has seen);
      stays = λ m was. c.in_ok-look_row.ensures.known.0 m (I.stays m was);
      known =
          let P : ℕ → Type 0 = λ m. m % 32 ≡ 4 → IsKnown c.look_row.new.flags m in
          next_row P rows c.loop-row.row-index c.row-item.result c.loop-row-test.true
          (λ m row. ⊎_elim (λ was. inl (λ kind. c.in_ok-look_row.ensures.known.0 m (was kind))) inr (I.known m row))
          (subst (λ (x : ℕ × List Val). P x.0) c.row-item.is c.in_ok-look_row.ensures.known.1);
    }
