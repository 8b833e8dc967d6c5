use Rattle.std.proofs.Common.{IsSome, inl, inr, subst}
use Rattle.mapi_values.specs.Tables.{find_row}
use Rattle.mail_objects.specs.Forms.{Tbl}
use Rattle.mail_tree.specs.Changing.{contents, hierarchy}
use Rattle.mail_tree.specs.Standing.{HasTable}
use Rattle.tree_look.proofs.Found.{looks_then, one_table_at, stops_on}
use Rattle.tree_look.proofs.nodes.look_tables.Goals as goal

pub returns-in_err-look_messages-clause-found : goal.returns-in_err-look_messages-clause-found
returns-in_err-look_messages-clause-found g c = λ N held opened.
    let held2 = c.in_ok-folders.ensures.looks.stays N held in
    let held3 = c.in_ok-messages.ensures.looks.stays N held2 in
    let messages : HasTable N (contents c.args.folder.bits) c.in_ok-messages.messages = subst (λ k. HasTable N k c.in_ok-messages.messages) c.beside-2.ensures (c.in_ok-messages.ensures.found N held2 opened (inr c.beside-2.ensures)) in
    stops_on N _ c.in_err-look_messages.field-0.0 _ c.from_residual-in_err-look_messages.ensures.1
    (c.in_err-look_messages.ensures.found N (c.in_ok-look_associated.ensures.looks.stays N held3) opened messages)

pub returns-in_err-look_messages-clause-looks : goal.returns-in_err-look_messages-clause-looks
returns-in_err-look_messages-clause-looks g c = looks_then (looks_then (looks_then c.in_ok-folders.ensures.looks c.in_ok-messages.ensures.looks) c.in_ok-look_associated.ensures.looks) c.in_err-look_messages.ensures.looks

pub returns-in_err-row_ids-clause-looks : goal.returns-in_err-row_ids-clause-looks
returns-in_err-row_ids-clause-looks g c = looks_then (looks_then (looks_then c.in_ok-folders.ensures.looks c.in_ok-messages.ensures.looks) c.in_ok-look_associated.ensures.looks) c.in_ok-look_messages.ensures.looks

pub returns-clause-looks : goal.returns-clause-looks
returns-clause-looks g c = looks_then (looks_then (looks_then c.in_ok-folders.ensures.looks c.in_ok-messages.ensures.looks) c.in_ok-look_associated.ensures.looks) c.in_ok-look_messages.ensures.looks

pub returns-clause-found : goal.returns-clause-found
returns-clause-found g c = λ N held opened.
    let held2 = c.in_ok-folders.ensures.looks.stays N held in
    let held3 = c.in_ok-messages.ensures.looks.stays N held2 in
    let held4 = c.in_ok-look_associated.ensures.looks.stays N held3 in
    let folders : HasTable N (hierarchy c.args.folder.bits) c.in_ok-folders.folders = subst (λ k. HasTable N k c.in_ok-folders.folders) c.beside.ensures (c.in_ok-folders.ensures.found N held opened (inl c.beside.ensures)) in
    let messages : HasTable N (contents c.args.folder.bits) c.in_ok-messages.messages = subst (λ k. HasTable N k c.in_ok-messages.messages) c.beside-2.ensures (c.in_ok-messages.ensures.found N held2 opened (inr c.beside-2.ensures)) in (
      record {
        folders = (c.in_ok-folders.folders, folders);
        messages = (c.in_ok-messages.messages, messages);
        others = c.in_ok-look_associated.ensures.found N held3 opened;
        listed = λ m lists.
            c.in_ok-look_messages.ensures.found N held4 opened messages m
            (subst (λ (x : Tbl). IsSome (find_row m x.table.rows)) (one_table_at N (contents c.args.folder.bits) lists.0 c.in_ok-messages.messages lists.1 messages) lists.2) lists.3;
      },
      (c.in_ok-folders.folders, folders, c.row_ids.ensures.ascend, c.in_ok-row_ids.ensures.ids),
    )

pub returns-clause-known : goal.returns-clause-known
returns-clause-known g c = λ N held opened.
    let messages : HasTable N (contents c.args.folder.bits) c.in_ok-messages.messages = subst (λ k. HasTable N k c.in_ok-messages.messages) c.beside-2.ensures (c.in_ok-messages.ensures.found N (c.in_ok-folders.ensures.looks.stays N held) opened (inr c.beside-2.ensures)) in (
      c.in_ok-look_messages.ensures.known.0,
      λ m lists.
          c.in_ok-look_messages.ensures.known.1 m
          (subst (λ (x : Tbl). IsSome (find_row m x.table.rows)) (one_table_at N (contents c.args.folder.bits) lists.0 c.in_ok-messages.messages lists.1 messages) lists.2) lists.3,
    )
