use Rattle.new_store.proofs.FitLaws.{entries-are}
use Rattle.new_store.proofs.entries.start_entries.Goals as goal

pub returns : goal.returns
returns c =
    rw (
      c.in_ok-push_folder-3.ensures,
      c.in_ok-push_folder-2.ensures,
      c.in_ok-push_folder.ensures,
      c.in_ok-push_templates.ensures,
      c.in_ok-push_bare-2.ensures,
      c.in_ok-push_bare.ensures,
      c.in_ok-push_root.ensures,
      c.in_ok-push-2.ensures,
      c.in_ok-push.ensures,
      c.in_ok-entries.ensures.items,
      c.context-names.ensures,
      c.context-store.ensures,
      c.in_ok-names_props.ensures,
      c.in_ok-store_props.ensures,
    )
    (entries-are c.args.name.now)
