use Rattle.std.proofs.Common.{◌∙◌, ◌++◌, map, ap, append-nil, sym}
use Rattle.mail_draft.specs.Unread.{entry_note}
use Rattle.mail_draft.proofs.SortedLaws.{entries-kept, sorted-keys}
use Rattle.mail_draft.proofs.flags.flag_changes.Goals as goal

pub loop-nid-init : goal.loop-nid-init
loop-nid-init c = ap (λ xs. xs ++ map entry_note c.into_iter-nid-iterator.result) c.in_ok-changes.ensures.items ∙ ap (map entry_note) c.into_iter-nid-iterator.ensures.into_iter_gives.0

pub returns : goal.returns
returns c =
    let es = c.args.draft.now.objects.entries in
    sym (append-nil c.loop-nid.changes.items)
    ∙ ap (λ xs. c.loop-nid.changes.items ++ map entry_note xs) (sym c.in-None.ensures.steps.0)
    ∙ c.loop-nid.invariant
    ∙ ap (map entry_note) (sym (entries-kept es (sorted-keys es c.len.ensures.ordered)))
