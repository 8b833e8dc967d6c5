use Rattle.std.proofs.Common.{◌∙◌, ◌&&◌, ap, sym}
use Rattle.std.proofs.lemmas.Bool.{and_left}
use Rattle.std.specs.List.{list_all}
use Rattle.mail_tree.specs.Changing.{entry_fits}
use Rattle.mail_draft.proofs.SortedLaws.{entries-kept, sorted-keys}
use Rattle.mail_draft.proofs.limits.do_all_fit.Goals as goal

pub loop-nid-init : goal.loop-nid-init
loop-nid-init c = ap (list_all entry_fits) (sym c.into_iter-nid-iterator.ensures.into_iter_gives.0)

pub returns-then-not-entry_fits : goal.returns-then-not-entry_fits
returns-then-not-entry_fits c =
    let es = c.args.draft.now.objects.entries in
    sym
    (ap (list_all entry_fits) (entries-kept es (sorted-keys es c.into_iter-nid-iterator.ensures.into_iter_gives.5))
    ∙ c.loop-nid.invariant
    ∙ ap (list_all entry_fits) c.in-Some.ensures.steps
    ∙ and_left (entry_fits (c.in-Some.nid.now, c.in-Some.object.now)) (list_all entry_fits c.next.new.self) (sym (c.entry_fits.ensures c.in-Some.nid.now) ∙ c.if-not-entry_fits.true))

pub loop-nid-preserved : goal.loop-nid-preserved
loop-nid-preserved c =
    c.loop-nid.invariant
    ∙ ap (list_all entry_fits) c.in-Some.ensures.steps
    ∙ ap (λ b. b && list_all entry_fits c.next.new.self) (sym (c.entry_fits.ensures c.in-Some.nid.now) ∙ c.if-not-entry_fits.false)

pub returns : goal.returns
returns c =
    let es = c.args.draft.now.objects.entries in
    sym (ap (list_all entry_fits) (entries-kept es (sorted-keys es c.into_iter-nid-iterator.ensures.into_iter_gives.5)) ∙ c.loop-nid.invariant ∙ ap (list_all entry_fits) c.in-None.ensures.steps.0)
