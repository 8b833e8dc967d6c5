use Rattle.std.proofs.Common.{◌∙◌, Ok, ap}
use Rattle.search_obj.specs.Crits.{Crit}
use Rattle.mail_objects.specs.Forms.{Ctx}
use Rattle.mail_tree.specs.Folders.{replied, unchanged}
use Rattle.mail_draft.proofs.DeskCalls.{comes_then, comes_unchanged}
use Rattle.mail_draft.proofs.DeskLoops.{reads_none, reads_ok}
use Rattle.mail_folders.proofs.Calls.{asked}
use Rattle.mail_folders.proofs.Steps.{reply_is}
use Rattle.mail_searches.specs.Criteria.{criteria_line}
use Rattle.search_folders.specs.Pieces.{told_where, unless_among}
use Rattle.search_folders.proofs.telling.told_where.Goals as goal

pub returns-clause-answer : goal.returns-clause-answer
unfolding told_where
returns-clause-answer g c =
    let coming = c.replied.ensures in let reply = c.without_data-reply in
    let last = reply.ensures.last ∙ c.in_ok-last.ensures ∙ ap (λ (k : Crit). criteria_line k.set) c.criteria.view_is in
    comes_then _ (asked (λ T. unless_among T c.args.own.now c.args.search.bits) c.places.ensures c.in_ok-unless_among.ensures.answer) (reads_ok _ (reads_none _))
    (comes_then (λ T D (p : Ctx × Crit). Ok (unchanged T (replied (criteria_line p.1.set)))) c.in_ok-criteria.ensures.answer c.in_ok-criteria.ensures.reads
    (comes_unchanged c.replied.result _ (c.in_ok-criteria.ensures.reads.changed ∙ c.requires.fresh) coming.places coming.last (coming.reply ∙ reply_is reply.result _ reply.ensures.lines last)))
