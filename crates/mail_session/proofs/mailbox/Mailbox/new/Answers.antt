use Rattle.std.proofs.Common.{true, subst, ◌∙◌}
use Rattle.file_filling.proofs.mail_transactions_laws.StandLaws.{session_first}
use Rattle.mail_session.proofs.MailboxLaws.{new_has}
use Rattle.mail_session.specs.Mailboxes.{nowhere_view}
use Rattle.mail_session.specs.Memory.{memory_holds, memory_last, memory_pinned, memory_rests, memory_room}
use Rattle.mail_tree.specs.Start.{IsStart}
use Rattle.mail_session.proofs.mailbox.Mailbox.new.Goals as goal

pub returns : goal.returns
returns c =
    let shows = c.in_ok-new.ensures.shows in
    let start = subst (λ name. IsStart name shows.0) c.in_ok-name.ensures shows.1 in
    let all = new_has c.in_ok-keeper.keeper _ _ c.new-5.result c.in_ok-new.new.nodes.items shows.0 start shows.2 c.in_ok-keeper.ensures.nodes (c.in_ok-keeper.ensures.counts ∙ c.in_ok-new.ensures.counts) c.in_ok-new.ensures.places c.new.ensures c.new-2.ensures c.new-3.ensures in
    (all.0, all.1, session_first nowhere_view memory_holds memory_last memory_pinned memory_room memory_rests c.new-4.result _ c.new-5.result true all.0 c.new-4.ensures.store c.new-4.ensures.given c.new-4.ensures.pins c.new-4.ensures.views c.new-4.ensures.none all.2 c.in_ok-keeper.ensures.pins)
