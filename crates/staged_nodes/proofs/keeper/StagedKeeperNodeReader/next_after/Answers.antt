use Rattle.staged_nodes.proofs.LookLaws.{not_done, open_shows, shows_looked, shows_open}
use Rattle.staged_nodes.proofs.keeper.StagedKeeperNodeReader.next_after.Goals as goal

pub returns-in_err-below-clause-stays : goal.returns-in_err-below-clause-stays
returns-in_err-below-clause-stays g c = λ M shows. let looks = c.next_below.ensures.looks in open_shows c.args.self.now.done M (not_done c.args.self.now.done c.if-is_some.ensures) (shows_looked _ _ _ _ looks.stays looks.pins looks.counters looks.space (shows_open c.args.self.now.done M (not_done c.args.self.now.done c.if-is_some.ensures) shows))

pub returns-clause-next : goal.returns-clause-next
returns-clause-next g c = λ M shows.
    let over = shows_open c.args.self.now.done M (not_done c.args.self.now.done c.if-is_some.ensures) shows in
    let N = over.some in
    c.lesser.ensures N M c.args.self.now.staging.now.slots c.args.nid over.over (c.in_ok-below.ensures.next N (over.stays N over.was)) c.next_put.ensures

pub returns-clause-stays : goal.returns-clause-stays
returns-clause-stays g c = λ M shows. let looks = c.next_below.ensures.looks in open_shows c.args.self.now.done M (not_done c.args.self.now.done c.if-is_some.ensures) (shows_looked _ _ _ _ looks.stays looks.pins looks.counters looks.space (shows_open c.args.self.now.done M (not_done c.args.self.now.done c.if-is_some.ensures) shows))
