use Rattle.std.proofs.Common.{◌∙◌, sym}
use Rattle.mail_session.proofs.MemoryLaws.{clash, has_none, next_tells, tells_at}
use Rattle.mail_session.proofs.pinning.MemoryKeeperPinner.next_at.Goals as goal

pub unreachable-requires : goal.unreachable-requires
unreachable-requires g c = clash (sym (has_none c.args.p c.args.self.now.given c.args.self.now.pins.items (sym c.place.ensures ∙ c.in_default.is)) ∙ c.requires.is_open)

pub returns-clause-next : goal.returns-clause-next
returns-clause-next g c = λ N held M tells.
    let copies = tells_at c.args.p c.args.self.now.pins.items c.index.result.now c.in-Some.i M (sym c.place.ensures ∙ c.in-Some.is) c.index.ensures tells in
    next_tells c.index.result.now.nodes M c.args.nid c.next_after.result copies c.next_after.ensures
