use Rattle.std.proofs.Common.{◌∙◌, sym}
use Rattle.mail_session.proofs.MemoryLaws.{clash, has_none, tells_at}
use Rattle.mail_session.proofs.pinning.MemoryKeeperPinner.get_at.Goals as goal

pub unreachable-requires : goal.unreachable-requires
unreachable-requires g c = clash (sym (has_none c.args.p c.args.self.now.given c.args.self.now.pins.items (sym c.place.ensures ∙ c.in_default.is)) ∙ c.requires.is_open)

pub returns-clause-node : goal.returns-clause-node
returns-clause-node g c = λ N held M tells.
    let copies = tells_at c.args.p c.args.self.now.pins.items c.index.result.now c.in-Some.i M (sym c.place.ensures ∙ c.in-Some.is) c.index.ensures tells in
    c.in_ok-get.ensures ∙ sym (copies c.args.nid.bits)
