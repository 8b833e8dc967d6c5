use Rattle.std.proofs.Common.{◌≡◌, ◌∙◌, Some, sym}
use Rattle.pst_commit.specs.Held.{pin_at}
use Rattle.pst_commit.proofs.PinLaws.{at_reads, err_weaker, held_beside, none_held, ok_weaker}
use Rattle.pst_commit.proofs.pins.FileKeeperPinner.get_at.Goals as goal

pub unreachable-requires : goal.unreachable-requires
unreachable-requires g c = none_held c.args.p (g.S.NodeStore.held c.args.self.now.store) (sym c.pin_at.ensures ∙ c.in_default.is) c.requires.is_open

pub returns-clause-node : goal.returns-clause-node
returns-clause-node g c =
    let k = c.args.self.now in
    let held = g.S.NodeStore.held k.store in
    let at : pin_at c.args.p held ≡ Some c.in-Some.pin = sym c.pin_at.ensures ∙ c.in-Some.is in
    ok_weaker c.node.result _ _ (λ y tells N holds M is. tells M (at_reads k.found N M held c.args.p c.in-Some.pin at c.rooted-header.ensures holds is)) c.node.ensures.node

pub returns-clause-stops : goal.returns-clause-stops
returns-clause-stops g c =
    let k = c.args.self.now in
    let held = g.S.NodeStore.held k.store in
    let at : pin_at c.args.p held ≡ Some c.in-Some.pin = sym c.pin_at.ensures ∙ c.in-Some.is in
    err_weaker c.node.result _ _ _ _ _ (λ N both. (both.1, at_reads k.found N both.1 held c.args.p c.in-Some.pin at c.rooted-header.ensures both.0 both.2)) c.node.ensures.stops

pub returns-clause-stays : goal.returns-clause-stays
returns-clause-stays g c = λ N holds M is.
    let k = c.args.self.now in
    let held = g.S.NodeStore.held k.store in
    let at : pin_at c.args.p held ≡ Some c.in-Some.pin = sym c.pin_at.ensures ∙ c.in-Some.is in
    held_beside k.found N M c.args.p c.in-Some.pin c.node.ensures.looks at c.rooted-header.ensures holds is
