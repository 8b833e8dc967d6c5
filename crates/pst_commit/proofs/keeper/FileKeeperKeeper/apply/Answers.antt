use Rattle.std.proofs.Common.{refl, sym, ap, subst, rules, arith}
use Rattle.node_port.specs.Nodes.{changed}
use Rattle.lays_kept.specs.Kept.{HoldsEach, Scattered}
use Rattle.lays_kept.specs.Stands.{Commits}
use Rattle.lays_kept.proofs.Gates.{shut_file}
use Rattle.lays_kept.proofs.Plans.{plan_commits}
use Rattle.pst_commit.specs.Commit.{IsApplied, LeavesEither, bytes_in}
use Rattle.file_blocks.specs.Blocks.{file_of}
use Rattle.pst_commit.specs.Held.{StandsAt, held_at, opened_of}
use Rattle.pst_commit.specs.Keeping.{Comes, pins_of}
use Rattle.pst_commit.proofs.Holding.{next_keeps, next_becomes, next_costs}
use Rattle.pst_commit.proofs.PinLaws.{next_pinned}
use Rattle.pst_commit.proofs.keeper.FileKeeperKeeper.apply.Goals as goal

pub returns-in_err-apply_pieces-clause-any_moment : goal.returns-in_err-apply_pieces-clause-any_moment
returns-in_err-apply_pieces-clause-any_moment g c = λ last cs fits N held settled rests.
    let k = c.args.self.now in
    let old = g.W.Outside.view c.args.w.now in
    let ready = c.args.ready in
    let after = g.S.NodeStore.knows_after k.store ready.adopts in
    let comes : Comes after (g.S.NodeStore.becomes (opened_of (g.S.NodeStore.held k.store))) g.S.NodeStore.costs (g.S.NodeStore.held k.store) k.found k.header old.here.main ready.pieces.items ready.sealed ready.header cs N
    = subst (λ f. Comes after (g.S.NodeStore.becomes (opened_of (g.S.NodeStore.held k.store))) g.S.NodeStore.costs (g.S.NodeStore.held k.store) k.found k.header f ready.pieces.items ready.sealed ready.header cs N) (shut_file old.here.main old.here.side (rests held.0)) (fits.1 N held) in
    let slice = c.as_slice.result.now in
    let next = ready.header.indexes in
    let commits : Commits k.found (Scattered slice old.here.main) (λ mid. HoldsEach mid slice) ready.sealed N k.header.indexes (changed N cs) next
    = subst (λ ps. Commits k.found (Scattered ps old.here.main) (λ mid. HoldsEach mid ps) ready.sealed N k.header.indexes (changed N cs) next) (sym c.as_slice.ensures.value) (plan_commits comes.plan) in
    subst (λ l. LeavesEither old (g.W.Outside.view c.apply_pieces.new.w) k.found N k.header.indexes (changed N cs) l) fits.0
    (c.apply_pieces.ensures.any_moment settled rests k.found N k.header.indexes (changed N cs) next (λ told. commits))

pub returns-clause-any_moment : goal.returns-clause-any_moment
returns-clause-any_moment g c = λ last cs fits N held settled rests.
    let k = c.args.self.now in
    let old = g.W.Outside.view c.args.w.now in
    let ready = c.args.ready in
    let after = g.S.NodeStore.knows_after k.store ready.adopts in
    let comes : Comes after (g.S.NodeStore.becomes (opened_of (g.S.NodeStore.held k.store))) g.S.NodeStore.costs (g.S.NodeStore.held k.store) k.found k.header old.here.main ready.pieces.items ready.sealed ready.header cs N
    = subst (λ f. Comes after (g.S.NodeStore.becomes (opened_of (g.S.NodeStore.held k.store))) g.S.NodeStore.costs (g.S.NodeStore.held k.store) k.found k.header f ready.pieces.items ready.sealed ready.header cs N) (shut_file old.here.main old.here.side (rests held.0)) (fits.1 N held) in
    let slice = c.as_slice.result.now in
    let next = ready.header.indexes in
    let commits : Commits k.found (Scattered slice old.here.main) (λ mid. HoldsEach mid slice) ready.sealed N k.header.indexes (changed N cs) next
    = subst (λ ps. Commits k.found (Scattered ps old.here.main) (λ mid. HoldsEach mid ps) ready.sealed N k.header.indexes (changed N cs) next) (sym c.as_slice.ensures.value) (plan_commits comes.plan) in
    subst (λ l. LeavesEither old (g.W.Outside.view c.apply_pieces.new.w) k.found N k.header.indexes (changed N cs) l) fits.0
    (c.apply_pieces.ensures.any_moment settled rests k.found N k.header.indexes (changed N cs) next (λ told. commits))

pub returns-clause-made : goal.returns-clause-made
returns-clause-made g c = λ last cs fits rests disk N held.
    let told = disk refl in
    let k = c.args.self.now in
    let old = g.W.Outside.view c.args.w.now in
    let ready = c.args.ready in
    let after = g.S.NodeStore.knows_after k.store ready.adopts in
    let comes : Comes after (g.S.NodeStore.becomes (opened_of (g.S.NodeStore.held k.store))) g.S.NodeStore.costs (g.S.NodeStore.held k.store) k.found k.header old.here.main ready.pieces.items ready.sealed ready.header cs N
    = subst (λ f. Comes after (g.S.NodeStore.becomes (opened_of (g.S.NodeStore.held k.store))) g.S.NodeStore.costs (g.S.NodeStore.held k.store) k.found k.header f ready.pieces.items ready.sealed ready.header cs N) (shut_file old.here.main old.here.side (rests held.0)) (fits.1 N held) in
    let new = g.W.Outside.view c.apply_pieces.new.w in
    let is : IsApplied (λ mid. Scattered ready.pieces.items old.here.main mid × HoldsEach mid ready.pieces.items) ready.sealed old.here new.here
    = subst (λ ps. IsApplied (λ mid. Scattered ps old.here.main mid × HoldsEach mid ps) ready.sealed old.here new.here) c.as_slice.ensures.value (c.in_ok-apply_pieces.ensures.applied rests told) in
    (told, next_keeps (g.S.NodeStore.knows c.adopt.new.self) comes (search rules) (λ file known. c.adopt.ensures.known ready.header file known) is)

pub returns-clause-applied : goal.returns-clause-applied
returns-clause-applied g c = λ last cs fits N held rests told.
    let k = c.args.self.now in
    let old = g.W.Outside.view c.args.w.now in
    let ready = c.args.ready in
    let after = g.S.NodeStore.knows_after k.store ready.adopts in
    let comes : Comes after (g.S.NodeStore.becomes (opened_of (g.S.NodeStore.held k.store))) g.S.NodeStore.costs (g.S.NodeStore.held k.store) k.found k.header old.here.main ready.pieces.items ready.sealed ready.header cs N
    = subst (λ f. Comes after (g.S.NodeStore.becomes (opened_of (g.S.NodeStore.held k.store))) g.S.NodeStore.costs (g.S.NodeStore.held k.store) k.found k.header f ready.pieces.items ready.sealed ready.header cs N) (shut_file old.here.main old.here.side (rests held.0)) (fits.1 N held) in
    let new = g.W.Outside.view c.apply_pieces.new.w in
    let is : IsApplied (λ mid. Scattered ready.pieces.items old.here.main mid × HoldsEach mid ready.pieces.items) ready.sealed old.here new.here
    = subst (λ ps. IsApplied (λ mid. Scattered ps old.here.main mid × HoldsEach mid ps) ready.sealed old.here new.here) c.as_slice.ensures.value (c.in_ok-apply_pieces.ensures.applied rests told) in
    record { made = next_becomes (rests held.0) comes is; in_pieces = bytes_in ready.pieces.items; cost = next_costs (rests held.0) comes is; few = omega arith }

pub returns-clause-pins : goal.returns-clause-pins
returns-clause-pins g c = ap (pins_of c.args.self.now.given) c.adopt.ensures.pins

pub returns-clause-pinned : goal.returns-clause-pinned
returns-clause-pinned g c = λ rests disk N held p M is.
    let told = disk refl in
    let cs = c.requires.fits.1 in
    let fits = c.requires.fits.2 in
    let k = c.args.self.now in
    let old = g.W.Outside.view c.args.w.now in
    let ready = c.args.ready in
    let after = g.S.NodeStore.knows_after k.store ready.adopts in
    let comes : Comes after (g.S.NodeStore.becomes (opened_of (g.S.NodeStore.held k.store))) g.S.NodeStore.costs (g.S.NodeStore.held k.store) k.found k.header old.here.main ready.pieces.items ready.sealed ready.header cs N
    = subst (λ f. Comes after (g.S.NodeStore.becomes (opened_of (g.S.NodeStore.held k.store))) g.S.NodeStore.costs (g.S.NodeStore.held k.store) k.found k.header f ready.pieces.items ready.sealed ready.header cs N) (shut_file old.here.main old.here.side (rests held.0)) (fits.1 N held) in
    let new = g.W.Outside.view c.apply_pieces.new.w in
    let done : IsApplied (λ mid. Scattered ready.pieces.items old.here.main mid × HoldsEach mid ready.pieces.items) ready.sealed old.here new.here
    = subst (λ ps. IsApplied (λ mid. Scattered ps old.here.main mid × HoldsEach mid ps) ready.sealed old.here new.here) c.as_slice.ensures.value (c.in_ok-apply_pieces.ensures.applied rests told) in (
      told,
      subst (λ h. StandsAt ready.header (file_of new.here) (held_at p h) M) (sym c.adopt.ensures.pins)
          (next_pinned (rests held.0) comes done p M is.1),
    )

pub returns-clause-rests : goal.returns-clause-rests
returns-clause-rests g c = λ rests told. (c.in_ok-apply_pieces.ensures.applied rests told).shut
