use Rattle.std.proofs.Common.{◌≡◌, ◌⊎◌, inl, refl, true, Some, subst, sym, ℕ, List}
use Rattle.pst_outside.specs.World.{Image}
use Rattle.pst_outside.proofs.Moments.{started, weaker}
use Rattle.mail_tree.specs.Step.{after}
use Rattle.mail_store.specs.Planning.{StandsFor, Carries}
use Rattle.node_port.specs.Nodes.{Nodes}
use Rattle.mail_store.proofs.StoreLaws.{applied, applied_stands, on_ok, shown_stands}
use Rattle.mail_store.proofs.store.apply_change.Goals as goal

pub returns-in-Some-clause-made : goal.returns-in-Some-clause-made
returns-in-Some-clause-made g c =
    let is = c.in-Some.is in
    rw is
    (applied c.apply.result (g.K.NodeReader.holds c.args.keeper.now (g.W.Outside.view c.args.w.now)) (g.K.NodeReader.holds c.apply.new.self (g.W.Outside.view c.apply.new.w))
    (g.K.NodeReader.last c.args.keeper.now) (g.K.NodeReader.last c.apply.new.self) (g.K.Keeper.fits c.args.keeper.now (g.W.Outside.view c.args.w.now)) c.in-Some.ready
    ((g.W.Outside.view c.args.w.now).tells → g.K.Keeper.rests (g.W.Outside.view c.args.w.now).here) (g.K.NodeReader.has_disk ≡ true → (g.W.Outside.view c.apply.new.w).tells) c.apply.ensures.made c.apply.ensures.last)

pub returns-in-Some-clause-any_moment : goal.returns-in-Some-clause-any_moment
returns-in-Some-clause-any_moment g c = λ T o s carries settled rests.
    let k = c.args.keeper.now in
    let S : Image → Nodes → List ℕ → Type 0 = g.K.Keeper.stands (g.K.NodeReader.room k).found in
    let fits = g.K.Keeper.fits k (g.W.Outside.view c.args.w.now) in
    let is = c.in-Some.is in
    let own : Carries fits T o (Some c.in-Some.ready) = rw is at carries in
    weaker (λ i. (i.said ≡ (g.W.Outside.view c.args.w.now).here.said) × (StandsFor (S i) T ⊎ StandsFor (S i) (after T o))) (c.apply.ensures.any_moment o.last own.0 own.1 s.nodes s.held settled rests)
    (λ i told either. (either.0, applied_stands (S i) (g.K.NodeReader.last k) T o s own.0 own.2 either.1))

pub returns-in-None-clause-any_moment : goal.returns-in-None-clause-any_moment
returns-in-None-clause-any_moment g c = λ T o s carries settled rests.
    let k = c.args.keeper.now in
    let w = g.W.Outside.view c.args.w.now in
    let S : Image → Nodes → List ℕ → Type 0 = g.K.Keeper.stands (g.K.NodeReader.room k).found in
    let P : Image → Type 0 = λ i. (i.said ≡ w.here.said) × (StandsFor (S i) T ⊎ StandsFor (S i) (after T o)) in
    let here : P w.here = (refl, inl (shown_stands (S w.here) (g.K.NodeReader.last k) T s (g.met.K.Keeper.held_stands k c.args.w.now s.nodes s.held))) in
    started w P (λ told. here) (λ i left. subst P (sym (settled i left)) here)

pub returns-in-Some-clause-applied : goal.returns-in-Some-clause-applied
returns-in-Some-clause-applied g c =
    let is = c.in-Some.is in
    rw is (on_ok c.apply.result c.apply.ensures.applied (λ alters T s rests told last cs fits. alters last cs fits s.nodes s.held rests told))
