use Rattle.std.proofs.Common.{◌≡◌, ◌∙◌, ℕ, List, sym}
use Rattle.pst_outside.specs.World.{Image}
use Rattle.pst_outside.proofs.Moments.{weaker}
use Rattle.node_port.specs.Nodes.{Nodes}
use Rattle.mail_store.specs.Planning.{StandsFor}
use Rattle.mail_store.proofs.StoreLaws.{on_ok, shown_stands}
use Rattle.mail_store.proofs.store.save.Goals as goal

pub returns-clause-same : goal.returns-clause-same
returns-clause-same g c = on_ok c.save.result c.save.ensures.same (λ keeps T s rests disk. record {
  shown = record {
    nodes = s.shown.nodes;
    held = keeps rests disk s.shown.nodes s.shown.held;
    at = s.shown.at;
    counters = s.shown.counters ∙ sym c.save.ensures.last;
  };
  knows = s.knows;
})

pub returns-clause-saved : goal.returns-clause-saved
returns-clause-saved g c = on_ok c.save.result c.save.ensures.saved (λ saves T s rests told. saves s.shown.nodes s.shown.held rests told)

pub returns-clause-any_moment : goal.returns-clause-any_moment
returns-clause-any_moment g c = λ T s settled rests.
    let k = c.args.store.now.keeper in
    let old = g.W.Outside.view c.args.w.now in
    let S : Image → Nodes → List ℕ → Type 0 = g.K.Keeper.stands (g.K.NodeReader.room k).found in
    weaker (λ i. (i.said ≡ old.here.said) × StandsFor (S i) T) (c.save.ensures.any_moment s.shown.nodes s.shown.held settled rests)
    (λ i told both. (both.0, shown_stands (S i) (g.K.NodeReader.last k) T s.shown both.1))
