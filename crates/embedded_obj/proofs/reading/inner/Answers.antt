use Rattle.std.proofs.Common.{◌≡◌, Some}
use Rattle.std.proofs.lemmas.Result.{IfOk-weaker}
use Rattle.node_values.specs.Subnodes.{contents, subnode}
use Rattle.embedded_obj.proofs.InnerLaws.{was-read}
use Rattle.embedded_obj.proofs.reading.inner.Goals as goal

pub returns : goal.returns
returns c =
    let part = c.args.part.now in
    let sub = c.in-Some-find.sub.now in
    let there : Some (contents sub) ≡ subnode part.kept c.in-Some.bits = rw c.in_ok-finder.ensures at c.in-Some-find.ensures.node in
    IfOk-weaker c.read_mail.result _ _ (λ found read. was-read part c.in-Some.bits sub found c.in-Some.ensures there (rw c.in_ok-node.ensures at read)) c.read_mail.ensures
