use Rattle.std.proofs.Common.{◌∙◌, ap, sym}
use Rattle.heap_edit.specs.Edits.{put_at}
use Rattle.heap_edit.specs.Known.{Known}
use Rattle.heap_edit.proofs.KnownLaws.{known-found, put-found}
use Rattle.heap_edit.proofs.blocks.KnownBlocks.block.Goals as goal

pub returns-in-Some-clause-found : goal.returns-in-Some-clause-found
returns-in-Some-clause-found c = λ old k.
    let put = ap (λ (e : Known). put_at e.puts c.args.position) (sym c.self.view_is) ∙ sym c.in-Some.ensures in
    c.as_slice.ensures.value ∙ put-found c.args.self.now c.args.position c.in-Some.block.now c.requires put old k

pub returns-in-Some-get-clause-found : goal.returns-in-Some-get-clause-found
returns-in-Some-get-clause-found c = λ old k.
    let unput = ap (λ (e : Known). put_at e.puts c.args.position) (sym c.self.view_is) ∙ sym c.in_default.ensures in
    let known = ap (λ (e : Known). put_at e.known c.args.position) (sym c.self.view_is) ∙ sym c.in-Some-get.ensures in
    c.as_slice-in-Some-get.ensures.value ∙ known-found c.args.self.now c.args.position c.in-Some-get.block.now c.requires unput known old k
