use Rattle.std.proofs.Common.{◌≡◌, ◌∙◌, ℕ, List, length, Ok, refl, ap, subst, arith}
use Rattle.pst_base.specs.declared.ids.Bref.{Bref}
use Rattle.block_frame.specs.Block.{reading}
use Rattle.block_frame.specs.Size.{disk_size_of}
use Rattle.plan_pieces.proofs.BlockLaws.{length-block_of}
use Rattle.plan_pieces.proofs.blocks.seal_block.Goals as goal

pub returns-clause-sealed : goal.returns-clause-sealed
returns-clause-sealed c =
    let at : Bref = record { bid = c.args.block.now.0; ib = c.args.ib } in
    let same : c.as_slice.result.now ≡ c.args.block.now.1 = c.as_slice.ensures.value in
    let size = c.len.ensures in
    let most = c.requires in
    record {
      bid = refl;
      size = size;
      short = omega (arith, size, most);
      place = refl;
      sealed = (
        ap (λ (b : List ℕ). length b) c.in_ok-bytes.ensures.bytes ∙ length-block_of at c.as_slice.result.now ∙ ap (λ (b : List ℕ). disk_size_of (length b)) same,
        subst (λ (b : List ℕ). reading (length b) at c.in_ok-bytes.bytes ≡ Ok b) same c.in_ok-bytes.ensures.reads,
      );
    }
