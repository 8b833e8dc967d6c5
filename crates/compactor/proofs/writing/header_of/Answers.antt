use Rattle.std.proofs.Common.{◌≡◌, ◌∙◌, ◌*◌, ℕ, take, ap, arith}
use Rattle.std.specs.Prelude.{count_by, not}
use Rattle.alloc_map.specs.Slots.{regions_of}
use Rattle.compactor.proofs.writing.header_of.Goals as goal

pub returns-clause-header : goal.returns-clause-header
returns-clause-header c =
    let size = c.regions.ensures.size in
    let count : c.regions.result ≡ regions_of c.args.slots.now = omega (arith, size) in
    record {
      succeeds = c.copy_header.ensures.succeeds;
      nbt = c.copy_header.ensures.nbt;
      bbt = c.copy_header.ensures.bbt;
      free = c.copy_header.ensures.free ∙ c.free_bytes.ensures ∙ ap (λ (n : ℕ). 64 * count_by not (take (3968 * n) c.args.slots.now)) count;
      last = c.copy_header.ensures.last;
    }
