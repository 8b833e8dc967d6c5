use Rattle.std.proofs.Common.{◌∙◌, ◌≡◌, ◌<◌, ap, length, arith, length-set}
use Rattle.std.proofs.lemmas.List.{get_or_read, get_or-set_other}
use Rattle.alloc_map.proofs.BitLaws.{length-bits_of, or_step, united}
use Rattle.alloc_map.proofs.bits.Bits.unite.Goals as goal

pub index_mut-requires : goal.index_mut-requires
index_mut-requires c =
    omega (arith, ap length c.self.view_is, ap length c.other.view_is, length-bits_of c.self.inside.bytes.items, length-bits_of c.other.inside.bytes.items, c.loop-at.self-inside.bytes.ok.0, c.loop-at.invariant.size, ap length c.as_slice-added.ensures.value)

pub loop-at-preserved : goal.loop-at-preserved
loop-at-preserved c =
    let now = c.loop-at.self-inside.bytes in
    let within : c.loop-at.at < length now.items = omega (arith, ap length c.self.view_is, ap length c.other.view_is, length-bits_of c.self.inside.bytes.items, length-bits_of c.other.inside.bytes.items, c.loop-at.invariant.size, ap length c.as_slice-added.ensures.value) in
    let read = get_or_read now.items _ _ within c.index_mut.ensures.value 0 in
    let one = c.self.inside.bytes.items in
    let added = c.as_slice-added.result.now in
    let same = c.loop-at.invariant.ahead c.loop-at.at (omega arith) in
    record {
      size = length-set now.items _ _ ∙ c.loop-at.invariant.size;
      passed = or_step one now.items added c.loop-at.at c.index_mut.result.now within read same c.loop-at.invariant.passed;
      ahead = λ k past. get_or-set_other now.items c.loop-at.at k _ 0 (λ e. omega arith) ∙ c.loop-at.invariant.ahead k (omega arith);
    }

pub returns : goal.returns
returns c =
    let one = c.self.inside.bytes in
    let other = c.other.inside.bytes in
    let items = c.as_slice-added.ensures.value in
    let size : length other.items ≡ length one.items = omega (arith, ap length c.self.view_is, ap length c.other.view_is, length-bits_of one.items, length-bits_of other.items) in
    rw (← c.self.view_is, ← c.other.view_is) (united one.items other.items c.loop-at.self-inside.bytes.items size c.loop-at.invariant.size (λ k below. rw items at (c.loop-at.invariant.passed k (omega (arith, ap length items, size)))))
