use Rattle.std.proofs.Common.{◌∙◌, ◌*◌, List, ℕ, ap, sym, length, take, drop, arith}
use Rattle.std.proofs.lemmas.List.{length-drop, length-take-le}
use Rattle.alloc_map.specs.Packed.{bits_of}
use Rattle.alloc_map.proofs.BitLaws.{bits_of-part, length-bits_of}
use Rattle.alloc_map.proofs.bits.Bits.region.Goals as goal

pub part-requires : goal.part-requires
part-requires c =
    omega (arith, length-bits_of c.self.inside.bytes.items, ap length c.self.view_is, ap length c.as_slice.ensures.value)

pub copy_from_slice-requires : goal.copy_from_slice-requires
copy_from_slice-requires c =
    let bytes = c.as_slice.result.now in
    sym (ap length c.part.ensures ∙ length-take-le 496 (drop (496 * c.args.region) bytes)
    (omega (arith, length-drop (496 * c.args.region) bytes, length-bits_of c.self.inside.bytes.items, ap length c.self.view_is, ap length c.as_slice.ensures.value)))

pub returns : goal.returns
returns c =
    let bytes = c.self.inside.bytes.items in
    let r = c.args.region in
    rw (← c.self.view_is) (ap bits_of (c.copy_from_slice.ensures.after ∙ c.part.ensures ∙ ap (λ (xs : List ℕ). take 496 (drop (496 * r) xs)) c.as_slice.ensures.value)
    ∙ bits_of-part bytes r (omega (arith, length-bits_of bytes, ap length c.self.view_is)))
