use Rattle.std.proofs.Common.{rules, ◌≡◌, ◌∙◌, ◌++◌, ◌-◌, ℕ, List, vec_len, take, length, replicate, ap, arith}
use Rattle.byteorder.specs.Endian.{little_bytes}
use Rattle.property_context.proofs.WriteLaws.{entry-made}
use Rattle.property_context.proofs.write.entry.Goals as goal

pub returns : goal.returns
returns c =
    let items : c.extend_from_slice-2.new.self.items ≡ little_bytes 2 c.args.kind ++ c.args.field.now = search (rules, c.in_ok-extend_from_slice-2.ensures.items) in
    let n : 6 - vec_len c.extend_from_slice-2.new.self ≡ 4 - length c.args.field.now = omega (arith, c.in_ok-extend_from_slice-2.ensures.len, c.in_ok-extend_from_slice.ensures.len, c.in_ok-out.ensures.len, c.extend_from_slice-2.ensures.len) in
    c.from_vec.ensures ∙ c.in_ok-resize.ensures.items
    ∙ ap (λ (x : List ℕ). take 6 x ++ replicate (6 - vec_len c.extend_from_slice-2.new.self) 0) items
    ∙ entry-made c.args.kind c.args.field.now (6 - vec_len c.extend_from_slice-2.new.self) c.requires n
