use Rattle.std.proofs.Common.{◌≡◌, ◌∙◌, ◌<◌, ◌^◌, ℕ, Some, None, length, sym, ap, rules, arith}
use Rattle.byteorder.specs.Endian.{little_bytes}
use Rattle.mapi_values.specs.Values.{in_field}
use Rattle.property_context.specs.Writing.{PutsBytes}
use Rattle.property_context.proofs.WriteLaws.{entry_is, field-width, puts-fixed, puts-named, width-most}
use Rattle.property_context.proofs.write.put_value.Goals as goal

pub entry-requires : goal.entry-requires
entry-requires c =
    let is : in_field c.args.value.now.kind ≡ Some c.in-Some.field-0 = ap in_field (sym c.kind-kind.ensures) ∙ sym c.in-Some.ensures in
    let width : c.in-Some.field-0 ≡ length c.args.value.now.bytes = field-width c.args.value.now.kind c.in-Some.field-0 (length c.args.value.now.bytes) is c.bytes-bytes.ensures.fit in
    omega (arith, width, width-most c.args.value.now.kind c.in-Some.field-0 is, c.bytes-bytes.ensures.len)

pub returns-in_ok-entry-in-Some : goal.returns-in_ok-entry-in-Some
returns-in_ok-entry-in-Some c =
    let v = c.args.value.now in
    let is : in_field c.args.value.now.kind ≡ Some c.in-Some.field-0 = ap in_field (sym c.kind-kind.ensures) ∙ sym c.in-Some.ensures in
    let id : c.from-id.result ≡ c.args.value.now.id = omega (arith, c.from-id.ensures, c.id.ensures) in
    let small : c.args.value.now.id < 65536 = omega (arith, c.id.type_inv, c.id.ensures) in
    let kind : c.args.value.now.kind < 65536 = omega (arith, c.kind-kind.type_inv, c.kind-kind.ensures) in
    let entry : c.in_ok-entry-in-Some.field-0 ≡ entry_is c.args.value.now.kind c.args.value.now.bytes =
    c.in_ok-entry-in-Some.ensures ∙ ap (λ (k : ℕ). entry_is k c.bytes-bytes.result.now) c.kind-kind.ensures ∙ ap (entry_is c.args.value.now.kind) c.bytes-bytes.ensures.value in
    rw (id, entry) (puts-fixed c.args.h.now c.args.p.now c.args.value.now c.in-Some.field-0 small kind c.bytes-bytes.ensures.fit is)

pub returns-in_ok-entry-in-None : goal.returns-in_ok-entry-in-None
returns-in_ok-entry-in-None c =
    let is : in_field c.args.value.now.kind ≡ None = ap in_field (sym c.kind-kind.ensures) ∙ sym c.in-None.ensures in
    let id : c.from-id.result ≡ c.args.value.now.id = omega (arith, c.from-id.ensures, c.id.ensures) in
    let small : c.args.value.now.id < 65536 = omega (arith, c.id.type_inv, c.id.ensures) in
    let kind : c.args.value.now.kind < 65536 = omega (arith, c.kind-kind.type_inv, c.kind-kind.ensures) in
    let high : c.in_ok-place-in-None.place < 2 ^ 32 = search rules in
    let entry : c.in_ok-entry-in-None.field-0 ≡ entry_is c.args.value.now.kind (little_bytes 4 c.in_ok-place-in-None.place) =
    c.in_ok-entry-in-None.ensures ∙ ap (λ (k : ℕ). entry_is k c.to_le_bytes.result) c.kind-kind.ensures ∙ ap (entry_is c.args.value.now.kind) c.to_le_bytes.ensures in
    let puts : PutsBytes c.args.h.now c.put_bytes.new.h c.args.p.now c.put_bytes.new.p c.args.value.now.bytes c.in_ok-place-in-None.place = rw c.bytes-bytes.ensures.value at c.in_ok-place-in-None.ensures in
    rw (id, entry) (puts-named c.args.h.now c.put_bytes.new.h c.args.p.now c.put_bytes.new.p c.args.value.now c.in_ok-place-in-None.place small kind c.bytes-bytes.ensures.fit is high puts)
