use Rattle.std.proofs.Common.{◌/◌, ◌∙◌, ap, length, sym}
use Rattle.std.proofs.lemmas.List.{length-map}
use Rattle.mapi_values.specs.Properties.{remove_id}
use Rattle.named_props.specs.Entries.{entry_of}
use Rattle.named_props.proofs.ReadLaws.{all_in_range-length, found-writable}
use Rattle.named_props.proofs.read.read_names.Goals as goal

pub returns-clause-writable : goal.returns-clause-writable
returns-clause-writable c =
    found-writable c.args.p.now _ c.values.ensures.props
    (rw c.values.ensures.value at (sym c.have_their_kinds.ensures ∙ c.if-not-have_their_kinds.false))
    (ap length (c.from_vec-guids.ensures ∙ c.in_ok-from_slice.ensures.items) ∙ c.as_chunks.ensures.front_len ∙ ap (λ bs. length bs / 16) c.bytes_at.ensures.value)
    (ap length c.from_vec-entries.ensures ∙ all_in_range-length _ _ c.in_ok-read_entries.ensures.exact ∙ length-map _ entry_of ∙ c.as_chunks-2.ensures.front_len ∙ ap (λ bs. length bs / 8) c.bytes_at-2.ensures.value)
    (c.remove-2.ensures.others ∙ ap (remove_id 3) (c.remove.ensures.others ∙ ap (remove_id 2) c.in_ok-props.ensures))
