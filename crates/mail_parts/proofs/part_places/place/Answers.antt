use Rattle.std.proofs.Common.{◌≡◌, ◌∙◌, ℕ, true, List, [], map, MatchResult, sym, ap, subst}
use Rattle.mapi_values.specs.Keyed.{IsGap, IsHere, keys_ascend}
use Rattle.mapi_values.specs.Messages.{Mes, part_id, row_ids}
use Rattle.mapi_values.specs.Values.{Val}
use Rattle.mail_parts.proofs.PartTables.{ascend_alike, place_alike}
use Rattle.mail_parts.proofs.part_places.place.Goals as goal

pub returns-in-Some-clause-place : goal.returns-in-Some-clause-place
returns-in-Some-clause-place c =
    let k = c.args.nid.bits in
    let named : map part_id c.behind-mail.inside.parts.items ≡ map (λ (r : ℕ × List Val). r.0) c.rows.result.now =
    c.behind-mail.invariant.named ∙ ap row_ids c.in-Some.is ∙ sym (ap (λ (rs : List (ℕ × List Val)). map (λ (r : ℕ × List Val). r.0) rs) c.rows.ensures.value) in
    subst (λ (m : Mes). MatchResult c.row_place.result (IsHere part_id k m.parts) (IsGap part_id k m.parts)) (c.behind-mail.view_is ∙ c.message.ensures.message)
    (place_alike part_id (λ (r : ℕ × List Val). r.0) k c.behind-mail.inside.parts.items c.rows.result.now (0, []) c.row_place.result named c.row_place.ensures)

pub returns-in-Some-clause-ascend : goal.returns-in-Some-clause-ascend
returns-in-Some-clause-ascend c =
    let named : map part_id c.behind-mail.inside.parts.items ≡ map (λ (r : ℕ × List Val). r.0) c.rows.result.now =
    c.behind-mail.invariant.named ∙ ap row_ids c.in-Some.is ∙ sym (ap (λ (rs : List (ℕ × List Val)). map (λ (r : ℕ × List Val). r.0) rs) c.rows.ensures.value) in
    subst (λ (m : Mes). keys_ascend part_id 0 m.parts ≡ true) (c.behind-mail.view_is ∙ c.message.ensures.message)
    (ascend_alike part_id (λ (r : ℕ × List Val). r.0) 0 c.behind-mail.inside.parts.items c.rows.result.now named (rw c.rows.ensures.value c.rows.ensures.table.ascend))
