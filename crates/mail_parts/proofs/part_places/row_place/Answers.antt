use Rattle.std.proofs.Common.{ℕ, List, rules}
use Rattle.std.proofs.lemmas.List.Sorted.{answers_always}
use Rattle.mapi_values.specs.Values.{Val}
use Rattle.mapi_values.proofs.KeyedLaws.{searched}
use Rattle.mail_parts.proofs.part_places.row_place.Goals as goal

-- the closure gives a row's id
pub returns : goal.returns
returns c =
    let facts = c.binary_search_by_key.ensures in
    let by_key = facts.position (λ (r : ℕ × List Val). r.0) (answers_always _ _ _ (λ f a r h called. search rules)) in
    searched (λ (r : ℕ × List Val). r.0) c.args.rows.now c.args.nid.bits _ c.requires facts.bound by_key
