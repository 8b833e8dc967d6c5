use Rattle.std.proofs.Common.{rules}
use Rattle.std.proofs.lemmas.List.Sorted.{answers_always}
use Rattle.mapi_values.proofs.KeyedLaws.{searched}
use Rattle.mapi_values.proofs.keyed.place.Goals as goal

-- the closure gives an element's key
pub returns : goal.returns
returns g c =
    let facts = c.binary_search_by_key.ensures in
    let by_key = facts.position g.T.Keyed.key_of (answers_always _ _ _ (λ f a r h called. search rules)) in
    searched g.T.Keyed.key_of c.args.items.now c.args.key _ c.requires facts.bound by_key
