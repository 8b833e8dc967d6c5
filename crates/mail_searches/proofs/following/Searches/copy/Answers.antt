use Rattle.std.proofs.Common.{◌∙◌, ap, arith}
use Rattle.std.proofs.lemmas.List.{take_all}
use Rattle.mapi_values.specs.Keyed.{keys_ascend}
use Rattle.mail_searches.specs.Searches.{search_id}
use Rattle.mail_searches.proofs.following.Searches.copy.Goals as goal

pub invariant_of-result : goal.invariant_of-result
invariant_of-result c =
    let copied = c.loop-search.invariant ∙ take_all _ _ (omega (arith, c.loop-search-test.false)) ∙ c.deref-search-items.ensures.value in
    ap (keys_ascend search_id 0) copied ∙ c.self.invariant
