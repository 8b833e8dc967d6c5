use Rattle.std.proofs.Common.{◌≡◌, ◌∙◌, ℕ, ◌==◌, List, [], ◌∷◌, Some, if◌then◌else◌, refl, ap, rules, tests}
use Rattle.std.specs.List.{find}
use Rattle.std.proofs.lemmas.Iterator.{YieldsList-from_slice}
use Rattle.std.proofs.lemmas.Iterator.Search.{find_from_yields_List}
use Rattle.mapi_values.specs.Keyed.{find_key}
use Rattle.mapi_values.specs.Messages.{part_id}
use Rattle.mapi_values.specs.declared.part.Part.{Part}
use Rattle.mail_draft.proofs.limits.part_in.Goals as goal

-- the first with an id is the one with this key
found_key : (n : ℕ) (parts : List Part) → find (λ (part : Part). part_id part == n) parts ≡ find_key part_id n parts
found_key n [] = refl
found_key n (p ∷ ps) = ap (λ o. if part_id p == n then Some p else o) (found_key n ps)

pub returns : goal.returns
returns c =
    let n = c.args.nid.bits in
    let parts = c.args.mail.now.parts in
    find_from_yields_List (λ (part : Part). part_id part == n) _ _ c.find.result c.find.ensures.ran (YieldsList-from_slice parts cc) (λ x b q k. search (rules, tests)) ∙ found_key n parts
