use Rattle.std.proofs.Common.{◌≡◌, ◌+◌, suc, ap, arith, map, rules}
use Rattle.mapi_values.specs.declared.part.Part.{Part}
use Rattle.restr_codec.specs.declared.restriction.SubTable.TheVariants.{Attachments, Recipients}
use Rattle.restr_codec.specs.Restr.{sub_object}
use Rattle.restr_eval.specs.Eval.{alone, asked, eval}
use Rattle.restr_eval.specs.Reached.{reached, steps_among}
use Rattle.restr_eval.proofs.holding.+eval.Goals as goal

pub holds-returns-in-Recipients-clause-steps : goal.holds-returns-in-Recipients-clause-steps
holds-returns-in-Recipients-clause-steps g t c =
    let is : c.args.r.now ≡ sub_object Recipients c.in-SubObject.inner.value = search rules in
    let e : reached c.args.r.now (asked c.args.props.now c.args.recipients.now c.args.parts.now)
    ≡ suc (steps_among (λ props. eval c.in-SubObject.inner.value (alone props)) (λ props. reached c.in-SubObject.inner.value (alone props)) (map (λ r. r.1) c.args.recipients.now)) =
    ap (λ r. reached r (asked c.args.props.now c.args.recipients.now c.args.parts.now)) is in
    let s : c.holds_in_rows.new.steps ≡ c.tick.new.self + steps_among (λ props. eval c.in-SubObject.inner.value (alone props)) (λ props. reached c.in-SubObject.inner.value (alone props)) (map (λ r. r.1) c.args.recipients.now) = search rules in
    let one : c.tick.new.self ≡ c.args.steps.now + 1 = search rules in
    omega (arith, e, s, one)

pub holds-returns-in-Attachments-clause-steps : goal.holds-returns-in-Attachments-clause-steps
holds-returns-in-Attachments-clause-steps g t c =
    let is : c.args.r.now ≡ sub_object Attachments c.in-SubObject.inner.value = search rules in
    let e : reached c.args.r.now (asked c.args.props.now c.args.recipients.now c.args.parts.now)
    ≡ suc (steps_among (λ props. eval c.in-SubObject.inner.value (alone props)) (λ props. reached c.in-SubObject.inner.value (alone props)) (map (λ (part : Part). part.props) c.args.parts.now)) =
    ap (λ r. reached r (asked c.args.props.now c.args.recipients.now c.args.parts.now)) is in
    let s : c.holds_in_parts.new.steps ≡ c.tick.new.self + steps_among (λ props. eval c.in-SubObject.inner.value (alone props)) (λ props. reached c.in-SubObject.inner.value (alone props)) (map (λ (part : Part). part.props) c.args.parts.now) = search rules in
    let one : c.tick.new.self ≡ c.args.steps.now + 1 = search rules in
    omega (arith, e, s, one)
