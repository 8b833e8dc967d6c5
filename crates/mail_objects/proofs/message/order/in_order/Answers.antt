use Rattle.std.proofs.Common.{◌≡◌, ◌∙◌, ◌++◌, ℕ, List, sym, ap}
use Rattle.std.proofs.lemmas.List.{append-nil}
use Rattle.std.specs.Map.{values_of}
use Rattle.pst_base.specs.declared.subs.Sub.{Sub}
use Rattle.mapi_values.specs.Keyed.{find_key}
use Rattle.node_values.specs.Subnodes.{sub_id}
use Rattle.mail_objects.proofs.OrderLaws.{all-above, are-at, found-at, sorted-ascends, values-ascend, values-found}
use Rattle.mail_objects.proofs.SizeLaws.{order-size}
use Rattle.mail_objects.proofs.message.order.in_order.Goals as goal

pub returns-clause-found : goal.returns-clause-found
returns-clause-found c = λ nid.
    let es = c.in_ok-map.map.entries in
    let all : c.loop-sub.sorted.items ≡ values_of es =
    sym (append-nil c.loop-sub.sorted.items) ∙ ap (λ (xs : List (ℕ × Sub)). c.loop-sub.sorted.items ++ values_of xs) (sym c.in-None.ensures.steps.0) ∙ c.loop-sub.invariant.so_far
    ∙ ap (λ (xs : List (ℕ × Sub)). values_of xs) c.into_iter-sub-iterator.ensures.into_iter_gives.0 in
    let ascend = sorted-ascends 0 es (all-above _) c.len.ensures.ordered in
    let at = are-at 0 es (λ (n : ℕ). find_key sub_id n c.args.subs.items) ascend (λ n le. c.in_ok-map.ensures.found n) (found-at c.args.subs.items) in
    rw all (values-found nid es at ∙ c.in_ok-map.ensures.found nid)

pub returns-clause-ascend : goal.returns-clause-ascend
returns-clause-ascend c =
    let es = c.in_ok-map.map.entries in
    let all : c.loop-sub.sorted.items ≡ values_of es =
    sym (append-nil c.loop-sub.sorted.items) ∙ ap (λ (xs : List (ℕ × Sub)). c.loop-sub.sorted.items ++ values_of xs) (sym c.in-None.ensures.steps.0) ∙ c.loop-sub.invariant.so_far
    ∙ ap (λ (xs : List (ℕ × Sub)). values_of xs) c.into_iter-sub-iterator.ensures.into_iter_gives.0 in
    let ascend = sorted-ascends 0 es (all-above _) c.len.ensures.ordered in
    let at = are-at 0 es (λ (n : ℕ). find_key sub_id n c.args.subs.items) ascend (λ n le. c.in_ok-map.ensures.found n) (found-at c.args.subs.items) in
    rw all (values-ascend 0 es at ascend)

pub returns-clause-size : goal.returns-clause-size
returns-clause-size c = order-size c.loop-sub.sorted.items c.args.subs.items (returns-clause-ascend c) (returns-clause-found c)
