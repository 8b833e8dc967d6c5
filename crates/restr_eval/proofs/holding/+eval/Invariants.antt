use Rattle.std.proofs.Common.{◌≡◌, ◌+◌, ◌*◌, drop, map}
use Rattle.std.specs.List.{list_any}
use Rattle.restr_codec.specs.Restr.{count, count_all}
use Rattle.restr_codec.specs.Forms.{restrs}
use Rattle.restr_eval.specs.Eval.{all_hold, alone, asked, eval, some_holds}
use Rattle.restr_eval.specs.Reached.{reached, reached_in_all, reached_in_some, steps_among}
use Rattle.restr_eval.proofs.holding.+eval.Given as goal

abbrev pub decreases-holds : goal.decreases-holds
decreases-holds g l = 2 * count l.r.now

abbrev pub decreases-all_hold : goal.decreases-all_hold
decreases-all_hold g l = 2 * count_all (restrs l.inner.now.items) + 1

abbrev pub decreases-some_holds : goal.decreases-some_holds
decreases-some_holds g l = 2 * count_all (restrs l.inner.now.items) + 1

abbrev pub decreases-holds_in_rows : goal.decreases-holds_in_rows
decreases-holds_in_rows g l = 2 * count l.inner.now + 1

abbrev pub decreases-holds_in_parts : goal.decreases-holds_in_parts
decreases-holds_in_parts g l = 2 * count l.inner.now + 1

abbrev pub invariant-all_hold-loop-one : goal.invariant-all_hold-loop-one
invariant-all_hold-loop-one g l =
    let s = asked l.props l.recipients l.parts in
    (all_hold (restrs l.inner.items) s ≡ all_hold (restrs (drop l.one-index l.one-items)) s)
    × (l.steps + reached_in_all (restrs (drop l.one-index l.one-items)) s ≡ l.fn.steps + reached_in_all (restrs l.inner.items) s)

abbrev pub invariant-some_holds-loop-one : goal.invariant-some_holds-loop-one
invariant-some_holds-loop-one g l =
    let s = asked l.props l.recipients l.parts in
    (some_holds (restrs l.inner.items) s ≡ some_holds (restrs (drop l.one-index l.one-items)) s)
    × (l.steps + reached_in_some (restrs (drop l.one-index l.one-items)) s ≡ l.fn.steps + reached_in_some (restrs l.inner.items) s)

abbrev pub invariant-holds_in_rows-loop-row : goal.invariant-holds_in_rows-loop-row
invariant-holds_in_rows-loop-row g l =
    (list_any (λ props. eval l.inner (alone props)) (map (λ r. r.1) l.rows) ≡ list_any (λ props. eval l.inner (alone props)) (map (λ r. r.1) (drop l.row-index l.rows)))
    × (l.steps + steps_among (λ props. eval l.inner (alone props)) (λ props. reached l.inner (alone props)) (map (λ r. r.1) (drop l.row-index l.rows))
    ≡ l.fn.steps + steps_among (λ props. eval l.inner (alone props)) (λ props. reached l.inner (alone props)) (map (λ r. r.1) l.rows))

abbrev pub invariant-holds_in_parts-loop-part : goal.invariant-holds_in_parts-loop-part
invariant-holds_in_parts-loop-part g l =
    (list_any (λ props. eval l.inner (alone props)) (map (λ part. part.props) l.parts) ≡ list_any (λ props. eval l.inner (alone props)) (map (λ part. part.props) (drop l.part-index l.parts)))
    × (l.steps + steps_among (λ props. eval l.inner (alone props)) (λ props. reached l.inner (alone props)) (map (λ part. part.props) (drop l.part-index l.parts))
    ≡ l.fn.steps + steps_among (λ props. eval l.inner (alone props)) (λ props. reached l.inner (alone props)) (map (λ part. part.props) l.parts))
