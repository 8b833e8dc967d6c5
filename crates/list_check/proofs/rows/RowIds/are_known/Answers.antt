use Rattle.std.proofs.Common.{◌≡◌, ◌∙◌, ◌<◌, ◌+◌, ◌&&◌, ℕ, Bool, true, false, List, ap, sym, refl, map, drop, length, get_or, add-one, drop-cons}
use Rattle.std.specs.Option.{is_some}
use Rattle.mail_tree.specs.Flags.{FlagList, known_flag}
use Rattle.list_check.specs.declared.rows.RowId.{RowId}
use Rattle.list_check.specs.Watching.{are_known}
use Rattle.list_check.proofs.rows.RowIds.are_known.Goals as goal

-- those from a place on: what is known at it, and those behind
from_here : (flags : FlagList) (xs : List RowId) (i : ℕ) (d : RowId) → i < length xs
    → are_known flags (map (λ (r : RowId). r.bits) (drop i xs)) ≡ (is_some (known_flag ((get_or xs i d).bits) flags) && are_known flags (map (λ (r : RowId). r.bits) (drop (i + 1) xs)))
from_here flags xs i d h = rw (add-one, drop-cons xs i d) refl

stops : (flags : FlagList) (xs : List RowId) (i : ℕ) (d : RowId) → i < length xs → is_some (known_flag ((get_or xs i d).bits) flags) ≡ false
    → are_known flags (map (λ (r : RowId). r.bits) (drop i xs)) ≡ false
stops flags xs i d h none = from_here flags xs i d h ∙ rw none refl

goes_on : (flags : FlagList) (xs : List RowId) (i : ℕ) (d : RowId) → i < length xs → is_some (known_flag ((get_or xs i d).bits) flags) ≡ true
    → are_known flags (map (λ (r : RowId). r.bits) (drop i xs)) ≡ are_known flags (map (λ (r : RowId). r.bits) (drop (i + 1) xs))
goes_on flags xs i d h some = from_here flags xs i d h ∙ rw some refl

pub returns-then-is_none : goal.returns-then-is_none
returns-then-is_none c =
    let flags = c.args.flags.now in
    let none = ap is_some (sym c.get.ensures) ∙ c.if-is_none.ensures in
    let seen = ap (λ (xs : List RowId). are_known flags (map (λ (r : RowId). r.bits) xs)) c.deref-id-items.ensures.value ∙ ap (are_known flags) c.self.view_is in
    sym (sym seen ∙ c.loop-id.invariant ∙ stops flags c.deref-id-items.result.now c.loop-id.id-index (record { bits = 0 }) c.loop-id-test.true none)

pub loop-id-preserved : goal.loop-id-preserved
loop-id-preserved c =
    let some = ap is_some (sym c.get.ensures) ∙ c.if-is_none.ensures in
    c.loop-id.invariant ∙ goes_on c.args.flags.now c.deref-id-items.result.now c.loop-id.id-index (record { bits = 0 }) c.loop-id-test.true some
