use Rattle.std.proofs.Common.{◌≡◌, ℕ, ◌+◌, ◌*◌, ◌<◌, List, [], ◌++◌, Option, take, length, get_or, refl, sym, ap, subst, ◌∙◌, arith, length-drop}
use Rattle.pst_base.specs.declared.ids.Bid.{Bid}
use Rattle.pst_base.specs.declared.subs.Sub.{Sub}
use Rattle.pst_base.specs.Flat.{Flat}
use Rattle.pst_base.specs.Subs.{flattened}
use Rattle.data_tree.specs.Plan.{IsContent, MayKeep, NamesKept, Reaches, ReadsKept, above_kept, fresh, kept_bids, last_id, unkept}
use Rattle.data_tree.proofs.PieceLaws.{all_from-each, each-from_all}
use Rattle.subnode_tree.specs.declared.tables.Row.{Row}
use Rattle.subnode_tree.specs.Plan.{IsForm, Plans, first_list}
use Rattle.subnode_tree.specs.Tables.{Fits, tables}
use Rattle.subnode_tree.proofs.FormLaws.{fewer-inner, form-content, form-inner}
use Rattle.subnode_tree.proofs.PairLaws.{all-may, first-may, may-rest, room-left}
use Rattle.subnode_tree.proofs.SubPlanLaws.{Planned, Underway, few-rows, underway-end, underway-next, underway-start, whole}
use Rattle.subnode_tree.proofs.plan.+plan_from.Goals as goal

along : (a b : List Flat) → a ≡ b → IsForm b → IsForm a
along a b e form = let P : List Flat → Type 0 = λ flats. IsForm flats in subst P (sym e) form

pub loop-sub-init : goal.loop-sub-init
loop-sub-init t c =
    let keep = c.args.keep.now in
    let first = c.args.first in
    let P : List Row → Type 0 = λ rs. Underway keep [] rs first first [] keep in
    let Q : List (Bid × List ℕ) → Type 0 = λ blocks. Underway keep [] c.in_ok-rows.rows.items first first blocks keep in
    subst Q (sym c.new-blocks.ensures.items) (subst P (sym c.in_ok-rows.ensures.items) (underway-start keep first c.requires.high))

pub split_first-requires : goal.split_first-requires
split_first-requires t c =
    let xs = c.as_slice-subs.result.now in
    let room = room-left c.args.keep.now c.loop-sub.rest.now xs c.loop-sub.sub-index c.sub-item.result c.loop-sub-test.true
    (let long = c.requires.long in let size = ap length c.as_slice-subs.ensures in omega arith) c.loop-sub.invariant.rest_is in
    omega (arith, room)

pub plan_data_keep-requires-clause-content : goal.plan_data_keep-requires-clause-content
plan_data_keep-requires-clause-content t c =
    let xs = c.as_slice-subs.result.now in
    let x = c.sub-item.result in
    let P : Sub → Type 0 = λ s. IsContent s.blocks in
    let test = c.loop-sub-test.true in
    let form = along (flattened xs) c.args.s.now c.as_slice-subs.ensures c.requires.form in
    rw c.as_slice.ensures.value (subst P (sym c.sub-item.is) (form-content xs c.loop-sub.sub-index x test form))

pub plan_data_keep-requires-clause-may : goal.plan_data_keep-requires-clause-may
plan_data_keep-requires-clause-may t c =
    let at = c.loop-sub.invariant.at in
    let rest = may-rest c.args.first (length (flattened (take c.loop-sub.sub-index c.as_slice-subs.result.now))) c.args.keep.now c.loop-sub.rest.now c.loop-sub.invariant.rest_is
    (each-from_all (MayKeep c.args.first) c.args.keep.now c.requires.may) in
    rw c.split_first.ensures.own (first-may c.loop-sub.next c.loop-sub.rest.now (all-may c.args.first c.loop-sub.next c.loop-sub.rest.now (omega arith) rest))

pub plan_from-requires : goal.plan_from-requires
plan_from-requires t c =
    let xs = c.as_slice-subs.result.now in
    let x = c.sub-item.result in
    let i = c.loop-sub.sub-index in
    let P : Sub → Type 0 = λ s. IsForm s.subs in
    let test = c.loop-sub-test.true in
    let form = along (flattened xs) c.args.s.now c.as_slice-subs.ensures c.requires.form in
    let fewer = fewer-inner xs i x test in
    let same : length x.subs ≡ length (get_or xs i x).subs = ap (λ (s : Sub). length s.subs) c.sub-item.is in
    let whole : length (flattened xs) ≡ length c.args.s.now = ap length c.as_slice-subs.ensures in
    let after = c.in_ok-after.ensures.same in
    let high = c.in_ok-after.ensures.high in
    let next = c.in_ok-content.ensures.after in
    let at = c.loop-sub.invariant.at in
    let least = c.decreases in
    let less : length x.subs < t = omega arith in
    let long = c.requires.long in
    let room = room-left c.args.keep.now c.loop-sub.rest.now xs i x test (omega arith) c.loop-sub.invariant.rest_is in
    let behind = ap length c.split_first.ensures.others ∙ length-drop 1 c.loop-sub.rest.now in
    let rest = may-rest c.args.first (length (flattened (take i xs))) c.args.keep.now c.loop-sub.rest.now c.loop-sub.invariant.rest_is (each-from_all (MayKeep c.args.first) c.args.keep.now c.requires.may) in
    let others = may-rest c.args.first 1 c.loop-sub.rest.now c.split_first.result.1.now c.split_first.ensures.others rest in
    let may = all_from-each (MayKeep c.in_ok-after.after) c.split_first.result.1.now (all-may c.args.first c.in_ok-after.after c.split_first.result.1.now (omega arith) others) in
    (less, (subst P (sym c.sub-item.is) (form-inner xs i x test form), (omega (arith, room, behind, same), (may, (omega arith, (high, omega arith))))))

pub split_at-requires : goal.split_at-requires
split_at-requires t c =
    let xs = c.as_slice-subs.result.now in
    let x = c.sub-item.result in
    let i = c.loop-sub.sub-index in
    let same : length x.subs ≡ length (get_or xs i x).subs = ap (λ (s : Sub). length s.subs) c.sub-item.is in
    let whole : length (flattened xs) ≡ length c.args.s.now = ap length c.as_slice-subs.ensures in
    let long = c.requires.long in
    let room = room-left c.args.keep.now c.loop-sub.rest.now xs i x c.loop-sub-test.true (omega arith) c.loop-sub.invariant.rest_is in
    let behind = ap length c.split_first.ensures.others ∙ length-drop 1 c.loop-sub.rest.now in
    let count = c.in_ok-below.ensures.count in
    omega (arith, room, behind, same, count)

pub loop-sub-preserved : goal.loop-sub-preserved
loop-sub-preserved t c =
    let xs = c.as_slice-subs.result.now in
    let x = c.sub-item.result in
    let i = c.loop-sub.sub-index in
    let next = c.loop-sub.next in
    let rest = c.loop-sub.rest.now in
    let own = c.split_first.result.0.now in
    let others = c.split_first.result.1.now in
    let bs : List (List ℕ) = x.blocks in
    let content = c.in_ok-content.content.blocks.items in
    let below = c.in_ok-below.below.blocks.items in
    let row : Row = record { nid = x.nid; content = c.in_ok-content.content.bid; subnodes = c.in_ok-below.below.bid } in
    let given = c.in_ok-content.ensures in
    let after = c.in_ok-content.ensures.after in
    let same = c.in_ok-after.ensures.same in
    let limit = c.in_ok-after.ensures.high in
    let end = c.in_ok-below.ensures.after in
    let start : c.in_ok-after.after ≡ next + 4 * length content = same ∙ after in
    let P : ℕ → Type 0 = λ n. Plans others x.subs n c.in_ok-below.below.bid below in
    let value = c.as_slice.ensures.value in
    let mine = c.split_first.ensures.own in
    let planned : Planned (first_list rest) others x row next c.in_ok-below.below.next content below = record {
      nid = refl;
      fits = let R : Row → Type 0 = λ r. Fits r in subst R c.new.ensures.value c.new.ensures.fits;
      rise = given.numbered;
      laid = given.laid ∙ ap (λ (data_here : List (List ℕ)). fresh next own data_here ++ above_kept next own data_here) value ∙ ap (λ (k : List (Option Bid)). fresh next k bs ++ above_kept next k bs) mine;
      marks = given.marked ∙ ap (unkept own) value ∙ ap (λ (k : List (Option Bid)). unkept k bs) mine;
      small = given.small;
      most = let e = ap length value in let f = ap (λ (data_here : List (List ℕ)). length (unkept own data_here)) value ∙ ap (λ (k : List (Option Bid)). length (unkept k bs)) mine in let most = given.most in omega arith;
      names = let Q : List (List ℕ) → Type 0 = λ data_here. NamesKept content next own c.in_ok-content.content.bid data_here in
          let R : List (Option Bid) → Type 0 = λ k. NamesKept content next k c.in_ok-content.content.bid bs in
          subst R mine (subst Q value given.names);
      reads = let Q : List (List ℕ) → Type 0 = λ data_here. ReadsKept content own c.in_ok-content.content.bid data_here in
          let R : List (Option Bid) → Type 0 = λ k. ReadsKept content k c.in_ok-content.content.bid bs in
          subst R mine (subst Q value given.reads);
      reaches = let Q : List (List ℕ) → Type 0 = λ data_here. Reaches content (kept_bids own data_here) c.in_ok-content.content.bid in
          let R : List (Option Bid) → Type 0 = λ k. Reaches content (kept_bids k bs) c.in_ok-content.content.bid in
          subst R mine (subst Q value given.reaches);
      plans = subst P start c.in_ok-below.ensures.plans;
      at = omega arith;
      high = c.in_ok-below.ensures.high;
    } in
    rw (c.in_ok-push.ensures.items, c.new.ensures.value, c.in_ok-append-2.ensures.items, c.in_ok-append.ensures.items)
    (underway-next c.args.keep.now rest others c.split_at.result.1.now c.in_ok-below.count xs i x x c.loop-sub.rows.items c.args.first next c.in_ok-below.below.next c.loop-sub.blocks.items content below row
    c.loop-sub-test.true c.sub-item.is c.split_first.ensures.others c.in_ok-below.ensures.count c.split_at.ensures.back c.loop-sub.invariant planned)

pub tables-requires-clause-few : goal.tables-requires-clause-few
tables-requires-clause-few t c =
    let xs = c.as_slice-subs.result.now in
    let rs = c.loop-sub.rows.items in
    let test = c.loop-sub-test.false in
    let keep = c.args.keep.now in
    let rest = c.loop-sub.rest.now in
    let under = whole keep rest xs c.loop-sub.sub-index rs c.args.first c.loop-sub.next c.loop-sub.blocks.items test c.loop-sub.invariant in
    let form = along (flattened xs) c.args.s.now c.as_slice-subs.ensures c.requires.form in
    rw c.as_slice-2.ensures.value (few-rows keep rest xs rs c.args.first c.loop-sub.next c.loop-sub.blocks.items form under)

pub returns-clause-count : goal.returns-clause-count
returns-clause-count t c =
    let xs = c.as_slice-subs.result.now in
    let keep = c.args.keep.now in
    let rest = c.loop-sub.rest.now in
    let under = whole keep rest xs c.loop-sub.sub-index c.loop-sub.rows.items c.args.first c.loop-sub.next c.loop-sub.blocks.items c.loop-sub-test.false c.loop-sub.invariant in
    let left = ap length under.rest_is ∙ length-drop (length (flattened xs)) keep in
    let all = ap length c.as_slice-subs.ensures in
    let long = c.requires.long in
    omega (arith, left, all, long)

pub returns-clause-plans : goal.returns-clause-plans
returns-clause-plans t c =
    let xs = c.as_slice-subs.result.now in
    let rs = c.loop-sub.rows.items in
    let lists = c.in_ok-lists.lists.items in
    let test = c.loop-sub-test.false in
    let keep = c.args.keep.now in
    let rest = c.loop-sub.rest.now in
    let under = whole keep rest xs c.loop-sub.sub-index rs c.args.first c.loop-sub.next c.loop-sub.blocks.items test c.loop-sub.invariant in
    let form = along (flattened xs) c.args.s.now c.as_slice-subs.ensures c.requires.form in
    let made : lists ≡ tables c.loop-sub.next rs = c.in_ok-lists.ensures ∙ ap (tables c.loop-sub.next) c.as_slice-2.ensures.value in
    let root : c.last_id-bid.result.bits ≡ last_id lists = c.last_id-bid.ensures ∙ ap last_id c.as_slice-3.ensures.value in
    let P : List Flat → Type 0 = λ flats. Plans keep flats c.args.first c.last_id-bid.result (c.loop-sub.blocks.items ++ lists) in
    rw c.in_ok-append-3.ensures.items
    (subst P c.as_slice-subs.ensures (underway-end keep rest xs rs c.args.first c.loop-sub.next c.last_id-bid.result c.loop-sub.blocks.items lists c.requires.low c.requires.apart form under made root))
