use Rattle.std.proofs.Common.{◌≡◌, ℕ, length, List, Option, ap, sym, subst, ◌∙◌}
use Rattle.std.specs.List.{All}
use Rattle.pst_base.specs.declared.ids.Bid.{Bid}
use Rattle.pst_base.specs.Flat.{Flat}
use Rattle.data_tree.proofs.PieceLaws.{Each, all_from-each, each-from_all}
use Rattle.subnode_tree.specs.Plan.{paired}
use Rattle.subnode_tree.proofs.PairLaws.{Keep}
use Rattle.content_plan.specs.Keep.{Keeps, kept_list}
use Rattle.content_plan.specs.declared.put.Put.{Put}
use Rattle.content_plan.specs.Put.{PutsNode, PutsOver}
use Rattle.content_plan.specs.Told.{content_of}
use Rattle.content_plan.proofs.KeepLaws.{PairKeeps, keeps-list}
use Rattle.content_plan.proofs.PutLaws.{all-raise, ok-map, own-raise, put-over}
use Rattle.content_plan.proofs.put.put_over.Goals as goal

-- what stays of the node's own data
own_list : (next : ℕ) (keep ids as_ids : List (Option Bid)) (was as_was now as_now : List (List ℕ)) → keep ≡ kept_list next as_ids as_was as_now → as_ids ≡ ids → as_was ≡ was → as_now ≡ now → keep ≡ kept_list next ids was now
own_list next keep ids as_ids was as_was now as_now e a b d = e ∙ ap (λ (l : List (Option Bid)). kept_list next l as_was as_now) a ∙ ap (λ (l : List (List ℕ)). kept_list next ids l as_now) b ∙ ap (kept_list next ids was) d

pub put_keep-requires-clause-keeps : goal.put_keep-requires-clause-keeps
put_keep-requires-clause-keeps c =
    let old = c.args.old.now in
    let now = c.args.node.now.blocks in
    let P : List (Option Bid) → Type 0 = λ k. Keeps c.args.next k now in
    let is = own_list c.args.limit c.as_slice-4.result.now old.ids c.as_slice.result.now old.blocks c.as_slice-2.result.now now c.as_slice-3.result.now (c.as_slice-4.ensures.value ∙ c.in_ok-keep.ensures) c.as_slice.ensures c.as_slice-2.ensures.value c.as_slice-3.ensures.value in
    subst P (sym is) (own-raise c.args.limit c.args.next (kept_list c.args.limit old.ids old.blocks now) now c.requires.limit (keeps-list c.args.limit old.ids old.blocks now))

-- what stays of each subnode may stay
each_keeps : (limit : ℕ) (keep other : Keep) (flats : List Flat) → other ≡ keep → All (λ pair. Keeps limit pair.0 pair.1) (paired keep flats) → Each (PairKeeps limit) (paired other flats)
each_keeps limit keep other flats e all = subst (λ (k : Keep). Each (PairKeeps limit) (paired k flats)) (sym e) (each-from_all (PairKeeps limit) (paired keep flats) all)

pub put_keep-requires-clause-sub_keeps : goal.put_keep-requires-clause-sub_keeps
put_keep-requires-clause-sub_keeps c =
    let keep = c.as_slice-5.result.now in
    let pairs = paired keep c.args.node.now.subs in
    all_from-each (PairKeeps c.args.next) pairs (all-raise c.args.limit c.args.next pairs c.requires.limit (each_keeps c.args.limit c.in_ok-sub_keep.sub_keep.items keep c.args.node.now.subs c.as_slice-5.ensures.value c.in_ok-sub_keep.ensures.keeps))

pub returns-clause-puts : goal.returns-clause-puts
returns-clause-puts c =
    let old = c.args.old.now in
    let node = c.args.node.now in
    let keep = c.as_slice-4.result.now in
    let sub_keep = c.as_slice-5.result.now in
    let is = own_list c.args.limit keep old.ids c.as_slice.result.now old.blocks c.as_slice-2.result.now node.blocks c.as_slice-3.result.now (c.as_slice-4.ensures.value ∙ c.in_ok-keep.ensures) c.as_slice.ensures c.as_slice-2.ensures.value c.as_slice-3.ensures.value in
    let same = ap length c.as_slice-5.ensures.value ∙ c.in_ok-sub_keep.ensures.count in
    let each = each_keeps c.args.limit c.in_ok-sub_keep.sub_keep.items sub_keep node.subs c.as_slice-5.ensures.value c.in_ok-sub_keep.ensures.keeps in
    ok-map (λ (put : Put). PutsNode c.args.next c.args.nid node keep sub_keep put.entry put.blocks.items put.keys.items) (λ (put : Put). PutsOver c.args.limit c.args.next c.args.nid node (content_of old) put.entry put.blocks.items put.keys.items)
    (λ put p. put-over c.args.limit c.args.next c.args.nid node (content_of old) keep sub_keep put.entry put.blocks.items put.keys.items is same each (λ up. c.as_slice-5.ensures.value ∙ c.in_ok-sub_keep.ensures.kept up) p) c.put_keep.result c.put_keep.ensures.puts
