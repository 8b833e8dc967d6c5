use Rattle.std.proofs.Common.{◌++◌, ℕ, length, List, ap, subst, ◌∙◌, arith}
use Rattle.pst_base.specs.declared.ids.Bid.{Bid}
use Rattle.data_tree.specs.Keys.{keys_of}
use Rattle.data_tree.specs.Plan.{MayKeep, NamesKept, Reaches, ReadsKept, above_kept, bids_in, fresh, kept_bids, unkept}
use Rattle.data_tree.proofs.PieceLaws.{all_from-each, each-from_all}
use Rattle.node_layout.specs.Joined.{kept_keys}
use Rattle.subnode_tree.specs.Plan.{paired}
use Rattle.subnode_tree.proofs.PairLaws.{all-may}
use Rattle.content_plan.specs.Keep.{all_kept_keys}
use Rattle.content_plan.proofs.FitLaws.{subs-may}
use Rattle.content_plan.proofs.KeepLaws.{PairKeeps}
use Rattle.content_plan.proofs.PutLaws.{Parts, parts-put}
use Rattle.content_plan.proofs.put.put_keep.Goals as goal

pub plan_subs_keep-requires-clause-may : goal.plan_subs_keep-requires-clause-may
plan_subs_keep-requires-clause-may c =
    let keep = c.args.sub_keep.now in
    let flats = c.args.node.now.subs in
    let same = c.in_ok-after.ensures.same in
    let after = c.in_ok-content.ensures.after in
    let pairs = each-from_all (PairKeeps c.args.next) (paired keep flats) c.requires.sub_keeps in
    all_from-each (MayKeep c.in_ok-after.after) keep (all-may c.args.next c.in_ok-after.after keep (omega (arith, same, after)) (subs-may c.args.next keep flats c.requires.long pairs))

pub returns-clause-puts : goal.returns-clause-puts
returns-clause-puts c =
    let next = c.args.next in
    let node = c.args.node.now in
    let keep = c.args.keep.now in
    let front = c.in_ok-content.content.blocks.items in
    let bid = c.in_ok-content.content.bid in
    let given = c.in_ok-content.ensures in
    let subs = c.in_ok-subs.ensures in
    let value = c.as_slice.ensures.value in
    let same = c.in_ok-after.ensures.same in
    let after = given.after in
    let parts : Parts next c.in_ok-after.after node keep c.args.sub_keep.now bid c.in_ok-subs.subs.bid front c.in_ok-subs.subs.blocks.items = record {
      apart = c.requires.apart;
      behind = omega (arith, same, after);
      keeps = c.requires.keeps;
      sub_keeps = each-from_all (PairKeeps next) (paired c.args.sub_keep.now node.subs) c.requires.sub_keeps;
      long = c.requires.long;
      laid = given.laid ∙ ap (λ (bs : List (List ℕ)). fresh next keep bs ++ above_kept next keep bs) value;
      most = let m = given.most in let e = ap length value in let f = ap (λ (bs : List (List ℕ)). length (unkept keep bs)) value in omega (arith, m, e, f);
      small = given.small;
      rise = given.numbered;
      reads = let P : List (List ℕ) → Type 0 = λ bs. ReadsKept front keep bid bs in subst P value given.reads;
      reaches = let P : List (List ℕ) → Type 0 = λ bs. Reaches front (kept_bids keep bs) bid in subst P value given.reaches;
      names = let P : List (List ℕ) → Type 0 = λ bs. NamesKept front next keep bid bs in subst P value given.names;
      sub_most = subs.most;
      sub_small = subs.small;
      sub_room = subs.room;
      sub_rise = subs.numbered;
      sub_among = subs.laid;
      sub_ids = subs.ids;
      sub_reads = subs.reads;
      sub_reaches = subs.reaches;
    } in
    parts-put next c.in_ok-after.after c.args.nid node keep c.args.sub_keep.now bid c.in_ok-subs.subs.bid front c.in_ok-subs.subs.blocks.items c.append.new.self.items c.in_ok-keys.keys.items parts c.in_ok-append.ensures.items
    (c.in_ok-keys.ensures ∙ ap (λ (l : List (Bid × List ℕ)). (kept_keys keep ++ all_kept_keys c.args.sub_keep.now) ++ keys_of (bids_in l)) c.as_slice-2.ensures.value)
