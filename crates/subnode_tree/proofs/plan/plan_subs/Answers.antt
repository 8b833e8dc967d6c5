use Rattle.std.proofs.Common.{◌≡◌, ℕ, List, length, sym, ap, subst, ◌∙◌, arith}
use Rattle.std.specs.List.{All}
use Rattle.pst_base.specs.declared.ids.Bid.{Bid}
use Rattle.pst_base.specs.Flat.{Flat}
use Rattle.data_tree.specs.Plan.{MayKeep}
use Rattle.data_tree.proofs.PieceLaws.{all_from-each}
use Rattle.subnode_tree.specs.Plan.{ArePlaced, Plans, SubsReach, nothing}
use Rattle.subnode_tree.proofs.PairLaws.{Keep, Pair, kept-nothing, length-nothing, may-nothing, nothing-paired, unkept-nothing}
use Rattle.subnode_tree.proofs.SubPlanLaws.{PairAmong, plans-among, plans-name, plans-reach, plans-read}
use Rattle.subnode_tree.proofs.plan.plan_subs.Goals as goal

pub plan_from-requires-clause-long : goal.plan_from-requires-clause-long
plan_from-requires-clause-long c =
    let same = ap length (c.as_slice.ensures.value ∙ c.in_ok-keep.ensures) in
    let all = length-nothing (length c.args.s.now) in
    omega (arith, same, all)

pub plan_from-requires-clause-may : goal.plan_from-requires-clause-may
plan_from-requires-clause-may c =
    let P : Keep → Type 0 = λ keep. All (MayKeep c.args.next) keep in
    subst P (sym (c.as_slice.ensures.value ∙ c.in_ok-keep.ensures)) (all_from-each (MayKeep c.args.next) (nothing (length c.args.s.now)) (may-nothing c.args.next (length c.args.s.now)))

along : (a b : Keep) (flats : List Flat) (next : ℕ) (bid : Bid) (blocks : List (Bid × List ℕ)) → a ≡ b → Plans a flats next bid blocks → Plans b flats next bid blocks
along a b flats next bid blocks e plans = let P : Keep → Type 0 = λ keep. Plans keep flats next bid blocks in subst P e plans

pub returns-clause-most : goal.returns-clause-most
returns-clause-most c =
    let n = length c.args.s.now in
    let plans = along c.as_slice.result.now (nothing n) c.args.s.now c.args.next c.in_ok-plan.plan.bid c.in_ok-plan.plan.blocks.items (c.as_slice.ensures.value ∙ c.in_ok-keep.ensures) c.in_ok-plan.ensures.plans in
    let most = plans.most in
    let same = ap length (unkept-nothing n c.args.s.now) in
    omega (arith, most, same)

pub returns-clause-marked : goal.returns-clause-marked
returns-clause-marked c =
    let n = length c.args.s.now in
    let plans = along c.as_slice.result.now (nothing n) c.args.s.now c.args.next c.in_ok-plan.plan.bid c.in_ok-plan.plan.blocks.items (c.as_slice.ensures.value ∙ c.in_ok-keep.ensures) c.in_ok-plan.ensures.plans in
    plans.marks ∙ unkept-nothing n c.args.s.now

pub returns-clause-laid : goal.returns-clause-laid
returns-clause-laid c =
    let n = length c.args.s.now in
    let plans = along c.as_slice.result.now (nothing n) c.args.s.now c.args.next c.in_ok-plan.plan.bid c.in_ok-plan.plan.blocks.items (c.as_slice.ensures.value ∙ c.in_ok-keep.ensures) c.in_ok-plan.ensures.plans in
    let P : List Pair → Type 0 = λ pairs. All (PairAmong c.args.next c.in_ok-plan.plan.blocks.items) pairs in
    subst P (nothing-paired n c.args.s.now) (plans-among (nothing n) c.args.s.now c.args.next c.in_ok-plan.plan.bid c.in_ok-plan.plan.blocks.items plans)

pub returns-clause-ids : goal.returns-clause-ids
returns-clause-ids c =
    let n = length c.args.s.now in
    let blocks = c.in_ok-plan.plan.blocks.items in
    let plans = along c.as_slice.result.now (nothing n) c.args.s.now c.args.next c.in_ok-plan.plan.bid blocks (c.as_slice.ensures.value ∙ c.in_ok-keep.ensures) c.in_ok-plan.ensures.plans in
    let names = plans-name (nothing n) c.args.s.now c.args.next c.in_ok-plan.plan.bid blocks c.requires.form plans in
    record {
      ids = names.ids;
      placed = let P : List Pair → Type 0 = λ pairs. ArePlaced c.args.next blocks pairs names.ids in subst P (nothing-paired n c.args.s.now) names.placed;
      named = names.named;
    }

pub returns-clause-reads : goal.returns-clause-reads
returns-clause-reads c =
    let n = length c.args.s.now in
    let plans = along c.as_slice.result.now (nothing n) c.args.s.now c.args.next c.in_ok-plan.plan.bid c.in_ok-plan.plan.blocks.items (c.as_slice.ensures.value ∙ c.in_ok-keep.ensures) c.in_ok-plan.ensures.plans in
    plans-read n c.args.s.now c.args.next c.in_ok-plan.plan.bid c.in_ok-plan.plan.blocks.items c.requires.form plans

pub returns-clause-reaches : goal.returns-clause-reaches
returns-clause-reaches c =
    let n = length c.args.s.now in
    let plans = along c.as_slice.result.now (nothing n) c.args.s.now c.args.next c.in_ok-plan.plan.bid c.in_ok-plan.plan.blocks.items (c.as_slice.ensures.value ∙ c.in_ok-keep.ensures) c.in_ok-plan.ensures.plans in
    let P : List Bid → Type 0 = λ kept. SubsReach c.in_ok-plan.plan.blocks.items kept c.in_ok-plan.plan.bid in
    subst P (kept-nothing n c.args.s.now) (plans-reach (nothing n) c.args.s.now c.args.next c.in_ok-plan.plan.bid c.in_ok-plan.plan.blocks.items c.requires.form plans)
