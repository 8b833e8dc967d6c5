use Rattle.std.proofs.Common.{◌≡◌, ◌<◌, ◌≤◌, ◌+◌, ◌*◌, ◌^◌, ◌++◌, ℕ, List, length, ◌∙◌, ap, sym, subst, arith, rules}
use Rattle.pst_base.specs.declared.ids.Bid.{Bid}
use Rattle.data_tree.specs.Plan.{AreSmall, Rise, bytes_in, contents, fresh, last_id, placed, plain, unkept}
use Rattle.data_tree.proofs.KeepLaws.{above-at, contents-placed, kept-keys, kept-marks, kept-most, kept-names, kept-reads, kept-rise, kept-small, length-placed}
use Rattle.data_tree.proofs.plan.plan_data_keep.Goals as goal

pub above-requires-clause-few : goal.above-requires-clause-few
above-requires-clause-few c =
    let len = length-placed c.args.next c.args.keep.now c.args.blocks.now in
    let all = ap (λ (l : List (Bid × List ℕ)). length l) (c.as_slice.ensures.value ∙ c.in_ok-all.ensures) in
    let few = c.requires.content.few in
    omega (arith, len, all, few)

pub above-requires-clause-together : goal.above-requires-clause-together
above-requires-clause-together c =
    subst (λ (n : ℕ). n < 2 ^ 32)
    (sym (ap (λ (l : List (Bid × List ℕ)). bytes_in (contents l)) (c.as_slice.ensures.value ∙ c.in_ok-all.ensures) ∙ ap bytes_in (contents-placed c.args.next c.args.keep.now c.args.blocks.now)))
    c.requires.content.together

pub returns-clause-laid : goal.returns-clause-laid
returns-clause-laid c =
    let number : c.len.result ≡ length c.in_ok-out.out.items = search rules in
    let tops = c.in_ok-tops.ensures ∙ above-at c.args.next _ c.args.keep.now c.args.blocks.now c.as_slice.result.now c.in_ok-out.out.items (ap (λ (n : ℕ). c.args.next + 4 * n) number) c.in_ok-out.ensures (c.as_slice.ensures.value ∙ c.in_ok-all.ensures) in
    c.in_ok-append.ensures.items ∙ ap (λ (l : List (Bid × List ℕ)). l ++ c.in_ok-tops.tops.items) c.in_ok-out.ensures ∙ ap (λ (l : List (Bid × List ℕ)). fresh c.args.next c.args.keep.now c.args.blocks.now ++ l) tops

pub returns-clause-root : goal.returns-clause-root
returns-clause-root c =
    let number : c.len.result ≡ length c.in_ok-out.out.items = search rules in
    let tops = c.in_ok-tops.ensures ∙ above-at c.args.next _ c.args.keep.now c.args.blocks.now c.as_slice.result.now c.in_ok-out.out.items (ap (λ (n : ℕ). c.args.next + 4 * n) number) c.in_ok-out.ensures (c.as_slice.ensures.value ∙ c.in_ok-all.ensures) in
    c.root-bid.ensures ∙ ap (λ (l : List (Bid × List ℕ)). last_id (l ++ c.as_slice-3.result.now)) (c.as_slice-2.ensures.value ∙ c.in_ok-all.ensures)
    ∙ ap (λ (l : List (Bid × List ℕ)). last_id (placed c.args.next c.args.keep.now c.args.blocks.now ++ l)) (c.as_slice-3.ensures.value ∙ tops)

pub returns-clause-most : goal.returns-clause-most
returns-clause-most c =
    subst (λ (l : List (Bid × List ℕ)). 2 * length l ≤ 2 * length (unkept c.args.keep.now c.args.blocks.now) + length c.args.blocks.now) (sym (returns-clause-laid c)) (kept-most c.args.next c.args.keep.now c.args.blocks.now)

pub returns-clause-small : goal.returns-clause-small
returns-clause-small c = subst (λ (l : List (Bid × List ℕ)). AreSmall l) (sym (returns-clause-laid c)) (kept-small c.args.next c.args.keep.now c.args.blocks.now c.requires.content)

pub returns-clause-numbered : goal.returns-clause-numbered
returns-clause-numbered c = subst (λ (l : List (Bid × List ℕ)). Rise c.args.next l) (sym (returns-clause-laid c)) (kept-rise c.args.next c.args.keep.now c.args.blocks.now)

pub returns-clause-marked : goal.returns-clause-marked
returns-clause-marked c = ap plain (returns-clause-laid c) ∙ kept-marks c.args.next c.args.keep.now c.args.blocks.now c.requires.apart

pub returns-clause-names : goal.returns-clause-names
returns-clause-names c = kept-names c.args.next c.args.keep.now c.args.blocks.now c.append.new.self.items c.root-bid.result
    (record { few = c.requires.content.few; low = c.requires.low; high = c.requires.high; apart = c.requires.apart; may = c.requires.may; laid = returns-clause-laid c; root = returns-clause-root c })

pub returns-clause-reads : goal.returns-clause-reads
returns-clause-reads c = kept-reads c.args.next c.args.keep.now c.args.blocks.now c.append.new.self.items c.root-bid.result
    (record { few = c.requires.content.few; low = c.requires.low; high = c.requires.high; apart = c.requires.apart; may = c.requires.may; laid = returns-clause-laid c; root = returns-clause-root c })

pub returns-clause-reaches : goal.returns-clause-reaches
returns-clause-reaches c = kept-keys c.args.next c.args.keep.now c.args.blocks.now c.append.new.self.items c.root-bid.result
    (record { few = c.requires.content.few; low = c.requires.low; high = c.requires.high; apart = c.requires.apart; may = c.requires.may; laid = returns-clause-laid c; root = returns-clause-root c })
