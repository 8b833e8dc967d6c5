use Rattle.std.proofs.Common.{ap, ◌∙◌, ◌+◌, ℕ, List, take, get_or, arith, sym, cond, eqb}
use Rattle.std.proofs.lemmas.List.{take_all, length-take-le}
use Rattle.data_tree.specs.Keys.{count_of}
use Rattle.ref_counts.proofs.CountLaws.{count-few, count-more, count-permuted}
use Rattle.ref_counts.proofs.entries.tallied.Goals as goal

pub add_one-requires-clause-small : goal.add_one-requires-clause-small
add_one-requires-clause-small c =
    let xs = c.deref-key-items.result.now in
    let i = c.loop-key.key-index in
    let x = get_or xs i 0 in
    let is = c.loop-key.invariant.1 x in
    let few = count-few x (take i xs) in
    let len = length-take-le i xs (omega arith) in
    omega (arith, is, few, len)

pub loop-key-preserved : goal.loop-key-preserved
loop-key-preserved c =
    let xs = c.deref-key-items.result.now in
    let i = c.loop-key.key-index in (
      c.in_ok-add_one.ensures.ascend,
      λ key.
          let number = c.in_ok-add_one.ensures.number key in
          let is = c.loop-key.invariant.1 key in
          number ∙ ap (λ (n : ℕ). cond (eqb (get_or xs i 0) key) 1 0 + n) is ∙ sym (count-more key xs i (omega arith)),
    )

pub returns-clause-numbers : goal.returns-clause-numbers
returns-clause-numbers c = λ key.
    let xs = c.deref-key-items.result.now in
    let i = c.loop-key.key-index in
    c.loop-key.invariant.1 key ∙ ap (λ (ks : List ℕ). count_of key ks) (take_all i xs (omega arith)) ∙ ap (λ (ks : List ℕ). count_of key ks) c.deref-key-items.ensures.value
    ∙ count-permuted key c.args.keys.items c.sort_unstable.new.self.items c.sort_unstable.ensures.permutation
