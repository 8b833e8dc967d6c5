use Rattle.std.proofs.Common.{ℕ, List, ◌++◌, ◌+◌, ◌-◌, ap, sym, ◌∙◌, arith}
use Rattle.mail_tree.proofs.PathLaws.{beyond, beyond_next, beyond_none, beyond_zero, path_begins, path_ends}
use Rattle.mail_tree.proofs.places.Places.path.Goals as goal

pub loop-turn-init : goal.loop-turn-init
loop-turn-init c = record {
  few = omega (arith, c.in_ok-push.ensures.len, c.new-ids.ensures.len);
  so_far = path_begins c.args.self.now c.args.folder.bits _ _ c.new-ids.ensures.items c.in_ok-push.ensures.items;
}

pub returns-in_default-clause-path : goal.returns-in_default-clause-path
returns-in_default-clause-path c =
    path_ends _ _ _ c.loop-turn.invariant.so_far (beyond_none (64 - c.loop-turn._turn) c.args.self.now c.loop-turn.at.bits (sym c.in_default.ensures))

pub returns-in_default-clause-short : goal.returns-in_default-clause-short
returns-in_default-clause-short c = omega (arith, c.loop-turn.invariant.few, c.loop-turn-test.true)

pub loop-turn-preserved : goal.loop-turn-preserved
loop-turn-preserved c =
    let rest = λ (ids : List ℕ). ids ++ beyond (64 - (c.loop-turn._turn + 1)) c.args.self.now c.in-Some.parent.bits in
    record {
      few = omega (arith, c.loop-turn.invariant.few, c.in_ok-push-2.ensures.len);
      so_far = ap rest c.in_ok-push-2.ensures.items
          ∙ beyond_next (64 - c.loop-turn._turn) (64 - (c.loop-turn._turn + 1)) c.args.self.now c.loop-turn.at.bits c.in-Some.parent.bits c.loop-turn.ids.items
          (omega (arith, c.loop-turn-test.true)) (sym c.in-Some.ensures)
          ∙ c.loop-turn.invariant.so_far;
    }

pub returns-clause-path : goal.returns-clause-path
returns-clause-path c =
    path_ends _ _ _ c.loop-turn.invariant.so_far (beyond_zero (64 - c.loop-turn._turn) c.args.self.now c.loop-turn.at.bits (omega (arith, c.loop-turn-test.false)))

pub returns-clause-short : goal.returns-clause-short
returns-clause-short c = omega (arith, c.loop-turn.invariant.few, c.loop-turn.auto._turn-end)
