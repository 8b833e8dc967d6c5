use Rattle.std.proofs.Common.{◌≡◌, ◌++◌, ◌+◌, ◌*◌, drop}
use Rattle.restr_codec.specs.Forms.{restrs}
use Rattle.restr_codec.specs.Restr.{count, count_all}
use Rattle.restr_codec.specs.Spelling.{spelling_of_all}
use Rattle.restr_codec.proofs.writing.+write.Given as goal

abbrev pub decreases-push_restriction : goal.decreases-push_restriction
decreases-push_restriction l = 3 * count l.restriction.now

abbrev pub decreases-push_group : goal.decreases-push_group
decreases-push_group l = 3 * count_all (restrs l.inner.now.items) + 2

abbrev pub decreases-push_all : goal.decreases-push_all
decreases-push_all l = 3 * count_all (restrs l.inner.now.items) + 1

abbrev pub invariant-push_all-loop-one : goal.invariant-push_all-loop-one
invariant-push_all-loop-one l =
    l.out.items ++ spelling_of_all (restrs (drop l.one-index l.one-items)) ≡ l.initial.out.items ++ spelling_of_all (restrs l.inner.items)
