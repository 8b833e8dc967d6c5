use Rattle.std.proofs.Common.{◌+◌, ◌*◌}
use Rattle.restr_codec.specs.Reading.{part}
use Rattle.restr_codec.proofs.SeveralLaws.{SoFar}
use Rattle.restr_codec.proofs.reading.+read.Given as goal

abbrev pub decreases-read_restriction : goal.decreases-read_restriction
decreases-read_restriction l = 5 * l.room.deep

abbrev pub decreases-read_several : goal.decreases-read_several
decreases-read_several l = 5 * l.room.deep + 1

abbrev pub decreases-read_not : goal.decreases-read_not
decreases-read_not l = 5 * l.room.deep + 1

abbrev pub decreases-read_sub_object : goal.decreases-read_sub_object
decreases-read_sub_object l = 5 * l.room.deep + 1

abbrev pub decreases-read_commented : goal.decreases-read_commented
decreases-read_commented l = 5 * l.room.deep + 1

abbrev pub decreases-read_comment : goal.decreases-read_comment
decreases-read_comment l = 5 * l.room.deep + 2

abbrev pub decreases-read_group : goal.decreases-read_group
decreases-read_group l = 5 * l.room.deep + 2

abbrev pub decreases-read_by_code : goal.decreases-read_by_code
decreases-read_by_code l = 5 * l.room.deep + 3

abbrev pub invariant-read_several-loop-turn : goal.invariant-read_several-loop-turn
invariant-read_several-loop-turn l = SoFar (part l.room.deep l.room.inner) l.count l.room.left l.bytes l._turn l.inner.items l.left l.rest
