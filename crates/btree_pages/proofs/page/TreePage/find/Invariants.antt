use Rattle.std.proofs.Common.{◌-◌}
use Rattle.btree_pages.specs.Pages.{pieces, keys}
use Rattle.btree_pages.proofs.PageLaws.{Between}
use Rattle.btree_pages.proofs.page.TreePage.find.Given as goal

abbrev pub invariant-loop-low : goal.invariant-loop-low
invariant-loop-low g l = Between (keys g.E.Entry.rule (pieces l.self-inside.size l.self-inside.count l.self-inside.body.now)) l.key l.low l.high

abbrev pub decreases-loop-low : goal.decreases-loop-low
decreases-loop-low g l = l.high - l.low
