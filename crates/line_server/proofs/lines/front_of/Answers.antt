use Rattle.std.proofs.Common.{arith}
use Rattle.line_server.proofs.Feeds.{no_feed_on, no_feed, feed_at, length-behind}
use Rattle.line_server.proofs.lines.front_of.Goals as goal

pub returns-in-Some : goal.returns-in-Some
returns-in-Some c =
    let n = c.args.scanned in
    let at = c.in-Some.at in
    let bytes = c.args.held.now in (
      omega (arith, length-behind n bytes, c.in-Some.ensures.0.high),
      feed_at n at bytes c.in-Some.ensures.1,
      no_feed_on n at bytes c.requires.clean c.in-Some.ensures.0.before,
    )

pub returns-in-None : goal.returns-in-None
returns-in-None c = (omega arith, no_feed c.args.scanned c.args.held.now c.requires.within c.requires.clean c.in-None.ensures)

pub returns-in-None-2 : goal.returns-in-None-2
returns-in-None-2 c = (omega arith, no_feed c.args.scanned c.args.held.now c.requires.within c.requires.clean c.in-None-2.ensures)
