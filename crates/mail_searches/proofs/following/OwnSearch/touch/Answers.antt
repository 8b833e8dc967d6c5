use Rattle.std.proofs.Common.{◌≡◌, option_copied, rules}
use Rattle.live_search.specs.Touching.{delta, is_met}
use Rattle.mail_searches.specs.Asking.{places_around}
use Rattle.mail_searches.proofs.AskLaws.{told_by}
use Rattle.mail_searches.proofs.following.OwnSearch.touch.Goals as goal

pub returns-clause-delta : goal.returns-clause-delta
returns-clause-delta g c =
    let e : c.touch.result ≡ delta (is_met c.args.self.now.restriction (option_copied c.looked_at-was.result)) (is_met c.args.self.now.restriction (option_copied c.looked_at-is.result)) = search rules in
    told_by (places_around c.args.before.now c.args.after.now) c.args.self.now (option_copied c.args.old) (option_copied c.args.new) _ _ c.touch.result e c.looked_at-was.ensures c.looked_at-is.ensures
