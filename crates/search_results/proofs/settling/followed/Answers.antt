use Rattle.std.proofs.Common.{◌≡◌, map}
use Rattle.std.specs.List.{list_any}
use Rattle.mail_searches.specs.Relisting.{Around}
use Rattle.search_results.specs.Following.{changes_at, delta_at}
use Rattle.search_results.specs.declared.following.Followed.{Followed}
use Rattle.search_results.proofs.FollowLaws.{more_by}
use Rattle.search_results.proofs.RelistLaws.{known_around, known_of}
use Rattle.search_results.proofs.settling.followed.Goals as goal

pub returns-clause-deltas : goal.returns-clause-deltas
returns-clause-deltas g c =
    known_of (g.D.Desk.view c.args.desk.now) (λ (f : Followed) (d : Around). f.deltas.items ≡ map (delta_at d c.args.search.now) c.args.touches.now) c.args.new.now c.follow.result c.places-before.ensures c.places_after-after.ensures c.follow.ensures.deltas

pub returns-clause-concerns : goal.returns-clause-concerns
returns-clause-concerns g c =
    known_of (g.D.Desk.view c.args.desk.now) (λ (f : Followed) (d : Around). f.concerns ≡ list_any (changes_at d c.args.search.now) c.args.touches.now) c.args.new.now c.follow.result c.places-before.ensures c.places_after-after.ensures c.follow.ensures.concerns

pub returns-clause-most : goal.returns-clause-most
returns-clause-most g c = λ T s. more_by c.args.search.now c.args.touches.now _ _ (known_around T c.args.new.now (c.places-before.ensures T s) c.places_after-after.ensures) c.follow.ensures.most
