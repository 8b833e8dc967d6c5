use Rattle.mail_store.proofs.StoreLaws.{on_ok}
use Rattle.search_store.proofs.store.save.Goals as goal

pub returns-clause-same : goal.returns-clause-same
returns-clause-same g c = on_ok c.save.result c.save.ensures.same (λ same X s rests disk. record { tree = same X.tree s.tree rests disk; searches = record { own = s.searches.own; searches = s.searches.searches } })

pub returns-clause-saved : goal.returns-clause-saved
returns-clause-saved g c = on_ok c.save.result c.save.ensures.saved (λ saved X s rests told. saved X.tree s.tree rests told)

pub returns-clause-any_moment : goal.returns-clause-any_moment
returns-clause-any_moment g c = λ X s settled rests. c.save.ensures.any_moment X.tree s.tree settled rests
