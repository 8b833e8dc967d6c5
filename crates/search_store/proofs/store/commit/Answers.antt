use Rattle.std.proofs.Common.{◌∙◌, ap, sym}
use Rattle.search_folders.specs.Comings.{new_or_old}
use Rattle.search_store.proofs.store.commit.Goals as goal

pub returns-clause-made : goal.returns-clause-made
returns-clause-made g c = λ X o s p own searches rests told. record {
  tree = c.in_ok-reply.ensures.made X.tree o.outcome s.tree p rests told;
  searches = record {
    own = own ∙ ap (λ x. new_or_old x c.args.planned.own) s.searches.own ∙ sym c.settle_searches.ensures.own;
    searches = searches ∙ ap (λ x. new_or_old x c.args.planned.searches) s.searches.searches ∙ sym c.settle_searches.ensures.searches;
  };
}

pub returns-clause-applied : goal.returns-clause-applied
returns-clause-applied g c = λ X s rests told. c.in_ok-reply.ensures.applied X.tree s.tree rests told
