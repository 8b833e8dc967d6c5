use Rattle.std.proofs.Common.{◌∙◌, ap, sym}
use Rattle.mail_draft.specs.Outcomes.{places_after}
use Rattle.mail_store.proofs.FlagLaws.{flags_hold}
use Rattle.mail_store.proofs.store.commit.Goals as goal

pub returns-clause-made : goal.returns-clause-made
returns-clause-made g c = λ T o s p rests told. record {
  shown = c.in_ok-apply_change.ensures.made T o s.shown p.carries rests told;
  knows = record {
    places = p.places_are ∙ ap (λ x. places_after x c.args.planned.places) s.knows.places ∙ sym c.settle_known.ensures.places;
    flags = flags_hold T o c.args.store.now.known.flags c.settle_known.new.known.flags (c.settle_known.ensures.flags o.changed p.flags_are) s.knows.flags;
  };
}

pub returns-clause-applied : goal.returns-clause-applied
returns-clause-applied g c = λ T s rests told. c.in_ok-apply_change.ensures.applied T s.shown rests told
