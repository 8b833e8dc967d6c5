use Rattle.std.proofs.Common.{◌∙◌}
use Rattle.pinned_views.proofs.Stopping.{stops_beside}
use Rattle.pinned_views.proofs.reader.PinReaderNodeReader.get.Goals as goal

pub returns-clause-stops : goal.returns-clause-stops
returns-clause-stops g c = stops_beside _ _ _ _ _ (λ N h. (h.some, (h.has, N, h.tells))) c.get_at.result c.get_at.ensures.stops

pub returns-clause-stays : goal.returns-clause-stays
returns-clause-stays g c = λ N h. record {
  tells = c.get_at.ensures.pinned h.some h.has c.args.self.now.pin N h.tells;
  some = h.some;
  has = c.get_at.ensures.stays h.some h.has N h.tells;
  stays = λ M held. c.get_at.ensures.stays M (h.stays M held) N h.tells;
  keeps = λ p M told. c.get_at.ensures.pinned h.some h.has p M (h.keeps p M told);
  counted = c.get_at.ensures.last ∙ h.counted;
}
