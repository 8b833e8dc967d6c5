use Rattle.std.proofs.Common.{◌∙◌}
use Rattle.pinned_views.proofs.Stopping.{stops_beside}
use Rattle.pinned_views.proofs.reader.PinReaderNodeReader.next_after.Goals as goal

pub returns-clause-stops : goal.returns-clause-stops
returns-clause-stops g c = stops_beside _ _ _ _ _ (λ N h. (h.some, (h.has, N, h.tells))) c.next_at.result c.next_at.ensures.stops

pub returns-clause-stays : goal.returns-clause-stays
returns-clause-stays g c = λ N h. record {
  tells = c.next_at.ensures.pinned h.some h.has c.args.self.now.pin N h.tells;
  some = h.some;
  has = c.next_at.ensures.stays h.some h.has N h.tells;
  stays = λ M held. c.next_at.ensures.stays M (h.stays M held) N h.tells;
  keeps = λ p M told. c.next_at.ensures.pinned h.some h.has p M (h.keeps p M told);
  counted = c.next_at.ensures.last ∙ h.counted;
}
