-- What is in order is sound.
use Rattle.std.proofs.lemmas.Bool.{false≢true}
use Rattle.search_laws.specs.Laws.{IsSoundInOrder}

pub in_order_is_sound : IsSoundInOrder
in_order_is_sound tidy X h = record {
  whole = h.whole;
  found = h.found;
  mirrors = λ t. absurd (false≢true t);
  counts = λ t. absurd (false≢true t);
  attachments = λ t. absurd (false≢true t);
  lists = λ t. absurd (false≢true t);
  searches = h.searches;
  fresh = h.fresh;
  marked = h.marked;
}
