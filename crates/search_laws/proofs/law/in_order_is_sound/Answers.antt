use Rattle.search_laws.proofs.Sound.{in_order_is_sound}
use Rattle.search_laws.proofs.law.in_order_is_sound.Goals as goal

pub returns : goal.returns
returns c = in_order_is_sound
