use Rattle.std.proofs.Common.{◌≡◌, true}
use Rattle.mail_laws.proofs.FoundCommands.{stays_beside, stays_found}
use Rattle.mail_laws.proofs.FoundStart.{starts_found}
use Rattle.mail_laws.proofs.law.stays_found.Goals as goal

pub returns : goal.returns
returns c = record { starts = starts_found; stays = stays_found; beside = λ is_beside. stays_beside (λ q. is_beside q ≡ true) }
