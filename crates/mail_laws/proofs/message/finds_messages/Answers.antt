use Rattle.mail_laws.proofs.FoundMessages.{found_there, none_there, only_there, refused_there}
use Rattle.mail_laws.proofs.message.finds_messages.Goals as goal

pub returns : goal.returns
returns c = record {
  finds = λ T m M w. (only_there T m M w, found_there T m M w);
  refuses = λ T m w. (none_there T m w, refused_there T m w);
}
