use Rattle.content_glance.proofs.law.told_of_message.Goals as goal

pub returns : goal.returns
returns c = λ nid node m id told shows tells. tells node.subs m.props shows.rest shows.context
