use Rattle.std.proofs.Common.{◌∙◌, ap, sym}
use Rattle.command_text.specs.declared.reply.LastLine.TheVariants.{Named}
use Rattle.mail_tree.specs.Changing.{Changed}
use Rattle.mail_tree.specs.Folders.{unchanged}
use Rattle.mail_draft.proofs.FitLaws.{nothing-fits}
use Rattle.mail_draft.proofs.DeskCalls.{unchanged_comes}
use Rattle.mail_draft.specs.Desks.{coming_of}
use Rattle.mail_names.proofs.Names.{found_says, reply_is}
use Rattle.mail_names.proofs.adding.found_or_added.Goals as goal

pub returns-in-Some-clause-answer : goal.returns-in-Some-clause-answer
returns-in-Some-clause-answer g c = record {
  says = λ T s.
      let reply = c.without_data-reply in let coming = c.replied.ensures in
      found_says (coming_of T _) T c.args.context c.args.names c.args.guid c.args.number _ c.in-Some.property c.replied.result (sym c.find.ensures ∙ c.in-Some.is)
      (unchanged_comes T _ c.replied.result c.requires.fresh coming.places coming.last ∙ ap (unchanged T) (coming.reply ∙ reply_is reply.result (Named c.in-Some.property) reply.ensures.lines reply.ensures.last));
  fits = nothing-fits _ (ap (λ (D : Changed). D.objects) c.requires.fresh);
}
